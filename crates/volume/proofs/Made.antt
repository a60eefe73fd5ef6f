-- What make answers, by its tests.
use Rattle.std.proofs.Common.{◌≡◌, ℕ, ◌-◌, true, false, eqb, leb, List, length, sym, ap, ◌∙◌}
use Rattle.fault.specs.declared.refusal.Refusal.TheVariants.{BufferSize, MakeSizes}
use Rattle.fault.specs.declared.fault.Fault.{Fault}
use Rattle.fault.specs.Refusals.{beyond, keeper}
use Rattle.disk.specs.Medium.{Medium, Write, ran}
use Rattle.disk.proofs.Writes.{length_ran, ran_none}
use Rattle.format.specs.Layout.{block_bytes}
use Rattle.format.specs.Sizes.{lawful_sizes}
use Rattle.rules.specs.Calls.{Answer, done, refused}
use Rattle.rules.specs.Make.{make_answer, make_by, make_buffer, make_writes, new_list}

pub unlawful : (i f b n : ℕ) → lawful_sizes i f ≡ false → make_answer i f b n ≡ refused (keeper MakeSizes)
unlawful i f b n p = rw p

pub too_large : (i f b n : ℕ) → lawful_sizes i f ≡ true → leb f n ≡ false → make_answer i f b n ≡ refused (beyond (f - 1))
too_large i f b n p q = rw (p, q)

pub bad_buffer : (i f b n : ℕ) → lawful_sizes i f ≡ true → leb f n ≡ true → eqb b block_bytes ≡ false → make_answer i f b n ≡ refused (keeper BufferSize)
bad_buffer i f b n p q r = rw (p, q, r)

pub accepted_make : (i f b n : ℕ) → lawful_sizes i f ≡ true → leb f n ≡ true → eqb b block_bytes ≡ true → make_answer i f b n ≡ done
accepted_make i f b n p q r = rw (p, q, r)

-- writes keep the number of sectors
pub same_length : (W : List Write) (m m₁ : Medium) → m₁ ≡ ran W m → length m₁.sectors ≡ length m.sectors
same_length W m m₁ e = ap (λ (x : Medium). length x.sectors) e ∙ length_ran W m

-- a refused make writes nothing and leaves the buffer
pub refused_writes : (i f : ℕ) (a : Answer) (e : Fault) (m : Medium) → a ≡ refused e → m ≡ ran (make_by i f a) m
refused_writes i f a e m p = rw p (sym (ran_none m))

pub refused_buffer : (i f : ℕ) (a : Answer) (e : Fault) (old : List ℕ) → a ≡ refused e → old ≡ make_buffer i f a old
refused_buffer i f a e old p = rw p

pub done_writes : (i f : ℕ) (a : Answer) (m end : Medium) → a ≡ done → end ≡ ran (make_writes i f) m → end ≡ ran (make_by i f a) m
done_writes i f a m end p q = rw p q

pub done_buffer : (i f : ℕ) (a : Answer) (old new : List ℕ) → a ≡ done → new ≡ (new_list i f).1 → new ≡ make_buffer i f a old
done_buffer i f a old new p q = rw p q
