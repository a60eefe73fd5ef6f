use Rattle.std.proofs.Common.{◌≡◌, ℕ, zero, suc, List, replicate, refl}
use Rattle.freelist.specs.Bytes.{zeros}
use Rattle.rules.specs.Make.{list_block}
use Rattle.volume.proofs.make.list_block.Goals as goal

later : (isize n : ℕ) → (n ≡ 0 → ⊥) → ◌≡◌ {A = List ℕ} (replicate 512 0) (list_block isize n)
unfolding zeros
later isize zero h = absurd (h refl)
later isize (suc n) h = refl

pub returns-else-n-eq0 : goal.returns-else-n-eq0
returns-else-n-eq0 c = later c.args.isize c.args.n c.if-n-eq0.false
