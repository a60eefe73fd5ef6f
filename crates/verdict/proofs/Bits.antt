-- The status, by its bits.
use Rattle.std.proofs.Common.{◌≡◌, ℕ, ◌%◌, ◌<◌, ◌≤◌, Bool, true, false, cond, ltb, ◌⊎◌, List, [], ◌∷◌, length, refl, inl, inr, ⊎_elim, arith}
use Rattle.std.specs.Int.Bits.{bit_or, or_add_and}
use Rattle.std.proofs.lemmas.Nat.{or_mod, or_comm, and_le_r}
use Rattle.std.proofs.lemmas.Bool.{cases_lt, lt-ltb, le-ltb}
use Rattle.fault.specs.declared.finding.Kind.{Kind}
use Rattle.fault.specs.declared.finding.Kind.TheVariants.{BadAddress, SecondClaim, UnknownType, CountTooLarge, BadEntry, SecondEntry}
use Rattle.fault.specs.declared.finding.Finding.{Finding}
use Rattle.fault.specs.Findings.{status_bit}
use Rattle.verdict.specs.declared.verdict.Census.{Census}
use Rattle.verdict.specs.Verdict.{bits_from, verdict_from}

-- a bit other than 0x01 and 0x08
abbrev Other : ℕ → Type 0
Other x = (2 ≤ x % 8) ⊎ (16 ≤ x)

or_most : (a b : ℕ) → a ≤ bit_or a b
or_most a b = let e = or_add_and a b in let r = and_le_r a b in omega arith

other_left : (a b : ℕ) → Other a → Other (bit_or a b)
other_left a b h =
    ⊎_elim (λ (l : 2 ≤ a % 8). inl (let e : bit_or a b % 8 ≡ bit_or (a % 8) (b % 8) = or_mod a b 3 in omega (arith, or_most (a % 8) (b % 8))))
    (λ (l : 16 ≤ a). inr (omega (arith, or_most a b))) h

other_right : (a b : ℕ) → Other b → Other (bit_or a b)
other_right a b h = rw (or_comm a b) (other_left b a h)

kind_other : (k : Kind) → Other (status_bit k)
kind_other BadAddress = inl (omega arith)
kind_other SecondClaim = inl (omega arith)
kind_other UnknownType = inl (omega arith)
kind_other CountTooLarge = inl (omega arith)
kind_other BadEntry = inr (omega arith)
kind_other SecondEntry = inr (omega arith)

bits_other : (b : ℕ) (fs : List Finding) → Other b → Other (bits_from b fs)
bits_other b [] h = h
bits_other b (f ∷ fs) h = bits_other (bit_or b (status_bit f.kind)) fs (other_left b (status_bit f.kind) h)

other_zero : (x : ℕ) → Other x → x ≡ 0 → ⊥
other_zero x h e = ⊎_elim (λ (l : 2 ≤ x % 8). omega arith) (λ (l : 16 ≤ x). omega arith) h

other_eight : (x : ℕ) → Other x → x ≡ 8 → ⊥
other_eight x h e = ⊎_elim (λ (l : 2 ≤ x % 8). omega arith) (λ (l : 16 ≤ x). omega arith) h

-- the status of findings fs and a census, for any room
abbrev pub status : List Finding → Census → ℕ → ℕ
status fs c room = (verdict_from (bits_from 0 fs) (length fs) c room).status

-- a finding shows in the status
status_other : (f : Finding) (fs : List Finding) (c : Census) (room : ℕ) → Other (status (f ∷ fs) c room)
status_other f fs c room = go (bits_from 0 (f ∷ fs)) (ltb room (length (f ∷ fs))) (ltb 0 c.missing) (bits_other (bit_or 0 (status_bit f.kind)) fs (other_right 0 (status_bit f.kind) (kind_other f.kind)))
  where
    go : (b : ℕ) (x y : Bool) → Other b → Other (cond x (bit_or (cond y (bit_or b 0x08) b) 0x01) (cond y (bit_or b 0x08) b))
    go b true true h = other_left (bit_or b 0x08) 0x01 (other_left b 0x08 h)
    go b true false h = other_left b 0x01 h
    go b false true h = other_left b 0x08 h
    go b false false h = h

-- without findings it says whether a block is missing
pub status_none : (c : Census) (room : ℕ) → c.missing ≡ 0 → status [] c room ≡ 0
status_none c room e = rw (le-ltb room 0 (omega arith), le-ltb 0 c.missing (omega arith))

pub status_missing : (c : Census) (room : ℕ) → 0 < c.missing → status [] c room ≡ 8
status_missing c room e = rw (le-ltb room 0 (omega arith), lt-ltb 0 c.missing e)

-- status 0 or 0x08 says that nothing was found
pub zero_clean : (fs : List Finding) (c : Census) (room : ℕ) → status fs c room ≡ 0 → length fs ≡ 0
zero_clean [] c room e = refl
zero_clean (f ∷ fs) c room e = absurd (other_zero _ (status_other f fs c room) e)

pub eight_clean : (fs : List Finding) (c : Census) (room : ℕ) → status fs c room ≡ 8 → length fs ≡ 0
eight_clean [] c room e = refl
eight_clean (f ∷ fs) c room e = absurd (other_eight _ (status_other f fs c room) e)

-- and status 0 that nothing is missing
pub zero_full : (fs : List Finding) (c : Census) (room : ℕ) → status fs c room ≡ 0 → c.missing ≡ 0
zero_full [] c room e = ⊎_elim (λ (l : 0 < c.missing). absurd (let x = status_missing c room l in omega arith)) (λ (l : c.missing ≤ 0). omega arith) (cases_lt 0 c.missing)
zero_full (f ∷ fs) c room e = absurd (other_zero _ (status_other f fs c room) e)
