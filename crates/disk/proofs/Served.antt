-- What follows from a disk's answer.
use Rattle.std.proofs.Common.{◌≡◌, ℕ, ◌<◌, Bool, true, false, cond, eqb, ltb, Ok, Err, Result, refl, arith, ltb-true, lt-ltb, eqb-true}
use Rattle.fault.specs.declared.fault.Fault.{Fault}
use Rattle.fault.specs.Refusals.{disk_buffer, beyond}
use Rattle.disk.specs.Medium.{sector_bytes}
use Rattle.disk.specs.Disks.{serves, answer}

pub served : (len s n : ℕ) → len ≡ sector_bytes → s < n → serves len s n ≡ true
served len s n e h = rw (e, lt-ltb s n h)

pub answered : (len s n : ℕ) → len ≡ sector_bytes → s < n → answer len s n ≡ Ok tt
answered len s n e h = rw (e, lt-ltb s n h)

-- an answer by a count that is known
pub counted : (len s k n : ℕ) (r : Result (Unit {0}) Fault) → k ≡ n → r ≡ answer len s k → r ≡ answer len s n
counted len s k n r e h = rw e at h

-- an accepted call had its size and its sector
pub admitted : (len s n : ℕ) → ◌≡◌ {A = Result (Unit {0}) Fault} (Ok tt) (answer len s n) → (len ≡ sector_bytes) × (s < n)
admitted len s n e = let p = both (eqb len sector_bytes) (ltb s n) e in (eqb-true len sector_bytes p.0, ltb-true s n p.1)
  where
    both : (a b : Bool) → ◌≡◌ {A = Result (Unit {0}) Fault} (Ok tt) (cond a (cond b (Ok tt) (Err (beyond s))) (Err disk_buffer)) → (a ≡ true) × (b ≡ true)
    both true true h = (refl, refl)
    both true false h = let z : ◌≡◌ {A = ℕ} 0 1 = cc in absurd (omega arith)
    both false b h = let z : ◌≡◌ {A = ℕ} 0 1 = cc in absurd (omega arith)

-- a refused call leaves what was there
pub refused_same : {X : Type 0} (len s n : ℕ) (f : Fault) (x y : X) → ◌≡◌ {A = Result (Unit {0}) Fault} (Err f) (answer len s n) → y ≡ cond (serves len s n) x y
refused_same {X} len s n f x y e = same (eqb len sector_bytes) (ltb s n) e
  where
    same : (a b : Bool) → ◌≡◌ {A = Result (Unit {0}) Fault} (Err f) (cond a (cond b (Ok tt) (Err (beyond s))) (Err disk_buffer)) → y ≡ cond (cond a b false) x y
    same true true h = let z : ◌≡◌ {A = ℕ} 0 1 = cc in absurd (omega arith)
    same true false h = refl
    same false b h = refl
