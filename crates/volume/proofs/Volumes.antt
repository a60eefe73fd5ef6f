-- Whether a superblock stands for a volume.
use Rattle.std.proofs.Common.{◌≡◌, ℕ, Bool, true, false, cond, ◌&&◌, ltb, leb, List, [], length, get_or, Ok, Err, Result, Some, None, Option, ok_or, ap, refl, arith}
use Rattle.fault.specs.declared.fault.Fault.{Fault}
use Rattle.fault.specs.declared.refusal.Refusal.{Refusal}
use Rattle.fault.specs.declared.refusal.Refusal.TheVariants.{NoVolume}
use Rattle.fault.specs.Refusals.{beyond, keeper}
use Rattle.disk.specs.Medium.{Sectors}
use Rattle.format.specs.Layout.{superblock}
use Rattle.format.specs.Superblock.{isize_of, fsize_of, type_fits}
use Rattle.format.specs.Sizes.{Sizes, lawful_sizes}
use Rattle.rules.specs.Calls.{is_volume, sizes_in, lookup}

pub volume_by : (x : List ℕ) (n : ℕ) (a b c : Bool) → lawful_sizes (isize_of x) (fsize_of x) ≡ a → type_fits x ≡ b → leb (fsize_of x) n ≡ c → is_volume x n ≡ ((a && b) && c)
unfolding is_volume
volume_by x n a b c p q r = rw (p, q, r)

-- one test that fails suffices
pub no_sizes : (x : List ℕ) (n : ℕ) → lawful_sizes (isize_of x) (fsize_of x) ≡ false → is_volume x n ≡ false
no_sizes x n p = volume_by x n false (type_fits x) (leb (fsize_of x) n) p refl refl

pub no_type : (x : List ℕ) (n : ℕ) → lawful_sizes (isize_of x) (fsize_of x) ≡ true → type_fits x ≡ false → is_volume x n ≡ false
no_type x n p q = volume_by x n true false (leb (fsize_of x) n) p q refl

pub no_room : (x : List ℕ) (n : ℕ) → lawful_sizes (isize_of x) (fsize_of x) ≡ true → type_fits x ≡ true → leb (fsize_of x) n ≡ false → is_volume x n ≡ false
no_room x n p q r = volume_by x n true true false p q r

-- a refusal in place of what is not there
pub err_of_none : {T : Type 0} (o : Option T) (x r : Refusal) → ◌≡◌ {A = Result T Refusal} (Err x) (ok_or o r) → x ≡ r
err_of_none None x r e = cc
err_of_none {T} (Some y) x r e = let z : ◌≡◌ {A = ℕ} 0 1 = cc in absurd (omega arith)

-- a refusal by its number, as the fault of the keeper
pub kept_refusal : (b : Bool) (s : Sizes) (x : Refusal) → ◌≡◌ {A = Result Sizes Refusal} (Err x) (cond b (Ok s) (Err NoVolume)) → ◌≡◌ {A = Result Sizes Fault} (Err (keeper x)) (cond b (Ok s) (Err (keeper NoVolume)))
kept_refusal true s x e = let z : ◌≡◌ {A = ℕ} 0 1 = cc in absurd (omega arith)
kept_refusal false s x e = let z : x ≡ NoVolume = cc in ap (λ (r : Refusal). Err (keeper r)) z

pub kept_sizes : (b : Bool) (s z : Sizes) → ◌≡◌ {A = Result Sizes Refusal} (Ok z) (cond b (Ok s) (Err NoVolume)) → ◌≡◌ {A = Result Sizes Fault} (Ok z) (cond b (Ok s) (Err (keeper NoVolume)))
kept_sizes true s z e = let y : z ≡ s = cc in ap Ok y
kept_sizes false s z e = let y : ◌≡◌ {A = ℕ} 0 1 = cc in absurd (omega arith)

-- the same numbers
pub same_numbers : (i f j h : ℕ) → i ≡ j → f ≡ h → ◌≡◌ {A = Sizes} (record { isize = i; fsize = f }) (record { isize = j; fsize = h })
same_numbers i f j h p q = cc

-- where there is a superblock it decides
pub look_beyond : (S : Sectors) → ltb superblock (length S) ≡ false → Err (beyond superblock) ≡ lookup S
unfolding lookup
look_beyond S e = rw e

pub look_at : (S : Sectors) → ltb superblock (length S) ≡ true
    → cond (is_volume (get_or S superblock []) (length S)) (Ok (sizes_in (get_or S superblock []))) (Err (keeper NoVolume)) ≡ lookup S
unfolding lookup
look_at S e = rw e
