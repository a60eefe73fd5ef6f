-- What the tests before a check answer.
use Rattle.std.proofs.Common.{◌≡◌, ℕ, ◌<◌, ◌≤◌, Bool, true, false, not, ◌&&◌, eqb, ltb, leb, List, [], length, get_or, Ok, Err, Result, sym, refl, ap, ⊎_elim, arith, ltb-true, eqb-true, leb-true}
use Rattle.std.proofs.lemmas.Bool.{cases_Bool, and_parts}
use Rattle.fault.specs.declared.fault.Fault.{Fault}
use Rattle.fault.specs.declared.refusal.Refusal.TheVariants.{BufferSize, NoVolume, OtherSizes, Locked}
use Rattle.fault.specs.Refusals.{beyond, keeper}
use Rattle.disk.specs.Medium.{Sectors}
use Rattle.format.specs.Layout.{superblock}
use Rattle.format.specs.Superblock.{isize_of, fsize_of, type_fits, flock_of}
use Rattle.format.specs.Sizes.{Sizes, lawful_sizes}
use Rattle.rules.specs.Calls.{is_volume, sizes_in, lookup, same_sizes, may_check, may_clear}

pub fits_within : (x : List ℕ) (n : ℕ) → is_volume x n ≡ true → fsize_of x ≤ n
unfolding is_volume
fits_within x n e = leb-true (fsize_of x) n (and_parts (lawful_sizes (isize_of x) (fsize_of x) && type_fits x) (leb (fsize_of x) n) e).1

-- a volume that is found has a superblock and fits its disk
pub found_fits : (S : Sectors) (z : Sizes) → Ok z ≡ lookup S → (superblock < length S) × (z.fsize ≤ length S)
unfolding lookup
found_fits S z e =
    ⊎_elim
    (λ (p : ltb superblock (length S) ≡ true).
    ⊎_elim
    (λ (q : is_volume (get_or S superblock []) (length S) ≡ true).
    let w : ◌≡◌ {A = Result Sizes Fault} (Ok z) (Ok (sizes_in (get_or S superblock []))) = rw (p, q) at e in
    let k : z ≡ sizes_in (get_or S superblock []) = cc in
    let f : z.fsize ≡ fsize_of (get_or S superblock []) = ap (λ (y : Sizes). y.fsize) k in
    let l = fits_within (get_or S superblock []) (length S) q in
    (ltb-true superblock (length S) p, omega arith))
    (λ (q : is_volume (get_or S superblock []) (length S) ≡ false).
    let w : ◌≡◌ {A = Result Sizes Fault} (Ok z) (Err (keeper NoVolume)) = rw (p, q) at e in
    let c : ◌≡◌ {A = ℕ} 0 1 = cc in (omega arith, omega arith))
    (cases_Bool (is_volume (get_or S superblock []) (length S))))
    (λ (p : ltb superblock (length S) ≡ false).
    let w : ◌≡◌ {A = Result Sizes Fault} (Ok z) (Err (beyond superblock)) = rw p at e in
    let c : ◌≡◌ {A = ℕ} 0 1 = cc in (omega arith, omega arith))
    (cases_Bool (ltb superblock (length S)))

module _ (S : Sectors) (held : Sizes) (n : ℕ) where
  pub refused_look : (f : Fault) → Err f ≡ lookup S → Err f ≡ may_check held n S
  unfolding may_check
  refused_look f e = rw (sym e)

  module _ (z : Sizes) (e : Ok z ≡ lookup S) where
    pub other_sizes : same_sizes z held ≡ false → Err (keeper OtherSizes) ≡ may_check held n S
    unfolding may_check
    other_sizes p = rw (sym e, p)

    pub short_scratch : same_sizes z held ≡ true → leb z.fsize n ≡ false → Err (keeper BufferSize) ≡ may_check held n S
    unfolding may_check
    short_scratch p q = rw (sym e, p, q)

    pub served : same_sizes z held ≡ true → leb z.fsize n ≡ true → Ok z ≡ may_check held n S
    unfolding may_check
    served p q = rw (sym e, p, q)

-- a test that is negated
pub not_true : (b : Bool) → true ≡ not b → b ≡ false
not_true true e = let z : ◌≡◌ {A = ℕ} 0 1 = cc in absurd (omega arith)
not_true false e = refl

pub not_false : (b : Bool) → false ≡ not b → b ≡ true
not_false true e = refl
not_false false e = let z : ◌≡◌ {A = ℕ} 0 1 = cc in absurd (omega arith)

pub the_same : (z w : Sizes) → same_sizes z w ≡ true → z ≡ w
the_same z w e =
    let a : z.isize ≡ w.isize = eqb-true z.isize w.isize (and_parts (eqb z.isize w.isize) (eqb z.fsize w.fsize) e).0 in
    let b : z.fsize ≡ w.fsize = eqb-true z.fsize w.fsize (and_parts (eqb z.isize w.isize) (eqb z.fsize w.fsize) e).1 in
    let k : ◌≡◌ {A = Sizes} (record { isize = z.isize; fsize = z.fsize }) (record { isize = w.isize; fsize = w.fsize }) = cc in
    k

module _ (S : Sectors) (held : Sizes) (n : ℕ) where
  pub refused_check : (f : Fault) → Err f ≡ may_check held n S → Err f ≡ may_clear held n S
  unfolding may_clear
  refused_check f e = rw (sym e)

  pub locked : (z : Sizes) → Ok z ≡ may_check held n S → eqb (flock_of (get_or S superblock [])) 0 ≡ false → Err (keeper Locked) ≡ may_clear held n S
  unfolding may_clear
  locked z e p = rw (sym e, p)

  pub unlocked : (z : Sizes) → Ok z ≡ may_check held n S → eqb (flock_of (get_or S superblock [])) 0 ≡ true → Ok z ≡ may_clear held n S
  unfolding may_clear
  unlocked z e p = rw (sym e, p)
