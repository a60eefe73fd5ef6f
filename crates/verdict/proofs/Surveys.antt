-- The survey of the codes, as sums over the data blocks.
use Rattle.std.proofs.Common.{◌≡◌, ℕ, zero, suc, ◌+◌, ◌-◌, ◌≤◌, Bool, true, false, cond, ◌&&◌, eqb, leb, List, get_or, sym, refl, ap, ◌∙◌, arith}
use Rattle.std.proofs.lemmas.Bool.{le-leb, lt-leb, cond-true, cond-false}
use Rattle.trees.specs.Trees.{total}
use Rattle.trees.specs.Volume.{missing}
use Rattle.trees.proofs.Sums.{total_suc, total_same, total_zero}
use Rattle.verdict.specs.declared.verdict.Census.{Census}
use Rattle.verdict.specs.Scan.{rows, rest, counted, survey, nothing}
use Rattle.verdict.proofs.Rows.{rows_none, rows_last}
use Rattle.verdict.proofs.Seen.{counting}

-- a number of the census that grows by f of each code
survey_rows : (part : Census → ℕ) (f : ℕ → ℕ) → part nothing ≡ 0 → ((c : ℕ) (n : Census) → part (counted c n) ≡ part n + f c) → (cs : List ℕ) (lo n : ℕ)
    → part (rows n lo (λ b. counted (get_or cs b 0)) nothing) ≡ total (lo + n) (λ b. cond (leb lo b) (f (get_or cs b 0)) 0)
survey_rows part f z h cs lo zero =
    let e : total (lo + 0) (λ b. cond (leb lo b) (f (get_or cs b 0)) 0) ≡ 0 = total_zero (lo + 0) _ (λ b l. cond-false (leb lo b) (f (get_or cs b 0)) 0 (lt-leb lo b (omega arith))) in
    ap part (rows_none lo (λ b. counted (get_or cs b 0)) nothing) ∙ z ∙ sym e
survey_rows part f z h cs lo (suc n) =
    let ih = survey_rows part f z h cs lo n in
    let l = ap part (rows_last n lo (λ b. counted (get_or cs b 0)) nothing) in
    let g = h (get_or cs (lo + n) 0) (rows n lo (λ b. counted (get_or cs b 0)) nothing) in
    let t : total (lo + suc n) (λ b. cond (leb lo b) (f (get_or cs b 0)) 0) ≡ total (lo + n) (λ b. cond (leb lo b) (f (get_or cs b 0)) 0) + cond (leb lo (lo + n)) (f (get_or cs (lo + n) 0)) 0 =
    (let e : lo + suc n ≡ suc (lo + n) = omega arith in rw e (total_suc (lo + n) (λ b. cond (leb lo b) (f (get_or cs b 0)) 0))) in
    let c : cond (leb lo (lo + n)) (f (get_or cs (lo + n) 0)) 0 ≡ f (get_or cs (lo + n) 0) = cond-true (leb lo (lo + n)) (f (get_or cs (lo + n) 0)) 0 (le-leb lo (lo + n) (omega arith)) in
    omega arith

pub survey_sum : (part : Census → ℕ) (f : ℕ → ℕ) → part nothing ≡ 0 → ((c : ℕ) (n : Census) → part (counted c n) ≡ part n + f c) → (cs : List ℕ) (lo hi : ℕ) → lo ≤ hi
    → part (survey hi cs lo nothing) ≡ total hi (λ b. cond (leb lo b) (f (get_or cs b 0)) 0)
unfolding survey rest
survey_sum part f z h cs lo hi l =
    let e : lo + (hi - lo) ≡ hi = omega arith in
    rw e at (survey_rows part f z h cs lo (hi - lo))

-- what a code adds to each number
abbrev pub if_used : ℕ → ℕ
if_used c = cond (eqb c 0) 0 (cond (eqb c 1) 1 0)

abbrev pub if_free : ℕ → ℕ
if_free c = cond (eqb c 0) 0 (cond (eqb c 1) 0 1)

abbrev pub if_missing : ℕ → ℕ
if_missing c = cond (eqb c 0) 1 0

record Grows (before after : Census) (u f m : ℕ) : Type 0 where
  used : after.used ≡ before.used + u
  free : after.free ≡ before.free + f
  missing : after.missing ≡ before.missing + m

grows : (c : ℕ) (n : Census) → Grows n (counted c n) (if_used c) (if_free c) (if_missing c)
grows c n = go (eqb c 0) (eqb c 1)
  where
    go : (x y : Bool) → Grows n (cond x (record { used = n.used; free = n.free; missing = n.missing + 1 })
        (cond y (record { used = n.used + 1; free = n.free; missing = n.missing }) (record { used = n.used; free = n.free + 1; missing = n.missing })))
        (cond x 0 (cond y 1 0)) (cond x 0 (cond y 0 1)) (cond x 1 0)
    go true y = record { used = omega arith; free = omega arith; missing = refl }
    go false true = record { used = refl; free = omega arith; missing = omega arith }
    go false false = record { used = omega arith; free = refl; missing = omega arith }

pub survey_used : (cs : List ℕ) (lo hi : ℕ) → lo ≤ hi → (survey hi cs lo nothing).used ≡ total hi (λ b. cond (leb lo b) (if_used (get_or cs b 0)) 0)
survey_used cs lo hi l = survey_sum (λ c. c.used) if_used refl (λ c n. (grows c n).used) cs lo hi l

pub survey_free : (cs : List ℕ) (lo hi : ℕ) → lo ≤ hi → (survey hi cs lo nothing).free ≡ total hi (λ b. cond (leb lo b) (if_free (get_or cs b 0)) 0)
survey_free cs lo hi l = survey_sum (λ c. c.free) if_free refl (λ c n. (grows c n).free) cs lo hi l

-- blocks without a code
pub survey_missing : (cs : List ℕ) (n lo hi : ℕ) → lo ≤ hi → (survey hi cs lo nothing).missing ≡ missing lo hi (counting cs n)
unfolding missing
survey_missing cs n lo hi l =
    survey_sum (λ c. c.missing) if_missing refl (λ c n. (grows c n).missing) cs lo hi l
    ∙ total_same hi _ _ (λ b q. both (leb lo b) (eqb (get_or cs b 0) 0))
  where
    both : (x y : Bool) → cond x (cond y 1 0) 0 ≡ cond {A = ℕ} (x && y) 1 0
    both true y = refl
    both false y = refl

-- every block surveyed is counted once
survey_all : (g : ℕ → ℕ) (n k : ℕ) → let c = rows n k (λ b. counted (g b)) nothing in c.used + c.free + c.missing ≡ n
survey_all g zero k = rw (rows_none k (λ b. counted (g b)) nothing)
survey_all g (suc n) k =
    let h = grows (g (k + n)) (rows n k (λ b. counted (g b)) nothing) in
    let o = one (eqb (g (k + n)) 0) (eqb (g (k + n)) 1) in
    let r = survey_all g n k in
    rw (rows_last n k (λ b. counted (g b)) nothing) (omega arith)
  where
    one : (x y : Bool) → cond x 0 (cond y 1 0) + cond x 0 (cond y 0 1) + cond x 1 0 ≡ 1
    one true y = refl
    one false true = refl
    one false false = refl

pub survey_covers : (cs : List ℕ) (lo hi : ℕ) → lo ≤ hi → lo + (survey hi cs lo nothing).used + (survey hi cs lo nothing).free + (survey hi cs lo nothing).missing ≡ hi
unfolding survey rest
survey_covers cs lo hi l = omega (arith, survey_all (λ b. get_or cs b 0) (hi - lo) lo)
