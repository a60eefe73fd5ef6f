-- Sums and hits.
use Rattle.std.proofs.Common.{◌≡◌, ℕ, zero, suc, ◌+◌, ◌<◌, ◌≤◌, eqb, ◌≢◌, List, [], ◌∷◌, length, refl, ⊎_elim, arith}
use Rattle.std.specs.List.{AllByRecursion as All}
use Rattle.std.proofs.lemmas.Bool.{cases_eq, eq-eqb, ne_eqb, cond-true, cond-false}
use Rattle.trees.specs.Trees.{total, hit, count}

-- the equations of a sum, for where it stays shut
pub total_suc : (w : ℕ) (f : ℕ → ℕ) → total (suc w) f ≡ total w f + f w
unfolding total
total_suc w f = refl

pub total_same : (w : ℕ) (f g : ℕ → ℕ) → ((k : ℕ) → k < w → f k ≡ g k) → total w f ≡ total w g
unfolding total
total_same zero f g h = refl
total_same (suc w) f g h =
    let e : total w f ≡ total w g = total_same w f g (λ k l. h k (omega arith)) in
    omega (arith, h w (omega arith))

pub total_zero : (w : ℕ) (f : ℕ → ℕ) → ((k : ℕ) → k < w → f k ≡ 0) → total w f ≡ 0
unfolding total
total_zero zero f h = refl
total_zero (suc w) f h =
    let e : total w f ≡ 0 = total_zero w f (λ k l. h k (omega arith)) in
    omega (arith, h w (omega arith))

-- one place of a sum
pub total_at : (w : ℕ) (f : ℕ → ℕ) (i : ℕ) → i < w → f i ≤ total w f
unfolding total
total_at zero f i l = omega arith
total_at (suc w) f i l = ⊎_elim (λ (e : i ≡ w). rw e (omega arith)) (λ (n : i ≡ w → ⊥). let m : i ≢ w = n in omega (arith, total_at w f i (omega arith))) (cases_eq i w)

-- two sums as one
pub total_plus : (w : ℕ) (f g : ℕ → ℕ) → total w (λ k. f k + g k) ≡ total w f + total w g
unfolding total
total_plus zero f g = refl
total_plus (suc w) f g = omega (arith, total_plus w f g)

-- a sum of numbers up to 1
pub total_most : (w : ℕ) (f : ℕ → ℕ) → ((k : ℕ) → f k ≤ 1) → total w f ≤ w
unfolding total
total_most zero f h = omega arith
total_most (suc w) f h = omega (arith, total_most w f h, h w)

-- a sum with one place replaced
pub total_replace : (w : ℕ) (f g : ℕ → ℕ) (i : ℕ) → i < w → ((k : ℕ) → k < w → k ≢ i → f k ≡ g k) → total w f + g i ≡ total w g + f i
unfolding total
total_replace zero f g i l h = omega arith
total_replace (suc w) f g i l h =
    ⊎_elim
    (λ (e : i ≡ w).
    let s : total w f ≡ total w g = total_same w f g (λ k q. h k (omega arith) (omega arith)) in
    rw e (omega arith))
    (λ (n : i ≡ w → ⊥).
    let m : i ≢ w = n in
    let s : total w f + g i ≡ total w g + f i = total_replace w f g i (omega arith) (λ k q. h k (omega arith)) in
    let z : f w ≡ g w = h w (omega arith) (omega arith) in
    omega arith)
    (cases_eq i w)

pub hit_none : (b : ℕ) → hit 0 b ≡ 0
unfolding hit
hit_none b = refl

pub hit_same : (a : ℕ) → 0 < a → hit a a ≡ 1
unfolding hit
hit_same zero l = omega arith
hit_same (suc a) l = cond-true (eqb (suc a) (suc a)) 1 0 (eq-eqb (suc a) (suc a) refl)

pub hit_other : (a b : ℕ) → a ≢ b → hit a b ≡ 0
unfolding hit
hit_other zero b n = refl
hit_other (suc a) b n = cond-false (eqb (suc a) b) 1 0 (ne_eqb (suc a) b n)

pub hit_le : (a b : ℕ) → hit a b ≤ 1
hit_le a b = ⊎_elim (λ (e : a ≡ b). go a b e) (λ (n : a ≡ b → ⊥). omega (arith, hit_other a b n)) (cases_eq a b)
  where
    go : (a b : ℕ) → a ≡ b → hit a b ≤ 1
    go zero b e = omega (arith, hit_none b)
    go (suc a) b e = rw (← e) (omega (arith, hit_same (suc a) (omega arith)))

-- a hit says that the two are one
pub hit_eq : (a b : ℕ) → 0 < hit a b → a ≡ b
hit_eq a b l = ⊎_elim (λ (e : a ≡ b). e) (λ (n : a ≡ b → ⊥). absurd (let z : hit a b ≡ 0 = hit_other a b n in omega arith)) (cases_eq a b)

-- an address below w names one block below w
pub total_hit : (w a : ℕ) → 0 < a → a < w → total w (hit a) ≡ 1
unfolding total
total_hit zero a p l = omega arith
total_hit (suc w) a p l =
    ⊎_elim
    (λ (e : a ≡ w).
    let n : total w (hit a) ≡ 0 = total_zero w (hit a) (λ k q. hit_other a k (λ z. omega (arith, z))) in
    let h : hit a w ≡ 1 = rw (← e) (hit_same a p) in
    omega arith)
    (λ (n : a ≡ w → ⊥). let m : a ≢ w = n in omega (arith, total_hit w a p (omega arith), hit_other a w n))
    (cases_eq a w)

-- a list of such addresses names as many blocks as it is long
pub total_count : (w : ℕ) (L : List ℕ) → ((b : ℕ) → 0 < count L b → b < w) → All (λ x. 0 < x) L → total w (count L) ≡ length L
unfolding count
total_count w [] d p = total_zero w (λ b. 0) (λ k l. refl)
total_count w (x ∷ L) d p =
    let s : total w (λ b. hit x b + count L b) ≡ total w (hit x) + total w (count L) = total_plus w (hit x) (count L) in
    let h = total_hit w x p.0 (d x (omega (arith, hit_same x p.0))) in
    let r = total_count w L (λ b q. d b (omega arith)) p.1 in
    omega arith
