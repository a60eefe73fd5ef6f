-- Reading a number digit by digit.
use Rattle.std.proofs.Common.{◌≡◌, ℕ, ◌+◌, ◌-◌, ◌*◌, ◌^◌, ◌<◌, ◌≤◌, Option, List, [], ◌∷◌, length, get_or, drop, Some, None, sym, refl, ap, ◌∙◌, le_trans, le_refl, add-one, arith, drop-cons, drop_of_length-le}
use Rattle.std.proofs.lemmas.Bool.{le-ltb, lt-ltb, cond_both}
use Rattle.script.specs.Numbers.{all_digits, decimal, more_digits}

-- a number only grows with more digits
decimal_grows : (n : ℕ) (bs : List ℕ) → n ≤ decimal n bs
decimal_grows n [] = le_refl n
decimal_grows n (b ∷ bs) =
    let m : n ≤ 10 * n + (b - 48) = omega arith in
    le_trans m (decimal_grows (10 * n + (b - 48)) bs)

-- once too large, always too large
pub too_large : (n : ℕ) (bs : List ℕ) → 2 ^ 32 ≤ n → more_digits n bs ≡ None
too_large n bs h =
    let e = le-ltb (decimal n bs) (2 ^ 32) (le_trans h (decimal_grows n bs)) in
    rw e (cond_both (all_digits bs) None None (λ r. r ≡ None) (λ _. refl) (λ _. refl))

-- too large with the next byte
too_large_next : (n b : ℕ) (bs : List ℕ) → 2 ^ 32 ≤ 10 * n + (b - 48) → more_digits n (b ∷ bs) ≡ None
too_large_next n b bs h =
    let e = le-ltb (decimal n (b ∷ bs)) (2 ^ 32) (le_trans h (decimal_grows (10 * n + (b - 48)) bs)) in
    rw e (cond_both (all_digits (b ∷ bs)) None None (λ r. r ≡ None) (λ _. refl) (λ _. refl))

-- where the byte at index i makes the number n before it too large, the whole is none
pub too_large_at : (n : ℕ) (bs : List ℕ) (i : ℕ) (r : Option ℕ) → i < length bs → more_digits n (drop i bs) ≡ r → 2 ^ 32 ≤ 10 * n + (get_or bs i 0 - 48) → None ≡ r
too_large_at n bs i r lt e h =
    sym (too_large_next n (get_or bs i 0) (drop (i + 1) bs) h) ∙ sym (rw add-one (ap (λ (l : List ℕ). more_digits n l) (drop-cons bs i 0 lt))) ∙ e

-- where every byte was met, the number before the end is the whole
pub all_met : (n : ℕ) (bs : List ℕ) (i : ℕ) (r : Option ℕ) → length bs ≤ i → n < 2 ^ 32 → more_digits n (drop i bs) ≡ r → Some n ≡ r
all_met n bs i r le small e =
    let none = drop_of_length-le bs {i = i} le in
    let fits = lt-ltb n (2 ^ 32) small in
    let now : more_digits n [] ≡ Some n = rw fits refl in
    sym now ∙ sym (ap (λ (l : List ℕ). more_digits n l) none) ∙ e
