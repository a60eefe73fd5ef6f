-- The laws of numbers in a row of bytes, over any width. The range that changes comes first in Apart.
use Rattle.std.proofs.Common.{◌≡◌, ℕ, zero, suc, ◌+◌, ◌*◌, ◌/◌, ◌%◌, ◌^◌, ◌-◌, ◌<◌, ◌≤◌, true, ◌||◌, leb, ◌≢◌, List, [], ◌∷◌, ◌++◌, length, get_or, take, drop, set, replicate, sym, refl, ap, ◌∙◌, inl, inr, ⊎_elim, mul-le-mul_left, mul-suc, add-one, sub-one, arith, length-set, get_or-drop, get_or-set_other, get_or-take, get_or-set_same, set-set}
use Rattle.std.proofs.lemmas.List.{set_comm, set-get_or}
use Rattle.std.proofs.lemmas.Bool.{leb-true, or_cases, cases_lt, cases_eq}
use Rattle.std.proofs.lemmas.List.{ext_get_or, get_or_append_left, get_or-append-add, length-replicate, get_or-replicate, get_or_past}
use Rattle.numbers.specs.Numbers.{num, put_num, nums}
use Rattle.numbers.specs.Laws.{Apart}

-- no length changes
pub put_length : (n o v : ℕ) (x : List ℕ) → length (put_num n o v x) ≡ length x
unfolding put_num
put_length zero o v x = refl
put_length (suc zero) o v x = length-set x o v
put_length (suc (suc n)) o v x = length-set (put_num (suc n) o (v / 256) x) (o + suc n) (v % 256) ∙ put_length (suc n) o (v / 256) x

-- a byte outside a number
pub num_set : (m p k v : ℕ) (x : List ℕ) → Apart k 1 p m → num m p (set x k v) ≡ num m p x
unfolding num
num_set zero p k v x h = refl
num_set (suc zero) p k v x h = get_or-set_other x k p v 0 (⊎_elim (λ (l : k + 1 ≤ p). omega arith) (λ (l : p + 1 ≤ k). omega arith) h)
num_set (suc (suc m)) p k v x h =
    let e = num_set (suc m) p k v x (⊎_elim (λ (l : k + 1 ≤ p). inl l) (λ (l : p + suc (suc m) ≤ k). inr (omega arith)) h) in
    let g = get_or-set_other x k (p + suc m) v 0 (⊎_elim (λ (l : k + 1 ≤ p). omega arith) (λ (l : p + suc (suc m) ≤ k). omega arith) h) in
    omega arith

-- a number outside a number
pub num_apart : (n o m p v : ℕ) (x : List ℕ) → Apart o n p m → num m p (put_num n o v x) ≡ num m p x
unfolding put_num
num_apart zero o m p v x h = refl
num_apart (suc zero) o m p v x h = num_set m p o v x h
num_apart (suc (suc n)) o m p v x h =
    num_set m p (o + suc n) (v % 256) (put_num (suc n) o (v / 256) x) (⊎_elim (λ (l : o + suc (suc n) ≤ p). inl (omega arith)) (λ (l : p + m ≤ o). inr (omega arith)) h)
    ∙ num_apart (suc n) o m p (v / 256) x (⊎_elim (λ (l : o + suc (suc n) ≤ p). inl (omega arith)) (λ (l : p + m ≤ o). inr l) h)

-- a byte outside the number that is put
pub byte_apart : (n o v k : ℕ) (x : List ℕ) → Apart o n k 1 → get_or (put_num n o v x) k 0 ≡ get_or x k 0
unfolding num
byte_apart n o v k x h = num_apart n o 1 k v x h

-- what is put reads back
pub num_put : (n o v : ℕ) (x : List ℕ) → 0 < n → o + n ≤ length x → num n o (put_num n o v x) ≡ v
unfolding num put_num
num_put zero o v x z l = absurd (omega arith)
num_put (suc zero) o v x z l = get_or-set_same x o v 0 (omega arith)
num_put (suc (suc n)) o v x z l =
    let e = num_set (suc n) o (o + suc n) (v % 256) (put_num (suc n) o (v / 256) x) (inr (omega arith)) ∙ num_put (suc n) o (v / 256) x (omega arith) (omega arith) in
    let g = get_or-set_same (put_num (suc n) o (v / 256) x) (o + suc n) (v % 256) 0 (omega (arith, put_length (suc n) o (v / 256) x)) in
    omega arith

-- Ranges that are apart, decided by a test: at numerals the premise is refl, whichever lies first.
pub apart : (o n p m : ℕ) → (leb (o + n) p || leb (p + m) o) ≡ true → Apart o n p m
apart o n p m h =
    ⊎_elim
    (λ (e : leb (o + n) p ≡ true). inl (leb-true (o + n) p e))
    (λ (e : leb (p + m) o ≡ true). inr (leb-true (p + m) o e))
    (or_cases (leb (o + n) p) (leb (p + m) o) h)

pub apart_sym : (o n p m : ℕ) → Apart o n p m → Apart p m o n
apart_sym o n p m h = ⊎_elim (λ (l : o + n ≤ p). inr l) (λ (l : p + m ≤ o). inl l) h

-- a byte apart from a number may be set before or after it
pub put_set : (n o v k w : ℕ) (x : List ℕ) → Apart o n k 1 → put_num n o v (set x k w) ≡ set (put_num n o v x) k w
unfolding put_num
put_set zero o v k w x h = refl
put_set (suc zero) o v k w x h = set_comm x k o w v (⊎_elim (λ (l : o + 1 ≤ k). omega arith) (λ (l : k + 1 ≤ o). omega arith) h)
put_set (suc (suc n)) o v k w x h =
    ap (λ (y : List ℕ). set y (o + suc n) (v % 256))
    (put_set (suc n) o (v / 256) k w x (⊎_elim (λ (l : o + suc (suc n) ≤ k). inl (omega arith)) (λ (l : k + 1 ≤ o). inr l) h))
    ∙ set_comm (put_num (suc n) o (v / 256) x) k (o + suc n) w (v % 256)
    (⊎_elim (λ (l : o + suc (suc n) ≤ k). omega arith) (λ (l : k + 1 ≤ o). omega arith) h)

-- one byte more of a number, and a bound on both
pub num_more : (n o : ℕ) (x : List ℕ) → num (n + 1) o x ≡ 256 * num n o x + get_or x (o + n) 0
unfolding num
num_more zero o x = let a : o + 0 ≡ o = omega arith in let e = ap (λ (k : ℕ). get_or x k 0) a in omega arith
num_more (suc n) o x = rw add-one (omega arith)

pub more_fits : (i v b : ℕ) → i < 4 → v < 256 ^ i → b < 256 → (256 * v + b < 256 ^ (i + 1)) × (256 * v + b < 2 ^ 32)
more_fits zero v b l h k = (omega arith, omega arith)
more_fits (suc zero) v b l h k = (omega arith, omega arith)
more_fits (suc (suc zero)) v b l h k = (omega arith, omega arith)
more_fits (suc (suc (suc zero))) v b l h k = (omega arith, omega arith)
more_fits (suc (suc (suc (suc i)))) v b l h k = absurd (omega arith)

-- the last byte of a number, put before the rest of it
pub put_last : (i o v : ℕ) (x : List ℕ) → 0 < i → i ≤ 4 → v < 256 ^ i → (put_num (i - 1) o (v / 256) (set x (o + (i - 1)) (v % 256)) ≡ put_num i o v x) × (v / 256 < 256 ^ (i - 1))
unfolding put_num
put_last zero o v x z l h = absurd (omega arith)
put_last (suc zero) o v x z l h =
    let a : o + 0 ≡ o = omega arith in
    let b : v % 256 ≡ v = omega arith in
    (rw (a, b), omega arith)
put_last (suc (suc n)) o v x z l h = (rw sub-one (put_set (suc n) o (v / 256) (o + suc n) (v % 256) x (inl (omega arith))), small n l h)
  where
    small : (n : ℕ) → suc (suc n) ≤ 4 → v < 256 ^ suc (suc n) → v / 256 < 256 ^ (suc (suc n) - 1)
    small zero l h = omega arith
    small (suc zero) l h = omega arith
    small (suc (suc zero)) l h = omega arith
    small (suc (suc (suc n))) l h = absurd (omega arith)

-- of two numbers put at one place the last stays
pub put_put : (n o v u : ℕ) (x : List ℕ) → put_num n o v (put_num n o u x) ≡ put_num n o v x
unfolding put_num
put_put zero o v u x = refl
put_put (suc zero) o v u x = set-set x o u v
put_put (suc (suc n)) o v u x =
    ap (λ (y : List ℕ). set y (o + suc n) (v % 256)) (put_set (suc n) o (v / 256) (o + suc n) (u % 256) (put_num (suc n) o (u / 256) x) (inl (omega arith)))
    ∙ set-set (put_num (suc n) o (v / 256) (put_num (suc n) o (u / 256) x)) (o + suc n) (u % 256) (v % 256)
    ∙ ap (λ (y : List ℕ). set y (o + suc n) (v % 256)) (put_put (suc n) o (v / 256) (u / 256) x)

-- numbers that are apart may be put in either order
pub put_comm : (n o v m p u : ℕ) (x : List ℕ) → Apart o n p m → put_num n o v (put_num m p u x) ≡ put_num m p u (put_num n o v x)
unfolding put_num
put_comm n o v zero p u x h = refl
put_comm n o v (suc zero) p u x h = put_set n o v p u x h
put_comm n o v (suc (suc m)) p u x h =
    put_set n o v (p + suc m) (u % 256) (put_num (suc m) p (u / 256) x) (⊎_elim (λ (l : o + n ≤ p). inl (omega arith)) (λ (l : p + suc (suc m) ≤ o). inr (omega arith)) h)
    ∙ ap (λ (y : List ℕ). set y (p + suc m) (u % 256))
    (put_comm n o v (suc m) p (u / 256) x (⊎_elim (λ (l : o + n ≤ p). inl l) (λ (l : p + suc (suc m) ≤ o). inr (omega arith)) h))

-- a number hangs on its bytes alone
pub num_ext : (n p o : ℕ) (y x : List ℕ) → ((k : ℕ) → k < n → get_or y (p + k) 0 ≡ get_or x (o + k) 0) → num n p y ≡ num n o x
unfolding num
num_ext zero p o y x h = refl
num_ext (suc zero) p o y x h =
    let a : p + 0 ≡ p = omega arith in
    let b : o + 0 ≡ o = omega arith in
    ap (λ (k : ℕ). get_or y k 0) (sym a) ∙ h 0 (omega arith) ∙ ap (λ (k : ℕ). get_or x k 0) b
num_ext (suc (suc n)) p o y x h =
    let e = num_ext (suc n) p o y x (λ k l. h k (omega arith)) in
    let g = h (suc n) (omega arith) in
    omega arith

-- bytes of zero are the number 0
pub num_zero : (n o : ℕ) (x : List ℕ) → ((k : ℕ) → k < n → get_or x (o + k) 0 ≡ 0) → num n o x ≡ 0
unfolding num
num_zero zero o x h = refl
num_zero (suc zero) o x h = let b : o + 0 ≡ o = omega arith in ap (λ (k : ℕ). get_or x k 0) (sym b) ∙ h 0 (omega arith)
num_zero (suc (suc n)) o x h =
    let e = num_zero (suc n) o x (λ k l. h k (omega arith)) in
    let g = h (suc n) (omega arith) in
    omega arith

pub byte_zeros : (m k : ℕ) → get_or {A = ℕ} (replicate m 0) k 0 ≡ 0
byte_zeros m k = grind (arith, length-replicate, get_or-replicate, get_or_past)

pub num_zeros : (n o m : ℕ) → num n o (replicate m 0) ≡ 0
num_zeros n o m = num_zero n o (replicate m 0) (λ k l. byte_zeros m (o + k))

-- numbers in parts of a row
pub num_drop : (n o d : ℕ) (x : List ℕ) → num n o (drop d x) ≡ num n (d + o) x
num_drop n o d x = num_ext n o (d + o) (drop d x) x (λ k l. let a : d + (o + k) ≡ d + o + k = omega arith in get_or-drop d x (o + k) 0 ∙ ap (λ (j : ℕ). get_or x j 0) a)

pub num_take : (n o t : ℕ) (x : List ℕ) → o + n ≤ t → num n o (take t x) ≡ num n o x
num_take n o t x h = num_ext n o o (take t x) x (λ k l. get_or-take t x (o + k) 0 (omega arith))

pub num_append_left : (n o : ℕ) (x y : List ℕ) → o + n ≤ length x → num n o (x ++ y) ≡ num n o x
num_append_left n o x y h = num_ext n o o (x ++ y) x (λ k l. get_or_append_left x y 0 (o + k) (omega arith))

pub num_append_right : (n o : ℕ) (x y : List ℕ) → num n (length x + o) (x ++ y) ≡ num n o y
num_append_right n o x y = num_ext n (length x + o) o (x ++ y) y
    (λ k l. let a : length x + o + k ≡ length x + (o + k) = omega arith in ap (λ (j : ℕ). get_or (x ++ y) j 0) a ∙ get_or-append-add x y (o + k) 0)

-- rows of numbers
pub length_nums : (w n o : ℕ) (x : List ℕ) → length (nums w n o x) ≡ n
unfolding nums
length_nums w zero o x = refl
length_nums w (suc n) o x = ap suc (length_nums w n (o + w) x)

-- entry k of a row
pub getD_nums : (w n o k : ℕ) (x : List ℕ) → k < n → get_or (nums w n o x) k 0 ≡ num w (o + w * k) x
unfolding nums
getD_nums w zero o k x h = absurd (omega arith)
getD_nums w (suc n) o zero x h = let a : o + w * 0 ≡ o = omega arith in ap (λ (j : ℕ). num w j x) (sym a)
getD_nums w (suc n) o (suc k) x h =
    let a : o + w + w * k ≡ o + w * suc k = omega (arith, mul-suc w k) in
    getD_nums w n (o + w) k x (omega arith) ∙ ap (λ (j : ℕ). num w j x) a

-- entries of a row are apart
pub entries_apart : (w o k j : ℕ) → j ≢ k → Apart (o + w * k) w (o + w * j) w
entries_apart w o k j ne =
    ⊎_elim
    (λ (l : k < j). inl (let m : w * suc k ≤ w * j = mul-le-mul_left w l in omega (arith, mul-suc w k)))
    (λ (l : j ≤ k). inr (let s : suc j ≤ k = omega arith in let m : w * suc j ≤ w * k = mul-le-mul_left w s in omega (arith, mul-suc w j)))
    (cases_lt k j)

-- two rows with the same entries
pub same_nums : (w n o p : ℕ) (y x : List ℕ) → ((k : ℕ) → k < n → num w (p + w * k) y ≡ num w (o + w * k) x) → nums w n p y ≡ nums w n o x
same_nums w n o p y x h =
    let a : length (nums w n p y) ≡ length (nums w n o x) = length_nums w n p y ∙ sym (length_nums w n o x) in
    ext_get_or 0 (nums w n p y) (nums w n o x) a
    (λ k l. let b : k < n = omega (arith, length_nums w n p y) in getD_nums w n p k y b ∙ h k b ∙ sym (getD_nums w n o k x b))

-- a number apart from a row, and a byte apart from it
pub nums_apart : (n o w m p v : ℕ) (x : List ℕ) → Apart o n p (w * m) → nums w m p (put_num n o v x) ≡ nums w m p x
nums_apart n o w m p v x h =
    same_nums w m p p (put_num n o v x) x
    (λ k l.
    let a : w * suc k ≤ w * m = mul-le-mul_left w l in
    let b = mul-suc w k in
    num_apart n o w (p + w * k) v x (⊎_elim (λ (c : o + n ≤ p). inl (omega arith)) (λ (c : p + w * m ≤ o). inr (omega arith)) h))

pub nums_set : (k w m p v : ℕ) (x : List ℕ) → Apart k 1 p (w * m) → nums w m p (set x k v) ≡ nums w m p x
unfolding put_num
nums_set k w m p v x h = nums_apart 1 k w m p v x h

-- what is put at entry k changes that entry alone
pub nums_put : (w n o k v : ℕ) (x : List ℕ) → 0 < w → k < n → o + w * n ≤ length x → nums w n o (put_num w (o + w * k) v x) ≡ set (nums w n o x) k v
nums_put w n o k v x z h f =
    let y : List ℕ = put_num w (o + w * k) v x in
    let s : List ℕ = nums w n o x in
    let a : length (nums w n o (put_num w (o + w * k) v x)) ≡ n = length_nums w n o (put_num w (o + w * k) v x) in
    let b : length (set (nums w n o x) k v) ≡ n = length-set (nums w n o x) k v ∙ length_nums w n o x in
    ext_get_or 0 (nums w n o (put_num w (o + w * k) v x)) (set (nums w n o x) k v) (a ∙ sym b)
    (λ j l.
    let c : j < n = omega arith in
    getD_nums w n o j (put_num w (o + w * k) v x) c
    ∙ ⊎_elim
    (λ (e : j ≡ k).
    let g : w * suc k ≤ w * n = mul-le-mul_left w h in
    let r : num w (o + w * k) (put_num w (o + w * k) v x) ≡ v = num_put w (o + w * k) v x z (omega (arith, mul-suc w k)) in
    let q : get_or (set (nums w n o x) k v) k 0 ≡ v = get_or-set_same (nums w n o x) k v 0 (omega (arith, length_nums w n o x)) in
    ap (λ (i : ℕ). num w (o + w * i) (put_num w (o + w * k) v x)) e ∙ r ∙ sym q ∙ ap (λ (i : ℕ). get_or (set (nums w n o x) k v) i 0) (sym e))
    (λ (e : j ≡ k → ⊥).
    num_apart w (o + w * k) w (o + w * j) v x (entries_apart w o k j e)
    ∙ sym (getD_nums w n o j x c) ∙ sym (get_or-set_other (nums w n o x) k j v 0 e))
    (cases_eq j k))

-- a row hangs on its bytes alone
pub nums_ext : (w n p o : ℕ) (y x : List ℕ) → ((k : ℕ) → k < w * n → get_or y (p + k) 0 ≡ get_or x (o + k) 0) → nums w n p y ≡ nums w n o x
nums_ext w n p o y x h =
    same_nums w n o p y x
    (λ k l.
    let a : w * suc k ≤ w * n = mul-le-mul_left w l in
    let b = mul-suc w k in
    num_ext w (p + w * k) (o + w * k) y x
    (λ i m.
    let c : p + w * k + i ≡ p + (w * k + i) = omega arith in
    let d : o + (w * k + i) ≡ o + w * k + i = omega arith in
    ap (λ (j : ℕ). get_or y j 0) c ∙ h (w * k + i) (omega arith) ∙ ap (λ (j : ℕ). get_or x j 0) d))

-- rows of zeros
pub nums_zeros : (w n o m : ℕ) → nums w n o (replicate m 0) ≡ replicate n 0
unfolding nums
nums_zeros w zero o m = refl
nums_zeros w (suc n) o m = let a = num_zeros w o m in let b = nums_zeros w n (o + w) m in cc

-- a row with one entry more
pub nums_more : (w n o : ℕ) (x : List ℕ) → nums w (suc n) o x ≡ nums w n o x ++ num w (o + w * n) x ∷ []
unfolding nums
nums_more w zero o x = let a : o ≡ o + w * 0 = omega arith in ap (λ (j : ℕ). num w j x ∷ []) a
nums_more w (suc n) o x =
    let a : o + w + w * n ≡ o + w * suc n = omega (arith, mul-suc w n) in
    ap (λ (y : List ℕ). num w o x ∷ y) (nums_more w n (o + w) x ∙ ap (λ (j : ℕ). nums w n (o + w) x ++ num w j x ∷ []) a)

-- a row that agrees with another below n
pub nums_take : (w n m o : ℕ) (x : List ℕ) → n ≤ m → take n (nums w m o x) ≡ nums w n o x
unfolding nums
nums_take w zero m o x h = refl
nums_take w (suc n) zero o x h = absurd (omega arith)
nums_take w (suc n) (suc m) o x h = ap (λ (y : List ℕ). num w o x ∷ y) (nums_take w n m (o + w) x (omega arith))

-- what is put where it stands already changes nothing; bytes are below 256
pub put_same : (n o : ℕ) (x : List ℕ) → ((k : ℕ) → k < n → get_or x (o + k) 0 < 256) → put_num n o (num n o x) x ≡ x
unfolding num put_num
put_same zero o x h = refl
put_same (suc zero) o x h = set-get_or x o 0
put_same (suc (suc n)) o x h =
    let b = h (suc n) (omega arith) in
    let d : (num (suc n) o x * 256 + get_or x (o + suc n) 0) / 256 ≡ num (suc n) o x = omega arith in
    let r : (num (suc n) o x * 256 + get_or x (o + suc n) 0) % 256 ≡ get_or x (o + suc n) 0 = omega arith in
    ap (λ (v : ℕ). set (put_num (suc n) o v x) (o + suc n) ((num (suc n) o x * 256 + get_or x (o + suc n) 0) % 256)) d
    ∙ ap (λ (v : ℕ). set (put_num (suc n) o (num (suc n) o x) x) (o + suc n) v) r
    ∙ ap (λ (y : List ℕ). set y (o + suc n) (get_or x (o + suc n) 0)) (put_same (suc n) o x (λ k l. h k (omega arith)))
    ∙ set-get_or x (o + suc n) 0

pub put_zeros : (n o m : ℕ) → put_num n o 0 (replicate m 0) ≡ replicate m 0
put_zeros n o m =
    ap (λ (v : ℕ). put_num n o v (replicate m 0)) (sym (num_zeros n o m))
    ∙ put_same n o (replicate m 0) (λ k l. let e = byte_zeros m (o + k) in omega arith)

-- parts of ranges that are apart are apart
pub apart_within : (o n p m a k b l : ℕ) → Apart o n p m → a + k ≤ n → b + l ≤ m → Apart (o + a) k (p + b) l
apart_within o n p m a k b l h f g = ⊎_elim (λ (c : o + n ≤ p). inl (omega arith)) (λ (c : p + m ≤ o). inr (omega arith)) h
