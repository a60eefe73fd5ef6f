-- Turns one after another.
use Rattle.std.proofs.Common.{◌≡◌, ℕ, zero, suc, ◌+◌, ◌-◌, refl, arith}
use Rattle.verdict.specs.Scan.{rows, rest}

-- no turn
pub rows_none : {A : Type 0} (k : ℕ) (g : ℕ → A → A) (s : A) → rows 0 k g s ≡ s
unfolding rows
rows_none k g s = refl

-- the last turn apart
pub rows_last : {A : Type 0} (n k : ℕ) (g : ℕ → A → A) (s : A) → rows (suc n) k g s ≡ g (k + n) (rows n k g s)
unfolding rows
rows_last zero k g s = let e : k + 0 ≡ k = omega arith in rw e
rows_last (suc n) k g s = let e : k + suc n ≡ suc k + n = omega arith in rw e (rows_last n (suc k) g (g k s))

-- what each turn keeps
pub rows_keep : {A : Type 0} (P : A → Type 0) (g : ℕ → A → A) → ((k : ℕ) (s : A) → P s → P (g k s)) → (n k : ℕ) (s : A) → P s → P (rows n k g s)
unfolding rows
rows_keep P g h zero k s p = p
rows_keep P g h (suc n) k s p = rows_keep P g h n (suc k) (g k s) (h k s p)

pub rest_keep : {A : Type 0} (P : A → Type 0) (g : ℕ → A → A) → ((k : ℕ) (s : A) → P s → P (g k s)) → (w k : ℕ) (s : A) → P s → P (rest w k g s)
unfolding rest
rest_keep P g h w k s p = rows_keep P g h (w - k) k s p

-- from the first turn on
pub rest_all : {A : Type 0} (w : ℕ) (g : ℕ → A → A) (s : A) → rest w 0 g s ≡ rows w 0 g s
unfolding rest
rest_all w g s = let e : w - 0 ≡ w = omega arith in rw e
