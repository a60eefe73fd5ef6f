-- The numbers of a script.
use Rattle.std.specs.Prelude.{ℕ, ◌+◌, ◌-◌, ◌*◌, ◌^◌, Bool, true, false, cond, List, [], ◌∷◌, Some, None, Option, nat_le, nat_lt}

-- every byte is a digit
abbrev pub all_digits : List ℕ → Bool
all_digits [] = true
all_digits (b ∷ bs) = cond (nat_le 48 b) (cond (nat_le b 57) (all_digits bs) false) false

-- the number that digits give after those that gave n
abbrev pub decimal : ℕ → List ℕ → ℕ
decimal n [] = n
decimal n (b ∷ bs) = decimal (10 * n + (b - 48)) bs

-- digits that go on after a number n, where the whole stays below 2^32
abbrev pub more_digits : ℕ → List ℕ → Option ℕ
more_digits n bs = cond (all_digits bs) (cond (nat_lt (decimal n bs) (2 ^ 32)) (Some (decimal n bs)) None) None

-- a number of a script: one or more digits, below 2^32
abbrev pub script_number : List ℕ → Option ℕ
script_number [] = None
script_number (b ∷ bs) = more_digits 0 (b ∷ bs)
