-- What is to be shown of numbers in a row of bytes.
use Rattle.std.specs.Prelude.{◌≡◌, ℕ, ◌+◌, ◌<◌, ◌≤◌, ◌⊎◌, List, length, slice_index}
use Rattle.numbers.specs.Numbers.{num, put_num}

-- two ranges of bytes that do not meet
abbrev pub Apart : ℕ → ℕ → ℕ → ℕ → Type 0
Apart o n p m = (o + n ≤ p) ⊎ (p + m ≤ o)

-- what is put reads back; what lies apart from it stays; no length changes
abbrev pub FieldLaw : Type 0
FieldLaw =
    ((n o v : ℕ) (x : List ℕ) → 0 < n → o + n ≤ length x → num n o (put_num n o v x) ≡ v)
    × ((n o m p v : ℕ) (x : List ℕ) → Apart o n p m → num m p (put_num n o v x) ≡ num m p x)
    × ((n o v k : ℕ) (x : List ℕ) → Apart o n k 1 → slice_index (put_num n o v x) k ≡ slice_index x k)
    × ((n o v : ℕ) (x : List ℕ) → length (put_num n o v x) ≡ length x)
