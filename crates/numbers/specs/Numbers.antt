-- Numbers in a row of bytes, high byte first.
use Rattle.std.specs.Prelude.{ℕ, zero, suc, ◌+◌, ◌*◌, ◌/◌, ◌%◌, List, [], ◌∷◌, slice_index, slice_set}

-- the number in the n bytes from o on
unfoldable pub num : ℕ → ℕ → List ℕ → ℕ
num zero o x = 0
num (suc zero) o x = slice_index x o
num (suc (suc n)) o x = num (suc n) o x * 256 + slice_index x (o + suc n)

-- v is put there; the first byte takes what is left, so that every number reads back
unfoldable pub put_num : ℕ → ℕ → ℕ → List ℕ → List ℕ
put_num zero o v x = x
put_num (suc zero) o v x = slice_set x o v
put_num (suc (suc n)) o v x = slice_set (put_num (suc n) o (v / 256) x) (o + suc n) (v % 256)

-- n numbers of w bytes each
unfoldable pub nums : ℕ → ℕ → ℕ → List ℕ → List ℕ
nums w zero o x = []
nums w (suc n) o x = num w o x ∷ nums w n (o + w) x
