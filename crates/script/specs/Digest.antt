-- The FNV-1a digest of 64 bits.
use Rattle.std.specs.Prelude.{ℕ, ◌*◌, ◌%◌, ◌^◌, List, fold, bit_xor}

-- the digest of no byte
abbrev pub fnv_start : ℕ
fnv_start = 0xCBF29CE484222325

abbrev pub fnv_prime : ℕ
fnv_prime = 0x100000001B3

-- a digest h with one byte more
unfoldable pub fnv_byte : ℕ → ℕ → ℕ
fnv_byte h b = bit_xor h b * fnv_prime % 2 ^ 64

-- a digest h with more bytes
abbrev pub fnv : ℕ → List ℕ → ℕ
fnv h bs = fold fnv_byte h bs

-- a digest h with the bytes of more sectors, in order
abbrev pub fnv_sectors : ℕ → List (List ℕ) → ℕ
fnv_sectors h S = fold fnv h S
