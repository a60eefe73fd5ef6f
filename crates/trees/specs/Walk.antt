-- A walk through a tree meets a table first, then what it names. Each block has a code, 0 for none and 1 for a file.
-- What is outside the data blocks, or has a code, counts as a finding, and nothing below it is met.
use Rattle.std.specs.Prelude.{ℕ, zero, suc, ◌<◌, ◌≤◌, Bool, true, false, ◌&&◌, List, ◌==◌, nat_le, nat_lt, slice_index, slice_set}

pub record Scan : Type 0 where
  pub codes : List ℕ
  pub found : ℕ

-- the code of block b
abbrev pub code : Scan → ℕ → ℕ
code s b = slice_index s.codes b

-- blocks lo to hi - 1 are data blocks
abbrev pub Data : ℕ → ℕ → ℕ → Type 0
Data lo hi b = (lo ≤ b) × (b < hi)

-- a is a data block that nothing has claimed
unfoldable pub is_open : ℕ → ℕ → ℕ → Scan → Bool
is_open lo hi a s = (nat_le lo a && nat_lt a hi) && code s a == 0

-- a is claimed and what is below it is walked, or a is a finding
unfoldable pub follow : Bool → ℕ → (Scan → Scan) → Scan → Scan
follow true a below s = below (record { codes = slice_set s.codes a 1; found = s.found })
follow false a below s = record { codes = s.codes; found = suc s.found }

unfoldable pub meet : ℕ → ℕ → ℕ → (Scan → Scan) → Scan → Scan
meet lo hi zero below s = s
meet lo hi (suc a) below s = follow (is_open lo hi (suc a) s) (suc a) below s

-- steps 0 to m - 1, in this order
unfoldable pub steps : ℕ → (ℕ → Scan → Scan) → Scan → Scan
steps zero g s = s
steps (suc m) g s = g m (steps m g s)

unfoldable pub walk : ℕ → (ℕ → ℕ → ℕ) → ℕ → ℕ → ℕ → ℕ → Scan → Scan
walk w at lo hi zero a s = meet lo hi a (λ t. t) s
walk w at lo hi (suc d) a s = meet lo hi a (λ t. steps w (λ k. walk w at lo hi d (at a k)) t) s
