-- A volume: I inodes of J slots each, where `head i s` is the address in slot s of inode i, and 0 for an inode that claims nothing.
use Rattle.std.specs.Prelude.{ℕ, suc, Bool, true, false, cond, ◌&&◌, List, [], ◌∷◌, ◌==◌, nat_le, slice_set}
use Rattle.trees.specs.Trees.{total, named}
use Rattle.trees.specs.Walk.{Scan, code, is_open, steps, walk}

-- how often a file names b, its slots of the given depths
unfoldable pub in_file : ℕ → (ℕ → ℕ → ℕ) → (ℕ → ℕ) → ℕ → (ℕ → ℕ) → ℕ → ℕ
in_file w at depth J head b = total J (λ s. named w at (depth s) (head s) b)

-- how often b is named in all files
unfoldable pub claims : ℕ → (ℕ → ℕ → ℕ) → (ℕ → ℕ) → ℕ → ℕ → (ℕ → ℕ → ℕ) → ℕ → ℕ
claims w at depth I J head b = total I (λ i. in_file w at depth J (head i) b)

-- the file phase of the check: by inode, then slot
unfoldable pub file_phase : ℕ → (ℕ → ℕ → ℕ) → (ℕ → ℕ) → ℕ → ℕ → ℕ → ℕ → (ℕ → ℕ → ℕ) → Scan → Scan
file_phase w at depth lo hi I J head s = steps I (λ i. steps J (λ k. walk w at lo hi (depth k) (head i k))) s

-- a free entry that is an unclaimed data block gets the code 2, any other is a finding
unfoldable pub offer : Bool → ℕ → Scan → Scan
offer true x s = record { codes = slice_set s.codes x 2; found = s.found }
offer false x s = record { codes = s.codes; found = suc s.found }

-- the free phase over the entries of the list
unfoldable pub free_phase : ℕ → ℕ → List ℕ → Scan → Scan
free_phase lo hi [] s = s
free_phase lo hi (x ∷ xs) s = free_phase lo hi xs (offer (is_open lo hi x s) x s)

-- how many data blocks have no code
unfoldable pub missing : ℕ → ℕ → Scan → ℕ
missing lo hi s = total hi (λ b. cond (nat_le lo b && code s b == 0) 1 0)
