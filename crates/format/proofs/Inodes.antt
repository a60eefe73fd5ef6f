-- Where inodes and their slots lie.
use Rattle.std.proofs.Common.{◌≡◌, ℕ, ◌+◌, ◌-◌, ◌%◌, ◌<◌, ◌≤◌, ◌≢◌, inl, inr, ⊎_elim, arith}
use Rattle.std.proofs.lemmas.Bool.{cases_lt}
use Rattle.numbers.specs.Laws.{Apart}
use Rattle.format.specs.Layout.{block_bytes, first_list_block, inodes_per_block, inode_bytes, slots}
use Rattle.format.specs.Sizes.{inodes_of}
use Rattle.format.specs.Inode.{block_of_inode, start_of_inode, slot_at}

-- an inode lies in its block, a slot in its inode
pub start_in : (i : ℕ) → start_of_inode i + inode_bytes ≤ block_bytes
start_in i = omega arith

pub slot_in_inode : (i s : ℕ) → s < slots → slot_at i s + 3 ≤ start_of_inode i + inode_bytes
slot_in_inode i s l = omega arith

-- the blocks of inodes are those of the i-list
pub block_in_list : (isize i : ℕ) → 1 ≤ i → i ≤ inodes_of isize → (first_list_block ≤ block_of_inode i) × (block_of_inode i < isize)
block_in_list isize i a b = (omega arith, omega arith)

-- inodes of one block lie apart
pub inodes_apart : (i j : ℕ) → 1 ≤ i → 1 ≤ j → j ≢ i → block_of_inode j ≡ block_of_inode i → Apart (start_of_inode i) inode_bytes (start_of_inode j) inode_bytes
inodes_apart i j a b ne e =
    ⊎_elim
    (λ (l : (i - 1) % inodes_per_block < (j - 1) % inodes_per_block). inl (omega arith))
    (λ (l : (j - 1) % inodes_per_block ≤ (i - 1) % inodes_per_block). inr (omega arith))
    (cases_lt ((i - 1) % inodes_per_block) ((j - 1) % inodes_per_block))

-- two slots of an inode lie apart
pub slots_apart : (i s r : ℕ) → r ≢ s → Apart (slot_at i s) 3 (slot_at i r) 3
slots_apart i s r ne = ⊎_elim (λ (l : s < r). inl (omega arith)) (λ (l : r ≤ s). inr (omega arith)) (cases_lt s r)
