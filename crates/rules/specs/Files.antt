-- Files: what is on a disk, and the file book.
use Rattle.std.specs.Prelude.{◌≡◌, ℕ, zero, suc, ◌/◌, ◌%◌, ◌<◌, Bool, cond, ◌&&◌, List, [], Some, None, Option, ◌==◌, nat_le, slice_index, slice_index_or}
use Rattle.disk.specs.Medium.{Sectors}
use Rattle.format.specs.Layout.{block_bytes}
use Rattle.format.specs.Inode.{inode_type, size_of, claims_blocks}
use Rattle.format.specs.Position.{slot_of, path_of}
use Rattle.format.specs.Sizes.{Sizes, inodes_of}
use Rattle.freelist.specs.Bytes.{zeros}
use Rattle.trees.specs.Trees.{reach}
use Rattle.verdict.specs.Sound.{inode_block, head, entry}
use Rattle.rules.specs.Make.{root, root_size, root_block}

-- a file: its size, and its bytes below that
pub record File : Type 0 where
  pub size : ℕ
  pub byte : ℕ → ℕ

pub record Same (f g : File) : Type 0 where
  pub sizes : f.size ≡ g.size
  pub bytes : (k : ℕ) → k < f.size → f.byte k ≡ g.byte k

-- there and the same in both, or absent in both
abbrev pub Alike : Option File → Option File → Type 0
Alike None None = Unit {0}
Alike None (Some g) = ⊥
Alike (Some f) None = ⊥
Alike (Some f) (Some g) = Same f g

-- files by inode number
abbrev pub Book : Type 0
Book = ℕ → Option File

-- the bytes of block a; an absent block reads as zeros
unfoldable pub block_bytes_at : Sectors → ℕ → List ℕ
block_bytes_at S zero = zeros block_bytes
block_bytes_at S (suc a) = slice_index_or S (suc a) []

-- the address that position p of inode i reaches
unfoldable pub address_at : Sectors → ℕ → ℕ → ℕ
address_at S i p = reach (entry S) (path_of p) (head S i (slot_of p))

-- the stored bytes of position p of inode i
abbrev pub stored : Sectors → ℕ → ℕ → List ℕ
stored S i p = block_bytes_at S (address_at S i p)

abbrev pub file_of : Sectors → ℕ → File
file_of S i = record { size = size_of i (inode_block S i); byte = λ k. slice_index (stored S i (k / block_bytes)) (k % block_bytes) }

-- inode i is a regular file or a directory
abbrev pub is_file : Sectors → Sizes → ℕ → Bool
is_file S z i = (nat_le 1 i && nat_le i (inodes_of z.isize)) && claims_blocks (inode_type i (inode_block S i))

-- the files that are on the sectors of a volume
unfoldable pub files_on : Sectors → Sizes → Book
files_on S z i = cond (is_file S z i) (Some (file_of S i)) None

-- the root directory as make leaves it
abbrev pub root_file : File
root_file = record { size = root_size; byte = λ k. slice_index root_block k }

-- the book of a newly made volume: the root directory alone
unfoldable pub first_book : Book
first_book i = cond (i == root) (Some root_file) None
