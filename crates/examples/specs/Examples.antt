-- Worked examples of the rules.
use Rattle.std.specs.Prelude.{◌≡◌, List, ℕ}
use Rattle.disk.specs.Medium.{Sectors}
use Rattle.format.specs.Superblock.{nfree_of, tfree_of, tinode_of, flock_of}
use Rattle.freelist.specs.Bytes.{Taken, took, refused, take_bytes}
use Rattle.rules.specs.Make.{new_list}

-- the block that a take gives, 0 where it is refused
abbrev pub block_taken : Taken → ℕ
block_taken (took b s m) = b
block_taken (refused f) = 0

-- the superblock that a make of sizes 3 and 20 writes
abbrev pub example_superblock : List ℕ
example_superblock = (new_list 3 20).1

abbrev pub NewVolumeOf3And20 : Type 0
NewVolumeOf3And20 =
    (nfree_of example_superblock ≡ 17) × (tfree_of example_superblock ≡ 16) × (tinode_of example_superblock ≡ 6) × (flock_of example_superblock ≡ 0)
    × ((S : Sectors) → block_taken (take_bytes 3 20 S 1 example_superblock) ≡ 4)
