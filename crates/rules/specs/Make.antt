-- The rule of make: what it writes, in order, and what it answers.
use Rattle.std.specs.Prelude.{ℕ, zero, suc, ◌+◌, ◌-◌, cond, List, [], ◌∷◌, ◌++◌, length, ◌==◌, nat_le, slice_set}
use Rattle.fault.specs.declared.refusal.Refusal.TheVariants.{BufferSize, MakeSizes}
use Rattle.fault.specs.Refusals.{beyond, keeper}
use Rattle.disk.specs.Medium.{Sectors, Write}
use Rattle.numbers.specs.Numbers.{put_num}
use Rattle.format.specs.Layout.{block_bytes, superblock, first_list_block}
use Rattle.format.specs.Superblock.{at_isize, at_fsize, at_tinode, at_magic, at_type, magic}
use Rattle.format.specs.Inode.{start_of_inode, slot_at}
use Rattle.format.specs.Sizes.{lawful_sizes, inodes_of}
use Rattle.freelist.specs.Bytes.{zeros, gave_all, unclaimed, emptied}
use Rattle.rules.specs.Calls.{Answer, sized, judged, done, refused}

-- the root directory is inode 2
abbrev pub root : ℕ
root = 2

abbrev pub root_mode : ℕ
root_mode = 0x41ED

-- two cards of 16 bytes
abbrev pub root_size : ℕ
root_size = 32

-- the first block of the i-list: inode 2 names the first data block; every other inode is zero
unfoldable pub root_list_block : ℕ → List ℕ
root_list_block isize =
    put_num 3 (slot_at root 0) isize
    (put_num 4 (start_of_inode root + 8) root_size
    (put_num 2 (start_of_inode root + 2) 2
    (put_num 2 (start_of_inode root) root_mode (zeros block_bytes))))

-- block n of the i-list, from 0
abbrev pub list_block : ℕ → ℕ → List ℕ
list_block isize zero = root_list_block isize
list_block isize (suc n) = zeros block_bytes

-- the first n blocks of the i-list, the lowest first
unfoldable pub list_writes : ℕ → ℕ → List Write
list_writes isize zero = []
list_writes isize (suc n) = list_writes isize n ++ ((first_list_block + n, list_block isize n) ∷ [])

-- the root's block: "." and ".." with number 2, then zeros
unfoldable pub root_block : List ℕ
root_block = slice_set (slice_set (put_num 2 16 root (slice_set (put_num 2 0 root (zeros block_bytes)) 2 0x2E)) 18 0x2E) 19 0x2E

-- the superblock before the blocks are given: the sizes, the unused inodes, magic number and type
unfoldable pub bare_superblock : ℕ → ℕ → List ℕ
bare_superblock isize fsize =
    put_num 4 at_type 1
    (put_num 4 at_magic magic
    (put_num 2 at_tinode (inodes_of isize - 2)
    (put_num 4 at_fsize fsize
    (put_num 2 at_isize isize (zeros block_bytes)))))

-- every data block but the root's is given, the highest first, to an empty list
unfoldable pub new_list : ℕ → ℕ → List Write × List ℕ
new_list isize fsize = gave_all (unclaimed [] (isize + 1) (fsize - (isize + 1))) (emptied (bare_superblock isize fsize))

-- the i-list, the root's block, the chain members, the superblock
unfoldable pub make_writes : ℕ → ℕ → List Write
make_writes isize fsize =
    list_writes isize (isize - first_list_block)
    ++ (((isize, root_block) ∷ [])
    ++ ((new_list isize fsize).0
    ++ ((superblock, (new_list isize fsize).1) ∷ [])))

-- the tests, in their order: 4, 5 with the last sector, 3 for a sector buffer of another length
abbrev pub make_answer : ℕ → ℕ → ℕ → ℕ → Answer
make_answer isize fsize buffer n =
    cond (lawful_sizes isize fsize)
    (cond (nat_le fsize n) (cond (buffer == block_bytes) done (refused (keeper BufferSize))) (refused (beyond (fsize - 1))))
    (refused (keeper MakeSizes))

abbrev pub make_by : ℕ → ℕ → Answer → List Write
make_by isize fsize (sized z) = []
make_by isize fsize (judged v) = []
make_by isize fsize done = make_writes isize fsize
make_by isize fsize (refused f) = []

-- make of sizes isize and fsize with a sector buffer of so many bytes
abbrev pub make_rule : ℕ → ℕ → ℕ → Sectors → List Write × Answer
make_rule isize fsize buffer S = (make_by isize fsize (make_answer isize fsize buffer (length S)), make_answer isize fsize buffer (length S))

-- an accepted make leaves in the sector buffer the superblock that it wrote
abbrev pub make_buffer : ℕ → ℕ → Answer → List ℕ → List ℕ
make_buffer isize fsize (sized z) old = old
make_buffer isize fsize (judged v) old = old
make_buffer isize fsize done old = (new_list isize fsize).1
make_buffer isize fsize (refused f) old = old
