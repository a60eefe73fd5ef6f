-- The numbers of the layout, each in one place.
use Rattle.std.specs.Prelude.{ℕ, ◌-◌}
use Rattle.disk.specs.Medium.{sector_bytes}

-- a block is one sector
abbrev pub block_bytes : ℕ
block_bytes = sector_bytes

-- addresses in a table, of four bytes each
abbrev pub table_width : ℕ
table_width = 128

-- block 1 is the superblock, the i-list begins at block 2
abbrev pub superblock : ℕ
superblock = 1

abbrev pub first_list_block : ℕ
first_list_block = 2

abbrev pub inodes_per_block : ℕ
inodes_per_block = 8

abbrev pub inode_bytes : ℕ
inode_bytes = 64

-- the slots of an inode; the first of them name data
abbrev pub slots : ℕ
slots = 13

abbrev pub direct_slots : ℕ
direct_slots = 10

-- a direct slot has depth 0; of the others each heads tables one level deeper than the slot before it
abbrev pub depth_of : ℕ → ℕ
depth_of s = s - 9

-- the entries of the free list that the superblock or a chain member holds
abbrev pub list_room : ℕ
list_room = 50

-- the inode numbers that the superblock holds
abbrev pub inode_room : ℕ
inode_room = 100
