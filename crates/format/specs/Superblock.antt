-- The fields of the superblock, by its bytes.
use Rattle.std.specs.Prelude.{ℕ, ◌+◌, ◌*◌, Bool, true, cond, List, ◌==◌, slice_index}
use Rattle.numbers.specs.Numbers.{num}

-- where the fields begin
abbrev pub at_isize : ℕ
at_isize = 0

abbrev pub at_fsize : ℕ
at_fsize = 2

abbrev pub at_nfree : ℕ
at_nfree = 6

abbrev pub at_free : ℕ
at_free = 8

abbrev pub at_ninode : ℕ
at_ninode = 208

abbrev pub at_inode : ℕ
at_inode = 210

abbrev pub at_flock : ℕ
at_flock = 410

abbrev pub at_ilock : ℕ
at_ilock = 411

abbrev pub at_tfree : ℕ
at_tfree = 426

abbrev pub at_tinode : ℕ
at_tinode = 430

abbrev pub at_magic : ℕ
at_magic = 504

abbrev pub at_type : ℕ
at_type = 508

-- the sizes: the first data block, and the end of the data blocks
abbrev pub isize_of : List ℕ → ℕ
isize_of x = num 2 at_isize x

abbrev pub fsize_of : List ℕ → ℕ
fsize_of x = num 4 at_fsize x

-- how many entries of the free list the superblock holds, entry k of them, and how many blocks are listed in all
abbrev pub nfree_of : List ℕ → ℕ
nfree_of x = num 2 at_nfree x

abbrev pub free_at : ℕ → ℕ
free_at k = at_free + 4 * k

abbrev pub free_of : ℕ → List ℕ → ℕ
free_of k x = num 4 (free_at k) x

abbrev pub tfree_of : List ℕ → ℕ
tfree_of x = num 4 at_tfree x

-- how many numbers of unused inodes the superblock holds, number k of them, and how many inodes are unused in all
abbrev pub ninode_of : List ℕ → ℕ
ninode_of x = num 2 at_ninode x

abbrev pub inode_at : ℕ → ℕ
inode_at k = at_inode + 2 * k

abbrev pub inode_of : ℕ → List ℕ → ℕ
inode_of k x = num 2 (inode_at k) x

abbrev pub tinode_of : List ℕ → ℕ
tinode_of x = num 2 at_tinode x

-- the lock of the free list
abbrev pub flock_of : List ℕ → ℕ
flock_of x = slice_index x at_flock

abbrev pub magic_of : List ℕ → ℕ
magic_of x = num 4 at_magic x

abbrev pub type_of : List ℕ → ℕ
type_of x = num 4 at_type x

abbrev pub magic : ℕ
magic = 0xFD187E20

-- the type is read only where the magic number stands, and is then 1
abbrev pub type_fits : List ℕ → Bool
type_fits x = cond (magic_of x == magic) (type_of x == 1) true
