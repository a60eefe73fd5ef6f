-- The numbers of the superblock and of an inode: where each begins, and its bytes.
use Rattle.std.specs.Prelude.{ℕ, ◌+◌, ◌<◌, ◌≤◌, List}
use Rattle.std.proofs.Common.{arith, lit≤}
use Rattle.format.specs.declared.superblock.Field.{Field}
use Rattle.format.specs.declared.superblock.Field.TheVariants.{Isize, Fsize, Nfree, Free, Ninode, InodeNumber, Tfree, Tinode, Magic, VolumeType}
use Rattle.format.specs.declared.inode.InodeField.{InodeField}
use Rattle.format.specs.declared.inode.Part.{Part}
use Rattle.format.specs.declared.inode.Part.TheVariants.{Mode, Nlink, Size, Slot}
use Rattle.numbers.specs.Numbers.{num, put_num}
use Rattle.format.specs.Layout.{block_bytes, list_room, inode_room, slots}
use Rattle.format.specs.Superblock.{at_isize, at_fsize, at_nfree, free_at, at_ninode, inode_at, at_tfree, at_tinode, at_magic, at_type}
use Rattle.format.specs.Inode.{start_of_inode, slot_at}

-- an entry and a number lie within their rows
abbrev pub IsThere : Field → Type 0
IsThere Isize = Unit {0}
IsThere Fsize = Unit {0}
IsThere Nfree = Unit {0}
IsThere (Free k) = k < list_room
IsThere Ninode = Unit {0}
IsThere (InodeNumber k) = k < inode_room
IsThere Tfree = Unit {0}
IsThere Tinode = Unit {0}
IsThere Magic = Unit {0}
IsThere VolumeType = Unit {0}

abbrev pub at_of : Field → ℕ
at_of Isize = at_isize
at_of Fsize = at_fsize
at_of Nfree = at_nfree
at_of (Free k) = free_at k
at_of Ninode = at_ninode
at_of (InodeNumber k) = inode_at k
at_of Tfree = at_tfree
at_of Tinode = at_tinode
at_of Magic = at_magic
at_of VolumeType = at_type

abbrev pub width_of : Field → ℕ
width_of Isize = 2
width_of Fsize = 4
width_of Nfree = 2
width_of (Free k) = 4
width_of Ninode = 2
width_of (InodeNumber k) = 2
width_of Tfree = 4
width_of Tinode = 2
width_of Magic = 4
width_of VolumeType = 4

-- the number in a superblock x
abbrev pub field_of : Field → List ℕ → ℕ
field_of f x = num (width_of f) (at_of f) x

-- a superblock x with v as that number
abbrev pub with_field : Field → ℕ → List ℕ → List ℕ
with_field f v x = put_num (width_of f) (at_of f) v x

pub within : (f : Field) → IsThere f → at_of f + width_of f ≤ block_bytes
within Isize h = lit≤ tt
within Fsize h = lit≤ tt
within Nfree h = lit≤ tt
within (Free k) h = omega arith
within Ninode h = lit≤ tt
within (InodeNumber k) h = omega arith
within Tfree h = lit≤ tt
within Tinode h = lit≤ tt
within Magic h = lit≤ tt
within VolumeType h = lit≤ tt

pub narrow : (f : Field) → width_of f ≤ 4
narrow Isize = lit≤ tt
narrow Fsize = lit≤ tt
narrow Nfree = lit≤ tt
narrow (Free k) = lit≤ tt
narrow Ninode = lit≤ tt
narrow (InodeNumber k) = lit≤ tt
narrow Tfree = lit≤ tt
narrow Tinode = lit≤ tt
narrow Magic = lit≤ tt
narrow VolumeType = lit≤ tt

-- the same for a part of an inode, in the inode's block
abbrev pub LiesInInode : Part → Type 0
LiesInInode Mode = Unit {0}
LiesInInode Nlink = Unit {0}
LiesInInode Size = Unit {0}
LiesInInode (Slot s) = s < slots

abbrev pub IsInInode : InodeField → Type 0
IsInInode f = LiesInInode f.part

abbrev pub at_part : ℕ → Part → ℕ
at_part i Mode = start_of_inode i
at_part i Nlink = start_of_inode i + 2
at_part i Size = start_of_inode i + 8
at_part i (Slot s) = slot_at i s

abbrev pub at_in : InodeField → ℕ
at_in f = at_part f.inode f.part

abbrev pub width_of_part : Part → ℕ
width_of_part Mode = 2
width_of_part Nlink = 2
width_of_part Size = 4
width_of_part (Slot s) = 3

abbrev pub width_in : InodeField → ℕ
width_in f = width_of_part f.part

pub within_inode : (f : InodeField) → IsInInode f → at_in f + width_in f ≤ block_bytes
within_inode f h = go f.part h
  where
    go : (p : Part) → LiesInInode p → at_part f.inode p + width_of_part p ≤ block_bytes
    go Mode h = omega arith
    go Nlink h = omega arith
    go Size h = omega arith
    go (Slot s) h = omega arith

pub narrow_inode : (f : InodeField) → width_in f ≤ 4
narrow_inode f = go f.part
  where
    go : (p : Part) → width_of_part p ≤ 4
    go Mode = lit≤ tt
    go Nlink = lit≤ tt
    go Size = lit≤ tt
    go (Slot s) = lit≤ tt

-- the number in the block x of inode i
abbrev pub part_of : ℕ → Part → List ℕ → ℕ
part_of i p x = num (width_of_part p) (at_part i p) x

abbrev pub with_part : ℕ → Part → ℕ → List ℕ → List ℕ
with_part i p v x = put_num (width_of_part p) (at_part i p) v x
