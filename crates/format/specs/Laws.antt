-- What is to be shown of positions.
use Rattle.std.specs.Prelude.{◌≡◌, ℕ, ◌+◌, ◌<◌, cond, List, [], ◌∷◌, map, length, Some, None, Option, nat_lt}
use Rattle.format.specs.Layout.{table_width, slots, depth_of}
use Rattle.format.specs.Position.{positions, slot_of, path_of}
use Rattle.format.specs.declared.superblock.Field.TheVariants.{Isize, Fsize, Nfree, Free, Ninode, InodeNumber, Tfree, Tinode, Magic, VolumeType}
use Rattle.format.specs.declared.inode.Part.TheVariants.{Mode, Nlink, Size, Slot}
use Rattle.format.specs.Superblock.{isize_of, fsize_of, nfree_of, free_of, ninode_of, inode_of, tfree_of, tinode_of, magic_of, type_of}
use Rattle.format.specs.Inode.{mode_of, nlink_of, size_of, address_of}
use Rattle.numbers.specs.Numbers.{put_num}
use Rattle.format.specs.Superblock.{at_isize, at_fsize, at_nfree, free_at, at_ninode, inode_at, at_tfree, at_tinode}
use Rattle.format.specs.Inode.{start_of_inode, slot_at}
use Rattle.format.specs.Fields.{field_of, part_of, with_field, with_part}

-- each index lies within its table
abbrev pub Within : ℕ → List ℕ → Type 0
Within w [] = Unit {0}
Within w (i ∷ is) = (i < w) × Within w is

-- A position has one slot, as many indices as the slot's depth, each within its table; no two positions share them all; and every such slot and indices are reached.
abbrev pub SplitLaw : Type 0
SplitLaw =
    ((p : ℕ) → p < positions → (slot_of p < slots) × (length (path_of p) ≡ depth_of (slot_of p)) × Within table_width (path_of p))
    × ((p q : ℕ) → p < positions → q < positions → slot_of p ≡ slot_of q → path_of p ≡ path_of q → p ≡ q)
    × ((s : ℕ) (is : List ℕ) → s < slots → length is ≡ depth_of s → Within table_width is → (p : ℕ) × (p < positions) × (slot_of p ≡ s) × (path_of p ≡ is))

-- the slot that a position reaches, if it has a place
abbrev pub slot_reached : ℕ → Option ℕ
slot_reached p = cond (nat_lt p positions) (Some (slot_of p)) None

-- worked examples: positions at both sides of each edge, with the slots that they reach
abbrev pub split_table : List (ℕ × Option ℕ)
split_table = (9, Some 9) ∷ (10, Some 10) ∷ (137, Some 10) ∷ (138, Some 11) ∷ (16521, Some 11) ∷ (16522, Some 12) ∷ (2113674, None) ∷ []

-- each position of the table reaches its slot
abbrev pub SplitExamples : Type 0
SplitExamples = map (λ e. slot_reached e.0) split_table ≡ map (λ e. e.1) split_table

-- each number of a superblock and of an inode is put where the one that has its name is
pub record FieldsArePutByTheirNames : Type 0 where
  pub isize : (v : ℕ) (x : List ℕ) → with_field Isize v x ≡ put_num 2 at_isize v x
  pub fsize : (v : ℕ) (x : List ℕ) → with_field Fsize v x ≡ put_num 4 at_fsize v x
  pub nfree : (v : ℕ) (x : List ℕ) → with_field Nfree v x ≡ put_num 2 at_nfree v x
  pub free : (k v : ℕ) (x : List ℕ) → with_field (Free k) v x ≡ put_num 4 (free_at k) v x
  pub ninode : (v : ℕ) (x : List ℕ) → with_field Ninode v x ≡ put_num 2 at_ninode v x
  pub inode_number : (k v : ℕ) (x : List ℕ) → with_field (InodeNumber k) v x ≡ put_num 2 (inode_at k) v x
  pub tfree : (v : ℕ) (x : List ℕ) → with_field Tfree v x ≡ put_num 4 at_tfree v x
  pub tinode : (v : ℕ) (x : List ℕ) → with_field Tinode v x ≡ put_num 2 at_tinode v x
  pub mode : (i v : ℕ) (x : List ℕ) → with_part i Mode v x ≡ put_num 2 (start_of_inode i) v x
  pub nlink : (i v : ℕ) (x : List ℕ) → with_part i Nlink v x ≡ put_num 2 (start_of_inode i + 2) v x
  pub size : (i v : ℕ) (x : List ℕ) → with_part i Size v x ≡ put_num 4 (start_of_inode i + 8) v x
  pub address : (i s v : ℕ) (x : List ℕ) → with_part i (Slot s) v x ≡ put_num 3 (slot_at i s) v x

-- each number of a superblock and of an inode is the one that has its name
pub record FieldsHaveTheirNames : Type 0 where
  pub isize : (x : List ℕ) → field_of Isize x ≡ isize_of x
  pub fsize : (x : List ℕ) → field_of Fsize x ≡ fsize_of x
  pub nfree : (x : List ℕ) → field_of Nfree x ≡ nfree_of x
  pub free : (k : ℕ) (x : List ℕ) → field_of (Free k) x ≡ free_of k x
  pub ninode : (x : List ℕ) → field_of Ninode x ≡ ninode_of x
  pub inode_number : (k : ℕ) (x : List ℕ) → field_of (InodeNumber k) x ≡ inode_of k x
  pub tfree : (x : List ℕ) → field_of Tfree x ≡ tfree_of x
  pub tinode : (x : List ℕ) → field_of Tinode x ≡ tinode_of x
  pub magic : (x : List ℕ) → field_of Magic x ≡ magic_of x
  pub volume_type : (x : List ℕ) → field_of VolumeType x ≡ type_of x
  pub mode : (i : ℕ) (x : List ℕ) → part_of i Mode x ≡ mode_of i x
  pub nlink : (i : ℕ) (x : List ℕ) → part_of i Nlink x ≡ nlink_of i x
  pub size : (i : ℕ) (x : List ℕ) → part_of i Size x ≡ size_of i x
  pub address : (i s : ℕ) (x : List ℕ) → part_of i (Slot s) x ≡ address_of i s x
