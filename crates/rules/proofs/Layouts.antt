-- The bytes that make writes: the first block of the i-list, the root's block and the bare superblock.
use Rattle.std.proofs.Common.{◌≡◌, ℕ, zero, suc, ◌+◌, ◌-◌, ◌<◌, ◌≤◌, List, length, get_or, refl, ◌∙◌, inl, inr, ⊎_elim, arith, length-set, get_or-set_other}
use Rattle.numbers.specs.Numbers.{num, put_num}
use Rattle.numbers.specs.Laws.{Apart}
use Rattle.numbers.proofs.Numbers.{put_length, num_put, num_apart, byte_apart, num_zeros, byte_zeros, apart}
use Rattle.format.specs.Layout.{block_bytes, inode_bytes}
use Rattle.format.specs.Superblock.{at_isize, at_fsize, at_tinode, at_magic, at_type, isize_of, fsize_of, magic_of, type_of, magic}
use Rattle.format.specs.Inode.{start_of_inode, slot_at, mode_of, size_of, address_of}
use Rattle.format.specs.Sizes.{inodes_of}
use Rattle.freelist.specs.Bytes.{zeros}
use Rattle.freelist.proofs.Gives.{length_zeros}
use Rattle.rules.specs.Make.{root, root_mode, root_size, root_list_block, list_block, root_block, bare_superblock}

-- ZEROS
pub zeros_byte : (n k : ℕ) → get_or (zeros n) k 0 ≡ 0
unfolding zeros
zeros_byte n k = byte_zeros n k

pub zeros_num : (w o n : ℕ) → num w o (zeros n) ≡ 0
unfolding zeros
zeros_num w o n = num_zeros w o n

-- THE FIRST BLOCK OF THE I-LIST
module _ (isize : ℕ) where
  abbrev x1 : List ℕ
  x1 = put_num 2 (start_of_inode root) root_mode (zeros block_bytes)

  abbrev x2 : List ℕ
  x2 = put_num 2 (start_of_inode root + 2) 2 x1

  abbrev x3 : List ℕ
  x3 = put_num 4 (start_of_inode root + 8) root_size x2

  length_x1 : length x1 ≡ block_bytes
  length_x1 = put_length 2 (start_of_inode root) root_mode (zeros block_bytes) ∙ length_zeros block_bytes

  length_x2 : length x2 ≡ block_bytes
  length_x2 = put_length 2 (start_of_inode root + 2) 2 x1 ∙ length_x1

  length_x3 : length x3 ≡ block_bytes
  length_x3 = put_length 4 (start_of_inode root + 8) root_size x2 ∙ length_x2

  pub length_root_list : length (root_list_block isize) ≡ block_bytes
  unfolding root_list_block
  length_root_list = put_length 3 (slot_at root 0) isize x3 ∙ length_x3

  -- a number apart from the root's mode, links, size and first slot
  fields_apart : (n p : ℕ) → Apart (slot_at root 0) 3 p n → Apart (start_of_inode root + 8) 4 p n → Apart (start_of_inode root + 2) 2 p n → Apart (start_of_inode root) 2 p n
      → num n p (root_list_block isize) ≡ 0
  unfolding root_list_block
  fields_apart n p a b c d =
      num_apart 3 (slot_at root 0) n p isize x3 a ∙ num_apart 4 (start_of_inode root + 8) n p root_size x2 b
      ∙ num_apart 2 (start_of_inode root + 2) n p 2 x1 c ∙ num_apart 2 (start_of_inode root) n p root_mode (zeros block_bytes) d ∙ zeros_num n p block_bytes

  -- all that lies outside inode 2 is zero
  pub root_list_apart : (n p : ℕ) → Apart (start_of_inode root) inode_bytes p n → num n p (root_list_block isize) ≡ 0
  root_list_apart n p h =
      fields_apart n p (within (slot_at root 0) 3 (omega arith) (omega arith)) (within (start_of_inode root + 8) 4 (omega arith) (omega arith))
      (within (start_of_inode root + 2) 2 (omega arith) (omega arith)) (within (start_of_inode root) 2 (omega arith) (omega arith))
    where
      within : (o m : ℕ) → start_of_inode root ≤ o → o + m ≤ start_of_inode root + inode_bytes → Apart o m p n
      within o m a b = ⊎_elim (λ (l : start_of_inode root + inode_bytes ≤ p). inl (omega arith)) (λ (l : p + n ≤ start_of_inode root). inr (omega arith)) h

  pub root_mode_is : mode_of root (root_list_block isize) ≡ root_mode
  unfolding root_list_block
  root_mode_is =
      num_apart 3 (slot_at root 0) 2 (start_of_inode root) isize x3 (apart (slot_at root 0) 3 (start_of_inode root) 2 refl)
      ∙ num_apart 4 (start_of_inode root + 8) 2 (start_of_inode root) root_size x2 (apart (start_of_inode root + 8) 4 (start_of_inode root) 2 refl)
      ∙ num_apart 2 (start_of_inode root + 2) 2 (start_of_inode root) 2 x1 (apart (start_of_inode root + 2) 2 (start_of_inode root) 2 refl)
      ∙ num_put 2 (start_of_inode root) root_mode (zeros block_bytes) (omega arith) (omega (arith, length_zeros block_bytes))

  pub root_size_is : size_of root (root_list_block isize) ≡ root_size
  unfolding root_list_block
  root_size_is =
      num_apart 3 (slot_at root 0) 4 (start_of_inode root + 8) isize x3 (apart (slot_at root 0) 3 (start_of_inode root + 8) 4 refl)
      ∙ num_put 4 (start_of_inode root + 8) root_size x2 (omega arith) (omega (arith, length_x2))

  pub root_slot_0 : address_of root 0 (root_list_block isize) ≡ isize
  unfolding root_list_block
  root_slot_0 = num_put 3 (slot_at root 0) isize x3 (omega arith) (omega (arith, length_x3))

  pub root_slot_other : (s : ℕ) → 0 < s → address_of root s (root_list_block isize) ≡ 0
  root_slot_other s h = fields_apart 3 (slot_at root s) (inl (omega arith)) (inl (omega arith)) (inl (omega arith)) (inl (omega arith))

pub length_list_block : (isize n : ℕ) → length (list_block isize n) ≡ block_bytes
length_list_block isize zero = length_root_list isize
length_list_block isize (suc n) = length_zeros block_bytes

-- THE ROOT'S BLOCK
pub length_root_block : length root_block ≡ block_bytes
unfolding root_block
length_root_block = simp (length-set, put_length) (length_zeros block_bytes)

-- zero after the two cards
pub root_block_tail : (k : ℕ) → root_size ≤ k → get_or root_block k 0 ≡ 0
unfolding root_block
root_block_tail k h =
    get_or-set_other _ 19 k 0x2E 0 (omega arith) ∙ get_or-set_other _ 18 k 0x2E 0 (omega arith)
    ∙ byte_apart 2 16 root k _ (inl (omega arith)) ∙ get_or-set_other _ 2 k 0x2E 0 (omega arith)
    ∙ byte_apart 2 0 root k _ (inl (omega arith)) ∙ zeros_byte block_bytes k

-- THE BARE SUPERBLOCK
module _ (isize fsize : ℕ) where
  abbrev y1 : List ℕ
  y1 = put_num 2 at_isize isize (zeros block_bytes)

  abbrev y2 : List ℕ
  y2 = put_num 4 at_fsize fsize y1

  abbrev y3 : List ℕ
  y3 = put_num 2 at_tinode (inodes_of isize - 2) y2

  abbrev y4 : List ℕ
  y4 = put_num 4 at_magic magic y3

  length_y1 : length y1 ≡ block_bytes
  length_y1 = put_length 2 at_isize isize (zeros block_bytes) ∙ length_zeros block_bytes

  length_y3 : length y3 ≡ block_bytes
  length_y3 = put_length 2 at_tinode (inodes_of isize - 2) y2 ∙ put_length 4 at_fsize fsize y1 ∙ length_y1

  length_y4 : length y4 ≡ block_bytes
  length_y4 = put_length 4 at_magic magic y3 ∙ length_y3

  pub length_bare : length (bare_superblock isize fsize) ≡ block_bytes
  unfolding bare_superblock
  length_bare = put_length 4 at_type 1 y4 ∙ length_y4

  -- a number before the inode count
  before_counts : (n p : ℕ) → p + n ≤ at_tinode → num n p (bare_superblock isize fsize) ≡ num n p y2
  unfolding bare_superblock
  before_counts n p h =
      num_apart 4 at_type n p 1 y4 (inr (omega arith)) ∙ num_apart 4 at_magic n p magic y3 (inr (omega arith)) ∙ num_apart 2 at_tinode n p (inodes_of isize - 2) y2 (inr h)

  pub bare_isize : isize_of (bare_superblock isize fsize) ≡ isize
  bare_isize =
      before_counts 2 at_isize (omega arith) ∙ num_apart 4 at_fsize 2 at_isize fsize y1 (apart at_fsize 4 at_isize 2 refl)
      ∙ num_put 2 at_isize isize (zeros block_bytes) (omega arith) (omega (arith, length_zeros block_bytes))

  pub bare_fsize : fsize_of (bare_superblock isize fsize) ≡ fsize
  bare_fsize = before_counts 4 at_fsize (omega arith) ∙ num_put 4 at_fsize fsize y1 (omega arith) (omega (arith, length_y1))

  pub bare_magic : magic_of (bare_superblock isize fsize) ≡ magic
  unfolding bare_superblock
  bare_magic = num_apart 4 at_type 4 at_magic 1 y4 (apart at_type 4 at_magic 4 refl) ∙ num_put 4 at_magic magic y3 (omega arith) (omega (arith, length_y3))

  pub bare_type : type_of (bare_superblock isize fsize) ≡ 1
  unfolding bare_superblock
  bare_type = num_put 4 at_type 1 y4 (omega arith) (omega (arith, length_y4))
