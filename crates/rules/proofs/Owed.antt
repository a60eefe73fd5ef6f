-- What every point of a run keeps, and what one call owes to that.
use Rattle.std.proofs.Common.{◌≡◌, ℕ, ◌+◌, ◌*◌, ◌<◌, ◌≤◌, true, false, List, [], length, get_or, take, Some, None, Ok, Option, refl}
use Rattle.disk.specs.Medium.{Sectors, Sized, after}
use Rattle.format.specs.Layout.{block_bytes, superblock}
use Rattle.format.specs.Superblock.{flock_of, nfree_of, tfree_of}
use Rattle.format.specs.Inode.{size_of}
use Rattle.format.specs.Position.{positions}
use Rattle.format.specs.Sizes.{Sizes, Bounds, inodes_of}
use Rattle.trees.specs.Trees.{hit, count}
use Rattle.trees.specs.Walk.{Data}
use Rattle.verdict.specs.Sound.{inode_block, claims_on, Lawful}
use Rattle.rules.specs.Calls.{done, lookup}
use Rattle.rules.specs.Make.{make_answer, make_writes}
use Rattle.rules.specs.Files.{File, Alike, Book, stored, files_on, first_book}
use Rattle.rules.specs.Runs.{Ask, rule, writes, fed, settles, Point}
use Rattle.rules.specs.Promises.{Right, BeforeOrAfter}

-- What the sectors of a volume keep wherever power fails: no block has two claims, all is lawful, and a file stores only zeros past its size.
-- A call that needs more adds a field here.
pub record Safe (S : Sectors) (z : Sizes) : Type 0 where
  pub found : lookup S ≡ Ok z
  pub bounds : Bounds z.isize z.fsize
  pub sized : Sized S
  pub unlocked : flock_of (get_or S superblock []) ≡ 0
  -- the blocks that the free list lists
  pub free : List ℕ
  pub lawful : Lawful S z.isize z.fsize free
  pub most : (b : ℕ) → claims_on S z.isize b + count free b ≤ 1
  pub grounded : 0 < nfree_of (get_or S superblock [])
  pub counted : tfree_of (get_or S superblock []) ≡ length free
  -- sizes lie within the positions, and what is stored past a size is zero
  pub within : (i : ℕ) → 0 < i → i ≤ inodes_of z.isize → size_of i (inode_block S i) ≤ block_bytes * positions
  pub tails : (i p k : ℕ) → 0 < i → i ≤ inodes_of z.isize → p < positions → size_of i (inode_block S i) ≤ block_bytes * p + k → get_or (stored S i p) k 0 ≡ 0

-- no data block is missing
pub record Whole (S : Sectors) (z : Sizes) : Type 0 where
  pub safe : Safe S z
  pub one : (b : ℕ) → Data z.isize z.fsize b → claims_on S z.isize b + count safe.free b ≡ 1

-- the files on the sectors are the book's
abbrev pub Booked : Sectors → Sizes → Book → Type 0
Booked S z B = (i : ℕ) → Alike (files_on S z i) (B i)

-- what every point of a run keeps
pub record Kept (x : Point) : Type 0 where
  pub safe : Safe x.disk.sectors x.sizes
  pub whole : x.unmended ≡ false → Whole x.disk.sectors x.sizes
  pub booked : Booked x.disk.sectors x.sizes x.book

-- What one call owes: wherever its writes are cut the volume is safe and each file as before or after; at the end all is whole that was,
-- the book is the files', and the answer is right.
pub record Owes (a : Ask) : Type 0 where
  pub safe : (S : Sectors) (z : Sizes) → Safe S z → (k : ℕ) → Safe (after (take k (writes a S)) S) z
  pub files : (S : Sectors) (z : Sizes) → Safe S z → (k : ℕ) → BeforeOrAfter S (after (writes a S) S) (after (take k (writes a S)) S) z
  pub whole : (S : Sectors) (z : Sizes) → Whole S z → Whole (after (writes a S) S) z
  pub settled : (S : Sectors) (z : Sizes) → Safe S z → settles a (rule a S).1 ≡ true → Whole (after (writes a S) S) z
  pub booked : (S : Sectors) (z : Sizes) (B : Book) → Safe S z → Booked S z B → Booked (after (writes a S) S) z (fed B a (rule a S).1)
  pub right : (x : Point) → Kept x → Right x a (rule a x.disk.sectors).1

pub alike_same : (f : Option File) → Alike f f
alike_same None = tt
alike_same (Some f) = record { sizes = refl; bytes = λ k h. refl }

-- what make leaves: a whole volume with the root directory alone, whose block is the only one that files claim
pub record Fresh (T : Sectors) (z : Sizes) : Type 0 where
  pub whole : Whole T z
  pub booked : Booked T z first_book
  pub claimed : (b : ℕ) → claims_on T z.isize b ≡ hit z.isize b

-- what make owes on a disk that it accepts
abbrev pub MakeOwes : Type 0
MakeOwes =
    (z : Sizes) (S : Sectors) → Sized S → make_answer z.isize z.fsize block_bytes (length S) ≡ done → Fresh (after (make_writes z.isize z.fsize) S) z
