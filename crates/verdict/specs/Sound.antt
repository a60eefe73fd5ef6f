-- What the verdict says of a volume, in terms of claims.
use Rattle.std.specs.Prelude.{◌≡◌, ℕ, zero, suc, ◌+◌, ◌*◌, ◌<◌, ◌≤◌, true, cond, ◌⊎◌, List, [], length, slice_index, slice_index_or}
use Rattle.disk.specs.Medium.{Sectors}
use Rattle.numbers.specs.Numbers.{num}
use Rattle.format.specs.Layout.{table_width, superblock, slots, depth_of}
use Rattle.format.specs.Inode.{block_of_inode, inode_type, address_of, claims_blocks, known_type}
use Rattle.format.specs.Sizes.{Bounds, inodes_of}
use Rattle.freelist.specs.Stack.{Lists}
use Rattle.freelist.specs.Bytes.{free_list_of}
use Rattle.freelist.specs.Chain.{chain}
use Rattle.trees.specs.Trees.{total, count}
use Rattle.trees.specs.Walk.{Data}
use Rattle.trees.specs.Volume.{claims}
use Rattle.verdict.specs.Verdict.{findings_in, files_of, codes_of, verdict_of}

-- the i-list block that holds inode i
abbrev pub inode_block : Sectors → ℕ → List ℕ
inode_block S i = slice_index_or S (block_of_inode i) []

-- the address in slot s of inode i, 0 where the inode claims no blocks
unfoldable pub head : Sectors → ℕ → ℕ → ℕ
head S i s = cond (claims_blocks (inode_type i (inode_block S i))) (address_of i s (inode_block S i)) 0

-- address k of the table in block a; the absent table has none
unfoldable pub entry : Sectors → ℕ → ℕ → ℕ
entry S zero k = 0
entry S (suc a) k = num 4 (4 * k) (slice_index_or S (suc a) [])

-- how many slots and table entries of inodes name block b
unfoldable pub claims_on : Sectors → ℕ → ℕ → ℕ
claims_on S isize b = claims table_width (entry S) depth_of (inodes_of isize) slots (λ k s. head S (suc k) s) b

-- every type, every address that is read and every part of the free list is lawful; the list lists L
pub record Lawful (S : Sectors) (isize fsize : ℕ) (L : List ℕ) : Type 0 where
  pub types : (i : ℕ) → 0 < i → i ≤ inodes_of isize → known_type (inode_type i (inode_block S i)) ≡ true
  pub addresses : (b : ℕ) → 0 < claims_on S isize b → Data isize fsize b
  pub list : Lists chain isize fsize S (free_list_of (slice_index_or S superblock [])) L

-- every data block has one claim, by one inode or by the free list
pub record OneClaimEach (S : Sectors) (isize fsize : ℕ) : Type 0 where
  pub free : List ℕ
  pub lawful : Lawful S isize fsize free
  pub one : (b : ℕ) → Data isize fsize b → claims_on S isize b + count free b ≡ 1

-- no block has two claims; data blocks may be without one
pub record NoTwoClaims (S : Sectors) (isize fsize : ℕ) : Type 0 where
  pub free : List ℕ
  pub lawful : Lawful S isize fsize free
  pub most : (b : ℕ) → claims_on S isize b + count free b ≤ 1

-- status 0 exactly when every data block has one claim and all is lawful
abbrev pub Status0SaysOneClaimEach : Type 0
Status0SaysOneClaimEach =
    (S : Sectors) (isize fsize room : ℕ) → Bounds isize fsize
    → ((verdict_of S isize fsize room).status ≡ 0 → OneClaimEach S isize fsize)
    × (OneClaimEach S isize fsize → (verdict_of S isize fsize room).status ≡ 0)

-- status 0 or 0x08 exactly when that holds but for blocks without a claim
abbrev pub Status0Or8SaysNoTwoClaims : Type 0
Status0Or8SaysNoTwoClaims =
    (S : Sectors) (isize fsize room : ℕ) → Bounds isize fsize
    → (((verdict_of S isize fsize room).status ≡ 0) ⊎ ((verdict_of S isize fsize room).status ≡ 8) → NoTwoClaims S isize fsize)
    × (NoTwoClaims S isize fsize → ((verdict_of S isize fsize room).status ≡ 0) ⊎ ((verdict_of S isize fsize room).status ≡ 8))

-- every block has one code
abbrev pub OneCodeForEachBlock : Type 0
OneCodeForEachBlock = (S : Sectors) (isize fsize : ℕ) → length (codes_of S isize fsize) ≡ fsize

-- where no block has two claims, a code is 1 for a claim of a file, 2 for one of the free list, else 0
abbrev pub CodesSayWhoClaims : Type 0
CodesSayWhoClaims =
    (S : Sectors) (isize fsize : ℕ) → Bounds isize fsize → (h : NoTwoClaims S isize fsize)
    → (b : ℕ) → slice_index (codes_of S isize fsize) b ≡ claims_on S isize b + 2 * count h.free b

-- there used is the number of claims of files, free the length of the free list, and nothing is found
abbrev pub CensusCountsTheClaims : Type 0
CensusCountsTheClaims =
    (S : Sectors) (isize fsize room : ℕ) → Bounds isize fsize → (h : NoTwoClaims S isize fsize)
    → ((verdict_of S isize fsize room).census.used ≡ total fsize (claims_on S isize))
    × ((verdict_of S isize fsize room).census.free ≡ length h.free)
    × ((verdict_of S isize fsize room).findings ≡ 0)

-- on every volume each data block is used, free or missing
abbrev pub CensusCoversTheDataBlocks : Type 0
CensusCoversTheDataBlocks =
    (S : Sectors) (isize fsize room : ℕ) → Bounds isize fsize
    → isize + (verdict_of S isize fsize room).census.used + (verdict_of S isize fsize room).census.free + (verdict_of S isize fsize room).census.missing ≡ fsize

-- every type and every address in files is lawful, and no block has two claims of files
pub record FilesLawful (S : Sectors) (isize fsize : ℕ) : Type 0 where
  pub types : (i : ℕ) → 0 < i → i ≤ inodes_of isize → known_type (inode_type i (inode_block S i)) ≡ true
  pub addresses : (b : ℕ) → 0 < claims_on S isize b → Data isize fsize b
  pub most : (b : ℕ) → claims_on S isize b ≤ 1

-- the file phase finds nothing exactly when the files are lawful; a code then is 1 for a claim, else 0
abbrev pub FilePhaseSaysLawfulFiles : Type 0
FilePhaseSaysLawfulFiles =
    (S : Sectors) (isize fsize : ℕ) → Bounds isize fsize
    → (findings_in (files_of S isize fsize).log ≡ [] → FilesLawful S isize fsize)
    × (FilesLawful S isize fsize → findings_in (files_of S isize fsize).log ≡ [])
    × (FilesLawful S isize fsize → (b : ℕ) → slice_index (files_of S isize fsize).codes b ≡ claims_on S isize b)
    × (length (files_of S isize fsize).codes ≡ fsize)
