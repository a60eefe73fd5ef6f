-- What a walk through all files and the free list finds, by counting.
use Rattle.std.specs.Prelude.{◌≡◌, ℕ, ◌+◌, ◌*◌, ◌<◌, ◌≤◌, List, length}
use Rattle.std.specs.List.{AllByRecursion}
use Rattle.trees.specs.Trees.{count, named, Absent}
use Rattle.trees.specs.Walk.{Scan, code, Data, walk}
use Rattle.trees.specs.Volume.{claims, file_phase, free_phase, missing}

-- no block has two claims, of files and of the free list, and only data blocks have one
pub record Sound (lo hi w : ℕ) (at : ℕ → ℕ → ℕ) (depth : ℕ → ℕ) (I J : ℕ) (head : ℕ → ℕ → ℕ) (free : List ℕ) : Type 0 where
  pub once : (b : ℕ) → claims w at depth I J head b + count free b ≤ 1
  pub lawful : (b : ℕ) → 0 < claims w at depth I J head b + count free b → Data lo hi b

-- no data block is missing
abbrev pub Full : ℕ → ℕ → ℕ → (ℕ → ℕ → ℕ) → (ℕ → ℕ) → ℕ → ℕ → (ℕ → ℕ → ℕ) → List ℕ → Type 0
Full lo hi w at depth I J head free = (b : ℕ) → Data lo hi b → 0 < claims w at depth I J head b + count free b

-- the files, then the free list
abbrev pub phases : ℕ → (ℕ → ℕ → ℕ) → (ℕ → ℕ) → ℕ → ℕ → ℕ → ℕ → (ℕ → ℕ → ℕ) → List ℕ → Scan → Scan
phases w at depth lo hi I J head free s = free_phase lo hi free (file_phase w at depth lo hi I J head s)

-- a code for each block, all 0, and no finding
pub record Blank (hi : ℕ) (s : Scan) : Type 0 where
  pub long : hi ≤ length s.codes
  pub none : (b : ℕ) → code s b ≡ 0
  pub clean : s.found ≡ 0

-- From a code for each data block, none above 1: a walk meets no finding just if each address in the tree is a data block
-- and no block is named twice, what was claimed before included. The codes then are those before and the blocks named.
abbrev pub WalkSaysEachBlockOnce : Type 0
WalkSaysEachBlockOnce =
    (w : ℕ) (at : ℕ → ℕ → ℕ) → Absent at → (lo hi d a : ℕ) (s : Scan) → hi ≤ length s.codes → ((b : ℕ) → code s b ≤ 1)
    → (((walk w at lo hi d a s).found ≡ s.found → ((b : ℕ) → 0 < named w at d a b → Data lo hi b) × ((b : ℕ) → code s b + named w at d a b ≤ 1))
    × (((b : ℕ) → 0 < named w at d a b → Data lo hi b) × ((b : ℕ) → code s b + named w at d a b ≤ 1) → (walk w at lo hi d a s).found ≡ s.found))
    × ((walk w at lo hi d a s).found ≡ s.found → (b : ℕ) → code (walk w at lo hi d a s) b ≡ code s b + named w at d a b)

-- From no codes: the file phase meets no finding just if each address is a data block and none is named twice. The codes then are the claims.
abbrev pub FilesSayEachBlockOnce : Type 0
FilesSayEachBlockOnce =
    (w : ℕ) (at : ℕ → ℕ → ℕ) → Absent at → (depth : ℕ → ℕ) (lo hi I J : ℕ) (head : ℕ → ℕ → ℕ) (s : Scan) → hi ≤ length s.codes → ((b : ℕ) → code s b ≡ 0)
    → (((file_phase w at depth lo hi I J head s).found ≡ s.found
    → ((b : ℕ) → 0 < claims w at depth I J head b → Data lo hi b) × ((b : ℕ) → claims w at depth I J head b ≤ 1))
    × (((b : ℕ) → 0 < claims w at depth I J head b → Data lo hi b) × ((b : ℕ) → claims w at depth I J head b ≤ 1)
    → (file_phase w at depth lo hi I J head s).found ≡ s.found))
    × ((file_phase w at depth lo hi I J head s).found ≡ s.found → (b : ℕ) → code (file_phase w at depth lo hi I J head s) b ≡ claims w at depth I J head b)

-- both phases meet no finding just if the volume is sound and no free entry is 0
abbrev pub NoFindingSaysSound : Type 0
NoFindingSaysSound =
    (w : ℕ) (at : ℕ → ℕ → ℕ) → Absent at → (depth : ℕ → ℕ) (lo hi I J : ℕ) → 0 < lo → (head : ℕ → ℕ → ℕ) (free : List ℕ) (s : Scan) → Blank hi s
    → ((phases w at depth lo hi I J head free s).found ≡ 0 → Sound lo hi w at depth I J head free × AllByRecursion (λ x. 0 < x) free)
    × (Sound lo hi w at depth I J head free × AllByRecursion (λ x. 0 < x) free → (phases w at depth lo hi I J head free s).found ≡ 0)

-- each code then is 1 for a claim of a file and 2 for one of the list
abbrev pub CodesSayTheClaims : Type 0
CodesSayTheClaims =
    (w : ℕ) (at : ℕ → ℕ → ℕ) → Absent at → (depth : ℕ → ℕ) (lo hi I J : ℕ) → 0 < lo → (head : ℕ → ℕ → ℕ) (free : List ℕ) (s : Scan) → Blank hi s
    → (phases w at depth lo hi I J head free s).found ≡ 0
    → (b : ℕ) → code (phases w at depth lo hi I J head free s) b ≡ claims w at depth I J head b + 2 * count free b

-- and nothing is missing just if the volume is full
abbrev pub NothingMissingSaysFull : Type 0
NothingMissingSaysFull =
    (w : ℕ) (at : ℕ → ℕ → ℕ) → Absent at → (depth : ℕ → ℕ) (lo hi I J : ℕ) → 0 < lo → (head : ℕ → ℕ → ℕ) (free : List ℕ) (s : Scan) → Blank hi s
    → (phases w at depth lo hi I J head free s).found ≡ 0
    → (missing lo hi (phases w at depth lo hi I J head free s) ≡ 0 → Full lo hi w at depth I J head free)
    × (Full lo hi w at depth I J head free → missing lo hi (phases w at depth lo hi I J head free s) ≡ 0)
