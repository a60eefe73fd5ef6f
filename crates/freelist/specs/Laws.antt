-- The free list is a stack: take is uncons, give is cons.
use Rattle.std.specs.Prelude.{◌≡◌, ℕ, ◌+◌, ◌-◌, ◌<◌, ◌≤◌, true, cond, ◌⊎◌, List, [], ◌∷◌, ◌++◌, length, ◌==◌, ◌≢◌, slice_index, slice_set}
use Rattle.std.specs.List.{AllByRecursion}
use Rattle.fault.specs.declared.fault.ListFault.TheVariants.{Empty}
use Rattle.disk.specs.Medium.{Sectors, Sized, Write, after}
use Rattle.numbers.specs.Laws.{Apart}
use Rattle.format.specs.Layout.{block_bytes}
use Rattle.format.specs.Superblock.{at_nfree, at_tfree, at_flock, tfree_of, flock_of}
use Rattle.freelist.specs.Stack.{Free, Chain, is_data, Lists, Takes, taken, given, Out, most_total}
use Rattle.freelist.specs.Stack.{refused as refused_taking}
use Rattle.freelist.specs.Chain.{chain}
use Rattle.freelist.specs.Bytes.{entries_bytes, took, refused, free_list_of, take_bytes, give_bytes, give_writes, gave_all, unclaimed, emptied}

abbrev pub AllOut : List Write → List ℕ → Type 0
AllOut [] L = Unit {0}
AllOut (w ∷ W) L = Out w.0 L × AllOut W L

-- no block stands twice in L
abbrev pub Distinct : List ℕ → Type 0
Distinct [] = Unit {0}
Distinct (b ∷ L) = Out b L × Distinct L

-- b is one of L
abbrev pub Among : ℕ → List ℕ → Type 0
Among b [] = ⊥
Among b (c ∷ L) = (c ≡ b) ⊎ Among b L

-- every block of L is a data block
abbrev pub AllData : ℕ → ℕ → List ℕ → Type 0
AllData lo hi L = AllByRecursion (λ b. is_data lo hi b ≡ true) L

-- OVER PAGES
module _ (Y : Chain) where
  -- take gives the first block listed
  abbrev pub TakeIsUncons : Type 0
  TakeIsUncons = (lo hi : ℕ) (S : Sectors) (m : ℕ) (f : Free) (b : ℕ) (L : List ℕ) → 0 < lo → Lists Y lo hi S f (b ∷ L) → Takes Y lo hi S m f b L

  -- an empty list gives none
  abbrev pub EmptyGivesNone : Type 0
  EmptyGivesNone = (lo hi : ℕ) (S : Sectors) (m : ℕ) (f : Free) → Lists Y lo hi S f [] → taken Y lo hi S m f ≡ refused_taking (Empty m)

  -- give puts its block in front; x is what a full page is laid down as
  abbrev pub GiveIsCons : Type 0
  GiveIsCons =
      (lo hi : ℕ) (S : Sectors) (f : Free) (b : ℕ) (L : List ℕ) (x : List ℕ) → is_data lo hi b ≡ true → b < length S → Out b L
      → (f.page.count ≡ Y.room → Y.page_of x ≡ f.page) → Lists Y lo hi S f L
      → Lists Y lo hi (cond (f.page.count == Y.room) (slice_set S b x) S) (given Y.room b f) (b ∷ L)

  -- writes outside the list leave it
  abbrev pub OtherWritesLeaveTheList : Type 0
  OtherWritesLeaveTheList = (lo hi : ℕ) (S : Sectors) (W : List Write) (f : Free) (L : List ℕ) → AllOut W L → Lists Y lo hi S f L → Lists Y lo hi (after W S) f L

  -- a list lists one row of blocks
  abbrev pub OneRowIsListed : Type 0
  OneRowIsListed = (lo hi : ℕ) (S : Sectors) (f : Free) (L M : List ℕ) → 0 < lo → Lists Y lo hi S f L → Lists Y lo hi S f M → L ≡ M

  -- every block listed is a data block
  abbrev pub ListedBlocksAreData : Type 0
  ListedBlocksAreData = (lo hi : ℕ) (S : Sectors) (f : Free) (L : List ℕ) → Lists Y lo hi S f L → AllData lo hi L

-- OVER THE BYTES OF A VOLUME
-- byte k of the superblock lies outside the count, the entries and the total of the free list
abbrev pub Elsewhere : ℕ → Type 0
Elsewhere k = Apart at_nfree (2 + entries_bytes) k 1 × Apart at_tfree 4 k 1

-- r is s but for the count, the entries and the total of the free list
pub record SameElsewhere (s r : List ℕ) : Type 0 where
  pub long : length r ≡ length s
  pub same : (k : ℕ) → Elsewhere k → slice_index r k ≡ slice_index s k

-- the superblock s lists on the sectors S exactly the blocks L, in the order in which takes give them
abbrev pub ListsBlocks : ℕ → ℕ → Sectors → List ℕ → List ℕ → Type 0
ListsBlocks lo hi S s L = Lists chain lo hi S (free_list_of s) L

-- a take from s gives b and leaves a superblock that lists L
pub record TakesFirst (lo hi : ℕ) (S : Sectors) (m : ℕ) (s : List ℕ) (b : ℕ) (L : List ℕ) : Type 0 where
  pub rest : List ℕ
  pub member : ℕ
  pub is : take_bytes lo hi S m s ≡ took b rest member
  pub lists : ListsBlocks lo hi S rest L
  pub lowered : tfree_of rest ≡ tfree_of s - 1
  pub others : SameElsewhere s rest

-- take gives the first block listed and leaves the rest listed
abbrev pub TakeGivesTheFirst : Type 0
TakeGivesTheFirst =
    (lo hi : ℕ) (S : Sectors) (m : ℕ) (s : List ℕ) (b : ℕ) (L : List ℕ) → 0 < lo → hi ≤ length S → Sized S → length s ≡ block_bytes
    → ListsBlocks lo hi S s (b ∷ L) → TakesFirst lo hi S m s b L

-- none is given only where none is listed
abbrev pub TakeFromAnEmptyList : Type 0
TakeFromAnEmptyList =
    (lo hi : ℕ) (S : Sectors) (m : ℕ) (s : List ℕ) → hi ≤ length S → Sized S → length s ≡ block_bytes
    → ListsBlocks lo hi S s [] → take_bytes lo hi S m s ≡ refused (Empty m)

-- a give onto s
pub record GivesFirst (lo hi : ℕ) (S : Sectors) (s : List ℕ) (b : ℕ) (L : List ℕ) : Type 0 where
  pub lists : ListsBlocks lo hi (after (give_writes b s) S) (give_bytes b s) (b ∷ L)
  pub total : tfree_of s < most_total → tfree_of (give_bytes b s) ≡ tfree_of s + 1
  pub others : SameElsewhere s (give_bytes b s)

-- give lists its block in front
abbrev pub GiveListsInFront : Type 0
GiveListsInFront =
    (lo hi : ℕ) (S : Sectors) (s : List ℕ) (b : ℕ) (L : List ℕ) → is_data lo hi b ≡ true → hi ≤ length S → length s ≡ block_bytes → Out b L
    → ListsBlocks lo hi S s L → GivesFirst lo hi S s b L

-- writes below the data blocks, as those of the superblock and of the i-list, leave the list
abbrev pub WritesBelowLeaveTheList : Type 0
WritesBelowLeaveTheList =
    (lo hi : ℕ) (S : Sectors) (s L : List ℕ) (t : ℕ) (x : List ℕ) → t < lo → ListsBlocks lo hi S s L → ListsBlocks lo hi (slice_set S t x) s L

-- an emptied superblock lists nothing
pub record Empties (s : List ℕ) : Type 0 where
  pub lists : (lo hi : ℕ) (S : Sectors) → ListsBlocks lo hi S (emptied s) []
  pub total : tfree_of (emptied s) ≡ 0
  pub unlocked : flock_of (emptied s) ≡ 0
  pub long : length (emptied s) ≡ length s
  pub same : (k : ℕ) → Elsewhere k → (k ≢ at_flock) → slice_index (emptied s) k ≡ slice_index s k

abbrev pub EmptiedListsNothing : Type 0
EmptiedListsNothing = (s : List ℕ) → length s ≡ block_bytes → Empties s

-- a write of a chain member: to one of the blocks L, of a block's size
abbrev pub MemberWrite : List ℕ → Write → Type 0
MemberWrite L w = Among w.0 L × (length w.1 ≡ block_bytes)

-- all blocks of L are given to s, which lists M
pub record GivesAll (lo hi : ℕ) (S : Sectors) (s L M : List ℕ) : Type 0 where
  pub lists : ListsBlocks lo hi (after (gave_all L s).0 S) (gave_all L s).1 (L ++ M)
  pub total : tfree_of s + length L ≤ most_total → tfree_of (gave_all L s).1 ≡ tfree_of s + length L
  pub written : AllByRecursion (MemberWrite L) (gave_all L s).0
  pub others : SameElsewhere s (gave_all L s).1

-- giving data blocks, none of them listed and none given twice, lists them all in front
abbrev pub GivingListsAll : Type 0
GivingListsAll =
    (lo hi : ℕ) (S : Sectors) (s L M : List ℕ) → hi ≤ length S → length s ≡ block_bytes
    → AllData lo hi L → Distinct L → AllByRecursion (λ b. Out b M) L → ListsBlocks lo hi S s M → GivesAll lo hi S s L M

-- a list made anew of the blocks L
pub record Relists (lo hi : ℕ) (S : Sectors) (s L : List ℕ) : Type 0 where
  pub lists : ListsBlocks lo hi (after (gave_all L (emptied s)).0 S) (gave_all L (emptied s)).1 L
  pub total : length L ≤ most_total → tfree_of (gave_all L (emptied s)).1 ≡ length L
  pub unlocked : flock_of (gave_all L (emptied s)).1 ≡ 0
  pub written : AllByRecursion (MemberWrite L) (gave_all L (emptied s)).0
  pub long : length (gave_all L (emptied s)).1 ≡ length s
  pub same : (k : ℕ) → Elsewhere k → (k ≢ at_flock) → slice_index (gave_all L (emptied s)).1 k ≡ slice_index s k

-- emptying the list and giving the blocks L lists exactly these
abbrev pub RelistingListsExactly : Type 0
RelistingListsExactly =
    (lo hi : ℕ) (S : Sectors) (s L : List ℕ) → hi ≤ length S → length s ≡ block_bytes → AllData lo hi L → Distinct L → Relists lo hi S s L

-- the unclaimed blocks from lo to hi - 1: each once, each with code 0, and all of those
pub record Unclaimed (codes : List ℕ) (lo hi : ℕ) (L : List ℕ) : Type 0 where
  pub data_blocks : AllData lo hi L
  pub distinct : Distinct L
  pub unclaimed : AllByRecursion (λ b. slice_index codes b ≡ 0) L
  pub every : (b : ℕ) → is_data lo hi b ≡ true → slice_index codes b ≡ 0 → Among b L

abbrev pub UnclaimedAreEachOnce : Type 0
UnclaimedAreEachOnce = (codes : List ℕ) (lo hi : ℕ) → lo ≤ hi → Unclaimed codes lo hi (unclaimed codes lo (hi - lo))
