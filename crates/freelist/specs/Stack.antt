-- The free list as a stack of blocks: what a take answers, what a give leaves, and which blocks are listed.
use Rattle.std.specs.Prelude.{◌≡◌, ℕ, zero, suc, ◌+◌, ◌-◌, ◌^◌, ◌<◌, ◌≤◌, min, Bool, true, false, cond, List, [], ◌∷◌, length, ◌==◌, ◌≢◌, nat_le, nat_lt, slice_index, slice_index_or, slice_set}
use Rattle.fault.specs.declared.fault.ListFault.{ListFault}
use Rattle.fault.specs.declared.fault.ListFault.TheVariants.{Bad, Empty}
use Rattle.disk.specs.Medium.{Sectors}

-- the count and the entries of one part of the list, in the superblock or in a chain member
pub record Page : Type 0 where
  pub count : ℕ
  pub entries : List ℕ

-- the superblock's part, with the number of free blocks that it states
pub record Free : Type 0 where
  pub page : Page
  pub total : ℕ

-- how a chain member is read: at most `room` entries
pub record Chain : Type 0 where
  pub room : ℕ
  pub page_of : List ℕ → Page
  pub roomy : 1 < room
  pub entries_of : (x : List ℕ) → length (page_of x).entries ≡ room

-- blocks lo to hi - 1 are the data blocks
abbrev pub is_data : ℕ → ℕ → ℕ → Bool
is_data lo hi b = cond (nat_le lo b) (nat_lt b hi) false

-- what a take answers: a block, the list left, and the member that it then stands in; or a refusal
pub data Taking : Type 0 where
  took : ℕ → Free → ℕ → Taking
  refused : ListFault → Taking

-- the largest number of free blocks that the superblock can state
abbrev pub most_total : ℕ
most_total = 2 ^ 32 - 1

module _ (Y : Chain) (lo hi : ℕ) where
  -- the member in block b is loaded: its entries take the place of the superblock's
  abbrev pub load_member : Page → ℕ → ℕ → ℕ → Taking
  load_member q t b m = cond (nat_lt Y.room q.count) (refused (Bad (m + 1))) (took b (record { page = q; total = t - 1 }) (m + 1))

  -- entry 0 ends the list or is a chain member
  abbrev pub take_first : ℕ → Sectors → ℕ → ℕ → Taking
  take_first a S t m =
      cond (a == 0) (refused (Empty m))
      (cond (is_data lo hi a) (load_member (Y.page_of (slice_index_or S a [])) t a m) (refused (Bad m)))

  abbrev pub take_entry : ℕ → List ℕ → Sectors → ℕ → ℕ → Taking
  take_entry zero e S t m = refused (Empty m)
  take_entry (suc zero) e S t m = take_first (slice_index e 0) S t m
  take_entry (suc (suc k)) e S t m =
      cond (is_data lo hi (slice_index e (suc k))) (took (slice_index e (suc k)) (record { page = record { count = suc k; entries = e }; total = t - 1 }) m) (refused (Bad m))

  -- take, from the list's part in member m
  abbrev pub taken : Sectors → ℕ → Free → Taking
  taken S m f = cond (nat_lt Y.room f.page.count) (refused (Bad m)) (take_entry f.page.count f.page.entries S f.total m)

  -- The list that begins with the first n entries e lists exactly L, in the order in which take gives them.
  abbrev pub Listed : Sectors → ℕ → List ℕ → List ℕ → Type 0
  Listed S zero e [] = Unit {0}
  Listed S zero e (b ∷ L) = ⊥
  Listed S (suc zero) e [] = slice_index e 0 ≡ 0
  Listed S (suc zero) e (b ∷ L) =
      (slice_index e 0 ≡ b) × (is_data lo hi b ≡ true) × (nat_lt Y.room (Y.page_of (slice_index_or S b [])).count ≡ false)
      × Listed S (Y.page_of (slice_index_or S b [])).count (Y.page_of (slice_index_or S b [])).entries L
  Listed S (suc (suc k)) e [] = ⊥
  Listed S (suc (suc k)) e (b ∷ L) = (slice_index e (suc k) ≡ b) × (is_data lo hi b ≡ true) × Listed S (suc k) e L

  -- a lawful list: no count above the room, every entry a data block, a 0 or a member at index 0
  pub record Lists (S : Sectors) (f : Free) (L : List ℕ) : Type 0 where
    pub fits : f.page.count ≤ Y.room
    pub roomed : length f.page.entries ≡ Y.room
    pub listed : Listed S f.page.count f.page.entries L

  -- a take that gives b and leaves the list L
  pub record Takes (S : Sectors) (m : ℕ) (f : Free) (b : ℕ) (L : List ℕ) : Type 0 where
    pub rest : Free
    pub member : ℕ
    pub is : taken S m f ≡ took b rest member
    pub lowered : rest.total ≡ f.total - 1
    pub lists : Lists S rest L

-- give: an empty list gets its 0 first; a full one moves into the block, which becomes a chain member
abbrev pub opened : ℕ → List ℕ → Page
opened zero e = record { count = 1; entries = slice_set e 0 0 }
opened (suc n) e = record { count = suc n; entries = e }

abbrev pub pushed : ℕ → Page → Page
pushed b p = record { count = p.count + 1; entries = slice_set p.entries p.count b }

abbrev pub given_page : ℕ → ℕ → Page → Page
given_page room b p = cond (p.count == room) (pushed b (record { count = 0; entries = p.entries })) (pushed b p)

abbrev pub given : ℕ → ℕ → Free → Free
given room b f = record { page = given_page room b (opened f.page.count f.page.entries); total = min (f.total + 1) most_total }

-- s is none of L
abbrev pub Out : ℕ → List ℕ → Type 0
Out s [] = Unit {0}
Out s (b ∷ L) = (b ≢ s) × Out s L
