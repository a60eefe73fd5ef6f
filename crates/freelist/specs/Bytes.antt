-- Take and give in the bytes of the superblock.
use Rattle.std.specs.Prelude.{ℕ, zero, suc, ◌+◌, ◌-◌, ◌*◌, min, cond, List, [], ◌∷◌, ◌++◌, length, take, drop, replicate, ◌==◌, nat_lt, slice_index, slice_index_or, slice_set}
use Rattle.fault.specs.declared.fault.ListFault.{ListFault}
use Rattle.fault.specs.declared.fault.ListFault.TheVariants.{Bad, Empty}
use Rattle.disk.specs.Medium.{Sectors, Write}
use Rattle.numbers.specs.Numbers.{num, put_num, nums}
use Rattle.format.specs.Layout.{block_bytes, list_room}
use Rattle.format.specs.Superblock.{at_nfree, at_free, at_tfree, at_flock, nfree_of, free_at, free_of, tfree_of}
use Rattle.freelist.specs.Stack.{Page, Free, Taking, is_data, most_total}
use Rattle.freelist.specs.Stack.{took as taking, refused as no_taking}

unfoldable pub zeros : ℕ → List ℕ
zeros n = replicate n 0

-- a chain member holds a count of four bytes and the entries after it
abbrev pub member_count : List ℕ → ℕ
member_count x = num 4 0 x

abbrev pub at_entries : ℕ
at_entries = 4

abbrev pub entries_bytes : ℕ
entries_bytes = 4 * list_room

abbrev pub member_page : List ℕ → Page
member_page x = record { count = member_count x; entries = nums 4 list_room at_entries x }

-- the free list's part in the superblock
abbrev pub free_list_of : List ℕ → Free
free_list_of s = record { page = record { count = nfree_of s; entries = nums 4 list_room at_free s }; total = tfree_of s }

-- the bytes of the entries, of a member and of the superblock
abbrev pub member_entries : List ℕ → List ℕ
member_entries x = take entries_bytes (drop at_entries x)

abbrev pub superblock_entries : List ℕ → List ℕ
superblock_entries s = take entries_bytes (drop at_free s)

-- the bytes x with b from o on
unfoldable pub put_bytes : ℕ → List ℕ → List ℕ → List ℕ
put_bytes o b x = take o x ++ (b ++ drop (o + length b) x)

-- the chain member that a full superblock s leaves: count, entries, zeros
unfoldable pub member_bytes : List ℕ → List ℕ
member_bytes s = put_num 4 0 list_room (zeros at_entries) ++ (superblock_entries s ++ zeros (block_bytes - (at_entries + entries_bytes)))

-- GIVE
-- an empty list gets its 0 first
abbrev pub grounded : List ℕ → List ℕ
grounded s = cond (nfree_of s == 0) (put_num 4 (free_at 0) 0 s) s

-- where the block goes, by the count of entries
abbrev pub give_index : ℕ → ℕ
give_index n = cond (n == 0) 1 (cond (n == list_room) 0 n)

-- b becomes entry k, the last
abbrev pub with_entry : ℕ → ℕ → List ℕ → List ℕ
with_entry b k s = put_num 2 at_nfree (k + 1) (put_num 4 (free_at k) b s)

abbrev pub raised : List ℕ → List ℕ
raised s = put_num 4 at_tfree (min (tfree_of s + 1) most_total) s

-- what a give of b writes, and the superblock after it
unfoldable pub give_writes : ℕ → List ℕ → List Write
give_writes b s = cond (nfree_of s == list_room) ((b, member_bytes s) ∷ []) []

unfoldable pub give_bytes : ℕ → List ℕ → List ℕ
give_bytes b s = raised (with_entry b (give_index (nfree_of s)) (grounded s))

-- TAKE
abbrev pub lowered : List ℕ → List ℕ
lowered s = put_num 4 at_tfree (tfree_of s - 1) s

-- the count and the entries of the member x take the place of the superblock's
abbrev pub loaded : List ℕ → List ℕ → List ℕ
loaded x s = put_num 2 at_nfree (member_count x) (put_bytes at_free (member_entries x) s)

-- a block, the superblock after the take and the member that it then stands in; or a refusal
pub data Taken : Type 0 where
  took : ℕ → List ℕ → ℕ → Taken
  refused : ListFault → Taken

-- the same over pages
abbrev pub in_pages : Taken → Taking
in_pages (took b s m) = taking b (free_list_of s) m
in_pages (refused f) = no_taking f

abbrev pub load_bytes : List ℕ → ℕ → ℕ → List ℕ → Taken
load_bytes x b m s = cond (nat_lt list_room (member_count x)) (refused (Bad (m + 1))) (took b (lowered (loaded x s)) (m + 1))

module _ (lo hi : ℕ) where
  abbrev pub take_first_bytes : Sectors → ℕ → List ℕ → Taken
  take_first_bytes S m s =
      cond (free_of 0 s == 0) (refused (Empty m))
      (cond (is_data lo hi (free_of 0 s)) (load_bytes (slice_index_or S (free_of 0 s) []) (free_of 0 s) m s) (refused (Bad m)))

  abbrev pub take_entry_bytes : ℕ → Sectors → ℕ → List ℕ → Taken
  take_entry_bytes zero S m s = refused (Empty m)
  take_entry_bytes (suc zero) S m s = take_first_bytes S m s
  take_entry_bytes (suc (suc k)) S m s =
      cond (is_data lo hi (free_of (suc k) s)) (took (free_of (suc k) s) (lowered (put_num 2 at_nfree (suc k) s)) m) (refused (Bad m))

  -- take from the superblock s, which stands for the list's part in member m, on the sectors S
  unfoldable pub take_bytes : Sectors → ℕ → List ℕ → Taken
  take_bytes S m s = cond (nat_lt list_room (nfree_of s)) (refused (Bad m)) (take_entry_bytes (nfree_of s) S m s)

-- GIVING MANY
-- the blocks of a list are given, the last first
unfoldable pub gave_all : List ℕ → List ℕ → List Write × List ℕ
gave_all [] s = ([], s)
gave_all (b ∷ bs) s = ((gave_all bs s).0 ++ give_writes b (gave_all bs s).1, give_bytes b (gave_all bs s).1)

-- the blocks from b on, n of them, whose code is 0; a block without a code counts as 0
unfoldable pub unclaimed : List ℕ → ℕ → ℕ → List ℕ
unclaimed codes b zero = []
unclaimed codes b (suc n) = cond (slice_index codes b == 0) (b ∷ unclaimed codes (suc b) n) (unclaimed codes (suc b) n)

-- the superblock with an empty list
unfoldable pub emptied : List ℕ → List ℕ
emptied s = slice_set (put_num 4 at_tfree 0 (put_num 4 (free_at 0) 0 (put_num 2 at_nfree 1 s))) at_flock 0
