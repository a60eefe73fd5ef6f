-- The check, by its three phases. Inodes go in order, each slot by slot, and a table is met before what it names.
use Rattle.std.specs.Prelude.{ℕ, zero, suc, ◌+◌, ◌-◌, ◌*◌, ◌/◌, Bool, cond, ◌&&◌, List, [], ◌∷◌, ◌++◌, length, ◌==◌, bit_or, nat_le, nat_lt, slice_index, slice_index_or, slice_set}
use Rattle.fault.specs.declared.place.Place.{Place}
use Rattle.fault.specs.declared.place.Place.TheVariants.{Member, Slot}
use Rattle.fault.specs.declared.finding.Kind.{Kind}
use Rattle.fault.specs.declared.finding.Kind.TheVariants.{BadAddress, SecondClaim, UnknownType, CountTooLarge, BadEntry, SecondEntry}
use Rattle.fault.specs.declared.finding.Finding.{Finding}
use Rattle.fault.specs.Findings.{status_bit}
use Rattle.disk.specs.Medium.{Sectors}
use Rattle.numbers.specs.Numbers.{num}
use Rattle.format.specs.Layout.{table_width, superblock, first_list_block, inodes_per_block, slots, depth_of, list_room}
use Rattle.format.specs.Superblock.{nfree_of, free_of}
use Rattle.format.specs.Inode.{mode_of, type_bits, type_rule, address_of}
use Rattle.format.specs.Sizes.{inodes_of}
use Rattle.format.specs.declared.inode.InodeType.{InodeType}
use Rattle.format.specs.declared.inode.InodeType.TheVariants.{Unused, Regular, Directory, Special, Unknown}
use Rattle.freelist.specs.Bytes.{member_count, at_entries}
use Rattle.verdict.specs.declared.verdict.Census.{Census}

-- FINDINGS
-- a list that is full keeps the first findings
abbrev pub noted : List Finding → ℕ → Finding → List Finding
noted l at f = cond (nat_lt at (length l)) (slice_set l at f) l

-- all findings in order; or what the caller's list shows of them, with their number and the status of their kinds
pub data Log : Type 0 where
  all : List Finding → Log
  shown : List Finding → ℕ → ℕ → Log

abbrev pub push : Log → Finding → Log
push (all fs) f = all (fs ++ f ∷ [])
push (shown l n b) f = shown (noted l n f) (n + 1) (bit_or b (status_bit f.kind))

-- the codes of the blocks, 0 none, 1 file, 2 free, and the findings
pub record Scan : Type 0 where
  pub codes : List ℕ
  pub log : Log

abbrev pub note : Kind → ℕ → Place → Scan → Scan
note k a p s = record { codes = s.codes; log = push s.log (record { kind = k; address = a; place = p }) }

abbrev pub claim : ℕ → ℕ → Scan → Scan
claim v a s = record { codes = slice_set s.codes a v; log = s.log }

-- a is a data block that nothing has claimed
unfoldable pub opens : ℕ → ℕ → ℕ → List ℕ → Bool
opens lo hi a cs = (nat_le lo a && nat_lt a hi) && slice_index cs a == 0

-- one address gets the code v, or is a finding: no data block, or claimed before
unfoldable pub met : ℕ → ℕ → ℕ → Kind → Kind → Place → ℕ → Scan → Scan
met lo hi v bad again p a s = cond (nat_le lo a && nat_lt a hi) (cond (slice_index s.codes a == 0) (claim v a s) (note again a p s)) (note bad a p s)

-- g at k, k + 1, .. for n turns
unfoldable pub rows : {A : Type 0} → ℕ → ℕ → (ℕ → A → A) → A → A
rows zero k g s = s
rows (suc n) k g s = rows n (suc k) g (g k s)

-- g at k to w - 1
unfoldable pub rest : {A : Type 0} → ℕ → ℕ → (ℕ → A → A) → A → A
rest w k g s = rows (w - k) k g s

-- FILES
-- address k of a table
abbrev pub table_entry : List ℕ → ℕ → ℕ
table_entry t k = num 4 (4 * k) t

-- an address in a file at place p, and what hangs below it at depth d: a bad or claimed address is not followed
unfoldable pub walk : Sectors → ℕ → ℕ → Place → ℕ → ℕ → Scan → Scan
walk ss lo hi p zero a s = cond (a == 0) s (met lo hi 1 BadAddress SecondClaim p a s)
walk ss lo hi p (suc d) a s =
    cond (a == 0) s
    (cond (opens lo hi a s.codes)
    (rest table_width 0 (λ k. walk ss lo hi p d (table_entry (slice_index_or ss a []) k)) (met lo hi 1 BadAddress SecondClaim p a s))
    (met lo hi 1 BadAddress SecondClaim p a s))

-- the entries of a table from k on, each a tree of depth d
unfoldable pub entries : Sectors → ℕ → ℕ → Place → ℕ → List ℕ → ℕ → Scan → Scan
entries ss lo hi p d t k s = rest table_width k (λ k. walk ss lo hi p d (table_entry t k)) s

-- the slots of inode i, in block b, from k on
unfoldable pub slots_from : Sectors → ℕ → ℕ → List ℕ → ℕ → ℕ → Scan → Scan
slots_from ss lo hi b i k s = rest slots k (λ k. walk ss lo hi (Slot i k) (depth_of k) (address_of i k b)) s

-- only regular files and directories claim blocks; an unknown type is a finding
abbrev pub by_type : InodeType → Sectors → ℕ → ℕ → List ℕ → ℕ → Scan → Scan
by_type Unused ss lo hi b i s = s
by_type Regular ss lo hi b i s = slots_from ss lo hi b i 0 s
by_type Directory ss lo hi b i s = slots_from ss lo hi b i 0 s
by_type Special ss lo hi b i s = s
by_type Unknown ss lo hi b i s = note UnknownType (type_bits (mode_of i b)) (Slot i 0) s

-- inode i, in block b
unfoldable pub inode : Sectors → ℕ → ℕ → List ℕ → ℕ → Scan → Scan
inode ss lo hi b i s = by_type (type_rule (type_bits (mode_of i b))) ss lo hi b i s

-- the inodes after number k
unfoldable pub files : Sectors → ℕ → ℕ → ℕ → Scan → Scan
files ss lo hi k s = rest (inodes_of lo) k (λ k. inode ss lo hi (slice_index_or ss (first_list_block + k / inodes_per_block) []) (k + 1)) s

-- FREE LIST
-- the superblock is member 1, and each member after it is one more
abbrev pub count_of : ℕ → List ℕ → ℕ
count_of m b = cond (m == 1) (nfree_of b) (member_count b)

abbrev pub entry_of : ℕ → List ℕ → ℕ → ℕ
entry_of m b k = cond (m == 1) (free_of k b) (num 4 (at_entries + 4 * k) b)

-- entry a at index k of member m: at index 0 a zero ends the list, and an unclaimed data block leads on to the next member
unfoldable pub listed : (ℕ → Scan → Scan) → ℕ → ℕ → ℕ → ℕ → ℕ → Scan → Scan
listed on lo hi m k a s =
    cond (k == 0)
    (cond (a == 0) s
    (cond (opens lo hi a s.codes) (on a (met lo hi 2 BadEntry SecondEntry (Member m) a s)) (met lo hi 2 BadEntry SecondEntry (Member m) a s)))
    (met lo hi 2 BadEntry SecondEntry (Member m) a s)

-- the entries of a member below k, from the last to index 0
unfoldable pub below : (ℕ → Scan → Scan) → ℕ → ℕ → ℕ → List ℕ → ℕ → Scan → Scan
below on lo hi m b zero s = s
below on lo hi m b (suc k) s = below on lo hi m b k (listed on lo hi m k (entry_of m b k) s)

-- at most n members, from member m in b on; a count above the room ends the list
unfoldable pub chain : ℕ → Sectors → ℕ → ℕ → ℕ → List ℕ → Scan → Scan
chain zero ss lo hi m b s = s
chain (suc n) ss lo hi m b s =
    cond (nat_lt list_room (count_of m b)) (note CountTooLarge (count_of m b) (Member m) s)
    (below (λ a. chain n ss lo hi (m + 1) (slice_index_or ss a [])) lo hi m b (count_of m b) s)

-- a volume has fewer members than blocks
unfoldable pub free_list : Sectors → ℕ → ℕ → Scan → Scan
free_list ss lo hi s = chain (hi + 1) ss lo hi 1 (slice_index_or ss superblock []) s

-- MISSING
-- one more block, by its code
abbrev pub counted : ℕ → Census → Census
counted c n =
    cond (c == 0) (record { used = n.used; free = n.free; missing = n.missing + 1 })
    (cond (c == 1) (record { used = n.used + 1; free = n.free; missing = n.missing })
    (record { used = n.used; free = n.free + 1; missing = n.missing }))

-- the blocks from k to hi - 1
unfoldable pub survey : ℕ → List ℕ → ℕ → Census → Census
survey hi cs k n = rest hi k (λ b. counted (slice_index cs b)) n

abbrev pub nothing : Census
nothing = record { used = 0; free = 0; missing = 0 }

pub record Report : Type 0 where
  pub scan : Scan
  pub census : Census

unfoldable pub report : ℕ → ℕ → Scan → Report
report lo hi s = record { scan = s; census = survey hi s.codes lo nothing }

-- the three phases, on the data blocks lo to hi - 1
abbrev pub check : Sectors → ℕ → ℕ → Scan → Report
check ss lo hi s = report lo hi (free_list ss lo hi (files ss lo hi 0 s))
