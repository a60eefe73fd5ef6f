-- What a walk through the free list has left to do.
use Rattle.std.specs.Prelude.{◌≡◌, ℕ, ◌+◌, ◌≤◌, List, Option, Some, None}
use Rattle.verdict.specs.Scan.{Scan}
use Rattle.scan.specs.Left.{entries_left, entry_met}
use Rattle.format.specs.Area.{Area}
use Rattle.tally.specs.Notes.{unclaimed}
use Rattle.checking.specs.declared.met.Entry.{Entry}
use Rattle.checking.specs.declared.list.ListWalk.{ListWalk}

-- the entries of the member that are left, and what they lead on to
abbrev pub list_left : Area → ListWalk → Scan → Scan
list_left v l s = entries_left v.sectors v.sizes.isize v.sizes.fsize l.member l.node l.left s

-- the same, with the entry that was met to be done first; when none is met all is done
abbrev pub list_after : Option Entry → Area → ListWalk → Scan → Scan
list_after None v l s = s
list_after (Some e) v l s = list_left v l (entry_met v.sectors v.sizes.isize v.sizes.fsize l.member e.index e.address s)

-- what holds of the walk when an entry was met
abbrev pub ListReady : Option Entry → ListWalk → Type 0
ListReady None l = Unit {0}
ListReady (Some e) l = e.index ≡ l.left

-- how many turns it is counted for
abbrev pub list_worth : Option Entry → ℕ
list_worth None = 0
list_worth (Some e) = 1

-- each member but the superblock is a block that was claimed
abbrev pub Linked : Area → ListWalk → List ℕ → Type 0
Linked v l cs = l.member + unclaimed cs ≤ v.sizes.fsize + 1
