-- What the open tables have left to do, and what they may still cost.
use Rattle.std.specs.Prelude.{ℕ, zero, suc, ◌+◌, ◌-◌, ◌<◌, ◌≤◌, List, Option, Some, None}
use Rattle.fault.specs.declared.place.Place.{Place}
use Rattle.format.specs.Layout.{table_width}
use Rattle.verdict.specs.Scan.{Scan, walk, entries}
use Rattle.format.specs.Area.{Area}
use Rattle.checking.specs.declared.level.Level.{Level}
use Rattle.checking.specs.declared.level.Open.{Open}

-- a table with its next entry taken, and a table at its start
abbrev pub ahead : Level → Level
ahead l = record { table = l.table; next = l.next + 1 }

abbrev pub at_start : List ℕ → Level
at_start t = record { table = t; next = 0 }

-- the trees of depth d below the entries of a table from k on
abbrev pub below_from : Area → Place → ℕ → List ℕ → ℕ → Scan → Scan
below_from v p d t k s = entries v.sectors v.sizes.isize v.sizes.fsize p d t k s

-- the entries of the open tables, the innermost first; a closed table stands at its end
unfoldable pub open_left : Area → Place → Open → Scan → Scan
open_left v p o s =
    below_from v p 2 o.three.table o.three.next
    (below_from v p 1 o.two.table o.two.next
    (below_from v p 0 o.one.table o.one.next s))

-- the same, with an address at the head of a tree of a depth to be done first
abbrev pub open_after : Option (ℕ × ℕ) → Area → Place → Open → Scan → Scan
open_after None v p o s = s
open_after (Some m) v p o s = open_left v p o (walk v.sectors v.sizes.isize v.sizes.fsize p m.0 m.1 s)

-- what the table t at the head of a tree of depth d leads to
abbrev pub below : Area → Place → ℕ → List ℕ → Scan → Scan
below v p zero t s = s
below v p (suc d) t s = below_from v p d t 0 s

-- no table is open
abbrev pub Shut : Open → Type 0
Shut o = (table_width ≤ o.one.next) × (table_width ≤ o.two.next) × (table_width ≤ o.three.next)

-- the levels below a table of depth d are closed
abbrev pub ShutBelow : ℕ → Open → Type 0
ShutBelow d o = (0 < d → table_width ≤ o.one.next) × (1 < d → table_width ≤ o.two.next) × (2 < d → table_width ≤ o.three.next)

-- what holds of the tables when an address was met
abbrev pub AddressReady : Option (ℕ × ℕ) → Open → Type 0
AddressReady None o = Shut o
AddressReady (Some m) o = (m.0 ≤ 3) × ShutBelow m.0 o

-- how many entries the open tables have left
abbrev pub open_turns : Open → ℕ
open_turns o = (table_width - o.one.next) + (table_width - o.two.next) + (table_width - o.three.next)

-- how many of them were met
abbrev pub opened : Option (ℕ × ℕ) → ℕ
opened None = 0
opened (Some m) = 1
