-- What the check has left to do, from wherever its walk stands.
use Rattle.std.specs.Prelude.{ℕ, ◌+◌, ◌-◌, ◌<◌, List, Some, None, Option, slice_index}
use Rattle.format.specs.Layout.{list_room}
use Rattle.verdict.specs.Scan.{Scan, Report, free_list, report, survey, counted}
use Rattle.format.specs.Area.{Area}
use Rattle.checking.specs.declared.met.Met.{Met}
use Rattle.checking.specs.declared.met.Met.TheVariants.{InFile, Listed, Block, End}
use Rattle.checking.specs.declared.walk.Phase.{Phase}
use Rattle.checking.specs.declared.walk.Phase.TheVariants.{Files, Free, Missing}
use Rattle.checking.specs.declared.walk.Walk.{Walk}
use Rattle.checking.specs.FilesLeft.{files_left, files_after, FilesReady, Numbered, file_turns, claim_turns, file_worth}
use Rattle.checking.specs.ListLeft.{list_left, list_after, ListReady, Linked}

-- what follows the files, and what follows the free list
abbrev pub after_files : Area → Scan → Report
after_files v s = report v.sizes.isize v.sizes.fsize (free_list v.sectors v.sizes.isize v.sizes.fsize s)

abbrev pub after_list : Area → Scan → Report
after_list v s = report v.sizes.isize v.sizes.fsize s

-- by phase: the rest of the files, then the free list, then the blocks
abbrev pub left_in : Phase → Area → Walk → Scan → Report
left_in Files v w s = after_files v (files_left v w.files s)
left_in Free v w s = after_list v (list_left v w.list s)
left_in Missing v w s = record { scan = s; census = survey v.sizes.fsize s.codes w.block w.census }

abbrev pub resume : Area → Walk → Scan → Report
resume v w s = left_in w.phase v w s

-- nothing is left
abbrev pub done : Walk → Scan → Report
done w s = record { scan = s; census = w.census }

-- the same, with what was met to be done first
abbrev pub after_in : Phase → Met → Area → Walk → Scan → Report
after_in Files (InFile m) v w s = after_files v (files_after (Some m) v w.files s)
after_in Files (Listed e) v w s = after_files v s
after_in Files (Block b) v w s = after_files v s
after_in Files End v w s = after_files v s
after_in Free (InFile m) v w s = after_list v s
after_in Free (Listed e) v w s = after_list v (list_after (Some e) v w.list s)
after_in Free (Block b) v w s = after_list v s
after_in Free End v w s = after_list v s
after_in Missing (InFile m) v w s = done w s
after_in Missing (Listed e) v w s = done w s
after_in Missing (Block b) v w s = record { scan = s; census = survey v.sizes.fsize s.codes w.block (counted (slice_index s.codes b) w.census) }
after_in Missing End v w s = done w s

abbrev pub after : Met → Area → Walk → Scan → Report
after m v w s = after_in w.phase m v w s

-- what holds of the walk when something was met
abbrev pub ReadyIn : Phase → Met → Area → Walk → Type 0
ReadyIn Files (InFile m) v w = FilesReady (Some m) w.files
ReadyIn Files (Listed e) v w = ⊥
ReadyIn Files (Block b) v w = ⊥
ReadyIn Files End v w = Unit {0}
ReadyIn Free (InFile m) v w = ⊥
ReadyIn Free (Listed e) v w = ListReady (Some e) w.list
ReadyIn Free (Block b) v w = ⊥
ReadyIn Free End v w = Unit {0}
ReadyIn Missing (InFile m) v w = ⊥
ReadyIn Missing (Listed e) v w = ⊥
ReadyIn Missing (Block b) v w = b < v.sizes.fsize
ReadyIn Missing End v w = ⊥

abbrev pub Ready : Met → Area → Walk → Type 0
Ready m v w = ReadyIn w.phase m v w

-- how many turns what was met is counted for
abbrev pub worth : Met → ℕ
worth (InFile m) = file_worth (Some m)
worth (Listed e) = 1
worth (Block b) = 1
worth End = 0

-- how many turns the phase and those after it may still take, but for claims, files and entries
abbrev pub turns : Phase → ℕ → ℕ → ℕ
turns Files hi b = hi + list_room + 3
turns Free hi b = hi + 1
turns Missing hi b = hi - b

-- at most so many turns are left
abbrev pub effort : Area → Walk → List ℕ → ℕ
effort v w cs = (file_turns v w.files + claim_turns cs) + w.list.left + turns w.phase v.sizes.fsize w.block

-- how much was counted, with so many findings
abbrev pub spent : ℕ → Walk → ℕ
spent n w = n + w.census.used + w.census.free + w.census.missing

-- what always holds
pub record Sound (v : Area) (w : Walk) (cs : List ℕ) : Type 0 where
  pub numbered : Numbered v w.files
  pub linked : Linked v w.list cs

-- what comes next, if anything does
abbrev pub next_left : Option Met → Area → Walk → Scan → Report
next_left None v w s = done w s
next_left (Some m) v w s = after m v w s

abbrev pub NextReady : Option Met → Area → Walk → Type 0
NextReady None v w = Unit {0}
NextReady (Some m) v w = Ready m v w

abbrev pub next_worth : Option Met → ℕ
next_worth None = 0
next_worth (Some m) = worth m
