-- Runs: any calls on a newly made volume, in any order, with power failing before any sector write.
use Rattle.std.specs.Prelude.{ℕ, Bool, true, false, cond, List, []}
use Rattle.disk.specs.Medium.{Power, Sectors, Sized, Write, Medium, Lasts, Fails}
use Rattle.disk.specs.Calls.{Call, Did}
use Rattle.format.specs.Layout.{block_bytes}
use Rattle.format.specs.Sizes.{Sizes}
use Rattle.rules.specs.Calls.{Answer, done, accepted, lookup, may_check, may_clear, find_answer, check_answer, clear_answer}
use Rattle.rules.specs.Make.{make_rule}
use Rattle.rules.specs.Files.{Book, files_on, first_book}

-- The calls with what they are given: the sizes of the volume held, the bytes of scratch, the room for findings.
-- A host may hold several volumes, of this disk or another: the sizes held are any.
pub data Ask : Type 0 where
  find : Ask
  check : Sizes → ℕ → ℕ → Ask
  clear : Sizes → ℕ → ℕ → Ask
  close : Ask

-- the rule of each call: its writes in order, and its answer
abbrev pub rule : Ask → Call Answer
rule find S = ([], find_answer (lookup S))
rule (check held n room) S = ([], check_answer S room (may_check held n S))
rule (clear held n room) S = ([], clear_answer S room (may_clear held n S))
rule close S = ([], done)

abbrev pub writes : Ask → Sectors → List Write
writes a S = (rule a S).0

-- what a call that was not cut feeds the book
abbrev pub fed : Book → Ask → Answer → Book
fed B find r = B
fed B (check held n room) r = B
fed B (clear held n room) r = B
fed B close r = B

-- an accepted clear shows that no block is missing
abbrev pub settles : Ask → Answer → Bool
settles find r = false
settles (check held n room) r = false
settles (clear held n room) r = accepted r
settles close r = false

-- a point of a run: the sizes of the volume, its disk, the book of its files, and whether some failure may have left blocks missing
pub record Point : Type 0 where
  pub sizes : Sizes
  pub disk : Medium
  pub book : Book
  pub unmended : Bool

abbrev pub start : Sizes → Medium → Point
start z m = record { sizes = z; disk = m; book = first_book; unmended = false }

-- after a call that was not cut
abbrev pub next : Point → Ask → Answer → Medium → Point
next x a r m = record { sizes = x.sizes; disk = m; book = fed x.book a r; unmended = cond (settles a r) false x.unmended }

-- after a power failure: the sectors as they are, some new power, and a book that begins with the files found there
abbrev pub restarted : Point → Medium → Power → Point
restarted x m p =
    record { sizes = x.sizes; disk = record { sectors = m.sectors; power = p }; book = files_on m.sectors x.sizes; unmended = true }

-- m is newly made from before: an accepted make of sizes z in which power held, on a disk whose sectors have their size
pub record NewlyMade (z : Sizes) (before m : Medium) : Type 0 where
  pub sized : Sized before.sectors
  pub did : Did (make_rule z.isize z.fsize block_bytes) before done m
  pub lasted : Lasts before.power (make_rule z.isize z.fsize block_bytes before.sectors).0

-- A run starts with a newly made volume, and goes on by calls that were not cut and by calls that were.
-- A call does whatever its contract allows, and any call may come at any point.
pub data Run : Point → Type 0 where
  made : (z : Sizes) (before m : Medium) → NewlyMade z before m → Run (start z m)
  step : {x : Point} → Run x → (a : Ask) (r : Answer) (m : Medium)
      → Did (rule a) x.disk r m → Lasts x.disk.power (writes a x.disk.sectors) → Run (next x a r m)
  cut : {x : Point} → Run x → (a : Ask) (r : Answer) (m : Medium)
      → Did (rule a) x.disk r m → Fails x.disk.power (writes a x.disk.sectors) → (p : Power) → Run (restarted x m p)
