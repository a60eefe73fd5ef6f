-- Every run keeps its promises; each call carries every run on; an accepted make starts one.
use Rattle.std.proofs.Common.{◌≡◌, ℕ}
use Rattle.disk.specs.Medium.{Medium, Sized}
use Rattle.disk.specs.Calls.{Did}
use Rattle.format.specs.Sizes.{Sizes}
use Rattle.rules.specs.Calls.{Answer, done}
use Rattle.rules.specs.Make.{make_rule}
use Rattle.rules.specs.Runs.{Ask, rule, Point, Run}
use Rattle.rules.specs.Promises.{EveryRunKeepsItsPromises, CarriesOn, StartsARun}
use Rattle.rules.proofs.Owed.{Kept}
use Rattle.rules.proofs.Owing.{call_owes}
use Rattle.rules.proofs.Makes.{make_owes}
use Rattle.rules.proofs.Master as master

pub every_run_keeps_its_promises : EveryRunKeepsItsPromises
every_run_keeps_its_promises = master.promises call_owes make_owes

-- what a point of a run keeps
pub run_keeps : {x : Point} → Run x → Kept x
run_keeps run = master.run_kept call_owes make_owes run

-- for the contract of a call that did what its rule says
pub carried_on : (a : Ask) (before : Medium) (r : Answer) (end : Medium) → Did (rule a) before r end → CarriesOn a before r end
carried_on a before r end d = master.carries call_owes make_owes a before r end d

-- for the contract of make
pub started : (z : Sizes) (buffer : ℕ) (before : Medium) (r : Answer) (end : Medium) → (r ≡ done → Sized before.sectors) → Did (make_rule z.isize z.fsize buffer) before r end → StartsARun z buffer before r end
started z buffer before r end sized d = master.starts call_owes make_owes z buffer before r end sized d
