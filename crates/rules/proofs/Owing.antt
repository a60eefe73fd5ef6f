-- Every call owes what it should: one clause for each call.
use Rattle.rules.specs.Runs.{Ask, find, check, clear, close}
use Rattle.rules.proofs.Owed.{Owes}
use Rattle.rules.proofs.Finds.{find_owes, close_owes}
use Rattle.rules.proofs.Checks.{check_owes, clear_owes}

pub call_owes : (a : Ask) → Owes a
call_owes find = find_owes
call_owes (check held n room) = check_owes held n room
call_owes (clear held n room) = clear_owes held n room
call_owes close = close_owes
