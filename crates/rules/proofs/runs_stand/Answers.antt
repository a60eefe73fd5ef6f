use Rattle.rules.proofs.Promised.{every_run_keeps_its_promises}
use Rattle.rules.proofs.runs_stand.Goals as goal

pub returns : goal.returns
returns c = every_run_keeps_its_promises
