use Rattle.trees.proofs.counts_stand.Goals as goal
use Rattle.trees.proofs.Walks
use Rattle.trees.proofs.Files
use Rattle.trees.proofs.Checks

pub returns : goal.returns
returns c = record { walk = Walks.walked; files = Files.filed; sound = Checks.no_finding; codes = Checks.codes_said; full = Checks.none_is_missing }
