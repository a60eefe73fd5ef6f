use Rattle.std.proofs.Common.{refl}
use Rattle.volume.proofs.Runs.{close_carries}
use Rattle.volume.proofs.held.Clear.close.Goals as goal

pub returns : goal.returns
returns c = record { sizes = refl; runs = close_carries }
