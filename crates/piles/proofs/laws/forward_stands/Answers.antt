use Rattle.piles.proofs.Homes.{forward_law}
use Rattle.piles.proofs.laws.forward_stands.Goals as goal

pub returns : goal.returns
returns c = forward_law
