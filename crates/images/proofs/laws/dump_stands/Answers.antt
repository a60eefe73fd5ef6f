use Rattle.images.proofs.Pairs.{dump_law}
use Rattle.images.proofs.laws.dump_stands.Goals as goal

pub returns : goal.returns
returns c = dump_law
