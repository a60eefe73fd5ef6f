use Rattle.images.proofs.Images.{sized_ordered}
use Rattle.images.proofs.image.ImageDisk.count.Goals as goal

pub returns-clause-sized : goal.returns-clause-sized
returns-clause-sized g c = sized_ordered _ _ g.met.O.ByteOrder.laws c.args.self.now.bytes.now
