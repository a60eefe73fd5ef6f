use Rattle.std.proofs.Common.{sym, ◌∙◌}
use Rattle.images.proofs.Images.{length_ordered}
use Rattle.images.proofs.image.Image.sectors.Goals as goal

pub returns-clause-count : goal.returns-clause-count
returns-clause-count g c = c.as_chunks.ensures.front_len ∙ sym (length_ordered _ _ g.met.O.ByteOrder.laws c.args.self.now.bytes.now)
