use Rattle.std.proofs.Common.{[], length, get_or, ap, ◌∙◌, arith}
use Rattle.disk.specs.Medium.{Sectors}
use Rattle.disk.proofs.Served.{admitted}
use Rattle.images.proofs.Images.{read_ordered}
use Rattle.images.proofs.image.ImageDisk.read.Goals as goal

pub returns-clause-buffer : goal.returns-clause-buffer
returns-clause-buffer g c =
    let a = admitted (length c.args.buf.now) c.args.s _ c.in_ok-admit.ensures in
    read_ordered _ _ g.met.O.ByteOrder.laws c.args.self.now.bytes.now c.args.buf.now c.args.s a.0 (omega arith) c.turn.new.sector
    (c.turn.ensures ∙ ap g.O.ByteOrder.turned (c.copy_from_slice.ensures.after ∙ ap (λ (S : Sectors). get_or S c.args.s []) c.sectors-sectors.ensures.are))
