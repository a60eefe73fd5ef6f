use Rattle.std.proofs.Common.{◌≡◌, ◌+◌, ◌-◌, ◌*◌, length, ap, ◌∙◌, arith}
use Rattle.disk.specs.Medium.{sector_bytes}
use Rattle.disk.proofs.Served.{admitted}
use Rattle.images.proofs.Images.{write_ordered, write_tail}
use Rattle.images.proofs.image.ImageDisk.write.Goals as goal

pub returns-clause-after : goal.returns-clause-after
returns-clause-after g c =
    let a = admitted (length c.args.buf.now) c.args.s _ c.in_ok-admit.ensures in
    let k : (sector_bytes * c.args.s + sector_bytes) - sector_bytes * c.args.s ≡ sector_bytes = omega arith in
    rw (k, c.turn.ensures ∙ ap g.O.ByteOrder.turned c.copy_from_slice.ensures.after) (write_ordered _ _ g.met.O.ByteOrder.laws c.args.self.now.bytes.now c.args.buf.now c.args.s a.0 (omega arith))

pub returns-clause-rest : goal.returns-clause-rest
returns-clause-rest g c =
    let a = admitted (length c.args.buf.now) c.args.s _ c.in_ok-admit.ensures in
    let k : (sector_bytes * c.args.s + sector_bytes) - sector_bytes * c.args.s ≡ sector_bytes = omega arith in
    rw (k, c.turn.ensures ∙ ap g.O.ByteOrder.turned c.copy_from_slice.ensures.after) (write_tail _ _ g.met.O.ByteOrder.laws c.args.self.now.bytes.now c.args.buf.now c.args.s a.0 (omega arith))
