use Rattle.std.proofs.Common.{◌≡◌, ◌-◌, length, Ok, arith}
use Rattle.piles.proofs.Fuses.{fuse_holds, fuse_blown}
use Rattle.disk.proofs.Served.{counted, admitted, served}
use Rattle.piles.proofs.fuse.FuseDisk.write.Goals as goal

pub returns-in_default-clause-after : goal.returns-in_default-clause-after
returns-in_default-clause-after g c =
    let m = g.D.Disk.medium c.args.self.now.below in
    let a = admitted (length c.args.buf.now) c.args.s (length m.sectors) (counted (length c.args.buf.now) c.args.s _ _ (Ok tt) c.count.ensures.is c.in_ok-admit.ensures) in
    rw (served (length c.args.buf.now) c.args.s (length m.sectors) a.0 a.1) (fuse_blown c.args.self.now.writes (c.args.s, c.args.buf.now) m (omega arith))

pub returns-clause-after : goal.returns-clause-after
returns-clause-after g c =
    let m = g.D.Disk.medium c.args.self.now.below in
    let a = admitted (length c.args.buf.now) c.args.s (length m.sectors) (counted (length c.args.buf.now) c.args.s _ _ (Ok tt) c.count.ensures.is c.in_ok-admit.ensures) in
    let t = served (length c.args.buf.now) c.args.s (length m.sectors) a.0 a.1 in
    let z : c.in-Some.rest ≡ c.args.self.now.writes - 1 = omega arith in
    rw (t, z) (fuse_holds c.args.self.now.writes (c.args.s, c.args.buf.now) m (g.D.Disk.medium c.write.new.self) (omega arith) (rw t at c.write.ensures.after))
