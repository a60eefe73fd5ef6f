use Rattle.std.proofs.Common.{arith}
use Rattle.piles.proofs.Homes.{length_forwarded, sized_forwarded}
use Rattle.piles.proofs.forwarder.ForwarderDisk.count.Goals as goal

pub returns : goal.returns
returns g c =
    let ws = c.args.self.now.worn.items in
    let S = (g.D.Disk.medium c.args.self.now.below).sectors in
    record { is = rw (length_forwarded ws S) (omega arith); sized = sized_forwarded ws S c.count.ensures.sized }
