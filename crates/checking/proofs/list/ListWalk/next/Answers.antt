use Rattle.std.proofs.Common.{arith}
use Rattle.scan.proofs.Members.{left_none, left_step}
use Rattle.checking.proofs.list.ListWalk.next.Goals as goal

pub returns-in_err-index-clause-left : goal.returns-in_err-index-clause-left
returns-in_err-index-clause-left c = λ v s.
    let l = c.args.self.now in
    rw c.from_residual.ensures (left_none v.sectors v.sizes.isize v.sizes.fsize l.member l.node l.left s (omega (arith, c.in_err-index.ensures)))

pub returns-clause-left : goal.returns-clause-left
returns-clause-left c = λ v s.
    let l = c.args.self.now in
    let m = left_step v.sectors v.sizes.isize v.sizes.fsize l.member l.node l.left s (λ z. omega (arith, z, c.in_ok-index.ensures)) in
    let e = c.in_ok-index.ensures in cc
