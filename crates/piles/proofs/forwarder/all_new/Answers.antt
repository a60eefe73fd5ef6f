use Rattle.std.proofs.Common.{sym, ◌∙◌, arith}
use Rattle.piles.proofs.Homes.{all_new-far, all_new-first}
use Rattle.piles.proofs.forwarder.all_new.Goals as goal
use Rattle.piles.proofs.forwarder.all_new.Goals.{then-w-n-via-then-w-n, then-w-n-via-else-w-n+then-contains}

pub returns-then-w-n : goal.returns-then-w-n
returns-then-w-n c =
    elim c.then-w-n.branch [
      | then-w-n-via-then-w-n w ↦ sym (all_new-far c.args.n _ _ _ c.in-Some.ensures.cases.0 (omega arith)) ∙ c.loop-w.invariant
      | then-w-n-via-else-w-n+then-contains w ↦
          let e = all_new-first c.args.n _ _ _ w.contains.result c.in-Some.ensures.cases.0 w.if-w-n.false w.contains.ensures.value in
          sym (rw w.if-contains.true at e) ∙ c.loop-w.invariant
    ]

pub loop-w-preserved : goal.loop-w-preserved
loop-w-preserved c =
    let e = all_new-first c.args.n _ _ _ c.contains.result c.in-Some.ensures.cases.0 c.if-w-n.false c.contains.ensures.value in
    sym (rw c.if-contains.false at e) ∙ c.loop-w.invariant
