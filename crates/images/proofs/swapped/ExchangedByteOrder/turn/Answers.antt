use Rattle.std.proofs.Common.{sym, ◌∙◌, arith}
use Rattle.images.proofs.Pairs.{pairs_none, pairs_more, pairs_all}
use Rattle.images.proofs.swapped.ExchangedByteOrder.turn.Goals as goal

pub loop-i-init : goal.loop-i-init
loop-i-init c = sym (pairs_none c.args.sector.now)

pub loop-i-preserved : goal.loop-i-preserved
loop-i-preserved c = c.swap.ensures.after ∙ pairs_more c.loop-i.i c.args.sector.now c.loop-i.sector (omega arith) (omega arith) c.loop-i.invariant

pub returns : goal.returns
returns c = c.loop-i.invariant ∙ pairs_all c.loop-i.i c.args.sector.now (omega arith)
