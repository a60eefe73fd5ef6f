use Rattle.std.proofs.Common.{rules, tests, ◌==◌}
use Rattle.std.proofs.lemmas.Iterator.Consumers.{YieldsList-at, YieldsList-end}
use Rattle.std.proofs.lemmas.Iterator.Splits.{YieldsList-from_slice_split}
use Rattle.script.proofs.Tokens.{one_more}
use Rattle.script.proofs.command.tokens.Goals as goal

pub loop-text-preserved : goal.loop-text-preserved
loop-text-preserved c = (
  search rules,
  search rules,
  one_more c.loop-text.yielded c.in-Some.text c.loop-text.list.items _ c.in_ok-try_from.field-0 (search rules) c.loop-text.invariant.2 (search rules),
)

pub returns : goal.returns
returns c =
    let seen = YieldsList-end
    (YieldsList-at c.into_iter-text-iterator.ensures.into_iter_gives
    (YieldsList-from_slice_split _ (λ b. b == 32) c.args.line.now c.split-text-items.ensures.rest c.split-text-items.ensures.done c.split-text-items.ensures.closure (λ x b q k. search (rules, tests))))
    c.loop-text.yielded _ c.loop-text.yielded_by _ _ c.in-None.is c.next.ensures.steps in
    rw (← seen.0) c.loop-text.invariant.2
