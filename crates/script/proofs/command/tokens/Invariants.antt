use Rattle.std.proofs.Common.{map}
use Rattle.script.specs.Words.{AreTokensOf}
use Rattle.script.proofs.command.tokens.Given as goal

-- the tokens so far are those of the texts so far
abbrev pub invariant-loop-text : goal.invariant-loop-text
invariant-loop-text l =
    (goal.iterator-loop-text).can_next l.text-iterator ×
    (goal.iterator-loop-text).is_finite l.text-iterator ×
    AreTokensOf (map (λ s. s.now) l.yielded) l.list.items
