use Rattle.std.proofs.Common.{◌≡◌}
use Rattle.images.proofs.Pairs.{pairs}
use Rattle.images.proofs.swapped.ExchangedByteOrder.turn.Given as goal

abbrev pub invariant-loop-i : goal.invariant-loop-i
invariant-loop-i l = l.sector ≡ pairs l.i l.initial.sector
