use Rattle.std.proofs.Common.{◌≡◌, length}
use Rattle.piles.specs.Forward.{all_new}
use Rattle.piles.proofs.forwarder.all_new.Given as goal

abbrev pub invariant-loop-w : goal.invariant-loop-w
invariant-loop-w l = all_new l.n l.rest ≡ all_new l.n l.worn

abbrev pub decreases-loop-w : goal.decreases-loop-w
decreases-loop-w l = length l.rest
