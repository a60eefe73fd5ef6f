use Rattle.std.proofs.Common.{arith}
use Rattle.tally.proofs.Meets.{unclaimed_most}
use Rattle.checking.proofs.walk.Walk.new.Goals as goal

pub returns-clause-sound : goal.returns-clause-sound
returns-clause-sound c = λ v cs h.
    let m = unclaimed_most cs in record { numbered = c.new.ensures.numbered v; linked = omega arith }
