use Rattle.std.proofs.Common.{◌≡◌, ◌<◌, ◌^◌}
use Rattle.numbers.specs.Numbers.{put_num}
use Rattle.numbers.proofs.fields.put.Given as goal

abbrev pub invariant-loop-i : goal.invariant-loop-i
invariant-loop-i l = record { left : put_num l.i l.at l.rest l.b ≡ put_num l.width l.at l.v l.fn.b; small : l.rest < 256 ^ l.i }
