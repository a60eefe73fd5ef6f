use Rattle.std.proofs.Common.{◌≡◌, ◌<◌, ◌^◌}
use Rattle.numbers.specs.Numbers.{num}
use Rattle.numbers.proofs.fields.get.Given as goal

abbrev pub invariant-loop-byte : goal.invariant-loop-byte
invariant-loop-byte l = record { so_far : l.v ≡ num l.byte-index l.at l.b; small : l.v < 256 ^ l.byte-index }
