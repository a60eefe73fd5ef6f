use Rattle.std.proofs.Common.{◌≡◌, ◌^◌, ◌<◌, drop}
use Rattle.script.specs.Numbers.{script_number, more_digits}
use Rattle.script.proofs.token.number_of.Given as goal

-- the digits to come, after those that gave n, give the whole number
abbrev pub invariant-loop-b : goal.invariant-loop-b
invariant-loop-b l = (l.n < 2 ^ 32) × (more_digits l.n (drop l.b-index l.text) ≡ script_number l.text)
