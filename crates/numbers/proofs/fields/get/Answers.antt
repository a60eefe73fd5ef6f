use Rattle.std.proofs.Common.{refl, ℕ, ◌+◌, ◌-◌, ◌∙◌, drop, arith, rules, lit<, get_or-take, get_or-drop}
use Rattle.numbers.specs.Numbers.{num}
use Rattle.numbers.proofs.Numbers.{num_more, more_fits}
use Rattle.numbers.proofs.fields.get.Goals as goal

pub loop-byte-init : goal.loop-byte-init
unfolding num
loop-byte-init c = record { so_far = refl; small = lit< tt }

pub overflow_mul-v : goal.overflow_mul-v
overflow_mul-v c =
    let i = c.loop-byte.invariant in
    let f = more_fits c.loop-byte.byte-index c.loop-byte.v 0 (omega arith) i.small (lit< tt) in
    search rules

pub overflow_add-v : goal.overflow_add-v
overflow_add-v c =
    let i = c.loop-byte.invariant in
    let f = more_fits c.loop-byte.byte-index c.loop-byte.v c.from.result (omega arith) i.small (search rules) in
    search rules

pub loop-byte-preserved : goal.loop-byte-preserved
loop-byte-preserved c =
    let i = c.loop-byte.invariant in
    let e = num_more c.loop-byte.byte-index c.args.at c.args.b.now in
    let f = more_fits c.loop-byte.byte-index c.loop-byte.v c.from.result (omega arith) i.small (search rules) in
    let at : ℕ = c.args.at in
    let byte = get_or-take (at + c.args.width - at) (drop at c.args.b.now) c.loop-byte.byte-index 0 (omega arith) ∙ get_or-drop at c.args.b.now c.loop-byte.byte-index 0 in
    record { so_far = grind (arith, e, byte); small = f.0 }
