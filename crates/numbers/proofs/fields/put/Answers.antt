use Rattle.std.proofs.Common.{◌≡◌, ◌∙◌, arith}
use Rattle.numbers.specs.Numbers.{put_num}
use Rattle.numbers.proofs.Numbers.{put_last}
use Rattle.numbers.proofs.fields.put.Goals as goal

pub loop-i-preserved : goal.loop-i-preserved
loop-i-preserved c =
    let v = c.loop-i.invariant in
    let p = put_last c.loop-i.i c.args.at c.loop-i.rest c.loop-i.b (omega arith) (omega arith) v.small in
    record { left = p.0 ∙ v.left; small = p.1 }

pub returns : goal.returns
unfolding put_num
returns c =
    let z : c.loop-i.i ≡ 0 = omega arith in
    rw z at c.loop-i.invariant.left
