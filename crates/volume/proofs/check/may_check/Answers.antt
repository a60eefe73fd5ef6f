use Rattle.std.proofs.Common.{◌≡◌, true, false, Err, sym, ap, ◌∙◌, arith, le-leb}
use Rattle.std.proofs.lemmas.Bool.{lt-leb}
use Rattle.std.proofs.lemmas.Result.{err_from_is_err_and}
use Rattle.format.specs.Sizes.{Sizes}
use Rattle.rules.specs.Calls.{same_sizes}
use Rattle.volume.specs.Answers.{looked_up, sizes_of}
use Rattle.volume.proofs.Served.{refused_look, other_sizes, short_scratch, served, the_same}
use Rattle.volume.proofs.check.may_check.Goals as goal

pub returns-in_err-volume-clause-answer : goal.returns-in_err-volume-clause-answer
returns-in_err-volume-clause-answer g c =
    let p = err_from_is_err_and c.from_residual.result c.from_residual.ensures.1 in
    ap looked_up (p.1 ∙ ap Err p.2)
    ∙ refused_look (g.D.Disk.medium c.args.d.now).sectors (sizes_of c.args.held) c.args.scratch c.in_err-volume.field-0.0 c.in_err-volume.ensures.answer

pub returns-then-not-same_sizes-clause-answer : goal.returns-then-not-same_sizes-clause-answer
returns-then-not-same_sizes-clause-answer g c =
    let z = sizes_of c.in_ok-volume.volume.sizes in
    let e : same_sizes z (sizes_of c.args.held) ≡ false = rw (c.sizes.ensures.isize, c.sizes.ensures.fsize) at (sym c.if-not-same_sizes.ensures) in
    ap Err c.from.ensures ∙ other_sizes (g.D.Disk.medium c.args.d.now).sectors (sizes_of c.args.held) c.args.scratch z c.in_ok-volume.ensures.answer e

pub returns-then-scratch-fsize-clause-answer : goal.returns-then-scratch-fsize-clause-answer
returns-then-scratch-fsize-clause-answer g c =
    let z = sizes_of c.in_ok-volume.volume.sizes in
    let held = sizes_of c.args.held in
    let e : same_sizes z held ≡ true = rw (c.sizes.ensures.isize, c.sizes.ensures.fsize) at (sym c.if-not-same_sizes.ensures) in
    let f = ap (λ (x : Sizes). x.fsize) (the_same z held e) in
    let l = c.fsize.ensures in
    ap Err c.from-then-scratch-fsize.ensures
    ∙ short_scratch (g.D.Disk.medium c.args.d.now).sectors held c.args.scratch z c.in_ok-volume.ensures.answer e (lt-leb c.in_ok-volume.volume.sizes.fsize c.args.scratch (omega arith))

pub returns-clause-answer : goal.returns-clause-answer
returns-clause-answer g c =
    let z = sizes_of c.in_ok-volume.volume.sizes in
    let held = sizes_of c.args.held in
    let e : same_sizes z held ≡ true = rw (c.sizes.ensures.isize, c.sizes.ensures.fsize) at (sym c.if-not-same_sizes.ensures) in
    let f = ap (λ (x : Sizes). x.fsize) (the_same z held e) in
    let l = c.fsize.ensures in
    served (g.D.Disk.medium c.args.d.now).sectors held c.args.scratch z c.in_ok-volume.ensures.answer e (le-leb c.in_ok-volume.volume.sizes.fsize c.args.scratch (omega arith))
