use Rattle.std.proofs.Common.{[], length, get_or, Ok, Err, ap, ◌∙◌, arith, le-ltb, lt-ltb}
use Rattle.std.proofs.lemmas.Result.{err_from_is_err_and}
use Rattle.format.specs.Layout.{superblock}
use Rattle.format.specs.Area.{Area}
use Rattle.rules.specs.Calls.{is_volume, sizes_in}
use Rattle.volume.specs.Answers.{looked_up, sizes_of}
use Rattle.volume.proofs.Volumes.{look_beyond, look_at, kept_refusal, kept_sizes}
use Rattle.volume.proofs.Served.{found_fits}
use Rattle.volume.proofs.identify.look_up.Goals as goal

pub returns-then-n-at-clause-answer : goal.returns-then-n-at-clause-answer
returns-then-n-at-clause-answer g c =
    let n = c.count-n.ensures.is in
    let S = (g.D.Disk.medium c.args.d.now).sectors in
    ap Err c.beyond.ensures ∙ look_beyond S (le-ltb superblock (length S) (omega arith))

pub returns-in_err-sizes-clause-answer : goal.returns-in_err-sizes-clause-answer
returns-in_err-sizes-clause-answer g c =
    let n = c.count-n.ensures.is in
    let S = (g.D.Disk.medium c.args.d.now).sectors in
    let p = err_from_is_err_and c.from_residual.result c.from_residual.ensures.1 in
    let x = get_or S superblock [] in
    let e = rw (c.get.ensures, n) at c.in_err-sizes.ensures in
    ap looked_up (p.1 ∙ ap Err p.2) ∙ kept_refusal (is_volume x (length S)) (sizes_in x) _ e ∙ look_at S (lt-ltb superblock (length S) (omega arith))

pub new-requires : goal.new-requires
new-requires g c =
    let n = c.count-n.ensures.is in
    let S = (g.D.Disk.medium c.args.d.now).sectors in
    let x = get_or S superblock [] in
    let e = rw (c.get.ensures, n) at c.in_ok-sizes.ensures in
    let l = kept_sizes (is_volume x (length S)) (sizes_in x) (sizes_of c.in_ok-sizes.sizes) e ∙ look_at S (lt-ltb superblock (length S) (omega arith)) in
    (found_fits S (sizes_of c.in_ok-sizes.sizes) l).1

pub returns-clause-answer : goal.returns-clause-answer
returns-clause-answer g c =
    let n = c.count-n.ensures.is in
    let S = (g.D.Disk.medium c.args.d.now).sectors in
    let x = get_or S superblock [] in
    let e = rw (c.get.ensures, n) at c.in_ok-sizes.ensures in
    let l = kept_sizes (is_volume x (length S)) (sizes_in x) (sizes_of c.in_ok-sizes.sizes) e ∙ look_at S (lt-ltb superblock (length S) (omega arith)) in
    ap (λ (v : Area). looked_up (Ok v)) c.new.ensures ∙ l
