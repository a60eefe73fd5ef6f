use Rattle.std.proofs.Common.{◌≡◌, Ok, Err, ap, ◌∙◌}
use Rattle.std.proofs.lemmas.Result.{err_from_is_err_and}
use Rattle.rules.specs.Calls.{find_answer, lookup, sized}
use Rattle.volume.specs.Answers.{find_says, sizes_of}
use Rattle.volume.proofs.Runs.{find_carries}
use Rattle.volume.proofs.Volumes.{same_numbers}
use Rattle.volume.proofs.find.find.Goals as goal

pub returns-in_err-volume : goal.returns-in_err-volume
returns-in_err-volume g c =
    let p = err_from_is_err_and c.from_residual.result c.from_residual.ensures.1 in
    let m = g.D.Disk.medium c.args.d.now in
    let a : find_says c.from_residual.result ≡ find_answer (lookup m.sectors) = ap find_says (p.1 ∙ ap Err p.2) ∙ ap find_answer {x = Err c.in_err-volume.field-0.0} c.in_err-volume.ensures.answer in
    record { answer = a; runs = find_carries m (find_says c.from_residual.result) a }

pub returns : goal.returns
returns g c =
    let m = g.D.Disk.medium c.args.d.now in
    let s = same_numbers _ _ _ _ c.sizes.ensures.isize c.sizes.ensures.fsize in
    let a : sized (sizes_of c.sizes.result) ≡ find_answer (lookup m.sectors) = ap sized s ∙ ap find_answer {x = Ok (sizes_of c.in_ok-volume.volume.sizes)} c.in_ok-volume.ensures.answer in
    record { answer = a; runs = find_carries m (sized (sizes_of c.sizes.result)) a }
