use Rattle.std.proofs.Common.{◌≡◌, length, Ok, Err, Result, sym, ap, ◌∙◌}
use Rattle.std.proofs.lemmas.Result.{err_from_is_err_and}
use Rattle.fault.specs.declared.fault.Fault.{Fault}
use Rattle.format.specs.Sizes.{Sizes}
use Rattle.rules.specs.Calls.{may_check, check_answer, scratch_after, findings_after, judged}
use Rattle.volume.specs.Answers.{check_says, sizes_of}
use Rattle.volume.proofs.Runs.{check_carries}
use Rattle.volume.proofs.check.check.Goals as goal

pub returns-in_err-volume : goal.returns-in_err-volume
returns-in_err-volume g c =
    let m = g.D.Disk.medium c.args.d.now in
    let held = g.V.Volume.sizes c.args.held.now in
    let n = length c.args.scratch.now in
    let room = length c.args.findings.now in
    let p = err_from_is_err_and c.from_residual.result c.from_residual.ensures.1 in
    let s = c.geometry.ensures in
    let k : Err c.in_err-volume.field-0.0 ≡ may_check held n m.sectors = let e = c.in_err-volume.ensures.answer in cc in
    let a : check_says c.from_residual.result ≡ check_answer m.sectors room (may_check held n m.sectors) = ap check_says (p.1 ∙ ap Err p.2) ∙ ap (check_answer m.sectors room) k in
    record {
      answer = a;
      scratch = ap (λ (r : Result Sizes Fault). scratch_after m.sectors r c.args.scratch.now) k;
      findings = ap (λ (r : Result Sizes Fault). findings_after m.sectors r c.args.findings.now) k;
      runs = check_carries held n room m (check_says c.from_residual.result) a;
    }

pub returns : goal.returns
returns g c =
    let m = g.D.Disk.medium c.args.d.now in
    let held = g.V.Volume.sizes c.args.held.now in
    let n = length c.args.scratch.now in
    let room = length c.args.findings.now in
    let z = sizes_of c.in_ok-volume.volume.sizes in
    let s = c.geometry.ensures in
    let k : Ok z ≡ may_check held n m.sectors = let e = c.in_ok-volume.ensures.answer in cc in
    let v = c.in_ok-volume.ensures.room.0 in
    let a : judged c.run_check.result ≡ check_answer m.sectors room (may_check held n m.sectors) = rw (rw v at c.run_check.ensures.answer, sym k) in
    record {
      answer = a;
      scratch = rw (sym k) (rw v at c.run_check.ensures.scratch);
      findings = rw (sym k) (rw v at c.run_check.ensures.findings);
      runs = check_carries held n room m (judged c.run_check.result) a;
    }
