use Rattle.std.proofs.Common.{length, refl}
use Rattle.rules.specs.Calls.{done, refused}
use Rattle.volume.specs.Answers.{sizes_of}
use Rattle.volume.proofs.Runs.{clear_carries}
use Rattle.volume.proofs.held.Found.clear.Goals as goal

pub returns-in-Ok : goal.returns-in-Ok
returns-in-Ok g c =
    let e = c.in-Ok.ensures in
    record {
      answer = e.answer;
      volume = refl;
      scratch = e.scratch;
      findings = e.findings;
      runs = clear_carries (sizes_of c.args.self.sizes) (length c.args.scratch.now) (length c.args.findings.now) (g.D.Disk.medium c.args.d.now) done e.answer;
    }

pub returns-in-Err : goal.returns-in-Err
returns-in-Err g c =
    let e = c.in-Err.ensures in
    record {
      answer = e.answer;
      volume = refl;
      scratch = e.scratch;
      findings = e.findings;
      runs = clear_carries (sizes_of c.args.self.sizes) (length c.args.scratch.now) (length c.args.findings.now) (g.D.Disk.medium c.args.d.now) (refused c.in-Err.fault) e.answer;
    }
