use Rattle.std.proofs.Common.{sym, refl, ap, ◌∙◌, arith}
use Rattle.verdict.specs.declared.verdict.Census.{Census}
use Rattle.scan.proofs.Members.{survey_more, survey_done}
use Rattle.checking.specs.declared.walk.Phase.TheVariants.{Missing}
use Rattle.checking.specs.declared.met.Met.TheVariants.{Block}
use Rattle.checking.proofs.Phases.{left_at, after_at}
use Rattle.checking.proofs.walk.Walk.next.Goals as goal

pub returns-then-block-fsize-clause-left : goal.returns-then-block-fsize-clause-left
returns-then-block-fsize-clause-left g c = λ s.
    let v = c.args.volume.now in
    let w = c.args.self.now in
    left_at w.phase Missing v w s c.in-Missing.is
    ∙ ap (λ (x : Census). record { scan = s; census = x }) (survey_done v.sizes.fsize s.codes w.block w.census (omega arith))

pub returns-else-block-fsize-clause-left : goal.returns-else-block-fsize-clause-left
returns-else-block-fsize-clause-left g c = λ s.
    let v = c.args.volume.now in
    let w = c.args.self.now in
    left_at w.phase Missing v w s c.in-Missing.is
    ∙ ap (λ (x : Census). record { scan = s; census = x }) (survey_more v.sizes.fsize s.codes w.block w.census (omega arith))
    ∙ sym (after_at w.phase Missing (Block w.block) (Block w.block) v _ s c.in-Missing.is refl)
