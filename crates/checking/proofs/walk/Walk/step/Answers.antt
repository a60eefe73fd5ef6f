use Rattle.std.proofs.Common.{sym, ◌∙◌, arith}
use Rattle.tally.specs.Notes.{scan_of}
use Rattle.tally.proofs.Meets.{unclaimed_most}
use Rattle.checking.specs.declared.walk.Phase.TheVariants.{Files, Free}
use Rattle.checking.specs.declared.met.Met.TheVariants.{End}
use Rattle.checking.proofs.Phases.{no_blocks, after_at, list_begins, report_is}
use Rattle.checking.proofs.walk.Walk.step.Goals as goal

pub returns-in-Files-End-clause-left : goal.returns-in-Files-End-clause-left
returns-in-Files-End-clause-left g c =
    let v = c.args.notes.now.volume.now in
    let w = c.args.self.now in
    let s = scan_of c.args.notes.now in
    list_begins v _ _ s c.enter.ensures.left c.new-self.ensures.0 ∙ sym (after_at w.phase Files c.args.met End v w s c.in-Files-End.is-0 c.in-Files-End.is-1)

pub returns-in-Files-End-clause-sound : goal.returns-in-Files-End-clause-sound
returns-in-Files-End-clause-sound g c =
    let h = c.enter.ensures in
    let u = unclaimed_most c.args.notes.now.codes.now in
    record { numbered = c.requires.sound.numbered; linked = rw h.codes (omega (arith, c.args.notes.now.sized)) }

pub returns-in-Free-End-clause-left : goal.returns-in-Free-End-clause-left
returns-in-Free-End-clause-left g c =
    let v = c.args.notes.now.volume.now in
    let w = c.args.self.now in
    let s = scan_of c.args.notes.now in
    report_is v _ _ s (omega arith) (no_blocks _ c.default-self.ensures) ∙ sym (after_at w.phase Free c.args.met End v w s c.in-Free-End.is-0 c.in-Free-End.is-1)
