use Rattle.std.proofs.Common.{◌≡◌, refl, sym, ap, ◌∙◌, arith, rules}
use Rattle.verdict.specs.Scan.{Scan}
use Rattle.scan.proofs.Shown.{files_done_show}
use Rattle.format.specs.Area.{Area}
use Rattle.tally.specs.Notes.{scan_of, fresh}
use Rattle.tally.proofs.Meets.{unclaimed_most}
use Rattle.checking.specs.FilesLeft.{files_from, files_left}
use Rattle.checking.proofs.phase.note_files.Goals as goal

begins : (v : Area) (x s t : Scan) → x ≡ files_from v 0 s → s ≡ t → x ≡ files_from v 0 t
begins v x s t e f = e ∙ ap (files_from v 0) f

pub loop-met-init : goal.loop-met-init
loop-met-init g c =
    let v = c.args.volume.now in
    let n = c.new-notes.result in
    let h = c.new-notes.ensures in
    let w = c.new-walk.ensures in
    let u = unclaimed_most n.codes.now in
    let t = w.turns v in
    let z = n.sized in
    let y = ap (λ (x : Area). x.sizes.fsize) h.volume in
    record {
      left = begins v _ _ _ (w.left v (scan_of n)) (rw c.requires at h.scan);
      numbered = w.numbered v;
      spent = omega arith;
      volume = h.volume;
      same = record { volume = refl; codes = refl; findings = refl; blocks = refl; room = refl };
    }

pub returns : goal.returns
returns g c =
    let v = c.args.volume.now in
    let n = c.loop-met.notes in
    let r = files_done_show v.sectors v.sizes.isize v.sizes.fsize c.args.findings.now n.findings.now n.count n.status n.codes.now
    (◌∙◌ {b = files_left v c.loop-met.walk (scan_of n)} {c = files_from v 0 (fresh v.sizes.fsize c.args.findings.now)} (sym (c.in_default.ensures.left (scan_of n))) c.loop-met.invariant.left) in
    record {
      count = r.number;
      codes = ◌∙◌ {b = n.codes.now} (search rules) r.codes;
      findings = ◌∙◌ {b = n.findings.now} (search rules) r.findings;
    }
