use Rattle.std.proofs.Common.{◌≡◌, ℕ, ◌+◌, ◌≤◌, List, length, refl, sym, ap, ◌∙◌, arith, rules}
use Rattle.fault.specs.declared.finding.Finding.{Finding}
use Rattle.verdict.specs.declared.verdict.Census.{Census}
use Rattle.verdict.specs.Scan.{Scan, Report, shown, check}
use Rattle.verdict.specs.Verdict.{verdict_from}
use Rattle.scan.proofs.Shown.{check_done_shows}
use Rattle.format.specs.Area.{Area}
use Rattle.tally.specs.Notes.{scan_of, fresh}
use Rattle.tally.proofs.Meets.{unclaimed_most}
use Rattle.checking.specs.Resume.{resume, effort}
use Rattle.checking.proofs.run.note_all.Goals as goal

none_spent : (n e : ℕ) → n ≡ 0 → e ≤ 10000000 → n + e ≤ 10000000
none_spent n e h k = omega arith

list_shown : (l m : List Finding) (i j a b : ℕ) → shown l i a ≡ shown m j b → l ≡ m
list_shown l m i j a b e = cc

verdict_is : (b n r : ℕ) (c : Census) (b' n' r' : ℕ) (c' : Census) → b ≡ b' → n ≡ n' → c ≡ c' → r ≡ r' → verdict_from b n c r ≡ verdict_from b' n' c' r'
verdict_is b n r c b' n' r' c' e f g h = rw (e, f, g, h)

begins : (v : Area) (x : Report) (s t : Scan) → x ≡ check v.sectors v.sizes.isize v.sizes.fsize s → s ≡ t → x ≡ check v.sectors v.sizes.isize v.sizes.fsize t
begins v x s t e f = e ∙ ap (check v.sectors v.sizes.isize v.sizes.fsize) f

pub loop-met-init : goal.loop-met-init
loop-met-init g c =
    let v = c.args.volume.now in
    let n = c.new-notes.result in
    let h = c.new-notes.ensures in
    let w = c.new-walk.ensures in
    let u = unclaimed_most n.codes.now in
    let z = n.sized in
    let y = ap (λ (x : Area). x.sizes.fsize) h.volume in
    let e : effort v c.new-walk.result n.codes.now ≤ 10000000 = rw (w.effort v n.codes.now) (omega arith) in
    record {
      left = begins v _ _ _ (w.left v (scan_of n)) (rw c.requires at h.scan);
      sound = w.sound v n.codes.now (omega arith);
      spending = none_spent _ _ (w.spent n.count ∙ h.count) e;
      volume = h.volume;
      same = record { volume = refl; codes = refl; findings = refl; blocks = refl; room = refl };
    }

pub returns : goal.returns
returns g c =
    let v = c.args.volume.now in
    let n = c.loop-met.notes in
    let i = c.loop-met.invariant in
    let r = check_done_shows v.sectors v.sizes.isize v.sizes.fsize c.args.findings.now n.findings.now n.count n.status n.codes.now c.next.new.self.census
    (◌∙◌ {b = resume v c.loop-met.walk (scan_of n)} {c = check v.sectors v.sizes.isize v.sizes.fsize (fresh v.sizes.fsize c.args.findings.now)} (sym (c.in_default.ensures.left (scan_of n))) i.left) in
    record {
      answer =
          ◌∙◌ {b = verdict_from n.status n.count c.next.new.self.census (length n.findings.now)} c.judge.ensures
          (verdict_is _ _ _ _ _ _ _ _ r.0.bits r.0.number r.1 (i.same.room ∙ ap length (list_shown _ _ _ _ _ _ (ap (λ (x : Scan). x.log) c.new-notes.ensures.scan))));
      codes = ◌∙◌ {b = n.codes.now} (search rules) r.0.codes;
      findings = ◌∙◌ {b = n.findings.now} (search rules) r.0.findings;
    }
