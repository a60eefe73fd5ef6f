use Rattle.std.proofs.Common.{◌≡◌, true, false, eqb, [], get_or, Err, sym, ap, ◌∙◌, eq-eqb, ne_eqb}
use Rattle.std.proofs.lemmas.Result.{err_from_is_err_and, MatchResult-from_err}
use Rattle.format.specs.Layout.{superblock}
use Rattle.format.specs.Superblock.{flock_of}
use Rattle.volume.specs.Answers.{looked_up, sizes_of}
use Rattle.volume.proofs.Served.{refused_check, locked, unlocked}
use Rattle.volume.proofs.clear.may_clear.Goals as goal

pub returns-in_err-volume : goal.returns-in_err-volume
returns-in_err-volume g c =
    let p = err_from_is_err_and c.from_residual.result c.from_residual.ensures.1 in
    record {
      answer = ap looked_up (p.1 ∙ ap Err p.2) ∙ refused_check (g.D.Disk.medium c.args.d.now).sectors (sizes_of c.args.held) c.args.scratch c.in_err-volume.field-0.0 c.in_err-volume.ensures.answer;
      room = MatchResult-from_err c.from_residual.result _ _ c.from_residual.ensures.0 (λ y. tt);
    }

pub returns-then-flock-ne-OPEN : goal.returns-then-flock-ne-OPEN
returns-then-flock-ne-OPEN g c =
    let S = (g.D.Disk.medium c.args.d.now).sectors in
    let b = c.in_ok-volume.ensures.buffer in
    let f = c.flock.ensures in
    let e : c.flock.result ≡ flock_of (get_or S superblock []) = f ∙ ap flock_of b in
    let n : eqb (flock_of (get_or S superblock [])) 0 ≡ false = ne_eqb (flock_of (get_or S superblock [])) 0 (λ z. c.if-flock-ne-OPEN.true (e ∙ z)) in
    record {
      answer = ap Err c.from.ensures ∙ locked S (sizes_of c.args.held) c.args.scratch (sizes_of c.in_ok-volume.volume.sizes) c.in_ok-volume.ensures.answer n;
      room = tt;
    }

pub returns : goal.returns
returns g c =
    let S = (g.D.Disk.medium c.args.d.now).sectors in
    let b = c.in_ok-volume.ensures.buffer in
    let f = c.flock.ensures in
    let e : c.flock.result ≡ flock_of (get_or S superblock []) = f ∙ ap flock_of b in
    let n : eqb (flock_of (get_or S superblock [])) 0 ≡ true = eq-eqb (flock_of (get_or S superblock [])) 0 (sym e ∙ c.if-flock-ne-OPEN.false) in
    let r = c.in_ok-volume.ensures.room in
    record {
      answer = unlocked S (sizes_of c.args.held) c.args.scratch (sizes_of c.in_ok-volume.volume.sizes) c.in_ok-volume.ensures.answer n;
      room = (r.0, r.1);
    }
