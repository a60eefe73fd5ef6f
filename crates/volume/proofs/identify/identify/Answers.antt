use Rattle.std.proofs.Common.{◌≡◌, true, false, leb, Ok, Err, sym, ap, ◌∙◌, le-leb}
use Rattle.std.proofs.lemmas.Result.{err_from_is_err_and}
use Rattle.std.proofs.lemmas.Bool.{lt-leb, cond-true, cond-false}
use Rattle.format.specs.Superblock.{isize_of, fsize_of, type_fits}
use Rattle.format.specs.Sizes.{lawful_sizes}
use Rattle.rules.specs.Calls.{is_volume}
use Rattle.volume.specs.Answers.{identified}
use Rattle.volume.proofs.Volumes.{volume_by, no_sizes, no_type, no_room, err_of_none, same_numbers}
use Rattle.volume.proofs.identify.identify.Goals as goal
use Rattle.volume.proofs.identify.identify.Goals.{else-type_fits-via-then-type_fits+else-fsize-n, else-type_fits-via-else-type_fits}

pub returns-in_err-sizes : goal.returns-in_err-sizes
returns-in_err-sizes c =
    let p = err_from_is_err_and c.from_residual.result c.from_residual.ensures.1 in
    let e = p.1 ∙ ap Err (p.2 ∙ err_of_none c.new.result _ _ c.in_err-sizes.ensures.value) in
    let i = c.get.ensures.is in
    let f = c.get-2.ensures.is in
    let n = c.in_err-sizes.ensures.variant in
    let k = c.new.ensures.when in
    let l : lawful_sizes (isize_of c.args.sb.now) (fsize_of c.args.sb.now) ≡ false = cc in
    ap identified e ∙ sym (cond-false _ _ _ (no_sizes c.args.sb.now c.args.n l))

pub returns-then-fsize-n : goal.returns-then-fsize-n
returns-then-fsize-n c =
    let i = c.get.ensures.is in
    let f = c.get-2.ensures.is in
    let n = c.in_ok-sizes.ensures.variant in
    let k = c.new.ensures.when in
    let l : lawful_sizes (isize_of c.args.sb.now) (fsize_of c.args.sb.now) ≡ true = cc in
    let h = rw c.in_ok-sizes.ensures.ok_part at c.new.ensures.held in
    let z = c.fsize.ensures in
    let t = sym c.if-type_fits.ensures in
    let le = le-leb c.fsize.result c.args.n c.if-fsize-n.true in
    let m : leb (fsize_of c.args.sb.now) c.args.n ≡ true = cc in
    ap Ok (same_numbers _ _ _ _ (h.0 ∙ i) (h.1 ∙ f)) ∙ sym (cond-true _ _ _ (volume_by c.args.sb.now c.args.n true true true l t m))

pub returns-else-type_fits : goal.returns-else-type_fits
returns-else-type_fits c =
    let i = c.get.ensures.is in
    let f = c.get-2.ensures.is in
    let n = c.in_ok-sizes.ensures.variant in
    let k = c.new.ensures.when in
    let l : lawful_sizes (isize_of c.args.sb.now) (fsize_of c.args.sb.now) ≡ true = cc in
    let h = rw c.in_ok-sizes.ensures.ok_part at c.new.ensures.held in
    let j = h.1 in
    let e = c.type_fits.ensures in
    let v : is_volume c.args.sb.now c.args.n ≡ false =
    elim c.else-type_fits.branch [
      | else-type_fits-via-then-type_fits+else-fsize-n w ↦
          let t : type_fits c.args.sb.now ≡ true = let z = w.if-type_fits.true in cc in
          let z = w.fsize.ensures in
          let o = lt-leb w.fsize.result c.args.n w.if-fsize-n.false in
          let m : leb (fsize_of c.args.sb.now) c.args.n ≡ false = cc in
          no_room c.args.sb.now c.args.n l t m
      | else-type_fits-via-else-type_fits w ↦
          let t : type_fits c.args.sb.now ≡ false = let z = w.if-type_fits.false in cc in
          no_type c.args.sb.now c.args.n l t
    ] in
    sym (cond-false _ _ _ v)
