use Rattle.std.proofs.Common.{arith, rules}
use Rattle.std.proofs.lemmas.Result.{err_from_is_err_and}
use Rattle.freelist.proofs.Locks.{take_restored, length_restored, took_answer, refused_answer}
use Rattle.freelist.proofs.list.take.Goals as goal

pub returns-in_err-block : goal.returns-in_err-block
returns-in_err-block g c =
    let S = c.args.volume.now.sectors in
    let p = err_from_is_err_and c.from_residual.result c.from_residual.ensures.1 in
    record {
      result =
          rw (p.1, p.2)
          (refused_answer c.args.volume.now.sizes.isize c.args.volume.now.sizes.fsize S c.args.member c.lock-guard.result.member c.args.sb.now c.lock-guard.result.buf.now
          (search rules) c.lock-guard.ensures.locked c.lock-guard.ensures.counted c.take.result c.in_err-block.field-0.0 c.in_err-block.was c.take.ensures.result);
      buffer =
          take_restored c.args.volume.now.sizes.isize c.args.volume.now.sizes.fsize S c.args.member c.lock-guard.result.member c.args.sb.now c.lock-guard.result.buf.now
          (search rules) c.lock-guard.ensures.locked c.lock-guard.ensures.counted c.take.new.self.buf.now _ c.take.new.self.old c.lock-guard.result.old
          c.take.ensures.after c.take.ensures.old c.lock-guard.ensures.kept (search rules);
    }

pub drop-guard-requires-2 : goal.drop-guard-requires-2
drop-guard-requires-2 g c =
    let l =
    length_restored c.args.volume.now.sizes.isize c.args.volume.now.sizes.fsize c.args.volume.now.sectors c.args.member c.lock-guard.result.member c.args.sb.now c.lock-guard.result.buf.now
    (search rules) c.lock-guard.ensures.locked c.lock-guard.ensures.counted c.take.new.self.buf.now c.take.ensures.after in
    omega arith

pub returns : goal.returns
returns g c =
    let S = c.args.volume.now.sectors in
    record {
      result =
          took_answer c.args.volume.now.sizes.isize c.args.volume.now.sizes.fsize S c.args.member c.lock-guard.result.member c.args.sb.now c.lock-guard.result.buf.now
          (search rules) c.lock-guard.ensures.locked c.lock-guard.ensures.counted c.take.result c.in_ok-block.block c.take.new.self.member
          c.in_ok-block.was c.take.ensures.result c.take.ensures.reached;
      buffer =
          take_restored c.args.volume.now.sizes.isize c.args.volume.now.sizes.fsize S c.args.member c.lock-guard.result.member c.args.sb.now c.lock-guard.result.buf.now
          (search rules) c.lock-guard.ensures.locked c.lock-guard.ensures.counted c.take.new.self.buf.now _ c.take.new.self.old c.lock-guard.result.old
          c.take.ensures.after c.take.ensures.old c.lock-guard.ensures.kept (search rules);
    }
