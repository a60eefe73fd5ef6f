use Rattle.std.proofs.Common.{◌≡◌, length, ap, ◌∙◌, arith, length-set, rules}
use Rattle.format.specs.Superblock.{at_flock}
use Rattle.freelist.proofs.Gives.{length_give}
use Rattle.freelist.proofs.Locks.{lock_count, give_wrote, give_restored}
use Rattle.freelist.proofs.list.give.Goals as goal

pub give-requires : goal.give-requires
give-requires g c =
    rw c.lock-guard.ensures.locked
    (record { lawful = rw (lock_count c.args.sb.now 1) c.requires.lawful; there = omega arith })

pub drop-guard-requires : goal.drop-guard-requires
drop-guard-requires g c =
    let e : length c.give.new.self.buf.now ≡ length c.args.sb.now =
    ap length c.give.ensures.after ∙ length_give _ c.lock-guard.result.buf.now ∙ ap length c.lock-guard.ensures.locked ∙ length-set c.args.sb.now at_flock 1 in
    omega arith

pub returns : goal.returns
returns g c =
    record {
      wrote =
          give_wrote c.args.block c.args.sb.now c.lock-guard.result.buf.now (g.D.Disk.medium c.args.d.now) (g.D.Disk.medium c.give.new.d)
          c.lock-guard.ensures.locked c.give.ensures.wrote;
      after =
          give_restored c.args.block c.args.sb.now c.lock-guard.result.buf.now c.give.new.self.buf.now _ c.give.new.self.old c.lock-guard.result.old
          c.requires.lawful c.lock-guard.ensures.locked c.give.ensures.after c.give.ensures.old c.lock-guard.ensures.kept (search rules);
    }
