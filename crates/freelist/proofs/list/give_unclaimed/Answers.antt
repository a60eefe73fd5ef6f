use Rattle.std.proofs.Common.{◌≡◌, ℕ, ◌-◌, List, sym, ap, ◌∙◌, arith, rules}
use Rattle.disk.specs.Medium.{Write, ran}
use Rattle.disk.proofs.Writes.{ran_none, ran_append, length_ran}
use Rattle.freelist.specs.Bytes.{unclaimed}
use Rattle.freelist.proofs.Stands.{gave_all_fits}
use Rattle.freelist.proofs.Loops.{given_none, passed_claimed, gave_unclaimed}
use Rattle.freelist.proofs.list.give_unclaimed.Goals as goal

pub loop-b-init : goal.loop-b-init
loop-b-init g c =
    let e = given_none c.args.codes.now c.args.hi c.args.sb.now in
    let m = g.D.Disk.medium c.args.d.now in
    (sym (ap (λ (x : List Write × List ℕ). ran x.0 m) e ∙ ran_none m), sym (ap (λ (x : List Write × List ℕ). x.1) e), c.requires.order)

pub give-requires : goal.give-requires
give-requires g c =
    let r = gave_all_fits (unclaimed c.args.codes.now c.loop-b.b (c.args.hi - c.loop-b.b)) c.args.sb.now (search rules) c.requires.lawful in
    record {
      lawful = rw c.loop-b.invariant.1 r.1;
      there = rw (c.loop-b.invariant.0, length_ran) (omega arith);
    }

pub loop-b-preserved : goal.loop-b-preserved
loop-b-preserved g c =
    rw (passed_claimed c.args.codes.now c.loop-b.b c.args.hi c.args.sb.now (omega arith) (omega arith) (sym c.if-is_unclaimed.ensures))
    (c.loop-b.invariant.0, c.loop-b.invariant.1, omega arith)

pub loop-b-preserved-then-is_unclaimed : goal.loop-b-preserved-then-is_unclaimed
loop-b-preserved-then-is_unclaimed g c =
    rw (gave_unclaimed c.args.codes.now c.loop-b.b c.args.hi c.args.sb.now (omega arith) (omega arith) (sym c.if-is_unclaimed.ensures)) (
      rw (c.give.ensures.wrote, c.loop-b.invariant.0, ran_append, c.loop-b.invariant.1),
      rw (c.give.ensures.after, c.loop-b.invariant.1),
      omega arith,
    )

pub returns : goal.returns
returns g c =
    let e : c.loop-b.b ≡ c.args.lo = omega arith in
    record { wrote = rw (← e) c.loop-b.invariant.0; after = rw (← e) c.loop-b.invariant.1 }
