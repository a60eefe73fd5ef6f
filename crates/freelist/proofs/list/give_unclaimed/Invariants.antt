use Rattle.std.proofs.Common.{◌≡◌, ◌-◌, ◌≤◌}
use Rattle.disk.specs.Medium.{ran}
use Rattle.freelist.specs.Bytes.{gave_all, unclaimed}
use Rattle.freelist.proofs.list.give_unclaimed.Given as goal

abbrev pub invariant-loop-b : goal.invariant-loop-b
invariant-loop-b g l =
    (g.D.Disk.medium l.d ≡ ran (gave_all (unclaimed l.codes l.b (l.hi - l.b)) l.initial.sb).0 (g.D.Disk.medium l.initial.d))
    × (l.sb ≡ (gave_all (unclaimed l.codes l.b (l.hi - l.b)) l.initial.sb).1)
    × (l.lo ≤ l.b)
