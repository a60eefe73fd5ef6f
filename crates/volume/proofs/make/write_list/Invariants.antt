use Rattle.std.proofs.Common.{◌≡◌}
use Rattle.disk.specs.Medium.{ran}
use Rattle.rules.specs.Make.{list_writes}
use Rattle.volume.proofs.make.write_list.Given as goal

abbrev pub invariant-loop-n : goal.invariant-loop-n
invariant-loop-n g l = g.D.Disk.medium l.d ≡ ran (list_writes l.isize l.n) (g.D.Disk.medium l.initial.d)
