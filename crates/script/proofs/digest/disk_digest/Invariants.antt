use Rattle.std.proofs.Common.{◌≡◌, take}
use Rattle.script.specs.Digest.{fnv_start, fnv_sectors}
use Rattle.script.proofs.digest.disk_digest.Given as goal

abbrev pub invariant-loop-s : goal.invariant-loop-s
invariant-loop-s g l = l.h ≡ fnv_sectors fnv_start (take l.s (g.D.Disk.medium l.d).sectors)
