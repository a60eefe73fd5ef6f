-- The meaning of the fuse.
use Rattle.std.specs.Prelude.{ℕ}
use Rattle.disk.specs.Medium.{Medium, least}

-- a fuse of f writes over a disk
abbrev pub fused : ℕ → Medium → Medium
fused f m = record { sectors = m.sectors; power = least f m.power }
