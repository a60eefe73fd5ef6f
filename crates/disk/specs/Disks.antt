-- What a disk answers.
use Rattle.std.specs.Prelude.{ℕ, Bool, false, cond, Ok, Err, Result, ◌==◌, nat_lt}
use Rattle.fault.specs.declared.fault.Fault.{Fault}
use Rattle.fault.specs.Refusals.{disk_buffer, beyond}
use Rattle.disk.specs.Medium.{sector_bytes}

-- a buffer of len bytes and sector s of n are served
abbrev pub serves : ℕ → ℕ → ℕ → Bool
serves len s n = cond (len == sector_bytes) (nat_lt s n) false

-- a wrong buffer is refused before a wrong sector
abbrev pub answer : ℕ → ℕ → ℕ → Result (Unit {0}) Fault
answer len s n = cond (len == sector_bytes) (cond (nat_lt s n) (Ok tt) (Err (beyond s))) (Err disk_buffer)
