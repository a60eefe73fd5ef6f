-- The check's scan as a tally holds it beside the codes and the caller's list.
use Rattle.std.specs.Prelude.{ℕ, List}
use Rattle.fault.specs.declared.finding.Finding.{Finding}
use Rattle.verdict.specs.Scan.{Scan, shown}
use Rattle.tally.specs.declared.tally.Tally.{Tally}

-- the codes, and what the caller's list shows of the findings
abbrev pub scan_of : Tally → List ℕ → List Finding → Scan
scan_of t cs l = record { codes = cs; log = shown l t.count t.status }
