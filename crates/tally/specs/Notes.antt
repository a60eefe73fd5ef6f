-- The check's scan as the code holds it, and how many claims it can still make.
use Rattle.std.specs.Prelude.{◌≡◌, ℕ, zero, suc, List, [], ◌∷◌, length, replicate}
use Rattle.fault.specs.declared.finding.Finding.{Finding}
use Rattle.verdict.specs.Scan.{Scan, shown}
use Rattle.tally.specs.declared.notes.Notes.{Notes}

-- the codes, and what the caller's list shows of the findings
abbrev pub scan_of : {D : _} {G : _} → Notes D G → Scan
scan_of n = record { codes = n.codes.now; log = shown n.findings.now n.count n.status }

-- the scan of so many blocks that begins, with a list that shows no finding yet
abbrev pub fresh : ℕ → List Finding → Scan
fresh n l = record { codes = replicate n 0; log = shown l 0 0 }

-- the two lists are those that they were, and as long
pub record SameLists {D : _} {G : _} (old new : Notes D G) : Type 0 where
  pub volume : new.volume.now ≡ old.volume.now
  pub codes : new.codes.ghost_name ≡ old.codes.ghost_name
  pub findings : new.findings.ghost_name ≡ old.findings.ghost_name
  pub blocks : length new.codes.now ≡ length old.codes.now
  pub room : length new.findings.now ≡ length old.findings.now

-- how many blocks nothing has claimed
abbrev pub unclaimed : List ℕ → ℕ
unclaimed [] = 0
unclaimed (zero ∷ cs) = suc (unclaimed cs)
unclaimed (suc c ∷ cs) = unclaimed cs
