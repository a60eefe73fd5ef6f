-- What the phase of the files leaves by itself.
use Rattle.std.specs.Prelude.{ℕ, List, ◌++◌, drop}
use Rattle.fault.specs.declared.finding.Finding.{Finding}
use Rattle.disk.specs.Medium.{Sectors}
use Rattle.verdict.specs.Scan.{Scan, files}
use Rattle.verdict.specs.Verdict.{findings_in, blank}

-- the scan of all files, from no codes and no findings
abbrev pub file_scan : Sectors → ℕ → ℕ → Scan
file_scan ss lo hi = files ss lo hi 0 (blank hi)

-- the findings in files, in order
abbrev pub file_findings : Sectors → ℕ → ℕ → List Finding
file_findings ss lo hi = findings_in (file_scan ss lo hi).log

-- the caller's scratch: the codes of the files, then the bytes that were there
abbrev pub file_scratch : Sectors → ℕ → ℕ → List ℕ → List ℕ
file_scratch ss lo hi old = (file_scan ss lo hi).codes ++ drop hi old
