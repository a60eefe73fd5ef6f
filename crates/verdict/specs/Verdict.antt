-- What the check answers and leaves in the caller's buffers.
use Rattle.std.specs.Prelude.{ℕ, cond, List, [], ◌∷◌, ◌++◌, length, drop, replicate, bit_or, nat_lt}
use Rattle.fault.specs.declared.finding.Finding.{Finding}
use Rattle.fault.specs.Findings.{status_bit}
use Rattle.disk.specs.Medium.{Sectors}
use Rattle.verdict.specs.declared.verdict.Census.{Census}
use Rattle.verdict.specs.declared.verdict.Verdict.{Verdict}
use Rattle.verdict.specs.Scan.{Log, all, shown, Scan, Report, files, check}

-- the findings of a log
abbrev pub findings_in : Log → List Finding
findings_in (all fs) = fs
findings_in (shown l n b) = []

-- no codes, no findings
abbrev pub blank : ℕ → Scan
blank hi = record { codes = replicate hi 0; log = all [] }

-- the file phase alone
abbrev pub files_of : Sectors → ℕ → ℕ → Scan
files_of ss lo hi = files ss lo hi 0 (blank hi)

-- the check of a volume with the data blocks lo to hi - 1
abbrev pub checked : Sectors → ℕ → ℕ → Report
checked ss lo hi = check ss lo hi (blank hi)

-- all findings, in order
abbrev pub findings_of : Sectors → ℕ → ℕ → List Finding
findings_of ss lo hi = findings_in (checked ss lo hi).scan.log

-- the code of each block
abbrev pub codes_of : Sectors → ℕ → ℕ → List ℕ
codes_of ss lo hi = (checked ss lo hi).scan.codes

-- the status bits of findings
abbrev pub bits_from : ℕ → List Finding → ℕ
bits_from b [] = b
bits_from b (f ∷ fs) = bits_from (bit_or b (status_bit f.kind)) fs

-- 0x08 stands for a data block without a claim, 0x01 for findings that found no room
abbrev pub verdict_from : ℕ → ℕ → Census → ℕ → Verdict
verdict_from b n c room =
    record {
      status = cond (nat_lt room n) (bit_or (cond (nat_lt 0 c.missing) (bit_or b 0x08) b) 0x01) (cond (nat_lt 0 c.missing) (bit_or b 0x08) b);
      census = c;
      findings = n;
    }

-- the answer, for a list with room for so many findings
abbrev pub verdict_of : Sectors → ℕ → ℕ → ℕ → Verdict
verdict_of ss lo hi room = verdict_from (bits_from 0 (findings_of ss lo hi)) (length (findings_of ss lo hi)) (checked ss lo hi).census room

-- what the caller's list shows: the first findings that fit, then the places that were there
abbrev pub kept : List Finding → List Finding → List Finding
kept [] fs = []
kept (o ∷ os) [] = o ∷ os
kept (o ∷ os) (f ∷ fs) = f ∷ kept os fs

-- the caller's scratch: the codes, then the bytes that were there
abbrev pub scratch_of : Sectors → ℕ → ℕ → List ℕ → List ℕ
scratch_of ss lo hi old = codes_of ss lo hi ++ drop hi old
