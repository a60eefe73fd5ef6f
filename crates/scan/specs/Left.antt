-- What a chain member has left, when the members before it are done.
use Rattle.std.specs.Prelude.{ℕ, ◌+◌, ◌-◌, List, [], slice_index_or}
use Rattle.disk.specs.Medium.{Sectors}
use Rattle.verdict.specs.Scan.{Scan, chain, below, listed}

-- the chain from the member after m on, in block a
abbrev pub onward : Sectors → ℕ → ℕ → ℕ → ℕ → Scan → Scan
onward ss lo hi m a = chain (hi + 1 - m) ss lo hi (m + 1) (slice_index_or ss a [])

-- the entries of member m, in b, below k, and what they lead on to
unfoldable pub entries_left : Sectors → ℕ → ℕ → ℕ → List ℕ → ℕ → Scan → Scan
entries_left ss lo hi m b k s = below (onward ss lo hi m) lo hi m b k s

-- entry a at index k of member m, and what it leads on to
unfoldable pub entry_met : Sectors → ℕ → ℕ → ℕ → ℕ → ℕ → Scan → Scan
entry_met ss lo hi m k a s = listed (onward ss lo hi m) lo hi m k a s
