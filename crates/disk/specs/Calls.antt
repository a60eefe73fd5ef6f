-- Calls: what a call writes and answers, by the sectors at its entry; and what its contract says of a disk.
use Rattle.std.specs.Prelude.{◌≡◌, List, ◌++◌}
use Rattle.disk.specs.Medium.{Sectors, Write, Medium, after, Lasts, ran}

-- the writes in order, and the answer
abbrev pub Call : Type 0 → Type 0
Call R = Sectors → List Write × R

-- What the contract of a call says: its writes reach the disk as far as the power goes, and the answer is pinned unless power cut the call.
pub record Did {R : Type 0} (f : Call R) (before : Medium) (r : R) (end : Medium) : Type 0 where
  pub wrote : end ≡ ran (f before.sectors).0 before
  pub answered : Lasts before.power (f before.sectors).0 → r ≡ (f before.sectors).1

-- one call after another, which sees what the first one wrote
abbrev pub bind : {R Q : Type 0} → Call R → (R → Call Q) → Call Q
bind f k S = ((f S).0 ++ (k (f S).1 (after (f S).0 S)).0, (k (f S).1 (after (f S).0 S)).1)
