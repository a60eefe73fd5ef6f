-- A disk's meaning: its sectors and its power. What an ordered list of sector writes does to it.
use Rattle.std.specs.Prelude.{◌≡◌, ℕ, ◌-◌, ◌<◌, ◌≤◌, min, List, [], ◌∷◌, ◌++◌, length, take, slice_index_or, slice_set}

-- the bytes of a sector
abbrev pub sector_bytes : ℕ
sector_bytes = 512

-- how many more writes reach a disk
pub data Power : Type 0 where
  endless : Power
  left : ℕ → Power

abbrev pub Sectors : Type 0
Sectors = List (List ℕ)

-- every sector has its size
abbrev pub Sized : Sectors → Type 0
Sized S = (t : ℕ) → t < length S → length (slice_index_or S t []) ≡ sector_bytes

-- one write: the sector and its new contents
abbrev pub Write : Type 0
Write = ℕ × List ℕ

pub record Medium : Type 0 where
  pub sectors : Sectors
  pub power : Power

-- the sectors after all of the writes, in order
abbrev pub after : List Write → Sectors → Sectors
after [] S = S
after (w ∷ W) S = after W (slice_set S w.0 w.1)

-- the writes that the power lets through, and the power that they leave
abbrev pub kept : Power → List Write → List Write
kept endless W = W
kept (left n) W = take n W

abbrev pub spent : Power → List Write → Power
spent endless W = endless
spent (left n) W = left (n - length W)

-- the power suffices for all of the writes
abbrev pub Lasts : Power → List Write → Type 0
Lasts endless W = Unit {0}
Lasts (left n) W = length W ≤ n

-- power fails: it is 0 before one of the writes
abbrev pub Fails : Power → List Write → Type 0
Fails endless W = ⊥
Fails (left n) W = n < length W

-- a disk that was asked for the writes W in order: as many as its power allows are kept whole, the rest are lost
unfoldable pub ran : List Write → Medium → Medium
ran W m = record { sectors = after (kept m.power W) m.sectors; power = spent m.power W }

-- the smaller of a fuse and the power below it
abbrev pub least : ℕ → Power → Power
least f endless = left f
least f (left n) = left (min f n)

-- The laws of writes under a power that may fail.
-- no write, no change
abbrev pub NoWriteLaw : Type 0
NoWriteLaw = (m : Medium) → ran [] m ≡ m

-- writes one after another are the writes joined; what is asked for after a failure does not matter
abbrev pub JoinedWritesLaw : Type 0
JoinedWritesLaw = (W V V' : List Write) (m : Medium) → (Lasts m.power W → V' ≡ V) → ran V' (ran W m) ≡ ran (W ++ V) m

-- every failure leaves the first few writes, whole
abbrev pub FirstWritesLaw : Type 0
FirstWritesLaw = (W : List Write) (m : Medium) → (k : ℕ) × (k ≤ length W) × ((ran W m).sectors ≡ after (take k W) m.sectors)

-- where power holds all writes are kept
abbrev pub AllWritesLaw : Type 0
AllWritesLaw = (W : List Write) (m : Medium) → Lasts m.power W → (ran W m).sectors ≡ after W m.sectors
