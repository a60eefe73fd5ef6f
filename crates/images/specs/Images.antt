-- The meaning of the plain image and of the swapped dump.
use Rattle.std.specs.Prelude.{◌≡◌, ℕ, ◌*◌, ◌/◌, List, [], ◌∷◌, map, length, drop}
use Rattle.std.specs.Simd.{first_chunks}
use Rattle.disk.specs.Medium.{Sectors, Medium, endless, sector_bytes}

-- a row of bytes as n sectors
abbrev pub sectors_of : ℕ → List ℕ → Sectors
sectors_of = first_chunks sector_bytes

-- the plain image: all whole sectors, endless power
abbrev pub image : List ℕ → Medium
image bs = record { sectors = sectors_of (length bs / sector_bytes) bs; power = endless }

-- the bytes past the last whole sector
abbrev pub tail : List ℕ → List ℕ
tail bs = drop (sector_bytes * (length bs / sector_bytes)) bs

-- bytes in pairs, the two of a pair in exchanged order
unfoldable pub swapped : List ℕ → List ℕ
swapped [] = []
swapped (a ∷ []) = a ∷ []
swapped (a ∷ b ∷ r) = b ∷ a ∷ swapped r

-- the swapped dump
abbrev pub dump : List ℕ → Medium
dump bs = record { sectors = map swapped (image bs).sectors; power = endless }

-- the dump is the image of the bytes with each pair exchanged
abbrev pub DumpLaw : Type 0
DumpLaw = (bs : List ℕ) → dump bs ≡ image (swapped bs)
