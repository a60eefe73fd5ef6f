-- The number of each kind of finding, the status bit that it sets, and the numbers that a finding shows.
use Rattle.std.specs.Prelude.{ℕ}
use Rattle.fault.specs.declared.place.Place.{Place}
use Rattle.fault.specs.declared.place.Place.TheVariants.{Sector, Member, Slot, Nowhere}
use Rattle.fault.specs.declared.finding.Kind.{Kind}
use Rattle.fault.specs.declared.finding.Kind.TheVariants.{BadAddress, SecondClaim, UnknownType, CountTooLarge, BadEntry, SecondEntry}
use Rattle.fault.specs.declared.finding.Finding.{Finding}

abbrev pub kind_number : Kind → ℕ
kind_number BadAddress = 1
kind_number SecondClaim = 2
kind_number UnknownType = 3
kind_number CountTooLarge = 4
kind_number BadEntry = 5
kind_number SecondEntry = 6

abbrev pub status_bit : Kind → ℕ
status_bit BadAddress = 0x02
status_bit SecondClaim = 0x02
status_bit UnknownType = 0x02
status_bit CountTooLarge = 0x04
status_bit BadEntry = 0x20
status_bit SecondEntry = 0x10

-- the inode of a place, or 0
abbrev pub place_inode : Place → ℕ
place_inode (Sector s) = 0
place_inode (Member m) = 0
place_inode (Slot i s) = i
place_inode Nowhere = 0

-- the slot or the chain member of a place, or 0
abbrev pub place_number : Place → ℕ
place_number (Sector s) = 0
place_number (Member m) = m
place_number (Slot i s) = s
place_number Nowhere = 0

-- what a finding prints: its kind and address, then the two numbers of its place
abbrev pub finding_numbers : Finding → ℕ × ℕ × ℕ × ℕ
finding_numbers f = (kind_number f.kind, f.address, place_inode f.place, place_number f.place)
