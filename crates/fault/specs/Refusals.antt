-- The number of each refusal, and the layer and place of each fault.
use Rattle.std.specs.Prelude.{List, [], ◌∷◌, ℕ}
use Rattle.fault.specs.declared.place.Place.{Place}
use Rattle.fault.specs.declared.place.Place.TheVariants.{Sector, Member, Slot, Nowhere}
use Rattle.fault.specs.declared.refusal.Refusal.{Refusal}
use Rattle.fault.specs.declared.refusal.Refusal.TheVariants.{InodeNumber, Position, BufferSize, MakeSizes, BeyondEnd, WornSectors, NoVolume, OtherSizes, Locked, FileType, BadAddress, BadFreeList, Remainder, FileFindings, NotClear, NoBlocks, NoInodes, PastEnd}
use Rattle.fault.specs.declared.fault.Layer.{Layer}
use Rattle.fault.specs.declared.fault.Layer.TheVariants.{Disk, List as FreeList, Keeper}
use Rattle.fault.specs.declared.fault.Fault.{Fault}
use Rattle.fault.specs.declared.fault.ListFault.{ListFault}
use Rattle.fault.specs.declared.fault.ListFault.TheVariants.{Bad, Empty}
use Rattle.fault.specs.declared.fault.FileFault.{FileFault}
use Rattle.fault.specs.declared.fault.FileFault.TheVariants.{Refused, InList}

abbrev pub refusal_number : Refusal → ℕ
refusal_number InodeNumber = 1
refusal_number Position = 2
refusal_number BufferSize = 3
refusal_number MakeSizes = 4
refusal_number BeyondEnd = 5
refusal_number WornSectors = 6
refusal_number NoVolume = 7
refusal_number OtherSizes = 8
refusal_number Locked = 9
refusal_number FileType = 10
refusal_number BadAddress = 11
refusal_number BadFreeList = 12
refusal_number Remainder = 13
refusal_number FileFindings = 14
refusal_number NotClear = 15
refusal_number NoBlocks = 16
refusal_number NoInodes = 17
refusal_number PastEnd = 18

-- the layers, from the disk upward
abbrev pub layer_number : Layer → ℕ
layer_number Disk = 0
layer_number FreeList = 1
layer_number Keeper = 2

-- the numbers that a place names
abbrev pub place_values : Place → List ℕ
place_values (Sector s) = s ∷ []
place_values (Member m) = m ∷ []
place_values (Slot i s) = i ∷ s ∷ []
place_values Nowhere = []

-- a buffer of another size than 512 bytes, at a disk
abbrev pub disk_buffer : Fault
disk_buffer = record { refusal = BufferSize; layer = Disk; place = Nowhere }

-- sector s lies beyond the end
abbrev pub beyond : ℕ → Fault
beyond s = record { refusal = BeyondEnd; layer = Disk; place = Sector s }

-- worn sectors that cannot be named
abbrev pub bad_worn : Fault
bad_worn = record { refusal = WornSectors; layer = Disk; place = Nowhere }

-- a refusal of the keeper that has no place
abbrev pub keeper : Refusal → Fault
keeper r = record { refusal = r; layer = Keeper; place = Nowhere }

-- a bad address in one slot of one inode
abbrev pub bad_address : ℕ → ℕ → Fault
bad_address i s = record { refusal = BadAddress; layer = Keeper; place = Slot i s }

abbrev pub list_fault : ListFault → Fault
list_fault (Bad m) = record { refusal = BadFreeList; layer = FreeList; place = Member m }
list_fault (Empty m) = record { refusal = NoBlocks; layer = FreeList; place = Member m }

abbrev pub file_fault : FileFault → Fault
file_fault (Refused f) = f
file_fault (InList i p f) = list_fault f

-- the inode and the position that travel with a list fault
abbrev pub file_fault_at : ℕ → ℕ → FileFault → FileFault
file_fault_at i p (Refused f) = Refused f
file_fault_at i p (InList j q f) = InList i p f
