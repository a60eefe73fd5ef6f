-- Where inodes lie, their fields by the bytes of their block, and the rule of types. Inodes are numbered from 1.
use Rattle.std.specs.Prelude.{ℕ, ◌+◌, ◌-◌, ◌*◌, ◌/◌, ◌%◌, Bool, true, false, cond, List, ◌==◌}
use Rattle.numbers.specs.Numbers.{num}
use Rattle.format.specs.Layout.{first_list_block, inodes_per_block, inode_bytes}
use Rattle.format.specs.declared.inode.InodeType.{InodeType}
use Rattle.format.specs.declared.inode.InodeType.TheVariants.{Unused, Regular, Directory, Special, Unknown}

-- the block of inode i, and the byte of that block at which it begins
abbrev pub block_of_inode : ℕ → ℕ
block_of_inode i = first_list_block + (i - 1) / inodes_per_block

abbrev pub start_of_inode : ℕ → ℕ
start_of_inode i = inode_bytes * ((i - 1) % inodes_per_block)

-- the fields of inode i in its block x
abbrev pub mode_of : ℕ → List ℕ → ℕ
mode_of i x = num 2 (start_of_inode i) x

abbrev pub nlink_of : ℕ → List ℕ → ℕ
nlink_of i x = num 2 (start_of_inode i + 2) x

abbrev pub size_of : ℕ → List ℕ → ℕ
size_of i x = num 4 (start_of_inode i + 8) x

abbrev pub slot_at : ℕ → ℕ → ℕ
slot_at i s = start_of_inode i + 12 + 3 * s

-- the address in slot s
abbrev pub address_of : ℕ → ℕ → List ℕ → ℕ
address_of i s x = num 3 (slot_at i s) x

-- the type is the top four bits of the mode
abbrev pub type_bits : ℕ → ℕ
type_bits mode = mode / 4096

abbrev pub type_rule : ℕ → InodeType
type_rule t =
    cond (t == 0) Unused (cond (t == 8) Regular (cond (t == 4) Directory
    (cond (t == 1) Special (cond (t == 2) Special (cond (t == 6) Special Unknown)))))

abbrev pub inode_type : ℕ → List ℕ → InodeType
inode_type i x = type_rule (type_bits (mode_of i x))

-- only regular files and directories claim blocks
abbrev pub claims_blocks : InodeType → Bool
claims_blocks Unused = false
claims_blocks Regular = true
claims_blocks Directory = true
claims_blocks Special = false
claims_blocks Unknown = false

abbrev pub known_type : InodeType → Bool
known_type Unused = true
known_type Regular = true
known_type Directory = true
known_type Special = true
known_type Unknown = false
