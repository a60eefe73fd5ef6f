-- The sizes of a volume.
use Rattle.std.specs.Prelude.{ℕ, ◌-◌, ◌*◌, ◌<◌, ◌≤◌, Bool, false, cond, nat_le, nat_lt}
use Rattle.format.specs.Layout.{first_list_block, inodes_per_block}

-- the first data block, which ends the i-list, and the end of the data blocks
pub record Sizes : Type 0 where
  pub isize : ℕ
  pub fsize : ℕ

abbrev pub least_isize : ℕ
least_isize = 3

abbrev pub most_isize : ℕ
most_isize = 1026

abbrev pub most_fsize : ℕ
most_fsize = 65536

abbrev pub lawful_sizes : ℕ → ℕ → Bool
lawful_sizes i f = cond (nat_le least_isize i) (cond (nat_le i most_isize) (cond (nat_lt i f) (nat_le f most_fsize) false) false) false

pub record Bounds (i f : ℕ) : Type 0 where
  pub low : least_isize ≤ i
  pub high : i ≤ most_isize
  pub order : i < f
  pub most : f ≤ most_fsize

-- the inodes of a volume
abbrev pub inodes_of : ℕ → ℕ
inodes_of isize = inodes_per_block * (isize - first_list_block)
