-- The way to a position of a file: the slot that it goes through, and its index in every table from there on.
use Rattle.std.specs.Prelude.{ℕ, ◌+◌, ◌-◌, ◌*◌, ◌/◌, ◌%◌, cond, List, [], ◌∷◌, take, Some, None, Option, nat_lt}
use Rattle.format.specs.Layout.{table_width, direct_slots}

-- where the positions of slots 11 and 12 begin, and where all end
abbrev pub end_of_one : ℕ
end_of_one = direct_slots + table_width

abbrev pub end_of_two : ℕ
end_of_two = end_of_one + table_width * table_width

abbrev pub positions : ℕ
positions = end_of_two + table_width * table_width * table_width

-- slot, depth, and the index in each table, the outermost first; 0 at the depths that are not there
abbrev pub Split : Type 0
Split = ℕ × ℕ × ℕ × ℕ × ℕ

abbrev pub in_one : ℕ → Split
in_one q = (10, 1, q, 0, 0)

abbrev pub in_two : ℕ → Split
in_two q = (11, 2, q / table_width, q % table_width, 0)

abbrev pub in_three : ℕ → Split
in_three q = (12, 3, q / (table_width * table_width), (q / table_width) % table_width, q % table_width)

unfoldable pub split_of : ℕ → Split
split_of p =
    cond (nat_lt p direct_slots) (p, 0, 0, 0, 0)
    (cond (nat_lt p end_of_one) (in_one (p - direct_slots))
    (cond (nat_lt p end_of_two) (in_two (p - end_of_one)) (in_three (p - end_of_two))))

-- a position past the last one has no place
abbrev pub split : ℕ → Option Split
split p = cond (nat_lt p positions) (Some (split_of p)) None

abbrev pub slot_of : ℕ → ℕ
slot_of p = (split_of p).0

-- the indices on the way to a position
abbrev pub path_of : ℕ → List ℕ
path_of p = take (split_of p).1 ((split_of p).2 ∷ (split_of p).3 ∷ (split_of p).4 ∷ [])
