-- The numbers of a chain member and of a table: where each begins, and its bytes.
use Rattle.std.specs.Prelude.{ℕ, ◌+◌, ◌*◌, ◌<◌, ◌≤◌}
use Rattle.std.proofs.Common.{arith, lit≤}
use Rattle.format.specs.declared.table.MemberField.{MemberField}
use Rattle.format.specs.declared.table.MemberField.TheVariants.{Count, Entry}
use Rattle.format.specs.declared.table.TableEntry.{TableEntry}
use Rattle.format.specs.Layout.{block_bytes, table_width, list_room}

-- a member's count comes first, then its entries
abbrev pub IsInMember : MemberField → Type 0
IsInMember Count = Unit {0}
IsInMember (Entry k) = k < list_room

abbrev pub at_in_member : MemberField → ℕ
at_in_member Count = 0
at_in_member (Entry k) = 4 + 4 * k

abbrev pub width_in_member : MemberField → ℕ
width_in_member f = 4

pub within_member : (f : MemberField) → IsInMember f → at_in_member f + width_in_member f ≤ block_bytes
within_member Count h = lit≤ tt
within_member (Entry k) h = omega arith

pub narrow_member : (f : MemberField) → width_in_member f ≤ 4
narrow_member f = lit≤ tt

-- a table is a row of addresses
abbrev pub IsInTable : TableEntry → Type 0
IsInTable e = e.0 < table_width

abbrev pub at_in_table : TableEntry → ℕ
at_in_table e = 4 * e.0

abbrev pub width_in_table : TableEntry → ℕ
width_in_table e = 4

pub within_table : (e : TableEntry) → IsInTable e → at_in_table e + width_in_table e ≤ block_bytes
within_table e h = omega arith

pub narrow_table : (e : TableEntry) → width_in_table e ≤ 4
narrow_table e = lit≤ tt
