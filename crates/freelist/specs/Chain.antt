-- The chain members of a volume's free list, as they lie in bytes.
use Rattle.std.proofs.Common.{lit<}
use Rattle.numbers.proofs.Numbers.{length_nums}
use Rattle.format.specs.Layout.{list_room}
use Rattle.freelist.specs.Stack.{Chain}
use Rattle.freelist.specs.Bytes.{member_page, at_entries}

-- a member has room for 50 entries
abbrev pub chain : Chain
chain = record { room = list_room; page_of = member_page; roomy = lit< tt; entries_of = λ x. length_nums 4 list_room at_entries x }
