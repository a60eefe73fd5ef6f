use Rattle.freelist.specs.Chain.{chain}
use Rattle.freelist.proofs.Pages.{take_is_uncons, empty_gives_none, give_is_cons, other_writes_leave_the_list, one_row_is_listed, listed_blocks_are_data}
use Rattle.freelist.proofs.Stands.{take_gives_the_first, take_from_an_empty_list, give_lists_in_front, writes_below_leave_the_list, emptied_lists_nothing, giving_lists_all, relisting_lists_exactly, unclaimed_are_each_once}
use Rattle.freelist.proofs.laws.stack_stands.Goals as goal

pub returns : goal.returns
returns c =
    record {
      uncons = take_is_uncons chain;
      none = empty_gives_none chain;
      cons = give_is_cons chain;
      framed = other_writes_leave_the_list chain;
      one = one_row_is_listed chain;
      lawful = listed_blocks_are_data chain;
      taken = take_gives_the_first;
      empty = take_from_an_empty_list;
      given = give_lists_in_front;
      below = writes_below_leave_the_list;
      emptied = emptied_lists_nothing;
      all = giving_lists_all;
      relisted = relisting_lists_exactly;
      unclaimed = unclaimed_are_each_once;
    }
