use Rattle.std.proofs.Common.{◌<◌, ◌≤◌, [], get_or, sym, ap, ◌∙◌, arith, rules}
use Rattle.format.specs.Layout.{list_room}
use Rattle.freelist.specs.Bytes.{member_count, lowered}
use Rattle.freelist.specs.Answers.{take_answer, take_left}
use Rattle.freelist.proofs.Coded.{loaded_laid}
use Rattle.freelist.proofs.Ways.{load_too_many, load_whole}
use Rattle.freelist.proofs.list.load_member.Goals as goal

pub returns-then-count-gt-LIST_ROOM : goal.returns-then-count-gt-LIST_ROOM
returns-then-count-gt-LIST_ROOM g c =
    let x = get_or c.args.volume.now.sectors c.args.block [] in
    let h : list_room < member_count (get_or c.args.volume.now.sectors c.args.block []) = omega (arith, c.get-count.ensures.is, ap member_count c.read.ensures) in
    let e = load_too_many (get_or c.args.volume.now.sectors c.args.block []) c.args.block c.args.member c.args.sb.now h in
    record { result = sym (ap take_answer e); buffer = sym (ap (take_left c.args.sb.now) e) }

pub returns : goal.returns
returns g c =
    let h : member_count (get_or c.args.volume.now.sectors c.args.block []) ≤ list_room = omega (arith, c.get-count.ensures.is, ap member_count c.read.ensures) in
    let e = load_whole (get_or c.args.volume.now.sectors c.args.block []) c.args.block c.args.member c.args.sb.now h in
    let l =
    loaded_laid (get_or c.args.volume.now.sectors c.args.block []) c.read.new.bytes c.args.sb.now c.copy_from_slice.new.self c.get-count.result
    c.read.ensures c.copy_from_slice.ensures.len (search rules) c.copy_from_slice.ensures.after c.get-count.ensures.is in
    record {
      result = sym (ap take_answer e);
      buffer = c.lower_total.ensures ∙ ap lowered c.put.ensures ∙ l ∙ sym (ap (take_left c.args.sb.now) e);
    }
