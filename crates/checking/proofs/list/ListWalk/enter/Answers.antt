use Rattle.tally.specs.Notes.{scan_of}
use Rattle.checking.proofs.Lists.{entered_full, entered}
use Rattle.checking.proofs.list.ListWalk.enter.Goals as goal

pub returns-then-count-gt-LIST_ROOM-clause-left : goal.returns-then-count-gt-LIST_ROOM-clause-left
returns-then-count-gt-LIST_ROOM-clause-left g c =
    entered_full c.args.notes.now.volume.now c.args.self.now.member c.args.block c.read.new.bytes (scan_of c.args.notes.now) c.read.ensures c.requires.member
    _ _ c.count_in-count.ensures c.if-count-gt-LIST_ROOM.true c.note.ensures.scan

pub returns-else-count-gt-LIST_ROOM-clause-left : goal.returns-else-count-gt-LIST_ROOM-clause-left
returns-else-count-gt-LIST_ROOM-clause-left g c =
    entered c.args.notes.now.volume.now c.args.self.now.member c.args.block c.read.new.bytes (scan_of c.args.notes.now) c.read.ensures c.requires.member
    _ c.count_in-count.ensures c.if-count-gt-LIST_ROOM.false
