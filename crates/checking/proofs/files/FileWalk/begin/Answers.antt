use Rattle.tally.specs.Notes.{scan_of}
use Rattle.checking.proofs.Inodes.{claims, idle, unknown, taken_up}
use Rattle.checking.proofs.files.FileWalk.begin.Goals as goal

pub returns-in-Regular-clause-left : goal.returns-in-Regular-clause-left
returns-in-Regular-clause-left g c =
    let v = c.args.notes.now.volume.now in
    let f = c.args.self.now in
    let s = scan_of c.args.notes.now in
    let q = c.requires.ready in
    let m = rw (c.part.ensures, c.new-node.ensures) at c.get-mode.ensures.is in
    let k = rw c.new-node.ensures at c.block.ensures in
    taken_up v _ f.inode 0 s _ f.open f.at _ s q.0 m c.of_mode.ensures (rw (← k) c.read.ensures) (claims v _ f.inode 0 s _ c.in-Regular.is)

pub returns-in-Unused-clause-left : goal.returns-in-Unused-clause-left
returns-in-Unused-clause-left g c =
    let v = c.args.notes.now.volume.now in
    let f = c.args.self.now in
    let s = scan_of c.args.notes.now in
    let q = c.requires.ready in
    let m = rw (c.part.ensures, c.new-node.ensures) at c.get-mode.ensures.is in
    let k = rw c.new-node.ensures at c.block.ensures in
    taken_up v _ f.inode f.slot s _ f.open f.at _ s q.0 m c.of_mode.ensures (rw (← k) c.read.ensures) (idle v _ f.inode f.slot s _ q.1 c.in-Unused.is)

pub returns-in-Unknown-clause-left : goal.returns-in-Unknown-clause-left
returns-in-Unknown-clause-left g c =
    let v = c.args.notes.now.volume.now in
    let f = c.args.self.now in
    let s = scan_of c.args.notes.now in
    let q = c.requires.ready in
    let m = rw (c.part.ensures, c.new-node.ensures) at c.get-mode.ensures.is in
    let k = rw c.new-node.ensures at c.block.ensures in
    taken_up v _ f.inode f.slot s _ f.open f.at _ _ q.0 m c.of_mode.ensures (rw (← k) c.read.ensures)
    (unknown v _ f.inode f.slot s _ _ _ q.1 c.in-Unknown.is m (rw c.type_bits.ensures at c.note.ensures.scan))
