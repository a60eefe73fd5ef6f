use Rattle.std.proofs.Common.{ap, sym, arith}
use Rattle.verdict.specs.Scan.{Scan, slots_from}
use Rattle.scan.proofs.Turns.{walk_none}
use Rattle.format.specs.Area.{Area}
use Rattle.tally.specs.Notes.{scan_of}
use Rattle.tally.proofs.Meets.{opens_below}
use Rattle.checking.specs.FilesLeft.{files_from, files_left}
use Rattle.checking.proofs.Inodes.{not_followed, followed}
use Rattle.checking.proofs.files.FileWalk.follow.Goals as goal

pub returns-then-address-eq0-clause-left : goal.returns-then-address-eq0-clause-left
returns-then-address-eq0-clause-left g c =
    let v = c.args.notes.now.volume.now in
    let f = c.args.self.now in
    ap (files_left v f) (sym (walk_none v.sectors v.sizes.isize v.sizes.fsize f.at c.args.depth c.args.address (scan_of c.args.notes.now) c.if-address-eq0.true))

pub returns-then-not-meet-clause-left : goal.returns-then-not-meet-clause-left
returns-then-not-meet-clause-left g c =
    let v = c.args.notes.now.volume.now in
    let f = c.args.self.now in
    let h = c.if-not-meet.ensures in
    ap (files_left v f) (not_followed v f.at c.args.depth c.args.address (scan_of c.args.notes.now) _ c.if-address-eq0.false (sym h.opens) h.scan)

pub open-requires-clause-block : goal.open-requires-clause-block
open-requires-clause-block g c =
    let h = c.if-not-meet.ensures in
    let e = ap (λ (x : Area). x.sizes.fsize) h.same.volume in
    omega (arith, opens_below _ _ _ _ (sym h.opens))

pub returns-clause-left : goal.returns-clause-left
returns-clause-left g c =
    let v = c.args.notes.now.volume.now in
    let f = c.args.self.now in
    let h = c.if-not-meet.ensures in
    ap (λ (x : Scan). files_from v f.inode (slots_from v.sectors v.sizes.isize v.sizes.fsize f.node f.inode f.slot x))
    (followed v f.at c.args.depth c.args.address (scan_of c.args.notes.now) _ f.open c.open.new.self _ h.same.volume c.if-address-eq0.false (sym h.opens) h.scan
    (c.open.ensures.left f.at (scan_of c.meet.new.self)))
