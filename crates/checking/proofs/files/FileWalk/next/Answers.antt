use Rattle.std.proofs.Common.{ap, ◌∙◌, arith}
use Rattle.verdict.specs.Scan.{Scan, slots_from}
use Rattle.checking.specs.FilesLeft.{files_from}
use Rattle.checking.proofs.Inodes.{slot_further, inode_further, files_end}
use Rattle.checking.proofs.files.FileWalk.next.Goals as goal

pub returns-then-self-lt-SLOTS-clause-left : goal.returns-then-self-lt-SLOTS-clause-left
returns-then-self-lt-SLOTS-clause-left g c = λ s.
    let v = c.args.volume.now in
    let f = c.args.self.now in
    let h = c.in_default.ensures in
    let a = rw (c.part.ensures, c.new.ensures) at c.get-address.ensures.is in
    ap (λ (x : Scan). files_from v f.inode (slots_from v.sectors v.sizes.isize v.sizes.fsize f.node f.inode f.slot x)) (h.left v f.at s)
    ∙ slot_further v f.node f.inode f.slot s c.next.new.self _ _ h.ready c.if-self-lt-SLOTS.true c.saturating_sub.ensures a

pub returns-then-self-inodes-clause-left : goal.returns-then-self-inodes-clause-left
returns-then-self-inodes-clause-left g c = λ s.
    let v = c.args.volume.now in
    let f = c.args.self.now in
    ap (λ (x : Scan). files_from v f.inode (slots_from v.sectors v.sizes.isize v.sizes.fsize f.node f.inode f.slot x)) (c.in_default.ensures.left v f.at s)
    ∙ inode_further v f.node f.inode f.slot s c.if-self-lt-SLOTS.false (omega arith)

pub returns-clause-left : goal.returns-clause-left
returns-clause-left g c = λ s.
    let v = c.args.volume.now in
    let f = c.args.self.now in
    ap (λ (x : Scan). files_from v f.inode (slots_from v.sectors v.sizes.isize v.sizes.fsize f.node f.inode f.slot x)) (c.in_default.ensures.left v f.at s)
    ∙ files_end v f.node f.inode f.slot s c.if-self-lt-SLOTS.false (omega arith)
