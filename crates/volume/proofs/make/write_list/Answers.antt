use Rattle.std.proofs.Common.{◌≡◌, ◌+◌, [], ◌∷◌, sym, ◌∙◌, add-one, arith}
use Rattle.disk.specs.Medium.{ran}
use Rattle.disk.proofs.Writes.{ran_append, ran_none}
use Rattle.format.specs.Layout.{first_list_block}
use Rattle.rules.specs.Make.{list_block, list_writes}
use Rattle.volume.proofs.Made.{same_length}
use Rattle.volume.proofs.make.write_list.Goals as goal

pub loop-n-init : goal.loop-n-init
unfolding list_writes
loop-n-init g c = sym (ran_none (g.D.Disk.medium c.args.d.now))

pub put-requires : goal.put-requires
put-requires g c =
    let i = c.isize-isize.ensures in
    let b = c.args.sizes.bounds in
    let e = same_length (list_writes c.isize-isize.result c.loop-n.n) (g.D.Disk.medium c.args.d.now) (g.D.Disk.medium c.loop-n.d) c.loop-n.invariant in
    omega arith

pub loop-n-preserved : goal.loop-n-preserved
unfolding list_writes
loop-n-preserved g c =
    let W = list_writes c.isize-isize.result c.loop-n.n in
    let V = (first_list_block + c.loop-n.n, list_block c.isize-isize.result c.loop-n.n) ∷ [] in
    let m = g.D.Disk.medium c.args.d.now in
    let b = c.list_block.ensures in
    let i = c.loop-n.invariant in
    let p = c.put.ensures in
    let e : g.D.Disk.medium c.put.new.d ≡ ran V (ran W m) = cc in
    rw add-one (e ∙ ran_append W V m)
