use Rattle.std.proofs.Common.{◌≡◌, ℕ, ◌+◌, ◌-◌, List, [], ◌∷◌, length, ap, ◌∙◌, arith, rules}
use Rattle.disk.specs.Medium.{ran}
use Rattle.disk.proofs.Writes.{ran_append}
use Rattle.format.specs.Layout.{block_bytes, superblock}
use Rattle.format.specs.Superblock.{nfree_of}
use Rattle.freelist.specs.Bytes.{emptied, gave_all, unclaimed}
use Rattle.freelist.proofs.Stands.{emptied_count}
use Rattle.rules.specs.Make.{bare_superblock, new_list}
use Rattle.volume.proofs.Made.{same_length}
use Rattle.volume.proofs.make.write_free_list.Goals as goal

pub give_unclaimed-requires : goal.give_unclaimed-requires
give_unclaimed-requires g c =
    let b = c.args.sizes.bounds in
    let i = c.isize.ensures in
    let f = c.fsize.ensures in
    let e = c.empty_list.ensures in
    let l : length c.bare_superblock.result ≡ block_bytes = search rules in
    let n : nfree_of (emptied c.bare_superblock.result) ≡ 1 = emptied_count c.bare_superblock.result l in
    let k : nfree_of c.empty_list.new.sb ≡ 1 = ap nfree_of e ∙ n in
    record { lawful = omega arith; order = omega arith; there = omega arith; small = omega arith }

pub put-requires : goal.put-requires
put-requires g c =
    let b = c.args.sizes.bounds in
    let w = c.give_unclaimed.ensures.wrote in
    let V = (gave_all (unclaimed [] (c.isize.result + 1) (c.fsize.result - (c.isize.result + 1))) c.empty_list.new.sb).0 in
    let n = same_length V (g.D.Disk.medium c.args.d.now) (g.D.Disk.medium c.give_unclaimed.new.d) w in
    omega arith

new_list_is : (i f : ℕ) (s : List ℕ) → s ≡ emptied (bare_superblock i f) → gave_all (unclaimed [] (i + 1) (f - (i + 1))) s ≡ new_list i f
unfolding new_list
new_list_is i f s e = ap (gave_all (unclaimed [] (i + 1) (f - (i + 1)))) e

pub returns : goal.returns
returns g c =
    let i = c.args.sizes.isize in
    let f = c.args.sizes.fsize in
    let m = g.D.Disk.medium c.args.d.now in
    let s : c.empty_list.new.sb ≡ emptied (bare_superblock i f) = c.empty_list.ensures ∙ ap emptied c.bare_superblock.ensures in
    let n = new_list_is i f c.empty_list.new.sb s in
    let a = c.isize.ensures in
    let b = c.fsize.ensures in
    let w = c.give_unclaimed.ensures.wrote in
    let z = c.give_unclaimed.ensures.after in
    let p = c.put.ensures in
    let x : c.give_unclaimed.new.sb ≡ (new_list i f).1 = cc in
    let y : g.D.Disk.medium c.give_unclaimed.new.d ≡ ran (new_list i f).0 m = cc in
    let q : g.D.Disk.medium c.put.new.d ≡ ran ((superblock, (new_list i f).1) ∷ []) (ran (new_list i f).0 m) = cc in
    record { wrote = q ∙ ran_append (new_list i f).0 ((superblock, (new_list i f).1) ∷ []) m; buffer = x }
