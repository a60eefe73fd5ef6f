use Rattle.std.proofs.Common.{◌≡◌, ℕ, ◌-◌, List, [], ◌∷◌, ◌++◌, ◌∙◌, arith}
use Rattle.disk.specs.Medium.{Medium, Write, ran}
use Rattle.disk.proofs.Writes.{ran_append}
use Rattle.format.specs.Layout.{first_list_block, superblock}
use Rattle.rules.specs.Make.{list_writes, root_block, new_list, make_writes}
use Rattle.volume.proofs.Made.{same_length}
use Rattle.volume.proofs.make.lay_volume.Goals as goal

joined : (i f : ℕ) (m m₁ m₂ m₃ : Medium) → m₁ ≡ ran (list_writes i (i - first_list_block)) m → m₂ ≡ ran ((i, root_block) ∷ []) m₁
    → m₃ ≡ ran ((new_list i f).0 ++ ((superblock, (new_list i f).1) ∷ [])) m₂ → m₃ ≡ ran (make_writes i f) m
unfolding make_writes
joined i f m m₁ m₂ m₃ p q r =
    let L = list_writes i (i - first_list_block) in
    let R : List Write = (i, root_block) ∷ [] in
    let F : List Write = (new_list i f).0 ++ ((superblock, (new_list i f).1) ∷ []) in
    let a : m₃ ≡ ran F (ran R (ran L m)) = cc in
    a ∙ ran_append R F (ran L m) ∙ ran_append L (R ++ F) m

pub write_root-requires : goal.write_root-requires
write_root-requires g c =
    let n = same_length (list_writes c.args.sizes.isize (c.args.sizes.isize - first_list_block)) (g.D.Disk.medium c.args.d.now) (g.D.Disk.medium c.write_list.new.d) c.write_list.ensures in
    omega arith

pub write_free_list-requires : goal.write_free_list-requires
write_free_list-requires g c =
    let n = same_length (list_writes c.args.sizes.isize (c.args.sizes.isize - first_list_block)) (g.D.Disk.medium c.args.d.now) (g.D.Disk.medium c.write_list.new.d) c.write_list.ensures in
    let k = same_length ((c.args.sizes.isize, root_block) ∷ []) (g.D.Disk.medium c.write_list.new.d) (g.D.Disk.medium c.write_root.new.d) c.write_root.ensures in
    omega arith

pub returns : goal.returns
returns g c =
    record {
      wrote = joined c.args.sizes.isize c.args.sizes.fsize (g.D.Disk.medium c.args.d.now) (g.D.Disk.medium c.write_list.new.d) (g.D.Disk.medium c.write_root.new.d) (g.D.Disk.medium c.write_free_list.new.d) c.write_list.ensures c.write_root.ensures c.write_free_list.ensures.wrote;
      buffer = c.write_free_list.ensures.buffer;
    }
