use Rattle.std.proofs.Common.{ℕ, List, [], ◌∷◌, ap, ◌∙◌}
use borrow.Rule.Slice.PartMut.{put_mid}
use Rattle.disk.specs.Medium.{ran}
use Rattle.freelist.specs.Bytes.{zeros, at_entries, entries_bytes}
use Rattle.freelist.proofs.Coded.{member_laid}
use Rattle.freelist.proofs.list.write_member.Goals as goal

pub returns : goal.returns
unfolding zeros
returns g c =
    c.put-2.ensures
    ∙ ap (λ (x : List ℕ). ran ((c.args.block, put_mid at_entries entries_bytes x c.copy_from_slice.new.self) ∷ []) (g.D.Disk.medium c.args.d.now)) c.put.ensures
    ∙ ap (λ (x : List ℕ). ran ((c.args.block, x) ∷ []) (g.D.Disk.medium c.args.d.now)) (member_laid c.args.sb.now c.copy_from_slice.new.self c.copy_from_slice.ensures.after)
