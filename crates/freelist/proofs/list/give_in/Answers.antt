use Rattle.std.proofs.Common.{◌≡◌, sym, ap, ◌∙◌, arith}
use Rattle.disk.specs.Medium.{ran}
use Rattle.disk.proofs.Writes.{ran_none}
use Rattle.format.specs.Superblock.{nfree_of}
use Rattle.freelist.specs.Bytes.{give_index, grounded}
use Rattle.freelist.proofs.Gives.{index_none, index_full, index_room, grounded_none, grounded_some, writes_full, writes_none}
use Rattle.freelist.proofs.Coded.{bytes_is}
use Rattle.freelist.proofs.list.give_in.Goals as goal
use Rattle.freelist.proofs.list.give_in.Goals.{then-n-eq0, else-n-eq0+then-n-eq-LIST_ROOM, else-n-eq0+else-n-eq-LIST_ROOM}

pub returns : goal.returns
returns g c =
    let s = c.args.sb.now in
    let m = g.D.Disk.medium c.args.d.now in
    let p : c.if-n-eq0.n ≡ give_index (nfree_of c.args.sb.now) =
    elim c.if-n-eq0.branch [
      | then-n-eq0 w ↦ w.n-is ∙ sym (index_none (nfree_of s) (omega arith))
      | else-n-eq0+then-n-eq-LIST_ROOM w ↦ w.n-is ∙ sym (index_full (nfree_of s) (omega arith))
      | else-n-eq0+else-n-eq-LIST_ROOM w ↦ w.n-is ∙ c.get-n.ensures.is ∙ sym (index_room (nfree_of s) (omega arith) (omega arith))
    ] in
    let q : c.if-n-eq0.sb ≡ grounded c.args.sb.now =
    elim c.if-n-eq0.branch [
      | then-n-eq0 w ↦ w.sb-is ∙ w.put.ensures ∙ sym (grounded_none s (omega arith))
      | else-n-eq0+then-n-eq-LIST_ROOM w ↦ w.sb-is ∙ sym (grounded_some s (omega arith))
      | else-n-eq0+else-n-eq-LIST_ROOM w ↦ w.sb-is ∙ sym (grounded_some s (omega arith))
    ] in
    let b = bytes_is c.args.block c.if-n-eq0.n s c.if-n-eq0.sb p q in
    record {
      wrote =
          elim c.if-n-eq0.branch [
            | then-n-eq0 w ↦ ap g.D.Disk.medium w.d-is ∙ sym (ap (λ W. ran W m) (writes_none c.args.block s (omega arith)) ∙ ran_none m)
            | else-n-eq0+then-n-eq-LIST_ROOM w ↦ ap g.D.Disk.medium w.d-is ∙ w.write_member.ensures ∙ sym (ap (λ W. ran W m) (writes_full c.args.block s (omega arith)))
            | else-n-eq0+else-n-eq-LIST_ROOM w ↦ ap g.D.Disk.medium w.d-is ∙ sym (ap (λ W. ran W m) (writes_none c.args.block s (omega arith)) ∙ ran_none m)
          ];
      after = cc;
    }
