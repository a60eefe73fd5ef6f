use Rattle.std.proofs.Common.{◌≡◌, ℕ, ◌-◌, ap, ◌∙◌, arith}
use Rattle.numbers.specs.Numbers.{put_num}
use Rattle.format.specs.Superblock.{at_nfree, nfree_of, free_of}
use Rattle.freelist.specs.Bytes.{lowered}
use Rattle.freelist.proofs.Ways.{take_too_many, take_none, take_end, take_bad, take_member_block, take_last, ends, ends_by}
use Rattle.freelist.proofs.list.take_in.Goals as goal
use Rattle.freelist.proofs.list.take_in.Goals.{else-n-eq1-via-then-n-eq1+else-block-eq0, else-n-eq1-via-else-n-eq1}

pub returns-then-n-gt-LIST_ROOM : goal.returns-then-n-gt-LIST_ROOM
returns-then-n-gt-LIST_ROOM g c =
    let e = ends _ _ c.args.sb.now (take_too_many c.args.volume.now.sizes.isize c.args.volume.now.sizes.fsize c.args.volume.now.sectors c.args.member c.args.sb.now (omega arith)) in
    record { result = e.0; buffer = e.1 }

pub returns-then-n-eq0 : goal.returns-then-n-eq0
returns-then-n-eq0 g c =
    let e = ends _ _ c.args.sb.now (take_none c.args.volume.now.sizes.isize c.args.volume.now.sizes.fsize c.args.volume.now.sectors c.args.member c.args.sb.now (omega arith)) in
    record { result = e.0; buffer = e.1 }

pub returns-then-block-eq0 : goal.returns-then-block-eq0
returns-then-block-eq0 g c =
    let n : nfree_of c.args.sb.now ≡ 1 = omega arith in
    let i : c.get-n.result - 1 ≡ 0 = omega arith in
    let f = c.get-block.ensures.is in
    let j : free_of (c.get-n.result - 1) c.args.sb.now ≡ free_of 0 c.args.sb.now = ap (λ (k : ℕ). free_of k c.args.sb.now) i in
    let z : free_of 0 c.args.sb.now ≡ 0 = omega arith in
    let e = ends _ _ c.args.sb.now (take_end c.args.volume.now.sizes.isize c.args.volume.now.sizes.fsize c.args.volume.now.sectors c.args.member c.args.sb.now n z) in
    record { result = e.0; buffer = e.1 }

pub returns-then-not-is_data : goal.returns-then-not-is_data
returns-then-not-is_data g c =
    let f : c.get-block.result ≡ free_of (nfree_of c.args.sb.now - 1) c.args.sb.now = c.get-block.ensures.is ∙ ap (λ (k : ℕ). free_of (k - 1) c.args.sb.now) c.get-n.ensures.is in
    let z : nfree_of c.args.sb.now ≡ 1 → c.get-block.result ≡ 0 → ⊥ =
    λ h y. elim c.else-n-eq1.branch [ else-n-eq1-via-then-n-eq1+else-block-eq0 w ↦ omega arith | else-n-eq1-via-else-n-eq1 w ↦ omega arith ] in
    let e =
    ends _ _ c.args.sb.now
    (take_bad c.args.volume.now.sizes.isize c.args.volume.now.sizes.fsize c.args.volume.now.sectors c.args.member c.args.sb.now c.get-block.result
    (omega arith) (omega arith) f z (rw (c.sizes.ensures.isize, c.sizes.ensures.fsize) at c.if-not-is_data.ensures)) in
    record { result = e.0; buffer = e.1 }

pub returns-then-n-eq1-2 : goal.returns-then-n-eq1-2
returns-then-n-eq1-2 g c =
    let z : c.get-block.result ≡ 0 → ⊥ =
    λ y. elim c.else-n-eq1.branch [ else-n-eq1-via-then-n-eq1+else-block-eq0 w ↦ omega arith | else-n-eq1-via-else-n-eq1 w ↦ omega arith ] in
    let e =
    ends_by _ _ c.args.sb.now c.load_member.new.sb c.load_member.result
    (take_member_block c.args.volume.now.sizes.isize c.args.volume.now.sizes.fsize c.args.volume.now.sectors c.args.member c.args.sb.now c.get-block.result c.get-n.result
    c.get-n.ensures.is c.if-n-eq1-2.true c.get-block.ensures.is z (rw (c.sizes.ensures.isize, c.sizes.ensures.fsize) at c.if-not-is_data.ensures))
    c.load_member.ensures.result c.load_member.ensures.buffer in
    record { result = e.0; buffer = e.1 }

pub returns : goal.returns
returns g c =
    let f : c.get-block.result ≡ free_of (nfree_of c.args.sb.now - 1) c.args.sb.now = c.get-block.ensures.is ∙ ap (λ (k : ℕ). free_of (k - 1) c.args.sb.now) c.get-n.ensures.is in
    let e =
    ends _ _ c.args.sb.now
    (take_last c.args.volume.now.sizes.isize c.args.volume.now.sizes.fsize c.args.volume.now.sectors c.args.member c.args.sb.now c.get-block.result
    (omega arith) (omega arith) f (rw (c.sizes.ensures.isize, c.sizes.ensures.fsize) at c.if-not-is_data.ensures)) in
    record {
      result = e.0;
      buffer =
          c.lower_total.ensures
          ∙ ap lowered c.put.ensures
          ∙ ap (λ (k : ℕ). lowered (put_num 2 at_nfree (k - 1) c.args.sb.now)) c.get-n.ensures.is
          ∙ e.1;
    }
