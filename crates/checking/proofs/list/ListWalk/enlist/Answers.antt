use Rattle.std.proofs.Common.{◌≡◌, ◌⊎◌, ap, sym, ⊎_elim, arith}
use Rattle.scan.proofs.Members.{entry_end}
use Rattle.format.specs.Area.{Area}
use Rattle.tally.specs.Notes.{scan_of}
use Rattle.tally.proofs.Meets.{opens_below}
use Rattle.checking.specs.ListLeft.{list_left}
use Rattle.checking.proofs.Lists.{not_listed, listed_only, led_on}
use Rattle.checking.proofs.list.ListWalk.enlist.Goals as goal

not_both : (A B : Type 0) → (A × (B → ⊥)) ⊎ (A → ⊥) → A → B → ⊥
not_both A B h a b = ⊎_elim (λ (x : A × (B → ⊥)). x.1 b) (λ (x : A → ⊥). x a) h

pub returns-then-address-eq0-clause-left : goal.returns-then-address-eq0-clause-left
returns-then-address-eq0-clause-left g c =
    let v = c.args.notes.now.volume.now in
    let l = c.args.self.now in
    ap (list_left v l) (sym (entry_end v.sectors v.sizes.isize v.sizes.fsize l.member c.args.entry.index c.args.entry.address (scan_of c.args.notes.now) c.if-index-eq0.true c.if-address-eq0.true))

pub returns-then-not-meet-clause-left : goal.returns-then-not-meet-clause-left
returns-then-not-meet-clause-left g c =
    let v = c.args.notes.now.volume.now in
    let l = c.args.self.now in
    let e = c.args.entry in
    let h = c.if-not-meet.ensures in
    ap (list_left v l) (not_listed v l.member e.index e.address (scan_of c.args.notes.now) _ (λ y z. not_both _ _ c.else-index-eq0.either z y) (sym h.opens) h.scan)

pub enter-requires-clause-block : goal.enter-requires-clause-block
enter-requires-clause-block g c =
    let h = c.if-not-meet.ensures in
    let e = ap (λ (x : Area). x.sizes.fsize) h.same.volume in
    omega (arith, opens_below _ _ _ _ (sym h.opens))

pub returns-then-index-eq0-2-clause-left : goal.returns-then-index-eq0-2-clause-left
returns-then-index-eq0-2-clause-left g c =
    let v = c.args.notes.now.volume.now in
    let l = c.args.self.now in
    let h = c.if-not-meet.ensures in
    let z : c.args.entry.index ≡ 0 = omega arith in
    led_on v _ l c.enter.new.self c.args.entry.index c.args.entry.address (scan_of c.args.notes.now) _ _ h.same.volume z c.requires.ready
    (λ y. not_both _ _ c.else-index-eq0.either z y) (sym h.opens) h.scan c.enter.ensures.left

pub returns-else-index-eq0-2-clause-left : goal.returns-else-index-eq0-2-clause-left
returns-else-index-eq0-2-clause-left g c =
    let v = c.args.notes.now.volume.now in
    let l = c.args.self.now in
    let e = c.args.entry in
    ap (list_left v l) (listed_only v l.member e.index e.address (scan_of c.args.notes.now) _ (λ z. omega arith) c.if-not-meet.ensures.scan)
