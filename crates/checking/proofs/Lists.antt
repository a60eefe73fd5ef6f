-- The walk through the free list: a member taken up, and a member that is led on to.
use Rattle.std.proofs.Common.{◌≡◌, ℕ, ◌+◌, ◌-◌, ◌<◌, ◌≤◌, true, false, List, [], get_or, sym, refl, ap, ◌∙◌}
use Rattle.fault.specs.declared.place.Place.TheVariants.{Member}
use Rattle.fault.specs.declared.finding.Kind.TheVariants.{CountTooLarge, BadEntry, SecondEntry}
use Rattle.format.specs.Layout.{list_room}
use Rattle.verdict.specs.Scan.{Scan, opens, met, note, count_of, chain}
use Rattle.scan.specs.Left.{onward, entries_left, entry_met}
use Rattle.scan.proofs.Members.{left_none, entry_more, entry_not, entry_on, member_full, member_is}
use Rattle.format.specs.Area.{Area}
use Rattle.checking.specs.declared.list.ListWalk.{ListWalk}
use Rattle.checking.specs.ListLeft.{list_left}

module _ (v : Area) where
  abbrev ss : List (List ℕ)
  ss = v.sectors

  abbrev lo : ℕ
  lo = v.sizes.isize

  abbrev hi : ℕ
  hi = v.sizes.fsize

  module _ (m a : ℕ) (b : List ℕ) (s : Scan) (e : b ≡ get_or ss a []) (l : m ≤ hi) where
    member_in : chain (hi + 1 - m) ss lo hi (m + 1) b s ≡ onward ss lo hi m a s
    member_in = ap (λ (x : List ℕ). chain (hi + 1 - m) ss lo hi (m + 1) x s) e

    pub entered_full : (n : ℕ) (t : Scan) → n ≡ count_of (m + 1) b → list_room < n → t ≡ note CountTooLarge n (Member (m + 1)) s
        → entries_left ss lo hi (m + 1) b 0 t ≡ onward ss lo hi m a s
    entered_full n t c h f =
        left_none ss lo hi (m + 1) b 0 t refl ∙ f ∙ ap (λ (x : ℕ). note CountTooLarge x (Member (m + 1)) s) c ∙ sym (member_full ss lo hi m b s l (rw (← c) h)) ∙ member_in

    pub entered : (n : ℕ) → n ≡ count_of (m + 1) b → n ≤ list_room → entries_left ss lo hi (m + 1) b n s ≡ onward ss lo hi m a s
    entered n c h = rw c (sym (member_is ss lo hi m b s l (rw (← c) h)) ∙ member_in)

  -- an entry that leads nowhere: one that could not be listed, and one above index 0
  pub not_listed : (m k a : ℕ) (s t : Scan) → (a ≡ 0 → k ≡ 0 → ⊥) → opens lo hi a s.codes ≡ false → t ≡ met lo hi 2 BadEntry SecondEntry (Member m) a s
      → t ≡ entry_met ss lo hi m k a s
  not_listed m k a s t n q f = f ∙ sym (entry_not ss lo hi m k a s n q)

  pub listed_only : (m k a : ℕ) (s t : Scan) → (k ≡ 0 → ⊥) → t ≡ met lo hi 2 BadEntry SecondEntry (Member m) a s → t ≡ entry_met ss lo hi m k a s
  listed_only m k a s t n f = f ∙ sym (entry_more ss lo hi m k a s n)

  -- an entry at index 0 that could be listed leads on to its member
  pub led_on : (w : Area) (l r : ListWalk) (k a : ℕ) (s t u : Scan) → w ≡ v → k ≡ 0 → k ≡ l.left → (a ≡ 0 → ⊥) → opens lo hi a s.codes ≡ true
      → t ≡ met lo hi 2 BadEntry SecondEntry (Member l.member) a s
      → list_left w r u ≡ onward w.sectors w.sizes.isize w.sizes.fsize l.member a t
      → list_left v r u ≡ list_left v l (entry_met ss lo hi l.member k a s)
  led_on w l r k a s t u e z j n q f h =
      (rw e at h) ∙ ap (onward ss lo hi l.member a) f ∙ sym (entry_on ss lo hi l.member k a s z n q)
      ∙ sym (left_none ss lo hi l.member l.node l.left (entry_met ss lo hi l.member k a s) (sym j ∙ z))
