-- The free list and the census: what is left, one turn further.
use Rattle.std.proofs.Common.{◌≡◌, ℕ, zero, suc, ◌+◌, ◌-◌, ◌<◌, ◌≤◌, true, false, List, [], get_or, refl, ap, arith}
use Rattle.std.proofs.Math.Nat.{sub-zero}
use Rattle.std.proofs.lemmas.Bool.{eq-eqb, ne_eqb, lt-ltb, le-ltb}
use Rattle.disk.specs.Medium.{Sectors}
use Rattle.fault.specs.declared.place.Place.TheVariants.{Member}
use Rattle.fault.specs.declared.finding.Kind.TheVariants.{CountTooLarge, BadEntry, SecondEntry}
use Rattle.format.specs.Layout.{list_room, superblock}
use Rattle.verdict.specs.declared.verdict.Census.{Census}
use Rattle.verdict.specs.Scan.{Scan, opens, met, note, listed, below, chain, count_of, entry_of, free_list, counted, survey}
use Rattle.scan.specs.Left.{onward, entries_left, entry_met}
use Rattle.scan.proofs.Turns.{rest_more, rest_done}

module _ (ss : Sectors) (lo hi : ℕ) where
  pub left_none : (m : ℕ) (b : List ℕ) (k : ℕ) (s : Scan) → k ≡ 0 → entries_left ss lo hi m b k s ≡ s
  unfolding entries_left below
  left_none m b k s e = rw e

  left_more : (m : ℕ) (b : List ℕ) (k : ℕ) (s : Scan) → entries_left ss lo hi m b (suc k) s ≡ entries_left ss lo hi m b k (entry_met ss lo hi m k (entry_of m b k) s)
  unfolding entries_left entry_met below
  left_more m b k s = refl

  pub left_step : (m : ℕ) (b : List ℕ) (k : ℕ) (s : Scan) → (k ≡ 0 → ⊥)
      → entries_left ss lo hi m b k s ≡ entries_left ss lo hi m b (k - 1) (entry_met ss lo hi m (k - 1) (entry_of m b (k - 1)) s)
  left_step m b zero s n = absurd (n refl)
  left_step m b (suc k) s n = let e : suc k - 1 ≡ k = omega arith in rw e (left_more m b k s)

  -- the 0 that ends the list, an entry that leads nowhere, one that leads on
  pub entry_end : (m k a : ℕ) (s : Scan) → k ≡ 0 → a ≡ 0 → entry_met ss lo hi m k a s ≡ s
  unfolding entry_met listed
  entry_end m k a s e f = rw (eq-eqb k 0 e, eq-eqb a 0 f)

  pub entry_more : (m k a : ℕ) (s : Scan) → (k ≡ 0 → ⊥) → entry_met ss lo hi m k a s ≡ met lo hi 2 BadEntry SecondEntry (Member m) a s
  unfolding entry_met listed
  entry_more m k a s e = rw (ne_eqb k 0 e)

  pub entry_not : (m k a : ℕ) (s : Scan) → (a ≡ 0 → k ≡ 0 → ⊥) → opens lo hi a s.codes ≡ false
      → entry_met ss lo hi m k a s ≡ met lo hi 2 BadEntry SecondEntry (Member m) a s
  unfolding entry_met listed
  entry_not m zero a s n e = rw (ne_eqb a 0 (λ z. n z refl), e)
  entry_not m (suc k) a s n e = entry_more m (suc k) a s (λ z. omega (arith, z))

  pub entry_on : (m k a : ℕ) (s : Scan) → k ≡ 0 → (a ≡ 0 → ⊥) → opens lo hi a s.codes ≡ true
      → entry_met ss lo hi m k a s ≡ onward ss lo hi m a (met lo hi 2 BadEntry SecondEntry (Member m) a s)
  unfolding entry_met listed
  entry_on m k a s z n e = rw (eq-eqb k 0 z, ne_eqb a 0 n, e)

  -- member m + 1 in b, with a count above the room, or with its entries
  pub member_full : (m : ℕ) (b : List ℕ) (s : Scan) → m ≤ hi → list_room < count_of (m + 1) b
      → chain (hi + 1 - m) ss lo hi (m + 1) b s ≡ note CountTooLarge (count_of (m + 1) b) (Member (m + 1)) s
  unfolding chain
  member_full m b s l h =
      let e : hi + 1 - m ≡ suc (hi + 1 - (m + 1)) = omega arith in
      rw (e, lt-ltb list_room (count_of (m + 1) b) h)

  pub member_is : (m : ℕ) (b : List ℕ) (s : Scan) → m ≤ hi → count_of (m + 1) b ≤ list_room
      → chain (hi + 1 - m) ss lo hi (m + 1) b s ≡ entries_left ss lo hi (m + 1) b (count_of (m + 1) b) s
  unfolding chain entries_left
  member_is m b s l h =
      let e : hi + 1 - m ≡ suc (hi + 1 - (m + 1)) = omega arith in
      rw (e, le-ltb list_room (count_of (m + 1) b) h)

  -- the superblock leads the list
  pub list_start : (s : Scan) → onward ss lo hi 0 superblock s ≡ free_list ss lo hi s
  unfolding free_list
  list_start s = ap (λ (n : ℕ). chain n ss lo hi 1 (get_or ss superblock []) s) (sub-zero (hi + 1))

pub survey_more : (hi : ℕ) (cs : List ℕ) (k : ℕ) (n : Census) → k < hi → survey hi cs k n ≡ survey hi cs (k + 1) (counted (get_or cs k 0) n)
unfolding survey
survey_more hi cs k n h = rest_more hi k (λ b. counted (get_or cs b 0)) n h

pub survey_done : (hi : ℕ) (cs : List ℕ) (k : ℕ) (n : Census) → hi ≤ k → survey hi cs k n ≡ n
unfolding survey
survey_done hi cs k n h = rest_done hi k (λ b. counted (get_or cs b 0)) n h
