-- Two scans that are alike, so that findings and claims keep them alike, are alike after the check and after each part of it.
use Rattle.std.proofs.Common.{◌≡◌, ℕ, zero, suc, ◌+◌, ◌-◌, ◌/◌, Bool, true, false, cond, ◌&&◌, eqb, ltb, leb, List, [], get_or, refl, ap, subst}
use Rattle.disk.specs.Medium.{Sectors}
use Rattle.fault.specs.declared.place.Place.{Place}
use Rattle.fault.specs.declared.place.Place.TheVariants.{Slot, Member}
use Rattle.fault.specs.declared.finding.Kind.{Kind}
use Rattle.fault.specs.declared.finding.Kind.TheVariants.{BadAddress, SecondClaim, UnknownType, CountTooLarge, BadEntry, SecondEntry}
use Rattle.format.specs.Layout.{table_width, slots, depth_of, first_list_block, inodes_per_block, list_room, superblock}
use Rattle.format.specs.Inode.{mode_of, type_bits, type_rule, address_of}
use Rattle.format.specs.Sizes.{inodes_of}
use Rattle.format.specs.declared.inode.InodeType.{InodeType}
use Rattle.format.specs.declared.inode.InodeType.TheVariants.{Unused, Regular, Directory, Special, Unknown}
use Rattle.verdict.specs.Scan.{Scan, note, claim, opens, met, rows, rest, walk, table_entry, slots_from, by_type, inode, files, listed, below, chain, count_of, entry_of, free_list}

module _
    (R : Scan → Scan → Type 0)
    (same : (s t : Scan) → R s t → s.codes ≡ t.codes)
    (more : (k : Kind) (a : ℕ) (p : Place) (s t : Scan) → R s t → R (note k a p s) (note k a p t))
    (taken : (v a : ℕ) (s t : Scan) → R s t → R (claim v a s) (claim v a t)) where
  -- a function that keeps scans alike
  abbrev Keeps : (Scan → Scan) → Type 0
  Keeps f = (s t : Scan) → R s t → R (f s) (f t)

  pick_one : (b : Bool) (x y u v : Scan) → R x u → R y v → R (cond b x y) (cond b u v)
  pick_one true x y u v p q = p
  pick_one false x y u v p q = q

  pick : (b c : Bool) (x y u v : Scan) → b ≡ c → R x u → R y v → R (cond b x y) (cond c u v)
  pick b c x y u v e p q = let P : Bool → Type 0 = λ d. R (cond b x y) (cond d u v) in subst P e (pick_one b x y u v p q)

  met_alike : (lo hi v : ℕ) (bad again : Kind) (p : Place) (a : ℕ) → Keeps (met lo hi v bad again p a)
  unfolding met
  met_alike lo hi v bad again p a s t r =
      pick (leb lo a && ltb a hi) (leb lo a && ltb a hi) _ _ _ _ refl
      (pick (eqb (get_or s.codes a 0) 0) (eqb (get_or t.codes a 0) 0) _ _ _ _ (ap (λ (cs : List ℕ). eqb (get_or cs a 0) 0) (same s t r)) (taken v a s t r) (more again a p s t r))
      (more bad a p s t r)

  opens_alike : (lo hi a : ℕ) (s t : Scan) → R s t → opens lo hi a s.codes ≡ opens lo hi a t.codes
  opens_alike lo hi a s t r = ap (opens lo hi a) (same s t r)

  rows_alike : (n k : ℕ) (g : ℕ → Scan → Scan) → ((k : ℕ) → Keeps (g k)) → Keeps (rows n k g)
  unfolding rows
  rows_alike zero k g h s t r = r
  rows_alike (suc n) k g h s t r = rows_alike n (suc k) g h (g k s) (g k t) (h k s t r)

  rest_alike : (w k : ℕ) (g : ℕ → Scan → Scan) → ((k : ℕ) → Keeps (g k)) → Keeps (rest w k g)
  unfolding rest
  rest_alike w k g h = rows_alike (w - k) k g h

  module _ (ss : Sectors) (lo hi : ℕ) where
    walk_alike : (p : Place) (d a : ℕ) → Keeps (walk ss lo hi p d a)
    unfolding walk
    walk_alike p zero a s t r = pick (eqb a 0) (eqb a 0) _ _ _ _ refl r (met_alike lo hi 1 BadAddress SecondClaim p a s t r)
    walk_alike p (suc d) a s t r =
        let m = met_alike lo hi 1 BadAddress SecondClaim p a s t r in
        pick (eqb a 0) (eqb a 0) _ _ _ _ refl r
        (pick (opens lo hi a s.codes) (opens lo hi a t.codes) _ _ _ _ (opens_alike lo hi a s t r)
        (rest_alike table_width 0 (λ k. walk ss lo hi p d (table_entry (get_or ss a []) k)) (λ k. walk_alike p d (table_entry (get_or ss a []) k)) _ _ m)
        m)

    slots_alike : (b : List ℕ) (i k : ℕ) → Keeps (slots_from ss lo hi b i k)
    unfolding slots_from
    slots_alike b i k =
        rest_alike slots k (λ k. walk ss lo hi (Slot i k) (depth_of k) (address_of i k b)) (λ k. walk_alike (Slot i k) (depth_of k) (address_of i k b))

    type_alike : (y : InodeType) (b : List ℕ) (i : ℕ) → Keeps (by_type y ss lo hi b i)
    type_alike Unused b i s t r = r
    type_alike Regular b i s t r = slots_alike b i 0 s t r
    type_alike Directory b i s t r = slots_alike b i 0 s t r
    type_alike Special b i s t r = r
    type_alike Unknown b i s t r = more UnknownType (type_bits (mode_of i b)) (Slot i 0) s t r

    inode_alike : (b : List ℕ) (i : ℕ) → Keeps (inode ss lo hi b i)
    unfolding inode
    inode_alike b i = type_alike (type_rule (type_bits (mode_of i b))) b i

    pub files_alike : (k : ℕ) (s t : Scan) → R s t → R (files ss lo hi k s) (files ss lo hi k t)
    unfolding files
    files_alike k =
        rest_alike (inodes_of lo) k (λ k. inode ss lo hi (get_or ss (first_list_block + k / inodes_per_block) []) (k + 1))
        (λ k. inode_alike (get_or ss (first_list_block + k / inodes_per_block) []) (k + 1))

    listed_alike : (on : ℕ → Scan → Scan) → ((a : ℕ) → Keeps (on a)) → (m k a : ℕ) → Keeps (listed on lo hi m k a)
    unfolding listed
    listed_alike on h m k a s t r =
        let e = met_alike lo hi 2 BadEntry SecondEntry (Member m) a s t r in
        pick (eqb k 0) (eqb k 0) _ _ _ _ refl
        (pick (eqb a 0) (eqb a 0) _ _ _ _ refl r
        (pick (opens lo hi a s.codes) (opens lo hi a t.codes) _ _ _ _ (opens_alike lo hi a s t r) (h a _ _ e) e))
        e

    below_alike : (on : ℕ → Scan → Scan) → ((a : ℕ) → Keeps (on a)) → (m : ℕ) (b : List ℕ) (k : ℕ) → Keeps (below on lo hi m b k)
    unfolding below
    below_alike on h m b zero s t r = r
    below_alike on h m b (suc k) s t r = below_alike on h m b k _ _ (listed_alike on h m k (entry_of m b k) s t r)

    chain_alike : (n m : ℕ) (b : List ℕ) → Keeps (chain n ss lo hi m b)
    unfolding chain
    chain_alike zero m b s t r = r
    chain_alike (suc n) m b s t r =
        pick (ltb list_room (count_of m b)) (ltb list_room (count_of m b)) _ _ _ _ refl (more CountTooLarge (count_of m b) (Member m) s t r)
        (below_alike (λ a. chain n ss lo hi (m + 1) (get_or ss a [])) (λ a. chain_alike n (m + 1) (get_or ss a [])) m b (count_of m b) s t r)

    pub list_alike : (s t : Scan) → R s t → R (free_list ss lo hi s) (free_list ss lo hi t)
    unfolding free_list
    list_alike = chain_alike (hi + 1) 1 (get_or ss superblock [])
