-- The free phase, seen as offers of the blocks that the free list lists.
use Rattle.std.proofs.Common.{◌≡◌, ℕ, zero, suc, ◌+◌, ◌<◌, ◌≤◌, Bool, true, false, cond, ◌&&◌, eqb, ltb, leb, ◌≢◌, List, [], ◌∷◌, length, get_or, sym, refl, ap, ◌∙◌, subst, ⊎_elim, arith, length-set}
use Rattle.std.proofs.lemmas.Bool.{cases_eq, cases_lt, ne_eqb, le-ltb, ltb-false, leb-true, ltb-true, and_parts}
use Rattle.fault.specs.declared.place.Place.TheVariants.{Member}
use Rattle.fault.specs.declared.finding.Kind.TheVariants.{CountTooLarge, BadEntry, SecondEntry}
use Rattle.disk.specs.Medium.{Sectors}
use Rattle.numbers.specs.Numbers.{nums}
use Rattle.numbers.proofs.Numbers.{length_nums, getD_nums}
use Rattle.format.specs.Layout.{superblock, list_room}
use Rattle.format.specs.Superblock.{at_free, nfree_of}
use Rattle.freelist.specs.Stack.{is_data, Listed, Lists}
use Rattle.freelist.specs.Bytes.{member_count, at_entries, free_list_of}
use Rattle.freelist.specs.Chain.{chain as members}
use Rattle.std.specs.List.{AllByRecursion as All}
use Rattle.trees.specs.Trees.{count}
use Rattle.trees.specs.Walk.{Scan as Count, Data}
use Rattle.trees.specs.Volume.{offer, free_phase, missing}
use Rattle.trees.proofs.Sums.{hit_eq}
use Rattle.trees.proofs.Walks.{open_parts}
use Rattle.trees.proofs.Checks.{free_up, missing_falls, missing_most}
use Rattle.verdict.specs.Scan.{Scan, note, claim, opens, met, count_of, entry_of, listed, below, chain, free_list}
use Rattle.verdict.proofs.Seen.{found_in, seen, more, some, note_seen, opens_same, met_open, met_shut, Keeps, keeps_found, met_keep}

module _ (lo hi : ℕ) where
  -- ENTRIES
  -- a zero at index 0 ends the list
  listed_end : (on : ℕ → Scan → Scan) (m : ℕ) (s : Scan) → listed on lo hi m 0 0 s ≡ s
  unfolding listed
  listed_end on m s = refl

  -- an address at index 0 that opens leads on
  listed_on : (on : ℕ → Scan → Scan) (m a : ℕ) (s : Scan) → a ≢ 0 → opens lo hi a s.codes ≡ true → listed on lo hi m 0 a s ≡ on a (claim 2 a s)
  unfolding listed
  listed_on on m a s n e = rw (ne_eqb a 0 n, e, met_open lo hi 2 BadEntry SecondEntry (Member m) a s e)

  -- one at another index is claimed
  listed_open : (on : ℕ → Scan → Scan) (m k a : ℕ) (s : Scan) → opens lo hi a s.codes ≡ true → listed on lo hi m (suc k) a s ≡ claim 2 a s
  unfolding listed
  listed_open on m k a s e = rw (some k, met_open lo hi 2 BadEntry SecondEntry (Member m) a s e)

  -- any other is a finding
  listed_shut : (on : ℕ → Scan → Scan) (m a : ℕ) (s : Scan) → a ≢ 0 → opens lo hi a s.codes ≡ false → seen (listed on lo hi m 0 a s) ≡ more (seen s)
  unfolding listed
  listed_shut on m a s n e = rw (ne_eqb a 0 n, e) (met_shut lo hi 2 BadEntry SecondEntry (Member m) a s e)

  listed_bad : (on : ℕ → Scan → Scan) (m k a : ℕ) (s : Scan) → opens lo hi a s.codes ≡ false → seen (listed on lo hi m (suc k) a s) ≡ more (seen s)
  unfolding listed
  listed_bad on m k a s e = rw (some k) (met_shut lo hi 2 BadEntry SecondEntry (Member m) a s e)

  listed_keep : (P : Scan → Type 0) → Keeps P → (on : ℕ → Scan → Scan) → ((a : ℕ) (s : Scan) → P s → P (on a s)) → (m k a : ℕ) (s : Scan) → P s → P (listed on lo hi m k a s)
  unfolding listed
  listed_keep P q on h m k a s p = go (eqb k 0) (eqb a 0) (opens lo hi a s.codes)
    where
      t : Scan
      t = met lo hi 2 BadEntry SecondEntry (Member m) a s

      pt : P t
      pt = met_keep P q lo hi 2 BadEntry SecondEntry (Member m) a s p

      go : (x y z : Bool) → P (cond x (cond y s (cond z (on a t) t)) t)
      go false y z = pt
      go true true z = p
      go true false true = h a t pt
      go true false false = pt

  below_keep : (P : Scan → Type 0) → Keeps P → (on : ℕ → Scan → Scan) → ((a : ℕ) (s : Scan) → P s → P (on a s)) → (m : ℕ) (b : List ℕ) (k : ℕ) (s : Scan) → P s → P (below on lo hi m b k s)
  unfolding below
  below_keep P q on h m b zero s p = p
  below_keep P q on h m b (suc k) s p = below_keep P q on h m b k (listed on lo hi m k (entry_of m b k) s) (listed_keep P q on h m k (entry_of m b k) s p)

  pub chain_keep : (P : Scan → Type 0) → Keeps P → (S : Sectors) (n m : ℕ) (b : List ℕ) (s : Scan) → P s → P (chain n S lo hi m b s)
  unfolding chain
  chain_keep P q S zero m b s p = p
  chain_keep P q S (suc n) m b s p = go (ltb list_room (count_of m b)) (λ a t. chain_keep P q S n (m + 1) (get_or S a []) t)
    where
      go : (x : Bool) → ((a : ℕ) (t : Scan) → P t → P (chain n S lo hi (m + 1) (get_or S a []) t))
          → P (cond x (note CountTooLarge (count_of m b) (Member m) s) (below (λ a. chain n S lo hi (m + 1) (get_or S a [])) lo hi m b (count_of m b) s))
      go true h = q.notes CountTooLarge (count_of m b) (Member m) s p
      go false h = below_keep P q (λ a. chain n S lo hi (m + 1) (get_or S a [])) h m b (count_of m b) s p

  pub free_list_keep : (P : Scan → Type 0) → Keeps P → (S : Sectors) (s : Scan) → P s → P (free_list S lo hi s)
  unfolding free_list
  free_list_keep P q S s p = chain_keep P q S (hi + 1) 1 (get_or S superblock []) s p

  -- OFFERS
  -- an address that opens is a data block without a code
  open_data : (a : ℕ) (s : Scan) → opens lo hi a s.codes ≡ true → Data lo hi a × (get_or s.codes a 0 ≡ 0)
  open_data a s e = open_parts lo hi a (seen s) (opens_same lo hi a s ∙ e)

  open_is_data : (a : ℕ) (s : Scan) → opens lo hi a s.codes ≡ true → is_data lo hi a ≡ true
  unfolding opens
  open_is_data a s e =
      let q = and_parts (leb lo a && ltb a hi) (eqb (get_or s.codes a 0) 0) e in
      let p = and_parts (leb lo a) (ltb a hi) q.0 in
      rw (p.0, p.1)

  -- its claim is the offer of it, and leaves one block fewer without a code
  offered : (a : ℕ) (L : List ℕ) (s : Scan) → opens lo hi a s.codes ≡ true → free_phase lo hi (a ∷ L) (seen s) ≡ free_phase lo hi L (seen (claim 2 a s))
  unfolding free_phase offer
  offered a L s e = rw (opens_same lo hi a s, e)

  unoffered : (a : ℕ) (L : List ℕ) (s : Scan) → opens lo hi a s.codes ≡ false → free_phase lo hi (a ∷ L) (seen s) ≡ free_phase lo hi L (more (seen s))
  unfolding free_phase offer
  unoffered a L s e = rw (opens_same lo hi a s, e)

  falls : (a : ℕ) (s : Scan) → hi ≤ length s.codes → opens lo hi a s.codes ≡ true → missing lo hi (seen (claim 2 a s)) < missing lo hi (seen s)
  falls a s l e = let d = open_data a s e in missing_falls lo hi (seen s) a 2 (omega arith) d.0 d.1 (omega arith)

  -- an offer without a finding opens
  offer_opens : (a : ℕ) (L : List ℕ) (s : Scan) → (free_phase lo hi (a ∷ L) (seen s)).found ≡ found_in s.log → opens lo hi a s.codes ≡ true
  offer_opens a L s f = go (opens lo hi a s.codes) refl
    where
      go : (o : Bool) → opens lo hi a s.codes ≡ o → opens lo hi a s.codes ≡ true
      go true e = e
      go false e =
          let g = ap (λ (c : Count). c.found) (unoffered a L s e) in
          absurd (omega (arith, free_up lo hi L (more (seen s))))

  module _ (pos : 0 < lo) (S : Sectors) where
    open_some : (a : ℕ) (s : Scan) → opens lo hi a s.codes ≡ true → a ≢ 0
    open_some a s e z = let d = open_data a s e in omega arith

    -- t is s after the free phase over what the list lists from the first n of the entries e on
    pub record Listing (n : ℕ) (e : List ℕ) (s t : Scan) : Type 0 where
      pub blocks : List ℕ
      pub names : Listed members lo hi S n e blocks
      pub same : seen t ≡ free_phase lo hi blocks (seen s)

    -- e are the entries of member m in b
    abbrev Reads : ℕ → List ℕ → List ℕ → Type 0
    Reads m b e = (j : ℕ) → j < list_room → get_or e j 0 ≡ entry_of m b j

    abbrev Clean : Scan → Scan → Type 0
    Clean s t = found_in t.log ≡ found_in s.log

    -- a member in block a, followed without a finding
    abbrev Says : (ℕ → Scan → Scan) → ℕ → Type 0
    Says on n =
        (a : ℕ) (t : Scan) → hi ≤ length t.codes → missing lo hi (seen t) < n → Clean t (on a t)
        → (ltb list_room (member_count (get_or S a [])) ≡ false) × Listing (member_count (get_or S a [])) (nums 4 list_room at_entries (get_or S a [])) t (on a t)

    first_lists : (on : ℕ → Scan → Scan) (n m : ℕ) (e : List ℕ) (a : ℕ) (s : Scan) → Says on n → get_or e 0 0 ≡ a → hi ≤ length s.codes → missing lo hi (seen s) ≤ n
        → Clean s (listed on lo hi m 0 a s) → Listing 1 e s (listed on lo hi m 0 a s)
    unfolding free_phase
    first_lists on n m e a s says g len fuel f = ⊎_elim none (λ (z : a ≢ 0). other z (opens lo hi a s.codes) refl) (cases_eq a 0)
      where
        none : a ≡ 0 → Listing 1 e s (listed on lo hi m 0 a s)
        none z = rw z (subst (λ (t : Scan). Listing 1 e s t) (sym (listed_end on m s)) (record { blocks = []; names = g ∙ z; same = refl }))

        other : a ≢ 0 → (o : Bool) → opens lo hi a s.codes ≡ o → Listing 1 e s (listed on lo hi m 0 a s)
        other z false o = absurd (let x = ap (λ (c : Count). c.found) (listed_shut on m a s z o) in omega arith)
        other z true o =
            let i = listed_on on m a s z o in
            let c : Clean s (on a (claim 2 a s)) = rw i at f in
            let w = falls a s len o in
            let r = says a (claim 2 a s) (omega (arith, length-set s.codes a 2)) (omega arith) c in
            subst (λ (t : Scan). Listing 1 e s t) (sym i)
            (record { blocks = a ∷ r.1.blocks; names = (g, open_is_data a s o, r.0, r.1.names); same = r.1.same ∙ sym (offered a r.1.blocks s o) })

    below_lists : (on : ℕ → Scan → Scan) (n m : ℕ) (b e : List ℕ) → Reads m b e → Says on n → ((a : ℕ) (t : Scan) → found_in t.log ≤ found_in (on a t).log)
        → (k : ℕ) → k ≤ list_room → (s : Scan) → hi ≤ length s.codes → missing lo hi (seen s) ≤ n
        → Clean s (below on lo hi m b k s) → Listing k e s (below on lo hi m b k s)
    unfolding below free_phase
    below_lists on n m b e r says up zero l s len fuel f = record { blocks = []; names = tt; same = refl }
    below_lists on n m b e r says up (suc zero) l s len fuel f = first_lists on n m e (entry_of m b 0) s says (r 0 (omega arith)) len fuel f
    below_lists on n m b e r says up (suc (suc k)) l s len fuel f =
        go (opens lo hi (entry_of m b (suc k)) s.codes) refl (below_lists on n m b e r says up (suc k) (omega arith))
      where
        a : ℕ
        a = entry_of m b (suc k)

        t : Scan
        t = listed on lo hi m (suc k) a s

        go : (o : Bool) → opens lo hi a s.codes ≡ o
            → ((u : Scan) → hi ≤ length u.codes → missing lo hi (seen u) ≤ n → Clean u (below on lo hi m b (suc k) u) → Listing (suc k) e u (below on lo hi m b (suc k) u))
            → Listing (suc (suc k)) e s (below on lo hi m b (suc k) t)
        go false o ih =
            let x = ap (λ (c : Count). c.found) (listed_bad on m k a s o) in
            let y = below_keep (λ (u : Scan). found_in t.log ≤ found_in u.log) (keeps_found (found_in t.log)) on (λ c u p. let v = up c u in omega arith) m b (suc k) t (omega arith) in
            absurd (omega arith)
        go true o ih =
            let i : t ≡ claim 2 a s = listed_open on m k a s o in
            let c : Clean s (below on lo hi m b (suc k) (claim 2 a s)) = subst (λ (u : Scan). Clean s (below on lo hi m b (suc k) u)) i f in
            let w = falls a s len o in
            let q = ih (claim 2 a s) (omega (arith, length-set s.codes a 2)) (omega arith) c in
            subst (λ (u : Scan). Listing (suc (suc k)) e s (below on lo hi m b (suc k) u)) (sym i)
            (record { blocks = a ∷ q.blocks; names = (r (suc k) (omega arith), open_is_data a s o, q.names); same = q.same ∙ sym (offered a q.blocks s o) })

    -- CHAIN
    member_of : (m : ℕ) (x : List ℕ) → 0 < m → count_of (m + 1) x ≡ member_count x
    member_of m x p = let e = ne_eqb (m + 1) 1 (λ z. omega (arith, z)) in rw e

    member_reads : (m : ℕ) (x : List ℕ) → 0 < m → Reads (m + 1) x (nums 4 list_room at_entries x)
    member_reads m x p j l = let e = ne_eqb (m + 1) 1 (λ z. omega (arith, z)) in rw e (getD_nums 4 list_room at_entries j x l)

    chain_up : (n m a : ℕ) (t : Scan) → found_in t.log ≤ found_in (chain n S lo hi (m + 1) (get_or S a []) t).log
    chain_up n m a t = chain_keep (λ u. found_in t.log ≤ found_in u.log) (keeps_found (found_in t.log)) S n (m + 1) (get_or S a []) t (omega arith)

    -- a chain without a finding lists blocks, if there is more fuel than blocks without a code
    pub chain_lists : (n m : ℕ) (b e : List ℕ) → 0 < m → Reads m b e → (s : Scan) → hi ≤ length s.codes → missing lo hi (seen s) < n
        → Clean s (chain n S lo hi m b s) → (ltb list_room (count_of m b) ≡ false) × Listing (count_of m b) e s (chain n S lo hi m b s)
    unfolding chain
    chain_lists zero m b e p r s len fuel f = absurd (omega arith)
    chain_lists (suc n) m b e p r s len fuel f = go (ltb list_room (count_of m b)) refl f
        (λ a t l w c. subst (λ (k : ℕ). (ltb list_room k ≡ false) × Listing k (nums 4 list_room at_entries (get_or S a [])) t (chain n S lo hi (m + 1) (get_or S a []) t)) (member_of m (get_or S a []) p)
        (chain_lists n (m + 1) (get_or S a []) (nums 4 list_room at_entries (get_or S a [])) (omega arith) (member_reads m (get_or S a []) p) t l w c))
      where
        on : ℕ → Scan → Scan
        on a = chain n S lo hi (m + 1) (get_or S a [])

        go : (x : Bool) → ltb list_room (count_of m b) ≡ x → Clean s (cond x (note CountTooLarge (count_of m b) (Member m) s) (below on lo hi m b (count_of m b) s)) → Says on n
            → (ltb list_room (count_of m b) ≡ false) × Listing (count_of m b) e s (cond x (note CountTooLarge (count_of m b) (Member m) s) (below on lo hi m b (count_of m b) s))
        go true x f says = absurd (let y = ap (λ (c : Count). c.found) (note_seen CountTooLarge (count_of m b) (Member m) s) in omega arith)
        go false x f says = (x, below_lists on n m b e r says (chain_up n m) (count_of m b) (ltb-false list_room (count_of m b) x) s len (omega arith) f)

    -- THE OTHER WAY: what a list lists is offered
    abbrev Tells : (ℕ → Scan → Scan) → ℕ → Type 0
    Tells on n =
        (a : ℕ) (t : Scan) (L : List ℕ) → hi ≤ length t.codes → missing lo hi (seen t) < n → ltb list_room (member_count (get_or S a [])) ≡ false
        → Listed members lo hi S (member_count (get_or S a [])) (nums 4 list_room at_entries (get_or S a [])) L
        → (free_phase lo hi L (seen t)).found ≡ found_in t.log → seen (on a t) ≡ free_phase lo hi L (seen t)

    first_tells : (on : ℕ → Scan → Scan) (n m : ℕ) (e : List ℕ) (a : ℕ) (L : List ℕ) (s : Scan) → Tells on n → get_or e 0 0 ≡ a → hi ≤ length s.codes → missing lo hi (seen s) ≤ n
        → Listed members lo hi S 1 e L → (free_phase lo hi L (seen s)).found ≡ found_in s.log → seen (listed on lo hi m 0 a s) ≡ free_phase lo hi L (seen s)
    unfolding free_phase
    first_tells on n m e a [] s tells g len fuel h f =
        subst (λ (x : ℕ). seen (listed on lo hi m 0 x s) ≡ seen s) (sym h ∙ g) (ap seen (listed_end on m s))
    first_tells on n m e a (x ∷ L) s tells g len fuel h f =
        let o = offer_opens x L s f in
        let w = falls x s len o in
        let y = offered x L s o in
        let r = tells x (claim 2 x s) L (omega (arith, length-set s.codes x 2)) (omega arith) h.2 h.3 (sym (ap (λ (c : Count). c.found) y) ∙ f) in
        subst (λ (z : ℕ). seen (listed on lo hi m 0 z s) ≡ free_phase lo hi (x ∷ L) (seen s)) (sym h.0 ∙ g)
        (ap seen (listed_on on m x s (open_some x s o) o) ∙ r ∙ sym y)

    below_tells : (on : ℕ → Scan → Scan) (n m : ℕ) (b e : List ℕ) → Reads m b e → Tells on n → (k : ℕ) → k ≤ list_room → (L : List ℕ) (s : Scan)
        → hi ≤ length s.codes → missing lo hi (seen s) ≤ n → Listed members lo hi S k e L → (free_phase lo hi L (seen s)).found ≡ found_in s.log
        → seen (below on lo hi m b k s) ≡ free_phase lo hi L (seen s)
    unfolding below free_phase
    below_tells on n m b e r tells zero l [] s len fuel h f = refl
    below_tells on n m b e r tells zero l (x ∷ L) s len fuel h f = absurd h
    below_tells on n m b e r tells (suc zero) l L s len fuel h f = first_tells on n m e (entry_of m b 0) L s tells (r 0 (omega arith)) len fuel h f
    below_tells on n m b e r tells (suc (suc k)) l [] s len fuel h f = absurd h
    below_tells on n m b e r tells (suc (suc k)) l (x ∷ L) s len fuel h f =
        let o = offer_opens x L s f in
        let w = falls x s len o in
        let y = offered x L s o in
        let q = below_tells on n m b e r tells (suc k) (omega arith) L (claim 2 x s) (omega (arith, length-set s.codes x 2)) (omega arith) h.2 (sym (ap (λ (c : Count). c.found) y) ∙ f) in
        let i : listed on lo hi m (suc k) (entry_of m b (suc k)) s ≡ claim 2 x s =
        subst (λ (z : ℕ). listed on lo hi m (suc k) z s ≡ claim 2 x s) (sym h.0 ∙ r (suc k) (omega arith)) (listed_open on m k x s o) in
        ap (λ (u : Scan). seen (below on lo hi m b (suc k) u)) i ∙ q ∙ sym y

    pub chain_tells : (n m : ℕ) (b e : List ℕ) → 0 < m → Reads m b e → (L : List ℕ) (s : Scan) → hi ≤ length s.codes → missing lo hi (seen s) < n
        → ltb list_room (count_of m b) ≡ false → Listed members lo hi S (count_of m b) e L → (free_phase lo hi L (seen s)).found ≡ found_in s.log
        → seen (chain n S lo hi m b s) ≡ free_phase lo hi L (seen s)
    unfolding chain
    chain_tells zero m b e p r L s len fuel c h f = absurd (omega arith)
    chain_tells (suc n) m b e p r L s len fuel c h f =
        rw c (below_tells (λ a. chain n S lo hi (m + 1) (get_or S a [])) n m b e r
        (λ a t L l w d g y. chain_tells n (m + 1) (get_or S a []) (nums 4 list_room at_entries (get_or S a [])) (omega arith) (member_reads m (get_or S a []) p) L t l w
        (subst (λ (k : ℕ). ltb list_room k ≡ false) (sym (member_of m (get_or S a []) p)) d)
        (subst (λ (k : ℕ). Listed members lo hi S k (nums 4 list_room at_entries (get_or S a [])) L) (sym (member_of m (get_or S a []) p)) g) y)
        (count_of m b) (ltb-false list_room (count_of m b) c) L s len (omega arith) h f)

    -- THE FREE LIST
    abbrev first_part : List ℕ
    first_part = get_or S superblock []

    first_reads : Reads 1 first_part (nums 4 list_room at_free first_part)
    first_reads j l = getD_nums 4 list_room at_free j first_part l

    -- without a finding the free phase offers what the list lists
    pub record Walked (s : Scan) : Type 0 where
      pub blocks : List ℕ
      pub lists : Lists members lo hi S (free_list_of first_part) blocks
      pub same : seen (free_list S lo hi s) ≡ free_phase lo hi blocks (seen s)

    pub list_walked : (s : Scan) → hi ≤ length s.codes → Clean s (free_list S lo hi s) → Walked s
    unfolding free_list
    list_walked s len f =
        let r = chain_lists (hi + 1) 1 first_part (nums 4 list_room at_free first_part) (omega arith) first_reads s len (omega (arith, missing_most lo hi (seen s))) f in
        record {
          blocks = r.1.blocks;
          lists = record { fits = ltb-false list_room (nfree_of first_part) r.0; roomed = length_nums 4 list_room at_free first_part; listed = r.1.names };
          same = r.1.same;
        }

    pub list_told : (L : List ℕ) (s : Scan) → hi ≤ length s.codes → Lists members lo hi S (free_list_of first_part) L
        → (free_phase lo hi L (seen s)).found ≡ found_in s.log → seen (free_list S lo hi s) ≡ free_phase lo hi L (seen s)
    unfolding free_list
    list_told L s len h f =
        chain_tells (hi + 1) 1 first_part (nums 4 list_room at_free first_part) (omega arith) first_reads L s len (omega (arith, missing_most lo hi (seen s)))
        (le-ltb list_room (nfree_of first_part) h.fits) h.listed f

    -- what a list lists are data blocks
    is_data_says : (b : ℕ) → is_data lo hi b ≡ true → Data lo hi b
    is_data_says b e = go (leb lo b) refl e
      where
        go : (x : Bool) → leb lo b ≡ x → cond x (ltb b hi) false ≡ true → Data lo hi b
        go true x e = (leb-true lo b x, ltb-true b hi e)
        go false x e = absurd (let z : ◌≡◌ {A = ℕ} 0 1 = cc in omega arith)

    listed_data : (n : ℕ) (e L : List ℕ) → Listed members lo hi S n e L → (b : ℕ) → 0 < count L b → Data lo hi b
    unfolding count
    listed_data zero e [] h b q = absurd (omega arith)
    listed_data zero e (x ∷ L) h b q = absurd h
    listed_data (suc zero) e [] h b q = absurd (omega arith)
    listed_data (suc zero) e (x ∷ L) h b q =
        ⊎_elim (λ (y : 0 < count L b). listed_data (member_count (get_or S x [])) (nums 4 list_room at_entries (get_or S x [])) L h.3 b y)
        (λ (y : count L b ≤ 0). rw (← (hit_eq x b (omega arith))) (is_data_says x h.1)) (cases_lt 0 (count L b))
    listed_data (suc (suc k)) e [] h b q = absurd h
    listed_data (suc (suc k)) e (x ∷ L) h b q =
        ⊎_elim (λ (y : 0 < count L b). listed_data (suc k) e L h.2 b y)
        (λ (y : count L b ≤ 0). rw (← (hit_eq x b (omega arith))) (is_data_says x h.1)) (cases_lt 0 (count L b))

    listed_some : (n : ℕ) (e L : List ℕ) → Listed members lo hi S n e L → All (λ x. 0 < x) L
    listed_some zero e [] h = tt
    listed_some zero e (x ∷ L) h = absurd h
    listed_some (suc zero) e [] h = tt
    listed_some (suc zero) e (x ∷ L) h =
        let d = is_data_says x h.1 in
        (omega arith, listed_some (member_count (get_or S x [])) (nums 4 list_room at_entries (get_or S x [])) L h.3)
    listed_some (suc (suc k)) e [] h = absurd h
    listed_some (suc (suc k)) e (x ∷ L) h = let d = is_data_says x h.1 in (omega arith, listed_some (suc k) e L h.2)

    pub lists_data : (L : List ℕ) → Lists members lo hi S (free_list_of first_part) L → (b : ℕ) → 0 < count L b → Data lo hi b
    lists_data L h = listed_data (nfree_of first_part) (nums 4 list_room at_free first_part) L h.listed

    pub lists_some : (L : List ℕ) → Lists members lo hi S (free_list_of first_part) L → All (λ x. 0 < x) L
    lists_some L h = listed_some (nfree_of first_part) (nums 4 list_room at_free first_part) L h.listed
