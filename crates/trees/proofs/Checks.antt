-- The free list and what is missing, by counts; and both phases together.
use Rattle.std.proofs.Common.{◌≡◌, ℕ, ◌+◌, ◌*◌, ◌<◌, ◌≤◌, Bool, true, false, cond, ◌&&◌, eqb, leb, ◌≢◌, List, [], ◌∷◌, length, get_or, set, sym, refl, subst, ⊎_elim, arith, length-set, get_or-set_other, get_or-set_same}
use Rattle.std.specs.List.{AllByRecursion as All}
use Rattle.std.proofs.lemmas.Bool.{cases_eq, cases_lt, and_from, le-leb, lt-leb, eq-eqb, ne_eqb, and_left, and_right, cond-true, cond-false}
use Rattle.trees.specs.Trees.{hit, count, Absent}
use Rattle.trees.specs.Walk.{Scan, code, Data, is_open}
use Rattle.trees.specs.Volume.{claims, file_phase, offer, free_phase, missing}
use Rattle.trees.specs.Laws.{Sound, Blank, phases, NoFindingSaysSound, CodesSayTheClaims, NothingMissingSaysFull}
use Rattle.trees.proofs.Sums.{total_at, total_zero, total_replace, total_most, hit_same, hit_other, hit_le, hit_eq}
use Rattle.trees.proofs.Walks.{open_parts, open_from}
use Rattle.trees.proofs.Files.{filed, file_phase_sized, file_phase_up}

module _ (lo hi : ℕ) where
  offered : (x : ℕ) (s : Scan) → 0 < x → x < length s.codes → code s x ≡ 0
      → (b : ℕ) → get_or (set s.codes x 2) b 0 ≡ code s b + 2 * hit x b
  offered x s p l e b =
      ⊎_elim
      (λ (q : b ≡ x). rw q (omega (arith, get_or-set_same s.codes x 2 0 l, hit_same x p)))
      (λ (q : b ≡ x → ⊥). omega (arith, get_or-set_other s.codes x b 2 0 q, hit_other x b (λ (r : x ≡ b). q (sym r))))
      (cases_eq b x)

  -- what a free list without a finding says
  record FreeMet (xs : List ℕ) (s t : Scan) : Type 0 where
    codes : (b : ℕ) → code t b ≡ code s b + 2 * count xs b
    sure : (b : ℕ) → 0 < count xs b → Data lo hi b
    new : (b : ℕ) → 0 < count xs b → code s b ≡ 0
    once : (b : ℕ) → count xs b ≤ 1
    some : All (λ x. 0 < x) xs

  pub free_up : (xs : List ℕ) (s : Scan) → s.found ≤ (free_phase lo hi xs s).found
  unfolding free_phase offer
  free_up [] s = omega arith
  free_up (x ∷ xs) s = let u = free_up xs (offer (is_open lo hi x s) x s) in let v = one (is_open lo hi x s) in omega arith
    where
      one : (o : Bool) → s.found ≤ (offer o x s).found
      one true = omega arith
      one false = omega arith

  free_met : (xs : List ℕ) (s : Scan) → 0 < lo → hi ≤ length s.codes → (free_phase lo hi xs s).found ≡ s.found → FreeMet xs s (free_phase lo hi xs s)
  unfolding free_phase count offer
  free_met [] s p l e = record { codes = λ b. omega arith; sure = λ b q. absurd (omega arith); new = λ b q. absurd (omega arith); once = λ b. omega arith; some = tt }
  free_met (x ∷ xs) s p l e = go (is_open lo hi x s) refl e (λ t. free_met xs t p)
    where
      go : (o : Bool) → is_open lo hi x s ≡ o → (free_phase lo hi xs (offer o x s)).found ≡ s.found
          → ((t : Scan) → hi ≤ length t.codes → (free_phase lo hi xs t).found ≡ t.found → FreeMet xs t (free_phase lo hi xs t))
          → FreeMet (x ∷ xs) s (free_phase lo hi xs (offer o x s))
      go false o f ih = absurd (let u = free_up xs (offer false x s) in omega arith)
      go true o f ih =
          let d = open_parts lo hi x s o in
          let c = offered x s (omega arith) (omega arith) d.1 in
          let r = ih (offer true x s) (omega (arith, length-set s.codes x 2)) f in
          record {
            codes = λ b. omega (arith, r.codes b, c b);
            sure = λ b q. ⊎_elim (λ (y : 0 < count xs b). r.sure b y) (λ (y : count xs b ≤ 0). rw (← (hit_eq x b (omega arith))) d.0) (cases_lt 0 (count xs b));
            new = λ b q. ⊎_elim (λ (y : 0 < count xs b). omega (arith, r.new b y, c b)) (λ (y : count xs b ≤ 0). rw (← (hit_eq x b (omega arith))) d.1) (cases_lt 0 (count xs b));
            once = λ b. ⊎_elim (λ (y : 0 < count xs b). omega (arith, r.new b y, c b, r.once b)) (λ (y : count xs b ≤ 0). omega (arith, hit_le x b)) (cases_lt 0 (count xs b));
            some = (omega arith, r.some);
          }

  free_add : (xs : List ℕ) (s : Scan) → hi ≤ length s.codes → All (λ x. 0 < x) xs → ((b : ℕ) → 0 < count xs b → Data lo hi b)
      → ((b : ℕ) → 0 < count xs b → code s b ≡ 0) → ((b : ℕ) → count xs b ≤ 1) → (free_phase lo hi xs s).found ≡ s.found
  unfolding free_phase count offer
  free_add [] s l p d n o = refl
  free_add (x ∷ xs) s l p d n o =
      let h = hit_same x p.0 in
      let dx = d x (omega arith) in
      let nx = n x (omega arith) in
      subst (λ (o : Bool). (free_phase lo hi xs (offer o x s)).found ≡ s.found) (sym (open_from lo hi x s dx nx))
      (free_add xs (record { codes = set s.codes x 2; found = s.found }) (omega (arith, length-set s.codes x 2)) p.1
      (λ b q. d b (omega arith))
      (λ b q. let a = offered x s p.0 (omega arith) nx b in omega (arith, a, n b (omega arith), o b))
      (λ b. omega (arith, o b)))

  -- nothing is missing
  pub missing_none : (s : Scan) → missing lo hi s ≡ 0 → (b : ℕ) → Data lo hi b → 0 < code s b
  unfolding missing
  missing_none s e b d = ⊎_elim
      (λ (z : code s b ≡ 0). absurd
      (let y : cond {A = ℕ} (leb lo b && eqb (code s b) 0) 1 0 ≡ 1 = cond-true (leb lo b && eqb (code s b) 0) 1 0 (and_from _ _ (le-leb lo b d.0) (eq-eqb (code s b) 0 z)) in
      omega (arith, total_at hi (λ b. cond (leb lo b && eqb (code s b) 0) 1 0) b d.1)))
      (λ (z : code s b ≡ 0 → ⊥). let z' : code s b ≢ 0 = z in omega arith)
      (cases_eq (code s b) 0)

  pub none_missing : (s : Scan) → ((b : ℕ) → Data lo hi b → 0 < code s b) → missing lo hi s ≡ 0
  unfolding missing
  none_missing s h = total_zero hi _ (λ b l. ⊎_elim
      (λ (q : b < lo). cond-false _ 1 0 (and_left _ _ (lt-leb lo b q)))
      (λ (q : lo ≤ b). cond-false _ 1 0 (and_right _ _ (ne_eqb (code s b) 0 (λ (z : code s b ≡ 0). let y = h b (q, l) in omega arith))))
      (cases_lt b lo))

  -- a data block gets a code: one fewer is missing
  pub missing_falls : (s : Scan) (a v : ℕ) → 0 < v → Data lo hi a → code s a ≡ 0 → a < length s.codes
      → missing lo hi (record { codes = set s.codes a v; found = s.found }) < missing lo hi s
  unfolding missing
  missing_falls s a v p d e l =
      let g = get_or-set_same s.codes a v 0 l in
      let r = total_replace hi (λ b. cond (leb lo b && eqb (get_or (set s.codes a v) b 0) 0) 1 0) (λ b. cond (leb lo b && eqb (code s b) 0) 1 0) a d.1
      (λ b q n. rw (get_or-set_other s.codes a b v 0 n)) in
      let x : cond {A = ℕ} (leb lo a && eqb (get_or (set s.codes a v) a 0) 0) 1 0 ≡ 0 = cond-false _ 1 0 (and_right _ _ (ne_eqb _ 0 (λ (z : get_or (set s.codes a v) a 0 ≡ 0). omega arith))) in
      let y : cond {A = ℕ} (leb lo a && eqb (code s a) 0) 1 0 ≡ 1 = cond-true _ 1 0 (and_from _ _ (le-leb lo a d.0) (eq-eqb (code s a) 0 e)) in
      omega arith

  pub missing_most : (s : Scan) → missing lo hi s ≤ hi
  unfolding missing
  missing_most s = total_most hi _ (λ b. one (leb lo b && eqb (code s b) 0))
    where
      one : (c : Bool) → cond {A = ℕ} c 1 0 ≤ 1
      one true = omega arith
      one false = omega arith

module _ (w : ℕ) (at : ℕ → ℕ → ℕ) (z : Absent at) (depth : ℕ → ℕ) (lo hi I J : ℕ) (p : 0 < lo) (head : ℕ → ℕ → ℕ) (free : List ℕ) (s : Scan) (k : Blank hi s) where
  abbrev F : Scan
  F = file_phase w at depth lo hi I J head s

  abbrev T : Scan
  T = free_phase lo hi free F

  long : hi ≤ length F.codes
  long = omega (arith, file_phase_sized w at depth lo hi I J head s, k.long)

  clean : T.found ≡ 0 → F.found ≡ s.found
  clean e = omega (arith, free_up lo hi free F, file_phase_up w at depth lo hi I J head s, k.clean)

  list_met : T.found ≡ 0 → FreeMet lo hi free F T
  list_met e = free_met lo hi free F p long (let q = clean e in omega (arith, k.clean))

  file_codes : T.found ≡ 0 → (b : ℕ) → code F b ≡ claims w at depth I J head b
  file_codes e = (filed w at z depth lo hi I J head s k.long k.none).1 (clean e)

  all_codes : T.found ≡ 0 → (b : ℕ) → code T b ≡ claims w at depth I J head b + 2 * count free b
  all_codes e b = omega (arith, (list_met e).codes b, file_codes e b)

  then_sound : T.found ≡ 0 → Sound lo hi w at depth I J head free
  then_sound e =
      let f = (filed w at z depth lo hi I J head s k.long k.none).0.0 (clean e) in
      let m = list_met e in
      record {
        once = λ b. ⊎_elim (λ (q : 0 < count free b). omega (arith, m.new b q, m.once b, file_codes e b)) (λ (q : count free b ≤ 0). omega (arith, f.1 b)) (cases_lt 0 (count free b));
        lawful = λ b q. ⊎_elim (λ (r : 0 < count free b). m.sure b r) (λ (r : count free b ≤ 0). f.0 b (omega arith)) (cases_lt 0 (count free b));
      }

  sound_then : Sound lo hi w at depth I J head free → All (λ x. 0 < x) free → T.found ≡ 0
  sound_then h a =
      let f : F.found ≡ s.found = (filed w at z depth lo hi I J head s k.long k.none).0.1 ((λ b q. h.lawful b (omega arith)), λ b. omega (arith, h.once b)) in
      let c = (filed w at z depth lo hi I J head s k.long k.none).1 f in
      let r = free_add lo hi free F long a (λ b q. h.lawful b (omega arith)) (λ b q. omega (arith, c b, h.once b)) (λ b. omega (arith, h.once b)) in
      omega (arith, k.clean)

pub no_finding : NoFindingSaysSound
no_finding w at z depth lo hi I J p head free s k = (
  λ e. (then_sound w at z depth lo hi I J p head free s k e, (list_met w at z depth lo hi I J p head free s k e).some),
  λ h. sound_then w at z depth lo hi I J p head free s k h.0 h.1,
)

pub codes_said : CodesSayTheClaims
codes_said w at z depth lo hi I J p head free s k e = all_codes w at z depth lo hi I J p head free s k e

pub none_is_missing : NothingMissingSaysFull
none_is_missing w at z depth lo hi I J p head free s k e = (
  λ m b d. let y = missing_none lo hi (phases w at depth lo hi I J head free s) m b d in let c = codes_said w at z depth lo hi I J p head free s k e b in omega arith,
  λ full. none_missing lo hi (phases w at depth lo hi I J head free s) (λ b d. let c = codes_said w at z depth lo hi I J p head free s k e b in let f = full b d in omega arith),
)
