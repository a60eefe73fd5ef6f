-- Where a forwarder keeps sectors, and what one call on it does.
use Rattle.std.proofs.Common.{◌≡◌, ℕ, zero, suc, ◌+◌, ◌-◌, ◌<◌, ◌≤◌, Bool, true, false, not, ◌==◌, cond, ltb, leb, ◌≢◌, ◌⊎◌, Option, Some, None, List, [], ◌∷◌, length, get_or, set, sym, refl, ap, ◌∙◌, inl, inr, ⊎_elim, arith, length-set, get_or-set_other, get_or-set_same, ltb-true, le-ltb, lt-ltb, eq-eqb, ne_eqb, leb-true}
use Rattle.std.specs.Option.{MatchOption}
use Rattle.std.specs.List.{list_any, AllWithin, HoldsAt}
use Rattle.std.proofs.lemmas.Bool.{cases_eq, cases_Bool}
use Rattle.std.proofs.lemmas.List.{ext_get_or}
use Rattle.disk.specs.Disks.{serves, answer}
use Rattle.disk.specs.Medium.{Medium, Sectors, Sized, Power, endless, left, sector_bytes, ran}
use Rattle.disk.proofs.Writes.{ran_one, written, spend}
use Rattle.disk.proofs.Served.{served, answered}
use Rattle.piles.specs.Forward.{most_worn, home, row, forwarded, forward, is_new, all_new, is_lawful, ForwardLaw}

pub length_row : (f : ℕ → List ℕ) (k n : ℕ) → length (row f k n) ≡ n
unfolding row
length_row f k zero = refl
length_row f k (suc n) = ap suc (length_row f (suc k) n)

getD_row_from : (f : ℕ → List ℕ) (k n s : ℕ) → s < n → get_or (row f k n) s [] ≡ f (k + s)
unfolding row
getD_row_from f k zero s h = absurd (omega arith)
getD_row_from f k (suc n) zero h = let e : k + 0 ≡ k = omega arith in rw e
getD_row_from f k (suc n) (suc s) h = let e : k + suc s ≡ suc k + s = omega arith in rw e (getD_row_from f (suc k) n s (omega arith))

pub getD_row : (f : ℕ → List ℕ) (n s : ℕ) → s < n → get_or (row f 0 n) s [] ≡ f s
getD_row f n s h = let e : 0 + s ≡ s = omega arith in rw e at (getD_row_from f 0 n s h)

-- a sector is where it was, or among the last ones, at its own entry
pub home_cases : (ws : List ℕ) (n s : ℕ) → (home ws n s ≡ s) ⊎ ((n ≤ home ws n s) × (home ws n s < n + length ws) × (get_or ws (home ws n s - n) 0 ≡ s))
unfolding home
home_cases [] n s = inl refl
home_cases (w ∷ ws) n s =
    ⊎_elim
    (λ (x : w ≡ s). let z : n - n ≡ 0 = omega arith in rw (eq-eqb w s x, z) (inr (omega arith, omega arith, x)))
    (λ (x : w ≡ s → ⊥).
    rw (ne_eqb w s x)
    (elim (home_cases ws (suc n) s) [
      | inl e ↦ inl e
      | inr p ↦ let z : home ws (suc n) s - n ≡ suc (home ws (suc n) s - suc n) = omega arith in inr (omega arith, omega arith, rw z p.2)
    ]))
    (cases_eq w s)

pub home_in : (ws : List ℕ) (n s : ℕ) → s < n → home ws n s < n + length ws
home_in ws n s h = elim (home_cases ws n s) [ inl e ↦ omega arith | inr p ↦ p.1 ]

pub home_apart : (ws : List ℕ) (n s t : ℕ) → s < n → t < n → t ≢ s → home ws n t ≢ home ws n s
home_apart ws n s t l m ne e =
    elim (home_cases ws n s) [
      | inl x ↦ elim (home_cases ws n t) [ inl y ↦ ne (sym y ∙ e ∙ x) | inr q ↦ omega arith ]
      | inr p ↦ elim (home_cases ws n t) [ inl y ↦ omega arith | inr q ↦ ne (sym q.2 ∙ ap (λ (k : ℕ). get_or ws (k - n) 0) e ∙ p.2) ]
    ]

pub length_forwarded : (ws : List ℕ) (S : Sectors) → length (forwarded ws S) ≡ length S - length ws
unfolding forwarded
length_forwarded ws S = length_row _ 0 _

pub getD_forwarded : (ws : List ℕ) (S : Sectors) (s : ℕ) → s < length S - length ws → get_or (forwarded ws S) s [] ≡ get_or S (home ws (length S - length ws) s) []
unfolding forwarded
getD_forwarded ws S s h = getD_row (λ s. get_or S (home ws (length S - length ws) s) []) (length S - length ws) s h

-- one write
pub set_forwarded : (ws : List ℕ) (S : Sectors) (s : ℕ) (b : List ℕ) → s < length S - length ws
    → forwarded ws (set S (home ws (length S - length ws) s) b) ≡ set (forwarded ws S) s b
set_forwarded ws S s b h =
    let n = length S - length ws in
    let S' = set S (home ws (length S - length ws) s) b in
    let l : length (set S (home ws (length S - length ws) s) b) ≡ length S = length-set S (home ws (length S - length ws) s) b in
    let e : length (set S (home ws (length S - length ws) s) b) - length ws ≡ length S - length ws = omega arith in
    let fl : length (forwarded ws S') ≡ length S - length ws = length_forwarded ws S' ∙ e in
    ext_get_or [] (forwarded ws S') (set (forwarded ws S) s b) (fl ∙ sym (length-set (forwarded ws S) s b ∙ length_forwarded ws S))
    (λ t m.
    let m1 : t < length S - length ws = omega arith in
    getD_forwarded ws S' t (omega arith)
    ∙ ap (λ (k : ℕ). get_or S' (home ws k t) []) e
    ∙ ⊎_elim
    (λ (x : t ≡ s).
    let hi = home_in ws (length S - length ws) s h in
    rw x (get_or-set_same S (home ws (length S - length ws) s) b [] (omega arith)
    ∙ sym (get_or-set_same (forwarded ws S) s b [] (rw (length_forwarded ws S) h))))
    (λ (x : t ≡ s → ⊥).
    get_or-set_other S (home ws (length S - length ws) s) (home ws (length S - length ws) t) b [] (home_apart ws (length S - length ws) s t h m1 x)
    ∙ sym (get_or-set_other (forwarded ws S) s t b [] x ∙ getD_forwarded ws S t m1))
    (cases_eq t s))

written_forwarded : (p : Power) (ws : List ℕ) (S : Sectors) (s : ℕ) (b : List ℕ) → s < length S - length ws
    → forwarded ws (written p S (home ws (length S - length ws) s) b) ≡ written p (forwarded ws S) s b
written_forwarded endless ws S s b h = set_forwarded ws S s b h
written_forwarded (left zero) ws S s b h = refl
written_forwarded (left (suc n)) ws S s b h = set_forwarded ws S s b h

pub forward_ran : (ws : List ℕ) (m : Medium) (s : ℕ) (b : List ℕ) → s < length m.sectors - length ws
    → forward ws (ran ((home ws (length m.sectors - length ws) s, b) ∷ []) m) ≡ ran ((s, b) ∷ []) (forward ws m)
forward_ran ws m s b h =
    let H = home ws (length m.sectors - length ws) s in
    let e = written_forwarded m.power ws m.sectors s b h in
    let x : forward ws (ran ((H, b) ∷ []) m) ≡ forward ws (record { sectors = written m.power m.sectors H b; power = spend m.power }) = ap (forward ws) (ran_one H b m) in
    let y : ran ((s, b) ∷ []) (forward ws m) ≡ record { sectors = written m.power (forwarded ws m.sectors) s b; power = spend m.power } = ran_one s b (forward ws m) in
    let z : ◌≡◌ {A = Medium} (record { sectors = forwarded ws (written m.power m.sectors H b); power = spend m.power }) (record { sectors = written m.power (forwarded ws m.sectors) s b; power = spend m.power })
    = ap (λ (T : Sectors). record { sectors = T; power = spend m.power }) e in
    x ∙ z ∙ sym y

-- What the disk below answers.
pub sized_forwarded : (ws : List ℕ) (S : Sectors) → Sized S → Sized (forwarded ws S)
sized_forwarded ws S h k l =
    let m : k < length S - length ws = rw (length_forwarded ws S) at l in
    let i = home_in ws (length S - length ws) k m in
    rw (getD_forwarded ws S k m) (h (home ws (length S - length ws) k) (omega arith))

module _ (ws : List ℕ) (m : Medium) (len s h : ℕ) (e : len ≡ sector_bytes) (l : s < length m.sectors - length ws) (at : h ≡ home ws (length m.sectors - length ws) s) where
  below : h < length m.sectors
  below = let i = home_in ws (length m.sectors - length ws) s l in omega arith

  here : s < length (forwarded ws m.sectors)
  here = rw (length_forwarded ws m.sectors) l

  pub through_answer : answer len h (length m.sectors) ≡ answer len s (length (forwarded ws m.sectors))
  through_answer = answered len h (length m.sectors) e below ∙ sym (answered len s (length (forwarded ws m.sectors)) e here)

  pub through_read : (buf : List ℕ) → cond (serves len h (length m.sectors)) (get_or m.sectors h []) buf ≡ cond (serves len s (length (forwarded ws m.sectors))) (get_or (forwarded ws m.sectors) s []) buf
  through_read buf =
      rw (served len h (length m.sectors) e below, served len s (length (forwarded ws m.sectors)) e here)
      (ap (λ (k : ℕ). get_or m.sectors k []) at ∙ sym (getD_forwarded ws m.sectors s l))

  pub through_write : (b : List ℕ) → forward ws (cond (serves len h (length m.sectors)) (ran ((h, b) ∷ []) m) m) ≡ cond (serves len s (length (forwarded ws m.sectors))) (ran ((s, b) ∷ []) (forward ws m)) (forward ws m)
  through_write b =
      rw (served len h (length m.sectors) e below, served len s (length (forwarded ws m.sectors)) e here)
      (ap (λ (k : ℕ). forward ws (ran ((k, b) ∷ []) m)) at ∙ forward_ran ws m s b l)

-- the first entry that names s
pub home_at : (ws : List ℕ) (n s j : ℕ) → j < length ws → get_or ws j 0 ≡ s → ((k : ℕ) → k < j → get_or ws k 0 ≢ s) → home ws n s ≡ n + j
unfolding home
home_at [] n s j l e h = absurd (omega arith)
home_at (w ∷ ws) n s zero l e h = rw (eq-eqb w s e) (omega arith)
home_at (w ∷ ws) n s (suc j) l e h = rw (ne_eqb w s (h 0 (omega arith))) (home_at ws (suc n) s j (omega arith) e (λ k m. h (suc k) (omega arith)) ∙ omega arith)

home_others : (ws : List ℕ) (n s : ℕ) → ((j : ℕ) → j < length ws → get_or ws j 0 ≡ s → ⊥) → home ws n s ≡ s
unfolding home
home_others [] n s h = refl
home_others (w ∷ ws) n s h = rw (ne_eqb w s (h 0 (omega arith))) (home_others ws (suc n) s (λ j l. h (suc j) (omega arith)))

pub home-position : (ws : List ℕ) (n s : ℕ) (r : Option ℕ) (out : ℕ)
    → MatchOption r (AllWithin (λ w. w ≢ s) ws 0 (length ws)) (λ i. (i < length ws) × HoldsAt (λ w. w ≡ s) ws i × AllWithin (λ w. w ≢ s) ws 0 i)
    → MatchOption r (out ≡ s) (λ j. out ≡ n + j) → out ≡ home ws n s
home-position ws n s None out h o = o ∙ sym (home_others ws n s (λ j l. h j 0 (omega arith) l))
home-position ws n s (Some i) out h o = o ∙ sym (home_at ws n s i h.0 (h.1 0) (λ k m. h.2 k 0 (omega arith) m))

pub is_new-contains : (w : ℕ) (ws : List ℕ) → is_new w ws ≡ not (list_any (λ x. x == w) ws)
is_new-contains w [] = refl
is_new-contains w (x ∷ ws) =
    ⊎_elim
    (λ (e : w ≡ x). rw (eq-eqb w x e, eq-eqb x w (sym e)))
    (λ (e : w ≡ x → ⊥). rw (ne_eqb w x e, ne_eqb x w (λ d. e (sym d))) (is_new-contains w ws))
    (cases_eq w x)

-- lawful numbers: entry j is kept in n + j
not_yet : (w : ℕ) (ws : List ℕ) (j : ℕ) → is_new w ws ≡ true → j < length ws → get_or ws j 0 ≢ w
not_yet w [] j h l e = omega arith
not_yet w (x ∷ ws) j h l e =
    ⊎_elim
    (λ (y : w ≡ x). let f : false ≡ true = rw (eq-eqb w x y) at h in cc)
    (λ (y : w ≡ x → ⊥). later j l y e (λ i m. not_yet w ws i (rw (ne_eqb w x y) at h) m))
    (cases_eq w x)
  where
    later : (j : ℕ) → j < length (x ∷ ws) → (w ≡ x → ⊥) → get_or (x ∷ ws) j 0 ≡ w → ((i : ℕ) → i < length ws → get_or ws i 0 ≢ w) → ⊥
    later zero l y e r = y (sym e)
    later (suc j) l y e r = r j (omega arith) e

home_entry : (ws : List ℕ) (n N j : ℕ) → all_new N ws ≡ true → j < length ws → (home ws n (get_or ws j 0) ≡ n + j) × (get_or ws j 0 < N)
unfolding home
home_entry [] n N j h l = absurd (omega arith)
home_entry (w ∷ ws) n N j h l =
    ⊎_elim
    (λ (a : ltb w N ≡ true).
    let h1 = rw a at h in
    ⊎_elim
    (λ (b : is_new w ws ≡ true). split j a b l (λ i m. home_entry ws (suc n) N i (rw b at h1) m))
    (λ (b : is_new w ws ≡ false). let f : false ≡ true = rw b at h1 in cc)
    (cases_Bool (is_new w ws)))
    (λ (a : ltb w N ≡ false). let f : false ≡ true = rw a at h in cc)
    (cases_Bool (ltb w N))
  where
    split : (j : ℕ) → ltb w N ≡ true → is_new w ws ≡ true → j < length (w ∷ ws) → ((i : ℕ) → i < length ws → (home ws (suc n) (get_or ws i 0) ≡ suc n + i) × (get_or ws i 0 < N)) → (home (w ∷ ws) n (get_or (w ∷ ws) j 0) ≡ n + j) × (get_or (w ∷ ws) j 0 < N)
    split zero a b l r = let z : n + 0 ≡ n = omega arith in (rw (eq-eqb w w refl, z), ltb-true w N a)
    split (suc j) a b l r =
        let p = r j (omega arith) in
        let ne : w ≢ get_or ws j 0 = λ x. not_yet w ws j b (omega arith) (sym x) in
        let z : n + suc j ≡ suc n + j = omega arith in
        (rw (ne_eqb w (get_or ws j 0) ne, z) p.0, p.1)

lawful_new : (count : ℕ) (ws : List ℕ) → is_lawful count ws ≡ true → all_new (count - length ws) ws ≡ true
lawful_new count ws h = last (leb (length ws) most_worn) (leb (length ws) count) (all_new (count - length ws) ws) h
  where
    last : (a b d : Bool) → cond a (cond b d false) false ≡ true → d ≡ true
    last true true d e = e
    last true false d e = cc
    last false b d e = cc

-- lawful numbers are few
pub lawful_few : (count : ℕ) (ws : List ℕ) → is_lawful count ws ≡ true → length ws ≤ most_worn
lawful_few count ws h = leb-true (length ws) most_worn (first (leb (length ws) most_worn) (leb (length ws) count) (all_new (count - length ws) ws) h)
  where
    first : (a b d : Bool) → cond a (cond b d false) false ≡ true → a ≡ true
    first true b d e = refl
    first false b d e = cc

pub forward_law : ForwardLaw
forward_law ws S h =
    let n = length S - length ws in
    let a = lawful_new (length S) ws h in (
      length_forwarded ws S,
      (λ j l. let p = home_entry ws n n j a l in getD_forwarded ws S (get_or ws j 0) p.1 ∙ ap (λ (k : ℕ). get_or S k []) p.0),
      (λ s l o. getD_forwarded ws S s l ∙ ap (λ (k : ℕ). get_or S k []) (home_others ws n s o)),
    )

-- the first of the worn numbers, and those behind it
pub all_new-far : (n w : ℕ) (ws xs : List ℕ) → xs ≡ w ∷ ws → n ≤ w → all_new n xs ≡ false
all_new-far n w ws xs e h = rw (e, le-ltb w n h)

pub all_new-first : (n w : ℕ) (ws xs : List ℕ) (again : Bool) → xs ≡ w ∷ ws → w < n → again ≡ list_any (λ x. x == w) ws → all_new n xs ≡ cond again false (all_new n ws)
all_new-first n w ws xs again e h a = rw (e, lt-ltb w n h, is_new-contains w ws, ← a) (flip again)
  where
    flip : (b : Bool) → cond (not b) (all_new n ws) false ≡ cond b false (all_new n ws)
    flip true = refl
    flip false = refl
