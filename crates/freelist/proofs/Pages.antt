-- The free list over pages is a stack.
use Rattle.std.proofs.Common.{◌≡◌, ℕ, zero, suc, ◌+◌, ◌-◌, ◌<◌, ◌≤◌, Bool, true, false, cond, eqb, ltb, leb, List, [], ◌∷◌, length, get_or, set, sym, refl, ap, ◌∙◌, ⊎_elim, add-one, arith, length-set, get_or-set_other, get_or-set_same, ltb-false, le-ltb, ne_eqb, eqb-true}
use Rattle.std.proofs.lemmas.Bool.{lt-leb, eqb-false}
use Rattle.std.proofs.lemmas.Bool.{cases_Bool}
use Rattle.fault.specs.declared.fault.ListFault.TheVariants.{Empty}
use Rattle.disk.specs.Medium.{Sectors, Write, after}
use Rattle.freelist.specs.Stack.{Free, Chain, is_data, took, refused, Listed, Lists, Takes, given, take_first, take_entry, Out}
use Rattle.freelist.specs.Laws.{AllOut, AllData, ListedBlocksAreData, TakeIsUncons, EmptyGivesNone, GiveIsCons, OtherWritesLeaveTheList, OneRowIsListed}

module _ (Y : Chain) (lo hi : ℕ) where
  -- another sector changed
  framed : (S : Sectors) (s : ℕ) (x : List ℕ) (n : ℕ) (e L : List ℕ) → Out s L → Listed Y lo hi S n e L → Listed Y lo hi (set S s x) n e L
  framed S s x zero e [] o h = tt
  framed S s x zero e (b ∷ L) o h = h
  framed S s x (suc zero) e [] o h = h
  framed S s x (suc zero) e (b ∷ L) o h =
      let k : get_or (set S s x) b [] ≡ get_or S b [] = get_or-set_other S s b x [] o.0 in
      (h.0, h.1, rw k h.2, rw k (framed S s x (Y.page_of (get_or S b [])).count (Y.page_of (get_or S b [])).entries L o.1 h.3))
  framed S s x (suc (suc k)) e [] o h = h
  framed S s x (suc (suc k)) e (b ∷ L) o h = (h.0, h.1, framed S s x (suc k) e L o.1 h.2)

  -- an entry at or past the count changed
  past : (S : Sectors) (n : ℕ) (e : List ℕ) (i y : ℕ) (L : List ℕ) → n ≤ i → Listed Y lo hi S n e L → Listed Y lo hi S n (set e i y) L
  past S zero e i y [] le h = tt
  past S zero e i y (b ∷ L) le h = h
  past S (suc zero) e i y [] le h = let ne : (0 ≡ i) → ⊥ = omega arith in get_or-set_other e i 0 y 0 ne ∙ h
  past S (suc zero) e i y (b ∷ L) le h = let ne : (0 ≡ i) → ⊥ = omega arith in (get_or-set_other e i 0 y 0 ne ∙ h.0, h.1, h.2, h.3)
  past S (suc (suc k)) e i y [] le h = h
  past S (suc (suc k)) e i y (b ∷ L) le h = let ne : (suc k ≡ i) → ⊥ = omega arith in (get_or-set_other e i (suc k) y 0 ne ∙ h.0, h.1, past S (suc k) e i y L (omega arith) h.2)

  -- block 0 is no data block
  not_zero : 0 < lo → is_data lo hi 0 ≡ true → ⊥
  not_zero pos d =
      let f : leb lo 0 ≡ false = lt-leb lo 0 pos in
      let e : ◌≡◌ {A = Bool} false true = rw f at d in
      let z : ◌≡◌ {A = ℕ} 0 1 = cc in
      omega arith

  only : (S : Sectors) (n : ℕ) (e L M : List ℕ) → 0 < lo → Listed Y lo hi S n e L → Listed Y lo hi S n e M → L ≡ M
  only S zero e [] [] pos h k = refl
  only S zero e [] (b ∷ M) pos h k = absurd k
  only S zero e (a ∷ L) [] pos h k = absurd h
  only S zero e (a ∷ L) (b ∷ M) pos h k = absurd k
  only S (suc zero) e [] [] pos h k = refl
  only S (suc zero) e [] (b ∷ M) pos h k = absurd (not_zero pos (ap (is_data lo hi) (sym h ∙ k.0) ∙ k.1))
  only S (suc zero) e (a ∷ L) [] pos h k = absurd (not_zero pos (ap (is_data lo hi) (sym k ∙ h.0) ∙ h.1))
  only S (suc zero) e (a ∷ L) (b ∷ M) pos h k =
      let s : b ≡ a = sym k.0 ∙ h.0 in
      let q : Listed Y lo hi S (Y.page_of (get_or S a [])).count (Y.page_of (get_or S a [])).entries M = rw s at k.3 in
      let r : L ≡ M = only S (Y.page_of (get_or S a [])).count (Y.page_of (get_or S a [])).entries L M pos h.3 q in
      cc
  only S (suc (suc n)) e [] [] pos h k = refl
  only S (suc (suc n)) e [] (b ∷ M) pos h k = absurd h
  only S (suc (suc n)) e (a ∷ L) [] pos h k = absurd k
  only S (suc (suc n)) e (a ∷ L) (b ∷ M) pos h k =
      let s : a ≡ b = sym h.0 ∙ k.0 in
      let r : L ≡ M = only S (suc n) e L M pos h.2 k.2 in
      cc

  -- a take from a chain member
  linked : (b : ℕ) (S : Sectors) (t m : ℕ) → 0 < lo → is_data lo hi b ≡ true → ltb Y.room (Y.page_of (get_or S b [])).count ≡ false → take_first Y lo hi b S t m ≡ took b (record { page = Y.page_of (get_or S b []); total = t - 1 }) (m + 1)
  linked b S t m pos d c =
      let ne : eqb b 0 ≡ false = ne_eqb b 0 (λ (z : b ≡ 0). not_zero pos (ap (is_data lo hi) (sym z) ∙ d)) in
      rw (ne, d, c)

  takes : (S : Sectors) (m n : ℕ) (e : List ℕ) (t b : ℕ) (L : List ℕ) → 0 < lo → n ≤ Y.room → length e ≡ Y.room → Listed Y lo hi S n e (b ∷ L) → Takes Y lo hi S m (record { page = record { count = n; entries = e }; total = t }) b L
  takes S m zero e t b L pos le l h = absurd h
  takes S m (suc zero) e t b L pos le l h =
      record {
        rest = record { page = Y.page_of (get_or S b []); total = t - 1 };
        member = m + 1;
        is = let s = le-ltb Y.room 1 le in rw (s, h.0) (linked b S t m pos h.1 h.2);
        lowered = refl;
        lists = record { fits = ltb-false Y.room (Y.page_of (get_or S b [])).count h.2; roomed = Y.entries_of (get_or S b []); listed = h.3 };
      }
  takes S m (suc (suc k)) e t b L pos le l h =
      record {
        rest = record { page = record { count = suc k; entries = e }; total = t - 1 };
        member = m;
        is = let s = le-ltb Y.room (suc (suc k)) le in rw (s, h.0, h.1);
        lowered = refl;
        lists = record { fits = omega arith; roomed = l; listed = h.2 };
      }

  none : (S : Sectors) (m n : ℕ) (e : List ℕ) (t : ℕ) → Listed Y lo hi S n e [] → take_entry Y lo hi n e S t m ≡ refused (Empty m)
  none S m zero e t h = refl
  none S m (suc zero) e t h = rw h
  none S m (suc (suc k)) e t h = absurd h

  gives : (S : Sectors) (n : ℕ) (e : List ℕ) (t b : ℕ) (L x : List ℕ) → is_data lo hi b ≡ true → b < length S → Out b L
      → (n ≡ Y.room → Y.page_of x ≡ record { count = n; entries = e }) → n ≤ Y.room → length e ≡ Y.room → Listed Y lo hi S n e L
      → Lists Y lo hi (cond (eqb n Y.room) (set S b x) S) (given Y.room b (record { page = record { count = n; entries = e }; total = t })) (b ∷ L)
  gives S zero e t b [] x d i o full le l h =
      let two : 1 < Y.room = Y.roomy in
      let l1 : 1 < length (set e 0 0) = simp length-set (omega arith) in
      let l0 : 0 < length e = omega arith in
      let n0 : eqb 0 Y.room ≡ false = ne_eqb 0 Y.room (omega arith) in
      let n1 : eqb 1 Y.room ≡ false = ne_eqb 1 Y.room (omega arith) in
      rw (n0, n1)
      (record {
        fits = omega arith;
        roomed = simp length-set l;
        listed = (get_or-set_same (set e 0 0) 1 b 0 l1, d, get_or-set_other (set e 0 0) 1 0 b 0 (omega arith) ∙ get_or-set_same e 0 0 0 l0);
      })
  gives S zero e t b (y ∷ L) x d i o full le l h = absurd h
  gives S (suc k) e t b L x d i o full le l h =
      let two : 1 < Y.room = Y.roomy in
      ⊎_elim
      (λ (y : eqb (suc k) Y.room ≡ true).
      let g : get_or (set S b x) b [] ≡ x = get_or-set_same S b x [] i in
      let q : Y.page_of x ≡ record { count = suc k; entries = e } = full (eqb-true (suc k) Y.room y) in
      let s : ltb Y.room (suc k) ≡ false = le-ltb Y.room (suc k) le in
      let r : Listed Y lo hi (set S b x) (suc k) e L = framed S b x (suc k) e L o h in
      let l0 : 0 < length e = omega arith in
      rw y
      (record {
        fits = omega arith;
        roomed = simp length-set l;
        listed = (get_or-set_same e 0 b 0 l0, d, rw (g, q) s, rw (g, q) r);
      }))
      (λ (y : eqb (suc k) Y.room ≡ false).
      let ne : (suc k ≡ Y.room) → ⊥ = eqb-false (suc k) Y.room y in
      let li : suc k < length e = omega arith in
      rw (y, add-one (suc k))
      (record {
        fits = omega arith;
        roomed = simp length-set l;
        listed = (get_or-set_same e (suc k) b 0 li, d, past S (suc k) e (suc k) b L (omega arith) h);
      }))
      (cases_Bool (eqb (suc k) Y.room))

  are_data : (S : Sectors) (n : ℕ) (e L : List ℕ) → Listed Y lo hi S n e L → AllData lo hi L
  are_data S zero e [] h = tt
  are_data S zero e (b ∷ L) h = absurd h
  are_data S (suc zero) e [] h = tt
  are_data S (suc zero) e (b ∷ L) h = (h.1, are_data S (Y.page_of (get_or S b [])).count (Y.page_of (get_or S b [])).entries L h.3)
  are_data S (suc (suc k)) e [] h = tt
  are_data S (suc (suc k)) e (b ∷ L) h = (h.1, are_data S (suc k) e L h.2)

  frames : (W : List Write) (S : Sectors) (f : Free) (L : List ℕ) → AllOut W L → Lists Y lo hi S f L → Lists Y lo hi (after W S) f L
  frames [] S f L o h = h
  frames (w ∷ W) S f L o h =
      frames W (set S w.0 w.1) f L o.1
      (record { fits = h.fits; roomed = h.roomed; listed = framed S w.0 w.1 f.page.count f.page.entries L o.0 h.listed })

pub take_is_uncons : (Y : Chain) → TakeIsUncons Y
take_is_uncons Y lo hi S m f b L pos h = takes Y lo hi S m f.page.count f.page.entries f.total b L pos h.fits h.roomed h.listed

pub empty_gives_none : (Y : Chain) → EmptyGivesNone Y
empty_gives_none Y lo hi S m f h =
    let s = le-ltb Y.room f.page.count h.fits in
    rw s (none Y lo hi S m f.page.count f.page.entries f.total h.listed)

pub give_is_cons : (Y : Chain) → GiveIsCons Y
give_is_cons Y lo hi S f b L x d i o full h = gives Y lo hi S f.page.count f.page.entries f.total b L x d i o full h.fits h.roomed h.listed

pub other_writes_leave_the_list : (Y : Chain) → OtherWritesLeaveTheList Y
other_writes_leave_the_list Y lo hi S W f L o h = frames Y lo hi W S f L o h

pub one_row_is_listed : (Y : Chain) → OneRowIsListed Y
one_row_is_listed Y lo hi S f L M pos h k = only Y lo hi S f.page.count f.page.entries L M pos h.listed k.listed

pub listed_blocks_are_data : (Y : Chain) → ListedBlocksAreData Y
listed_blocks_are_data Y lo hi S f L h = are_data Y lo hi S f.page.count f.page.entries L h.listed
