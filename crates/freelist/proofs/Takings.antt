-- A take in the bytes of the superblock is a take over pages.
use Rattle.std.proofs.Common.{◌≡◌, ℕ, zero, suc, ◌+◌, ◌-◌, ◌<◌, ◌≤◌, min, Bool, true, false, cond, eqb, ltb, leb, List, [], ◌++◌, length, get_or, take, drop, sym, refl, ap, ◌∙◌, subst, inl, inr, ⊎_elim, arith, length-append, length-drop, length-take}
use Rattle.std.proofs.lemmas.Bool.{ltb-false, ltb-true, leb-true, le-leb, lt-ltb, false≢true, cond_both}
use Rattle.std.proofs.lemmas.List.{length-take-le, get_or_append_left, get_or-append_right, get_or-take, get_or-drop}
use Rattle.disk.specs.Medium.{Sectors, Sized}
use Rattle.numbers.specs.Numbers.{num, put_num, nums}
use Rattle.numbers.specs.Laws.{Apart}
use Rattle.numbers.proofs.Numbers.{put_length, num_put, num_apart, byte_apart, num_ext, nums_apart, nums_ext, getD_nums, apart}
use Rattle.format.specs.Layout.{block_bytes, list_room}
use Rattle.format.specs.Superblock.{at_nfree, at_free, at_tfree, nfree_of, free_of, tfree_of}
use Rattle.freelist.specs.Stack.{Free, Taking, is_data, take_entry, take_first, taken}
use Rattle.freelist.specs.Stack.{took as taking}
use Rattle.freelist.specs.Laws.{SameElsewhere}
use Rattle.freelist.specs.Chain.{chain}
use Rattle.freelist.specs.Bytes.{Taken, took, refused, in_pages, member_page, member_count, member_entries, at_entries, entries_bytes, put_bytes, free_list_of, lowered, loaded, take_first_bytes, take_entry_bytes, take_bytes}

-- BYTES IN PLACE OF OTHERS
pub length_put_bytes : (o : ℕ) (b x : List ℕ) → o + length b ≤ length x → length (put_bytes o b x) ≡ length x
unfolding put_bytes
length_put_bytes o b x h =
    let e1 = length-append (take o x) (b ++ drop (o + length b) x) in
    let e2 = length-append b (drop (o + length b) x) in
    let e3 = length-take o x in
    let e4 = length-drop (o + length b) x in
    omega arith

pub put_bytes_before : (o k : ℕ) (b x : List ℕ) → o + length b ≤ length x → k < o → get_or (put_bytes o b x) k 0 ≡ get_or x k 0
unfolding put_bytes
put_bytes_before o k b x h l =
    let f = length-take-le o x (omega arith) in
    get_or_append_left (take o x) (b ++ drop (o + length b) x) 0 k (omega arith) ∙ get_or-take o x k 0 l

pub put_bytes_here : (o k : ℕ) (b x : List ℕ) → o + length b ≤ length x → k < length b → get_or (put_bytes o b x) (o + k) 0 ≡ get_or b k 0
unfolding put_bytes
put_bytes_here o k b x h l =
    let f = length-take-le o x (omega arith) in
    let e : o + k - o ≡ k = omega arith in
    get_or-append_right (take o x) (b ++ drop (o + length b) x) o (o + k) 0 f (omega arith)
    ∙ ap (λ (n : ℕ). get_or (b ++ drop (o + length b) x) n 0) e
    ∙ get_or_append_left b (drop (o + length b) x) 0 k l

pub put_bytes_past : (o k : ℕ) (b x : List ℕ) → o + length b ≤ length x → o + length b ≤ k → get_or (put_bytes o b x) k 0 ≡ get_or x k 0
unfolding put_bytes
put_bytes_past o k b x h l =
    let f = length-take-le o x (omega arith) in
    let e : o + length b + (k - o - length b) ≡ k = omega arith in
    get_or-append_right (take o x) (b ++ drop (o + length b) x) o k 0 f (omega arith)
    ∙ get_or-append_right b (drop (o + length b) x) (length b) (k - o) 0 refl (omega arith)
    ∙ get_or-drop (o + length b) x (k - o - length b) 0
    ∙ ap (λ (n : ℕ). get_or x n 0) e

pub num_put_bytes : (o n p : ℕ) (b x : List ℕ) → o + length b ≤ length x → Apart o (length b) p n → num n p (put_bytes o b x) ≡ num n p x
num_put_bytes o n p b x h a =
    num_ext n p p (put_bytes o b x) x
    (λ k l.
    ⊎_elim
    (λ (q : o + length b ≤ p). put_bytes_past o (p + k) b x h (omega arith))
    (λ (q : p + n ≤ o). put_bytes_before o (p + k) b x h (omega arith))
    a)

-- THE SUPERBLOCK WITH A MEMBER'S COUNT AND ENTRIES
module _ (x s : List ℕ) (ls : length s ≡ block_bytes) where
  few_entries : length (member_entries x) ≤ entries_bytes
  few_entries = let e = length-take entries_bytes (drop at_entries x) in omega arith

  fits : at_free + length (member_entries x) ≤ length s
  fits = let e = few_entries in omega arith

  pub length_loaded : length (loaded x s) ≡ length s
  length_loaded = put_length 2 at_nfree (member_count x) (put_bytes at_free (member_entries x) s) ∙ length_put_bytes at_free (member_entries x) s fits

  pub loaded_count : nfree_of (loaded x s) ≡ member_count x
  loaded_count =
      let l = length_put_bytes at_free (member_entries x) s fits in
      num_put 2 at_nfree (member_count x) (put_bytes at_free (member_entries x) s) (omega arith) (omega arith)

  pub loaded_apart : (n p : ℕ) → Apart at_nfree (2 + entries_bytes) p n → num n p (loaded x s) ≡ num n p s
  loaded_apart n p h =
      let e = few_entries in
      num_apart 2 at_nfree n p _ (put_bytes at_free (member_entries x) s) (⊎_elim (λ (l : at_nfree + (2 + entries_bytes) ≤ p). inl (omega arith)) (λ (l : p + n ≤ at_nfree). inr (omega arith)) h)
      ∙ num_put_bytes at_free n p (member_entries x) s fits (⊎_elim (λ (l : at_nfree + (2 + entries_bytes) ≤ p). inl (omega arith)) (λ (l : p + n ≤ at_nfree). inr (omega arith)) h)

  -- of a whole member
  module _ (lx : length x ≡ block_bytes) where
    loaded_entries : nums 4 list_room at_free (loaded x s) ≡ nums 4 list_room at_entries x
    loaded_entries =
        let e : length (member_entries x) ≡ entries_bytes = length-take entries_bytes (drop at_entries x) ∙ ap (min entries_bytes) (length-drop at_entries x) ∙ omega arith in
        nums_apart 2 at_nfree 4 list_room at_free _ (put_bytes at_free (member_entries x) s) (inl (omega arith))
        ∙ nums_ext 4 list_room at_free at_entries (put_bytes at_free (member_entries x) s) x
        (λ k l.
        put_bytes_here at_free k (member_entries x) s fits (omega arith)
        ∙ get_or-take entries_bytes (drop at_entries x) k 0 l
        ∙ get_or-drop at_entries x k 0)

    loaded_page : free_list_of (lowered (loaded x s)) ≡ record { page = member_page x; total = tfree_of s - 1 }
    loaded_page =
        let c = num_apart 4 at_tfree 2 at_nfree (tfree_of (loaded x s) - 1) (loaded x s) (apart at_tfree 4 at_nfree 2 refl) ∙ loaded_count in
        let e = nums_apart 4 at_tfree 4 list_room at_free (tfree_of (loaded x s) - 1) (loaded x s) (inr (omega arith)) ∙ loaded_entries in
        let l = length_loaded in
        let t = num_put 4 at_tfree (tfree_of (loaded x s) - 1) (loaded x s) (omega arith) (omega arith) ∙ ap (λ (n : ℕ). n - 1) (loaded_apart 4 at_tfree (apart at_nfree (2 + entries_bytes) at_tfree 4 refl)) in
        cc

-- the superblock with one entry fewer
counted_page : (k : ℕ) (s : List ℕ) → length s ≡ block_bytes
    → free_list_of (lowered (put_num 2 at_nfree k s)) ≡ record { page = record { count = k; entries = nums 4 list_room at_free s }; total = tfree_of s - 1 }
counted_page k s h =
    let u = put_num 2 at_nfree k s in
    let l = put_length 2 at_nfree k s in
    let c = num_apart 4 at_tfree 2 at_nfree (tfree_of (put_num 2 at_nfree k s) - 1) (put_num 2 at_nfree k s) (apart at_tfree 4 at_nfree 2 refl) ∙ num_put 2 at_nfree k s (omega arith) (omega arith) in
    let e = nums_apart 4 at_tfree 4 list_room at_free (tfree_of (put_num 2 at_nfree k s) - 1) (put_num 2 at_nfree k s) (inr (omega arith)) ∙ nums_apart 2 at_nfree 4 list_room at_free k s (inl (omega arith)) in
    let t = num_put 4 at_tfree (tfree_of (put_num 2 at_nfree k s) - 1) (put_num 2 at_nfree k s) (omega arith) (omega arith) ∙ ap (λ (n : ℕ). n - 1) (num_apart 2 at_nfree 4 at_tfree k s (apart at_nfree 2 at_tfree 4 refl)) in
    cc

-- THE TAKE
either : (c : Bool) (x y : Taken) (x' y' : Taking) → (c ≡ true → in_pages x ≡ x') → (c ≡ false → in_pages y ≡ y') → in_pages (cond c x y) ≡ cond c x' y'
either true x y x' y' h k = h refl
either false x y x' y' h k = k refl

pub data_below : (lo hi b : ℕ) → is_data lo hi b ≡ true → (lo ≤ b) × (b < hi)
data_below lo hi b h = let p = both (leb lo b) (ltb b hi) h in (leb-true lo b p.0, ltb-true b hi p.1)
  where
    both : (x y : Bool) → cond x y false ≡ true → (x ≡ true) × (y ≡ true)
    both true y h = (refl, h)
    both false y h = absurd (false≢true h)

pub below_data : (lo hi b : ℕ) → lo ≤ b → b < hi → is_data lo hi b ≡ true
below_data lo hi b h k = rw (le-leb lo b h, lt-ltb b hi k)

module _ (lo hi : ℕ) (S : Sectors) (sized : Sized S) (there : hi ≤ length S) (m : ℕ) (s : List ℕ) (ls : length s ≡ block_bytes) where
  first : in_pages (take_first_bytes lo hi S m s) ≡ take_first chain lo hi (free_of 0 s) S (tfree_of s) m
  first =
      let a = free_of 0 s in
      either (eqb (free_of 0 s) 0) _ _ _ _ (λ z. refl)
      (λ z.
      either (is_data lo hi (free_of 0 s)) _ _ _ _
      (λ d.
      either (ltb list_room (member_count (get_or S (free_of 0 s) []))) _ _ _ _
      (λ q. refl)
      (λ q.
      let lx = sized (free_of 0 s) (omega (arith, data_below lo hi (free_of 0 s) d)) in
      ap (λ (f : Free). taking (free_of 0 s) f (m + 1)) (loaded_page (get_or S (free_of 0 s) []) s ls lx)))
      (λ d. refl))

  entry : (n : ℕ) → n ≤ list_room → in_pages (take_entry_bytes lo hi n S m s) ≡ take_entry chain lo hi n (nums 4 list_room at_free s) S (tfree_of s) m
  entry zero h = refl
  entry (suc zero) h = first ∙ ap (λ (a : ℕ). take_first chain lo hi a S (tfree_of s) m) (sym (getD_nums 4 list_room at_free 0 s (omega arith)))
  entry (suc (suc k)) h =
      let e : get_or (nums 4 list_room at_free s) (suc k) 0 ≡ free_of (suc k) s = getD_nums 4 list_room at_free (suc k) s (omega arith) in
      rw e
      (either (is_data lo hi (free_of (suc k) s)) _ _ _ _
      (λ d. ap (λ (f : Free). taking (free_of (suc k) s) f m) (counted_page (suc k) s ls))
      (λ d. refl))

  pub take_is_taken : in_pages (take_bytes lo hi S m s) ≡ taken chain lo hi S m (free_list_of s)
  unfolding take_bytes
  take_is_taken =
      either (ltb list_room (nfree_of s)) _ _ _ _ (λ q. refl)
      (λ q. entry (nfree_of s) (ltb-false list_room (nfree_of s) q))

-- A TAKE KEEPS ALL ELSE
-- what a take leaves but for the list
abbrev pub Keeps : List ℕ → Taken → Type 0
Keeps s (took b r m) = SameElsewhere s r
Keeps s (refused f) = Unit {0}

lowered_same : (s r : List ℕ) → SameElsewhere s r → SameElsewhere s (lowered r)
lowered_same s r h =
    record {
      long = put_length 4 at_tfree (tfree_of r - 1) r ∙ h.long;
      same = λ k e. byte_apart 4 at_tfree (tfree_of r - 1) k r e.1 ∙ h.same k e;
    }

counted_same : (k : ℕ) (s : List ℕ) → SameElsewhere s (put_num 2 at_nfree k s)
counted_same k s =
    record {
      long = put_length 2 at_nfree k s;
      same = λ j e. byte_apart 2 at_nfree k j s (⊎_elim (λ (l : at_nfree + (2 + entries_bytes) ≤ j). inl (omega arith)) (λ (l : j + 1 ≤ at_nfree). inr (omega arith)) e.0);
    }

loaded_same : (x s : List ℕ) → length s ≡ block_bytes → SameElsewhere s (loaded x s)
unfolding num
loaded_same x s ls = record { long = length_loaded x s ls; same = λ k e. loaded_apart x s ls 1 k e.0 }

module _ (lo hi : ℕ) (S : Sectors) (m : ℕ) (s : List ℕ) (ls : length s ≡ block_bytes) where
  entry_keeps : (n : ℕ) → Keeps s (take_entry_bytes lo hi n S m s)
  entry_keeps zero = tt
  entry_keeps (suc zero) =
      cond_both (eqb (free_of 0 s) 0) _ _ (Keeps s) (λ z. tt)
      (λ z.
      cond_both (is_data lo hi (free_of 0 s)) _ _ (Keeps s)
      (λ d.
      cond_both (ltb list_room (member_count (get_or S (free_of 0 s) []))) _ _ (Keeps s) (λ q. tt)
      (λ q. lowered_same s (loaded (get_or S (free_of 0 s) []) s) (loaded_same (get_or S (free_of 0 s) []) s ls)))
      (λ d. tt))
  entry_keeps (suc (suc k)) =
      cond_both (is_data lo hi (free_of (suc k) s)) _ _ (Keeps s) (λ d. lowered_same s (put_num 2 at_nfree (suc k) s) (counted_same (suc k) s)) (λ d. tt)

  pub take_keeps : Keeps s (take_bytes lo hi S m s)
  unfolding take_bytes
  take_keeps = cond_both (ltb list_room (nfree_of s)) _ _ (Keeps s) (λ q. tt) (λ q. entry_keeps (nfree_of s))

  pub took_keeps : (b : ℕ) (r : List ℕ) (m' : ℕ) → take_bytes lo hi S m s ≡ took b r m' → SameElsewhere s r
  took_keeps b r m' e = subst (Keeps s) e take_keeps

-- WHAT A BLOCK TAKEN COMES WITH
-- it is a data block, the count left is lawful, and at most one member was passed
abbrev Lawful : ℕ → ℕ → ℕ → Taken → Type 0
Lawful lo hi m (took b r j) = (is_data lo hi b ≡ true) × (nfree_of r ≤ list_room) × (j ≤ m + 1)
Lawful lo hi m (refused f) = Unit {0}

lowered_count : (s : List ℕ) → nfree_of (lowered s) ≡ nfree_of s
lowered_count s = num_apart 4 at_tfree 2 at_nfree (tfree_of s - 1) s (apart at_tfree 4 at_nfree 2 refl)

module _ (lo hi : ℕ) (S : Sectors) (m : ℕ) (s : List ℕ) (ls : length s ≡ block_bytes) where
  entry_lawful : (n : ℕ) → n ≤ list_room → Lawful lo hi m (take_entry_bytes lo hi n S m s)
  entry_lawful zero h = tt
  entry_lawful (suc zero) h =
      cond_both (eqb (free_of 0 s) 0) _ _ (Lawful lo hi m) (λ z. tt)
      (λ z.
      cond_both (is_data lo hi (free_of 0 s)) _ _ (Lawful lo hi m)
      (λ d.
      cond_both (ltb list_room (member_count (get_or S (free_of 0 s) []))) _ _ (Lawful lo hi m) (λ q. tt)
      (λ q. (
        d,
        rw (lowered_count (loaded (get_or S (free_of 0 s) []) s), loaded_count (get_or S (free_of 0 s) []) s ls) (ltb-false list_room (member_count (get_or S (free_of 0 s) [])) q),
        omega arith,
      )))
      (λ d. tt))
  entry_lawful (suc (suc k)) h =
      cond_both (is_data lo hi (free_of (suc k) s)) _ _ (Lawful lo hi m)
      (λ d. (d, rw (lowered_count (put_num 2 at_nfree (suc k) s), num_put 2 at_nfree (suc k) s (omega arith) (omega arith)) (omega arith), omega arith)) (λ d. tt)

  take_lawful : Lawful lo hi m (take_bytes lo hi S m s)
  unfolding take_bytes
  take_lawful = cond_both (ltb list_room (nfree_of s)) _ _ (Lawful lo hi m) (λ q. tt) (λ q. entry_lawful (nfree_of s) (ltb-false list_room (nfree_of s) q))

  pub took_lawful : (b : ℕ) (r : List ℕ) (j : ℕ) → take_bytes lo hi S m s ≡ took b r j → (is_data lo hi b ≡ true) × (nfree_of r ≤ list_room) × (j ≤ m + 1)
  took_lawful b r j e = subst (Lawful lo hi m) e take_lawful
