-- A give in the bytes of the superblock is a give over pages.
use Rattle.std.proofs.Common.{◌≡◌, ℕ, zero, suc, ◌+◌, ◌-◌, ◌<◌, ◌≤◌, min, true, false, cond, eqb, ◌≢◌, List, [], ◌∷◌, ◌++◌, length, get_or, drop, set, sym, refl, ap, ◌∙◌, inl, inr, ⊎_elim, arith, length-append, length-drop, length-take, eq-eqb, ne_eqb}
use Rattle.std.proofs.lemmas.List.{length-replicate}
use Rattle.std.proofs.lemmas.Bool.{cases_eq, cases_Bool}
use Rattle.std.proofs.lemmas.List.{get_or_append_left, get_or-append-add, get_or-take, get_or-drop}
use Rattle.numbers.specs.Numbers.{num, put_num, nums}
use Rattle.numbers.specs.Laws.{Apart}
use Rattle.numbers.proofs.Numbers.{put_length, num_put, num_apart, num_append_left, nums_apart, nums_put, nums_ext, apart}
use Rattle.format.specs.Layout.{block_bytes, list_room}
use Rattle.format.specs.Superblock.{at_nfree, at_free, at_tfree, nfree_of, free_at, tfree_of}
use Rattle.freelist.specs.Stack.{given, given_page, opened, most_total}
use Rattle.freelist.specs.Bytes.{zeros, member_page, member_bytes, member_count, at_entries, entries_bytes, superblock_entries, free_list_of, grounded, give_index, with_entry, give_bytes, give_writes}

-- where the block goes
pub index_none : (n : ℕ) → n ≡ 0 → give_index n ≡ 1
index_none n h = rw (eq-eqb n 0 h)

pub index_full : (n : ℕ) → n ≡ list_room → give_index n ≡ 0
index_full n h = rw h

pub index_room : (n : ℕ) → n ≢ 0 → n ≢ list_room → give_index n ≡ n
index_room n h k = rw (ne_eqb n 0 h, ne_eqb n list_room k)

pub index_low : (n : ℕ) → n ≤ list_room → give_index n < list_room
index_low n h =
    ⊎_elim (λ (x : n ≡ 0). rw (index_none n x) (omega arith))
    (λ (x : n ≡ 0 → ⊥). ⊎_elim (λ (y : n ≡ list_room). rw (index_full n y) (omega arith)) (λ (y : n ≡ list_room → ⊥). rw (index_room n x y) (omega arith)) (cases_eq n list_room))
    (cases_eq n 0)

pub grounded_none : (s : List ℕ) → nfree_of s ≡ 0 → grounded s ≡ put_num 4 (free_at 0) 0 s
grounded_none s h = rw (eq-eqb (nfree_of s) 0 h)

pub grounded_some : (s : List ℕ) → nfree_of s ≢ 0 → grounded s ≡ s
grounded_some s h = rw (ne_eqb (nfree_of s) 0 h)

-- lengths stay
pub length_grounded : (s : List ℕ) → length (grounded s) ≡ length s
length_grounded s =
    ⊎_elim (λ (x : nfree_of s ≡ 0). rw (grounded_none s x) (put_length 4 (free_at 0) 0 s)) (λ (x : nfree_of s ≡ 0 → ⊥). rw (grounded_some s x)) (cases_eq (nfree_of s) 0)

pub length_give : (b : ℕ) (s : List ℕ) → length (give_bytes b s) ≡ length s
unfolding give_bytes
length_give b s = simp put_length (length_grounded s)

-- a number that lies apart from the list's part of the superblock
pub grounded_apart : (s : List ℕ) (n p : ℕ) → Apart at_nfree (2 + entries_bytes) p n → num n p (grounded s) ≡ num n p s
grounded_apart s n p h =
    ⊎_elim
    (λ (x : nfree_of s ≡ 0). rw (grounded_none s x) (num_apart 4 (free_at 0) n p 0 s (⊎_elim (λ (l : at_nfree + (2 + entries_bytes) ≤ p). inl (omega arith)) (λ (l : p + n ≤ at_nfree). inr (omega arith)) h)))
    (λ (x : nfree_of s ≡ 0 → ⊥). rw (grounded_some s x))
    (cases_eq (nfree_of s) 0)

pub entry_apart : (b k : ℕ) (s : List ℕ) (n p : ℕ) → k < list_room → Apart at_nfree (2 + entries_bytes) p n → num n p (with_entry b k s) ≡ num n p s
entry_apart b k s n p low h =
    num_apart 2 at_nfree n p (k + 1) (put_num 4 (free_at k) b s) (⊎_elim (λ (l : at_nfree + (2 + entries_bytes) ≤ p). inl (omega arith)) (λ (l : p + n ≤ at_nfree). inr (omega arith)) h)
    ∙ num_apart 4 (free_at k) n p b s (⊎_elim (λ (l : at_nfree + (2 + entries_bytes) ≤ p). inl (omega arith)) (λ (l : p + n ≤ at_nfree). inr (omega arith)) h)

pub give_apart : (b : ℕ) (s : List ℕ) (n p : ℕ) → nfree_of s ≤ list_room → Apart at_nfree (2 + entries_bytes) p n → Apart at_tfree 4 p n → num n p (give_bytes b s) ≡ num n p s
unfolding give_bytes
give_apart b s n p fits h k =
    num_apart 4 at_tfree n p _ (with_entry b (give_index (nfree_of s)) (grounded s)) k
    ∙ entry_apart b (give_index (nfree_of s)) (grounded s) n p (index_low (nfree_of s) fits) h
    ∙ grounded_apart s n p h

-- the count, the entries and the total after a give
pub give_count : (b : ℕ) (s : List ℕ) → length s ≡ block_bytes → nfree_of (give_bytes b s) ≡ give_index (nfree_of s) + 1
unfolding give_bytes
give_count b s h =
    let u = put_num 4 (free_at (give_index (nfree_of s))) b (grounded s) in
    let l : length (put_num 4 (free_at (give_index (nfree_of s))) b (grounded s)) ≡ block_bytes = put_length 4 (free_at (give_index (nfree_of s))) b (grounded s) ∙ length_grounded s ∙ h in
    num_apart 4 at_tfree 2 at_nfree _ (with_entry b (give_index (nfree_of s)) (grounded s)) (apart at_tfree 4 at_nfree 2 refl)
    ∙ num_put 2 at_nfree (give_index (nfree_of s) + 1) u (omega arith) (omega arith)

pub give_fits : (b : ℕ) (s : List ℕ) → length s ≡ block_bytes → nfree_of s ≤ list_room → nfree_of (give_bytes b s) ≤ list_room
give_fits b s h fits = let i = index_low (nfree_of s) fits in rw (give_count b s h) (omega arith)

-- an empty list's entry 0 becomes 0
abbrev pub grounded_entries : ℕ → List ℕ → List ℕ
grounded_entries n e = cond (eqb n 0) (set e 0 0) e

entries_grounded : (s : List ℕ) → length s ≡ block_bytes → nums 4 list_room at_free (grounded s) ≡ grounded_entries (nfree_of s) (nums 4 list_room at_free s)
entries_grounded s h =
    ⊎_elim
    (λ (x : eqb (nfree_of s) 0 ≡ true). rw x (nums_put 4 list_room at_free 0 0 s (omega arith) (omega arith) (omega arith)))
    (λ (x : eqb (nfree_of s) 0 ≡ false). rw x)
    (cases_Bool (eqb (nfree_of s) 0))

pub give_entries : (b : ℕ) (s : List ℕ) → length s ≡ block_bytes → nfree_of s ≤ list_room
    → nums 4 list_room at_free (give_bytes b s) ≡ set (grounded_entries (nfree_of s) (nums 4 list_room at_free s)) (give_index (nfree_of s)) b
unfolding give_bytes
give_entries b s h fits =
    let k = give_index (nfree_of s) in
    let low : give_index (nfree_of s) < list_room = index_low (nfree_of s) fits in
    let l : length (grounded s) ≡ block_bytes = length_grounded s ∙ h in
    nums_apart 4 at_tfree 4 list_room at_free _ (with_entry b (give_index (nfree_of s)) (grounded s)) (inr (omega arith))
    ∙ nums_apart 2 at_nfree 4 list_room at_free _ (put_num 4 (free_at (give_index (nfree_of s))) b (grounded s)) (inl (omega arith))
    ∙ nums_put 4 list_room at_free (give_index (nfree_of s)) b (grounded s) (omega arith) low (omega arith)
    ∙ ap (λ (e : List ℕ). set e (give_index (nfree_of s)) b) (entries_grounded s h)

pub give_total : (b : ℕ) (s : List ℕ) → length s ≡ block_bytes → nfree_of s ≤ list_room → tfree_of (give_bytes b s) ≡ min (tfree_of s + 1) most_total
unfolding give_bytes
give_total b s h fits =
    let u = with_entry b (give_index (nfree_of s)) (grounded s) in
    let l : length (with_entry b (give_index (nfree_of s)) (grounded s)) ≡ block_bytes = put_length 2 at_nfree (give_index (nfree_of s) + 1) (put_num 4 (free_at (give_index (nfree_of s))) b (grounded s)) ∙ put_length 4 (free_at (give_index (nfree_of s))) b (grounded s) ∙ length_grounded s ∙ h in
    let e : tfree_of (with_entry b (give_index (nfree_of s)) (grounded s)) ≡ tfree_of s =
    entry_apart b (give_index (nfree_of s)) (grounded s) 4 at_tfree (index_low (nfree_of s) fits) (apart at_nfree (2 + entries_bytes) at_tfree 4 refl)
    ∙ grounded_apart s 4 at_tfree (apart at_nfree (2 + entries_bytes) at_tfree 4 refl) in
    num_put 4 at_tfree (min (tfree_of u + 1) most_total) u (omega arith) (omega arith) ∙ ap (λ (n : ℕ). min (n + 1) most_total) e

-- a give over pages, by the same index
page_given : (n b : ℕ) (e : List ℕ) → given_page list_room b (opened n e) ≡ record { count = give_index n + 1; entries = set (grounded_entries n e) (give_index n) b }
page_given zero b e = refl
page_given (suc n) b e =
    let z : eqb (suc n) 0 ≡ false = ne_eqb (suc n) 0 (omega arith) in
    ⊎_elim
    (λ (x : eqb (suc n) list_room ≡ true). rw (x, z))
    (λ (x : eqb (suc n) list_room ≡ false). rw (x, z))
    (cases_Bool (eqb (suc n) list_room))

pub give_is_given : (b : ℕ) (s : List ℕ) → length s ≡ block_bytes → nfree_of s ≤ list_room → free_list_of (give_bytes b s) ≡ given list_room b (free_list_of s)
give_is_given b s h fits =
    let c = give_count b s h in
    let e = give_entries b s h fits in
    let t = give_total b s h fits in
    let p = page_given (nfree_of s) b (nums 4 list_room at_free s) in
    cc

-- THE MEMBER THAT A FULL LIST LEAVES
pub length_zeros : (n : ℕ) → length (zeros n) ≡ n
unfolding zeros
length_zeros n = length-replicate {A = ℕ} n 0

pub length_entries : (s : List ℕ) → length s ≡ block_bytes → length (superblock_entries s) ≡ entries_bytes
length_entries s h = length-take entries_bytes (drop at_free s) ∙ ap (min entries_bytes) (length-drop at_free s) ∙ omega arith

pub length_member : (s : List ℕ) → length s ≡ block_bytes → length (member_bytes s) ≡ block_bytes
unfolding member_bytes
length_member s h =
    let a = length_entries s h in
    let b = put_length 4 0 list_room (zeros at_entries) ∙ length_zeros at_entries in
    let c = length_zeros (block_bytes - (at_entries + entries_bytes)) in
    simp length-append (omega arith)

member_counts : (s : List ℕ) → member_count (member_bytes s) ≡ list_room
unfolding member_bytes
member_counts s =
    let b = put_length 4 0 list_room (zeros at_entries) ∙ length_zeros at_entries in
    let z = length_zeros at_entries in
    num_append_left 4 0 (put_num 4 0 list_room (zeros at_entries)) _ (omega arith)
    ∙ num_put 4 0 list_room (zeros at_entries) (omega arith) (omega arith)

member_byte : (s : List ℕ) (k : ℕ) → length s ≡ block_bytes → k < entries_bytes → get_or (member_bytes s) (at_entries + k) 0 ≡ get_or s (at_free + k) 0
unfolding member_bytes
member_byte s k h l =
    let c = put_num 4 0 list_room (zeros at_entries) in
    let b : length (put_num 4 0 list_room (zeros at_entries)) ≡ at_entries = put_length 4 0 list_room (zeros at_entries) ∙ length_zeros at_entries in
    let r = superblock_entries s ++ zeros (block_bytes - (at_entries + entries_bytes)) in
    let e = length_entries s h in
    ap (λ (n : ℕ). get_or (c ++ r) (n + k) 0) (sym b)
    ∙ get_or-append-add c r k 0
    ∙ get_or_append_left (superblock_entries s) (zeros (block_bytes - (at_entries + entries_bytes))) 0 k (omega arith)
    ∙ get_or-take entries_bytes (drop at_free s) k 0 l
    ∙ get_or-drop at_free s k 0

-- a full superblock's entries are the member's
pub member_is_page : (s : List ℕ) → length s ≡ block_bytes → nfree_of s ≡ list_room → member_page (member_bytes s) ≡ (free_list_of s).page
member_is_page s h full =
    let c = member_counts s ∙ sym full in
    let e = nums_ext 4 list_room at_entries at_free (member_bytes s) s (λ k l. member_byte s k h l) in
    cc

-- the writes of a give
pub writes_full : (b : ℕ) (s : List ℕ) → nfree_of s ≡ list_room → give_writes b s ≡ (b, member_bytes s) ∷ []
unfolding give_writes
writes_full b s h = rw (eq-eqb (nfree_of s) list_room h)

pub writes_none : (b : ℕ) (s : List ℕ) → nfree_of s ≢ list_room → give_writes b s ≡ []
unfolding give_writes
writes_none b s h = rw (ne_eqb (nfree_of s) list_room h)
