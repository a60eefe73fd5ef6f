-- The lock byte stands apart from the list: taking and giving under the lock is taking and giving.
use Rattle.std.proofs.Common.{◌≡◌, ℕ, zero, suc, ◌+◌, ◌-◌, ◌<◌, ◌≤◌, min, Bool, true, false, cond, eqb, ltb, List, [], ◌++◌, length, get_or, take, drop, set, Ok, Err, Result, sym, refl, ap, ◌∙◌, inl, inr, ⊎_elim, arith, length-set, length-take, set-set}
use Rattle.std.proofs.lemmas.List.{set-get_or, take-set-le, drop-set-add}
use Rattle.std.proofs.lemmas.Bool.{cases_eq, cases_Bool, ltb-false}
use Rattle.std.proofs.lemmas.List.{set-append_right}
use Rattle.fault.specs.declared.fault.ListFault.{ListFault}
use Rattle.disk.specs.Medium.{Sectors, Medium, ran}
use Rattle.numbers.specs.Numbers.{put_num}
use Rattle.numbers.proofs.Numbers.{num_set, put_set, apart}
use Rattle.format.specs.Layout.{block_bytes, list_room}
use Rattle.format.specs.Superblock.{at_nfree, at_free, at_tfree, at_flock, nfree_of, free_at, free_of, tfree_of, flock_of}
use Rattle.freelist.specs.Stack.{is_data, most_total}
use Rattle.freelist.specs.Bytes.{Taken, took, refused, member_bytes, member_count, member_entries, superblock_entries, at_entries, entries_bytes, put_bytes, grounded, give_index, with_entry, raised, give_bytes, give_writes, lowered, loaded, load_bytes, take_entry_bytes, take_bytes}
use Rattle.freelist.proofs.Gives.{index_low, grounded_none, grounded_some}
use Rattle.freelist.specs.Answers.{take_answer, block_answer, take_left, take_member}
use Rattle.freelist.proofs.Takings.{Keeps, take_keeps}
use Rattle.freelist.proofs.Stands.{give_same}

module _ (s : List ℕ) (v : ℕ) where
  -- the fields of the list
  pub lock_count : nfree_of (set s at_flock v) ≡ nfree_of s
  lock_count = num_set 2 at_nfree at_flock v s (apart at_flock 1 at_nfree 2 refl)

  pub lock_total : tfree_of (set s at_flock v) ≡ tfree_of s
  lock_total = num_set 4 at_tfree at_flock v s (apart at_flock 1 at_tfree 4 refl)

  pub lock_entry : (k : ℕ) → k < list_room → free_of k (set s at_flock v) ≡ free_of k s
  lock_entry k l = num_set 4 (free_at k) at_flock v s (inr (omega arith))

  lock_entries : superblock_entries (set s at_flock v) ≡ superblock_entries s
  lock_entries =
      ap (λ (y : List ℕ). take entries_bytes y) (drop-set-add at_free s (at_flock - at_free) v)
      ∙ take-set-le entries_bytes (drop at_free s) (at_flock - at_free) v (omega arith)

  lock_grounded : grounded (set s at_flock v) ≡ set (grounded s) at_flock v
  lock_grounded =
      ⊎_elim
      (λ (x : nfree_of s ≡ 0).
      grounded_none (set s at_flock v) (lock_count ∙ x)
      ∙ put_set 4 (free_at 0) 0 at_flock v s (apart (free_at 0) 4 at_flock 1 refl)
      ∙ ap (λ (y : List ℕ). set y at_flock v) (sym (grounded_none s x)))
      (λ (x : nfree_of s ≡ 0 → ⊥).
      grounded_some (set s at_flock v) (λ (y : nfree_of (set s at_flock v) ≡ 0). x (sym lock_count ∙ y))
      ∙ ap (λ (y : List ℕ). set y at_flock v) (sym (grounded_some s x)))
      (cases_eq (nfree_of s) 0)

  lock_raised : raised (set s at_flock v) ≡ set (raised s) at_flock v
  lock_raised =
      ap (λ (n : ℕ). put_num 4 at_tfree (min (n + 1) most_total) (set s at_flock v)) lock_total
      ∙ put_set 4 at_tfree (min (tfree_of s + 1) most_total) at_flock v s (apart at_tfree 4 at_flock 1 refl)

  lock_lowered : lowered (set s at_flock v) ≡ set (lowered s) at_flock v
  lock_lowered =
      ap (λ (n : ℕ). put_num 4 at_tfree (n - 1) (set s at_flock v)) lock_total
      ∙ put_set 4 at_tfree (tfree_of s - 1) at_flock v s (apart at_tfree 4 at_flock 1 refl)

  lock_counted : (k : ℕ) → put_num 2 at_nfree k (set s at_flock v) ≡ set (put_num 2 at_nfree k s) at_flock v
  lock_counted k = put_set 2 at_nfree k at_flock v s (apart at_nfree 2 at_flock 1 refl)

  -- what a give writes does not hang on the lock
  pub lock_writes : (b : ℕ) → give_writes b (set s at_flock v) ≡ give_writes b s
  unfolding give_writes member_bytes
  lock_writes b = rw (lock_count, lock_entries)

lock_with_entry : (b k : ℕ) (s : List ℕ) (v : ℕ) → k < list_room → with_entry b k (set s at_flock v) ≡ set (with_entry b k s) at_flock v
lock_with_entry b k s v l =
    ap (λ (y : List ℕ). put_num 2 at_nfree (k + 1) y) (put_set 4 (free_at k) b at_flock v s (inl (omega arith)))
    ∙ lock_counted (put_num 4 (free_at k) b s) v (k + 1)

pub lock_give : (b : ℕ) (s : List ℕ) (v : ℕ) → nfree_of s ≤ list_room → give_bytes b (set s at_flock v) ≡ set (give_bytes b s) at_flock v
unfolding give_bytes
lock_give b s v fits =
    let k = give_index (nfree_of s) in
    ap (λ (n : ℕ). raised (with_entry b (give_index n) (grounded (set s at_flock v)))) (lock_count s v)
    ∙ ap (λ (y : List ℕ). raised (with_entry b (give_index (nfree_of s)) y)) (lock_grounded s v)
    ∙ ap (λ (y : List ℕ). raised y) (lock_with_entry b (give_index (nfree_of s)) (grounded s) v (index_low (nfree_of s) fits))
    ∙ lock_raised (with_entry b (give_index (nfree_of s)) (grounded s)) v

-- the lock byte as it was
elsewhere_lock : (s r : List ℕ) (v : ℕ) → flock_of r ≡ flock_of s → set (set r at_flock v) at_flock (flock_of s) ≡ r
elsewhere_lock s r v h = set-set r at_flock v (flock_of s) ∙ ap (λ (n : ℕ). set r at_flock n) (sym h) ∙ set-get_or r at_flock 0

pub give_unlocked : (b : ℕ) (s : List ℕ) (v : ℕ) → nfree_of s ≤ list_room → set (give_bytes b (set s at_flock v)) at_flock (flock_of s) ≡ give_bytes b s
give_unlocked b s v fits =
    ap (λ (y : List ℕ). set y at_flock (flock_of s)) (lock_give b s v fits)
    ∙ elsewhere_lock s (give_bytes b s) v ((give_same b s fits).same at_flock (inl (omega arith), inr (omega arith)))

-- TAKE
put_bytes_set : (o k v : ℕ) (b x : List ℕ) → o ≤ length x → o + length b ≤ k → put_bytes o b (set x k v) ≡ set (put_bytes o b x) k v
unfolding put_bytes
put_bytes_set o k v b x h l =
    let n = o + length b in
    let i = k - (o + length b) in
    let e : o + length b + (k - (o + length b)) ≡ k = omega arith in
    let d : drop (o + length b) (set x k v) ≡ set (drop (o + length b) x) (k - o - length b) v =
    ap (λ (j : ℕ). drop (o + length b) (set x j v)) (sym e)
    ∙ drop-set-add (o + length b) x (k - (o + length b)) v
    ∙ ap (λ (j : ℕ). set (drop (o + length b) x) j v) (omega arith) in
    ap (λ (y : List ℕ). y ++ (b ++ drop (o + length b) (set x k v))) (take-set-le o x k v (omega arith))
    ∙ ap (λ (y : List ℕ). take o x ++ (b ++ y)) d
    ∙ sym
    (set-append_right (take o x) (b ++ drop (o + length b) x) o k v (length-take o x ∙ omega arith) (omega arith)
    ∙ ap (λ (y : List ℕ). take o x ++ y) (set-append_right b (drop (o + length b) x) (length b) (k - o) v refl (omega arith)))

lock_loaded : (x s : List ℕ) (v : ℕ) → length s ≡ block_bytes → loaded x (set s at_flock v) ≡ set (loaded x s) at_flock v
lock_loaded x s v ls =
    let e = length-take entries_bytes (drop at_entries x) in
    ap (λ (y : List ℕ). put_num 2 at_nfree (member_count x) y) (put_bytes_set at_free at_flock v (member_entries x) s (omega arith) (omega arith))
    ∙ lock_counted (put_bytes at_free (member_entries x) s) v (member_count x)

-- the same take, of a superblock with another lock byte
abbrev relocked : ℕ → Taken → Taken
relocked v (took b r m) = took b (set r at_flock v) m
relocked v (refused f) = refused f

either : (v : ℕ) (c : Bool) (x y x' y' : Taken) → x ≡ relocked v x' → y ≡ relocked v y' → cond c x y ≡ relocked v (cond c x' y')
either v true x y x' y' h k = h
either v false x y x' y' h k = k

module _ (lo hi : ℕ) (S : Sectors) (m : ℕ) (s : List ℕ) (ls : length s ≡ block_bytes) (v : ℕ) where
  lock_load : (x : List ℕ) (b : ℕ) → load_bytes x b m (set s at_flock v) ≡ relocked v (load_bytes x b m s)
  lock_load x b =
      either v (ltb list_room (member_count x)) _ _ _ _ refl
      (ap (λ (y : List ℕ). took b y (m + 1)) (ap (λ (y : List ℕ). lowered y) (lock_loaded x s v ls) ∙ lock_lowered (loaded x s) v))

  lock_taken : (n : ℕ) → n ≤ list_room → take_entry_bytes lo hi n S m (set s at_flock v) ≡ relocked v (take_entry_bytes lo hi n S m s)
  lock_taken zero h = refl
  lock_taken (suc zero) h =
      rw (lock_entry s v 0 (omega arith))
      (either v (eqb (free_of 0 s) 0) _ _ _ _ refl
      (either v (is_data lo hi (free_of 0 s)) _ _ _ _ (lock_load (get_or S (free_of 0 s) []) (free_of 0 s)) refl))
  lock_taken (suc (suc k)) h =
      rw (lock_entry s v (suc k) (omega arith))
      (either v (is_data lo hi (free_of (suc k) s)) _ _ _ _
      (ap (λ (y : List ℕ). took (free_of (suc k) s) y m) (ap (λ (y : List ℕ). lowered y) (lock_counted s v (suc k)) ∙ lock_lowered (put_num 2 at_nfree (suc k) s) v)) refl)

  lock_take : take_bytes lo hi S m (set s at_flock v) ≡ relocked v (take_bytes lo hi S m s)
  unfolding take_bytes
  lock_take =
      rw (lock_count s v)
      (⊎_elim
      (λ (x : ltb list_room (nfree_of s) ≡ true). rw x)
      (λ (x : ltb list_room (nfree_of s) ≡ false). rw x (lock_taken (nfree_of s) (ltb-false list_room (nfree_of s) x)))
      (cases_Bool (ltb list_room (nfree_of s))))

  -- the answers are the same, and with the lock byte as it was so are the bytes
  answers : (t : Taken) → (take_answer (relocked v t) ≡ take_answer t) × (block_answer (relocked v t) ≡ block_answer t) × (take_member m (relocked v t) ≡ take_member m t)
  answers (took b r j) = (refl, refl, refl)
  answers (refused f) = (refl, refl, refl)

  lefts : (t : Taken) → Keeps s t → set (take_left (set s at_flock v) (relocked v t)) at_flock (flock_of s) ≡ take_left s t
  lefts (took b r j) k = elsewhere_lock s r v (k.same at_flock (inl (omega arith), inr (omega arith)))
  lefts (refused f) k = elsewhere_lock s s v refl

  lengths : (t : Taken) → Keeps s t → length (take_left s t) ≡ length s
  lengths (took b r j) k = k.long
  lengths (refused f) k = refl

  pub length_left : length (take_left s (take_bytes lo hi S m s)) ≡ length s
  length_left = lengths (take_bytes lo hi S m s) (take_keeps lo hi S m s ls)

  pub take_unlocked : set (take_left (set s at_flock v) (take_bytes lo hi S m (set s at_flock v))) at_flock (flock_of s) ≡ take_left s (take_bytes lo hi S m s)
  take_unlocked =
      ap (λ (t : Taken). set (take_left (set s at_flock v) t) at_flock (flock_of s)) lock_take
      ∙ lefts (take_bytes lo hi S m s) (take_keeps lo hi S m s ls)

  pub block_unlocked : block_answer (take_bytes lo hi S m (set s at_flock v)) ≡ block_answer (take_bytes lo hi S m s)
  block_unlocked = ap block_answer lock_take ∙ (answers (take_bytes lo hi S m s)).1

  pub member_unlocked : take_member m (take_bytes lo hi S m (set s at_flock v)) ≡ take_member m (take_bytes lo hi S m s)
  member_unlocked = ap (take_member m) lock_take ∙ (answers (take_bytes lo hi S m s)).2

-- the answer in two parts
pub answer_parts : (t : Taken) (m b : ℕ) → block_answer t ≡ Ok b → take_answer t ≡ Ok (record { block = b; member = take_member m t })
answer_parts (took a r j) m b h = let e : a ≡ b = cc in rw e
answer_parts (refused f) m b h = let z : ◌≡◌ {A = ℕ} 0 1 = cc in absurd (omega arith)

pub answer_refused : (t : Taken) (f : ListFault) → block_answer t ≡ Err f → take_answer t ≡ Err f
answer_refused (took a r j) f h = let z : ◌≡◌ {A = ℕ} 0 1 = cc in absurd (omega arith)
answer_refused (refused e) f h = let k : e ≡ f = cc in rw k

-- what the guard leaves: t is the superblock under the lock, u after the work
pub give_restored : (b : ℕ) (s t u r : List ℕ) (o p : ℕ) → nfree_of s ≤ list_room → t ≡ set s at_flock 1 → u ≡ give_bytes b t → o ≡ p → p ≡ flock_of s → r ≡ set u at_flock o → r ≡ give_bytes b s
give_restored b s t u r o p fits e f q h k = k ∙ rw (f, e, q, h) (give_unlocked b s 1 fits)

pub give_wrote : (b : ℕ) (s t : List ℕ) (m end : Medium) → t ≡ set s at_flock 1 → end ≡ ran (give_writes b t) m → end ≡ ran (give_writes b s) m
give_wrote b s t m end e h = h ∙ rw (e, lock_writes s 1 b)

-- the same of a take; j is the member that the guard began in
module _ (lo hi : ℕ) (S : Sectors) (m j : ℕ) (s t : List ℕ) (ls : length s ≡ block_bytes) (e : t ≡ set s at_flock 1) (i : j ≡ m) where
  pub take_restored : (u r : List ℕ) (o p : ℕ) → u ≡ take_left t (take_bytes lo hi S j t) → o ≡ p → p ≡ flock_of s → r ≡ set u at_flock o → r ≡ take_left s (take_bytes lo hi S m s)
  take_restored u r o p f q h k = k ∙ rw (f, e, q, h, i) (take_unlocked lo hi S m s ls 1)

  pub length_restored : (u : List ℕ) → u ≡ take_left t (take_bytes lo hi S j t) → length u ≡ block_bytes
  length_restored u f =
      let lt : length t ≡ block_bytes = ap length e ∙ length-set s at_flock 1 ∙ ls in
      ap length f ∙ length_left lo hi S j t lt 1 ∙ lt

  same_block : block_answer (take_bytes lo hi S j t) ≡ block_answer (take_bytes lo hi S m s)
  same_block = rw (e, i) (block_unlocked lo hi S m s ls 1)

  same_member : take_member j (take_bytes lo hi S j t) ≡ take_member m (take_bytes lo hi S m s)
  same_member = rw (e, i) (member_unlocked lo hi S m s ls 1)

  pub took_answer : (a : Result ℕ ListFault) (b k : ℕ) → a ≡ Ok b → a ≡ block_answer (take_bytes lo hi S j t) → k ≡ take_member j (take_bytes lo hi S j t)
      → Ok (record { block = b; member = k }) ≡ take_answer (take_bytes lo hi S m s)
  took_answer a b k f g h =
      let p = answer_parts (take_bytes lo hi S m s) m b (sym (sym f ∙ g ∙ same_block)) in
      rw (h ∙ same_member) (sym p)

  pub refused_answer : (a : Result ℕ ListFault) (f : ListFault) → a ≡ Err f → a ≡ block_answer (take_bytes lo hi S j t) → Err f ≡ take_answer (take_bytes lo hi S m s)
  refused_answer a f g h = sym (answer_refused (take_bytes lo hi S m s) f (sym (sym g ∙ h ∙ same_block)))
