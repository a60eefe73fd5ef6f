-- The ways out of a take.
use Rattle.std.proofs.Common.{◌≡◌, ℕ, zero, suc, ◌+◌, ◌-◌, ◌<◌, ◌≤◌, true, false, ◌≢◌, List, [], get_or, Result, sym, refl, ap, ◌∙◌, arith}
use Rattle.std.proofs.lemmas.Bool.{lt-ltb, le-ltb, eq-eqb, ne_eqb}
use Rattle.fault.specs.declared.fault.ListFault.{ListFault}
use Rattle.fault.specs.declared.fault.ListFault.TheVariants.{Bad, Empty}
use Rattle.numbers.specs.Numbers.{put_num}
use Rattle.freelist.specs.declared.list.TakenBlock.{TakenBlock}
use Rattle.disk.specs.Medium.{Sectors}
use Rattle.format.specs.Layout.{list_room}
use Rattle.format.specs.Superblock.{at_nfree, nfree_of, free_of}
use Rattle.freelist.specs.Stack.{is_data}
use Rattle.freelist.specs.Answers.{take_answer, take_left}
use Rattle.freelist.specs.Bytes.{Taken, took, refused, member_count, loaded, lowered, load_bytes, take_entry_bytes, take_bytes}

module _ (lo hi : ℕ) (S : Sectors) (m : ℕ) (s : List ℕ) where
  pub take_too_many : list_room < nfree_of s → take_bytes lo hi S m s ≡ refused (Bad m)
  unfolding take_bytes
  take_too_many h = rw (lt-ltb list_room (nfree_of s) h)

  counted : (n : ℕ) → nfree_of s ≡ n → n ≤ list_room → take_bytes lo hi S m s ≡ take_entry_bytes lo hi n S m s
  unfolding take_bytes
  counted n e h = rw e (rw (le-ltb list_room n h))

  pub take_none : nfree_of s ≡ 0 → take_bytes lo hi S m s ≡ refused (Empty m)
  take_none h = counted 0 h (omega arith)

  pub take_end : nfree_of s ≡ 1 → free_of 0 s ≡ 0 → take_bytes lo hi S m s ≡ refused (Empty m)
  take_end h z = counted 1 h (omega arith) ∙ rw (eq-eqb (free_of 0 s) 0 z)

  first_bad : nfree_of s ≡ 1 → free_of 0 s ≢ 0 → is_data lo hi (free_of 0 s) ≡ false → take_bytes lo hi S m s ≡ refused (Bad m)
  first_bad h z d = counted 1 h (omega arith) ∙ rw (ne_eqb (free_of 0 s) 0 z, d)

  take_load : nfree_of s ≡ 1 → free_of 0 s ≢ 0 → is_data lo hi (free_of 0 s) ≡ true → take_bytes lo hi S m s ≡ load_bytes (get_or S (free_of 0 s) []) (free_of 0 s) m s
  take_load h z d = counted 1 h (omega arith) ∙ rw (ne_eqb (free_of 0 s) 0 z, d)

  later_bad : (k : ℕ) → nfree_of s ≡ suc (suc k) → nfree_of s ≤ list_room → is_data lo hi (free_of (suc k) s) ≡ false → take_bytes lo hi S m s ≡ refused (Bad m)
  later_bad k h l d = counted (suc (suc k)) h (omega arith) ∙ rw d

  later : (k : ℕ) → nfree_of s ≡ suc (suc k) → nfree_of s ≤ list_room → is_data lo hi (free_of (suc k) s) ≡ true → take_bytes lo hi S m s ≡ took (free_of (suc k) s) (lowered (put_num 2 at_nfree (suc k) s)) m
  later k h l d = counted (suc (suc k)) h (omega arith) ∙ rw d

  -- by the block in the last entry
  pub take_member_block : (b n : ℕ) → n ≡ nfree_of s → n ≡ 1 → b ≡ free_of (n - 1) s → b ≢ 0 → true ≡ is_data lo hi b → take_bytes lo hi S m s ≡ load_bytes (get_or S b []) b m s
  take_member_block b n h i e z d =
      let f : b ≡ free_of 0 s = e ∙ ap (λ (k : ℕ). free_of (k - 1) s) i in
      take_load (sym h ∙ i) (λ (y : free_of 0 s ≡ 0). z (f ∙ y)) (ap (is_data lo hi) (sym f) ∙ sym d)
      ∙ ap (λ (a : ℕ). load_bytes (get_or S a []) a m s) (sym f)

  pub take_bad : (b : ℕ) → 0 < nfree_of s → nfree_of s ≤ list_room → b ≡ free_of (nfree_of s - 1) s → (nfree_of s ≡ 1 → b ≢ 0) → false ≡ is_data lo hi b → take_bytes lo hi S m s ≡ refused (Bad m)
  take_bad b p l e z d = by (nfree_of s) refl
    where
      by : (n : ℕ) → nfree_of s ≡ n → take_bytes lo hi S m s ≡ refused (Bad m)
      by zero h = absurd (omega arith)
      by (suc zero) h =
          let f : b ≡ free_of 0 s = e ∙ ap (λ (n : ℕ). free_of (n - 1) s) h in
          first_bad h (λ (y : free_of 0 s ≡ 0). z h (f ∙ y)) (ap (is_data lo hi) (sym f) ∙ sym d)
      by (suc (suc k)) h =
          let i : nfree_of s - 1 ≡ suc k = omega arith in
          let f : b ≡ free_of (suc k) s = e ∙ ap (λ (n : ℕ). free_of n s) i in
          later_bad k h l (ap (is_data lo hi) (sym f) ∙ sym d)

  pub take_last : (b : ℕ) → 1 < nfree_of s → nfree_of s ≤ list_room → b ≡ free_of (nfree_of s - 1) s → true ≡ is_data lo hi b
      → take_bytes lo hi S m s ≡ took b (lowered (put_num 2 at_nfree (nfree_of s - 1) s)) m
  take_last b p l e d = by (nfree_of s) refl
    where
      by : (n : ℕ) → nfree_of s ≡ n → take_bytes lo hi S m s ≡ took b (lowered (put_num 2 at_nfree (nfree_of s - 1) s)) m
      by zero h = absurd (omega arith)
      by (suc zero) h = absurd (omega arith)
      by (suc (suc k)) h =
          let i : nfree_of s - 1 ≡ suc k = omega arith in
          let f : b ≡ free_of (suc k) s = e ∙ ap (λ (n : ℕ). free_of n s) i in
          rw (i, f) (later k h l (ap (is_data lo hi) (sym f) ∙ sym d))

-- the ways out of a load
pub load_too_many : (x : List ℕ) (b m : ℕ) (s : List ℕ) → list_room < member_count x → load_bytes x b m s ≡ refused (Bad (m + 1))
load_too_many x b m s h = rw (lt-ltb list_room (member_count x) h)

pub load_whole : (x : List ℕ) (b m : ℕ) (s : List ℕ) → member_count x ≤ list_room → load_bytes x b m s ≡ took b (lowered (loaded x s)) (m + 1)
load_whole x b m s h = rw (le-ltb list_room (member_count x) h)

-- the answer and the bytes left, by what a take comes to
pub ends : (t u : Taken) (s : List ℕ) → t ≡ u → (take_answer u ≡ take_answer t) × (take_left s u ≡ take_left s t)
ends t u s e = (sym (ap take_answer e), sym (ap (take_left s) e))

pub ends_by : (t u : Taken) (s l : List ℕ) (a : Result TakenBlock ListFault) → t ≡ u → a ≡ take_answer u → l ≡ take_left s u → (a ≡ take_answer t) × (l ≡ take_left s t)
ends_by t u s l a e h k = let p = ends t u s e in (h ∙ p.0, k ∙ p.1)
