-- The files of a newly made volume: the root directory alone.
use Rattle.std.proofs.Common.{◌≡◌, ℕ, zero, suc, ◌+◌, ◌-◌, ◌*◌, ◌/◌, ◌%◌, ◌<◌, ◌≤◌, Bool, true, false, cond, eqb, ltb, ◌≢◌, List, [], get_or, Some, None, sym, refl, ap, ◌∙◌, subst, inl, inr, ⊎_elim, arith}
use Rattle.std.proofs.lemmas.Bool.{cases_eq, cases_lt, le-ltb, le-leb, lt-leb, ne_eqb, and_from, and_left, and_right, cond-true, cond-false, cond_both}
use Rattle.disk.specs.Medium.{Sectors}
use Rattle.numbers.specs.Numbers.{num}
use Rattle.format.specs.Layout.{block_bytes, table_width, inodes_per_block, inode_bytes, slots, direct_slots, depth_of}
use Rattle.format.specs.Inode.{start_of_inode, mode_of, size_of, address_of, type_bits, type_rule, inode_type, claims_blocks, known_type}
use Rattle.format.specs.declared.inode.InodeType.TheVariants.{Unused, Directory}
use Rattle.format.specs.Position.{positions, Split, split_of, slot_of, path_of, end_of_one, end_of_two}
use Rattle.format.specs.Sizes.{Sizes, Bounds, inodes_of}
use Rattle.format.proofs.Splits.{in_direct}
use Rattle.trees.specs.Trees.{hit, named, reach}
use Rattle.trees.specs.Volume.{in_file, claims}
use Rattle.trees.proofs.Sums.{total_zero, total_replace}
use Rattle.trees.proofs.Names.{named_none}
use Rattle.trees.proofs.Frames.{reach_none}
use Rattle.verdict.specs.Sound.{inode_block, head, entry, claims_on}
use Rattle.verdict.proofs.Sounds.{entry_absent}
use Rattle.rules.specs.Make.{root, root_size, root_list_block, list_block, root_block}
use Rattle.rules.specs.Files.{Same, Alike, block_bytes_at, address_at, stored, file_of, is_file, files_on, root_file, first_book}
use Rattle.rules.proofs.Layouts.{zeros_byte, zeros_num, root_list_apart, root_mode_is, root_size_is, root_slot_0, root_slot_other, root_block_tail}
use Rattle.rules.proofs.NewSectors.{Newly}

-- POSITIONS
split_tables : (p : ℕ) → direct_slots ≤ p → (direct_slots ≤ slot_of p) × (slot_of p < slots)
unfolding split_of
split_tables p h =
    subst (λ (q : Split). (direct_slots ≤ q.0) × (q.0 < slots)) (sym (cond-false (ltb p direct_slots) _ _ (le-ltb p direct_slots h)))
    (cond_both (ltb p end_of_one) _ _ (λ (q : Split). (direct_slots ≤ q.0) × (q.0 < slots))
    (λ e. (omega arith, omega arith))
    (λ e. cond_both (ltb p end_of_two) _ _ (λ (q : Split). (direct_slots ≤ q.0) × (q.0 < slots)) (λ f. (omega arith, omega arith)) (λ f. (omega arith, omega arith))))

-- INODES
module _ (isize fsize : ℕ) (bounds : Bounds isize fsize) (T : Sectors) (new : Newly isize fsize T) where
  block_at : (i : ℕ) → 0 < i → i ≤ inodes_of isize → inode_block T i ≡ list_block isize ((i - 1) / inodes_per_block)
  block_at i p l = new.i_list ((i - 1) / inodes_per_block) (omega (arith, bounds.low))

  root_there : root ≤ inodes_of isize
  root_there = omega (arith, bounds.low)

  root_block_at : inode_block T root ≡ root_list_block isize
  root_block_at = block_at root (omega arith) root_there

  -- every number within an inode other than the root's is 0
  unused_num : (i n o : ℕ) → 0 < i → i ≤ inodes_of isize → i ≢ root → o + n ≤ inode_bytes → num n (start_of_inode i + o) (inode_block T i) ≡ 0
  unused_num i n o p l ne h = ap (num n (start_of_inode i + o)) (block_at i p l) ∙ go ((i - 1) / inodes_per_block) refl
    where
      go : (q : ℕ) → (i - 1) / inodes_per_block ≡ q → num n (start_of_inode i + o) (list_block isize q) ≡ 0
      go (suc q) e = zeros_num n (start_of_inode i + o) block_bytes
      go zero e =
          root_list_apart isize n (start_of_inode i + o)
          (⊎_elim
          (λ (x : (i - 1) % inodes_per_block < 1). inr (omega arith))
          (λ (x : 1 ≤ (i - 1) % inodes_per_block). inl (omega arith))
          (cases_lt ((i - 1) % inodes_per_block) 1))

  unused_mode : (i : ℕ) → 0 < i → i ≤ inodes_of isize → i ≢ root → mode_of i (inode_block T i) ≡ 0
  unused_mode i p l ne = let e : start_of_inode i + 0 ≡ start_of_inode i = omega arith in subst (λ (o : ℕ). num 2 o (inode_block T i) ≡ 0) e (unused_num i 2 0 p l ne (omega arith))

  unused_type : (i : ℕ) → 0 < i → i ≤ inodes_of isize → i ≢ root → inode_type i (inode_block T i) ≡ Unused
  unused_type i p l ne = ap (λ (m : ℕ). type_rule (type_bits m)) (unused_mode i p l ne)

  root_type : inode_type root (inode_block T root) ≡ Directory
  root_type = ap (λ (m : ℕ). type_rule (type_bits m)) (ap (mode_of root) root_block_at ∙ root_mode_is isize)

  unused_size : (i : ℕ) → 0 < i → i ≤ inodes_of isize → i ≢ root → size_of i (inode_block T i) ≡ 0
  unused_size i p l ne = unused_num i 4 8 p l ne (omega arith)

  size_of_root : size_of root (inode_block T root) ≡ root_size
  size_of_root = ap (size_of root) root_block_at ∙ root_size_is isize

  pub new_types : (i : ℕ) → 0 < i → i ≤ inodes_of isize → known_type (inode_type i (inode_block T i)) ≡ true
  new_types i p l =
      ⊎_elim
      (λ (e : i ≡ root). subst (λ (j : ℕ). known_type (inode_type j (inode_block T j)) ≡ true) (sym e) (ap known_type root_type))
      (λ (ne : i ≡ root → ⊥). ap known_type (unused_type i p l ne))
      (cases_eq i root)

  -- SLOTS
  unused_head : (i s : ℕ) → 0 < i → i ≤ inodes_of isize → i ≢ root → head T i s ≡ 0
  unfolding head
  unused_head i s p l ne = cond-false _ _ 0 (ap claims_blocks (unused_type i p l ne))

  root_head : (s : ℕ) → head T root s ≡ address_of root s (root_list_block isize)
  unfolding head
  root_head s = cond-true _ (address_of root s (inode_block T root)) 0 (ap claims_blocks root_type) ∙ ap (address_of root s) root_block_at

  root_head_0 : head T root 0 ≡ isize
  root_head_0 = root_head 0 ∙ root_slot_0 isize

  root_head_other : (s : ℕ) → 0 < s → head T root s ≡ 0
  root_head_other s h = root_head s ∙ root_slot_other isize s h

  -- CLAIMS
  unused_claims : (k b : ℕ) → k < inodes_of isize → k ≢ 1 → in_file table_width (entry T) depth_of slots (head T (suc k)) b ≡ 0
  unfolding in_file
  unused_claims k b l ne =
      total_zero slots (λ s. named table_width (entry T) (depth_of s) (head T (suc k) s) b)
      (λ s h. ap (λ (a : ℕ). named table_width (entry T) (depth_of s) a b) (unused_head (suc k) s (omega arith) l (omega arith)) ∙ named_none table_width (entry T) (entry_absent T) (depth_of s) b)

  root_claims : (b : ℕ) → in_file table_width (entry T) depth_of slots (head T root) b ≡ hit isize b
  unfolding in_file named
  root_claims b =
      let r = total_replace slots (λ s. named table_width (entry T) (depth_of s) (head T root s) b) (λ s. 0) 0 (omega arith)
      (λ s l ne. ap (λ (a : ℕ). named table_width (entry T) (depth_of s) a b) (root_head_other s (omega arith)) ∙ named_none table_width (entry T) (entry_absent T) (depth_of s) b) in
      let z = total_zero slots (λ s. 0) (λ s l. refl) in
      let e : named table_width (entry T) (depth_of 0) (head T root 0) b ≡ hit isize b = ap (λ (a : ℕ). hit a b) root_head_0 in
      omega arith

  -- the root's block has one claim, by inode 2; no other block has one
  pub new_claims : (b : ℕ) → claims_on T isize b ≡ hit isize b
  unfolding claims_on claims
  new_claims b =
      let r = total_replace (inodes_of isize) (λ k. in_file table_width (entry T) depth_of slots (head T (suc k)) b) (λ k. 0) 1 (omega (arith, root_there))
      (λ k l ne. unused_claims k b l ne) in
      let z = total_zero (inodes_of isize) (λ k. 0) (λ k l. refl) in
      let e = root_claims b in
      omega arith

  -- SIZES AND STORED BYTES
  pub new_sizes : (i : ℕ) → 0 < i → i ≤ inodes_of isize → size_of i (inode_block T i) ≤ root_size
  new_sizes i p l =
      ⊎_elim
      (λ (e : i ≡ root). subst (λ (j : ℕ). size_of j (inode_block T j) ≤ root_size) (sym e) (omega (arith, size_of_root)))
      (λ (ne : i ≡ root → ⊥). omega (arith, unused_size i p l ne))
      (cases_eq i root)

  nothing_stored : (i p k : ℕ) → head T i (slot_of p) ≡ 0 → get_or (stored T i p) k 0 ≡ 0
  unfolding address_at block_bytes_at
  nothing_stored i p k e =
      let a : address_at T i p ≡ 0 = ap (reach (entry T) (path_of p)) e ∙ reach_none (entry T) (entry_absent T) (path_of p) in
      ap (λ (b : ℕ). get_or (block_bytes_at T b) k 0) a ∙ zeros_byte block_bytes k

  block_there : (b : ℕ) → 0 < b → block_bytes_at T b ≡ get_or T b []
  unfolding block_bytes_at
  block_there zero h = absurd (omega arith)
  block_there (suc b) h = refl

  -- position 0 of the root reaches its block
  root_stored : stored T root 0 ≡ root_block
  unfolding address_at reach split_of
  root_stored =
      ap (block_bytes_at T) root_head_0 ∙ block_there isize (omega (arith, bounds.low)) ∙ new.root_at

  pub new_tails : (i p k : ℕ) → 0 < i → i ≤ inodes_of isize → p < positions → size_of i (inode_block T i) ≤ block_bytes * p + k → get_or (stored T i p) k 0 ≡ 0
  new_tails i p k q l m h =
      ⊎_elim
      (λ (e : i ≡ root). subst (λ (j : ℕ). size_of j (inode_block T j) ≤ block_bytes * p + k → get_or (stored T j p) k 0 ≡ 0) (sym e) root_tails h)
      (λ (ne : i ≡ root → ⊥). nothing_stored i p k (unused_head i (slot_of p) q l ne))
      (cases_eq i root)
    where
      root_tails : size_of root (inode_block T root) ≤ block_bytes * p + k → get_or (stored T root p) k 0 ≡ 0
      root_tails g =
          ⊎_elim
          (λ (e : p ≡ 0).
          subst (λ (r : ℕ). get_or (stored T root r) k 0 ≡ 0) (sym e)
          (ap (λ (x : List ℕ). get_or x k 0) root_stored ∙ root_block_tail k (omega (arith, size_of_root))))
          (λ (ne : p ≡ 0 → ⊥).
          nothing_stored root p k
          (root_head_other (slot_of p)
          (⊎_elim (λ (d : p < direct_slots). let f = ap (λ (x : Split). x.0) (in_direct p d) in omega arith) (λ (d : direct_slots ≤ p). let f = split_tables p d in omega arith) (cases_lt p direct_slots))))
          (cases_eq p 0)

  -- THE BOOK
  root_is_file : (z : Sizes) → z.isize ≡ isize → is_file T z root ≡ true
  root_is_file z e =
      and_from _ _ (and_from _ _ (le-leb 1 root (omega arith)) (le-leb root (inodes_of z.isize) (omega (arith, root_there)))) (ap claims_blocks root_type)

  no_file : (z : Sizes) (i : ℕ) → z.isize ≡ isize → i ≢ root → is_file T z i ≡ false
  no_file z i e ne =
      ⊎_elim
      (λ (p : 0 < i).
      ⊎_elim
      (λ (l : inodes_of z.isize < i). and_left _ _ (and_right _ _ (lt-leb i (inodes_of z.isize) l)))
      (λ (l : i ≤ inodes_of z.isize). and_right _ _ (ap claims_blocks (unused_type i p (omega arith) ne)))
      (cases_lt (inodes_of z.isize) i))
      (λ (p : i ≤ 0). and_left _ _ (and_left _ _ (lt-leb 1 i (omega arith))))
      (cases_lt 0 i)

  root_alike : Same (file_of T root) root_file
  root_alike =
      record {
        sizes = size_of_root;
        bytes = λ k h.
            let a : k / block_bytes ≡ 0 = omega (arith, size_of_root) in
            let b : k % block_bytes ≡ k = omega (arith, size_of_root) in
            ap (λ (q : ℕ). get_or (stored T root q) (k % block_bytes) 0) a ∙ ap (λ (r : ℕ). get_or (stored T root 0) r 0) b ∙ ap (λ (x : List ℕ). get_or x k 0) root_stored;
      }

  -- the files are the first book's
  pub new_book : (z : Sizes) → z.isize ≡ isize → (i : ℕ) → Alike (files_on T z i) (first_book i)
  unfolding files_on first_book
  new_book z e i =
      ⊎_elim
      (λ (r : i ≡ root).
      subst (λ (j : ℕ). Alike (cond (is_file T z j) (Some (file_of T j)) None) (cond (eqb j root) (Some root_file) None)) (sym r)
      (subst (λ (b : Bool). Alike (cond b (Some (file_of T root)) None) (Some root_file)) (sym (root_is_file z e)) root_alike))
      (λ (ne : i ≡ root → ⊥).
      subst (λ (b : Bool). Alike (cond (is_file T z i) (Some (file_of T i)) None) (cond b (Some root_file) None)) (sym (ne_eqb i root ne))
      (subst (λ (b : Bool). Alike (cond b (Some (file_of T i)) None) None) (sym (no_file z i e ne)) tt))
      (cases_eq i root)
