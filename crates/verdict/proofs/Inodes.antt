-- The file phase, seen as a walk through the trees of all files. An unknown type is a finding there and nothing else.
use Rattle.std.proofs.Common.{◌≡◌, ℕ, zero, suc, ◌+◌, ◌-◌, ◌/◌, ◌<◌, ◌≤◌, true, false, cond, ◌≢◌, List, [], get_or, sym, refl, ap, ◌∙◌, ⊎_elim, add-one, arith}
use Rattle.std.proofs.lemmas.Bool.{cases_Bool, cases_eq}
use Rattle.fault.specs.declared.place.Place.TheVariants.{Slot}
use Rattle.fault.specs.declared.finding.Kind.TheVariants.{UnknownType}
use Rattle.disk.specs.Medium.{Sectors}
use Rattle.format.specs.Layout.{table_width, first_list_block, inodes_per_block, slots, depth_of}
use Rattle.format.specs.Inode.{mode_of, type_bits, address_of, inode_type, claims_blocks, known_type}
use Rattle.format.specs.Sizes.{inodes_of}
use Rattle.format.specs.declared.inode.InodeType.{InodeType}
use Rattle.format.specs.declared.inode.InodeType.TheVariants.{Unused, Regular, Directory, Special, Unknown}
use Rattle.trees.specs.Walk.{Scan as Count, meet, steps, walk as tree_walk}
use Rattle.trees.specs.Volume.{file_phase}
use Rattle.verdict.specs.Scan.{Scan, rows, slots_from, by_type, inode, files}
use Rattle.verdict.specs.Sound.{inode_block, head, entry}
use Rattle.verdict.proofs.Rows.{rows_last, rows_keep, rest_keep, rest_all}
use Rattle.verdict.proofs.Seen.{found_in, seen, more, note_seen, Keeps, keeps_found, rest_seen, walk_keep, walk_seen}

-- steps that do nothing
steps_idle : (n : ℕ) (g : ℕ → Count → Count) → ((k : ℕ) (s : Count) → g k s ≡ s) → (s : Count) → steps n g s ≡ s
unfolding steps
steps_idle zero g h s = refl
steps_idle (suc n) g h s = h n (steps n g s) ∙ steps_idle n g h s

absent_tree : (w : ℕ) (at : ℕ → ℕ → ℕ) (lo hi d : ℕ) (s : Count) → tree_walk w at lo hi d 0 s ≡ s
unfolding tree_walk meet
absent_tree w at lo hi zero s = refl
absent_tree w at lo hi (suc d) s = refl

-- no turn has a finding where all of them together have none
turns_clean : (g : ℕ → Scan → Scan) (K : ℕ → Type 0) → ((k : ℕ) (s : Scan) → found_in s.log ≤ found_in (g k s).log)
    → ((k : ℕ) (s : Scan) → found_in (g k s).log ≡ found_in s.log → K k)
    → (n : ℕ) (s : Scan) → found_in (rows n 0 g s).log ≡ found_in s.log → (k : ℕ) → k < n → K k
turns_clean g K up h zero s e k l = absurd (omega arith)
turns_clean g K up h (suc n) s e k l =
    let z : 0 + n ≡ n = omega arith in
    let r : rows (suc n) 0 g s ≡ g n (rows n 0 g s) = rw z at (rows_last n 0 g s) in
    let f : found_in (g n (rows n 0 g s)).log ≡ found_in s.log = rw r at e in
    let u = up n (rows n 0 g s) in
    let v : found_in s.log ≤ found_in (rows n 0 g s).log = below n in
    ⊎_elim (λ (q : k ≡ n). rw q (h n (rows n 0 g s) (omega arith)))
    (λ (q : k ≡ n → ⊥). turns_clean g K up h n s (omega arith) k (let m : k ≢ n = q in omega arith)) (cases_eq k n)
  where
    below : (n : ℕ) → found_in s.log ≤ found_in (rows n 0 g s).log
    below n = rows_keep (λ t. found_in s.log ≤ found_in t.log) g (λ k t p. let u = up k t in omega arith) n 0 s (omega arith)

module _ (S : Sectors) (lo hi : ℕ) where
  -- an inode in block b, by its type
  type_seen : (t : InodeType) (b : List ℕ) (i : ℕ) (s : Scan) → known_type t ≡ true
      → seen (by_type t S lo hi b i s) ≡ steps slots (λ j. tree_walk table_width (entry S) lo hi (depth_of j) (cond (claims_blocks t) (address_of i j b) 0)) (seen s)
  unfolding slots_from
  type_seen Unused b i s k = sym (steps_idle slots _ (λ j t. absent_tree table_width (entry S) lo hi (depth_of j) t) (seen s))
  type_seen Regular b i s k = rest_seen _ _ slots (λ j t l. walk_seen S lo hi (Slot i j) (depth_of j) (address_of i j b) t) s
  type_seen Directory b i s k = rest_seen _ _ slots (λ j t l. walk_seen S lo hi (Slot i j) (depth_of j) (address_of i j b) t) s
  type_seen Special b i s k = sym (steps_idle slots _ (λ j t. absent_tree table_width (entry S) lo hi (depth_of j) t) (seen s))
  type_seen Unknown b i s k = absurd (let z : ◌≡◌ {A = ℕ} 0 1 = cc in omega arith)

  type_unknown : (t : InodeType) (b : List ℕ) (i : ℕ) (s : Scan) → known_type t ≡ false → seen (by_type t S lo hi b i s) ≡ more (seen s)
  type_unknown Unused b i s k = absurd (let z : ◌≡◌ {A = ℕ} 0 1 = cc in omega arith)
  type_unknown Regular b i s k = absurd (let z : ◌≡◌ {A = ℕ} 0 1 = cc in omega arith)
  type_unknown Directory b i s k = absurd (let z : ◌≡◌ {A = ℕ} 0 1 = cc in omega arith)
  type_unknown Special b i s k = absurd (let z : ◌≡◌ {A = ℕ} 0 1 = cc in omega arith)
  type_unknown Unknown b i s k = note_seen UnknownType (type_bits (mode_of i b)) (Slot i 0) s

  type_keep : (P : Scan → Type 0) → Keeps P → (t : InodeType) (b : List ℕ) (i : ℕ) (s : Scan) → P s → P (by_type t S lo hi b i s)
  unfolding slots_from
  type_keep P k Unused b i s h = h
  type_keep P k Regular b i s h = rest_keep P _ (λ j t q. walk_keep S lo hi P k (Slot i j) (depth_of j) (address_of i j b) t q) slots 0 s h
  type_keep P k Directory b i s h = rest_keep P _ (λ j t q. walk_keep S lo hi P k (Slot i j) (depth_of j) (address_of i j b) t q) slots 0 s h
  type_keep P k Special b i s h = h
  type_keep P k Unknown b i s h = k.notes UnknownType (type_bits (mode_of i b)) (Slot i 0) s h

  -- the block of inode k + 1
  abbrev block : ℕ → List ℕ
  block k = get_or S (first_list_block + k / inodes_per_block) []

  block_same : (k : ℕ) → inode_block S (suc k) ≡ block k
  block_same k = let e : suc k - 1 ≡ k = omega arith in rw e

  inode_seen : (k : ℕ) (s : Scan) → known_type (inode_type (suc k) (inode_block S (suc k))) ≡ true
      → seen (inode S lo hi (block k) (k + 1) s) ≡ steps slots (λ j. tree_walk table_width (entry S) lo hi (depth_of j) (head S (suc k) j)) (seen s)
  unfolding inode head
  inode_seen k s e = rw (add-one, ← (block_same k)) (type_seen (inode_type (suc k) (inode_block S (suc k))) (inode_block S (suc k)) (suc k) s e)

  inode_unknown : (k : ℕ) (s : Scan) → known_type (inode_type (suc k) (inode_block S (suc k))) ≡ false → seen (inode S lo hi (block k) (k + 1) s) ≡ more (seen s)
  unfolding inode
  inode_unknown k s e = rw (add-one, ← (block_same k)) (type_unknown (inode_type (suc k) (inode_block S (suc k))) (inode_block S (suc k)) (suc k) s e)

  inode_keep : (P : Scan → Type 0) → Keeps P → (b : List ℕ) (i : ℕ) (s : Scan) → P s → P (inode S lo hi b i s)
  unfolding inode
  inode_keep P k b i s h = type_keep P k (inode_type i b) b i s h

  pub files_keep : (P : Scan → Type 0) → Keeps P → (s : Scan) → P s → P (files S lo hi 0 s)
  unfolding files
  files_keep P k s h = rest_keep P _ (λ j t q. inode_keep P k (block j) (j + 1) t q) (inodes_of lo) 0 s h

  -- where all types are known the phase is a walk through all files
  pub files_seen : ((i : ℕ) → 0 < i → i ≤ inodes_of lo → known_type (inode_type i (inode_block S i)) ≡ true) → (s : Scan)
      → seen (files S lo hi 0 s) ≡ file_phase table_width (entry S) depth_of lo hi (inodes_of lo) slots (λ k j. head S (suc k) j) (seen s)
  unfolding files file_phase
  files_seen known s = rest_seen _ _ (inodes_of lo) (λ k t l. inode_seen k t (known (suc k) (omega arith) (omega arith))) s

  -- without a finding all types are known
  pub files_known : (s : Scan) → found_in (files S lo hi 0 s).log ≡ found_in s.log
      → (i : ℕ) → 0 < i → i ≤ inodes_of lo → known_type (inode_type i (inode_block S i)) ≡ true
  unfolding files
  files_known s e zero p l = absurd (omega arith)
  files_known s e (suc i) p l =
      turns_clean (λ k. inode S lo hi (block k) (k + 1)) (λ k. known_type (inode_type (suc k) (inode_block S (suc k))) ≡ true)
      (λ k t. inode_keep (λ u. found_in t.log ≤ found_in u.log) (keeps_found (found_in t.log)) (block k) (k + 1) t (omega arith))
      clean (inodes_of lo) s (ap (λ (t : Scan). found_in t.log) (sym (rest_all (inodes_of lo) (λ k. inode S lo hi (block k) (k + 1)) s)) ∙ e) i (omega arith)
    where
      clean : (k : ℕ) (t : Scan) → found_in (inode S lo hi (block k) (k + 1) t).log ≡ found_in t.log → known_type (inode_type (suc k) (inode_block S (suc k))) ≡ true
      clean k t f = ⊎_elim (λ (q : known_type (inode_type (suc k) (inode_block S (suc k))) ≡ true). q)
          (λ (q : known_type (inode_type (suc k) (inode_block S (suc k))) ≡ false). absurd (let x = ap (λ (c : Count). c.found) (inode_unknown k t q) in omega arith))
          (cases_Bool (known_type (inode_type (suc k) (inode_block S (suc k)))))
