-- The files: what is left, one turn further.
use Rattle.std.proofs.Common.{◌≡◌, ℕ, zero, suc, ◌+◌, ◌-◌, ◌/◌, ◌<◌, ◌≤◌, true, false, List, [], get_or, sym, ap, ◌∙◌, add-one, arith}
use Rattle.std.proofs.lemmas.Bool.{eq-eqb, ne_eqb}
use Rattle.disk.specs.Medium.{Sectors}
use Rattle.fault.specs.declared.place.Place.{Place}
use Rattle.fault.specs.declared.place.Place.TheVariants.{Slot}
use Rattle.fault.specs.declared.finding.Kind.TheVariants.{BadAddress, SecondClaim}
use Rattle.format.specs.Layout.{table_width, slots, depth_of, first_list_block, inodes_per_block}
use Rattle.format.specs.Inode.{mode_of, type_bits, type_rule, address_of}
use Rattle.format.specs.Sizes.{inodes_of}
use Rattle.format.specs.declared.inode.InodeType.{InodeType}
use Rattle.verdict.specs.Scan.{Scan, opens, met, rows, rest, walk, table_entry, entries, slots_from, by_type, inode, files}

-- one turn, and none, of any row
pub rest_more : {A : Type 0} (w k : ℕ) (g : ℕ → A → A) (s : A) → k < w → rest w k g s ≡ rest w (k + 1) g (g k s)
unfolding rest rows
rest_more w k g s h =
    let e : w - k ≡ suc (w - (k + 1)) = omega arith in
    rw (e, add-one)

pub rest_done : {A : Type 0} (w k : ℕ) (g : ℕ → A → A) (s : A) → w ≤ k → rest w k g s ≡ s
unfolding rest rows
rest_done w k g s h =
    let e : w - k ≡ 0 = omega arith in
    rw e

module _ (ss : Sectors) (lo hi : ℕ) where
  pub entries_more : (p : Place) (d : ℕ) (t : List ℕ) (k : ℕ) (s : Scan) → k < table_width
      → entries ss lo hi p d t k s ≡ entries ss lo hi p d t (k + 1) (walk ss lo hi p d (table_entry t k) s)
  unfolding entries
  entries_more p d t k s h = rest_more table_width k (λ k. walk ss lo hi p d (table_entry t k)) s h

  pub entries_done : (p : Place) (d : ℕ) (t : List ℕ) (k : ℕ) (s : Scan) → table_width ≤ k → entries ss lo hi p d t k s ≡ s
  unfolding entries
  entries_done p d t k s h = rest_done table_width k (λ k. walk ss lo hi p d (table_entry t k)) s h

  pub slots_more : (b : List ℕ) (i k : ℕ) (s : Scan) → k < slots
      → slots_from ss lo hi b i k s ≡ slots_from ss lo hi b i (k + 1) (walk ss lo hi (Slot i k) (depth_of k) (address_of i k b) s)
  unfolding slots_from
  slots_more b i k s h = rest_more slots k (λ k. walk ss lo hi (Slot i k) (depth_of k) (address_of i k b)) s h

  pub slots_done : (b : List ℕ) (i k : ℕ) (s : Scan) → slots ≤ k → slots_from ss lo hi b i k s ≡ s
  unfolding slots_from
  slots_done b i k s h = rest_done slots k (λ k. walk ss lo hi (Slot i k) (depth_of k) (address_of i k b)) s h

  pub files_more : (k : ℕ) (s : Scan) → k < inodes_of lo
      → files ss lo hi k s ≡ files ss lo hi (k + 1) (inode ss lo hi (get_or ss (first_list_block + k / inodes_per_block) []) (k + 1) s)
  unfolding files
  files_more k s h = rest_more (inodes_of lo) k (λ k. inode ss lo hi (get_or ss (first_list_block + k / inodes_per_block) []) (k + 1)) s h

  pub files_done : (k : ℕ) (s : Scan) → inodes_of lo ≤ k → files ss lo hi k s ≡ s
  unfolding files
  files_done k s h = rest_done (inodes_of lo) k (λ k. inode ss lo hi (get_or ss (first_list_block + k / inodes_per_block) []) (k + 1)) s h

  -- an absent address, one that is no fresh data block, one of data, one of a table
  pub walk_none : (p : Place) (d a : ℕ) (s : Scan) → a ≡ 0 → walk ss lo hi p d a s ≡ s
  unfolding walk
  walk_none p zero a s e = rw (eq-eqb a 0 e)
  walk_none p (suc d) a s e = rw (eq-eqb a 0 e)

  pub walk_not : (p : Place) (d a : ℕ) (s : Scan) → (a ≡ 0 → ⊥) → opens lo hi a s.codes ≡ false
      → walk ss lo hi p d a s ≡ met lo hi 1 BadAddress SecondClaim p a s
  unfolding walk
  walk_not p zero a s n e = rw (ne_eqb a 0 n)
  walk_not p (suc d) a s n e = rw (ne_eqb a 0 n, e)

  pub walk_data : (p : Place) (a : ℕ) (s : Scan) → (a ≡ 0 → ⊥) → walk ss lo hi p 0 a s ≡ met lo hi 1 BadAddress SecondClaim p a s
  unfolding walk
  walk_data p a s n = rw (ne_eqb a 0 n)

  pub walk_table : (p : Place) (d a : ℕ) (s : Scan) → (a ≡ 0 → ⊥) → opens lo hi a s.codes ≡ true
      → walk ss lo hi p (suc d) a s ≡ entries ss lo hi p d (get_or ss a []) 0 (met lo hi 1 BadAddress SecondClaim p a s)
  unfolding walk entries
  walk_table p d a s n e = rw (ne_eqb a 0 n, e)

  -- an inode by its mode and its type
  pub inode_is : (b : List ℕ) (i m : ℕ) (s : Scan) (t : InodeType) → m ≡ mode_of i b → t ≡ type_rule (type_bits m)
      → inode ss lo hi b i s ≡ by_type t ss lo hi b i s
  unfolding inode
  inode_is b i m s t e f = ap (λ (x : InodeType). by_type x ss lo hi b i s) (sym (f ∙ ap (λ (n : ℕ). type_rule (type_bits n)) e))
