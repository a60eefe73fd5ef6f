-- The walk through the files: one slot further, one inode further, and its end.
use Rattle.std.proofs.Common.{◌≡◌, ℕ, zero, suc, ◌+◌, ◌-◌, ◌<◌, ◌≤◌, true, false, ◌⊎◌, List, [], get_or, ⊎_elim, sym, ap, ◌∙◌, arith}
use Rattle.fault.specs.declared.place.Place.{Place}
use Rattle.fault.specs.declared.place.Place.TheVariants.{Slot}
use Rattle.format.specs.Layout.{slots, depth_of}
use Rattle.fault.specs.declared.finding.Kind.TheVariants.{BadAddress, SecondClaim, UnknownType}
use Rattle.format.specs.declared.inode.InodeType.{InodeType}
use Rattle.format.specs.declared.inode.InodeType.TheVariants.{Unused, Regular, Directory, Special, Unknown}
use Rattle.format.specs.Inode.{block_of_inode, mode_of, type_bits, type_rule, address_of}
use Rattle.format.specs.Sizes.{inodes_of}
use Rattle.verdict.specs.Scan.{Scan, opens, note, met, walk, slots_from, by_type, inode}
use Rattle.scan.proofs.Turns.{slots_more, slots_done, files_more, files_done, inode_is, walk_not, walk_data, walk_table}
use Rattle.format.specs.Area.{Area}
use Rattle.checking.specs.declared.level.Open.{Open}
use Rattle.checking.specs.Tables.{open_left, below, Shut}
use Rattle.checking.specs.FilesLeft.{files_from}
use Rattle.checking.proofs.Opens.{left_shut}

module _ (v : Area) (b : List ℕ) (i k : ℕ) (s : Scan) where
  abbrev ss : List (List ℕ)
  ss = v.sectors

  abbrev lo : ℕ
  lo = v.sizes.isize

  abbrev hi : ℕ
  hi = v.sizes.fsize

  abbrev slots_left : ℕ → Scan → Scan
  slots_left k s = files_from v i (slots_from ss lo hi b i k s)

  pub slot_further : (o : Open) (d a : ℕ) → Shut o → k < slots → d ≡ depth_of k → a ≡ address_of i k b
      → slots_left k s ≡ slots_left (k + 1) (open_left v (Slot i k) o (walk ss lo hi (Slot i k) d a s))
  slot_further o d a q h e f =
      let w = walk ss lo hi (Slot i k) d a s in
      let m = slots_more ss lo hi b i k s h in
      let n = left_shut v (Slot i k) o.one o.two o.three w q.0 q.1 q.2 in cc

  pub inode_further : slots ≤ k → i < inodes_of lo → slots_left k s ≡ files_from v (i + 1) (inode ss lo hi (get_or ss (block_of_inode (i + 1)) []) (i + 1) s)
  inode_further h l =
      let e : i + 1 - 1 ≡ i = omega arith in
      let g = slots_done ss lo hi b i k s h in
      let m = files_more ss lo hi i s l in cc

  pub files_end : slots ≤ k → inodes_of lo ≤ i → slots_left k s ≡ s
  files_end h l = ap (files_from v i) (slots_done ss lo hi b i k s h) ∙ files_done ss lo hi i s l

  -- an inode that is taken up while no table is open, by its type
  module _ (t : InodeType) where
    pub claims : (t ≡ Regular) ⊎ (t ≡ Directory) → slots_from ss lo hi b i 0 s ≡ by_type t ss lo hi b i s
    claims h = ⊎_elim (λ (e : t ≡ Regular). rw e) (λ (e : t ≡ Directory). rw e) h

    pub idle : slots ≤ k → (t ≡ Unused) ⊎ (t ≡ Special) → slots_from ss lo hi b i k s ≡ by_type t ss lo hi b i s
    idle l h = let d = slots_done ss lo hi b i k s l in ⊎_elim (λ (e : t ≡ Unused). rw e d) (λ (e : t ≡ Special). rw e d) h

    pub unknown : (m : ℕ) (u : Scan) → slots ≤ k → t ≡ Unknown → m ≡ mode_of i b → u ≡ note UnknownType (type_bits m) (Slot i 0) s
        → slots_from ss lo hi b i k u ≡ by_type t ss lo hi b i s
    unknown m u l e f h = rw e (slots_done ss lo hi b i k u l ∙ h ∙ ap (λ (x : ℕ). note UnknownType (type_bits x) (Slot i 0) s) f)

    pub taken_up : (o : Open) (at : Place) (m : ℕ) (u : Scan) → Shut o → m ≡ mode_of i b → t ≡ type_rule (type_bits m) → b ≡ get_or ss (block_of_inode i) []
        → slots_from ss lo hi b i k u ≡ by_type t ss lo hi b i s
        → slots_left k (open_left v at o u) ≡ files_from v i (inode ss lo hi (get_or ss (block_of_inode i) []) i s)
    taken_up o at m u q e f g h =
        ap (slots_left k) (left_shut v at o.one o.two o.three u q.0 q.1 q.2)
        ∙ ap (files_from v i) (h ∙ sym (inode_is ss lo hi b i m s t e f) ∙ ap (λ (x : List ℕ). inode ss lo hi x i s) g)

-- an address that could be claimed, and the table that it heads
module _ (v : Area) (p : Place) (d a : ℕ) (s : Scan) where
  abbrev claimed : Scan
  claimed = met v.sizes.isize v.sizes.fsize 1 BadAddress SecondClaim p a s

  walk_below : (d : ℕ) → (a ≡ 0 → ⊥) → opens v.sizes.isize v.sizes.fsize a s.codes ≡ true
      → walk v.sectors v.sizes.isize v.sizes.fsize p d a s ≡ below v p d (get_or v.sectors a []) claimed
  walk_below zero n q = walk_data v.sectors v.sizes.isize v.sizes.fsize p a s n
  walk_below (suc d) n q = walk_table v.sectors v.sizes.isize v.sizes.fsize p d a s n q

  pub not_followed : (t : Scan) → (a ≡ 0 → ⊥) → opens v.sizes.isize v.sizes.fsize a s.codes ≡ false → t ≡ claimed → t ≡ walk v.sectors v.sizes.isize v.sizes.fsize p d a s
  not_followed t n q f = f ∙ sym (walk_not v.sectors v.sizes.isize v.sizes.fsize p d a s n q)

  pub followed : (w : Area) (o r : Open) (t : Scan) → w ≡ v → (a ≡ 0 → ⊥) → opens v.sizes.isize v.sizes.fsize a s.codes ≡ true → t ≡ claimed
      → open_left w p r t ≡ open_left w p o (below w p d (get_or w.sectors a []) t)
      → open_left v p r t ≡ open_left v p o (walk v.sectors v.sizes.isize v.sizes.fsize p d a s)
  followed w o r t e n q f h =
      (rw e at h) ∙ ap (λ (x : Scan). open_left v p o (below v p d (get_or v.sectors a []) x)) f ∙ ap (open_left v p o) (sym (walk_below d n q))
