-- What lies outside of a file's trees does not matter to the file.
use Rattle.std.proofs.Common.{◌≡◌, ℕ, zero, suc, ◌+◌, ◌<◌, ◌≤◌, List, [], ◌∷◌, length, sym, refl, ap, ◌∙◌, arith}
use Rattle.std.specs.List.{AllByRecursion as All}
use Rattle.trees.specs.Trees.{hit, named, reach, Absent}
use Rattle.trees.specs.Volume.{in_file, claims}
use Rattle.trees.proofs.Sums.{total_same, total_at, hit_same}
use Rattle.trees.proofs.Files.{slot_at, file_at}

pub named_head : (w : ℕ) (at : ℕ → ℕ → ℕ) (d a b : ℕ) → hit a b ≤ named w at d a b
unfolding named
named_head w at zero a b = omega arith
named_head w at (suc d) a b = omega arith

-- a tree below is part of the tree
pub named_below : (w : ℕ) (at : ℕ → ℕ → ℕ) (d a k b : ℕ) → k < w → named w at d (at a k) b ≤ named w at (suc d) a b
unfolding named
named_below w at d a k b l = omega (arith, total_at w (λ k. named w at d (at a k) b) k l)

-- a block that a path reaches is named
pub reach_named : (w : ℕ) (at : ℕ → ℕ → ℕ) (is : List ℕ) (a : ℕ) → All (λ i. i < w) is → 0 < reach at is a → 0 < named w at (length is) a (reach at is a)
unfolding reach named
reach_named w at [] a p q = omega (arith, hit_same a q)
reach_named w at (i ∷ is) a p q =
    let r = reach_named w at is (at a i) p.1 q in
    omega (arith, named_below w at (length is) a i (reach at is (at a i)) p.0)

-- nothing is reached from the absent address
pub reach_none : (at : ℕ → ℕ → ℕ) → Absent at → (is : List ℕ) → reach at is 0 ≡ 0
unfolding reach
reach_none at z [] = refl
reach_none at z (i ∷ is) = ap (reach at is) (z i) ∙ reach_none at z is

module _ (w : ℕ) (at at' : ℕ → ℕ → ℕ) (z : Absent at) (z' : Absent at') where
  -- the tables of a tree read alike
  abbrev pub Kept : ℕ → ℕ → Type 0
  Kept d a = (t k : ℕ) → 0 < named w at d a t → k < w → at' t k ≡ at t k

  kept_below : (d a k : ℕ) → k < w → Kept (suc d) a → Kept d (at a k)
  kept_below d a k l h t j p q = h t j (omega (arith, named_below w at d a k t l)) q

  -- a table of the tree, or the absent one
  pub same_row : (d a : ℕ) → Kept d a → (k : ℕ) → k < w → at' a k ≡ at a k
  same_row d zero h k l = z' k ∙ sym (z k)
  same_row d (suc a) h k l = h (suc a) k (let e = hit_same (suc a) (omega arith) in omega (arith, named_head w at d (suc a) (suc a))) l

  -- then it names the same blocks, and every path reaches the same
  pub names_kept : (d a : ℕ) → Kept d a → (b : ℕ) → named w at' d a b ≡ named w at d a b
  unfolding named
  names_kept zero a h b = refl
  names_kept (suc d) a h b =
      ap (λ (n : ℕ). hit a b + n)
      (total_same w (λ k. named w at' d (at' a k) b) (λ k. named w at d (at a k) b)
      (λ k l. rw (same_row (suc d) a h k l) (names_kept d (at a k) (kept_below d a k l h) b)))

  pub paths_kept : (is : List ℕ) (a : ℕ) → All (λ i. i < w) is → Kept (length is) a → reach at' is a ≡ reach at is a
  unfolding reach
  paths_kept [] a p h = refl
  paths_kept (i ∷ is) a p h =
      rw (same_row (suc (length is)) a h i p.0) (paths_kept is (at a i) p.1 (kept_below (length is) a i p.0 h))

  -- the same for all files of a volume, whose heads are alike
  module _ (depth : ℕ → ℕ) (I J : ℕ) (head head' : ℕ → ℕ → ℕ)
      (kept : (t k : ℕ) → 0 < claims w at depth I J head t → k < w → at' t k ≡ at t k)
      (heads : (i s : ℕ) → i < I → s < J → head' i s ≡ head i s) where
    slot_kept : (i s : ℕ) → i < I → s < J → Kept (depth s) (head i s)
    slot_kept i s li ls t k p q = kept t k (omega (arith, slot_at w at depth J (head i) s t ls, file_at w at depth I J head i t li)) q

    slot_same : (i s b : ℕ) → i < I → s < J → named w at' (depth s) (head' i s) b ≡ named w at (depth s) (head i s) b
    slot_same i s b li ls = rw (heads i s li ls) (names_kept (depth s) (head i s) (slot_kept i s li ls) b)

    pub claims_kept : (b : ℕ) → claims w at' depth I J head' b ≡ claims w at depth I J head b
    unfolding claims in_file
    claims_kept b = total_same I _ _ (λ i li. total_same J _ _ (λ s ls. slot_same i s b li ls))

    pub reached_kept : (i s : ℕ) → i < I → s < J → (js : List ℕ) → All (λ i. i < w) js → length js ≡ depth s → reach at' js (head' i s) ≡ reach at js (head i s)
    reached_kept i s li ls js p e = rw (heads i s li ls) (paths_kept js (head i s) p (rw e (slot_kept i s li ls)))
