-- What a tree names.
use Rattle.std.proofs.Common.{◌≡◌, ℕ, zero, suc, arith}
use Rattle.trees.specs.Trees.{total, named, Absent}
use Rattle.trees.proofs.Sums.{total_zero, hit_none}

-- the absent tree names nothing
pub named_none : (w : ℕ) (at : ℕ → ℕ → ℕ) → Absent at → (d b : ℕ) → named w at d 0 b ≡ 0
unfolding named
named_none w at z zero b = hit_none b
named_none w at z (suc d) b =
    let s : total w (λ k. named w at d (at 0 k) b) ≡ 0 = total_zero w (λ k. named w at d (at 0 k) b) (λ k l. rw (z k) (named_none w at z d b)) in
    omega (arith, hit_none b)
