-- Which blocks a file names: a tree of tables, read through `at`, where `at a k` is address k of the table in block a.
-- Address 0 is absent, and nothing stands in the absent table: `at 0 k` is 0. A table has w addresses.
use Rattle.std.specs.Prelude.{◌≡◌, ℕ, zero, suc, ◌+◌, cond, List, [], ◌∷◌, ◌==◌}

-- f 0 + f 1 + .. + f (w - 1)
unfoldable pub total : ℕ → (ℕ → ℕ) → ℕ
total zero f = 0
total (suc w) f = total w f + f w

-- 1 where the address a names block b, else 0; the absent address names none
unfoldable pub hit : ℕ → ℕ → ℕ
hit zero b = 0
hit (suc a) b = cond (suc a == b) 1 0

-- how often b is named in a list of addresses
unfoldable pub count : List ℕ → ℕ → ℕ
count [] b = 0
count (a ∷ more) b = hit a b + count more b

-- how often b is named in the tree of depth d that a heads: by its head, and in the trees below it
unfoldable pub named : ℕ → (ℕ → ℕ → ℕ) → ℕ → ℕ → ℕ → ℕ
named w at zero a b = hit a b
named w at (suc d) a b = hit a b + total w (λ k. named w at d (at a k) b)

-- the address that a path of indices reaches from a
unfoldable pub reach : (ℕ → ℕ → ℕ) → List ℕ → ℕ → ℕ
reach at [] a = a
reach at (i ∷ is) a = reach at is (at a i)

-- the absent table has no address
abbrev pub Absent : (ℕ → ℕ → ℕ) → Type 0
Absent at = (k : ℕ) → at 0 k ≡ 0
