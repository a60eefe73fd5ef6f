-- The forwarder: worn sectors are kept at the end of the disk below.
use Rattle.std.specs.Prelude.{◌≡◌, ℕ, zero, suc, ◌+◌, ◌-◌, ◌<◌, Bool, true, false, cond, List, [], ◌∷◌, length, get_or, ◌==◌, ◌≢◌, nat_le, nat_lt, slice_index, slice_index_or}
use Rattle.disk.specs.Medium.{Medium, Sectors}

-- the most worn sectors that a forwarder holds
abbrev pub most_worn : ℕ
most_worn = 16

-- where sector s is kept: entry j of the worn ones in sector n + j
unfoldable pub home : List ℕ → ℕ → ℕ → ℕ
home [] n s = s
home (w ∷ ws) n s = cond (w == s) n (home ws (suc n) s)

unfoldable pub row : (ℕ → List ℕ) → ℕ → ℕ → Sectors
row f k zero = []
row f k (suc n) = f k ∷ row f (suc k) n

unfoldable pub forwarded : List ℕ → Sectors → Sectors
forwarded ws S = row (λ s. get_or S (home ws (length S - length ws) s) []) 0 (length S - length ws)

abbrev pub forward : List ℕ → Medium → Medium
forward ws m = record { sectors = forwarded ws m.sectors; power = m.power }

-- w is none of ws
abbrev pub is_new : ℕ → List ℕ → Bool
is_new w [] = true
is_new w (x ∷ ws) = cond (w == x) false (is_new w ws)

-- each is below n, none is repeated
abbrev pub all_new : ℕ → List ℕ → Bool
all_new n [] = true
all_new n (w ∷ ws) = cond (nat_lt w n) (cond (is_new w ws) (all_new n ws) false) false

-- worn numbers that a disk of this count takes
abbrev pub is_lawful : ℕ → List ℕ → Bool
is_lawful count ws = cond (nat_le (length ws) most_worn) (cond (nat_le (length ws) count) (all_new (count - length ws) ws) false) false

-- the worn sectors lie at the end of the disk below, in their order, all others where they were
abbrev pub ForwardLaw : Type 0
ForwardLaw =
    (ws : List ℕ) (S : Sectors) → is_lawful (length S) ws ≡ true
    → (length (forwarded ws S) ≡ length S - length ws)
    × ((j : ℕ) → j < length ws → slice_index_or (forwarded ws S) (slice_index ws j) [] ≡ slice_index_or S (length S - length ws + j) [])
    × ((s : ℕ) → s < length S - length ws → ((j : ℕ) → j < length ws → slice_index ws j ≢ s) → slice_index_or (forwarded ws S) s [] ≡ slice_index_or S s [])
