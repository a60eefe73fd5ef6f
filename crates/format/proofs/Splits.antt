-- A position and its slot and indices determine each other.
use Rattle.std.proofs.Common.{◌≡◌, ℕ, ◌+◌, ◌-◌, ◌*◌, ◌/◌, ◌%◌, ◌<◌, ◌≤◌, List, [], ◌∷◌, length, take, sym, refl, ap, ◌∙◌, ⊎_elim, arith}
use Rattle.std.proofs.lemmas.Bool.{cases_lt, lt-ltb, le-ltb}
use Rattle.format.specs.Layout.{table_width, slots, direct_slots, depth_of}
use Rattle.format.specs.Position.{Split, end_of_one, end_of_two, positions, in_one, in_two, in_three, split_of, slot_of, path_of}
use Rattle.format.specs.Laws.{Within, SplitExamples}

-- the split of a position, by the slot that it goes through
pub in_direct : (p : ℕ) → p < direct_slots → split_of p ≡ (p, 0, 0, 0, 0)
unfolding split_of
in_direct p a = let x = lt-ltb p direct_slots a in rw x

pub in_single : (p : ℕ) → direct_slots ≤ p → p < end_of_one → split_of p ≡ in_one (p - direct_slots)
unfolding split_of
in_single p a b = let x = le-ltb p direct_slots a in let y = lt-ltb p end_of_one b in rw (x, y)

pub in_double : (p : ℕ) → end_of_one ≤ p → p < end_of_two → split_of p ≡ in_two (p - end_of_one)
unfolding split_of
in_double p b c = let x = le-ltb p direct_slots (omega arith) in let y = le-ltb p end_of_one b in let z = lt-ltb p end_of_two c in rw (x, y, z)

pub in_triple : (p : ℕ) → end_of_two ≤ p → split_of p ≡ in_three (p - end_of_two)
unfolding split_of
in_triple p c = let x = le-ltb p direct_slots (omega arith) in let y = le-ltb p end_of_one (omega arith) in let z = le-ltb p end_of_two c in rw (x, y, z)

-- the four kinds of positions
pub data Kind (p : ℕ) : Type 0 where
  direct : p < direct_slots → split_of p ≡ (p, 0, 0, 0, 0) → Kind p
  single : direct_slots ≤ p → p < end_of_one → split_of p ≡ in_one (p - direct_slots) → Kind p
  double : end_of_one ≤ p → p < end_of_two → split_of p ≡ in_two (p - end_of_one) → Kind p
  triple : end_of_two ≤ p → split_of p ≡ in_three (p - end_of_two) → Kind p

pub kind : (p : ℕ) → Kind p
kind p =
    ⊎_elim
    (λ (a : p < direct_slots). direct a (in_direct p a))
    (λ (a : direct_slots ≤ p).
    ⊎_elim
    (λ (b : p < end_of_one). single a b (in_single p a b))
    (λ (b : end_of_one ≤ p).
    ⊎_elim (λ (c : p < end_of_two). double b c (in_double p b c)) (λ (c : end_of_two ≤ p). triple c (in_triple p c)) (cases_lt p end_of_two))
    (cases_lt p end_of_one))
    (cases_lt p direct_slots)

-- the indices of a split
abbrev way : Split → List ℕ
way t = take t.1 (t.2 ∷ t.3 ∷ t.4 ∷ [])

slot_is : (p : ℕ) (t : Split) → split_of p ≡ t → slot_of p ≡ t.0
slot_is p t e = ap (λ (u : Split). u.0) e

path_is : (p : ℕ) (t : Split) → split_of p ≡ t → path_of p ≡ way t
path_is p t e = ap way e

pub slot_in : (p : ℕ) → slot_of p < slots
slot_in p = go (kind p)
  where
    go : Kind p → slot_of p < slots
    go (direct a e) = rw (slot_is p _ e) (omega arith)
    go (single a b e) = rw (slot_is p _ e) (omega arith)
    go (double b c e) = rw (slot_is p _ e) (omega arith)
    go (triple c e) = rw (slot_is p _ e) (omega arith)

pub path_long : (p : ℕ) → length (path_of p) ≡ depth_of (slot_of p)
path_long p = go (kind p)
  where
    go : Kind p → length (path_of p) ≡ depth_of (slot_of p)
    go (direct a e) = rw (path_is p _ e, slot_is p _ e) (omega arith)
    go (single a b e) = rw (path_is p _ e, slot_is p _ e) refl
    go (double b c e) = rw (path_is p _ e, slot_is p _ e) refl
    go (triple c e) = rw (path_is p _ e, slot_is p _ e) refl

pub path_in : (p : ℕ) → p < positions → Within table_width (path_of p)
path_in p l = go (kind p)
  where
    go : Kind p → Within table_width (path_of p)
    go (direct a e) = rw (path_is p _ e) tt
    go (single a b e) = rw (path_is p _ e) (omega arith, tt)
    go (double b c e) = rw (path_is p _ e) (omega arith, (omega arith, tt))
    go (triple c e) = rw (path_is p _ e) (omega arith, (omega arith, (omega arith, tt)))

-- the position of a slot and indices
abbrev pub place : ℕ → List ℕ → ℕ
place s [] = s
place s (i ∷ []) = direct_slots + i
place s (i ∷ j ∷ []) = end_of_one + (table_width * i + j)
place s (i ∷ j ∷ k ∷ is) = end_of_two + (table_width * table_width * i + (table_width * j + k))

pub place_back : (p : ℕ) → place (slot_of p) (path_of p) ≡ p
place_back p = go (kind p)
  where
    go : Kind p → place (slot_of p) (path_of p) ≡ p
    go (direct a e) = rw (path_is p _ e, slot_is p _ e) refl
    go (single a b e) = rw (path_is p _ e) (omega arith)
    go (double b c e) = rw (path_is p _ e) (omega arith)
    go (triple c e) = rw (path_is p _ e) (omega arith)

pub split_once : (p q : ℕ) → slot_of p ≡ slot_of q → path_of p ≡ path_of q → p ≡ q
split_once p q e f = sym (place_back p) ∙ ap (λ (s : ℕ). place s (path_of p)) e ∙ ap (place (slot_of q)) f ∙ place_back q

-- a slot and indices are those of their position
pub record Reached (s : ℕ) (is : List ℕ) : Type 0 where
  pub place_in : place s is < positions
  pub slot_back : slot_of (place s is) ≡ s
  pub path_back : path_of (place s is) ≡ is

reached : (s : ℕ) (is : List ℕ) (t : Split) → place s is < positions → split_of (place s is) ≡ t → t.0 ≡ s → way t ≡ is → Reached s is
reached s is t l e a b = record { place_in = l; slot_back = slot_is (place s is) t e ∙ a; path_back = path_is (place s is) t e ∙ b }

pub reach : (s : ℕ) (is : List ℕ) → s < slots → length is ≡ depth_of s → Within table_width is → Reached s is
reach s [] l e w =
    let d : s < direct_slots = omega arith in
    reached s [] (s, 0, 0, 0, 0) (omega arith) (in_direct s d) refl refl
reach s (i ∷ []) l e w =
    let h : i < table_width = w.0 in
    reached s (i ∷ []) (in_one (direct_slots + i - direct_slots)) (omega arith) (in_single (direct_slots + i) (omega arith) (omega arith)) (omega arith)
    (let a : direct_slots + i - direct_slots ≡ i = omega arith in ap (λ (n : ℕ). n ∷ []) a)
reach s (i ∷ j ∷ []) l e w =
    let h : i < table_width = w.0 in
    let k : j < table_width = w.1.0 in
    reached s (i ∷ j ∷ []) (in_two (end_of_one + (table_width * i + j) - end_of_one)) (omega arith)
    (in_double (end_of_one + (table_width * i + j)) (omega arith) (omega arith)) (omega arith)
    (let a : (end_of_one + (table_width * i + j) - end_of_one) / table_width ≡ i = omega arith in
    let b : (end_of_one + (table_width * i + j) - end_of_one) % table_width ≡ j = omega arith in
    rw (a, b))
reach s (i ∷ j ∷ k ∷ []) l e w =
    let h : i < table_width = w.0 in
    let m : j < table_width = w.1.0 in
    let n : k < table_width = w.1.1.0 in
    reached s (i ∷ j ∷ k ∷ []) (in_three (end_of_two + (table_width * table_width * i + (table_width * j + k)) - end_of_two)) (omega arith)
    (in_triple (end_of_two + (table_width * table_width * i + (table_width * j + k))) (omega arith)) (omega arith)
    (let r : end_of_two + (table_width * table_width * i + (table_width * j + k)) - end_of_two ≡ table_width * table_width * i + (table_width * j + k) = omega arith in
    let a : (table_width * table_width * i + (table_width * j + k)) / (table_width * table_width) ≡ i = omega arith in
    let b : (table_width * table_width * i + (table_width * j + k)) / table_width % table_width ≡ j = omega arith in
    let c : (table_width * table_width * i + (table_width * j + k)) % table_width ≡ k = omega arith in
    rw (r, a, b, c))
reach s (i ∷ j ∷ k ∷ n ∷ is) l e w = absurd (omega arith)

pub split_examples : SplitExamples
unfolding split_of
split_examples = refl
