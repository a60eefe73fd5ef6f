-- The walk through a tree, by counts.
use Rattle.std.proofs.Common.{◌≡◌, ℕ, zero, suc, ◌+◌, ◌<◌, ◌≤◌, Bool, true, false, ◌&&◌, eqb, ltb, leb, length, set, sym, refl, ◌∙◌, ⊎_elim, arith, length-set, get_or-set_other, get_or-set_same}
use Rattle.std.proofs.lemmas.List.{set_past}
use Rattle.std.proofs.lemmas.Bool.{cases_eq, cases_lt, and_parts, and_from, leb-true, ltb-true, eqb-true, le-leb, lt-ltb, eq-eqb}
use Rattle.trees.specs.Trees.{total, hit, named, Absent}
use Rattle.trees.specs.Walk.{Scan, code, Data, is_open, follow, meet, steps, walk}
use Rattle.trees.specs.Laws.{WalkSaysEachBlockOnce}
use Rattle.trees.proofs.Sums.{total_at, total_zero, hit_none, hit_same, hit_other, hit_eq}
use Rattle.trees.proofs.Names.{named_none}

-- t is s with no finding more, and f b more at each code
pub record Adds (s t : Scan) (f : ℕ → ℕ) : Type 0 where
  pub none : t.found ≡ s.found
  pub sized : length t.codes ≡ length s.codes
  pub codes : (b : ℕ) → code t b ≡ code s b + f b

-- what each step keeps
pub steps_keep : (P : Scan → Type 0) (g : ℕ → Scan → Scan) → ((k : ℕ) (s : Scan) → P s → P (g k s)) → (m : ℕ) (s : Scan) → P s → P (steps m g s)
unfolding steps
steps_keep P g h zero s p = p
steps_keep P g h (suc m) s p = h m (steps m g s) (steps_keep P g h m s p)

-- steps that add
pub steps_add : (hi : ℕ) (g : ℕ → Scan → Scan) (f : ℕ → ℕ → ℕ) (m : ℕ)
    → ((k : ℕ) (s : Scan) → k < m → hi ≤ length s.codes → ((b : ℕ) → code s b + f k b ≤ 1) → Adds s (g k s) (f k))
    → (s : Scan) → hi ≤ length s.codes → ((b : ℕ) → code s b + total m (λ k. f k b) ≤ 1) → Adds s (steps m g s) (λ b. total m (λ k. f k b))
unfolding steps total
steps_add hi g f zero h s l c = record { none = refl; sized = refl; codes = λ b. omega arith }
steps_add hi g f (suc m) h s l c =
    let r = steps_add hi g f m (λ k t q. h k t (omega arith)) s l (λ b. omega (arith, c b)) in
    let n = h m (steps m g s) (omega arith) (omega (arith, r.sized)) (λ b. omega (arith, c b, r.codes b)) in
    record { none = omega (arith, n.none, r.none); sized = omega (arith, n.sized, r.sized); codes = λ b. omega (arith, r.codes b, n.codes b) }

-- steps without a finding
pub steps_met : (hi : ℕ) (D : ℕ → Type 0) (g : ℕ → Scan → Scan) (f : ℕ → ℕ → ℕ) (m : ℕ)
    → ((k : ℕ) (s : Scan) → s.found ≤ (g k s).found)
    → ((k : ℕ) (s : Scan) → k < m → hi ≤ length s.codes → (g k s).found ≡ s.found → Adds s (g k s) (f k) × ((b : ℕ) → 0 < f k b → D b))
    → (s : Scan) → hi ≤ length s.codes → (steps m g s).found ≡ s.found
    → Adds s (steps m g s) (λ b. total m (λ k. f k b)) × ((b : ℕ) → 0 < total m (λ k. f k b) → D b)
unfolding steps total
steps_met hi D g f zero up h s l e = (record { none = refl; sized = refl; codes = λ b. omega arith }, λ b q. absurd (omega arith))
steps_met hi D g f (suc m) up h s l e =
    let u : s.found ≤ (steps m g s).found = steps_keep (λ t. s.found ≤ t.found) g (λ k t q. omega (arith, up k t)) m s (omega arith) in
    let v = up m (steps m g s) in
    let r = steps_met hi D g f m up (λ k t q. h k t (omega arith)) s l (omega arith) in
    let n = h m (steps m g s) (omega arith) (omega (arith, r.0.sized)) (omega arith) in (
      record { none = e; sized = omega (arith, n.0.sized, r.0.sized); codes = λ b. omega (arith, r.0.codes b, n.0.codes b) },
      λ b q. ⊎_elim (λ (x : 0 < f m b). n.1 b x) (λ (x : f m b ≤ 0). r.1 b (omega arith)) (cases_lt 0 (f m b)),
    )

-- the test
pub open_parts : (lo hi a : ℕ) (s : Scan) → is_open lo hi a s ≡ true → Data lo hi a × (code s a ≡ 0)
unfolding is_open
open_parts lo hi a s e =
    let p = and_parts (leb lo a && ltb a hi) (eqb (code s a) 0) e in
    let q = and_parts (leb lo a) (ltb a hi) p.0 in
    ((leb-true lo a q.0, ltb-true a hi q.1), eqb-true (code s a) 0 p.1)

pub open_from : (lo hi a : ℕ) (s : Scan) → Data lo hi a → code s a ≡ 0 → is_open lo hi a s ≡ true
unfolding is_open
open_from lo hi a s d e = and_from _ _ (and_from _ _ (le-leb lo a d.0) (lt-ltb a hi d.1)) (eq-eqb (code s a) 0 e)

-- s with a claimed
abbrev pub claimed : ℕ → Scan → Scan
claimed a s = record { codes = set s.codes a 1; found = s.found }

claimed_add : (a : ℕ) (s : Scan) → 0 < a → a < length s.codes → code s a ≡ 0 → Adds s (claimed a s) (hit a)
claimed_add a s p l e = record { none = refl; sized = length-set s.codes a 1; codes = at_block }
  where
    at_block : (b : ℕ) → code (claimed a s) b ≡ code s b + hit a b
    at_block b =
        ⊎_elim
        (λ (q : b ≡ a). rw q (omega (arith, get_or-set_same s.codes a 1 0 l, hit_same a p)))
        (λ (q : b ≡ a → ⊥). omega (arith, get_or-set_other s.codes a b 1 0 q, hit_other a b (λ (r : a ≡ b). q (sym r))))
        (cases_eq b a)

module _ (lo hi : ℕ) where
  -- one address, whose tree below adds f
  meet_add : (a : ℕ) (below : Scan → Scan) (f : ℕ → ℕ) → (a ≡ 0 → (b : ℕ) → f b ≡ 0)
      → ((t : Scan) → hi ≤ length t.codes → ((b : ℕ) → code t b + f b ≤ 1) → Adds t (below t) f)
      → (s : Scan) → hi ≤ length s.codes → (0 < a → Data lo hi a) → ((b : ℕ) → code s b + (hit a b + f b) ≤ 1)
      → Adds s (meet lo hi a below s) (λ b. hit a b + f b)
  unfolding meet follow
  meet_add zero below f z h s l d c = record { none = refl; sized = refl; codes = λ b. omega (arith, hit_none b, z refl b) }
  meet_add (suc a) below f z h s l d c =
      let p : 0 < suc a = omega arith in
      let e : code s (suc a) ≡ 0 = omega (arith, c (suc a), hit_same (suc a) p) in
      let k = claimed_add (suc a) s p (omega (arith, (d p).1)) e in
      let r = h (claimed (suc a) s) (omega (arith, k.sized)) (λ b. omega (arith, c b, k.codes b)) in
      rw (open_from lo hi (suc a) s (d p) e)
      (record { none = r.none; sized = r.sized ∙ k.sized; codes = λ b. omega (arith, r.codes b, k.codes b) })

  meet_met : (a : ℕ) (below : Scan → Scan) (f : ℕ → ℕ) → (a ≡ 0 → (b : ℕ) → f b ≡ 0)
      → ((t : Scan) → hi ≤ length t.codes → (below t).found ≡ t.found → Adds t (below t) f × ((b : ℕ) → 0 < f b → Data lo hi b))
      → (s : Scan) → hi ≤ length s.codes → (meet lo hi a below s).found ≡ s.found
      → Adds s (meet lo hi a below s) (λ b. hit a b + f b) × ((b : ℕ) → 0 < hit a b + f b → Data lo hi b)
  unfolding meet follow
  meet_met zero below f z h s l e =
      (record { none = refl; sized = refl; codes = λ b. omega (arith, hit_none b, z refl b) }, λ b q. absurd (omega (arith, hit_none b, z refl b)))
  meet_met (suc a) below f z h s l e = go (is_open lo hi (suc a) s) refl e
    where
      go : (o : Bool) → is_open lo hi (suc a) s ≡ o → (follow o (suc a) below s).found ≡ s.found
          → Adds s (follow o (suc a) below s) (λ b. hit (suc a) b + f b) × ((b : ℕ) → 0 < hit (suc a) b + f b → Data lo hi b)
      go false o x = absurd (omega arith)
      go true o x =
          let p = open_parts lo hi (suc a) s o in
          let k = claimed_add (suc a) s (omega arith) (omega arith) p.1 in
          let r = h (claimed (suc a) s) (omega (arith, k.sized)) x in (
            record { none = x; sized = r.0.sized ∙ k.sized; codes = λ b. omega (arith, r.0.codes b, k.codes b) },
            λ b q. ⊎_elim (λ (y : 0 < f b). r.1 b y) (λ (y : f b ≤ 0). rw (← (hit_eq (suc a) b (omega arith))) p.0) (cases_lt 0 (f b)),
          )

  meet_keep : (P : Scan → Type 0) → ((s : Scan) → P s → P (record { codes = s.codes; found = suc s.found }))
      → ((a : ℕ) (s : Scan) → P s → P (claimed a s)) → (a : ℕ) (below : Scan → Scan) → ((t : Scan) → P t → P (below t)) → (s : Scan) → P s → P (meet lo hi a below s)
  unfolding meet follow
  meet_keep P more claim zero below h s p = p
  meet_keep P more claim (suc a) below h s p = go (is_open lo hi (suc a) s)
    where
      go : (o : Bool) → P (follow o (suc a) below s)
      go true = h (claimed (suc a) s) (claim (suc a) s p)
      go false = more s p

  module _ (w : ℕ) (at : ℕ → ℕ → ℕ) where
    pub walk_keep : (P : Scan → Type 0) → ((s : Scan) → P s → P (record { codes = s.codes; found = suc s.found }))
        → ((a : ℕ) (s : Scan) → P s → P (claimed a s)) → (d a : ℕ) (s : Scan) → P s → P (walk w at lo hi d a s)
    unfolding walk
    walk_keep P more claim zero a s p = meet_keep P more claim a (λ t. t) (λ t q. q) s p
    walk_keep P more claim (suc d) a s p =
        meet_keep P more claim a (λ t. steps w (λ k. walk w at lo hi d (at a k)) t)
        (steps_keep P (λ k. walk w at lo hi d (at a k)) (λ k. walk_keep P more claim d (at a k)) w) s p

    pub walk_up : (d a : ℕ) (s : Scan) → s.found ≤ (walk w at lo hi d a s).found
    walk_up d a s = walk_keep (λ t. s.found ≤ t.found) (λ t q. omega arith) (λ b t q. q) d a s (omega arith)

    pub walk_small : (d a : ℕ) (s : Scan) → ((b : ℕ) → code s b ≤ 1) → (b : ℕ) → code (walk w at lo hi d a s) b ≤ 1
    walk_small d a s = walk_keep (λ t. (b : ℕ) → code t b ≤ 1) (λ t q. q) claim d a s
      where
        claim : (a : ℕ) (t : Scan) → ((b : ℕ) → code t b ≤ 1) → (b : ℕ) → code (claimed a t) b ≤ 1
        claim a t q b =
            ⊎_elim
            (λ (e : b ≡ a). ⊎_elim (λ (l : a < length t.codes). rw e (omega (arith, get_or-set_same t.codes a 1 0 l))) (λ (l : length t.codes ≤ a). rw (set_past t.codes a 1 l) (q b)) (cases_lt a (length t.codes)))
            (λ (e : b ≡ a → ⊥). omega (arith, get_or-set_other t.codes a b 1 0 e, q b))
            (cases_eq b a)

    module _ (z : Absent at) where
      below_none : (d a : ℕ) → a ≡ 0 → (b : ℕ) → total w (λ k. named w at d (at a k) b) ≡ 0
      below_none d a e b = total_zero w (λ k. named w at d (at a k) b) (λ k l. rw (e, z k) (named_none w at z d b))

      pub walk_add : (d a : ℕ) (s : Scan) → hi ≤ length s.codes → ((b : ℕ) → 0 < named w at d a b → Data lo hi b)
          → ((b : ℕ) → code s b + named w at d a b ≤ 1) → Adds s (walk w at lo hi d a s) (named w at d a)
      unfolding walk named
      walk_add zero a s l h c =
          let r = meet_add a (λ t. t) (λ b. 0) (λ e b. refl) (λ t q y. record { none = refl; sized = refl; codes = λ b. omega arith }) s l
          (λ p. h a (omega (arith, hit_same a p))) (λ b. omega (arith, c b)) in
          record { none = r.none; sized = r.sized; codes = λ b. omega (arith, r.codes b) }
      walk_add (suc d) a s l h c =
          meet_add a (λ t. steps w (λ k. walk w at lo hi d (at a k)) t) (λ b. total w (λ k. named w at d (at a k) b)) (below_none d a)
          (λ t q y. steps_add hi (λ k. walk w at lo hi d (at a k)) (λ k b. named w at d (at a k) b) w
          (λ k u m x v. walk_add d (at a k) u x (λ b p. h b (omega (arith, total_at w (λ k. named w at d (at a k) b) k m))) v) t q y)
          s l (λ p. h a (omega (arith, hit_same a p))) c

      pub walk_met : (d a : ℕ) (s : Scan) → hi ≤ length s.codes → (walk w at lo hi d a s).found ≡ s.found
          → Adds s (walk w at lo hi d a s) (named w at d a) × ((b : ℕ) → 0 < named w at d a b → Data lo hi b)
      unfolding walk named
      walk_met zero a s l e =
          let r = meet_met a (λ t. t) (λ b. 0) (λ e b. refl) (λ t q y. (record { none = refl; sized = refl; codes = λ b. omega arith }, λ b q. absurd (omega arith))) s l e in
          (record { none = e; sized = r.0.sized; codes = λ b. omega (arith, r.0.codes b) }, λ b q. r.1 b (omega arith))
      walk_met (suc d) a s l e =
          meet_met a (λ t. steps w (λ k. walk w at lo hi d (at a k)) t) (λ b. total w (λ k. named w at d (at a k) b)) (below_none d a)
          (λ t q y. steps_met hi (Data lo hi) (λ k. walk w at lo hi d (at a k)) (λ k b. named w at d (at a k) b) w
          (λ k u. walk_up d (at a k) u) (λ k u m x v. walk_met d (at a k) u x v) t q y)
          s l e

pub walked : WalkSaysEachBlockOnce
walked w at z lo hi d a s l c = (
  (
    λ e. let r = walk_met lo hi w at z d a s l e in (r.1, λ b. let y = walk_small lo hi w at d a s c b in omega (arith, r.0.codes b)),
    λ f. (walk_add lo hi w at z d a s l f.0 f.1).none,
  ),
  λ e. (walk_met lo hi w at z d a s l e).0.codes,
)
