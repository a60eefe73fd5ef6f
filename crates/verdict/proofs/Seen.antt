-- The check's scan, seen as one that only counts its findings: there it is a walk through trees.
use Rattle.std.proofs.Common.{◌≡◌, ℕ, zero, suc, ◌+◌, ◌<◌, ◌≤◌, Bool, true, false, cond, ◌&&◌, eqb, ltb, leb, List, [], length, get_or, refl, ap, ◌∙◌, arith, length-append, length-set}
use Rattle.std.proofs.lemmas.Bool.{and_parts, ne_eqb}
use Rattle.fault.specs.declared.place.Place.{Place}
use Rattle.fault.specs.declared.finding.Kind.{Kind}
use Rattle.fault.specs.declared.finding.Kind.TheVariants.{BadAddress, SecondClaim}
use Rattle.fault.specs.declared.finding.Finding.{Finding}
use Rattle.disk.specs.Medium.{Sectors}
use Rattle.format.specs.Layout.{table_width}
use Rattle.trees.specs.Walk.{Scan as Count, is_open, follow, meet, steps, walk as tree_walk}
use Rattle.verdict.specs.Scan.{Log, all, shown, push, Scan, note, claim, opens, met, rows, rest, walk, table_entry}
use Rattle.verdict.specs.Sound.{entry}
use Rattle.verdict.proofs.Rows.{rows_none, rows_last, rest_keep, rest_all}

-- the number of findings
abbrev pub found_in : Log → ℕ
found_in (all fs) = length fs
found_in (shown l n b) = n

abbrev pub counting : List ℕ → ℕ → Count
counting cs n = record { codes = cs; found = n }

abbrev pub seen : Scan → Count
seen s = counting s.codes (found_in s.log)

-- one finding more
abbrev pub more : Count → Count
more s = counting s.codes (suc s.found)

found_push : (l : Log) (f : Finding) → found_in (push l f) ≡ suc (found_in l)
found_push (all fs) f = simp length-append (omega arith)
found_push (shown l n b) f = omega arith

pub note_seen : (k : Kind) (a : ℕ) (p : Place) (s : Scan) → seen (note k a p s) ≡ more (seen s)
note_seen k a p s = ap (counting s.codes) (found_push s.log (record { kind = k; address = a; place = p }))

pub opens_same : (lo hi a : ℕ) (s : Scan) → is_open lo hi a (seen s) ≡ opens lo hi a s.codes
unfolding is_open opens
opens_same lo hi a s = refl

-- an address that opens is claimed, any other is a finding
pub met_open : (lo hi v : ℕ) (bad again : Kind) (p : Place) (a : ℕ) (s : Scan) → opens lo hi a s.codes ≡ true → met lo hi v bad again p a s ≡ claim v a s
unfolding met opens
met_open lo hi v bad again p a s e =
    let q = and_parts (leb lo a && ltb a hi) (eqb (get_or s.codes a 0) 0) e in
    rw (q.0, q.1)

pub met_shut : (lo hi v : ℕ) (bad again : Kind) (p : Place) (a : ℕ) (s : Scan) → opens lo hi a s.codes ≡ false → seen (met lo hi v bad again p a s) ≡ more (seen s)
unfolding met opens
met_shut lo hi v bad again p a s e = go (leb lo a && ltb a hi) (eqb (get_or s.codes a 0) 0) e
  where
    go : (i n : Bool) → (i && n) ≡ false → seen (cond i (cond n (claim v a s) (note again a p s)) (note bad a p s)) ≡ more (seen s)
    go true true e = absurd (let z : ◌≡◌ {A = ℕ} 0 1 = cc in omega arith)
    go true false e = note_seen again a p s
    go false n e = note_seen bad a p s

-- what claims and findings keep
pub record Keeps (P : Scan → Type 0) : Type 0 where
  pub claims : (v a : ℕ) (s : Scan) → P s → P (claim v a s)
  pub notes : (k : Kind) (a : ℕ) (p : Place) (s : Scan) → P s → P (note k a p s)

-- no finding is lost
pub keeps_found : (n : ℕ) → Keeps (λ s. n ≤ found_in s.log)
keeps_found n = record { claims = λ v a s h. h; notes = λ k a p s h. omega (arith, found_push s.log (record { kind = k; address = a; place = p })) }

-- each block has a code
pub keeps_length : (n : ℕ) → Keeps (λ s. length s.codes ≡ n)
keeps_length n = record { claims = λ v a s h. length-set s.codes a v ∙ h; notes = λ k a p s h. h }

-- the log has all findings
abbrev pub whole : Log → Bool
whole (all fs) = true
whole (shown l n b) = false

pub keeps_whole : Keeps (λ s. whole s.log ≡ true)
keeps_whole = record { claims = λ v a s h. h; notes = λ k a p s h. go s.log (record { kind = k; address = a; place = p }) h }
  where
    go : (l : Log) (f : Finding) → whole l ≡ true → whole (push l f) ≡ true
    go (all fs) f h = refl
    go (shown l n b) f h = h

pub met_keep : (P : Scan → Type 0) → Keeps P → (lo hi v : ℕ) (bad again : Kind) (p : Place) (a : ℕ) (s : Scan) → P s → P (met lo hi v bad again p a s)
unfolding met
met_keep P k lo hi v bad again p a s h = go (leb lo a && ltb a hi) (eqb (get_or s.codes a 0) 0)
  where
    go : (i n : Bool) → P (cond i (cond n (claim v a s) (note again a p s)) (note bad a p s))
    go true true = k.claims v a s h
    go true false = k.notes again a p s h
    go false n = k.notes bad a p s h

pub some : (a : ℕ) → eqb (suc a) 0 ≡ false
some a = ne_eqb (suc a) 0 (λ z. omega (arith, z))

-- turns that look alike
pub rows_seen : (g : ℕ → Scan → Scan) (h : ℕ → Count → Count) (n : ℕ) → ((k : ℕ) (s : Scan) → k < n → seen (g k s) ≡ h k (seen s))
    → (s : Scan) → seen (rows n 0 g s) ≡ steps n h (seen s)
unfolding steps
rows_seen g h zero e s = ap seen (rows_none 0 g s)
rows_seen g h (suc n) e s =
    let z : 0 + n ≡ n = omega arith in
    ap seen (rows_last n 0 g s) ∙ rw z (e n (rows n 0 g s) (omega arith)) ∙ ap (h n) (rows_seen g h n (λ k t l. e k t (omega arith)) s)

pub rest_seen : (g : ℕ → Scan → Scan) (h : ℕ → Count → Count) (w : ℕ) → ((k : ℕ) (s : Scan) → k < w → seen (g k s) ≡ h k (seen s))
    → (s : Scan) → seen (rest w 0 g s) ≡ steps w h (seen s)
rest_seen g h w e s = ap seen (rest_all w g s) ∙ rows_seen g h w e s

module _ (S : Sectors) (lo hi : ℕ) where
  -- an absent address
  pub walk_none : (p : Place) (d : ℕ) (s : Scan) → walk S lo hi p d 0 s ≡ s
  unfolding walk
  walk_none p zero s = refl
  walk_none p (suc d) s = refl

  pub walk_keep : (P : Scan → Type 0) → Keeps P → (p : Place) (d a : ℕ) (s : Scan) → P s → P (walk S lo hi p d a s)
  unfolding walk
  walk_keep P k p zero a s h = go (eqb a 0)
    where
      go : (z : Bool) → P (cond z s (met lo hi 1 BadAddress SecondClaim p a s))
      go true = h
      go false = met_keep P k lo hi 1 BadAddress SecondClaim p a s h
  walk_keep P k p (suc d) a s h = go (eqb a 0) (opens lo hi a s.codes) (λ j t q. walk_keep P k p d (table_entry (get_or S a []) j) t q)
    where
      m : P (met lo hi 1 BadAddress SecondClaim p a s)
      m = met_keep P k lo hi 1 BadAddress SecondClaim p a s h

      go : (z o : Bool) → ((j : ℕ) (t : Scan) → P t → P (walk S lo hi p d (table_entry (get_or S a []) j) t))
          → P (cond z s (cond o
          (rest table_width 0 (λ j. walk S lo hi p d (table_entry (get_or S a []) j)) (met lo hi 1 BadAddress SecondClaim p a s))
          (met lo hi 1 BadAddress SecondClaim p a s)))
      go true o below = h
      go false true below = rest_keep P (λ j. walk S lo hi p d (table_entry (get_or S a []) j)) below table_width 0 _ m
      go false false below = m

  -- a table, of which each entry looks alike
  table_seen : (p : Place) (a : ℕ) (s : Scan) (g : ℕ → Scan → Scan) (h : ℕ → Count → Count) → ((j : ℕ) (t : Scan) → seen (g j t) ≡ h j (seen t))
      → seen (cond (opens lo hi (suc a) s.codes) (rest table_width 0 g (met lo hi 1 BadAddress SecondClaim p (suc a) s)) (met lo hi 1 BadAddress SecondClaim p (suc a) s))
      ≡ follow (is_open lo hi (suc a) (seen s)) (suc a) (λ t. steps table_width h t) (seen s)
  unfolding follow
  table_seen p a s g h below = go (opens lo hi (suc a) s.codes) refl
    where
      go : (o : Bool) → opens lo hi (suc a) s.codes ≡ o
          → seen (cond (opens lo hi (suc a) s.codes) (rest table_width 0 g (met lo hi 1 BadAddress SecondClaim p (suc a) s)) (met lo hi 1 BadAddress SecondClaim p (suc a) s))
          ≡ follow (is_open lo hi (suc a) (seen s)) (suc a) (λ t. steps table_width h t) (seen s)
      go true e =
          rw (opens_same lo hi (suc a) s, e, met_open lo hi 1 BadAddress SecondClaim p (suc a) s e)
          (rest_seen g h table_width (λ j t l. below j t) (claim 1 (suc a) s))
      go false e = rw (opens_same lo hi (suc a) s, e) (met_shut lo hi 1 BadAddress SecondClaim p (suc a) s e)

  entry_is : (a k : ℕ) → entry S (suc a) k ≡ table_entry (get_or S (suc a) []) k
  unfolding entry
  entry_is a k = refl

  -- a tree
  pub walk_seen : (p : Place) (d a : ℕ) (s : Scan) → seen (walk S lo hi p d a s) ≡ tree_walk table_width (entry S) lo hi d a (seen s)
  unfolding walk tree_walk meet follow
  walk_seen p zero zero s = refl
  walk_seen p (suc d) zero s = refl
  walk_seen p zero (suc a) s = rw (some a) (go (opens lo hi (suc a) s.codes) refl)
    where
      go : (o : Bool) → opens lo hi (suc a) s.codes ≡ o → seen (met lo hi 1 BadAddress SecondClaim p (suc a) s) ≡ follow (is_open lo hi (suc a) (seen s)) (suc a) (λ t. t) (seen s)
      go true e = rw (opens_same lo hi (suc a) s, e, met_open lo hi 1 BadAddress SecondClaim p (suc a) s e)
      go false e = rw (opens_same lo hi (suc a) s, e) (met_shut lo hi 1 BadAddress SecondClaim p (suc a) s e)
  walk_seen p (suc d) (suc a) s =
      rw (some a)
      (table_seen p a s (λ j. walk S lo hi p d (table_entry (get_or S (suc a) []) j)) (λ j. tree_walk table_width (entry S) lo hi d (entry S (suc a) j))
      (λ j t. rw (entry_is a j) (walk_seen p d (table_entry (get_or S (suc a) []) j) t)))
