-- One address that is met: it opens a block, or is a finding.
use Rattle.std.proofs.Common.{rules, nat_cmp, is_le, is_lt, ◌≡◌, ℕ, zero, suc, ◌+◌, ◌<◌, ◌≤◌, Bool, cond, None, Some, true, false, ◌&&◌, eqb, ltb, leb, List, [], ◌∷◌, length, get_or, set, is_some, refl, arith}
use Rattle.std.proofs.lemmas.Bool.{and_from, and_left, and_right, eq-eqb, ne_eqb, and_parts, ltb-true, eqb-true}
use Rattle.fault.specs.declared.place.Place.{Place}
use Rattle.fault.specs.declared.finding.Kind.{Kind}
use Rattle.verdict.specs.Scan.{Scan, opens, met, note, claim}
use Rattle.tally.specs.declared.claim.Claimant.{Claimant}
use Rattle.tally.specs.declared.claim.Claimant.TheVariants.{File, FreeList}
use Rattle.tally.specs.Claims.{code_of_claim, claimant_of}
use Rattle.tally.specs.Notes.{unclaimed}

-- a range contains an address
pub within : (lo hi a l h : ℕ) (b : Bool) → l ≡ lo → h ≡ hi → b ≡ (is_le (nat_cmp l a) && is_lt (nat_cmp a h)) → (leb lo a && ltb a hi) ≡ b
within lo hi a l h b e f q = search rules

pub opens_bad : (lo hi a : ℕ) (cs : List ℕ) → (leb lo a && ltb a hi) ≡ false → opens lo hi a cs ≡ false
unfolding opens
opens_bad lo hi a cs h = and_left _ _ h

pub opens_again : (lo hi a : ℕ) (cs : List ℕ) → (get_or cs a 0 ≡ 0 → ⊥) → opens lo hi a cs ≡ false
unfolding opens
opens_again lo hi a cs h = and_right _ _ (ne_eqb (get_or cs a 0) 0 h)

pub opens_is : (lo hi a : ℕ) (cs : List ℕ) → (leb lo a && ltb a hi) ≡ true → get_or cs a 0 ≡ 0 → opens lo hi a cs ≡ true
unfolding opens
opens_is lo hi a cs d h = and_from _ _ d (eq-eqb (get_or cs a 0) 0 h)

pub opens_below : (lo hi a : ℕ) (cs : List ℕ) → opens lo hi a cs ≡ true → a < hi
unfolding opens
opens_below lo hi a cs h = ltb-true a hi (and_parts (leb lo a) (ltb a hi) (and_parts (leb lo a && ltb a hi) (eqb (get_or cs a 0) 0) h).0).1

module _ (lo hi v : ℕ) (bad again : Kind) (p : Place) (a : ℕ) (s : Scan) where
  pub met_bad : (leb lo a && ltb a hi) ≡ false → met lo hi v bad again p a s ≡ note bad a p s
  unfolding met
  met_bad h = rw h

  pub met_again : (leb lo a && ltb a hi) ≡ true → (get_or s.codes a 0 ≡ 0 → ⊥) → met lo hi v bad again p a s ≡ note again a p s
  unfolding met
  met_again d h = rw (d, ne_eqb (get_or s.codes a 0) 0 h)

  pub met_is : (leb lo a && ltb a hi) ≡ true → get_or s.codes a 0 ≡ 0 → met lo hi v bad again p a s ≡ claim v a s
  unfolding met
  met_is d h = rw (d, eq-eqb (get_or s.codes a 0) 0 h)

-- a code has a claimant unless it is 0
pub claimed : (c : ℕ) → is_some (claimant_of c) ≡ true → c ≡ 0 → ⊥
claimed zero h e = let z : ◌≡◌ {A = ℕ} 0 1 = cc in omega (arith, z)
claimed (suc c) h e = omega (arith, e)

none_first : (a b : Bool) → is_some (cond a None (cond b (Some File) (Some FreeList))) ≡ false → a ≡ true
none_first true b h = refl
none_first false true h = cc
none_first false false h = cc

pub not_claimed : (c : ℕ) → is_some (claimant_of c) ≡ false → c ≡ 0
not_claimed c h = eqb-true c 0 (none_first (eqb c 0) (eqb c 1) h)

-- the code of a claim is not 0
pub code_above : (w : Claimant) → 0 < code_of_claim w
code_above File = omega arith
code_above FreeList = omega arith

pub unclaimed_set : (cs : List ℕ) (a v : ℕ) → a < length cs → get_or cs a 0 ≡ 0 → 0 < v → unclaimed (set cs a v) + 1 ≡ unclaimed cs
unclaimed_set [] a v l e p = absurd (omega arith)
unclaimed_set (zero ∷ cs) zero zero l e p = absurd (omega arith)
unclaimed_set (zero ∷ cs) zero (suc v) l e p = omega arith
unclaimed_set (suc c ∷ cs) zero v l e p = absurd (omega (arith, e))
unclaimed_set (zero ∷ cs) (suc a) v l e p = let r = unclaimed_set cs a v (omega arith) e p in omega arith
unclaimed_set (suc c ∷ cs) (suc a) v l e p = let r = unclaimed_set cs a v (omega arith) e p in omega arith

pub unclaimed_most : (cs : List ℕ) → unclaimed cs ≤ length cs
unclaimed_most [] = omega arith
unclaimed_most (zero ∷ cs) = let r = unclaimed_most cs in omega arith
unclaimed_most (suc c ∷ cs) = let r = unclaimed_most cs in omega arith
