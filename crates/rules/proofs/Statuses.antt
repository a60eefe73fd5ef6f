-- The verdict on what is safe, and on what is whole.
use Rattle.std.proofs.Common.{◌≡◌, ℕ, ◌+◌, ◌-◌, ◌<◌, ◌⊎◌, length, sym, refl, ◌∙◌, arith}
use Rattle.disk.specs.Medium.{Sectors}
use Rattle.format.specs.Sizes.{Sizes}
use Rattle.trees.specs.Trees.{total, hit}
use Rattle.trees.proofs.Sums.{total_same, total_zero, total_replace, hit_same, hit_other}
use Rattle.verdict.specs.declared.verdict.Census.{Census}
use Rattle.verdict.specs.Verdict.{verdict_of, findings_of, checked}
use Rattle.verdict.specs.Sound.{claims_on, OneClaimEach, NoTwoClaims}
use Rattle.verdict.proofs.Bits.{zero_full}
use Rattle.verdict.proofs.Sounds as verdict
use Rattle.rules.specs.Promises.{status, new_verdict}
use Rattle.rules.proofs.Owed.{Safe, Whole, Fresh}

pub two_claims : (S : Sectors) (z : Sizes) → Safe S z → NoTwoClaims S z.isize z.fsize
two_claims S z s = record { free = s.free; lawful = s.lawful; most = s.most }

pub one_claim : (S : Sectors) (z : Sizes) → Whole S z → OneClaimEach S z.isize z.fsize
one_claim S z w = record { free = w.safe.free; lawful = w.safe.lawful; one = w.one }

-- the status
pub safe_status : (S : Sectors) (z : Sizes) → Safe S z → (room : ℕ) → (status S z room ≡ 0) ⊎ (status S z room ≡ 8)
safe_status S z s room = (verdict.no_two_claims S z.isize z.fsize room s.bounds).1 (two_claims S z s)

pub whole_status : (S : Sectors) (z : Sizes) → Whole S z → (room : ℕ) → status S z room ≡ 0
whole_status S z w room = (verdict.one_claim_each S z.isize z.fsize room w.safe.bounds).1 (one_claim S z w)

-- the counts
pub safe_used : (S : Sectors) (z : Sizes) → Safe S z → (room : ℕ) → (verdict_of S z.isize z.fsize room).census.used ≡ total z.fsize (claims_on S z.isize)
safe_used S z s room = (verdict.census_counts S z.isize z.fsize room s.bounds (two_claims S z s)).0

pub safe_free : (S : Sectors) (z : Sizes) (s : Safe S z) (room : ℕ) → (verdict_of S z.isize z.fsize room).census.free ≡ length s.free
unfolding two_claims
safe_free S z s room = (verdict.census_counts S z.isize z.fsize room s.bounds (two_claims S z s)).1

pub safe_findings : (S : Sectors) (z : Sizes) → Safe S z → (room : ℕ) → (verdict_of S z.isize z.fsize room).findings ≡ 0
safe_findings S z s room = (verdict.census_counts S z.isize z.fsize room s.bounds (two_claims S z s)).2

pub whole_missing : (S : Sectors) (z : Sizes) → Whole S z → (room : ℕ) → (verdict_of S z.isize z.fsize room).census.missing ≡ 0
whole_missing S z w room = zero_full (findings_of S z.isize z.fsize) (checked S z.isize z.fsize).census room (whole_status S z w room)

pub safe_counted : (S : Sectors) (z : Sizes) → Safe S z → (room : ℕ)
    → (verdict_of S z.isize z.fsize room).census.used + (verdict_of S z.isize z.fsize room).census.free + (verdict_of S z.isize z.fsize room).census.missing ≡ z.fsize - z.isize
safe_counted S z s room = let c = verdict.census_covers S z.isize z.fsize room s.bounds in omega arith

-- A newly made volume: the root's block is in use, every other data block is free.
root_alone : (i f : ℕ) → 0 < i → i < f → total f (hit i) ≡ 1
root_alone i f p l =
    let r = total_replace f (hit i) (λ b. 0) i l (λ b q ne. hit_other i b (λ (e : i ≡ b). ne (sym e))) in
    let z = total_zero f (λ b. 0) (λ b q. refl) in
    omega (arith, hit_same i p)

pub fresh_verdict : (T : Sectors) (z : Sizes) → Fresh T z → (room : ℕ) → verdict_of T z.isize z.fsize room ≡ new_verdict z
fresh_verdict T z n room =
    let v = verdict_of T z.isize z.fsize room in
    let s = n.whole.safe in
    let b = s.bounds in
    let a = whole_status T z n.whole room in
    let u : v.census.used ≡ 1 = safe_used T z s room ∙ total_same z.fsize (claims_on T z.isize) (hit z.isize) (λ c l. n.claimed c) ∙ root_alone z.isize z.fsize (omega arith) b.order in
    let m = whole_missing T z n.whole room in
    let g = safe_findings T z s room in
    let c = safe_counted T z s room in
    let f : v.census.free ≡ z.fsize - z.isize - 1 = omega arith in
    let e : ◌≡◌ {A = Census} (record { used = v.census.used; free = v.census.free; missing = v.census.missing }) (record { used = 1; free = z.fsize - z.isize - 1; missing = 0 }) = cc in
    let k : ◌≡◌ {A = Census} v.census (record { used = 1; free = z.fsize - z.isize - 1; missing = 0 }) = e in
    cc
