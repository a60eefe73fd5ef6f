-- What is left, by the phase and by what was met, where these are known; and the turns between phases.
use Rattle.std.proofs.Common.{◌≡◌, ℕ, ap, ◌∙◌}
use Rattle.format.specs.Layout.{superblock}
use Rattle.verdict.specs.Scan.{Scan, Report, survey, nothing, report}
use Rattle.verdict.specs.declared.verdict.Census.{Census}
use Rattle.scan.specs.Left.{onward}
use Rattle.scan.proofs.Members.{list_start}
use Rattle.format.specs.Area.{Area}
use Rattle.checking.specs.declared.met.Met.{Met}
use Rattle.checking.specs.declared.walk.Phase.{Phase}
use Rattle.checking.specs.declared.walk.Walk.{Walk}
use Rattle.checking.specs.Resume.{left_in, after_in, after_files, after_list}

pub left_at : (p q : Phase) (v : Area) (w : Walk) (s : Scan) → p ≡ q → left_in p v w s ≡ left_in q v w s
left_at p q v w s e = ap (λ (x : Phase). left_in x v w s) e

pub after_at : (p q : Phase) (m n : Met) (v : Area) (w : Walk) (s : Scan) → p ≡ q → m ≡ n → after_in p m v w s ≡ after_in q n v w s
after_at p q m n v w s e f = ap (λ (x : Phase). after_in x m v w s) e ∙ ap (λ (x : Met). after_in q x v w s) f

-- the free list begins
pub list_begins : (v : Area) (k : ℕ) (x s : Scan) → x ≡ onward v.sectors v.sizes.isize v.sizes.fsize k superblock s → k ≡ 0 → after_list v x ≡ after_files v s
list_begins v k x s e z =
    ap (after_list v) (e ∙ ap (λ (j : ℕ). onward v.sectors v.sizes.isize v.sizes.fsize j superblock s) z ∙ list_start v.sectors v.sizes.isize v.sizes.fsize s)

-- the census begins
pub no_blocks : (n : Census) → (n.used ≡ 0) × ((n.free ≡ 0) × (n.missing ≡ 0)) → n ≡ nothing
no_blocks n h = let e : ◌≡◌ {A = Census} (record { used = n.used; free = n.free; missing = n.missing }) nothing = cc in e

pub report_is : (v : Area) (b : ℕ) (n : Census) (s : Scan) → b ≡ v.sizes.isize → n ≡ nothing → ◌≡◌ {A = Report} (record { scan = s; census = survey v.sizes.fsize s.codes b n }) (after_list v s)
unfolding report
report_is v b n s e f = rw (e, f)
