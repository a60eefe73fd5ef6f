-- One write through a fuse.
use Rattle.std.proofs.Common.{◌≡◌, ℕ, ◌-◌, ◌<◌, ◌≤◌, min, List, [], ◌∷◌, sym, refl, ap, ◌∙◌, ⊎_elim, arith, take_all}
use Rattle.std.proofs.lemmas.Bool.{cases_lt}
use Rattle.disk.specs.Medium.{Power, endless, left, Write, Medium, after, kept, spent, ran, least}
use Rattle.piles.specs.Fuses.{fused}

one_kept : (f : ℕ) (p : Power) (w : Write) → 0 < f → kept p (w ∷ []) ≡ kept (least f p) (w ∷ [])
one_kept f endless w h = sym (take_all f (w ∷ []) h)
one_kept f (left n) w h =
    ⊎_elim
    (λ (y : n < 1). let z : min f n ≡ n = omega arith in rw z)
    (λ (y : 1 ≤ n). take_all n (w ∷ []) y ∙ sym (take_all (min f n) (w ∷ []) (omega arith)))
    (cases_lt n 1)

one_spent : (f : ℕ) (p : Power) (w : Write) → 0 < f → least (f - 1) (spent p (w ∷ [])) ≡ spent (least f p) (w ∷ [])
one_spent f endless w h = refl
one_spent f (left n) w h = ap left (omega arith)

-- a fuse that holds lets the write through
pub fuse_holds : (f : ℕ) (w : Write) (m n : Medium) → 0 < f → n ≡ ran (w ∷ []) m → fused (f - 1) n ≡ ran (w ∷ []) (fused f m)
unfolding ran
fuse_holds f w m n h e =
    let a = ap (λ (W : List Write). after W m.sectors) (one_kept f m.power w h) in
    let b = one_spent f m.power w h in
    let c = ap (λ (x : Medium). x.sectors) e in
    let d = ap (λ (x : Medium). least (f - 1) x.power) e in
    cc

least_none : (p : Power) → least 0 p ≡ left 0
least_none endless = refl
least_none (left n) = ap left (omega arith)

-- a blown fuse lets nothing through
pub fuse_blown : (f : ℕ) (w : Write) (m : Medium) → f ≡ 0 → fused f m ≡ ran (w ∷ []) (fused f m)
unfolding ran
fuse_blown f w m e = let z : least f m.power ≡ left 0 = ap (λ (k : ℕ). least k m.power) e ∙ least_none m.power in rw z
