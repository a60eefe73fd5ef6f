-- Pairs of bytes exchanged, in one sector and in a whole image.
use Rattle.std.proofs.Common.{◌≡◌, ℕ, zero, suc, ◌+◌, ◌*◌, ◌/◌, ◌<◌, Bool, true, false, cond, List, [], ◌∷◌, map, length, get_or, take, drop, set, sym, refl, ap, ◌∙◌, add-one, arith}
use Rattle.std.specs.List.{swap}
use Rattle.std.proofs.lemmas.List.Edits.{swap_is}
use Rattle.std.proofs.lemmas.List.{length-map, get_or-map, map-set}
use Rattle.disk.specs.Medium.{Medium, Sectors, Sized, Power, endless, left, sector_bytes, ran}
use Rattle.disk.specs.Disks.{serves}
use Rattle.disk.proofs.Writes.{ran_one, written, spend}
use Rattle.images.specs.Images.{sectors_of, swapped, DumpLaw}
use Rattle.images.specs.Orders.{length_swapped, swapped_twice}

-- the first i pairs exchanged
unfoldable pub pairs : ℕ → List ℕ → List ℕ
pairs zero x = x
pairs (suc i) [] = []
pairs (suc i) (a ∷ []) = a ∷ []
pairs (suc i) (a ∷ b ∷ r) = b ∷ a ∷ pairs i r

pub pairs_none : (x : List ℕ) → pairs 0 x ≡ x
unfolding pairs
pairs_none x = refl

pub pairs_all : (i : ℕ) (x : List ℕ) → i ≡ length x / 2 → pairs i x ≡ swapped x
unfolding pairs swapped
pairs_all zero [] h = refl
pairs_all zero (a ∷ []) h = refl
pairs_all zero (a ∷ b ∷ r) h = absurd (omega arith)
pairs_all (suc i) [] h = refl
pairs_all (suc i) (a ∷ []) h = refl
pairs_all (suc i) (a ∷ b ∷ r) h = ap (λ (t : List ℕ). b ∷ a ∷ t) (pairs_all i r (omega arith))

pairs_next : (i : ℕ) (x : List ℕ) → 2 * i + 1 < length x
    → pairs (suc i) x ≡ set (set (pairs i x) (2 * i) (get_or (pairs i x) (2 * i + 1) 0)) (2 * i + 1) (get_or (pairs i x) (2 * i) 0)
unfolding pairs
pairs_next zero [] h = absurd (omega arith)
pairs_next zero (a ∷ []) h = absurd (omega arith)
pairs_next zero (a ∷ b ∷ r) h = refl
pairs_next (suc i) [] h = absurd (omega arith)
pairs_next (suc i) (a ∷ []) h = absurd (omega arith)
pairs_next (suc i) (a ∷ b ∷ r) h =
    let e : 2 * suc i ≡ suc (suc (2 * i)) = omega arith in
    let f : 2 * suc i + 1 ≡ suc (suc (2 * i + 1)) = omega arith in
    rw (f, e) (ap (λ (t : List ℕ). b ∷ a ∷ t) (pairs_next i r (omega arith)))

pub pairs_after : (i : ℕ) (x : List ℕ) → 2 * i + 1 < length x
    → pairs (i + 1) x ≡ set (set (pairs i x) (2 * i) (get_or (pairs i x) (2 * i + 1) 0)) (2 * i + 1) (get_or (pairs i x) (2 * i) 0)
pairs_after i x h = rw (add-one i) (pairs_next i x h)

pub pairs_more : (i : ℕ) (x y : List ℕ) → 2 * i + 1 < length y → length y ≡ length x → y ≡ pairs i x → swap y (2 * i) (2 * i + 1) ≡ pairs (i + 1) x
pairs_more i x y h l e =
    sym (swap_is y (2 * i) (2 * i + 1) 0 (omega arith) h)
    ∙ ap (λ (z : List ℕ). set (set z (2 * i) (get_or z (2 * i + 1) 0)) (2 * i + 1) (get_or z (2 * i) 0)) e
    ∙ sym (pairs_after i x (omega arith))

-- The dump is the image of the exchanged bytes.
take_swapped : (k : ℕ) (x : List ℕ) → take (2 * k) (swapped x) ≡ swapped (take (2 * k) x)
unfolding swapped
take_swapped zero x = refl
take_swapped (suc k) [] = let e : 2 * suc k ≡ suc (suc (2 * k)) = omega arith in rw e
take_swapped (suc k) (a ∷ []) = let e : 2 * suc k ≡ suc (suc (2 * k)) = omega arith in rw e
take_swapped (suc k) (a ∷ b ∷ r) = let e : 2 * suc k ≡ suc (suc (2 * k)) = omega arith in rw e (ap (λ (t : List ℕ). b ∷ a ∷ t) (take_swapped k r))

drop_swapped : (k : ℕ) (x : List ℕ) → drop (2 * k) (swapped x) ≡ swapped (drop (2 * k) x)
unfolding swapped
drop_swapped zero x = refl
drop_swapped (suc k) [] = let e : 2 * suc k ≡ suc (suc (2 * k)) = omega arith in rw e
drop_swapped (suc k) (a ∷ []) = let e : 2 * suc k ≡ suc (suc (2 * k)) = omega arith in rw e
drop_swapped (suc k) (a ∷ b ∷ r) = let e : 2 * suc k ≡ suc (suc (2 * k)) = omega arith in rw e (drop_swapped k r)

swapped_sectors : (n : ℕ) (bs : List ℕ) → map swapped (sectors_of n bs) ≡ sectors_of n (swapped bs)
swapped_sectors zero bs = refl
swapped_sectors (suc n) bs =
    let a : swapped (take sector_bytes bs) ≡ take sector_bytes (swapped bs) = sym (take_swapped (sector_bytes / 2) bs) in
    let b : sectors_of n (swapped (drop sector_bytes bs)) ≡ sectors_of n (drop sector_bytes (swapped bs)) = ap (sectors_of n) (sym (drop_swapped (sector_bytes / 2) bs)) in
    let c = swapped_sectors n (drop sector_bytes bs) ∙ b in
    ap (λ (x : List ℕ). x ∷ map swapped (sectors_of n (drop sector_bytes bs))) a ∙ ap (λ (T : Sectors). take sector_bytes (swapped bs) ∷ T) c

pub dump_law : DumpLaw
dump_law bs =
    let e = swapped_sectors (length bs / sector_bytes) bs in
    let f : sectors_of (length bs / sector_bytes) (swapped bs) ≡ sectors_of (length (swapped bs) / sector_bytes) (swapped bs) = rw (length_swapped bs) in
    ap (λ (T : Sectors). record { sectors = T; power = endless }) (e ∙ f)

-- The pairs of every sector exchanged, whatever the power.
abbrev pub mirrored : Medium → Medium
mirrored m = record { sectors = map swapped m.sectors; power = m.power }

pub length_mirrored : (m : Medium) → length (mirrored m).sectors ≡ length m.sectors
length_mirrored m = length-map m.sectors swapped

pub sized_mirrored : (m : Medium) → Sized m.sectors → Sized (mirrored m).sectors
sized_mirrored m h k l =
    let i : k < length m.sectors = rw (length_mirrored m) at l in
    ap length (get_or-map swapped m.sectors k [] [] i) ∙ length_swapped (get_or m.sectors k []) ∙ h k i

written_mirrored : (p : Power) (S : Sectors) (s : ℕ) (b : List ℕ) → map swapped (written p S s (swapped b)) ≡ written p (map swapped S) s b
written_mirrored endless S s b = map-set swapped S s (swapped b) ∙ ap (λ (x : List ℕ). set (map swapped S) s x) (swapped_twice b)
written_mirrored (left zero) S s b = refl
written_mirrored (left (suc n)) S s b = map-set swapped S s (swapped b) ∙ ap (λ (x : List ℕ). set (map swapped S) s x) (swapped_twice b)

ran_mirrored : (m : Medium) (s : ℕ) (b : List ℕ) → mirrored (ran ((s, swapped b) ∷ []) m) ≡ ran ((s, b) ∷ []) (mirrored m)
ran_mirrored m s b =
    ap mirrored (ran_one s (swapped b) m)
    ∙ ap (λ (T : Sectors). record { sectors = T; power = spend m.power }) (written_mirrored m.power m.sectors s b)
    ∙ sym (ran_one s b (mirrored m))

-- what a served read gives
pub read_mirrored : (m : Medium) (len s : ℕ) (buf last out : List ℕ) → serves len s (length m.sectors) ≡ true → s < length m.sectors
    → last ≡ cond (serves len s (length m.sectors)) (get_or m.sectors s []) buf → out ≡ swapped last
    → out ≡ cond (serves len s (length (mirrored m).sectors)) (get_or (mirrored m).sectors s []) buf
read_mirrored m len s buf last out t l r o =
    let u : serves len s (length (map swapped m.sectors)) ≡ true = ap (serves len s) (length_mirrored m) ∙ t in
    rw u (o ∙ ap swapped (rw t at r) ∙ sym (get_or-map swapped m.sectors s [] [] l))

-- what a write of exchanged bytes leaves
pub write_mirrored : (m : Medium) (len s : ℕ) (b c : List ℕ) (end : Medium) → c ≡ swapped b
    → end ≡ cond (serves len s (length m.sectors)) (ran ((s, c) ∷ []) m) m
    → mirrored end ≡ cond (serves len s (length (mirrored m).sectors)) (ran ((s, b) ∷ []) (mirrored m)) (mirrored m)
write_mirrored m len s b c end e w = rw (length_mirrored m, w, e) (either (serves len s (length m.sectors)))
  where
    either : (f : Bool) → mirrored (cond f (ran ((s, swapped b) ∷ []) m) m) ≡ cond f (ran ((s, b) ∷ []) (mirrored m)) (mirrored m)
    either true = ran_mirrored m s b
    either false = refl
