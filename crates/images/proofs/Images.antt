-- Bytes as sectors.
use Rattle.std.proofs.Common.{◌≡◌, ℕ, zero, suc, ◌+◌, ◌*◌, ◌/◌, ◌<◌, ◌≤◌, true, cond, List, [], ◌∷◌, ◌++◌, map, length, get_or, take, drop, set, sym, refl, ap, ◌∙◌, le_of_suc-le-suc, add_comm, mul-suc, arith, length-append, length-drop, length-take, length-take-le, take-take, drop-drop, take_at, drop_at}
use Rattle.std.proofs.lemmas.List.{take-append-le, drop-append-le}
use Rattle.std.proofs.lemmas.List.{drop-take, length-map, get_or-map, map-set}
use Rattle.std.proofs.lemmas.Slice.{drop-put_mid}
use borrow.Rule.Slice.PartMut.{put_mid}
use Rattle.disk.specs.Medium.{Medium, Sectors, Sized, sector_bytes, endless, ran}
use Rattle.disk.specs.Disks.{serves}
use Rattle.images.specs.Images.{sectors_of, image, tail}
use Rattle.images.specs.Orders.{OrderLaws}
use Rattle.disk.proofs.Served.{served}
use Rattle.disk.proofs.Writes.{ran_one}

pub length_sectors : (n : ℕ) (bs : List ℕ) → length (sectors_of n bs) ≡ n
length_sectors zero bs = refl
length_sectors (suc n) bs = ap suc (length_sectors n (drop sector_bytes bs))

pub getD_sectors : (n s : ℕ) (bs : List ℕ) → s < n → get_or (sectors_of n bs) s [] ≡ take sector_bytes (drop (sector_bytes * s) bs)
getD_sectors zero s bs h = absurd (omega arith)
getD_sectors (suc n) zero bs h = refl
getD_sectors (suc n) (suc s) bs h =
    getD_sectors n s (drop sector_bytes bs) (le_of_suc-le-suc h)
    ∙ ap (take sector_bytes) (drop-drop (sector_bytes * s) sector_bytes bs ∙ ap (λ (k : ℕ). drop k bs) (add_comm sector_bytes (sector_bytes * s) ∙ sym (mul-suc sector_bytes s)))

pub sized_sectors : (n : ℕ) (bs : List ℕ) → sector_bytes * n ≤ length bs → Sized (sectors_of n bs)
sized_sectors n bs h k lt =
    let l : k < n = rw length_sectors at lt in
    let e : sector_bytes * k + sector_bytes ≤ length bs = omega arith in
    rw (getD_sectors n k bs l) (simp (length-take, length-drop) (omega arith))

-- One sector's bytes written over.
put_more : (m : ℕ) (bs b : List ℕ) → sector_bytes + m ≤ length bs → drop sector_bytes (put_mid (sector_bytes + m) sector_bytes bs b) ≡ put_mid m sector_bytes (drop sector_bytes bs) b
put_more m bs b h =
    let l : sector_bytes ≤ length (take (sector_bytes + m) bs) = rw (length-take-le (sector_bytes + m) bs h) (omega arith) in
    drop-append-le sector_bytes (take (sector_bytes + m) bs) (b ++ drop sector_bytes (drop (sector_bytes + m) bs)) l
    ∙ ap (λ (x : List ℕ). x ++ (b ++ drop sector_bytes (drop (sector_bytes + m) bs))) (drop-take sector_bytes m bs)
    ∙ ap (λ (x : List ℕ). take m (drop sector_bytes bs) ++ (b ++ drop sector_bytes x)) (sym (drop-drop m sector_bytes bs))

put_front : (m : ℕ) (bs b : List ℕ) → sector_bytes + m ≤ length bs → take sector_bytes (put_mid (sector_bytes + m) sector_bytes bs b) ≡ take sector_bytes bs
put_front m bs b h =
    let l : sector_bytes ≤ length (take (sector_bytes + m) bs) = rw (length-take-le (sector_bytes + m) bs h) (omega arith) in
    take-append-le sector_bytes (take (sector_bytes + m) bs) (b ++ drop sector_bytes (drop (sector_bytes + m) bs)) l ∙ take-take sector_bytes (sector_bytes + m) bs (omega arith)

set_sectors : (n s : ℕ) (bs b : List ℕ) → s < n → sector_bytes * n ≤ length bs → length b ≡ sector_bytes → sectors_of n (put_mid (sector_bytes * s) sector_bytes bs b) ≡ set (sectors_of n bs) s b
set_sectors zero s bs b h k e = absurd (omega arith)
set_sectors (suc n) zero bs b h k e =
    ap (λ (x : List ℕ). x ∷ sectors_of n (drop sector_bytes (b ++ drop sector_bytes bs))) (take_at b (drop sector_bytes bs) sector_bytes e)
    ∙ ap (λ (x : List ℕ). b ∷ sectors_of n x) (drop_at b (drop sector_bytes bs) sector_bytes e)
set_sectors (suc n) (suc s) bs b h k e =
    let q : sector_bytes * suc s ≡ sector_bytes + sector_bytes * s = mul-suc sector_bytes s ∙ add_comm (sector_bytes * s) sector_bytes in
    let r : sector_bytes * suc n ≡ sector_bytes + sector_bytes * n = mul-suc sector_bytes n ∙ add_comm (sector_bytes * n) sector_bytes in
    let l : sector_bytes + sector_bytes * s ≤ length bs = omega arith in
    let t : sector_bytes * n ≤ length (drop sector_bytes bs) = rw (length-drop sector_bytes bs) (omega arith) in
    rw q (ap (λ (x : List ℕ). x ∷ sectors_of n (drop sector_bytes (put_mid (sector_bytes + sector_bytes * s) sector_bytes bs b))) (put_front (sector_bytes * s) bs b l)
    ∙ ap (λ (x : List ℕ). take sector_bytes bs ∷ sectors_of n x) (put_more (sector_bytes * s) bs b l)
    ∙ ap (λ (x : Sectors). take sector_bytes bs ∷ x) (set_sectors n s (drop sector_bytes bs) b (le_of_suc-le-suc h) t e))

length_put : (s : ℕ) (bs b : List ℕ) → sector_bytes * s + sector_bytes ≤ length bs → length b ≡ sector_bytes → length (put_mid (sector_bytes * s) sector_bytes bs b) ≡ length bs
length_put s bs b h e = simp (length-append, length-take, length-drop) (omega arith)

-- A call on sector s of an image of bs in an order f, with its buffer.
module _ (f : List ℕ → List ℕ) (M : List ℕ → Medium) (o : OrderLaws f M) (bs : List ℕ) where
  pub length_ordered : length (M bs).sectors ≡ length bs / sector_bytes
  length_ordered = rw (o.medium bs) (length-map (image bs).sectors f ∙ length_sectors (length bs / sector_bytes) bs)

  pub sized_ordered : Sized (M bs).sectors
  sized_ordered = rw (o.medium bs) each
    where
      each : Sized (map f (image bs).sectors)
      each k l =
          let i : k < length (image bs).sectors = rw (length-map (image bs).sectors f) at l in
          ap length (get_or-map f (image bs).sectors k [] [] i) ∙ o.len (get_or (image bs).sectors k []) ∙ sized_sectors (length bs / sector_bytes) bs (omega arith) k i

  module _ (buf : List ℕ) (s : ℕ) (e : length buf ≡ sector_bytes) (h : s < length bs / sector_bytes) where
    here : serves (length buf) s (length (M bs).sectors) ≡ true
    here = served (length buf) s (length (M bs).sectors) e (rw length_ordered h)

    pub read_ordered : (out : List ℕ) → out ≡ f (get_or (image bs).sectors s []) → out ≡ cond (serves (length buf) s (length (M bs).sectors)) (get_or (M bs).sectors s []) buf
    read_ordered out q =
        let i : s < length (image bs).sectors = rw length_sectors h in
        rw here (q ∙ sym (get_or-map f (image bs).sectors s [] [] i) ∙ ap (λ (m : Medium). get_or m.sectors s []) (sym (o.medium bs)))

    sectors_put : (image (put_mid (sector_bytes * s) sector_bytes bs (f buf))).sectors ≡ set (image bs).sectors s (f buf)
    sectors_put =
        let l : sector_bytes * s + sector_bytes ≤ length bs = omega arith in
        let m : sector_bytes * (length bs / sector_bytes) ≤ length bs = omega arith in
        let t : length (f buf) ≡ sector_bytes = o.len buf ∙ e in
        rw (length_put s bs (f buf) l t) (set_sectors (length bs / sector_bytes) s bs (f buf) h m t)

    pub write_ordered : M (put_mid (sector_bytes * s) sector_bytes bs (f buf)) ≡ cond (serves (length buf) s (length (M bs).sectors)) (ran ((s, buf) ∷ []) (M bs)) (M bs)
    write_ordered =
        let a : map f (image (put_mid (sector_bytes * s) sector_bytes bs (f buf))).sectors ≡ set (map f (image bs).sectors) s buf
        = ap (map f) sectors_put ∙ map-set f (image bs).sectors s (f buf) ∙ ap (set (map f (image bs).sectors) s) (o.twice buf) in
        let z : ◌≡◌ {A = Medium} (record { sectors = map f (image (put_mid (sector_bytes * s) sector_bytes bs (f buf))).sectors; power = endless }) (record { sectors = set (map f (image bs).sectors) s buf; power = endless })
        = ap (λ (T : Sectors). record { sectors = T; power = endless }) a in
        rw here (o.medium (put_mid (sector_bytes * s) sector_bytes bs (f buf)) ∙ z ∙ sym (ap (ran ((s, buf) ∷ [])) (o.medium bs) ∙ ran_one s buf _))

    pub write_tail : tail (put_mid (sector_bytes * s) sector_bytes bs (f buf)) ≡ tail bs
    write_tail =
        let l : sector_bytes * s + sector_bytes ≤ length bs = omega arith in
        let m : sector_bytes * s + sector_bytes ≤ sector_bytes * (length bs / sector_bytes) = omega arith in
        let t : length (f buf) ≡ sector_bytes = o.len buf ∙ e in
        rw (length_put s bs (f buf) l t) (drop-put_mid (sector_bytes * s) sector_bytes bs (f buf) (sector_bytes * (length bs / sector_bytes)) m (omega arith) t)
