-- The laws of writes under a power that may fail.
use Rattle.std.proofs.Common.{◌≡◌, ℕ, zero, suc, ◌+◌, ◌-◌, ◌<◌, ◌≤◌, ◌≢◌, List, [], ◌∷◌, ◌++◌, length, get_or, take, set, sym, refl, ap, ◌∙◌, ⊎_elim, arith, length-append, length-set, take_all, get_or-set_other, get_or-set_same}
use Rattle.std.proofs.lemmas.List.{take-append-le}
use Rattle.std.proofs.Math.Seq.{take-append-add}
use Rattle.std.proofs.lemmas.Bool.{cases_lt, cases_eq}
use Rattle.disk.specs.Medium.{Power, endless, left, Sectors, Sized, Write, Medium, sector_bytes, after, kept, spent, Lasts, ran, NoWriteLaw, JoinedWritesLaw, FirstWritesLaw, AllWritesLaw}

-- no write makes or takes a sector
pub length_after : (W : List Write) (S : Sectors) → length (after W S) ≡ length S
length_after [] S = refl
length_after (w ∷ W) S = length_after W (set S w.0 w.1) ∙ length-set S w.0 w.1

pub length_ran : (W : List Write) (m : Medium) → length (ran W m).sectors ≡ length m.sectors
unfolding ran
length_ran W m = length_after (kept m.power W) m.sectors

pub ran_power : (W : List Write) (m : Medium) → (ran W m).power ≡ spent m.power W
unfolding ran
ran_power W m = refl

pub after_append : (W V : List Write) (S : Sectors) → after (W ++ V) S ≡ after V (after W S)
after_append [] V S = refl
after_append (w ∷ W) V S = after_append W V (set S w.0 w.1)

-- The writes joined.
take_past : {A : Type 0} (n : ℕ) (xs ys : List A) → length xs ≤ n → take n (xs ++ ys) ≡ xs ++ take (n - length xs) ys
take_past n xs ys h =
    let e : n ≡ length xs + (n - length xs) = omega arith in
    ap (λ (k : ℕ). take k (xs ++ ys)) e ∙ take-append-add xs ys (n - length xs)

joined_sectors : (p : Power) (S : Sectors) (W V V' : List Write) → (Lasts p W → V' ≡ V) → after (kept (spent p W) V') (after (kept p W) S) ≡ after (kept p (W ++ V)) S
joined_sectors endless S W V V' e = rw (e tt) (sym (after_append W V S))
joined_sectors (left n) S W V V' e =
    ⊎_elim
    (λ lt. let z : n - length W ≡ 0 = omega arith in let le : n ≤ length W = omega arith in rw (z, take-append-le n W V le))
    (λ ge. rw (e ge, take_past n W V ge, take_all n W ge) (sym (after_append W (take (n - length W) V) S)))
    (cases_lt n (length W))

joined_power : (p : Power) (W V V' : List Write) → (Lasts p W → V' ≡ V) → spent (spent p W) V' ≡ spent p (W ++ V)
joined_power endless W V V' e = refl
joined_power (left n) W V V' e =
    ap left
    (⊎_elim
    (λ (lt : n < length W). rw length-append (omega arith))
    (λ (ge : length W ≤ n). rw (length-append, e ge) (omega arith))
    (cases_lt n (length W)))

pub ran_joined : JoinedWritesLaw
unfolding ran
ran_joined W V V' m e =
    let a = joined_sectors m.power m.sectors W V V' e in
    let b = joined_power m.power W V V' e in
    cc

pub ran_append : (W V : List Write) (m : Medium) → ran V (ran W m) ≡ ran (W ++ V) m
ran_append W V m = ran_joined W V V m (λ _. refl)

-- No write.
none_kept : (p : Power) → (kept p [] ≡ []) × (spent p [] ≡ p)
none_kept endless = (refl, refl)
none_kept (left zero) = (refl, refl)
none_kept (left (suc n)) = (refl, ap left (omega arith))

pub ran_none : NoWriteLaw
unfolding ran
ran_none m =
    let a = ap (λ (W : List Write). after W m.sectors) (none_kept m.power).0 in
    let b = (none_kept m.power).1 in
    let e : ◌≡◌ {A = Medium} (ran [] m) (record { sectors = m.sectors; power = m.power }) = cc in
    e

-- The first few writes.
kept_first : (p : Power) (W : List Write) → (k : ℕ) × (k ≤ length W) × (kept p W ≡ take k W)
kept_first endless W = (length W, omega arith, sym (take_all (length W) W (omega arith)))
kept_first (left n) W =
    ⊎_elim
    (λ lt. (n, omega arith, refl))
    (λ ge. (length W, omega arith, take_all n W ge ∙ sym (take_all (length W) W (omega arith))))
    (cases_lt n (length W))

pub ran_first : FirstWritesLaw
unfolding ran
ran_first W m =
    let q = kept_first m.power W in
    (q.0, q.1, ap (λ (V : List Write). after V m.sectors) q.2)

-- All writes.
pub kept_all : (p : Power) (W : List Write) → Lasts p W → kept p W ≡ W
kept_all endless W h = refl
kept_all (left n) W h = take_all n W h

pub ran_all : AllWritesLaw
unfolding ran
ran_all W m h = ap (λ (V : List Write). after V m.sectors) (kept_all m.power W h)

-- power that lasts for two lists lasts for each
pub lasts_left : (p : Power) (W V : List Write) → Lasts p (W ++ V) → Lasts p W
lasts_left endless W V h = tt
lasts_left (left n) W V h = let e = length-append W V in omega arith

pub lasts_right : (p : Power) (W V : List Write) → Lasts p (W ++ V) → Lasts (spent p W) V
lasts_right endless W V h = tt
lasts_right (left n) W V h = let e = length-append W V in omega arith

pub lasts_none : (p : Power) → Lasts p []
lasts_none endless = tt
lasts_none (left n) = omega arith

-- One write.
abbrev pub written : Power → Sectors → ℕ → List ℕ → Sectors
written endless S s b = set S s b
written (left zero) S s b = S
written (left (suc n)) S s b = set S s b

abbrev pub spend : Power → Power
spend endless = endless
spend (left n) = left (n - 1)

one_sectors : (p : Power) (S : Sectors) (s : ℕ) (b : List ℕ) → after (kept p ((s, b) ∷ [])) S ≡ written p S s b
one_sectors endless S s b = refl
one_sectors (left zero) S s b = refl
one_sectors (left (suc zero)) S s b = refl
one_sectors (left (suc (suc n))) S s b = refl

one_power : (p : Power) (w : Write) → spent p (w ∷ []) ≡ spend p
one_power endless w = refl
one_power (left n) w = refl

pub ran_one : (s : ℕ) (b : List ℕ) (m : Medium) → ran ((s, b) ∷ []) m ≡ record { sectors = written m.power m.sectors s b; power = spend m.power }
unfolding ran
ran_one s b m =
    let e = one_sectors m.power m.sectors s b in
    let f = one_power m.power (s, b) in
    cc

-- Writes of whole sectors keep every sector's size.
abbrev pub SizedWrites : List Write → Type 0
SizedWrites [] = Unit {0}
SizedWrites (w ∷ W) = (length w.1 ≡ sector_bytes) × SizedWrites W

pub sized_append : (W V : List Write) → SizedWrites W → SizedWrites V → SizedWrites (W ++ V)
sized_append [] V h k = k
sized_append (w ∷ W) V h k = (h.0, sized_append W V h.1 k)

pub sized_take : (k : ℕ) (W : List Write) → SizedWrites W → SizedWrites (take k W)
sized_take zero W h = tt
sized_take (suc k) [] h = tt
sized_take (suc k) (w ∷ W) h = (h.0, sized_take k W h.1)

pub sized_set : (S : Sectors) (s : ℕ) (b : List ℕ) → length b ≡ sector_bytes → Sized S → Sized (set S s b)
sized_set S s b e h t l =
    let m : t < length S = rw (length-set S s b) at l in
    ⊎_elim
    (λ (x : t ≡ s). rw x (ap length (get_or-set_same S s b [] (omega arith)) ∙ e))
    (λ (x : t ≢ s). ap length (get_or-set_other S s t b [] x) ∙ h t m)
    (cases_eq t s)

pub sized_after : (W : List Write) (S : Sectors) → SizedWrites W → Sized S → Sized (after W S)
sized_after [] S h k = k
sized_after (w ∷ W) S h k = sized_after W (set S w.0 w.1) h.1 (sized_set S w.0 w.1 h.0 k)

sized_kept : (p : Power) (W : List Write) → SizedWrites W → SizedWrites (kept p W)
sized_kept endless W h = h
sized_kept (left n) W h = sized_take n W h

pub sized_ran : (W : List Write) (m : Medium) → SizedWrites W → Sized m.sectors → Sized (ran W m).sectors
unfolding ran
sized_ran W m h k = sized_after (kept m.power W) m.sectors (sized_kept m.power W h) k

-- A sector that no write names.
abbrev pub Spares : ℕ → List Write → Type 0
Spares t [] = Unit {0}
Spares t (w ∷ W) = (t ≢ w.0) × Spares t W

pub spares_append : (t : ℕ) (W V : List Write) → Spares t W → Spares t V → Spares t (W ++ V)
spares_append t [] V h k = k
spares_append t (w ∷ W) V h k = (h.0, spares_append t W V h.1 k)

pub spares_take : (t k : ℕ) (W : List Write) → Spares t W → Spares t (take k W)
spares_take t zero W h = tt
spares_take t (suc k) [] h = tt
spares_take t (suc k) (w ∷ W) h = (h.0, spares_take t k W h.1)

pub getD_after_other : (W : List Write) (S : Sectors) (t : ℕ) → Spares t W → get_or (after W S) t [] ≡ get_or S t []
getD_after_other [] S t h = refl
getD_after_other (w ∷ W) S t h = getD_after_other W (set S w.0 w.1) t h.1 ∙ get_or-set_other S w.0 t w.1 [] h.0

spares_kept : (t : ℕ) (p : Power) (W : List Write) → Spares t W → Spares t (kept p W)
spares_kept t endless W h = h
spares_kept t (left n) W h = spares_take t n W h

pub getD_ran_other : (W : List Write) (m : Medium) (t : ℕ) → Spares t W → get_or (ran W m).sectors t [] ≡ get_or m.sectors t []
unfolding ran
getD_ran_other W m t h = getD_after_other (kept m.power W) m.sectors t (spares_kept t m.power W h)
