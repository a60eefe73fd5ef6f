-- What make owes: a newly made volume is whole, and its files are the first book's.
use Rattle.std.proofs.Common.{◌≡◌, ℕ, zero, suc, ◌+◌, ◌-◌, ◌<◌, ◌≤◌, Bool, true, false, cond, eqb, ltb, leb, List, [], ◌∷◌, length, get_or, Ok, Err, sym, refl, ap, ◌∙◌, subst, inl, inr, ⊎_elim, arith}
use Rattle.std.proofs.lemmas.Bool.{cases_eq, leb-true, ltb-true, lt-ltb, le-leb, eq-eqb, and_from, cond-true, false≢true}
use Rattle.fault.specs.declared.refusal.Refusal.TheVariants.{MakeSizes, NoVolume}
use Rattle.fault.specs.Refusals.{beyond, keeper}
use Rattle.disk.specs.Medium.{Sectors, after}
use Rattle.numbers.specs.Numbers.{num}
use Rattle.numbers.specs.Laws.{Apart}
use Rattle.numbers.proofs.Numbers.{num_ext, apart}
use Rattle.format.specs.Layout.{block_bytes, superblock, list_room}
use Rattle.format.specs.Superblock.{at_isize, at_fsize, at_nfree, at_tfree, at_flock, at_magic, at_type, isize_of, fsize_of, nfree_of, tfree_of, flock_of, magic_of, type_of, magic, type_fits}
use Rattle.format.specs.Sizes.{Sizes, Bounds, lawful_sizes, least_isize, most_isize, most_fsize}
use Rattle.freelist.specs.Stack.{Lists, Out}
use Rattle.freelist.specs.Bytes.{free_list_of, entries_bytes, unclaimed, emptied, gave_all}
use Rattle.freelist.specs.Chain.{chain}
use Rattle.freelist.specs.Laws.{Distinct, Among, Relists}
use Rattle.freelist.proofs.Gives.{give_count}
use Rattle.freelist.proofs.Stands.{relisting_lists_exactly, emptied_count, length_emptied, gave_all_fits}
use Rattle.trees.specs.Trees.{hit, count}
use Rattle.trees.specs.Walk.{Data}
use Rattle.trees.proofs.Sums.{hit_same, hit_other, hit_le, hit_eq}
use Rattle.verdict.specs.Sound.{Lawful}
use Rattle.rules.specs.Calls.{done, refused, is_volume, sizes_in, lookup}
use Rattle.rules.specs.Make.{bare_superblock, new_list, make_writes}
use Rattle.rules.proofs.Owed.{Safe, Whole, MakeOwes}
use Rattle.rules.proofs.Layouts.{length_bare, bare_isize, bare_fsize, bare_magic, bare_type}
use Rattle.rules.proofs.NewSectors.{Newly, newly, given_blocks, new_superblock, given_data, given_distinct, given_above, given_every}
use Rattle.rules.proofs.NewFiles.{new_types, new_claims, new_sizes, new_tails, new_book}

-- COUNTS
count_out : (b : ℕ) (L : List ℕ) → Out b L → count L b ≡ 0
unfolding count
count_out b [] o = refl
count_out b (c ∷ L) o = omega (arith, hit_other c b o.0, count_out b L o.1)

count_distinct : (b : ℕ) (L : List ℕ) → Distinct L → count L b ≤ 1
unfolding count
count_distinct b [] d = omega arith
count_distinct b (c ∷ L) d =
    ⊎_elim
    (λ (e : c ≡ b). let o : count L b ≡ 0 = count_out b L (subst (λ (a : ℕ). Out a L) e d.0) in omega (arith, hit_le c b))
    (λ (ne : c ≡ b → ⊥). omega (arith, hit_other c b ne, count_distinct b L d.1))
    (cases_eq c b)

count_among : (b : ℕ) (L : List ℕ) → 0 < b → Among b L → 0 < count L b
unfolding count
count_among b [] p a = absurd a
count_among b (c ∷ L) p a =
    ⊎_elim
    (λ (e : c ≡ b). let h : hit c b ≡ 1 = ap (λ (a : ℕ). hit a b) e ∙ hit_same b p in omega arith)
    (λ (m : Among b L). omega (arith, count_among b L p m))
    a

length_unclaimed : (b n : ℕ) → length (unclaimed [] b n) ≡ n
unfolding unclaimed
length_unclaimed b zero = refl
length_unclaimed b (suc n) = ap suc (length_unclaimed (suc b) n)

-- the list keeps its 0, or more
still_grounded : (L s : List ℕ) → length s ≡ block_bytes → nfree_of s ≤ list_room → 0 < nfree_of s → 0 < nfree_of (gave_all L s).1
unfolding gave_all
still_grounded [] s l f h = h
still_grounded (b ∷ L) s l f h = omega (arith, give_count b (gave_all L s).1 (gave_all_fits L s l f).0)

-- THE TESTS OF MAKE
and_lawful : (isize fsize : ℕ) → lawful_sizes isize fsize ≡ true → Bounds isize fsize
and_lawful isize fsize h =
    let a = both (leb least_isize isize) _ h in
    let b = both (leb isize most_isize) _ a.1 in
    let c = both (ltb isize fsize) _ b.1 in
    record { low = leb-true least_isize isize a.0; high = leb-true isize most_isize b.0; order = ltb-true isize fsize c.0; most = leb-true fsize most_fsize c.1 }
  where
    both : (p q : Bool) → cond p q false ≡ true → (p ≡ true) × (q ≡ true)
    both true q e = (refl, e)
    both false q e = absurd (false≢true e)

is_done : (p q : Bool) (n : ℕ) → cond p (cond q done (refused (beyond n))) (refused (keeper MakeSizes)) ≡ done → (p ≡ true) × (q ≡ true)
is_done true true n e = (refl, refl)
is_done true false n e = absurd (let z : ◌≡◌ {A = ℕ} 0 1 = cc in omega arith)
is_done false q n e = absurd (let z : ◌≡◌ {A = ℕ} 0 1 = cc in omega arith)

abbrev sized_as : ℕ → ℕ → Sizes
sized_as i f = record { isize = i; fsize = f }

module _ (z : Sizes) where
  abbrev F : List ℕ
  F = new_superblock z.isize z.fsize

  abbrev L : List ℕ
  L = given_blocks z.isize z.fsize

  abbrev bare : List ℕ
  bare = bare_superblock z.isize z.fsize

  module _ (lawful : lawful_sizes z.isize z.fsize ≡ true) (T : Sectors) (new : Newly z.isize z.fsize T) where
    bounds : Bounds z.isize z.fsize
    bounds = and_lawful z.isize z.fsize lawful

    relists : Relists z.isize z.fsize T bare L
    relists =
        relisting_lists_exactly z.isize z.fsize T bare L new.fits (length_bare z.isize z.fsize)
        (given_data z.isize z.fsize bounds) (given_distinct z.isize z.fsize bounds)

    -- THE SUPERBLOCK
    super_num : (n p : ℕ) → Apart at_nfree (2 + entries_bytes) p n → Apart at_tfree 4 p n → Apart at_flock 1 p n → num n p F ≡ num n p bare
    unfolding new_list
    super_num n p a b c =
        num_ext n p p F bare
        (λ k l. relists.same (p + k) (
          ⊎_elim (λ (x : at_nfree + (2 + entries_bytes) ≤ p). inl (omega arith)) (λ (x : p + n ≤ at_nfree). inr (omega arith)) a,
          ⊎_elim (λ (x : at_tfree + 4 ≤ p). inl (omega arith)) (λ (x : p + n ≤ at_tfree). inr (omega arith)) b,
        )
        (λ (e : p + k ≡ at_flock). ⊎_elim (λ (x : at_flock + 1 ≤ p). omega arith) (λ (x : p + n ≤ at_flock). omega arith) c))

    super_isize : isize_of F ≡ z.isize
    super_isize =
        super_num 2 at_isize (apart at_nfree (2 + entries_bytes) at_isize 2 refl) (apart at_tfree 4 at_isize 2 refl) (apart at_flock 1 at_isize 2 refl)
        ∙ bare_isize z.isize z.fsize

    super_fsize : fsize_of F ≡ z.fsize
    super_fsize =
        super_num 4 at_fsize (apart at_nfree (2 + entries_bytes) at_fsize 4 refl) (apart at_tfree 4 at_fsize 4 refl) (apart at_flock 1 at_fsize 4 refl)
        ∙ bare_fsize z.isize z.fsize

    super_magic : magic_of F ≡ magic
    super_magic =
        super_num 4 at_magic (apart at_nfree (2 + entries_bytes) at_magic 4 refl) (apart at_tfree 4 at_magic 4 refl) (apart at_flock 1 at_magic 4 refl)
        ∙ bare_magic z.isize z.fsize

    super_type : type_of F ≡ 1
    super_type =
        super_num 4 at_type (apart at_nfree (2 + entries_bytes) at_type 4 refl) (apart at_tfree 4 at_type 4 refl) (apart at_flock 1 at_type 4 refl)
        ∙ bare_type z.isize z.fsize

    super_unlocked : flock_of F ≡ 0
    unfolding new_list
    super_unlocked = relists.unlocked

    super_total : tfree_of F ≡ length L
    unfolding new_list
    super_total = relists.total (omega (arith, length_unclaimed (z.isize + 1) (z.fsize - (z.isize + 1)), bounds.most))

    super_grounded : 0 < nfree_of F
    unfolding new_list
    super_grounded =
        let l = length_emptied bare (length_bare z.isize z.fsize) ∙ length_bare z.isize z.fsize in
        let c = emptied_count bare (length_bare z.isize z.fsize) in
        still_grounded L (emptied bare) l (omega arith) (omega arith)

    volume : is_volume F (length T) ≡ true
    unfolding is_volume
    volume =
        let a : lawful_sizes (isize_of F) (fsize_of F) ≡ true = ap (λ (i : ℕ). lawful_sizes i (fsize_of F)) super_isize ∙ ap (lawful_sizes z.isize) super_fsize ∙ lawful in
        let b : type_fits F ≡ true = cond-true (eqb (magic_of F) magic) (eqb (type_of F) 1) true (eq-eqb (magic_of F) magic super_magic) ∙ eq-eqb (type_of F) 1 super_type in
        let c : leb (fsize_of F) (length T) ≡ true = le-leb (fsize_of F) (length T) (omega (arith, super_fsize, new.fits)) in
        and_from _ _ (and_from _ _ a b) c

    found : lookup T ≡ Ok z
    unfolding lookup
    found =
        let t : ltb superblock (length T) ≡ true = lt-ltb superblock (length T) (omega (arith, new.fits, bounds.low, bounds.order)) in
        let s : sizes_in F ≡ z = ap (λ (i : ℕ). sized_as i (fsize_of F)) super_isize ∙ ap (sized_as z.isize) super_fsize in
        cond-true (ltb superblock (length T)) _ (Err (beyond superblock)) t
        ∙ ap (λ (x : List ℕ). cond (is_volume x (length T)) (Ok (sizes_in x)) (Err (keeper NoVolume))) new.super
        ∙ cond-true (is_volume F (length T)) (Ok (sizes_in F)) (Err (keeper NoVolume)) volume
        ∙ ap (λ (y : Sizes). Ok y) s

    -- CLAIMS
    one_at : (b : ℕ) → Data z.isize z.fsize b → hit z.isize b + count L b ≡ 1
    one_at b d =
        ⊎_elim
        (λ (e : z.isize ≡ b).
        let h : hit z.isize b ≡ 1 = ap (hit z.isize) (sym e) ∙ hit_same z.isize (omega (arith, bounds.low)) in
        let c : count L b ≡ 0 = count_out b L (given_above z.isize z.fsize bounds b (omega arith)) in
        omega arith)
        (λ (ne : z.isize ≡ b → ⊥).
        let h : hit z.isize b ≡ 0 = hit_other z.isize b ne in
        let c : 0 < count L b = count_among b L (omega (arith, bounds.low)) (given_every z.isize z.fsize bounds b (omega arith) d.1) in
        let m : count L b ≤ 1 = count_distinct b L (given_distinct z.isize z.fsize bounds) in
        omega arith)
        (cases_eq z.isize b)

    most_at : (b : ℕ) → hit z.isize b + count L b ≤ 1
    most_at b =
        ⊎_elim
        (λ (e : z.isize ≡ b).
        let c : count L b ≡ 0 = count_out b L (given_above z.isize z.fsize bounds b (omega arith)) in
        omega (arith, hit_le z.isize b))
        (λ (ne : z.isize ≡ b → ⊥). omega (arith, hit_other z.isize b ne, count_distinct b L (given_distinct z.isize z.fsize bounds)))
        (cases_eq z.isize b)

    listed : Lists chain z.isize z.fsize T (free_list_of (get_or T superblock [])) L
    listed =
        subst (λ (x : List ℕ). Lists chain z.isize z.fsize T (free_list_of x) L) (sym new.super)
        (record { fits = new.lists.fits; roomed = new.lists.roomed; listed = new.lists.listed })

    all_lawful : Lawful T z.isize z.fsize L
    all_lawful =
        record {
          types = new_types z.isize z.fsize bounds T new;
          addresses = λ b h.
              let e = hit_eq z.isize b (omega (arith, new_claims z.isize z.fsize bounds T new b)) in
              (omega arith, omega (arith, bounds.order));
          list = listed;
        }

    safe : Safe T z
    safe =
        record {
          found = found;
          bounds = bounds;
          sized = new.sized;
          unlocked = ap flock_of new.super ∙ super_unlocked;
          free = L;
          lawful = all_lawful;
          most = λ b. omega (arith, new_claims z.isize z.fsize bounds T new b, most_at b);
          grounded = subst (λ (x : List ℕ). 0 < nfree_of x) (sym new.super) super_grounded;
          counted = ap tfree_of new.super ∙ super_total;
          within = λ i p l. omega (arith, new_sizes z.isize z.fsize bounds T new i p l);
          tails = new_tails z.isize z.fsize bounds T new;
        }

    new_whole : Whole T z
    unfolding safe
    new_whole = record { safe = safe; one = λ b d. omega (arith, new_claims z.isize z.fsize bounds T new b, one_at b d) }

pub make_owes : MakeOwes
make_owes z S sized e =
    let d = is_done (lawful_sizes z.isize z.fsize) (leb z.fsize (length S)) (z.fsize - 1) e in
    let b = and_lawful z.isize z.fsize d.0 in
    let n = newly z.isize z.fsize b S (leb-true z.fsize (length S) d.1) sized in
    record {
      whole = new_whole z d.0 (after (make_writes z.isize z.fsize) S) n;
      booked = new_book z.isize z.fsize b (after (make_writes z.isize z.fsize) S) n z refl;
      claimed = new_claims z.isize z.fsize b (after (make_writes z.isize z.fsize) S) n;
    }
