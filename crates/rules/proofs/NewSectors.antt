-- The sectors that make leaves, one by one.
use Rattle.std.proofs.Common.{◌≡◌, ℕ, zero, suc, ◌+◌, ◌-◌, ◌<◌, ◌≤◌, ◌≢◌, ◌⊎◌, List, [], ◌∷◌, ◌++◌, length, get_or, set, sym, refl, ◌∙◌, subst, inl, ⊎_elim, arith, length-set, get_or-set_other, get_or-set_same}
use Rattle.std.proofs.lemmas.Bool.{cases_eq}
use Rattle.disk.specs.Medium.{Sectors, Sized, Write, after}
use Rattle.disk.proofs.Writes.{after_append, length_after, Spares, SizedWrites, sized_append, sized_set, sized_after, spares_append, getD_after_other}
use Rattle.format.specs.Layout.{superblock, first_list_block}
use Rattle.format.specs.Sizes.{Bounds}
use Rattle.freelist.specs.Stack.{Out}
use Rattle.freelist.specs.Laws.{Distinct, Among, AllData, ListsBlocks, Relists}
use Rattle.freelist.specs.Bytes.{unclaimed, emptied, gave_all}
use Rattle.freelist.proofs.Takings.{data_below, below_data}
use Rattle.freelist.proofs.Stands.{relisting_lists_exactly, unclaimed_data, unclaimed_are_each_once, members_spare, members_sized, writes_below_leave_the_list}
use Rattle.rules.specs.Make.{list_block, list_writes, root_block, bare_superblock, new_list, make_writes}
use Rattle.rules.proofs.Layouts.{length_list_block, length_root_block, length_bare}

-- the blocks that make gives
abbrev pub given_blocks : ℕ → ℕ → List ℕ
given_blocks isize fsize = unclaimed [] (isize + 1) (fsize - (isize + 1))

-- the superblock that make writes
abbrev pub new_superblock : ℕ → ℕ → List ℕ
new_superblock isize fsize = (new_list isize fsize).1

-- What make leaves on the sectors T.
pub record Newly (isize fsize : ℕ) (T : Sectors) : Type 0 where
  pub sized : Sized T
  pub fits : fsize ≤ length T
  pub i_list : (n : ℕ) → n < isize - first_list_block → get_or T (first_list_block + n) [] ≡ list_block isize n
  pub root_at : get_or T isize [] ≡ root_block
  pub super : get_or T superblock [] ≡ new_superblock isize fsize
  pub lists : ListsBlocks isize fsize T (new_superblock isize fsize) (given_blocks isize fsize)

-- THE I-LIST
list_sized : (isize n : ℕ) → SizedWrites (list_writes isize n)
unfolding list_writes
list_sized isize zero = tt
list_sized isize (suc n) = sized_append (list_writes isize n) ((first_list_block + n, list_block isize n) ∷ []) (list_sized isize n) (length_list_block isize n, tt)

list_spares : (isize n t : ℕ) → first_list_block + n ≤ t → Spares t (list_writes isize n)
unfolding list_writes
list_spares isize zero t h = tt
list_spares isize (suc n) t h =
    spares_append t (list_writes isize n) ((first_list_block + n, list_block isize n) ∷ []) (list_spares isize n t (omega arith)) (omega arith, tt)

list_there : (isize n : ℕ) (S : Sectors) (j : ℕ) → first_list_block + n ≤ length S → j < n → get_or (after (list_writes isize n) S) (first_list_block + j) [] ≡ list_block isize j
unfolding list_writes
list_there isize zero S j h l = absurd (omega arith)
list_there isize (suc n) S j h l =
    let A = after (list_writes isize n) S in
    rw (after_append (list_writes isize n) ((first_list_block + n, list_block isize n) ∷ []) S)
    (⊎_elim
    (λ (e : j ≡ n). rw e (get_or-set_same A (first_list_block + n) (list_block isize n) [] (omega (arith, length_after (list_writes isize n) S))))
    (λ (e : j ≡ n → ⊥).
    get_or-set_other A (first_list_block + n) (first_list_block + j) (list_block isize n) [] (omega arith) ∙ list_there isize n S j (omega arith) (omega arith))
    (cases_eq j n))

-- THE BLOCKS GIVEN
out_of : (lo hi t : ℕ) (L : List ℕ) → (t < lo) ⊎ (hi ≤ t) → AllData lo hi L → Out t L
out_of lo hi t [] h d = tt
out_of lo hi t (b ∷ L) h d =
    let p = data_below lo hi b d.0 in (
      (λ (e : b ≡ t). ⊎_elim (λ (x : t < lo). omega arith) (λ (x : hi ≤ t). omega arith) h),
      out_of lo hi t L h d.1,
    )

module _ (isize fsize : ℕ) (bounds : Bounds isize fsize) where
  abbrev L : List ℕ
  L = unclaimed [] (isize + 1) (fsize - (isize + 1))

  above : AllData (isize + 1) fsize L
  above = unclaimed_data [] (isize + 1) fsize (isize + 1) (fsize - (isize + 1)) (omega arith) (omega (arith, bounds.order))

  pub given_data : AllData isize fsize (given_blocks isize fsize)
  given_data = unclaimed_data [] isize fsize (isize + 1) (fsize - (isize + 1)) (omega arith) (omega (arith, bounds.order))

  pub given_distinct : Distinct (given_blocks isize fsize)
  given_distinct = (unclaimed_are_each_once [] (isize + 1) fsize (omega (arith, bounds.order))).distinct

  -- none of them lies below the root's block, or is it
  pub given_above : (t : ℕ) → t ≤ isize → Out t (given_blocks isize fsize)
  given_above t h = out_of (isize + 1) fsize t L (inl (omega arith)) above

  pub given_every : (b : ℕ) → isize < b → b < fsize → Among b (given_blocks isize fsize)
  given_every b l h =
      (unclaimed_are_each_once [] (isize + 1) fsize (omega (arith, bounds.order))).every b
      (below_data (isize + 1) fsize b (omega arith) h) refl

  module _ (S : Sectors) (there : fsize ≤ length S) (whole : Sized S) where
    abbrev LW : List Write
    LW = list_writes isize (isize - first_list_block)

    abbrev M : List Write
    M = (gave_all L (emptied (bare_superblock isize fsize))).0

    abbrev F : List ℕ
    F = (gave_all L (emptied (bare_superblock isize fsize))).1

    abbrev S1 : Sectors
    S1 = after LW S

    abbrev S2 : Sectors
    S2 = set S1 isize root_block

    abbrev S3 : Sectors
    S3 = after M S2

    abbrev T : Sectors
    T = set S3 superblock F

    made_sectors : after (make_writes isize fsize) S ≡ T
    unfolding make_writes new_list
    made_sectors =
        after_append LW (((isize, root_block) ∷ []) ++ (M ++ ((superblock, F) ∷ []))) S
        ∙ after_append M ((superblock, F) ∷ []) S2

    long_1 : length S1 ≡ length S
    long_1 = length_after LW S

    long_2 : length S2 ≡ length S
    long_2 = length-set S1 isize root_block ∙ long_1

    long_3 : length S3 ≡ length S
    long_3 = length_after M S2 ∙ long_2

    relists : Relists isize fsize S2 (bare_superblock isize fsize) L
    relists = relisting_lists_exactly isize fsize S2 (bare_superblock isize fsize) L (omega (arith, long_2)) (length_bare isize fsize) given_data given_distinct

    -- what the members and the superblock leave
    spared : (t : ℕ) → t ≤ isize → t ≢ superblock → get_or T t [] ≡ get_or S2 t []
    spared t h n =
        get_or-set_other S3 superblock t F [] n
        ∙ getD_after_other M S2 t (members_spare t L M (given_above t h) relists.written)

    all_sized : Sized T
    all_sized =
        sized_set S3 superblock F (relists.long ∙ length_bare isize fsize)
        (sized_after M S2 (members_sized L M relists.written)
        (sized_set S1 isize root_block length_root_block
        (sized_after LW S (list_sized isize (isize - first_list_block)) whole)))

    newly_T : Newly isize fsize T
    unfolding new_list
    newly_T =
        let low = bounds.low in
        let order = bounds.order in
        record {
          sized = all_sized;
          fits = omega (arith, length-set S3 superblock F, long_3);
          i_list = λ n h.
              spared (first_list_block + n) (omega arith) (omega arith)
              ∙ get_or-set_other S1 isize (first_list_block + n) root_block [] (omega arith)
              ∙ list_there isize (isize - first_list_block) S n (omega arith) h;
          root_at = spared isize (omega arith) (omega arith) ∙ get_or-set_same S1 isize root_block [] (omega (arith, long_1));
          super = get_or-set_same S3 superblock F [] (omega (arith, long_3));
          lists = writes_below_leave_the_list isize fsize S3 F L superblock F (omega arith) relists.lists;
        }

    pub newly : Newly isize fsize (after (make_writes isize fsize) S)
    newly = subst (Newly isize fsize) (sym made_sectors) newly_T
