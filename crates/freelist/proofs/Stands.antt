-- The free list in the bytes of a volume is a stack.
use Rattle.std.proofs.Common.{◌≡◌, ℕ, zero, suc, ◌+◌, ◌-◌, ◌*◌, ◌<◌, ◌≤◌, cond, eqb, ◌≢◌, List, [], ◌∷◌, ◌++◌, length, get_or, set, sym, refl, ap, ◌∙◌, inl, inr, ⊎_elim, arith, length-set, get_or-set_other, get_or-set_same}
use Rattle.std.specs.List.{AllByRecursion as All}
use Rattle.std.proofs.ByRecursion.{All-append, All-weaker}
use Rattle.std.proofs.lemmas.List.{append-nil}
use Rattle.std.proofs.lemmas.Bool.{cases_eq, cond_both, eq-eqb, ne_eqb, eqb-true}
use Rattle.fault.specs.declared.fault.ListFault.{ListFault}
use Rattle.fault.specs.declared.fault.ListFault.TheVariants.{Empty}
use Rattle.disk.specs.Medium.{Sectors, Write, after}
use Rattle.disk.proofs.Writes.{length_after, after_append, Spares, SizedWrites}
use Rattle.numbers.specs.Numbers.{num, put_num, nums}
use Rattle.numbers.specs.Laws.{Apart}
use Rattle.numbers.proofs.Numbers.{put_length, num_put, num_apart, num_set, num_ext, byte_apart, length_nums, getD_nums, nums_ext, apart}
use Rattle.format.specs.Layout.{block_bytes, list_room}
use Rattle.format.specs.Superblock.{at_nfree, at_free, at_tfree, at_flock, nfree_of, free_at, free_of, tfree_of, flock_of}
use Rattle.freelist.specs.Stack.{Free, Out, most_total}
use Rattle.freelist.specs.Stack.{took as taking, refused as no_taking}
use Rattle.freelist.specs.Chain.{chain}
use Rattle.freelist.specs.Bytes.{Taken, took, refused, in_pages, member_bytes, entries_bytes, free_list_of, take_bytes, give_bytes, give_writes, gave_all, unclaimed, emptied}
use Rattle.freelist.specs.Laws.{Distinct, Among, AllData, Elsewhere, SameElsewhere, ListsBlocks, TakeGivesTheFirst, TakeFromAnEmptyList, GiveListsInFront, WritesBelowLeaveTheList, EmptiedListsNothing, MemberWrite, GivingListsAll, RelistingListsExactly, UnclaimedAreEachOnce}
use Rattle.freelist.proofs.Pages.{take_is_uncons, empty_gives_none, give_is_cons, other_writes_leave_the_list, listed_blocks_are_data}
use Rattle.freelist.proofs.Gives.{index_low, length_give, give_count, give_total, give_apart, give_is_given, length_member, member_is_page, writes_full, writes_none}
use Rattle.freelist.proofs.Takings.{take_is_taken, took_keeps, data_below, below_data}

-- TAKE
-- what a take over pages says of the take in bytes
took_back : (t : Taken) (b : ℕ) (f : Free) (m : ℕ) → in_pages t ≡ taking b f m → (r : List ℕ) × (t ≡ took b r m) × (free_list_of r ≡ f)
took_back (took a s j) b f m h =
    let p : a ≡ b = cc in
    let q : j ≡ m = cc in
    let e : free_list_of s ≡ f = cc in
    (s, (rw (p, q)), e)
took_back (refused l) b f m h = let z : ◌≡◌ {A = ℕ} 0 1 = cc in absurd (omega arith)

refused_back : (t : Taken) (l : ListFault) → in_pages t ≡ no_taking l → t ≡ refused l
refused_back (took a s j) l h = let z : ◌≡◌ {A = ℕ} 0 1 = cc in absurd (omega arith)
refused_back (refused k) l h = let e : k ≡ l = cc in rw e

pub take_gives_the_first : TakeGivesTheFirst
take_gives_the_first lo hi S m s b L pos there sized ls h =
    let t = take_is_uncons chain lo hi S m (free_list_of s) b L pos h in
    let r = took_back (take_bytes lo hi S m s) b t.rest t.member (take_is_taken lo hi S sized there m s ls ∙ t.is) in
    record {
      rest = r.0;
      member = t.member;
      is = r.1;
      lists = rw r.2 t.lists;
      lowered = ap (λ (f : Free). f.total) r.2 ∙ t.lowered;
      others = took_keeps lo hi S m s ls b r.0 t.member r.1;
    }

pub take_from_an_empty_list : TakeFromAnEmptyList
take_from_an_empty_list lo hi S m s there sized ls h =
    refused_back (take_bytes lo hi S m s) (Empty m) (take_is_taken lo hi S sized there m s ls ∙ empty_gives_none chain lo hi S m (free_list_of s) h)

-- GIVE
pub give_same : (b : ℕ) (s : List ℕ) → nfree_of s ≤ list_room → SameElsewhere s (give_bytes b s)
unfolding num
give_same b s fits = record { long = length_give b s; same = λ k e. give_apart b s 1 k fits e.0 e.1 }

-- what a give writes
after_give : (b : ℕ) (s : List ℕ) (S : Sectors) → after (give_writes b s) S ≡ cond (eqb (nfree_of s) list_room) (set S b (member_bytes s)) S
after_give b s S =
    ⊎_elim
    (λ (x : nfree_of s ≡ list_room). rw (writes_full b s x, eq-eqb (nfree_of s) list_room x))
    (λ (x : nfree_of s ≡ list_room → ⊥). rw (writes_none b s x, ne_eqb (nfree_of s) list_room x))
    (cases_eq (nfree_of s) list_room)

pub give_lists_in_front : GiveListsInFront
give_lists_in_front lo hi S s b L d there ls o h =
    let fits : nfree_of s ≤ list_room = h.fits in
    let g = give_is_cons chain lo hi S (free_list_of s) b L (member_bytes s) d (omega (arith, data_below lo hi b d)) o (λ full. member_is_page s ls full) h in
    let t = give_total b s ls fits in
    record {
      lists = rw (after_give b s S, give_is_given b s ls fits) g;
      total = λ l. omega arith;
      others = give_same b s fits;
    }

out_below : (lo hi t : ℕ) (L : List ℕ) → t < lo → AllData lo hi L → Out t L
out_below lo hi t [] l h = tt
out_below lo hi t (b ∷ L) l h = ((λ (e : b ≡ t). let p = data_below lo hi b h.0 in omega arith), out_below lo hi t L l h.1)

pub writes_below_leave_the_list : WritesBelowLeaveTheList
writes_below_leave_the_list lo hi S s L t x l h =
    other_writes_leave_the_list chain lo hi S ((t, x) ∷ []) (free_list_of s) L (out_below lo hi t L l (listed_blocks_are_data chain lo hi S (free_list_of s) L h), tt) h

-- AN EMPTY LIST
module _ (s : List ℕ) (ls : length s ≡ block_bytes) where
  pub length_emptied : length (emptied s) ≡ length s
  unfolding emptied
  length_emptied = simp (length-set, put_length)

  pub emptied_count : nfree_of (emptied s) ≡ 1
  unfolding emptied
  emptied_count =
      num_set 2 at_nfree at_flock 0 _ (apart at_flock 1 at_nfree 2 refl)
      ∙ num_apart 4 at_tfree 2 at_nfree 0 _ (apart at_tfree 4 at_nfree 2 refl)
      ∙ num_apart 4 (free_at 0) 2 at_nfree 0 _ (apart (free_at 0) 4 at_nfree 2 refl)
      ∙ num_put 2 at_nfree 1 s (omega arith) (omega arith)

  emptied_entry : free_of 0 (emptied s) ≡ 0
  unfolding emptied
  emptied_entry =
      let l = put_length 2 at_nfree 1 s in
      num_set 4 (free_at 0) at_flock 0 _ (apart at_flock 1 (free_at 0) 4 refl)
      ∙ num_apart 4 at_tfree 4 (free_at 0) 0 _ (apart at_tfree 4 (free_at 0) 4 refl)
      ∙ num_put 4 (free_at 0) 0 (put_num 2 at_nfree 1 s) (omega arith) (omega arith)

  emptied_total : tfree_of (emptied s) ≡ 0
  unfolding emptied
  emptied_total =
      let l = put_length 4 (free_at 0) 0 (put_num 2 at_nfree 1 s) ∙ put_length 2 at_nfree 1 s in
      num_set 4 at_tfree at_flock 0 _ (apart at_flock 1 at_tfree 4 refl)
      ∙ num_put 4 at_tfree 0 (put_num 4 (free_at 0) 0 (put_num 2 at_nfree 1 s)) (omega arith) (omega arith)

  emptied_lock : flock_of (emptied s) ≡ 0
  unfolding emptied
  emptied_lock =
      let x = put_num 4 at_tfree 0 (put_num 4 (free_at 0) 0 (put_num 2 at_nfree 1 s)) in
      let l : length (put_num 4 at_tfree 0 (put_num 4 (free_at 0) 0 (put_num 2 at_nfree 1 s))) ≡ length s =
      put_length 4 at_tfree 0 (put_num 4 (free_at 0) 0 (put_num 2 at_nfree 1 s)) ∙ put_length 4 (free_at 0) 0 (put_num 2 at_nfree 1 s) ∙ put_length 2 at_nfree 1 s in
      get_or-set_same x at_flock 0 0 (omega arith)

  emptied_same : (k : ℕ) → Elsewhere k → (k ≡ at_flock → ⊥) → get_or (emptied s) k 0 ≡ get_or s k 0
  unfolding emptied
  emptied_same k e ne =
      get_or-set_other _ at_flock k 0 0 ne
      ∙ byte_apart 4 at_tfree 0 k _ e.1
      ∙ byte_apart 4 (free_at 0) 0 k _ (⊎_elim (λ (l : at_nfree + (2 + entries_bytes) ≤ k). inl (omega arith)) (λ (l : k + 1 ≤ at_nfree). inr (omega arith)) e.0)
      ∙ byte_apart 2 at_nfree 1 k s (⊎_elim (λ (l : at_nfree + (2 + entries_bytes) ≤ k). inl (omega arith)) (λ (l : k + 1 ≤ at_nfree). inr (omega arith)) e.0)

  emptied_lists : (lo hi : ℕ) (S : Sectors) → ListsBlocks lo hi S (emptied s) []
  emptied_lists lo hi S =
      let z : get_or (nums 4 list_room at_free (emptied s)) 0 0 ≡ 0 = getD_nums 4 list_room at_free 0 (emptied s) (omega arith) ∙ emptied_entry in
      record {
        fits = rw emptied_count (omega arith);
        roomed = length_nums 4 list_room at_free (emptied s);
        listed = rw emptied_count z;
      }

pub emptied_lists_nothing : EmptiedListsNothing
emptied_lists_nothing s ls =
    record {
      lists = emptied_lists s ls;
      total = emptied_total s ls;
      unlocked = emptied_lock s ls;
      long = length_emptied s ls;
      same = emptied_same s ls;
    }

-- GIVING MANY
-- a superblock of a block's size whose count is lawful
pub gave_all_fits : (L s : List ℕ) → length s ≡ block_bytes → nfree_of s ≤ list_room → (length (gave_all L s).1 ≡ block_bytes) × (nfree_of (gave_all L s).1 ≤ list_room)
unfolding gave_all
gave_all_fits [] s h w = (h, w)
gave_all_fits (b ∷ L) s h w =
    let r = gave_all_fits L s h w in
    let i = index_low (nfree_of (gave_all L s).1) r.1 in
    (length_give b (gave_all L s).1 ∙ r.0, rw (give_count b (gave_all L s).1 r.0) (omega arith))

pub gave_all_same : (L s : List ℕ) → length s ≡ block_bytes → nfree_of s ≤ list_room → SameElsewhere s (gave_all L s).1
unfolding gave_all
gave_all_same [] s h w = record { long = refl; same = λ k e. refl }
gave_all_same (b ∷ L) s h w =
    let r = gave_all_same L s h w in
    let f = gave_all_fits L s h w in
    let g = give_same b (gave_all L s).1 f.1 in
    record { long = g.long ∙ r.long; same = λ k e. g.same k e ∙ r.same k e }

pub gave_all_total : (L s : List ℕ) → length s ≡ block_bytes → nfree_of s ≤ list_room → tfree_of s + length L ≤ most_total → tfree_of (gave_all L s).1 ≡ tfree_of s + length L
unfolding gave_all
gave_all_total [] s h w l = omega arith
gave_all_total (b ∷ L) s h w l =
    let r = gave_all_total L s h w (omega arith) in
    let f = gave_all_fits L s h w in
    let t = give_total b (gave_all L s).1 f.0 f.1 in
    omega arith

-- the writes of a give
give_member : (b : ℕ) (s : List ℕ) (L : List ℕ) → length s ≡ block_bytes → All (MemberWrite (b ∷ L)) (give_writes b s)
give_member b s L h =
    ⊎_elim
    (λ (x : nfree_of s ≡ list_room). rw (writes_full b s x) ((inl refl, length_member s h), tt))
    (λ (x : nfree_of s ≡ list_room → ⊥). rw (writes_none b s x) tt)
    (cases_eq (nfree_of s) list_room)

pub gave_all_written : (L s : List ℕ) → length s ≡ block_bytes → nfree_of s ≤ list_room → All (MemberWrite L) (gave_all L s).0
unfolding gave_all
gave_all_written [] s h w = tt
gave_all_written (b ∷ L) s h w =
    let f = gave_all_fits L s h w in
    All-append (MemberWrite (b ∷ L)) (gave_all L s).0 (give_writes b (gave_all L s).1)
    (All-weaker (MemberWrite L) (MemberWrite (b ∷ L)) (λ w q. (inr q.0, q.1)) (gave_all L s).0 (gave_all_written L s h w))
    (give_member b (gave_all L s).1 L f.0)

out_append : (t : ℕ) (L M : List ℕ) → Out t L → Out t M → Out t (L ++ M)
out_append t [] M h k = k
out_append t (b ∷ L) M h k = (h.0, out_append t L M h.1 k)

gave_all_lists : (lo hi : ℕ) (S : Sectors) (s L M : List ℕ) → hi ≤ length S → length s ≡ block_bytes
    → AllData lo hi L → Distinct L → All (λ b. Out b M) L → ListsBlocks lo hi S s M
    → ListsBlocks lo hi (after (gave_all L s).0 S) (gave_all L s).1 (L ++ M)
unfolding gave_all
gave_all_lists lo hi S s [] M there ls d n o h = h
gave_all_lists lo hi S s (b ∷ L) M there ls d n o h =
    let r = gave_all_lists lo hi S s L M there ls d.1 n.1 o.1 h in
    let f = gave_all_fits L s ls h.fits in
    let W = (gave_all L s).0 in
    let g = give_lists_in_front lo hi (after W S) (gave_all L s).1 b (L ++ M) d.0 (rw (length_after W S) there) f.0 (out_append b L M n.0 o.0) r in
    rw (after_append W (give_writes b (gave_all L s).1) S) g.lists

pub giving_lists_all : GivingListsAll
giving_lists_all lo hi S s L M there ls d n o h =
    record {
      lists = gave_all_lists lo hi S s L M there ls d n o h;
      total = gave_all_total L s ls h.fits;
      written = gave_all_written L s ls h.fits;
      others = gave_all_same L s ls h.fits;
    }

none_out : (L : List ℕ) → All (λ (b : ℕ). Out b []) L
none_out [] = tt
none_out (b ∷ L) = (tt, none_out L)

pub relisting_lists_exactly : RelistingListsExactly
relisting_lists_exactly lo hi S s L there ls d n =
    let e = emptied_lists_nothing s ls in
    let le : length (emptied s) ≡ block_bytes = e.long ∙ ls in
    let g = giving_lists_all lo hi S (emptied s) L [] there le d n (none_out L) (e.lists lo hi S) in
    record {
      lists = rw append-nil at g.lists;
      total = λ l. let z = e.total in g.total (omega arith) ∙ omega arith;
      unlocked = g.others.same at_flock (apart at_nfree (2 + entries_bytes) at_flock 1 refl, apart at_tfree 4 at_flock 1 refl) ∙ e.unlocked;
      written = g.written;
      long = g.others.long ∙ e.long;
      same = λ k x ne. g.others.same k x ∙ e.same k x ne;
    }

-- THE UNCLAIMED BLOCKS
-- the blocks from b on, n of them
pub unclaimed_data : (codes : List ℕ) (lo hi b n : ℕ) → lo ≤ b → b + n ≤ hi → AllData lo hi (unclaimed codes b n)
unfolding unclaimed
unclaimed_data codes lo hi b zero l h = tt
unclaimed_data codes lo hi b (suc n) l h =
    let r = unclaimed_data codes lo hi (suc b) n (omega arith) (omega arith) in
    cond_both (eqb (get_or codes b 0) 0) (b ∷ unclaimed codes (suc b) n) (unclaimed codes (suc b) n) (AllData lo hi)
    (λ x. (below_data lo hi b l (omega arith), r)) (λ x. r)

pub unclaimed_coded : (codes : List ℕ) (b n : ℕ) → All (λ (c : ℕ). get_or codes c 0 ≡ 0) (unclaimed codes b n)
unfolding unclaimed
unclaimed_coded codes b zero = tt
unclaimed_coded codes b (suc n) =
    let r = unclaimed_coded codes (suc b) n in
    cond_both (eqb (get_or codes b 0) 0) (b ∷ unclaimed codes (suc b) n) (unclaimed codes (suc b) n) (All (λ (c : ℕ). get_or codes c 0 ≡ 0))
    (λ x. (eqb-true (get_or codes b 0) 0 x, r)) (λ x. r)

unclaimed_distinct : (codes : List ℕ) (b n : ℕ) → Distinct (unclaimed codes b n)
unfolding unclaimed
unclaimed_distinct codes b zero = tt
unclaimed_distinct codes b (suc n) =
    let r = unclaimed_distinct codes (suc b) n in
    cond_both (eqb (get_or codes b 0) 0) (b ∷ unclaimed codes (suc b) n) (unclaimed codes (suc b) n) Distinct
    (λ x. (out_below (suc b) (suc b + n) b (unclaimed codes (suc b) n) (omega arith) (unclaimed_data codes (suc b) (suc b + n) (suc b) n (omega arith) (omega arith)), r)) (λ x. r)

unclaimed_every : (codes : List ℕ) (b n c : ℕ) → b ≤ c → c < b + n → get_or codes c 0 ≡ 0 → Among c (unclaimed codes b n)
unfolding unclaimed
unclaimed_every codes b zero c l h z = absurd (omega arith)
unclaimed_every codes b (suc n) c l h z =
    ⊎_elim
    (λ (x : b ≡ c). let e : get_or codes b 0 ≡ 0 = rw x z in rw (eq-eqb (get_or codes b 0) 0 e) (inl x))
    (λ (x : b ≡ c → ⊥).
    let r = unclaimed_every codes (suc b) n c (omega arith) (omega arith) z in
    cond_both (eqb (get_or codes b 0) 0) (b ∷ unclaimed codes (suc b) n) (unclaimed codes (suc b) n) (Among c) (λ y. inr r) (λ y. r))
    (cases_eq b c)

pub unclaimed_are_each_once : UnclaimedAreEachOnce
unclaimed_are_each_once codes lo hi h =
    record {
      data_blocks = unclaimed_data codes lo hi lo (hi - lo) (omega arith) (omega arith);
      distinct = unclaimed_distinct codes lo (hi - lo);
      unclaimed = unclaimed_coded codes lo (hi - lo);
      every = λ b d z. let p = data_below lo hi b d in unclaimed_every codes lo (hi - lo) b p.0 (omega arith) z;
    }

-- FOR THE PROOFS ABOVE
-- a sector that is none of the blocks given is spared, and every write is whole
among_out : (t b : ℕ) (L : List ℕ) → Out t L → Among b L → t ≢ b
among_out t b [] o a = absurd a
among_out t b (c ∷ L) o a = ⊎_elim (λ (e : c ≡ b). λ (x : t ≡ b). o.0 (e ∙ sym x)) (λ (m : Among b L). among_out t b L o.1 m) a

pub members_spare : (t : ℕ) (L : List ℕ) (W : List Write) → Out t L → All (MemberWrite L) W → Spares t W
members_spare t L [] o h = tt
members_spare t L (w ∷ W) o h = (among_out t w.0 L o h.0.0, members_spare t L W o h.1)

pub members_sized : (L : List ℕ) (W : List Write) → All (MemberWrite L) W → SizedWrites W
members_sized L [] h = tt
members_sized L (w ∷ W) h = (h.0.1, members_sized L W h.1)

-- numbers and rows of numbers outside the list
pub same_num : (s r : List ℕ) (n p : ℕ) → SameElsewhere s r → Apart at_nfree (2 + entries_bytes) p n → Apart at_tfree 4 p n → num n p r ≡ num n p s
same_num s r n p h a b =
    num_ext n p p r s
    (λ k l. h.same (p + k) (
      ⊎_elim (λ (x : at_nfree + (2 + entries_bytes) ≤ p). inl (omega arith)) (λ (x : p + n ≤ at_nfree). inr (omega arith)) a,
      ⊎_elim (λ (x : at_tfree + 4 ≤ p). inl (omega arith)) (λ (x : p + n ≤ at_tfree). inr (omega arith)) b,
    ))

pub same_nums : (s r : List ℕ) (w n p : ℕ) → SameElsewhere s r → Apart at_nfree (2 + entries_bytes) p (w * n) → Apart at_tfree 4 p (w * n) → nums w n p r ≡ nums w n p s
same_nums s r w n p h a b =
    nums_ext w n p p r s
    (λ k l. h.same (p + k) (
      ⊎_elim (λ (x : at_nfree + (2 + entries_bytes) ≤ p). inl (omega arith)) (λ (x : p + w * n ≤ at_nfree). inr (omega arith)) a,
      ⊎_elim (λ (x : at_tfree + 4 ≤ p). inl (omega arith)) (λ (x : p + w * n ≤ at_tfree). inr (omega arith)) b,
    ))
