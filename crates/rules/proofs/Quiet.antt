-- What a call that writes nothing owes.
use Rattle.std.proofs.Common.{◌≡◌, ℕ, Bool, true, false, cond, leb, List, [], get_or, take, Ok, Err, MatchBool, Result, sym, ap, ◌∙◌, subst, inl}
use Rattle.std.proofs.Math.Seq.{take-nil}
use Rattle.std.proofs.lemmas.Bool.{eq-eqb}
use Rattle.fault.specs.declared.fault.Fault.{Fault}
use Rattle.fault.specs.declared.refusal.Refusal.TheVariants.{BufferSize, OtherSizes, Locked}
use Rattle.fault.specs.Refusals.{keeper}
use Rattle.disk.specs.Medium.{Sectors, Write, after}
use Rattle.format.specs.Layout.{superblock}
use Rattle.format.specs.Superblock.{flock_of}
use Rattle.format.specs.Sizes.{Sizes}
use Rattle.rules.specs.Calls.{Answer, refused, lookup, and_then, same_sizes, fits_held, may_check, may_clear, if_unlocked}
use Rattle.rules.specs.Files.{Alike, Book, files_on}
use Rattle.rules.specs.Runs.{Ask, rule, writes, fed, settles, Point}
use Rattle.rules.specs.Promises.{Right, Served}
use Rattle.rules.proofs.Owed.{Safe, Whole, Booked, Kept, Owes, alike_same}

-- A call that writes nothing and leaves the book owes only what an acceptance shows and a right answer.
module _ (a : Ask) (none : (S : Sectors) → writes a S ≡ []) (unfed : (B : Book) (r : Answer) → fed B a r ≡ B) where
  still : (k : ℕ) (S : Sectors) → after (take k (writes a S)) S ≡ S
  still k S = ap (λ (W : List Write). after (take k W) S) (none S) ∙ ap (λ (W : List Write). after W S) (take-nil {A = Write} k)

  all_still : (S : Sectors) → after (writes a S) S ≡ S
  all_still S = ap (λ (W : List Write). after W S) (none S)

  pub quiet_owes : ((S : Sectors) (z : Sizes) → Safe S z → settles a (rule a S).1 ≡ true → Whole S z)
      → ((x : Point) → Kept x → Right x a (rule a x.disk.sectors).1) → Owes a
  quiet_owes settled right =
      record {
        safe = λ S z s k. subst (λ (T : Sectors). Safe T z) (sym (still k S)) s;
        files = λ S z s k i. inl (subst (λ (T : Sectors). Alike (files_on T z i) (files_on S z i)) (sym (still k S)) (alike_same (files_on S z i)));
        whole = λ S z w. subst (λ (T : Sectors). Whole T z) (sym (all_still S)) w;
        settled = λ S z s e. subst (λ (T : Sectors). Whole T z) (sym (all_still S)) (settled S z s e);
        booked = λ S z B s b. subst (λ (T : Sectors). Booked T z (fed B a (rule a S).1)) (sym (all_still S)) (subst (Booked S z) (sym (unfed B (rule a S).1)) b);
        right = right;
      }

-- the tests of a check and of a clear, on a volume that is found
pub found_check : (S : Sectors) (z held : Sizes) (n : ℕ) → lookup S ≡ Ok z → may_check held n S ≡ fits_held held n z
unfolding may_check
found_check S z held n e = ap (λ (f : Result Sizes Fault). and_then f (fits_held held n)) e

pub found_clear : (S : Sectors) (z held : Sizes) (n : ℕ) → lookup S ≡ Ok z → may_clear held n S ≡ and_then (fits_held held n z) (if_unlocked S)
unfolding may_clear
found_clear S z held n e = ap (λ (f : Result Sizes Fault). and_then f (if_unlocked S)) (found_check S z held n e)

pub unlocked_passes : (S : Sectors) (z : Sizes) → flock_of (get_or S superblock []) ≡ 0 → if_unlocked S z ≡ Ok z
unlocked_passes S z e = ap (λ (b : Bool). cond b (Ok z) (Err (keeper Locked))) (eq-eqb (flock_of (get_or S superblock [])) 0 e)

-- 8 and 3 are the answers exactly where the sizes differ and the scratch is small; else what the sizes found lead to
served_by : (b c : Bool) (z : Sizes) (answer : Result Sizes Fault → Answer) (P : Answer → Type 0) → ((f : Fault) → answer (Err f) ≡ refused f) → P (answer (Ok z))
    → MatchBool b (MatchBool c (P (answer (cond b (cond c (Ok z) (Err (keeper BufferSize))) (Err (keeper OtherSizes)))))
    (answer (cond b (cond c (Ok z) (Err (keeper BufferSize))) (Err (keeper OtherSizes))) ≡ refused (keeper BufferSize)))
    (answer (cond b (cond c (Ok z) (Err (keeper BufferSize))) (Err (keeper OtherSizes))) ≡ refused (keeper OtherSizes))
served_by true true z answer P refuses ok = ok
served_by true false z answer P refuses ok = refuses (keeper BufferSize)
served_by false c z answer P refuses ok = refuses (keeper OtherSizes)

pub served : (x : Point) (held : Sizes) (n : ℕ) (answer : Result Sizes Fault → Answer) (P : Answer → Type 0) → ((f : Fault) → answer (Err f) ≡ refused f) → P (answer (Ok x.sizes))
    → Served x held n (answer (fits_held held n x.sizes)) (P (answer (fits_held held n x.sizes)))
served x held n answer P refuses ok = served_by (same_sizes x.sizes held) (leb x.sizes.fsize n) x.sizes answer P refuses ok
