-- What check and clear owe.
use Rattle.std.proofs.Common.{◌≡◌, ℕ, ◌+◌, ◌<◌, Bool, true, false, cond, eqb, leb, ◌⊎◌, List, [], get_or, Ok, Err, Result, sym, refl, ap, ◌∙◌, subst, inl, inr, arith}
use Rattle.std.proofs.lemmas.Bool.{false≢true, eqb-true, eq-eqb}
use Rattle.fault.specs.declared.fault.Fault.{Fault}
use Rattle.fault.specs.declared.refusal.Refusal.TheVariants.{BufferSize, OtherSizes, NotClear}
use Rattle.fault.specs.Refusals.{keeper}
use Rattle.disk.specs.Medium.{Sectors}
use Rattle.format.specs.Layout.{superblock}
use Rattle.format.specs.Sizes.{Sizes}
use Rattle.freelist.specs.Bytes.{free_list_of}
use Rattle.freelist.specs.Chain.{chain}
use Rattle.freelist.proofs.Pages.{one_row_is_listed}
use Rattle.trees.specs.Trees.{count}
use Rattle.trees.specs.Walk.{Data}
use Rattle.verdict.specs.Sound.{claims_on, OneClaimEach}
use Rattle.verdict.specs.Verdict.{verdict_of}
use Rattle.rules.specs.Calls.{done, refused, accepted, and_then, same_sizes, fits_held, may_clear, if_unlocked, if_status_0, check_answer, clear_answer}
use Rattle.rules.specs.Runs.{check, clear, Point}
use Rattle.rules.specs.Promises.{status, RightVerdict, Judged, RightClear, Served}
use Rattle.rules.proofs.Owed.{Safe, Whole, Kept, Owes}
use Rattle.verdict.proofs.Sounds as verdict
use Rattle.rules.proofs.Statuses.{safe_status, whole_status, safe_findings, safe_free, whole_missing, safe_counted}
use Rattle.rules.proofs.Quiet.{quiet_owes, found_check, found_clear, unlocked_passes, served}

-- CHECK
right_verdict : (x : Point) (room : ℕ) → Kept x → RightVerdict x (verdict_of x.disk.sectors x.sizes.isize x.sizes.fsize room)
right_verdict x room k =
    let S = x.disk.sectors in
    let z = x.sizes in
    record {
      nothing_found = safe_findings S z k.safe room;
      status_0_or_8 = safe_status S z k.safe room;
      nothing_missing = λ u. (whole_status S z (k.whole u) room, whole_missing S z (k.whole u) room);
      free_as_stated = safe_free S z k.safe room ∙ sym k.safe.counted;
      all_counted = safe_counted S z k.safe room;
    }

pub check_owes : (held : Sizes) (n room : ℕ) → Owes (check held n room)
check_owes held n room =
    quiet_owes (check held n room) (λ S. refl) (λ B r. refl) (λ S z s e. absurd (false≢true e))
    (λ x k.
    let S = x.disk.sectors in
    subst (λ (f : Result Sizes Fault). Served x held n (check_answer x.disk.sectors room f) (Judged x (check_answer x.disk.sectors room f)))
    (sym (found_check S x.sizes held n k.safe.found))
    (served x held n (check_answer S room) (Judged x) (λ f. refl) (right_verdict x room k)))

-- CLEAR
-- status 0 shows that no data block is missing
whole_at_0 : (S : Sectors) (z : Sizes) → Safe S z → (room : ℕ) → status S z room ≡ 0 → Whole S z
whole_at_0 S z s room e =
    let o : OneClaimEach S z.isize z.fsize = (verdict.one_claim_each S z.isize z.fsize room s.bounds).0 e in
    let p : 0 < z.isize = omega (arith, s.bounds.low) in
    let l = one_row_is_listed chain z.isize z.fsize S (free_list_of (get_or S superblock [])) o.free s.free p o.lawful.list s.lawful.list in
    record { safe = s; one = subst (λ (L : List ℕ). (b : ℕ) → Data z.isize z.fsize b → claims_on S z.isize b + count L b ≡ 1) l o.one }

accepted_at_0 : (n : ℕ) → accepted (if_status_0 n) ≡ true → n ≡ 0
accepted_at_0 n e = eqb-true n 0 (go (eqb n 0) e)
  where
    go : (b : Bool) → accepted (cond b done (refused (keeper NotClear))) ≡ true → b ≡ true
    go true e = refl
    go false e = e

clear_status : (S : Sectors) (z : Sizes) (room : ℕ) (f : Result Sizes Fault) → (f ≡ Ok z) ⊎ ((g : Fault) × (f ≡ Err g)) → accepted (clear_answer S room f) ≡ true → status S z room ≡ 0
clear_status S z room f (inl h) e = accepted_at_0 (status S z room) (subst (λ (f : Result Sizes Fault). accepted (clear_answer S room f) ≡ true) h e)
clear_status S z room f (inr h) e = absurd (false≢true (subst (λ (f : Result Sizes Fault). accepted (clear_answer S room f) ≡ true) h.1 e))

-- the tests pass the sizes found, or refuse
passes : (S : Sectors) (z : Sizes) (b c : Bool) → if_unlocked S z ≡ Ok z
    → (and_then (cond b (cond c (Ok z) (Err (keeper BufferSize))) (Err (keeper OtherSizes))) (if_unlocked S) ≡ Ok z)
    ⊎ ((g : Fault) × (and_then (cond b (cond c (Ok z) (Err (keeper BufferSize))) (Err (keeper OtherSizes))) (if_unlocked S) ≡ Err g))
passes S z true true u = inl u
passes S z true false u = inr (keeper BufferSize, refl)
passes S z false c u = inr (keeper OtherSizes, refl)

clear_settles : (held : Sizes) (n room : ℕ) (S : Sectors) (z : Sizes) → Safe S z → accepted (clear_answer S room (may_clear held n S)) ≡ true → Whole S z
clear_settles held n room S z s e =
    let f = found_clear S z held n s.found in
    let g = subst (λ (r : Result Sizes Fault). accepted (clear_answer S room r) ≡ true) f e in
    whole_at_0 S z s room
    (clear_status S z room (and_then (fits_held held n z) (if_unlocked S))
    (passes S z (same_sizes z held) (leb z.fsize n) (unlocked_passes S z s.unlocked)) g)

either_answer : (b : Bool) → (cond b done (refused (keeper NotClear)) ≡ done) ⊎ (cond b done (refused (keeper NotClear)) ≡ refused (keeper NotClear))
either_answer true = inl refl
either_answer false = inr refl

right_clear : (x : Point) (room : ℕ) → Kept x → RightClear x (clear_answer x.disk.sectors room (if_unlocked x.disk.sectors x.sizes))
right_clear x room k =
    let S = x.disk.sectors in
    let z = x.sizes in
    subst (λ (f : Result Sizes Fault). RightClear x (clear_answer x.disk.sectors room f)) (sym (unlocked_passes S z k.safe.unlocked))
    (record {
      accepted_unless_unmended = λ u. ap (λ (b : Bool). cond b done (refused (keeper NotClear))) (eq-eqb (status S z room) 0 (whole_status S z (k.whole u) room));
      accepted_or_15 = either_answer (eqb (status S z room) 0);
    })

pub clear_owes : (held : Sizes) (n room : ℕ) → Owes (clear held n room)
clear_owes held n room =
    quiet_owes (clear held n room) (λ S. refl) (λ B r. refl) (clear_settles held n room)
    (λ x k.
    let S = x.disk.sectors in
    subst (λ (f : Result Sizes Fault). Served x held n (clear_answer x.disk.sectors room f) (RightClear x (clear_answer x.disk.sectors room f)))
    (sym (found_clear S x.sizes held n k.safe.found))
    (served x held n (λ f. clear_answer x.disk.sectors room (and_then f (if_unlocked x.disk.sectors))) (RightClear x) (λ f. refl) (right_clear x room k)))
