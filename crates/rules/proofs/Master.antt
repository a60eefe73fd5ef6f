-- Every run keeps its promises, from what each call owes and what make owes.
use Rattle.std.proofs.Common.{◌≡◌, ℕ, ◌-◌, Bool, true, false, cond, eqb, leb, List, length, take, sym, refl, ap, ◌∙◌, subst, arith}
use Rattle.std.proofs.Math.Seq.{take-length}
use Rattle.std.proofs.lemmas.Bool.{true≢false, eqb-true}
use Rattle.fault.specs.declared.refusal.Refusal.TheVariants.{BufferSize, MakeSizes}
use Rattle.fault.specs.Refusals.{beyond, keeper}
use Rattle.disk.specs.Medium.{Power, Sectors, Sized, Write, Medium, after, Lasts, Fails}
use Rattle.disk.specs.Calls.{Did}
use Rattle.disk.proofs.Writes.{ran_first, ran_all}
use Rattle.format.specs.Layout.{block_bytes}
use Rattle.format.specs.Sizes.{Sizes, lawful_sizes}
use Rattle.rules.specs.Calls.{Answer, done, refused}
use Rattle.rules.specs.Make.{make_answer, make_by, make_writes, make_rule}
use Rattle.rules.specs.Files.{files_on}
use Rattle.rules.specs.Runs.{Ask, rule, writes, fed, settles, Point, start, next, restarted, NewlyMade, Run, made, step, cut}
use Rattle.rules.specs.Promises.{Good, Right, BeforeOrAfter, EveryRunKeepsItsPromises, CarriesOn, StartsARun}
use Rattle.rules.proofs.Owed.{Safe, Whole, Booked, Kept, Owes, Fresh, MakeOwes, alike_same}
use Rattle.rules.proofs.Statuses.{safe_status, whole_status, fresh_verdict}

pub kept_good : (x : Point) → Kept x → Good x
kept_good x k =
    record {
      identified = k.safe.found;
      status_0_unless_unmended = λ u room. whole_status x.disk.sectors x.sizes (k.whole u) room;
      status_0_or_8 = safe_status x.disk.sectors x.sizes k.safe;
      files_are_the_book's = k.booked;
    }

-- a failure stays unmended until a call settles it
settled_step : (b d : Bool) (P : Type 0) → (b ≡ true → P) → (d ≡ false → P) → cond b false d ≡ false → P
settled_step true d P f g e = f refl
settled_step false d P f g e = g e

-- an accepted make wrote all of its writes
pub make_accepted : (z : Sizes) (before m : Medium) → NewlyMade z before m
    → (make_answer z.isize z.fsize block_bytes (length before.sectors) ≡ done)
    × (m.sectors ≡ after (make_writes z.isize z.fsize) before.sectors)
make_accepted z before m n =
    let e = sym (n.did.answered n.lasted) in (
      e,
      ap (λ (y : Medium). y.sectors) n.did.wrote
          ∙ ran_all (make_by z.isize z.fsize (make_answer z.isize z.fsize block_bytes (length before.sectors))) before n.lasted
          ∙ ap (λ (r : Answer). after (make_by z.isize z.fsize r) before.sectors) e,
    )

-- only a sector buffer of its size is accepted
whole_buffer : (i f buffer n : ℕ) → make_answer i f buffer n ≡ done → buffer ≡ block_bytes
whole_buffer i f buffer n e = eqb-true buffer block_bytes (go (lawful_sizes i f) (leb f n) (eqb buffer block_bytes) e)
  where
    go : (p q r : Bool) → cond p (cond q (cond r done (refused (keeper BufferSize))) (refused (beyond (f - 1)))) (refused (keeper MakeSizes)) ≡ done → r ≡ true
    go true true true e = refl
    go true true false e = absurd (let z : ◌≡◌ {A = ℕ} 0 1 = cc in omega arith)
    go true false r e = absurd (let z : ◌≡◌ {A = ℕ} 0 1 = cc in omega arith)
    go false q r e = absurd (let z : ◌≡◌ {A = ℕ} 0 1 = cc in omega arith)

module _ (owes : (a : Ask) → Owes a) (make_owes : MakeOwes) where
  -- after a call that was not cut
  next_kept : (x : Point) (a : Ask) (m : Medium) → Kept x → m.sectors ≡ after (writes a x.disk.sectors) x.disk.sectors
      → Kept (next x a (rule a x.disk.sectors).1 m)
  next_kept x a m k e =
      let S = x.disk.sectors in
      let z = x.sizes in
      let s : Safe (after (writes a x.disk.sectors) x.disk.sectors) x.sizes =
      subst (λ (W : List Write). Safe (after W x.disk.sectors) x.sizes) (take-length (writes a x.disk.sectors))
      ((owes a).safe S z k.safe (length (writes a x.disk.sectors))) in
      let w = settled_step (settles a (rule a x.disk.sectors).1) x.unmended (Whole (after (writes a x.disk.sectors) x.disk.sectors) x.sizes)
      ((owes a).settled S z k.safe) (λ u. (owes a).whole S z (k.whole u)) in
      record {
        safe = subst (λ (T : Sectors). Safe T x.sizes) (sym e) s;
        whole = λ u. subst (λ (T : Sectors). Whole T x.sizes) (sym e) (w u);
        booked = subst (λ (T : Sectors). Booked T x.sizes (fed x.book a (rule a x.disk.sectors).1)) (sym e) ((owes a).booked S z x.book k.safe k.booked);
      }

  start_fresh : (z : Sizes) (before m : Medium) → NewlyMade z before m → Fresh m.sectors z
  start_fresh z before m n =
      let a = make_accepted z before m n in
      subst (λ (T : Sectors). Fresh T z) (sym a.1) (make_owes z before.sectors n.sized a.0)

  start_kept : (z : Sizes) (before m : Medium) → NewlyMade z before m → Kept (start z m)
  start_kept z before m n = let f = start_fresh z before m n in record { safe = f.whole.safe; whole = λ u. f.whole; booked = f.booked }

  -- the sectors after a call, cut or not
  first_writes : (x : Point) (a : Ask) (r : Answer) (m : Medium) → Did (rule a) x.disk r m
      → (k : ℕ) × (m.sectors ≡ after (take k (writes a x.disk.sectors)) x.disk.sectors)
  first_writes x a r m d =
      let q = ran_first (writes a x.disk.sectors) x.disk in
      (q.0, ap (λ (n : Medium). n.sectors) d.wrote ∙ q.2)

  restarted_kept : (x : Point) (a : Ask) (r : Answer) (m : Medium) (p : Power) → Kept x → Did (rule a) x.disk r m → Kept (restarted x m p)
  restarted_kept x a r m p k d =
      let q = first_writes x a r m d in
      record {
        safe = subst (λ (T : Sectors). Safe T x.sizes) (sym q.1) ((owes a).safe x.disk.sectors x.sizes k.safe q.0);
        whole = λ u. absurd (true≢false u);
        booked = λ i. alike_same (files_on m.sectors x.sizes i);
      }

  pub run_kept : {x : Point} → Run x → Kept x
  run_kept (made z before m n) = start_kept z before m n
  run_kept (step {x = x} run a r m d l) =
      subst (λ (s : Answer). Kept (next x a s m)) (sym (d.answered l))
      (next_kept x a m (run_kept run) (ap (λ (n : Medium). n.sectors) d.wrote ∙ ran_all (writes a x.disk.sectors) x.disk l))
  run_kept (cut {x = x} run a r m d f p) = restarted_kept x a r m p (run_kept run) d

  right_answer : (x : Point) → Run x → (a : Ask) (r : Answer) (m : Medium) → Did (rule a) x.disk r m → Lasts x.disk.power (writes a x.disk.sectors) → Right x a r
  right_answer x run a r m d l = subst (Right x a) (sym (d.answered l)) ((owes a).right x (run_kept run))

  torn_files : (x : Point) → Run x → (a : Ask) (r : Answer) (m : Medium) → Did (rule a) x.disk r m
      → BeforeOrAfter x.disk.sectors (after (writes a x.disk.sectors) x.disk.sectors) m.sectors x.sizes
  torn_files x run a r m d =
      let q = first_writes x a r m d in
      subst (λ (T : Sectors). BeforeOrAfter x.disk.sectors (after (writes a x.disk.sectors) x.disk.sectors) T x.sizes) (sym q.1)
      ((owes a).files x.disk.sectors x.sizes (run_kept run).safe q.0)

  pub promises : EveryRunKeepsItsPromises
  promises =
      record {
        points = λ x run. kept_good x (run_kept run);
        answers = λ x run a r m d l. (d.answered l, right_answer x run a r m d l);
        cuts = torn_files;
        new_volumes = λ z before m n room. fresh_verdict m.sectors z (start_fresh z before m n) room;
      }

  -- what a call does carries every run on
  pub carries : (a : Ask) (before : Medium) (r : Answer) (end : Medium) → Did (rule a) before r end → CarriesOn a before r end
  carries a before r end d =
      record {
        uncut = λ x run e l.
            let f = subst (λ (n : Medium). Did (rule a) n r end) (sym e) d in
            let h = subst (λ (n : Medium). Lasts n.power (writes a n.sectors)) (sym e) l in
            let g = step run a r end f h in
            (g, kept_good (next x a r end) (run_kept g), right_answer x run a r end f h);
        failing = λ x run e l p.
            let f = subst (λ (n : Medium). Did (rule a) n r end) (sym e) d in
            let h = subst (λ (n : Medium). Fails n.power (writes a n.sectors)) (sym e) l in
            let g = cut run a r end f h p in
            (g, kept_good (restarted x end p) (run_kept g));
        torn = λ x run e.
            subst (λ (n : Medium). BeforeOrAfter n.sectors (after (writes a n.sectors) n.sectors) end.sectors x.sizes) e
            (torn_files x run a r end (subst (λ (n : Medium). Did (rule a) n r end) (sym e) d));
      }

  -- where make is accepted and its power lasts, a run starts
  pub starts : (z : Sizes) (buffer : ℕ) (before : Medium) (r : Answer) (end : Medium) → (r ≡ done → Sized before.sectors) → Did (make_rule z.isize z.fsize buffer) before r end → StartsARun z buffer before r end
  starts z buffer before r end sized d e l =
      let f = sym e ∙ d.answered l in
      let b : buffer ≡ block_bytes = whole_buffer z.isize z.fsize buffer (length before.sectors) (sym f) in
      let g : Did (make_rule z.isize z.fsize buffer) before done end = subst (λ (s : Answer). Did (make_rule z.isize z.fsize buffer) before s end) e d in
      let n : NewlyMade z before end =
      record {
        sized = sized e;
        did = subst (λ (k : ℕ). Did (make_rule z.isize z.fsize k) before done end) b g;
        lasted = subst (λ (k : ℕ). Lasts before.power (make_rule z.isize z.fsize k before.sectors).0) b l;
      } in
      (made z before end n, kept_good (start z end) (start_kept z before end n))
