-- A scan that keeps what the caller's list shows of the findings, beside one that keeps them all.
use Rattle.std.proofs.Common.{◌≡◌, ℕ, suc, Bool, true, false, cond, ltb, List, [], ◌∷◌, ◌++◌, length, set, replicate, sym, refl, ap, ◌∙◌, arith, lt-ltb}
use Rattle.std.proofs.lemmas.List.{length_push}
use Prim.Native.Nat.compare
use Rattle.std.specs.Int.Bits.{bit_or}
use Rattle.disk.specs.Medium.{Sectors}
use Rattle.fault.specs.declared.place.Place.{Place}
use Rattle.fault.specs.declared.finding.Kind.{Kind}
use Rattle.fault.specs.declared.finding.Finding.{Finding}
use Rattle.fault.specs.Findings.{status_bit}
use Rattle.verdict.specs.declared.verdict.Census.{Census}
use Rattle.verdict.specs.Scan.{Scan, Log, all, shown, push, noted, note, claim, files, free_list, Report, report, survey, nothing, check}
use Rattle.verdict.specs.Verdict.{findings_in, bits_from, kept, blank, checked}
use Rattle.scan.proofs.Alike.{files_alike, list_alike}

ltb_suc : (a b : ℕ) → ltb (suc a) (suc b) ≡ ltb a b
ltb_suc a b = ap lib.Dec.is_le (compare.suc-suc (suc a) b)

cons_cond : (b : Bool) (f : Finding) (xs ys : List Finding) → cond b (f ∷ xs) (f ∷ ys) ≡ f ∷ cond b xs ys
cons_cond true f xs ys = refl
cons_cond false f xs ys = refl

either : (b : Bool) → cond {A = List Finding} b [] [] ≡ []
either true = refl
either false = refl

pub kept_none : (os : List Finding) → kept os [] ≡ os
kept_none [] = refl
kept_none (o ∷ os) = refl

pub kept_more : (os fs : List Finding) (f : Finding) → noted (kept os fs) (length fs) f ≡ kept os (fs ++ f ∷ [])
kept_more [] [] f = refl
kept_more [] (g ∷ fs) f = either (ltb (length (g ∷ fs)) 0)
kept_more (o ∷ os) [] f =
    ap (λ (b : Bool). cond b (f ∷ os) (o ∷ os)) (lt-ltb 0 (suc (length os)) (omega arith)) ∙ ap (λ (x : List Finding). f ∷ x) (sym (kept_none os))
kept_more (o ∷ os) (g ∷ fs) f =
    cons_cond (ltb (length (g ∷ fs)) (length (g ∷ kept os fs))) g (set (kept os fs) (length fs) f) (kept os fs)
    ∙ ap (λ (b : Bool). g ∷ cond b (set (kept os fs) (length fs) f) (kept os fs)) (ltb_suc (length fs) (length (kept os fs)))
    ∙ ap (λ (x : List Finding). g ∷ x) (kept_more os fs f)

bits_more : (b : ℕ) (fs : List Finding) (f : Finding) → bits_from b (fs ++ f ∷ []) ≡ bit_or (bits_from b fs) (status_bit f.kind)
bits_more b [] f = refl
bits_more b (g ∷ fs) f = bits_more (bit_or b (status_bit g.kind)) fs f

-- what a list that held os shows of the findings fs
abbrev pub shown_of : List Finding → List Finding → Log
shown_of os fs = shown (kept os fs) (length fs) (bits_from 0 fs)

-- s has the codes of t, and shows in a list that held os all that t found
pub record Shows (os : List Finding) (s t : Scan) : Type 0 where
  pub codes : s.codes ≡ t.codes
  pub all_kept : t.log ≡ all (findings_in t.log)
  pub log : s.log ≡ shown_of os (findings_in t.log)

module _ (os : List Finding) where
  push_shown : (fs : List Finding) (f : Finding) → push (shown_of os fs) f ≡ shown_of os (fs ++ f ∷ [])
  push_shown fs f = let a = kept_more os fs f in let b = length_push fs f in let c = bits_more 0 fs f in cc

  push_all : (x : Log) (f : Finding) → x ≡ all (findings_in x) → push x f ≡ all (findings_in x ++ f ∷ [])
  push_all x f e = ap (λ (y : Log). push y f) e

  more : (k : Kind) (a : ℕ) (p : Place) (s t : Scan) → Shows os s t → Shows os (note k a p s) (note k a p t)
  more k a p s t r =
      let f : Finding = record { kind = k; address = a; place = p } in
      let e = push_all t.log f r.all_kept in
      let g : findings_in (push t.log f) ≡ findings_in t.log ++ f ∷ [] = ap findings_in e in
      record {
        codes = r.codes;
        all_kept = e ∙ ap (λ (fs : List Finding). all fs) (sym g);
        log = ap (λ (x : Log). push x f) r.log ∙ push_shown (findings_in t.log) f ∙ ap (shown_of os) (sym g);
      }

  taken : (v a : ℕ) (s t : Scan) → Shows os s t → Shows os (claim v a s) (claim v a t)
  taken v a s t r = record { codes = ap (λ (cs : List ℕ). set cs a v) r.codes; all_kept = r.all_kept; log = r.log }

  pub shows_start : (cs : List ℕ) → Shows os (record { codes = cs; log = shown os 0 0 }) (record { codes = cs; log = all [] })
  shows_start cs = record { codes = refl; all_kept = refl; log = ap (λ (l : List Finding). shown l 0 0) (sym (kept_none os)) }

  module _ (ss : Sectors) (lo hi : ℕ) where
    pub files_shown : (k : ℕ) (s t : Scan) → Shows os s t → Shows os (files ss lo hi k s) (files ss lo hi k t)
    files_shown = files_alike (Shows os) (λ s t r. r.codes) more taken ss lo hi

    pub list_shown : (s t : Scan) → Shows os s t → Shows os (free_list ss lo hi s) (free_list ss lo hi t)
    list_shown = list_alike (Shows os) (λ s t r. r.codes) more taken ss lo hi

-- What a scan with the caller's list has when the files, and when the whole check, are done from no codes and no findings.
pub record Showing (ss : Sectors) (lo hi : ℕ) (os l : List Finding) (n b : ℕ) (cs : List ℕ) (t : Scan) : Type 0 where
  pub codes : cs ≡ t.codes
  pub findings : l ≡ kept os (findings_in t.log)
  pub number : n ≡ length (findings_in t.log)
  pub bits : b ≡ bits_from 0 (findings_in t.log)

module _ (ss : Sectors) (lo hi : ℕ) (os l : List Finding) (n b : ℕ) (cs : List ℕ) where
  abbrev ending : Scan
  ending = record { codes = cs; log = shown l n b }

  abbrev start : Scan
  start = record { codes = replicate hi 0; log = shown os 0 0 }

  showing : (s t : Scan) → ending ≡ s → Shows os s t → Showing ss lo hi os l n b cs t
  showing s t e r =
      let d : cs ≡ s.codes = ap (λ (x : Scan). x.codes) e in
      let g : shown l n b ≡ s.log = ap (λ (x : Scan). x.log) e in
      let h = r.log in
      record { codes = d ∙ r.codes; findings = cc; number = cc; bits = cc }

  pub files_done_show : ending ≡ files ss lo hi 0 start → Showing ss lo hi os l n b cs (files ss lo hi 0 (blank hi))
  files_done_show e = showing _ _ e (files_shown os ss lo hi 0 start (blank hi) (shows_start os (replicate hi 0)))

  pub check_done_shows : (c : Census) → ◌≡◌ {A = Report} (record { scan = ending; census = c }) (check ss lo hi start)
      → Showing ss lo hi os l n b cs (checked ss lo hi).scan × (c ≡ (checked ss lo hi).census)
  unfolding report
  check_done_shows c e =
      let r = list_shown os ss lo hi (files ss lo hi 0 start) (files ss lo hi 0 (blank hi)) (files_shown os ss lo hi 0 start (blank hi) (shows_start os (replicate hi 0))) in (
        showing _ _ (ap (λ (x : Report). x.scan) e) r,
        ap (λ (x : Report). x.census) e ∙ ap (λ (x : List ℕ). survey hi x lo nothing) r.codes,
      )
