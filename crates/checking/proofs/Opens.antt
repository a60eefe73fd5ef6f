-- The open tables: one entry further, closed, and one opened anew.
use Rattle.std.proofs.Common.{◌≡◌, ℕ, ◌+◌, ◌<◌, ◌≤◌, List, sym, ap, ◌∙◌, arith}
use Rattle.fault.specs.declared.place.Place.{Place}
use Rattle.format.specs.Layout.{table_width}
use Rattle.verdict.specs.Scan.{Scan, walk, table_entry}
use Rattle.scan.proofs.Turns.{entries_more, entries_done}
use Rattle.checking.specs.declared.level.Level.{Level}
use Rattle.checking.specs.declared.level.Open.{Open}
use Rattle.format.specs.Area.{Area}
use Rattle.checking.specs.Tables.{ahead, at_start, below_from, below, ShutBelow, open_left}

module _ (v : Area) (p : Place) where
  abbrev met_at : ℕ → ℕ → Scan → Scan
  met_at d a s = walk v.sectors v.sizes.isize v.sizes.fsize p d a s

  skip : (d : ℕ) (l : Level) (s : Scan) → table_width ≤ l.next → below_from v p d l.table l.next s ≡ s
  skip d l s h = entries_done v.sectors v.sizes.isize v.sizes.fsize p d l.table l.next s h

  take : (d : ℕ) (l : Level) (s : Scan) → l.next < table_width
      → below_from v p d l.table l.next s ≡ below_from v p d l.table (l.next + 1) (met_at d (table_entry l.table l.next) s)
  take d l s h = entries_more v.sectors v.sizes.isize v.sizes.fsize p d l.table l.next s h

  module _ (a b c : Level) where
    abbrev tables : Level → Level → Level → Open
    tables x y z = record { one = x; two = y; three = z }

    -- what is left above the innermost table, and above the two innermost
    outer : Scan → Scan
    outer s = below_from v p 2 c.table c.next s

    middle : Scan → Scan
    middle s = outer (below_from v p 1 b.table b.next s)

    pub left_one : (s : Scan) → a.next < table_width
        → open_left v p (tables a b c) s ≡ open_left v p (tables (ahead a) b c) (met_at 0 (table_entry a.table a.next) s)
    unfolding open_left middle outer
    left_one s h = ap middle (take 0 a s h)

    pub left_two : (s : Scan) → table_width ≤ a.next → b.next < table_width
        → open_left v p (tables a b c) s ≡ open_left v p (tables a (ahead b) c) (met_at 1 (table_entry b.table b.next) s)
    unfolding open_left middle outer
    left_two s x h =
        let w = met_at 1 (table_entry b.table b.next) s in
        ap middle (skip 0 a s x) ∙ ap outer (take 1 b s h ∙ ap (below_from v p 1 b.table (b.next + 1)) (sym (skip 0 a w x)))

    pub left_three : (s : Scan) → table_width ≤ a.next → table_width ≤ b.next → c.next < table_width
        → open_left v p (tables a b c) s ≡ open_left v p (tables a b (ahead c)) (met_at 2 (table_entry c.table c.next) s)
    unfolding open_left middle outer
    left_three s x y h =
        let w = met_at 2 (table_entry c.table c.next) s in
        ap middle (skip 0 a s x) ∙ ap outer (skip 1 b s y) ∙ take 2 c s h
        ∙ ap (below_from v p 2 c.table (c.next + 1)) (sym (ap (below_from v p 1 b.table b.next) (skip 0 a w x) ∙ skip 1 b w y))

    pub left_shut : (s : Scan) → table_width ≤ a.next → table_width ≤ b.next → table_width ≤ c.next → open_left v p (tables a b c) s ≡ s
    unfolding open_left middle outer
    left_shut s x y z = ap middle (skip 0 a s x) ∙ ap outer (skip 1 b s y) ∙ skip 2 c s z

    -- a table opened in place of a closed one
    pub opened_one : (t : List ℕ) (s : Scan) → table_width ≤ a.next
        → open_left v p (tables (at_start t) b c) s ≡ open_left v p (tables a b c) (below_from v p 0 t 0 s)
    unfolding open_left middle outer
    opened_one t s x = sym (ap middle (skip 0 a (below_from v p 0 t 0 s) x))

    pub opened_two : (t : List ℕ) (s : Scan) → table_width ≤ a.next → table_width ≤ b.next
        → open_left v p (tables a (at_start t) c) s ≡ open_left v p (tables a b c) (below_from v p 1 t 0 s)
    unfolding open_left middle outer
    opened_two t s x y =
        let w = below_from v p 1 t 0 s in
        ap (λ (u : Scan). outer (below_from v p 1 t 0 u)) (skip 0 a s x) ∙ sym (ap middle (skip 0 a w x) ∙ ap outer (skip 1 b w y))

    pub opened_three : (t : List ℕ) (s : Scan) → table_width ≤ a.next → table_width ≤ b.next → table_width ≤ c.next
        → open_left v p (tables a b (at_start t)) s ≡ open_left v p (tables a b c) (below_from v p 2 t 0 s)
    unfolding open_left middle outer
    opened_three t s x y z =
        let w = below_from v p 2 t 0 s in
        ap (below_from v p 2 t 0) (ap (below_from v p 1 b.table b.next) (skip 0 a s x) ∙ skip 1 b s y)
        ∙ sym (ap middle (skip 0 a w x) ∙ ap outer (skip 1 b w y) ∙ skip 2 c w z)

  -- a table opened at the head of a tree of depth d
  module _ (o : Open) (l : Level) (d : ℕ) (t : List ℕ) (s : Scan) where
    pub open_at_one : d ≡ 1 → l ≡ at_start t → ShutBelow d o → open_left v p (record { one = l; two = o.two; three = o.three }) s ≡ open_left v p o (below v p d t s)
    open_at_one e f q = rw (e, f) (opened_one o.one o.two o.three t s (q.0 (omega (arith, e))))

    pub open_at_two : d ≡ 2 → l ≡ at_start t → ShutBelow d o → open_left v p (record { one = o.one; two = l; three = o.three }) s ≡ open_left v p o (below v p d t s)
    open_at_two e f q = rw (e, f) (opened_two o.one o.two o.three t s (q.0 (omega (arith, e))) (q.1 (omega (arith, e))))

    pub open_at_three : d ≡ 3 → l ≡ at_start t → ShutBelow d o → open_left v p (record { one = o.one; two = o.two; three = l }) s ≡ open_left v p o (below v p d t s)
    open_at_three e f q = rw (e, f) (opened_three o.one o.two o.three t s (q.0 (omega (arith, e))) (q.1 (omega (arith, e))) (q.2 (omega (arith, e))))
