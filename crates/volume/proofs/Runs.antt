-- A call that did what its rule says carries every run on.
use Rattle.std.proofs.Common.{◌≡◌, ℕ, List, [], length, sym, refl, ap}
use Rattle.disk.specs.Medium.{Medium, Write, Sized, ran}
use Rattle.disk.proofs.Binds.{did_none, did_as}
use Rattle.format.specs.Sizes.{Sizes}
use Rattle.rules.specs.Calls.{Answer, done, lookup, may_check, may_clear, find_answer, check_answer, clear_answer}
use Rattle.rules.specs.Make.{make_answer, make_rule}
use Rattle.rules.specs.Runs.{find, check, clear, close, rule}
use Rattle.rules.specs.Promises.{CarriesOn, StartsARun}
use Rattle.rules.proofs.Promised.{carried_on, started}

abbrev nothing_written : Answer → List Write × Answer
nothing_written a = ([], a)

pub find_carries : (m : Medium) (r : Answer) → r ≡ find_answer (lookup m.sectors) → CarriesOn find m r m
find_carries m r e = carried_on find m r m (did_none (rule find) m r (ap nothing_written (sym e)))

pub check_carries : (held : Sizes) (n room : ℕ) (m : Medium) (r : Answer) → r ≡ check_answer m.sectors room (may_check held n m.sectors) → CarriesOn (check held n room) m r m
check_carries held n room m r e = carried_on (check held n room) m r m (did_none (rule (check held n room)) m r (ap nothing_written (sym e)))

pub clear_carries : (held : Sizes) (n room : ℕ) (m : Medium) (r : Answer) → r ≡ clear_answer m.sectors room (may_clear held n m.sectors) → CarriesOn (clear held n room) m r m
clear_carries held n room m r e = carried_on (clear held n room) m r m (did_none (rule (clear held n room)) m r (ap nothing_written (sym e)))

pub close_carries : (m : Medium) → CarriesOn close m done m
close_carries m = carried_on close m done m (did_none (rule close) m done refl)

abbrev wrote_and : List Write → Answer → List Write × Answer
wrote_and W a = (W, a)

pub make_starts : (z : Sizes) (buffer : ℕ) (m end : Medium) (r : Answer) → (r ≡ done → Sized m.sectors)
    → end ≡ ran (make_rule z.isize z.fsize buffer m.sectors).0 m → r ≡ make_answer z.isize z.fsize buffer (length m.sectors) → StartsARun z buffer m r end
make_starts z buffer m end r s w e =
    started z buffer m r end s
    (did_as (make_rule z.isize z.fsize buffer) m end (make_rule z.isize z.fsize buffer m.sectors).0 r (ap (wrote_and (make_rule z.isize z.fsize buffer m.sectors).0) (sym e)) w)
