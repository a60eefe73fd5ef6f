-- The rule of each call that writes nothing: what it answers, by the sectors at its entry, and what it leaves in the caller's buffers.
use Rattle.std.specs.Prelude.{ℕ, Bool, true, false, cond, ◌&&◌, List, [], length, Ok, Err, Result, ◌==◌, nat_le, nat_lt, slice_index_or}
use Rattle.fault.specs.declared.fault.Fault.{Fault}
use Rattle.fault.specs.declared.finding.Finding.{Finding}
use Rattle.fault.specs.declared.refusal.Refusal.TheVariants.{BufferSize, NoVolume, OtherSizes, Locked, NotClear}
use Rattle.fault.specs.Refusals.{beyond, keeper}
use Rattle.disk.specs.Medium.{Sectors}
use Rattle.format.specs.Layout.{superblock}
use Rattle.format.specs.Superblock.{isize_of, fsize_of, flock_of, type_fits}
use Rattle.format.specs.Sizes.{Sizes, lawful_sizes}
use Rattle.verdict.specs.declared.verdict.Verdict.{Verdict}
use Rattle.verdict.specs.Verdict.{verdict_of, findings_of, kept, scratch_of}

-- the answers: the sizes found, a verdict, nothing to say, a refusal
pub data Answer : Type 0 where
  sized : Sizes → Answer
  judged : Verdict → Answer
  done : Answer
  refused : Fault → Answer

abbrev pub accepted : Answer → Bool
accepted (sized z) = true
accepted (judged v) = true
accepted done = true
accepted (refused f) = false

-- the superblock x stands for a volume on a disk of n sectors: sizes and type are lawful, and it fits
unfoldable pub is_volume : List ℕ → ℕ → Bool
is_volume x n = (lawful_sizes (isize_of x) (fsize_of x) && type_fits x) && nat_le (fsize_of x) n

abbrev pub sizes_in : List ℕ → Sizes
sizes_in x = record { isize = isize_of x; fsize = fsize_of x }

-- the volume on a disk: 5 where there is no superblock, then 7
unfoldable pub lookup : Sectors → Result Sizes Fault
lookup S =
    cond (nat_lt superblock (length S))
    (cond (is_volume (slice_index_or S superblock []) (length S)) (Ok (sizes_in (slice_index_or S superblock []))) (Err (keeper NoVolume)))
    (Err (beyond superblock))

abbrev pub and_then : Result Sizes Fault → (Sizes → Result Sizes Fault) → Result Sizes Fault
and_then (Ok z) g = g z
and_then (Err f) g = Err f

abbrev pub same_sizes : Sizes → Sizes → Bool
same_sizes z w = z.isize == w.isize && z.fsize == w.fsize

-- 8 where the volume held has other sizes, then 3 where the scratch of n bytes is too small
abbrev pub fits_held : Sizes → ℕ → Sizes → Result Sizes Fault
fits_held held n z = cond (same_sizes z held) (cond (nat_le z.fsize n) (Ok z) (Err (keeper BufferSize))) (Err (keeper OtherSizes))

-- the tests before a check, in their order: 5, 7, 8, 3
unfoldable pub may_check : Sizes → ℕ → Sectors → Result Sizes Fault
may_check held n S = and_then (lookup S) (fits_held held n)

abbrev pub if_unlocked : Sectors → Sizes → Result Sizes Fault
if_unlocked S z = cond (flock_of (slice_index_or S superblock []) == 0) (Ok z) (Err (keeper Locked))

-- the tests before the check of a clear, in their order: 5, 7, 8, 3, 9
unfoldable pub may_clear : Sizes → ℕ → Sectors → Result Sizes Fault
may_clear held n S = and_then (may_check held n S) (if_unlocked S)

-- FIND, CHECK, CLEAR
abbrev pub find_answer : Result Sizes Fault → Answer
find_answer (Ok z) = sized z
find_answer (Err f) = refused f

abbrev pub check_answer : Sectors → ℕ → Result Sizes Fault → Answer
check_answer S room (Ok z) = judged (verdict_of S z.isize z.fsize room)
check_answer S room (Err f) = refused f

abbrev pub if_status_0 : ℕ → Answer
if_status_0 status = cond (status == 0) done (refused (keeper NotClear))

abbrev pub clear_answer : Sectors → ℕ → Result Sizes Fault → Answer
clear_answer S room (Ok z) = if_status_0 (verdict_of S z.isize z.fsize room).status
clear_answer S room (Err f) = refused f

-- the caller's scratch and findings: filled where the check was made, else as they were
abbrev pub scratch_after : Sectors → Result Sizes Fault → List ℕ → List ℕ
scratch_after S (Ok z) old = scratch_of S z.isize z.fsize old
scratch_after S (Err f) old = old

abbrev pub findings_after : Sectors → Result Sizes Fault → List Finding → List Finding
findings_after S (Ok z) old = kept old (findings_of S z.isize z.fsize)
findings_after S (Err f) old = old
