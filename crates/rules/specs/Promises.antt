-- What holds at every point of every run, and of every answer.
use Rattle.std.specs.Prelude.{◌≡◌, ℕ, ◌+◌, ◌-◌, false, ◌⊎◌, [], Ok, MatchBool, nat_le, slice_index_or}
use Rattle.fault.specs.declared.refusal.Refusal.TheVariants.{BufferSize, OtherSizes, NotClear}
use Rattle.fault.specs.Refusals.{keeper}
use Rattle.disk.specs.Medium.{Power, Sectors, Medium, after, Lasts, Fails}
use Rattle.disk.specs.Calls.{Did}
use Rattle.format.specs.Layout.{superblock}
use Rattle.format.specs.Superblock.{tfree_of}
use Rattle.format.specs.Sizes.{Sizes}
use Rattle.verdict.specs.declared.verdict.Verdict.{Verdict}
use Rattle.verdict.specs.Verdict.{verdict_of}
use Rattle.rules.specs.Calls.{Answer, sized, judged, done, refused, lookup, same_sizes}
use Rattle.rules.specs.Files.{Alike, files_on}
use Rattle.rules.specs.Make.{make_rule}
use Rattle.rules.specs.Runs.{Ask, find, check, clear, close, rule, writes, Point, start, next, restarted, NewlyMade, Run}

-- the status of the check, whatever the room for findings
abbrev pub status : Sectors → Sizes → ℕ → ℕ
status S z room = (verdict_of S z.isize z.fsize room).status

-- AT EVERY POINT
pub record Good (x : Point) : Type 0 where
  -- the volume is found, with the sizes that it was made with
  pub identified : lookup x.disk.sectors ≡ Ok x.sizes
  -- status 0 while no failure is unmended
  pub status_0_unless_unmended : x.unmended ≡ false → (room : ℕ) → status x.disk.sectors x.sizes room ≡ 0
  -- 0 or 0x08 always
  pub status_0_or_8 : (room : ℕ) → (status x.disk.sectors x.sizes room ≡ 0) ⊎ (status x.disk.sectors x.sizes room ≡ 8)
  -- the book has exactly the files that are stored, with their sizes and bytes
  pub files_are_the_book's : (i : ℕ) → Alike (files_on x.disk.sectors x.sizes i) (x.book i)

-- OF EVERY ANSWER
-- what a verdict tells in a run
pub record RightVerdict (x : Point) (v : Verdict) : Type 0 where
  pub nothing_found : v.findings ≡ 0
  pub status_0_or_8 : (v.status ≡ 0) ⊎ (v.status ≡ 8)
  -- nothing is missing while no failure is unmended
  pub nothing_missing : x.unmended ≡ false → (v.status ≡ 0) × (v.census.missing ≡ 0)
  -- as many blocks are free as the superblock states
  pub free_as_stated : v.census.free ≡ tfree_of (slice_index_or x.disk.sectors superblock [])
  -- every data block is counted
  pub all_counted : v.census.used + v.census.free + v.census.missing ≡ x.sizes.fsize - x.sizes.isize

-- a check that is served answers with a verdict
abbrev pub Judged : Point → Answer → Type 0
Judged x (judged v) = RightVerdict x v
Judged x (sized z) = ⊥
Judged x done = ⊥
Judged x (refused f) = ⊥

-- accepted while no failure is unmended, else accepted or refused with 15
pub record RightClear (x : Point) (r : Answer) : Type 0 where
  pub accepted_unless_unmended : x.unmended ≡ false → r ≡ done
  pub accepted_or_15 : (r ≡ done) ⊎ (r ≡ refused (keeper NotClear))

-- 8 exactly where the sizes held are other ones, then 3 exactly where the scratch is too small; no other test refuses
abbrev pub Served : Point → Sizes → ℕ → Answer → Type 0 → Type 0
Served x held n r P = MatchBool (same_sizes x.sizes held) (MatchBool (nat_le x.sizes.fsize n) P (r ≡ refused (keeper BufferSize))) (r ≡ refused (keeper OtherSizes))

-- the answer is right in the words of the book and of the volume's sizes
abbrev pub Right : Point → Ask → Answer → Type 0
Right x find r = r ≡ sized x.sizes
Right x (check held n room) r = Served x held n r (Judged x r)
Right x (clear held n room) r = Served x held n r (RightClear x r)
Right x close r = r ≡ done

-- file by file: unchanged, or as the finished call has it
abbrev pub BeforeOrAfter : Sectors → Sectors → Sectors → Sizes → Type 0
BeforeOrAfter before whole now z = (i : ℕ) → Alike (files_on now z i) (files_on before z i) ⊎ Alike (files_on now z i) (files_on whole z i)

-- the verdict on a newly made volume: the root's block is in use, every other data block is free
abbrev pub new_verdict : Sizes → Verdict
new_verdict z = record { status = 0; census = record { used = 1; free = z.fsize - z.isize - 1; missing = 0 }; findings = 0 }

-- THE LAW
pub record EveryRunKeepsItsPromises : Type 0 where
  -- what holds at every point
  pub points : (x : Point) → Run x → Good x
  -- every answer of a call that was not cut is the rule's, and right
  pub answers : (x : Point) → Run x → (a : Ask) (r : Answer) (m : Medium) → Did (rule a) x.disk r m → Lasts x.disk.power (writes a x.disk.sectors)
      → (r ≡ (rule a x.disk.sectors).1) × Right x a r
  -- wherever power fails, each file is as before or as the call ends
  pub cuts : (x : Point) → Run x → (a : Ask) (r : Answer) (m : Medium) → Did (rule a) x.disk r m
      → BeforeOrAfter x.disk.sectors (after (writes a x.disk.sectors) x.disk.sectors) m.sectors x.sizes
  -- what a check tells of a newly made volume
  pub new_volumes : (z : Sizes) (before m : Medium) → NewlyMade z before m → (room : ℕ) → verdict_of m.sectors z.isize z.fsize room ≡ new_verdict z

-- what the contract of a call says of every run that leads to it
pub record CarriesOn (a : Ask) (before : Medium) (r : Answer) (end : Medium) : Type 0 where
  pub uncut : (x : Point) → Run x → x.disk ≡ before → Lasts before.power (writes a before.sectors) → Run (next x a r end) × Good (next x a r end) × Right x a r
  pub failing : (x : Point) → Run x → x.disk ≡ before → Fails before.power (writes a before.sectors) → (p : Power) → Run (restarted x end p) × Good (restarted x end p)
  pub torn : (x : Point) → Run x → x.disk ≡ before → BeforeOrAfter before.sectors (after (writes a before.sectors) before.sectors) end.sectors x.sizes

-- what the contract of make, with a sector buffer of so many bytes, says: where it is accepted and its power lasts, a run starts
abbrev pub StartsARun : Sizes → ℕ → Medium → Answer → Medium → Type 0
StartsARun z buffer before r end =
    r ≡ done → Lasts before.power (make_rule z.isize z.fsize buffer before.sectors).0 → Run (start z end) × Good (start z end)
