use Rattle.std.proofs.Common.{◌≡◌, ◌+◌, ◌≤◌}
use Rattle.verdict.specs.Scan.{check}
use Rattle.tally.specs.Notes.{scan_of, SameLists, fresh}
use Rattle.checking.specs.Resume.{resume, effort, spent, Sound}
use Rattle.checking.proofs.run.note_all.Given as goal

abbrev pub invariant-loop-met : goal.invariant-loop-met
invariant-loop-met g l = record {
  left : resume l.volume l.walk (scan_of l.notes) ≡ check l.volume.sectors l.volume.sizes.isize l.volume.sizes.fsize (fresh l.volume.sizes.fsize l.fn.findings);
  sound : Sound l.volume l.walk l.notes.codes.now;
  spending : spent l.notes.count l.walk + effort l.volume l.walk l.notes.codes.now ≤ 10000000;
  volume : l.notes.volume.now ≡ l.volume;
  same : SameLists l.initial.notes l.notes;
}

abbrev pub decreases-loop-met : goal.decreases-loop-met
decreases-loop-met g l = effort l.volume l.walk l.notes.codes.now
