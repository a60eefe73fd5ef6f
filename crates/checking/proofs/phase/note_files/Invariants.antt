use Rattle.std.proofs.Common.{◌≡◌, ◌+◌, ◌≤◌}
use Rattle.tally.specs.Notes.{scan_of, SameLists, fresh}
use Rattle.checking.specs.FilesLeft.{files_from, files_left, Numbered, file_turns, claim_turns}
use Rattle.checking.proofs.phase.note_files.Given as goal

abbrev pub invariant-loop-met : goal.invariant-loop-met
invariant-loop-met g l = record {
  left : files_left l.volume l.walk (scan_of l.notes) ≡ files_from l.volume 0 (fresh l.volume.sizes.fsize l.fn.findings);
  numbered : Numbered l.volume l.walk;
  spent : l.notes.count + (file_turns l.volume l.walk + claim_turns l.notes.codes.now) ≤ 10000000;
  volume : l.notes.volume.now ≡ l.volume;
  same : SameLists l.initial.notes l.notes;
}

abbrev pub decreases-loop-met : goal.decreases-loop-met
decreases-loop-met g l = file_turns l.volume l.walk + claim_turns l.notes.codes.now
