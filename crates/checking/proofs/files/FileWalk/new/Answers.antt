use Rattle.std.proofs.Common.{ap, ◌∙◌, arith}
use Rattle.fault.specs.declared.place.Place.TheVariants.{Nowhere}
use Rattle.scan.proofs.Turns.{slots_done}
use Rattle.checking.specs.FilesLeft.{files_from}
use Rattle.checking.proofs.Opens.{left_shut}
use Rattle.checking.proofs.files.FileWalk.new.Goals as goal

pub returns-clause-left : goal.returns-clause-left
returns-clause-left c = λ v s.
    ap (files_from v 0)
    (slots_done v.sectors v.sizes.isize v.sizes.fsize _ 0 13 _ (omega arith) ∙ left_shut v Nowhere _ _ _ s (omega arith) (omega arith) (omega arith))
