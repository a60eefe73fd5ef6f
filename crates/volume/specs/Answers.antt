-- What the calls return, as answers of the rules.
use Rattle.std.specs.Prelude.{Ok, Err, Result}
use Rattle.fault.specs.declared.fault.Fault.{Fault}
use Rattle.fault.specs.declared.refusal.Refusal.{Refusal}
use Rattle.format.specs.declared.geometry.Geometry.{Geometry}
use Rattle.format.specs.Sizes.{Sizes}
use Rattle.format.specs.Area.{Area}
use Rattle.verdict.specs.declared.verdict.Verdict.{Verdict}
use Rattle.rules.specs.Calls.{Answer, sized, judged, done, refused}
use Rattle.volume.specs.declared.held.Found.{Found}
use Rattle.volume.specs.declared.held.Clear.{Clear}
use Rattle.volume.specs.declared.held.NotCleared.{NotCleared}

-- the sizes that a geometry holds
abbrev pub sizes_of : Geometry → Sizes
sizes_of g = record { isize = g.isize; fsize = g.fsize }

-- a volume that was looked up, by its sizes
abbrev pub looked_up : Result Area Fault → Result Sizes Fault
looked_up (Ok v) = Ok (sizes_of v.sizes)
looked_up (Err f) = Err f

abbrev pub identified : Result Geometry Refusal → Result Sizes Refusal
identified (Ok g) = Ok (sizes_of g)
identified (Err r) = Err r

-- find gives a volume of the sizes found
abbrev pub find_says : Result Found Fault → Answer
find_says (Ok v) = sized (sizes_of v.sizes)
find_says (Err f) = refused f

abbrev pub check_says : Result Verdict Fault → Answer
check_says (Ok v) = judged v
check_says (Err f) = refused f

-- clear gives the volume clear, or back as it was with the refusal
abbrev pub clear_says : Result Clear NotCleared → Answer
clear_says (Ok v) = done
clear_says (Err e) = refused e.fault

-- the volume that a clear gives back
abbrev pub cleared_sizes : Result Clear NotCleared → Sizes
cleared_sizes (Ok v) = sizes_of v.sizes
cleared_sizes (Err e) = sizes_of e.volume.sizes

abbrev pub make_says : Result (Unit {0}) Fault → Answer
make_says (Ok u) = done
make_says (Err f) = refused f
