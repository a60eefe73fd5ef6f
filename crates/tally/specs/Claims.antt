-- Who claims a block, the code that the claim leaves, and the kinds of its findings.
use Rattle.std.specs.Prelude.{ℕ, cond, Option, Some, None, ◌==◌}
use Rattle.fault.specs.declared.finding.Kind.{Kind}
use Rattle.fault.specs.declared.finding.Kind.TheVariants.{BadAddress, SecondClaim, BadEntry, SecondEntry}
use Rattle.tally.specs.declared.claim.Claimant.{Claimant}
use Rattle.tally.specs.declared.claim.Claimant.TheVariants.{File, FreeList}

abbrev pub code_of_claim : Claimant → ℕ
code_of_claim File = 1
code_of_claim FreeList = 2

-- whose claim a code stands for
abbrev pub claimant_of : ℕ → Option Claimant
claimant_of c = cond (c == 0) None (cond (c == 1) (Some File) (Some FreeList))

-- an address outside the data blocks
abbrev pub bad_of : Claimant → Kind
bad_of File = BadAddress
bad_of FreeList = BadEntry

-- a block that has a claim already
abbrev pub again_of : Claimant → Kind
again_of File = SecondClaim
again_of FreeList = SecondEntry
