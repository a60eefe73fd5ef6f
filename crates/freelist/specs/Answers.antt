-- What the callers of a take get.
use Rattle.std.specs.Prelude.{ℕ, List, Ok, Err, Result}
use Rattle.fault.specs.declared.fault.ListFault.{ListFault}
use Rattle.freelist.specs.declared.list.TakenBlock.{TakenBlock}
use Rattle.freelist.specs.Bytes.{Taken, took, refused}

-- the block and the member that the list then stands in, or the refusal
abbrev pub take_answer : Taken → Result TakenBlock ListFault
take_answer (took b r m) = Ok (record { block = b; member = m })
take_answer (refused f) = Err f

abbrev pub block_answer : Taken → Result ℕ ListFault
block_answer (took b r m) = Ok b
block_answer (refused f) = Err f

-- the superblock s after the take: a refusal leaves every byte
abbrev pub take_left : List ℕ → Taken → List ℕ
take_left s (took b r m) = r
take_left s (refused f) = s

-- the member m or the next one
abbrev pub take_member : ℕ → Taken → ℕ
take_member m (took b r j) = j
take_member m (refused f) = m
