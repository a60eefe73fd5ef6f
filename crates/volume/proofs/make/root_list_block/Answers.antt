use Rattle.std.proofs.Common.{refl}
use Rattle.freelist.specs.Bytes.{zeros}
use Rattle.rules.specs.Make.{root_list_block}
use Rattle.volume.proofs.make.root_list_block.Goals as goal

pub returns : goal.returns
unfolding root_list_block zeros
returns c = rw (c.put-4.ensures, c.put-3.ensures, c.put-2.ensures, c.put.ensures, c.part-4.ensures, c.part-3.ensures, c.part-2.ensures, c.part.ensures, c.new-root.ensures) refl
