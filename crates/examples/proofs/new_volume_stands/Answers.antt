use Rattle.std.proofs.Common.{refl}
use Rattle.numbers.specs.Numbers.{num, put_num}
use Rattle.freelist.specs.Bytes.{zeros, give_writes, give_bytes, take_bytes, gave_all, unclaimed, emptied}
use Rattle.rules.specs.Make.{bare_superblock, new_list}
use Rattle.examples.specs.Examples.{NewVolumeOf3And20}
use Rattle.examples.proofs.new_volume_stands.Goals as goal

computed : NewVolumeOf3And20
unfolding num put_num zeros give_bytes give_writes take_bytes gave_all unclaimed emptied bare_superblock new_list
computed = (refl, refl, refl, refl, λ S. refl)

pub returns : goal.returns
returns c = computed
