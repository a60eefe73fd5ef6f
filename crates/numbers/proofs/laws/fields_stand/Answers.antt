use Rattle.numbers.proofs.Numbers.{num_put, num_apart, byte_apart, put_length}
use Rattle.numbers.proofs.laws.fields_stand.Goals as goal

pub returns : goal.returns
returns c = (num_put, num_apart, byte_apart, put_length)
