use Rattle.disk.proofs.Writes.{ran_none, ran_joined, ran_first, ran_all}
use Rattle.disk.proofs.laws.writes_stand.Goals as goal

pub returns : goal.returns
returns c = record { none = ran_none; joined = ran_joined; first = ran_first; all = ran_all }
