use Rattle.format.proofs.Splits.{slot_in, path_long, path_in, split_once, place, reach, split_examples}
use Rattle.format.proofs.laws.positions_stand.Goals as goal

pub returns : goal.returns
returns c =
    record {
      split = (
        (λ p l. (slot_in p, path_long p, path_in p l)),
        (λ p q l m e f. split_once p q e f),
        (λ s is l e w. let r = reach s is l e w in (place s is, r.place_in, r.slot_back, r.path_back)),
      );
      examples = split_examples;
    }
