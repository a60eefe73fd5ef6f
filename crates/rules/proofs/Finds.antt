-- What find and close owe.
use Rattle.std.proofs.Common.{refl, ap}
use Rattle.std.proofs.lemmas.Bool.{false≢true}
use Rattle.rules.specs.Calls.{find_answer}
use Rattle.rules.specs.Runs.{find, close}
use Rattle.rules.proofs.Owed.{Owes}
use Rattle.rules.proofs.Quiet.{quiet_owes}

pub find_owes : Owes find
find_owes = quiet_owes find (λ S. refl) (λ B r. refl) (λ S z s e. absurd (false≢true e)) (λ x k. ap find_answer k.safe.found)

pub close_owes : Owes close
close_owes = quiet_owes close (λ S. refl) (λ B r. refl) (λ S z s e. absurd (false≢true e)) (λ x k. refl)
