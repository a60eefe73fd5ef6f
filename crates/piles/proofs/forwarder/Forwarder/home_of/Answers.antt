use Rattle.std.proofs.Common.{rules, ◌≡◌, ◌≢◌}
use Rattle.std.proofs.lemmas.Bool.Decides.{nat_tests}
use Rattle.std.proofs.lemmas.Iterator.{YieldsList-from_slice, IsFirst-from_position}
use Rattle.piles.proofs.Homes.{home-position}
use Rattle.piles.proofs.forwarder.Forwarder.home_of.Goals as goal

pub returns : goal.returns
returns g c =
    let ws = c.args.self.now.worn.items in
    home-position ws c.args.n c.args.s c.position.result c.map_or.result
    (IsFirst-from_position _ _ c.position.result (λ w. w ≡ c.args.s) (λ w. w ≢ c.args.s) c.position.ensures.ran (YieldsList-from_slice ws (cc))
    (λ x q k. search (rules, nat_tests))
    (λ x q k. search (rules, nat_tests)))
    (search rules)
