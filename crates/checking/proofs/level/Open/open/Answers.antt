use Rattle.checking.proofs.Opens.{open_at_one, open_at_two, open_at_three}
use Rattle.checking.proofs.level.Open.open.Goals as goal

pub returns-in-1-clause-left : goal.returns-in-1-clause-left
returns-in-1-clause-left g c = λ p s. open_at_one c.args.volume.now p c.args.self.now _ _ _ s c.in-1.is c.open.ensures c.requires.shut

pub returns-in-2-clause-left : goal.returns-in-2-clause-left
returns-in-2-clause-left g c = λ p s. open_at_two c.args.volume.now p c.args.self.now _ _ _ s c.in-2.is c.open-in-2.ensures c.requires.shut

pub returns-in-3-clause-left : goal.returns-in-3-clause-left
returns-in-3-clause-left g c = λ p s. open_at_three c.args.volume.now p c.args.self.now _ _ _ s c.in-3.is c.open-in-3.ensures c.requires.shut
