use Rattle.checking.proofs.Opens.{left_one, left_two, left_three, left_shut}
use Rattle.checking.proofs.level.Open.next.Goals as goal

pub returns-in-Some-clause-left : goal.returns-in-Some-clause-left
returns-in-Some-clause-left c = λ v p s.
    let o = c.args.self.now in
    let h = c.in-Some.ensures in
    let m = left_one v p o.one o.two o.three s h.0 in cc

pub returns-in-Some-next-clause-left : goal.returns-in-Some-next-clause-left
returns-in-Some-next-clause-left c = λ v p s.
    let o = c.args.self.now in
    let a = c.in_default.ensures in
    let h = c.in-Some-next.ensures in
    let m = left_two v p o.one o.two o.three s a.0 h.0 in cc

pub returns-in-Some-next-2-clause-left : goal.returns-in-Some-next-2-clause-left
returns-in-Some-next-2-clause-left c = λ v p s.
    let o = c.args.self.now in
    let a = c.in_default.ensures in
    let b = c.in_default-next.ensures in
    let h = c.in-Some-next-2.ensures in
    let m = left_three v p o.one o.two o.three s a.0 b.0 h.0 in cc

pub returns-clause-left : goal.returns-clause-left
returns-clause-left c = λ v p s.
    let o = c.args.self.now in
    let a = c.in_default.ensures in
    let b = c.in_default-next.ensures in
    let d = c.in_default-next-2.ensures in
    left_shut v p o.one o.two o.three s a.0 b.0 d.0
