use Rattle.std.proofs.Common.{◌≡◌, get_or, arith, rules}
use Rattle.tally.specs.Tallies.{scan_of}
use Rattle.tally.proofs.Meets.{within, opens_bad, opens_again, opens_is, opens_below, met_bad, met_again, met_is, unclaimed_set}
use Rattle.tally.proofs.tally.Tally.meet.Goals as goal

pub returns-then-not-contains : goal.returns-then-not-contains
returns-then-not-contains c =
    let w = c.args.claim in
    let z = c.args.sizes in
    let d = within z.isize z.fsize c.args.address _ _ _ c.data_blocks.ensures.start c.data_blocks.ensures.end c.if-not-contains.ensures.value in
    let o = opens_bad _ _ c.args.address c.args.codes.now d in
    let t = met_bad _ _ w.code w.bad w.again w.place c.args.address (scan_of c.args.self.now c.args.codes.now c.args.findings.now) d in
    let q = c.refuse.ensures.scan c.args.codes.now in
    search rules

pub returns-then-code_of-ne0 : goal.returns-then-code_of-ne0
returns-then-code_of-ne0 c =
    let w = c.args.claim in
    let z = c.args.sizes in
    let d = within z.isize z.fsize c.args.address _ _ _ c.data_blocks.ensures.start c.data_blocks.ensures.end c.if-not-contains.ensures.value in
    let n : get_or c.args.codes.now c.args.address 0 ≡ 0 → ⊥ = search rules in
    let o = opens_again z.isize z.fsize c.args.address c.args.codes.now n in
    let t = met_again _ _ w.code w.bad w.again w.place c.args.address (scan_of c.args.self.now c.args.codes.now c.args.findings.now) d n in
    let q = c.refuse-then-code_of-ne0.ensures.scan c.args.codes.now in
    search rules

pub returns : goal.returns
returns c =
    let w = c.args.claim in
    let z = c.args.sizes in
    let d = within z.isize z.fsize c.args.address _ _ _ c.data_blocks.ensures.start c.data_blocks.ensures.end c.if-not-contains.ensures.value in
    let n : get_or c.args.codes.now c.args.address 0 ≡ 0 = search rules in
    let o = opens_is _ _ c.args.address c.args.codes.now d n in
    let t = met_is _ _ w.code w.bad w.again w.place c.args.address (scan_of c.args.self.now c.args.codes.now c.args.findings.now) d n in
    let u = unclaimed_set c.args.codes.now c.args.address w.code (omega (arith, opens_below _ _ _ _ o)) n (omega arith) in
    search rules
