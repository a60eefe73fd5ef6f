use Rattle.std.proofs.Common.{◌≡◌, ℕ, ◌-◌, length, Ok, Err, ap, ◌∙◌, arith}
use Rattle.std.proofs.lemmas.Result.{err_from_is_err_and}
use Rattle.piles.specs.Forward.{home, forward, forwarded}
use Rattle.disk.proofs.Served.{counted, admitted, refused_same}
use Rattle.piles.proofs.Homes.{length_forwarded, through_answer, through_write}
use Rattle.piles.proofs.forwarder.ForwarderDisk.write.Goals as goal

pub returns-in_err-admit : goal.returns-in_err-admit
returns-in_err-admit g c =
    let ws = c.args.self.now.worn.items in
    let S = (g.D.Disk.medium c.args.self.now.below).sectors in
    let n : c.saturating_sub-n.result ≡ length (forwarded ws S) = rw (length_forwarded ws S) (omega arith) in
    let p = err_from_is_err_and c.from_residual.result c.from_residual.ensures.1 in
    let e = counted (length c.args.buf.now) c.args.s c.saturating_sub-n.result (length (forwarded ws S)) (Err c.in_err-admit.field-0.0) n c.in_err-admit.ensures in
    record {
      result = rw (p.1, p.2) e;
      after = refused_same (length c.args.buf.now) c.args.s (length (forwarded ws S)) _ _ (forward ws (g.D.Disk.medium c.args.self.now.below)) e;
    }

pub returns : goal.returns
returns g c =
    let ws = c.args.self.now.worn.items in
    let m = g.D.Disk.medium c.args.self.now.below in
    let n : c.saturating_sub-n.result ≡ length (g.D.Disk.medium c.args.self.now.below).sectors - length c.args.self.now.worn.items = omega arith in
    let a = admitted (length c.args.buf.now) c.args.s _ (counted (length c.args.buf.now) c.args.s _ _ (Ok tt) n c.in_ok-admit.ensures) in
    let at : c.home_of-home.result ≡ home ws (length m.sectors - length ws) c.args.s = c.home_of-home.ensures ∙ ap (λ (k : ℕ). home ws k c.args.s) n in
    record {
      result = c.write.ensures.result ∙ through_answer ws m (length c.args.buf.now) c.args.s c.home_of-home.result a.0 a.1 at;
      after = ap (forward ws) c.write.ensures.after ∙ through_write ws m (length c.args.buf.now) c.args.s c.home_of-home.result a.0 a.1 at c.args.buf.now;
    }
