-- Calls one after another.
use Rattle.std.proofs.Common.{◌≡◌, List, [], sym, ap, ◌∙◌}
use Rattle.disk.specs.Medium.{Sectors, Write, Medium, after, Lasts, ran, spent}
use Rattle.disk.specs.Calls.{Call, Did, bind}
use Rattle.disk.proofs.Writes.{ran_joined, ran_all, ran_none, ran_power, lasts_left, lasts_right}

module _ {R Q : Type 0} (f : Call R) (k : R → Call Q) (m m₁ m₂ : Medium) (r : R) (q : Q) (d : Did f m r m₁) (e : Did (k r) m₁ q m₂) where
  -- where power lasted through the first call, the second is the one meant
  meant : Lasts m.power (f m.sectors).0 → k r m₁.sectors ≡ k (f m.sectors).1 (after (f m.sectors).0 m.sectors)
  meant h =
      let a = d.answered h in
      let b = ap (λ (x : Medium). x.sectors) d.wrote ∙ ran_all (f m.sectors).0 m h in
      cc

  pub did_bind : Did (bind f k) m q m₂
  did_bind =
      record {
        wrote = e.wrote ∙ ap (λ (x : Medium). ran (k r m₁.sectors).0 x) d.wrote ∙ ran_joined (f m.sectors).0 (k (f m.sectors).1 (after (f m.sectors).0 m.sectors)).0 (k r m₁.sectors).0 m (λ h. ap (λ (x : List Write × Q). x.0) (meant h));
        answered = λ h.
            let hl = lasts_left m.power (f m.sectors).0 (k (f m.sectors).1 (after (f m.sectors).0 m.sectors)).0 h in
            let hr = lasts_right m.power (f m.sectors).0 (k (f m.sectors).1 (after (f m.sectors).0 m.sectors)).0 h in
            let pw : m₁.power ≡ spent m.power (f m.sectors).0 = ap (λ (x : Medium). x.power) d.wrote ∙ ran_power (f m.sectors).0 m in
            let hw : Lasts m₁.power (k r m₁.sectors).0 = rw (pw, meant hl) hr in
            e.answered hw ∙ ap (λ (x : List Write × Q). x.1) (meant hl);
      }

-- a call that is known to write W and to answer r
pub did_as : {R : Type 0} (f : Call R) (m end : Medium) (W : List Write) (r : R) → f m.sectors ≡ (W, r) → end ≡ ran W m → Did f m r end
did_as f m end W r e w = record { wrote = w ∙ ap (λ (x : List Write × _). ran x.0 m) (sym e); answered = λ _. ap (λ (x : List Write × _). x.1) (sym e) }

-- a call that writes nothing
pub did_none : {R : Type 0} (f : Call R) (m : Medium) (r : R) → f m.sectors ≡ ([], r) → Did f m r m
did_none f m r e = did_as f m m [] r e (sym (ran_none m))

-- a call whose answer is seen through a function
pub did_map : {R Q : Type 0} (h : R → Q) (f : Call R) (m end : Medium) (r : R) → Did f m r end → Did (λ (S : Sectors). ((f S).0, h (f S).1)) m (h r) end
did_map h f m end r d = record { wrote = d.wrote; answered = λ w. ap h (d.answered w) }
