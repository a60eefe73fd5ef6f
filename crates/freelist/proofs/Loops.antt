-- The loop that gives the unclaimed blocks, the highest first.
use Rattle.std.proofs.Common.{◌≡◌, ℕ, true, false, eqb, suc, ◌-◌, ◌<◌, ◌≤◌, List, [], ◌++◌, get_or, arith}
use Rattle.freelist.specs.Bytes.{give_bytes, give_writes, gave_all, unclaimed}

pub given_none : (codes : List ℕ) (hi : ℕ) (s : List ℕ) → gave_all (unclaimed codes hi (hi - hi)) s ≡ ([], s)
unfolding gave_all unclaimed
given_none codes hi s = let z : hi - hi ≡ 0 = omega arith in rw z

module _ (codes : List ℕ) (b hi : ℕ) (s : List ℕ) (pos : 0 < b) (le : b ≤ hi) where
  pub passed_claimed : eqb (get_or codes (b - 1) 0) 0 ≡ false → gave_all (unclaimed codes (b - 1) (hi - (b - 1))) s ≡ gave_all (unclaimed codes b (hi - b)) s
  unfolding unclaimed
  passed_claimed h =
      let e : hi - (b - 1) ≡ suc (hi - b) = omega arith in
      let f : suc (b - 1) ≡ b = omega arith in
      rw (e, h, f)

  pub gave_unclaimed : eqb (get_or codes (b - 1) 0) 0 ≡ true
      → gave_all (unclaimed codes (b - 1) (hi - (b - 1))) s
      ≡ ((gave_all (unclaimed codes b (hi - b)) s).0 ++ give_writes (b - 1) (gave_all (unclaimed codes b (hi - b)) s).1, give_bytes (b - 1) (gave_all (unclaimed codes b (hi - b)) s).1)
  unfolding unclaimed gave_all
  gave_unclaimed h =
      let e : hi - (b - 1) ≡ suc (hi - b) = omega arith in
      let f : suc (b - 1) ≡ b = omega arith in
      rw (e, h, f)
