-- The file phase, by counts.
use Rattle.std.proofs.Common.{◌≡◌, ℕ, suc, ◌<◌, ◌≤◌, length, refl, ◌∙◌, arith, length-set}
use Rattle.trees.specs.Trees.{named}
use Rattle.trees.specs.Walk.{Scan, code, Data, steps, walk}
use Rattle.trees.specs.Volume.{in_file, claims, file_phase}
use Rattle.trees.specs.Laws.{FilesSayEachBlockOnce}
use Rattle.trees.proofs.Sums.{total_at}
use Rattle.trees.proofs.Walks.{Adds, claimed, steps_keep, steps_add, steps_met, walk_keep, walk_up, walk_small, walk_add, walk_met}

module _ (w : ℕ) (at : ℕ → ℕ → ℕ) (depth : ℕ → ℕ) where
  -- a slot's claims are part of the file's, and a file's part of the volume's
  pub slot_at : (J : ℕ) (head : ℕ → ℕ) (s b : ℕ) → s < J → named w at (depth s) (head s) b ≤ in_file w at depth J head b
  unfolding in_file
  slot_at J head s b l = total_at J (λ s. named w at (depth s) (head s) b) s l

  pub file_at : (I J : ℕ) (head : ℕ → ℕ → ℕ) (i b : ℕ) → i < I → in_file w at depth J (head i) b ≤ claims w at depth I J head b
  unfolding claims
  file_at I J head i b l = total_at I (λ i. in_file w at depth J (head i) b) i l

  module _ (lo hi : ℕ) where
    -- what findings and claims keep
    pub file_phase_keep : (P : Scan → Type 0) → ((s : Scan) → P s → P (record { codes = s.codes; found = suc s.found }))
        → ((a : ℕ) (s : Scan) → P s → P (claimed a s)) → (I J : ℕ) (head : ℕ → ℕ → ℕ) (s : Scan) → P s → P (file_phase w at depth lo hi I J head s)
    unfolding file_phase
    file_phase_keep P more claim I J head s p =
        steps_keep P _ (λ i. steps_keep P _ (λ k. walk_keep lo hi w at P more claim (depth k) (head i k)) J) I s p

    pub file_phase_sized : (I J : ℕ) (head : ℕ → ℕ → ℕ) (s : Scan) → length (file_phase w at depth lo hi I J head s).codes ≡ length s.codes
    file_phase_sized I J head s =
        file_phase_keep (λ t. length t.codes ≡ length s.codes) (λ t q. q) (λ a t q. length-set t.codes a 1 ∙ q) I J head s refl

    pub file_phase_up : (I J : ℕ) (head : ℕ → ℕ → ℕ) (s : Scan) → s.found ≤ (file_phase w at depth lo hi I J head s).found
    file_phase_up I J head s = file_phase_keep (λ t. s.found ≤ t.found) (λ t q. omega arith) (λ a t q. q) I J head s (omega arith)

    -- the slots of one file never lower the findings
    pub slots_up : (J : ℕ) (head : ℕ → ℕ) (t : Scan) → t.found ≤ (steps J (λ k. walk w at lo hi (depth k) (head k)) t).found
    slots_up J head t = steps_keep (λ u. t.found ≤ u.found) _ (λ k u q. omega (arith, walk_up lo hi w at (depth k) (head k) u)) J t (omega arith)

pub filed : FilesSayEachBlockOnce
unfolding file_phase claims in_file
filed w at z depth lo hi I J head s l c = (
  (
    λ e. ((met e).1, λ b. let y = small b in omega (arith, (met e).0.codes b, c b)),
    λ h. (steps_add hi _ (λ i b. in_file w at depth J (head i) b) I
        (λ i t li q y. steps_add hi _ (λ k b. named w at (depth k) (head i k) b) J
        (λ k u lk x v. walk_add lo hi w at z (depth k) (head i k) u x
        (λ b p. h.0 b (omega (arith, slot_at w at depth J (head i) k b lk, file_at w at depth I J head i b li))) v) t q y)
        s l (λ b. omega (arith, c b, h.1 b))).none,
  ),
  λ e b. omega (arith, (met e).0.codes b, c b),
)
  where
    met : (file_phase w at depth lo hi I J head s).found ≡ s.found
        → Adds s (file_phase w at depth lo hi I J head s) (claims w at depth I J head) × ((b : ℕ) → 0 < claims w at depth I J head b → Data lo hi b)
    met e = steps_met hi (Data lo hi) _ (λ i b. in_file w at depth J (head i) b) I (λ i t. slots_up w at depth lo hi J (head i) t)
        (λ i t li q x. steps_met hi (Data lo hi) _ (λ k b. named w at (depth k) (head i k) b) J (λ k u. walk_up lo hi w at (depth k) (head i k) u)
        (λ k u lk y v. walk_met lo hi w at z (depth k) (head i k) u y v) t q x) s l e

    small : (b : ℕ) → code (file_phase w at depth lo hi I J head s) b ≤ 1
    small b = steps_keep (λ u. (b : ℕ) → code u b ≤ 1) _ (λ i. steps_keep (λ u. (b : ℕ) → code u b ≤ 1) _ (λ k u q. walk_small lo hi w at (depth k) (head i k) u q) J) I s (λ b. omega (arith, c b)) b
