use Rattle.std.proofs.Common.{◌≡◌, ℕ, ◌+◌, ◌-◌, ◌≤◌, List, ◌++◌, length, take, drop, replicate, ap, ◌∙◌, arith, length-drop, length-take, drop-drop}
use borrow.Rule.Slice.PartMut.{put_mid}
use Rattle.format.specs.Layout.{inode_bytes}
use Rattle.format.proofs.Inodes.{start_in}
use Rattle.format.proofs.inode.Inode.blank.Goals as goal

-- zeros in place of the n bytes from o on
filled : (o n k : ℕ) (x b : List ℕ) → k ≡ n → o + n ≤ length x → b ≡ replicate (length (take k (drop o x))) 0
    → put_mid o k x b ≡ take o x ++ (replicate n 0 ++ drop (o + n) x)
filled o n k x b q h e =
    let l : length (take k (drop o x)) ≡ n = length-take k (drop o x) ∙ omega (arith, length-drop o x) in
    ap (λ (y : List ℕ). take o x ++ (y ++ drop k (drop o x))) (e ∙ ap (λ (j : ℕ). replicate j 0) l)
    ∙ ap (λ (y : List ℕ). take o x ++ (replicate n 0 ++ y)) (drop-drop k o x ∙ ap (λ (j : ℕ). drop (o + j) x) q)

pub returns : goal.returns
returns c =
    let o = c.start-at.result in
    let x = c.args.block.now in
    let s = c.start-at.ensures in
    let p = start_in c.args.self in
    filled o inode_bytes (o + inode_bytes - o) x c.fill.new.self (omega arith) (omega arith) (c.fill.ensures.after (λ y h. h))
    ∙ ap (λ (j : ℕ). take j x ++ (replicate inode_bytes 0 ++ drop (j + inode_bytes) x)) s
