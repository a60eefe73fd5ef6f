-- What the code does with the bytes: parts copied, members laid down, and the lock.
use Rattle.std.proofs.Common.{◌≡◌, ℕ, ◌+◌, ◌-◌, ◌≤◌, List, [], ◌∷◌, ◌++◌, length, take, drop, replicate, refl, ap, ◌∙◌, arith, drop-drop}
use borrow.Rule.Slice.PartMut.{put_mid}
use Rattle.std.proofs.lemmas.List.{length-replicate}
use Rattle.std.proofs.lemmas.List.{take-replicate, drop-replicate}
use Rattle.numbers.specs.Numbers.{put_num}
use Rattle.numbers.proofs.Numbers.{put_length}
use Rattle.format.specs.Layout.{block_bytes, list_room}
use Rattle.format.specs.Superblock.{at_nfree, at_free, nfree_of}
use Rattle.freelist.proofs.Gives.{length_zeros, length_entries}
use Rattle.freelist.proofs.Takings.{length_put_bytes}
use Rattle.freelist.specs.Bytes.{zeros, member_bytes, at_entries, entries_bytes, superblock_entries, member_entries, member_count, put_bytes, lowered, loaded, grounded, give_index, with_entry, raised, give_bytes}

-- a part written is bytes in place of others
pub mid_is_put : (o k : ℕ) (b x : List ℕ) → length b ≡ k → put_mid o k x b ≡ put_bytes o b x
unfolding put_bytes
mid_is_put o k b x h = rw (← h) (ap (λ (y : List ℕ). take o x ++ (b ++ y)) (drop-drop (length b) o x))

pub mid_length : (o k : ℕ) (b x : List ℕ) → length b ≡ k → o + k ≤ length x → length (put_mid o k x b) ≡ length x
mid_length o k b x h l = ap length (mid_is_put o k b x h) ∙ length_put_bytes o b x (omega arith)

-- A CHAIN MEMBER
-- a number of four bytes in front
front : (v : ℕ) (x : List ℕ) → 4 ≤ length x → (take 4 (put_num 4 0 v x) ≡ put_num 4 0 v (take 4 x)) × (drop 4 (put_num 4 0 v x) ≡ drop 4 x)
unfolding put_num
front v [] h = absurd (omega arith)
front v (a ∷ []) h = absurd (omega arith)
front v (a ∷ b ∷ []) h = absurd (omega arith)
front v (a ∷ b ∷ c ∷ []) h = absurd (omega arith)
front v (a ∷ b ∷ c ∷ d ∷ x) h = (refl, refl)

pub member_laid : (s x : List ℕ) → x ≡ superblock_entries s → put_mid at_entries entries_bytes (put_num 4 0 list_room (zeros block_bytes)) x ≡ member_bytes s
unfolding member_bytes zeros
member_laid s x h =
    let z : List ℕ = replicate block_bytes 0 in
    let f = front list_room (replicate block_bytes 0) (rw (length-replicate {A = ℕ} block_bytes 0) (omega arith)) in
    let a = f.0 ∙ ap (λ (y : List ℕ). put_num 4 0 list_room y) (take-replicate {X = ℕ} 4 block_bytes 0 (omega arith)) in
    let b = f.1 ∙ drop-replicate {X = ℕ} 4 block_bytes 0 in
    let c = ap (λ (y : List ℕ). drop entries_bytes y) b ∙ drop-replicate {X = ℕ} entries_bytes (block_bytes - 4) 0 in
    cc

pub laid_length : (s b x : List ℕ) (v : ℕ) → b ≡ superblock_entries s → length s ≡ block_bytes → x ≡ put_num 4 0 v (zeros block_bytes) → length (put_mid at_entries entries_bytes x b) ≡ block_bytes
laid_length s b x v h ls e =
    let lb : length b ≡ entries_bytes = ap length h ∙ length_entries s ls in
    let lx : length x ≡ block_bytes = ap length e ∙ put_length 4 0 v (zeros block_bytes) ∙ length_zeros block_bytes in
    mid_length at_entries entries_bytes b x lb (omega arith) ∙ lx

-- A GIVE
pub bytes_is : (b k : ℕ) (s t : List ℕ) → k ≡ give_index (nfree_of s) → t ≡ grounded s → give_bytes b s ≡ raised (with_entry b k t)
unfolding give_bytes
bytes_is b k s t e f = rw (e, f)

-- A LOAD
-- a member's count and entries, copied
pub loaded_laid : (x y s b : List ℕ) (n : ℕ) → y ≡ x → length b ≡ length (take entries_bytes (drop at_free s)) → length s ≡ block_bytes → b ≡ member_entries y → n ≡ member_count y
    → lowered (put_num 2 at_nfree n (put_mid at_free entries_bytes s b)) ≡ lowered (loaded x s)
loaded_laid x y s b n e h ls f c =
    let l : length b ≡ entries_bytes = h ∙ length_entries s ls in
    ap (λ (z : List ℕ). lowered z)
    (ap (λ (z : List ℕ). put_num 2 at_nfree n z) (mid_is_put at_free entries_bytes b s l)
    ∙ ap (λ (z : List ℕ). put_num 2 at_nfree n (put_bytes at_free z s)) (f ∙ ap (λ (z : List ℕ). member_entries z) e)
    ∙ ap (λ (z : ℕ). put_num 2 at_nfree z (put_bytes at_free (member_entries x) s)) (c ∙ ap (λ (z : List ℕ). member_count z) e))
