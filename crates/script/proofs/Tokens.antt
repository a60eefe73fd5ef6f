-- The tokens of a line.
use Rattle.std.proofs.Common.{◌≡◌, ℕ, ◌-◌, ◌<◌, List, [], ◌∷◌, ◌++◌, length, get_or, take, drop, map, refl, ap, subst, sym, ◌∙◌, arith, take_all}
use Rattle.std.proofs.lemmas.List.{same_lists, get_or-map, length-map}
use denote.Ref.{Bor}
use Rattle.script.specs.Words.{StandsFor, AreTokensOf}
use Rattle.script.specs.declared.token.Word.TheVariants.{Worn}
use Rattle.script.specs.declared.token.Token.{Token}
use Rattle.script.specs.declared.token.Token.TheVariants.{Named, Number}

-- tokens each of which is the number at its place
numbered : (ts : List Token) (ns : List ℕ) → length ts ≡ length ns → ((k : ℕ) (d : Token) → k < length ts → get_or ts k d ≡ Number (get_or ns k 0)) → ts ≡ map (λ n. Number n) ns
numbered ts ns e h =
    let len = length-map ns (λ (n : ℕ). Number n) in
    same_lists ts (map (λ n. Number n) ns) (e ∙ sym len) (λ k d l. h k d l ∙ sym (get_or-map (λ n. Number n) ns k 0 d (omega (arith, e, l))))

-- one more text and its token
pub one_more : (xs : List (Bor (List ℕ))) (x : Bor (List ℕ)) (ts us : List Token) (t : Token) → us ≡ ts ++ t ∷ [] → AreTokensOf (map (λ s. s.now) xs) ts → StandsFor x.now t → AreTokensOf (map (λ s. s.now) (xs ++ x ∷ [])) us
one_more [] x [] us t e h s = rw e (s, tt)
one_more [] x (u ∷ ts) us t e h s = absurd h
one_more (y ∷ xs) x [] us t e h s = absurd h
one_more (y ∷ xs) x (u ∷ ts) us t e h s = rw e (h.0, one_more xs x ts (ts ++ t ∷ []) t refl h.1 s)

-- a line that names worn sectors asks for them
pub worn_asked : (xs : List (List ℕ)) (ts : List Token) (ns : List ℕ) (d : Token) → AreTokensOf xs ts → 0 < length ts → get_or ts 0 d ≡ Named Worn → length (take (length ts - 1) (drop 1 ts)) ≡ length ns → ((k : ℕ) (e : Token) → k < length (take (length ts - 1) (drop 1 ts)) → get_or (take (length ts - 1) (drop 1 ts)) k e ≡ Number (get_or ns k 0)) → AreTokensOf xs (Named Worn ∷ map (λ n. Number n) ns)
worn_asked xs [] ns d a l w e h = absurd (omega arith)
worn_asked xs (t ∷ ts) ns d a l w e h =
    let P : List Token → Type 0 = λ us. AreTokensOf xs us in
    let all : take (length (t ∷ ts) - 1) ts ≡ ts = take_all (length (t ∷ ts) - 1) ts (omega arith) in
    let rest = sym all ∙ numbered (take (length (t ∷ ts) - 1) ts) ns e h in
    subst P (ap (λ x. x ∷ ts) w ∙ ap (λ (l : List Token). Named Worn ∷ l) rest) a
