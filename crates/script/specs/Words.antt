-- The words of a script, and what the texts between its blanks stand for.
use Rattle.std.specs.Prelude.{◌≡◌, ℕ, ◌==◌, ⊤, List, [], ◌∷◌, Some, Result, MatchResult, codes}
use Rattle.std.specs.List.{slice_split}
use Rattle.script.specs.declared.token.Word.{Word}
use Rattle.script.specs.declared.token.Word.TheVariants.{Disk, Plain, Swapped, Worn, Power, Lend, Sector, Block, Scratch, Findings, Poke, Digest, Image, Buffers, Make, Find, Check, Clear, Close}
use Rattle.script.specs.declared.token.Token.{Token}
use Rattle.script.specs.declared.token.Token.TheVariants.{Named, Number}
use Rattle.script.specs.declared.token.UnknownWord.{UnknownWord}
use Rattle.script.specs.Numbers.{script_number}

-- a word as it stands in a line
abbrev pub word_text : Word → List ℕ
word_text Disk = codes "disk"
word_text Plain = codes "plain"
word_text Swapped = codes "swapped"
word_text Worn = codes "worn"
word_text Power = codes "power"
word_text Lend = codes "lend"
word_text Sector = codes "sector"
word_text Block = codes "block"
word_text Scratch = codes "scratch"
word_text Findings = codes "findings"
word_text Poke = codes "poke"
word_text Digest = codes "digest"
word_text Image = codes "image"
word_text Buffers = codes "buffers"
word_text Make = codes "make"
word_text Find = codes "find"
word_text Check = codes "check"
word_text Clear = codes "clear"
word_text Close = codes "close"

-- the result is the value whose name this is, or an error where no value has this name
abbrev pub Names : {A B E : Type 0} → (A → B) → B → Result A E → Type 0
Names {A} {B} {E} name b r = MatchResult r (λ a. name a ≡ b) (λ _. (a : A) → ¬ (name a ≡ b))

-- a text stands for this token
abbrev pub StandsFor : List ℕ → Token → Type 0
StandsFor text (Named w) = word_text w ≡ text
StandsFor text (Number n) = script_number text ≡ Some n

-- the result is the token that a text stands for, or an error where it stands for none
abbrev pub Reads : List ℕ → Result Token UnknownWord → Type 0
Reads text r = MatchResult r (StandsFor text) (λ _. (t : Token) → ¬ (StandsFor text t))

-- the texts of a line between its blanks, in order; empty ones too
abbrev pub pieces : List ℕ → List (List ℕ)
pieces line = slice_split (λ b. b == 32) line

-- each text stands for the token at its place
abbrev pub AreTokensOf : List (List ℕ) → List Token → Type 0
AreTokensOf [] [] = ⊤
AreTokensOf (text ∷ texts) (token ∷ tokens) = StandsFor text token × AreTokensOf texts tokens
AreTokensOf _ _ = ⊥
