-- The list of all words.
use Rattle.std.proofs.Common.{◌≡◌, ℕ, ◌<◌, List, length, lit≤, lit<, Option, Some, None, Result}
use Rattle.std.specs.List.{AllWithin, HoldsAt}
use Rattle.std.specs.Option.{MatchOption, ok_or}
use Rattle.script.specs.declared.token.Word.{Word}
use Rattle.script.specs.declared.token.Word.TheVariants.{Disk, Plain, Swapped, Worn, Power, Lend, Sector, Block, Scratch, Findings, Poke, Digest, Image, Buffers, Make, Find, Check, Clear, Close}
use Rattle.script.specs.declared.token.TheConstants.Word.{ALL}
use Rattle.script.specs.Words.{word_text, Names}

-- what holds at each place of the list holds of each word
of_each_word : (P : Word → Type 0) → AllWithin P ALL 0 (length ALL) → (w : Word) → P w
of_each_word P h Disk = h 0 Disk (lit≤ tt) (lit< tt)
of_each_word P h Plain = h 1 Disk (lit≤ tt) (lit< tt)
of_each_word P h Swapped = h 2 Disk (lit≤ tt) (lit< tt)
of_each_word P h Worn = h 3 Disk (lit≤ tt) (lit< tt)
of_each_word P h Power = h 4 Disk (lit≤ tt) (lit< tt)
of_each_word P h Lend = h 5 Disk (lit≤ tt) (lit< tt)
of_each_word P h Sector = h 6 Disk (lit≤ tt) (lit< tt)
of_each_word P h Block = h 7 Disk (lit≤ tt) (lit< tt)
of_each_word P h Scratch = h 8 Disk (lit≤ tt) (lit< tt)
of_each_word P h Findings = h 9 Disk (lit≤ tt) (lit< tt)
of_each_word P h Poke = h 10 Disk (lit≤ tt) (lit< tt)
of_each_word P h Digest = h 11 Disk (lit≤ tt) (lit< tt)
of_each_word P h Image = h 12 Disk (lit≤ tt) (lit< tt)
of_each_word P h Buffers = h 13 Disk (lit≤ tt) (lit< tt)
of_each_word P h Make = h 14 Disk (lit≤ tt) (lit< tt)
of_each_word P h Find = h 15 Disk (lit≤ tt) (lit< tt)
of_each_word P h Check = h 16 Disk (lit≤ tt) (lit< tt)
of_each_word P h Clear = h 17 Disk (lit≤ tt) (lit< tt)
of_each_word P h Close = h 18 Disk (lit≤ tt) (lit< tt)

-- the first word of the list with this text, or an error where none has it
pub names_found : {E : Type 0} (text : List ℕ) (e : E) (o : Option Word) (r : Result Word E) → r ≡ ok_or o e → MatchOption o (AllWithin (λ w. ¬ (word_text w ≡ text)) ALL 0 (length ALL)) (λ w. (word_text w ≡ text) × (i : ℕ) × (i < length ALL) × HoldsAt (λ y. y ≡ w) ALL i × AllWithin (λ v. ¬ (word_text v ≡ text)) ALL 0 i) → Names word_text text r
names_found text e None r s h = rw s (of_each_word (λ w. ¬ (word_text w ≡ text)) h)
names_found text e (Some w) r s h = rw s h.0
