use Rattle.std.proofs.Common.{◌≡◌, rules, tests}
use Rattle.std.proofs.lemmas.Iterator.{YieldsList-from_slice, first_from_find}
use Rattle.std.proofs.lemmas.Iterator.Consumers.{YieldsList-from_copied}
use Rattle.script.specs.declared.token.TheConstants.Word.{ALL}
use Rattle.script.specs.Words.{word_text}
use Rattle.script.proofs.Words.{names_found}
use Rattle.script.proofs.token.WordTryFromRefSliceU8.try_from.Goals as goal

pub returns : goal.returns
returns c =
    let text = c.args.text.now in
    names_found text _ c.find.result c.ok_or.result c.ok_or.ensures.value
    (first_from_find _ _ c.find.result (λ w. word_text w ≡ text) (λ w. ¬ (word_text w ≡ text)) c.find.ensures.ran (YieldsList-from_copied (YieldsList-from_slice ALL cc)) (λ x q k. search (rules, tests)) (λ x q k. search (rules, tests)))
