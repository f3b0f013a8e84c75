-- `text::words::equal_word` meets its contract. From the laws of Words.
use Rattle.std.proofs.Common.{rules, ◌∙◌}
use Rattle.std.proofs.lemmas.Iterator.{YieldsList-from_slice, YieldsList-from_zip}
use Rattle.std.proofs.lemmas.Iterator.Search.{all_from_yields_List}
use Rattle.text.proofs.Laws.Words.{lowers_to, zip_word, word_lengths}
use Rattle.text.proofs.words.equal_word.Goals as goal

pub returns-then-s-word : goal.returns-then-s-word
returns-then-s-word c =
    all_from_yields_List lowers_to c.all.new.self _ _ c.all.ensures.ran
    (YieldsList-from_zip (YieldsList-from_slice c.args.s.now cc) (YieldsList-from_slice c.args.word.now cc)) (λ x b q k. search rules)
    ∙ zip_word c.args.s.now c.args.word.now c.if-s-word.true

pub returns-else-s-word : goal.returns-else-s-word
returns-else-s-word c = search word_lengths
