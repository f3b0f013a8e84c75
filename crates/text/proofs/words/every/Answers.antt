-- `text::words::every` meets its contract. From the laws of Words.
use Rattle.std.proofs.Common.{rules, ◌∙◌}
use Rattle.std.proofs.lemmas.Iterator.{YieldsList-from_slice}
use Rattle.std.proofs.lemmas.Iterator.Search.{all_from_yields_List}
use Rattle.text.specs.Runs.{is_in}
use Rattle.text.proofs.Laws.Words.{every_all}
use Rattle.text.proofs.words.every.Goals as goal

pub returns : goal.returns
returns c =
    all_from_yields_List (is_in c.args.class) _ _ _ c.all.ensures.ran (YieldsList-from_slice c.args.s.now cc) (λ x b q k. search rules)
    ∙ every_all (is_in c.args.class) c.args.s.now
