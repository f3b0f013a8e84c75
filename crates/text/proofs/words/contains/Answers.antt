-- `text::words::contains` meets its contract. From the laws of Words.
use Rattle.std.proofs.Common.{◌∙◌}
use Rattle.text.proofs.Laws.Words.{any_contains}
use Rattle.text.proofs.words.contains.Goals as goal

pub returns : goal.returns
returns c = c.contains.ensures.value ∙ any_contains c.args.s.now c.args.b
