-- `text::words::equal` meets its contract. From the laws of Words.
use Rattle.std.proofs.Common.{◌∙◌}
use Rattle.text.proofs.Laws.Words.{pointwise_same}
use Rattle.text.proofs.words.equal.Goals as goal

pub returns : goal.returns
returns c = c.eq.ensures ∙ pointwise_same c.args.a.now c.args.b.now
