-- `text::fields::after_fields` meets its contract. From the laws of Fields.
use Rattle.std.proofs.Common.{rules}
use Rattle.text.proofs.Laws.Fields.{walked_next, walked_out, walked_end}
use Rattle.text.proofs.fields.after_fields.Goals as goal

pub returns-then-rest-end : goal.returns-then-rest-end
returns-then-rest-end c = search walked_out

pub loop-preserved : goal.loop-preserved
loop-preserved c = (search rules, search walked_next)

pub returns : goal.returns
returns c = search walked_end
