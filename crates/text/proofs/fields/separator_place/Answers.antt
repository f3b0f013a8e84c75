-- `text::fields::separator_place` meets its contract.
use Rattle.std.proofs.Common.{rules}
use Rattle.text.proofs.Laws.Fields.{other_byte}
use Rattle.text.specs.Fields.{is_not}
use Rattle.text.proofs.fields.separator_place.Goals as goal

pub returns : goal.returns
returns c = c.run_end_by.ensures (is_not c.args.separator) (λ b r h k. search (other_byte, rules))
