-- `text::bytes::run_end` meets its contract.
use Rattle.std.proofs.Common.{rules}
use Rattle.text.specs.Runs.{is_in}
use Rattle.text.proofs.bytes.run_end.Goals as goal

pub returns : goal.returns
returns c = c.run_end_by.ensures (is_in c.args.class) (λ b r h k. search rules)
