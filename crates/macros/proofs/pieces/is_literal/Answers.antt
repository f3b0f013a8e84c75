-- `macros::pieces::is_literal` meets its contract. From the laws of Reading.
use Rattle.text.specs.Runs.{is_in}
use Rattle.text.specs.Bytes.{is_space}
use Rattle.macros.specs.Reader.{is_literal}
use Rattle.macros.proofs.Laws.Reading.{literal_other}
use Rattle.macros.proofs.pieces.is_literal.Goals as goal

pub returns-in-DomainSpec : goal.returns-in-DomainSpec
returns-in-DomainSpec c = search literal_other

pub returns-then-is_in : goal.returns-then-is_in
unfolding is_literal is_in
returns-then-is_in c = rw (c.in-Explanation.is, ← c.is_in-in-Explanation.ensures, c.if-is_in.true)

pub returns-else-is_in : goal.returns-else-is_in
unfolding is_literal is_in is_space
returns-else-is_in c = rw (c.in-Explanation.is, ← c.is_in-in-Explanation.ensures, c.if-is_in.false)
