-- `transformers::Form::rightmost_start` meets its contract. From the laws of Parts.
use Rattle.transformers.proofs.Laws.Parts.{left_few, left_start, left_all, left_found, left_less, left_same}
use Rattle.transformers.proofs.Form.rightmost_start.Goals as goal

pub returns-then-s-n-clause-parts : goal.returns-then-s-n-clause-parts
returns-then-s-n-clause-parts c = search left_few

pub loop-i-init : goal.loop-i-init
loop-i-init c = search left_start

pub returns-then-left-eq1-clause-parts : goal.returns-then-left-eq1-clause-parts
returns-then-left-eq1-clause-parts c = search left_found

pub loop-i-preserved-then-is_listed : goal.loop-i-preserved-then-is_listed
loop-i-preserved-then-is_listed c = search left_less

pub loop-i-preserved : goal.loop-i-preserved
loop-i-preserved c = search left_same

pub returns-clause-parts : goal.returns-clause-parts
returns-clause-parts c = search left_all
