-- There are no more items than bytes of them.
use Rattle.answer_table.proofs.Laws.Items.{of_few}
use Rattle.answer_table.proofs.items.Items.new.Goals as goal

pub returns-clause-few : goal.returns-clause-few
returns-clause-few c = of_few c.args.items.now
