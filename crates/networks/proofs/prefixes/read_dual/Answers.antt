-- `networks::prefixes::read_dual` meets its contract. From the laws of Lengths.
use Rattle.networks.proofs.Laws.Lengths.{dual_answers, dual_first_none, dual_second_none, dual_some}
use Rattle.networks.proofs.prefixes.read_dual.Goals as goal

pub returns-in_err-four : goal.returns-in_err-four
returns-in_err-four c = let v = dual_answers _ _ (rw c.from_residual.ensures (search (dual_first_none, c.in_err-four.was))) in record { value = v.0; dual_answer = v.1 }

pub returns-in_err-six : goal.returns-in_err-six
returns-in_err-six c = let v = dual_answers _ _ (rw c.from_residual-in_err-six.ensures (search (dual_second_none, c.in_ok-four.was, c.in_err-six.was))) in record { value = v.0; dual_answer = v.1 }

pub returns : goal.returns
returns c = let v = dual_answers _ _ (search (dual_some, c.in_ok-four.was, c.in_ok-six.was)) in record { value = v.0; dual_answer = v.1 }
