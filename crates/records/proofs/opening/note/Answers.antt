-- `records::opening::note` meets its contract. From the laws of Noting, one for each sum and for each way out.
use Rattle.records.proofs.Laws.Noting.{note_redirect, note_exp, note_neither, redirect_from_fits, redirect_to_fits, exp_from_fits, exp_to_fits}
use Rattle.records.proofs.opening.note.Goals as goal

pub overflow_add-result : goal.overflow_add-result
overflow_add-result c = search redirect_from_fits

pub overflow_add-result-in-Redirect : goal.overflow_add-result-in-Redirect
overflow_add-result-in-Redirect c = search redirect_to_fits

pub overflow_add-result-in-Explanation : goal.overflow_add-result-in-Explanation
overflow_add-result-in-Explanation c = search exp_from_fits

pub overflow_add-result-in-Explanation-2 : goal.overflow_add-result-in-Explanation-2
overflow_add-result-in-Explanation-2 c = search exp_to_fits

pub returns-in-Redirect : goal.returns-in-Redirect
returns-in-Redirect c = search note_redirect

pub returns-in-Explanation : goal.returns-in-Explanation
returns-in-Explanation c = search note_exp

pub returns-in_default : goal.returns-in_default
returns-in_default c = search note_neither
