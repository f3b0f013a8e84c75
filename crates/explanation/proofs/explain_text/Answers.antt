-- `explanation::explain_text` meets its contract. From the laws of Showing.
use Rattle.std.proofs.lemmas.Result.{err_from_is_err_and}
use Rattle.explanation.proofs.Laws.Showing.{text_outside, text_given, text_wants_p}
use Rattle.explanation.proofs.explain_text.Goals as goal

pub returns-then-not-read_macro_string : goal.returns-then-not-read_macro_string
returns-then-not-read_macro_string c = text_outside _ _ _ _ _ c.read_macro_string.ensures.value _ c.if-not-read_macro_string.true _ _

pub returns-in_err-p : goal.returns-in_err-p
returns-in_err-p c =
    let p = err_from_is_err_and c.from_residual.result c.from_residual.ensures.1 in
    rw (p.1, p.2) (text_wants_p _ _ _ _ _ c.read_macro_string.ensures.value _ c.if-not-read_macro_string.false _ _ _ _ c.in_err-p.ensures _)

pub returns : goal.returns
returns c = text_given _ _ _ _ _ c.read_macro_string.ensures.value _ c.if-not-read_macro_string.false _ _ _ _ c.in_ok-p.ensures _ _ _ c.write_shown.ensures
