-- `explanation::explain_name` meets its contract. From the laws of Fetching.
use mathlib.Core.Path.{◌∙◌, ap}
use Rattle.std.proofs.lemmas.Result.{err_from_is_err_and}
use Rattle.answer_table.specs.Reader.{items_of}
use Rattle.explanation.proofs.Laws.Fetching.{several_texts, one_text, name_wanted, name_failed, name_void, name_several, name_one}
use Rattle.explanation.proofs.explain_name.Goals as goal

pub returns-in_err-found : goal.returns-in_err-found
returns-in_err-found c =
    let p = err_from_is_err_and c.from_residual.result c.from_residual.ensures.1 in
    rw (p.1, p.2) (name_wanted _ _ _ _ _ _ _ _ _ c.in_err-found.ensures _)

pub returns-then-found-eq2 : goal.returns-then-found-eq2
returns-then-found-eq2 c = name_failed _ _ _ _ _ _ _ _ _ c.in_ok-found.ensures c.if-found-eq2.true _

pub returns-in_default : goal.returns-in_default
returns-in_default c =
    name_void _ _ _ _ _ _ _ _ _ c.in_ok-found.ensures c.if-found-eq2.false _ (c.new-items.ensures.value ∙ ap items_of c.part-texts.ensures) (c.in_default.ensures.steps).0 _

pub returns-then-is_some : goal.returns-then-is_some
returns-then-is_some c =
    name_several _ _ _ _ _ _ _ _ _ c.in_ok-found.ensures c.if-found-eq2.false _ (c.new-items.ensures.value ∙ ap items_of c.part-texts.ensures) _ _ c.in-Some.ensures.steps
    (several_texts _ _ _ c.next-2.ensures.steps _ c.is_some.ensures c.if-is_some.true) _

pub returns : goal.returns
returns c =
    name_one _ _ _ _ _ _ _ _ _ c.in_ok-found.ensures c.if-found-eq2.false _ (c.new-items.ensures.value ∙ ap items_of c.part-texts.ensures) _ _ c.in-Some.ensures.steps
    (one_text _ _ _ c.next-2.ensures.steps _ c.is_some.ensures c.if-is_some.false) c.explain_text.new.progress _ _ _ _ c.explain_text.ensures
