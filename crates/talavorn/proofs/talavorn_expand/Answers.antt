-- `talavorn_expand` meets its contract. From the laws of Ways.
use Rattle.talavorn.proofs.Laws.Ways.{expand_no_form, expand_no_client, expand_for_client}
use Rattle.talavorn.proofs.talavorn_expand.Goals as goal

pub returns-in_default : goal.returns-in_default
returns-in_default c =
    let v = expand_no_form _ _ c.form_of.ensures _ _ _ _ c.in_default.is in
    record { expand_says = v.0; expand_answers = v.1 }

pub returns-in_default-from_octets : goal.returns-in_default-from_octets
returns-in_default-from_octets c =
    let v = expand_no_client _ _ c.form_of.ensures _ _ _ _ _ c.in-Some.is _ c.from_octets.ensures c.in_default-from_octets.is in
    record { expand_says = v.0; expand_answers = v.1 }

pub returns : goal.returns
returns c =
    let v = expand_for_client _ _ c.form_of.ensures _ _ _ _ _ c.in-Some.is _ c.from_octets.ensures _ c.in-Some-from_octets.is _ _
    c.expand-answer.ensures.says c.expand-answer.ensures.answered _ c.put_expanded.ensures in
    record { expand_says = v.0; expand_answers = v.1 }
