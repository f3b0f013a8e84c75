-- `text::fields::field` meets its contract. From the laws of Fields.
use Rattle.std.proofs.Common.{arith}
use lib.ListN.{length-take}
use Rattle.text.proofs.Laws.Fields.{field_is, place_inside}
use Rattle.text.proofs.fields.field.Goals as goal

pub slice_bounds-result-end : goal.slice_bounds-result-end
slice_bounds-result-end c = simp length-take (omega (arith, place_inside _ _ _ c.separator_place.ensures))

pub returns : goal.returns
returns c = search field_is
