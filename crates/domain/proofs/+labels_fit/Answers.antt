-- `domain::labels_fit` meets its contract. From the laws of Labels.
use Rattle.std.proofs.Common.{rules}
use Rattle.domain.proofs.Laws.Labels.{fits_none, fits_over, fits_one, fits_other, fits_more}
use Rattle.domain.proofs.+labels_fit.Goals as goal

pub returns-in-None : goal.returns-in-None
returns-in-None t c q h = fits_one _ q h _ _ c.run_end-end.ensures (search rules) (search rules) c.in-None.ensures.lookup.0

pub returns-in-Some-eq46 : goal.returns-in-Some-eq46
returns-in-Some-eq46 t c q h = fits_more _ q h _ _ c.run_end-end.ensures (search rules) (search rules) c.in-Some-eq46.ensures.lookup.0 (search rules) _ (c.labels_fit.ensures q h)

pub returns-in-Some : goal.returns-in-Some
returns-in-Some t c q h = fits_other _ q h _ _ c.run_end-end.ensures (search rules) (search rules) c.in-Some.ensures.lookup.0 (λ d. c.in-Some.field-0-test.1 (search rules))

pub returns-in_default : goal.returns-in_default
returns-in_default t c q h = fits_none _ q h _ _ c.run_end-end.ensures (search rules)

pub returns-in_default-2 : goal.returns-in_default-2
returns-in_default-2 t c q h = fits_over _ q h _ _ c.run_end-end.ensures (search rules)
