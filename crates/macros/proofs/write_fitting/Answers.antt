-- `macros::write_fitting` meets its contract. From the laws of Expanding.
use Rattle.std.proofs.Common.{arith, rules}
use Rattle.macros.proofs.Laws.Expanding.{fits, fits_not}
use Rattle.macros.proofs.write_fitting.Goals as goal

pub returns-then-out-measured : goal.returns-then-out-measured
returns-then-out-measured c = search (fits_not, c.well_formed)

pub returns : goal.returns
returns c = fits _ _ _ _ _ c.new-measured.ensures.at c.put_text.ensures.wrote _ (search (rules, c.well_formed)) (omega arith) _ _ _ c.new-w.ensures.out (search rules) _ _ c.new-w.ensures.at
    c.put_text-2.ensures.wrote
