-- `domain::at_or_below` meets its contract. From the laws of Below.
use Rattle.std.proofs.Common.{None, Some}
use Rattle.std.proofs.lemmas.Bool.Decides.{Decides-eqb}
use Rattle.std.proofs.lemmas.Slice.Eq.{strip_suffix_is}
use Rattle.domain.proofs.Laws.Below.{below_none, below_all, below_last}
use Rattle.domain.proofs.at_or_below.Goals as goal

pub returns-in-None : goal.returns-in-None
returns-in-None c = below_none _ _ (strip_suffix_is Decides-eqb c.args.name.now c.args.target.now None c.in-None.ensures.cases)

pub returns-in-Some-empty : goal.returns-in-Some-empty
returns-in-Some-empty c =
    below_all _ _ _ (strip_suffix_is Decides-eqb c.args.name.now c.args.target.now (Some c.in-Some-empty.field-0) c.in-Some-empty.ensures.cases) c.in-Some-empty.len_below

pub returns-in-Some-len1-up : goal.returns-in-Some-len1-up
returns-in-Some-len1-up c =
    below_last _ _ _ (strip_suffix_is Decides-eqb c.args.name.now c.args.target.now (Some c.in-Some-len1-up.field-0) c.in-Some-len1-up.ensures.cases) c.in-Some-len1-up.len_at_least
