-- `transformers::Form::put_reversed` meets its contract. From the laws of Parts.
use Rattle.std.proofs.Common.{rules}
use Rattle.transformers.proofs.Laws.Parts.{reversed_one_part, reversed_one_kept, reversed_more}
use Rattle.transformers.proofs.Form.+put_reversed.Goals as goal

pub returns-in-None : goal.returns-in-None
returns-in-None t c = record { wrote = reversed_one_part _ _ _ _ _ _ c.requires (search rules) _ _ c.put_parts.ensures.wrote; same = c.put_parts.ensures.same }

pub returns-in-Some : goal.returns-in-Some
returns-in-Some t c =
    record {
      wrote = reversed_one_kept _ _ _ _ _ _ c.requires c.in-Some.end (search rules) (search rules) (search rules) c.if-n-eq1.true _ _ c.put_parts-in-Some.ensures.wrote;
      same = c.put_parts-in-Some.ensures.same;
    }

pub returns-in-Some-2 : goal.returns-in-Some-2
returns-in-Some-2 t c =
    record {
      wrote = reversed_more _ _ _ _ _ _ c.requires c.in-Some.end (search rules) (search rules) (search rules) c.if-n-eq1.false _ _ _ _ _ _ c.put_reversed.ensures.wrote c.put.ensures.wrote
          c.put_parts-in-Some-2.ensures.wrote;
      same = cc;
    }
