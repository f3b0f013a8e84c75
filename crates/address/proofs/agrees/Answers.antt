-- `agrees` meets its contract, from the rules of comparing; they cite the law that the prefix rule as taught decides.
use Rattle.address.proofs.Laws.Comparing.{whole_inside, next_inside, agree_over_first, agree_over_second, agree_differs, agree_whole, agree_left_over}
use Rattle.address.proofs.agrees.Goals as goal

pub returns-then-not-is_within_width : goal.returns-then-not-is_within_width
returns-then-not-is_within_width c = search agree_over_first

pub returns-then-not-is_within_width-2 : goal.returns-then-not-is_within_width-2
returns-then-not-is_within_width-2 c = search agree_over_second

pub same_whole_bytes-requires : goal.same_whole_bytes-requires
same_whole_bytes-requires c = record {
  count_in_bounds = whole_inside c.args.a.now _ _ c.is_within_width.ensures c.if-not-is_within_width.false;
  count_in_bounds_2 = whole_inside c.args.b.now _ _ c.is_within_width-2.ensures c.if-not-is_within_width-2.false;
}

pub returns-then-not-same_whole_bytes : goal.returns-then-not-same_whole_bytes
returns-then-not-same_whole_bytes c = search agree_differs

pub returns-then-left_over-eq0 : goal.returns-then-left_over-eq0
returns-then-left_over-eq0 c = search agree_whole

pub bounds-a-whole : goal.bounds-a-whole
bounds-a-whole c = next_inside c.args.a.now _ _ c.is_within_width.ensures c.if-not-is_within_width.false c.if-left_over-eq0.false

pub bounds-b-whole : goal.bounds-b-whole
bounds-b-whole c = next_inside c.args.b.now _ _ c.is_within_width-2.ensures c.if-not-is_within_width-2.false c.if-left_over-eq0.false

pub returns : goal.returns
returns c = search agree_left_over
