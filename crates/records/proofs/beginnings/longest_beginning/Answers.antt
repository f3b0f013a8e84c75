-- `records::beginnings::longest_beginning` meets its contract: the front up to one place begins a term, and none does from the other on (Laws.Pointing).
use Rattle.std.proofs.Common.{rules}
use Rattle.records.proofs.Laws.Pointing.{halving_start, halving_apart, halving_next, halving_middle, halving_asks, halving_end, longest_answered, less_up, less_down, halving_up, halving_down}
use Rattle.records.proofs.beginnings.longest_beginning.Goals as goal

pub loop-begun-init : goal.loop-begun-init
loop-begun-init c = search halving_start

pub overflow_add-begun : goal.overflow_add-begun
overflow_add-begun c = search halving_next

pub overflow_sub-middle : goal.overflow_sub-middle
overflow_sub-middle c = search halving_apart

pub overflow_add-middle : goal.overflow_add-middle
overflow_add-middle c = search halving_middle

pub begins_term-requires : goal.begins_term-requires
begins_term-requires c = (search halving_asks, search rules)

pub loop-begun-smaller-then-begins_term : goal.loop-begun-smaller-then-begins_term
loop-begun-smaller-then-begins_term c = search less_up

pub loop-begun-preserved-then-begins_term : goal.loop-begun-preserved-then-begins_term
loop-begun-preserved-then-begins_term c = search halving_up

pub loop-begun-smaller : goal.loop-begun-smaller
loop-begun-smaller c = search less_down

pub loop-begun-preserved : goal.loop-begun-preserved
loop-begun-preserved c = search halving_down

pub returns : goal.returns
returns c = let v = longest_answered _ _ (search halving_end) in record { value = v.0; longest = v.1 }
