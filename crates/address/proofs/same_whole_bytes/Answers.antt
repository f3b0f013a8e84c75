-- `same_whole_bytes` meets its contract, from what `text::words::equal` ensures.
use Rattle.std.proofs.Common.{arith}
use lib.ListN.{length-take}
use Rattle.address.proofs.same_whole_bytes.Goals as goal

pub slice_bounds-equal-end : goal.slice_bounds-equal-end
slice_bounds-equal-end c = simp length-take (omega arith)

pub slice_bounds-equal-end-2 : goal.slice_bounds-equal-end-2
slice_bounds-equal-end-2 c = simp length-take (omega arith)
