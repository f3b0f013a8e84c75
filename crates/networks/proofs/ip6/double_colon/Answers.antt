-- `networks::ip6::double_colon` meets its contract. From the laws of Colons.
use Rattle.std.proofs.Common.{arith, length, sym, ◌≡◌, ◌∙◌}
use Rattle.networks.proofs.Laws.Colons.{double_here, double_next, double_out}
use Rattle.networks.proofs.ip6.double_colon.Goals as goal

pub returns-then-is_double_colon : goal.returns-then-is_double_colon
returns-then-is_double_colon c = search double_here

pub loop-i-preserved : goal.loop-i-preserved
loop-i-preserved c = search double_next

pub returns : goal.returns
returns c =
    let e : c.loop-i.i ≡ length c.args.s.now = omega (arith, c.loop-i.auto.i-end, c.loop-i-test.false) in
    sym e ∙ double_out _ _ c.loop-i.invariant c.loop-i-test.false
