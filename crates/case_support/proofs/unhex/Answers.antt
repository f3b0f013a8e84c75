-- `case_support::unhex` meets its contract. From the laws of Hex.
use Rattle.std.proofs.Common.{◌∙◌, ap, arith}
use lib.ListN.{set}
use Rattle.case_support.proofs.Laws.Hex.{hex_length, unhexed_next, unhexed_all}
use Rattle.case_support.proofs.unhex.Goals as goal

pub loop-i-preserved : goal.loop-i-preserved
loop-i-preserved c =
    ap (set c.loop-i.out c.loop-i.i) c.hex_byte.ensures
    ∙ unhexed_next _ _ c.loop-i.i c.loop-i.out c.loop-i.invariant (omega arith) (omega arith)

pub returns-clause-value : goal.returns-clause-value
returns-clause-value c = omega (arith, hex_length c.args.text.now)

pub returns-clause-out_after : goal.returns-clause-out_after
returns-clause-out_after c = unhexed_all _ _ c.loop-i.i c.loop-i.out c.loop-i.invariant (omega arith)
