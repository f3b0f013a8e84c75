-- `check_input::keeping::without_zeros` meets its contract. From the laws of Holding.
use Rattle.std.proofs.Common.{rules}
use Rattle.check_input.proofs.Laws.Holding.{is_zero, zeros_gone}
use Rattle.check_input.proofs.keeping.without_zeros.Goals as goal

pub returns : goal.returns
returns c = let z = c.run_end_by-zeros.ensures is_zero (λ b r h k. search rules) in
    zeros_gone c.args.s.now c.run_end_by-zeros.result z c.saturating_sub.result (search rules) c.min.result (search rules)
