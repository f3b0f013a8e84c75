-- `networks::ip4::read_ip4` meets its contract. From the laws of Fronts and Ip4.
use Rattle.networks.proofs.Laws.Fronts.{front_none, front_whole, front_short}
use Rattle.networks.proofs.Laws.Ip4.{ip4_answer}
use Rattle.networks.proofs.ip4.read_ip4.Goals as goal

pub returns-in_err-value : goal.returns-in_err-value
returns-in_err-value c = let v = ip4_answer _ _ (rw c.from_residual.ensures (search (front_none, c.in_err-value.was))) in record { value = v.0; network_answer = v.1 }

pub returns-then-end-s : goal.returns-then-end-s
returns-then-end-s c = let v = ip4_answer _ _ (search (front_whole, c.in_ok-value.was)) in record { value = v.0; network_answer = v.1 }

pub returns : goal.returns
returns c = let v = ip4_answer _ _ (front_short _ _ c.read_front.ensures _ _ c.in_ok-value.was c.if-end-s.false) in record { value = v.0; network_answer = v.1 }
