-- `networks::ip6::read_address` meets its contract. From the laws of Addresses.
use Rattle.networks.proofs.Laws.Addresses.{address_four, address_six, address_answer}
use Rattle.networks.proofs.ip6.read_address.Goals as goal

pub returns-in-Some : goal.returns-in-Some
returns-in-Some c = let v = address_answer _ _ (search address_four) in record { value = v.0; network_answer = v.1 }

pub returns-in-None : goal.returns-in-None
returns-in-None c = let v = address_answer _ _ (search address_six) in record { value = v.0; network_answer = v.1 }
