-- `macros::expand` meets its contract. From the laws of Expanding, Senders, Answering.
use Rattle.macros.proofs.Laws.Expanding.{tests_passed, refused_sender, refused_host, refused_long, refused_text}
use Rattle.macros.proofs.Laws.Senders.{sender_bound}
use Rattle.macros.proofs.Laws.Answering.{answered}
use Rattle.macros.proofs.expand.Goals as goal

pub write_expansion-requires : goal.write_expansion-requires
write_expansion-requires c = search sender_bound

pub returns-then-not-is_sender : goal.returns-then-not-is_sender
returns-then-not-is_sender c = let v = answered _ _ _ _ _ _ (search refused_sender) in record { says = v.0; answered = v.1 }

pub returns-then-not-are_hosts : goal.returns-then-not-are_hosts
returns-then-not-are_hosts c = let v = answered _ _ _ _ _ _ (search refused_host) in record { says = v.0; answered = v.1 }

pub returns-then-not-are_short : goal.returns-then-not-are_short
returns-then-not-are_short c = let v = answered _ _ _ _ _ _ (search refused_long) in record { says = v.0; answered = v.1 }

pub returns-then-not-read_macro_string : goal.returns-then-not-read_macro_string
returns-then-not-read_macro_string c = let v = answered _ _ _ _ _ _ (search refused_text) in record { says = v.0; answered = v.1 }

pub returns : goal.returns
returns c = let v = answered _ _ _ _ _ _ (search tests_passed) in record { says = v.0; answered = v.1 }
