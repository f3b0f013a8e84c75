-- `octets4` meets its contract: `octets_of` gives the same octets as `to_be_bytes`.
use Rattle.std.proofs.Common.{◌∙◌}
use Rattle.address.proofs.Laws.OctetValues.{be_octets}
use Rattle.address.proofs.octets4.Goals as goal

pub returns : goal.returns
returns c = c.to_be_bytes.ensures ∙ be_octets 4 _
