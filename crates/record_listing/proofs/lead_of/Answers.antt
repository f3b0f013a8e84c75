-- `record_listing::lead_of` meets its contract. From the laws of Columns.
use Rattle.record_listing.proofs.Laws.Columns.{mechanism_lead, modifier_lead}
use Rattle.record_listing.proofs.lead_of.Goals as goal

pub returns-in-Some : goal.returns-in-Some
returns-in-Some c = search mechanism_lead

pub returns-in-None : goal.returns-in-None
returns-in-None c = search modifier_lead
