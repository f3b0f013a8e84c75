-- `record_listing::put_terms` meets its contract. From the laws of Walking.
use Rattle.std.proofs.Common.{rules}
use Rattle.text.specs.Writing.{Writes}
use Rattle.record_listing.specs.Lines.{lines_of}
use Rattle.record_listing.proofs.Laws.Walking.{walking_start, walked_on, walked_less, walked_out, walked_refused}
use Rattle.record_listing.proofs.put_terms.Goals as goal

pub loop-read-init : goal.loop-read-init
loop-read-init c = record { walking = search walking_start; same = search rules }

pub loop-read-smaller : goal.loop-read-smaller
loop-read-smaller c = search walked_less

pub loop-read-preserved : goal.loop-read-preserved
loop-read-preserved c = record { walking = search walked_on; same = search rules }

pub returns-in_default-clause-wrote : goal.returns-in_default-clause-wrote
returns-in_default-clause-wrote c = λ ts r. let v : Writes (lines_of ts) c.args.out.now c.loop-read.out = search walked_out in v.wrote

pub returns-in_default-2-clause-wrote : goal.returns-in_default-2-clause-wrote
returns-in_default-2-clause-wrote c = λ ts r. let v : Writes (lines_of ts) c.args.out.now c.loop-read.out = search walked_refused in v.wrote
