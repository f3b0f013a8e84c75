-- `domain::shorten` meets its contract, which is that of `shorten_from` for the place 0.
use Rattle.domain.proofs.Laws.Shortening.{shorten_part}
use Rattle.domain.proofs.shorten.Goals as goal

pub returns : goal.returns
returns c = search shorten_part
