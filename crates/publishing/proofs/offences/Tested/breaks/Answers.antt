-- `publishing::offences::Tested::breaks` meets its contract. From the laws of Walking.
use Rattle.publishing.proofs.Laws.Walking.{broken}
use Rattle.publishing.proofs.offences.Tested.breaks.Goals as goal

pub returns-in-1 : goal.returns-in-1
returns-in-1 c = search broken

pub returns-in-2 : goal.returns-in-2
returns-in-2 c = search broken

pub returns-then-self : goal.returns-then-self
returns-then-self c = search broken

pub returns-else-self : goal.returns-else-self
returns-else-self c = search broken

pub returns-then-self-2 : goal.returns-then-self-2
returns-then-self-2 c = search broken

pub returns-else-self-2 : goal.returns-else-self-2
returns-else-self-2 c = search broken

pub returns-then-self-3 : goal.returns-then-self-3
returns-then-self-3 c = search broken

pub returns-else-self-3 : goal.returns-else-self-3
returns-else-self-3 c = search broken

pub returns-then-self-4 : goal.returns-then-self-4
returns-then-self-4 c = search broken

pub returns-else-self-4 : goal.returns-else-self-4
returns-else-self-4 c = search broken

pub returns-in-7 : goal.returns-in-7
returns-in-7 c = search broken

pub returns-in-8 : goal.returns-in-8
returns-in-8 c = search broken

pub returns-then-self-5 : goal.returns-then-self-5
returns-then-self-5 c = search broken

pub returns-else-self-5 : goal.returns-else-self-5
returns-else-self-5 c = search broken

pub returns-in_default : goal.returns-in_default
returns-in_default c = search broken
