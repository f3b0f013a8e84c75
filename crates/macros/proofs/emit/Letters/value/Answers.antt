-- `macros::emit::Letters::value` meets its contract.
use Rattle.std.proofs.Common.{arith}
use Rattle.macros.specs.Expansion.{letter_value}
use Rattle.macros.proofs.Laws.Emitting.{other_value}
use Rattle.macros.proofs.emit.Letters.value.Goals as goal

pub returns-in-115 : goal.returns-in-115
unfolding letter_value
returns-in-115 c = rw (← c.to_lower.ensures, c.in-115.is)

pub returns-in-108 : goal.returns-in-108
unfolding letter_value
returns-in-108 c = rw (← c.to_lower.ensures, c.in-108.is)

pub returns-in-111 : goal.returns-in-111
unfolding letter_value
returns-in-111 c = rw (← c.to_lower.ensures, c.in-111.is)

pub returns-in-100 : goal.returns-in-100
unfolding letter_value
returns-in-100 c = rw (← c.to_lower.ensures, c.in-100.is)

pub returns-in-105 : goal.returns-in-105
unfolding letter_value
returns-in-105 c = rw (← c.to_lower.ensures, c.in-105.is)

pub returns-in-112 : goal.returns-in-112
unfolding letter_value
returns-in-112 c = rw (← c.to_lower.ensures, c.in-112.is)

pub returns-in-118 : goal.returns-in-118
unfolding letter_value
returns-in-118 c = rw (← c.to_lower.ensures, c.in-118.is)

pub returns-in-104 : goal.returns-in-104
unfolding letter_value
returns-in-104 c = rw (← c.to_lower.ensures, c.in-104.is)

pub returns-in-99 : goal.returns-in-99
unfolding letter_value
returns-in-99 c = rw (← c.to_lower.ensures, c.in-99.is)

pub returns-in-114 : goal.returns-in-114
unfolding letter_value
returns-in-114 c = rw (← c.to_lower.ensures, c.in-114.is)

pub returns-in_default : goal.returns-in_default
returns-in_default c = other_value _ _ _ c.to_lower.ensures (λ e. omega arith) (λ e. omega arith) (λ e. omega arith) (λ e. omega arith) (λ e. omega arith) (λ e. omega arith) (λ e. omega arith) (λ e. omega arith) (λ e. omega arith) (λ e. omega arith)
