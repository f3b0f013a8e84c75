-- What the walk over the places of items gives.
use Rattle.std.specs.Prelude.{◌+◌, ◌≤◌, ◌<◌, ◌≡◌, Option, MatchOption, length}
use Rattle.text.specs.declared.spans.Span.{Span}
use Rattle.answer_table.specs.Reader.{next_item}
use Rattle.answer_table.specs.declared.items.Places.{Places}

-- where the bytes of the item that begins at the place stand, after its length, and the walk goes on after it; or nothing at the end
abbrev pub GivesPlace : Places → Option Span → Places → Type 0
GivesPlace s r t =
    MatchOption r ((length s.items.now ≤ s.at) × (t ≡ s))
    (λ p. (s.at < length s.items.now) × (p.from ≡ s.at + 2) × (p.to ≡ next_item s.items.now s.at) × (t.items ≡ s.items) × (t.at ≡ next_item s.items.now s.at))
