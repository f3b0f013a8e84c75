-- Which of an entry's texts are records, by their places in the table.
use Rattle.std.specs.Prelude.{ℕ, ◌+◌, ◌<◌, ◌≡◌, List, [], ◌∷◌, cond, length, drop}
use Rattle.text.specs.Bytes.{part}
use Rattle.text.specs.declared.spans.Span.{Span}
use Rattle.answer_table.specs.Reader.{Starts, next_item, first_item}
use Rattle.records.specs.Reader.{has_version}
use Rattle.record_lookup.specs.declared.Picked.{Picked}

-- the records so far and one more
unfoldable pub one_more : Picked → Span → Picked
one_more Picked.Nothing place = Picked.One place
one_more Picked.Several place = Picked.Several
one_more (Picked.One first) place = Picked.Several

-- the records so far and a further text
unfoldable pub joined : List ℕ → Picked → Span → Picked
joined t p place = cond (has_version (part t place.from place.to)) (one_more p place) p

-- an answer for these records, among the items w whose bytes begin at a place of the table: the only one is one of the items, by its place
unfoldable pub PickedIs : ℕ → List ℕ → List (List ℕ) → Picked → Type 0
PickedIs start w [] r = r ≡ Picked.Nothing
PickedIs start w (s ∷ []) r =
    (i : ℕ) × Starts w i × (i < length w) × (r ≡ Picked.One (record { from = start + i + 2; to = start + next_item w i })) × (first_item (drop i w) ≡ s)
PickedIs start w (s ∷ u ∷ ss) r = r ≡ Picked.Several
