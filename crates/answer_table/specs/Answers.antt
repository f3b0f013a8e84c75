-- When a table is accepted, and when and where it is refused, for either layout. It names no reader. Encoded, NoEntry and TableAnswers are those of
-- the tables that are evaluated.
use Rattle.std.specs.Prelude.{ℕ, ◌≤◌, ◌<◌, ◌≡◌, List, ◌++◌, ◌⊎◌, true, length}
use Rattle.answer_table.specs.Layout.{Entry, EncodesIn, EntriesIn, holds, distinct}
use Rattle.answer_table.specs.Numbers.{Report, accepted, refused, nowhere, byte}
use Rattle.answer_table.specs.declared.Layout.{Layout}
use Rattle.answer_table.specs.declared.Layout.TheVariants.{New}

-- "At most 65,535 bytes and 512 entries"
abbrev pub most_bytes : ℕ
most_bytes = 65535

abbrev pub most_entries : ℕ
most_entries = 512

-- bytes that encode at most 512 well-formed entries without a repeated pair
pub record EncodedIn (lay : Layout) (t : List ℕ) (es : List Entry) : Type 0 where
  pub entries : EntriesIn lay t es
  pub few : length es ≤ most_entries
  pub once : distinct es ≡ true

abbrev pub Encoded : List ℕ → List Entry → Type 0
Encoded = EncodedIn New

-- no well-formed entry begins here
abbrev pub NoEntryIn : Layout → List ℕ → Type 0
NoEntryIn lay rest = (w after : List ℕ) (e : Entry) → rest ≡ w ++ after → EncodesIn lay w e → ⊥

abbrev pub NoEntry : List ℕ → Type 0
NoEntry = NoEntryIn New

-- the answer of a check: 24; the earlier of 25 and 26 with its place (25 if equal); or accepted
pub data TableAnswersIn (lay : Layout) (t : List ℕ) : Report → Type 0 where
  too_long : most_bytes < length t → TableAnswersIn lay t (refused 24 nowhere)
  malformed : (front rest : List ℕ) {es : List Entry} → length t ≤ most_bytes → t ≡ front ++ rest → EncodedIn lay front es → 0 < length rest
      → (length es ≡ most_entries) ⊎ NoEntryIn lay rest → TableAnswersIn lay t (refused 25 (byte (length front)))
  repeated : (front w rest : List ℕ) {es : List Entry} {e : Entry} → length t ≤ most_bytes → t ≡ front ++ (w ++ rest) → EncodedIn lay front es
      → length es < most_entries → EncodesIn lay w e → holds e.kind e.name es ≡ true → TableAnswersIn lay t (refused 26 (byte (length front)))
  whole : {es : List Entry} → length t ≤ most_bytes → EncodedIn lay t es → TableAnswersIn lay t (accepted (length es))

abbrev pub TableAnswers : List ℕ → Report → Type 0
TableAnswers = TableAnswersIn New
