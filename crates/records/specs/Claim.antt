-- What reading a record, reading its terms and reading their arguments promise together, of any text and of any answers that meet the three calls'
-- promises. No reader is named here. Evaluation joins this with its own promise into one theorem.
use Rattle.std.specs.Prelude.{ℕ, ◌≤◌, ◌≡◌, List, [], ◌∷◌, map, ◌↔◌, length, None, Ok}
use Rattle.text.specs.Bytes.{part}
use Rattle.records.specs.Readings.{Placed, argument_bytes}
use Rattle.records.specs.Grammar.{Record}
use Rattle.records.specs.Numbers.{said_of, TermAnswer, RecordAnswer, term_at}
use Rattle.records.specs.Answers.{most_bytes, ReadsRecord, ReadsTerm, ReadsArgument}
use Rattle.records.specs.declared.Term.{Term}

-- answers of the three calls for a text, at every place and for every term
pub record Calls (s : List ℕ) : Type 0 where
  pub record_answer : RecordAnswer
  pub record_promised : ReadsRecord s record_answer
  pub term_answer : ℕ → TermAnswer
  pub terms_promised : (i : ℕ) → ReadsTerm s i (term_answer i)
  pub argument_answer : ℕ → ℕ → Term → List ℕ
  pub arguments_promised : (at next : ℕ) (x : Term) → ReadsArgument s at next x (argument_answer at next x)

-- a term as the calls tell it: what `read_term` says of it, and the bytes of `argument`
pub record Told : Type 0 where
  pub term : Placed
  pub argument : List ℕ

-- term after term from a place on, each from the last one's next place, and then the end
pub data Walks {s : List ℕ} (calls : Calls s) : ℕ → List Told → Type 0 where
  stop : {i : ℕ} → calls.term_answer i ≡ Ok None → Walks calls i []
  step : {i at next : ℕ} {x : Term} {ts : List Told} → calls.term_answer i ≡ term_at at next x → Walks calls next ts
      → Walks calls i (record { term = record { place = at; said = said_of (part s at next) x }; argument = calls.argument_answer at next x } ∷ ts)

-- a reading's terms, each with its own argument
abbrev pub told : List Placed → List Told
told ts = map (λ t. record { term = t; argument = argument_bytes t.said }) ts

pub record Claim (s : List ℕ) (calls : Calls s) : Type 0 where
  -- a text is accepted, with some place, exactly when it has at most 4,096 bytes and the productions produce it
  pub accepts : ((first : ℕ) × (calls.record_answer ≡ Ok first)) ↔ ((length s ≤ most_bytes) × ((ts : List Placed) × Record s ts))
  -- it has exactly one reading
  pub one : length s ≤ most_bytes → (ts us : List Placed) → Record s ts → Record s us → ts ≡ us
  -- reading term after term from the place that was answered gives that reading, each term with its own argument, and then the end; nothing else
  -- does
  pub walks : (first : ℕ) → calls.record_answer ≡ Ok first → (ts : List Placed) → Record s ts → (us : List Told)
      → Walks calls first us ↔ (us ≡ told ts)
