-- Reading and writing are inverse: statements about any answers that meet what the three calls' `ensures` promise (`WritesLine`, `ReadsLine`,
-- `UnquotesPart`). The proof is `round_trip`, proofs/Laws/RoundTrip.antt. W-202: "Our archive search needs the same form read back to the same values."
use Rattle.std.specs.Prelude.{ℕ, ◌≤◌, ◌≡◌, List, ◌++◌, ◌↔◌, length, take, drop, Result, Ok}
use Rattle.text.specs.Bytes.{part}
use Rattle.address.specs.Octets.{InRange}
use Rattle.received.specs.Line.{Values, Line}
use Rattle.received.specs.Answers.{Given, values_of, most_line, WritesLine, LineFor, ReadsLine, PartOf, UnquotesPart}
use Rattle.text.specs.declared.spans.Span.{Span as Part}
use Rattle.received.specs.declared.Parts.{Parts}
use Rattle.received.specs.declared.LineError.{LineError}

-- a call that writes gives just these bytes, at the front of a buffer whose other bytes are kept
pub record Gives (xs : List ℕ) (r : Result ℕ LineError) (before after : List ℕ) : Type 0 where
  pub answer : r ≡ Ok (length xs)
  pub buffer : after ≡ xs ++ drop (length xs) before

-- the bytes of a part of the line
abbrev pub bytes_at : List ℕ → Part → List ℕ
bytes_at s p = part s p.from p.to

-- the second call gives the value of a part, in whatever buffer has room for the value
abbrev pub UnquotedTo : List ℕ → List ℕ → Type 0
UnquotedTo s v = (r : Result ℕ LineError) (before after : List ℕ) → length v ≤ length before → UnquotesPart s r before after → Gives v r before after

-- each part of a line is unquoted to its value
pub record AllUnquoted (s : List ℕ) (f : Parts) (v : Values) : Type 0 where
  pub receiver : UnquotedTo (bytes_at s f.receiver) v.receiver
  pub client : UnquotedTo (bytes_at s f.client) v.client
  pub sender : UnquotedTo (bytes_at s f.sender) v.sender
  pub helo : UnquotedTo (bytes_at s f.helo) v.helo
  pub identity : UnquotedTo (bytes_at s f.identity) v.identity

-- what reading a line of these arguments gives: the same result, and parts that are unquoted to the same values
pub record ReadBack (g : Given) (s : List ℕ) (r : Result Parts LineError) : Type 0 where
  pub parts : Parts
  pub answer : r ≡ Ok parts
  pub result : parts.result ≡ g.result
  pub values : AllUnquoted s parts (values_of g)

-- arguments for which writing gives a line, in whatever buffer has room for it
pub record WrittenFrom (s : List ℕ) (g : Given) : Type 0 where
  pub client : InRange g.client
  pub writes : (r : Result ℕ LineError) (before after : List ℕ) → length s ≤ length before → WritesLine g r before after → Gives s r before after

-- a list is the part of one of the values of a line
pub data PartIn (line : List ℕ) (f : Parts) : List ℕ → Type 0 where
  receiver : PartIn line f (bytes_at line f.receiver)
  client : PartIn line f (bytes_at line f.client)
  sender : PartIn line f (bytes_at line f.sender)
  helo : PartIn line f (bytes_at line f.helo)
  identity : PartIn line f (bytes_at line f.identity)

-- writing gives it: it is a part in some line that writing gives
pub record GivenPart (s : List ℕ) : Type 0 where
  pub arguments : Given
  pub line : List ℕ
  pub parts : Parts
  pub written : LineFor arguments line parts
  pub part : PartIn line parts s

pub record RoundTrip : Type 0 where
  -- what is written is read back to the same result and values, whatever the address (its numbers as its types hold them) and the buffer
  pub written_read : (g : Given) → InRange g.client → (n : ℕ) (before after : List ℕ) → WritesLine g (Ok n) before after
      → (r : Result Parts LineError) → ReadsLine (take n after) r → ReadBack g (take n after) r
  -- what is read was written: reading accepts no other lines
  pub read_written : (s : List ℕ) (f : Parts) → ReadsLine s (Ok f) → (g : Given) × WrittenFrom s g
  -- a result and values have one line, with one place for each part
  pub one_line : (n : ℕ) (v : Values) (s t : List ℕ) (f h : Parts) → Line n v s f → Line n v t h → (s ≡ t) × (f ≡ h)
  -- a line has one result, one row of values and one place for each part
  pub one_reading : (s : List ℕ) → length s ≤ most_line → (n m : ℕ) (v w : Values) (f h : Parts) → Line n v s f → Line m w s h → (n ≡ m) × ((v ≡ w) × (f ≡ h))
  -- "51 no .. part that writing gives": the lists that have a value are just the parts of the lines that writing gives
  pub parts_given : (s : List ℕ) → ((v : List ℕ) × PartOf v s) ↔ GivenPart s
