-- What the three calls answer, by the production of the line. It names no reader. What is lent determines the answer and the buffer afterwards
-- (`writes_one`, `reads_one`, `unquotes_one`, proofs/Laws/Deciding.antt).
use Rattle.std.specs.Prelude.{ℕ, ◌≤◌, ◌<◌, ◌≡◌, ◌⊎◌, List, true, false, ◌&&◌, length, Result, Ok, Err}
use Rattle.text.specs.Bytes.{is_printable}
use Rattle.text.specs.Lists.{all}
use Rattle.text.specs.Texts.{bytes}
use Rattle.address.specs.declared.Address.{Address}
use Rattle.address.specs.Octets.{InRange, as_client}
use Rattle.address_text.specs.Forms.{readable}
use Rattle.macros.specs.Expansion.{is_sender, is_host}
use Rattle.received.specs.Quoting.{escaped}
use Rattle.received.specs.Line.{Values, Line}
use Rattle.received.specs.Numbers.{Outcome, Says}
use Rattle.received.specs.declared.Checked.{Checked}
use Rattle.received.specs.declared.Identity.{Identity}
use Rattle.received.specs.declared.Identity.TheVariants.{MailFrom, Helo}
use Rattle.received.specs.declared.Parts.{Parts}
use Rattle.received.specs.declared.LineError.{LineError}
use Rattle.received.specs.declared.LineError.TheVariants.{Sender, Host, NoRoom, NoLine, NoResult}

-- what a line is written from
pub record Given : Type 0 where
  pub result : ℕ
  pub client : Address
  pub sender : List ℕ
  pub helo : List ℕ
  pub receiver : List ℕ
  pub identity : Identity

abbrev pub given : ℕ → Address → (sender helo receiver : List ℕ) → Identity → Given
given result client sender helo receiver identity =
    record { result = result; client = client; sender = sender; helo = helo; receiver = receiver; identity = identity }

-- what the functions are given
abbrev pub given_of : ℕ → Checked → Given
given_of result x = given result x.client x.sender.now x.helo.now x.receiver.now x.identity

-- "Identity is `mailfrom` or `helo`."
abbrev pub identity_text : Identity → List ℕ
identity_text MailFrom = bytes "mailfrom"
identity_text Helo = bytes "helo"

-- the values as they are given; "`client-ip=` (as macro c)", whose IPv4-mapped clients count as IPv4
abbrev pub values_of : Given → Values
values_of g = record {
  receiver = g.receiver;
  client = readable (as_client g.client);
  sender = g.sender;
  helo = g.helo;
  identity = identity_text g.identity;
}

-- "50 over 1,500 bytes": the whole line, the field's name and CRLF included
abbrev pub most_line : ℕ
most_line = 1500

-- the most bytes of a value: those of a sender, by the test of 20
abbrev pub most_value : ℕ
most_value = 320

-- the arguments pass the tests of 20, 21 and 52; 52 "result 7 or above offered for writing"
pub record Fit (g : Given) : Type 0 where
  pub sender : is_sender g.sender ≡ true
  pub hosts : (is_host g.helo && is_host g.receiver) ≡ true
  pub result : g.result < 7

-- "writing tests 20, 21, 52, 50"; otherwise the line
pub data Writes (g : Given) (room : ℕ) : Outcome → Type 0 where
  no_sender : is_sender g.sender ≡ false → Writes g room (Err Sender)
  no_host : is_sender g.sender ≡ true → (is_host g.helo && is_host g.receiver) ≡ false → Writes g room (Err Host)
  no_result : is_sender g.sender ≡ true → (is_host g.helo && is_host g.receiver) ≡ true → 7 ≤ g.result → Writes g room (Err NoResult)
  -- "50 over 1,500 bytes or the buffer"
  no_room : {xs : List ℕ} {f : Parts} → Fit g → Line g.result (values_of g) xs f → (most_line < length xs) ⊎ (room < length xs) → Writes g room (Err NoRoom)
  fits : {xs : List ℕ} {f : Parts} → Fit g → Line g.result (values_of g) xs f → length xs ≤ most_line → length xs ≤ room → Writes g room (Ok xs)

-- what `write_line` promises of its answer and of the lent buffer afterwards
pub record WritesLine (g : Given) (r : Result ℕ LineError) (before after : List ℕ) : Type 0 where
  pub outcome : Outcome
  pub writes : Writes g (length before) outcome
  pub says : Says outcome r before after

-- a line that writing gives: for some arguments that fit and a buffer that is large enough
pub record LineFor (g : Given) (s : List ℕ) (f : Parts) : Type 0 where
  pub client : InRange g.client
  pub fit : Fit g
  pub line : Line g.result (values_of g) s f
  pub short : length s ≤ most_line

-- "Reading answers the result and each value's part of the line, without quotes"; "reading only 51": "no line .. that writing gives"
pub data ReadsLine (s : List ℕ) : Result Parts LineError → Type 0 where
  reads : {g : Given} {f : Parts} → LineFor g s f → ReadsLine s (Ok f)
  no_line : ((g : Given) (f : Parts) → LineFor g s f → ⊥) → ReadsLine s (Err NoLine)

-- a part that writing gives: that of a value of at most 320 bytes of 32 to 126. Just these are the parts in the lines that writing gives (`parts_given`,
-- specs/RoundTrip.antt).
pub record PartOf (v s : List ℕ) : Type 0 where
  pub text : s ≡ escaped v
  pub printable : all is_printable v ≡ true
  pub size : length v ≤ most_value

-- "the second call 51, 50": "no .. part that writing gives", "over .. the buffer"; otherwise the value
pub data Unquotes (s : List ℕ) (room : ℕ) : Outcome → Type 0 where
  no_part : ((v : List ℕ) → PartOf v s → ⊥) → Unquotes s room (Err NoLine)
  no_room : {v : List ℕ} → PartOf v s → room < length v → Unquotes s room (Err NoRoom)
  value : {v : List ℕ} → PartOf v s → length v ≤ room → Unquotes s room (Ok v)

-- what `unquote` promises of its answer and of the lent buffer afterwards
pub record UnquotesPart (s : List ℕ) (r : Result ℕ LineError) (before after : List ℕ) : Type 0 where
  pub outcome : Outcome
  pub unquotes : Unquotes s (length before) outcome
  pub says : Says outcome r before after
