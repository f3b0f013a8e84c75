-- For private functions, and for callers of `read_line`: the reader. Where the parts stand if this is a line, the arguments that they give, and whether
-- writing these gives the line again; the laws tie it to the production.
use Rattle.std.specs.Prelude.{ℕ, ◌+◌, ◌-◌, ◌*◌, ◌/◌, ◌%◌, ◌<◌, min, ◌≡◌, List, Bool, false, cond, length, take, drop, eqb, leb, ltb, Result, Ok, Err}
use Rattle.text.specs.Bytes.{at, part}
use Rattle.text.specs.Lists.{same, contains}
use Rattle.text.specs.Runs.{run_end, is_in}
use Rattle.text.specs.Texts.{bytes}
use Rattle.text.specs.declared.bytes.Class.TheVariants.{NotSpace}
use Rattle.address.specs.declared.Address.{Address}
use Rattle.address.specs.declared.Address.TheVariants.{IPv4, IPv6}
use Rattle.received.specs.Quoting.{quote, unescaped}
use Rattle.received.specs.Numbers.{Outcome}
use Rattle.received.specs.States.{fold, is_plain, closing}
use Rattle.received.specs.Answers.{given, most_line, most_value}
use Rattle.received.specs.Texts.{outcome}
use Rattle.received.specs.declared.Identity.{Identity}
use Rattle.received.specs.declared.Identity.TheVariants.{MailFrom, Helo}
use Rattle.received.specs.declared.clients.Sum.{Sum}
use Rattle.text.specs.declared.spans.Span.{Span as Part}
use Rattle.received.specs.declared.Parts.{Parts}
use Rattle.received.specs.declared.LineError.{LineError}
use Rattle.received.specs.declared.LineError.TheVariants.{NoLine}

-- an address from its digits; whether it is one is seen when it is written again
unfoldable pub digit_value : ℕ → ℕ
digit_value b = cond (ltb b 58) (b - 48) (b - 87)

pub record Digit (b r : ℕ) : Type 0 where
  pub value : r ≡ digit_value b
  pub small : r < 256

unfoldable pub octet_on : Sum → ℕ
octet_on x = (x.low % 16777216) * 256 + x.group % 256

unfoldable pub high_on : Sum → ℕ
high_on x = (x.high % 281474976710656) * 65536 + (x.low / 281474976710656) % 65536

unfoldable pub low_on : Sum → ℕ
low_on x = (x.low % 281474976710656) * 65536 + x.group % 65536

unfoldable pub push_byte : ℕ → Sum → ℕ → Sum
push_byte base x b =
    cond (eqb b 46) (record { high = x.high; low = octet_on x; group = 0 })
    (cond (eqb b 58) (record { high = high_on x; low = low_on x; group = 0 })
    (record { high = x.high; low = x.low; group = (base * (x.group % 65536) + digit_value b) % 65536 }))

abbrev pub nothing : Sum
nothing = record { high = 0; low = 0; group = 0 }

unfoldable pub total : ℕ → List ℕ → Sum
total base s = fold (push_byte base) nothing s

unfoldable pub address_of : List ℕ → Address
address_of s = cond (contains s 58) (IPv6 (high_on (total 16 s)) (low_on (total 16 s))) (IPv4 (octet_on (total 10 s)))

-- the number of a word, 7 for any other
unfoldable pub number_of : List ℕ → ℕ
number_of w =
    cond (same w (bytes "none")) 0
    (cond (same w (bytes "neutral")) 1
    (cond (same w (bytes "pass")) 2
    (cond (same w (bytes "fail")) 3
    (cond (same w (bytes "softfail")) 4
    (cond (same w (bytes "temperror")) 5
    (cond (same w (bytes "permerror")) 6 7))))))

unfoldable pub identity_of : List ℕ → Identity
identity_of w = cond (same w (bytes "mailfrom")) MailFrom Helo

-- places
abbrev pub plus : ℕ → ℕ → ℕ
plus p n = min (p + n) 18446744073709551615

unfoldable pub closing_at : List ℕ → ℕ → ℕ
closing_at s i = i + closing (drop i s)

-- after a part, and the quote that ends it
unfoldable pub after : List ℕ → ℕ → ℕ
after s to = cond (eqb (at s to) quote) (plus to 1) to

-- the part that begins at a place
unfoldable pub part_at : List ℕ → ℕ → Part
part_at s p = cond (eqb (at s p) quote) (record { from = plus p 1; to = closing_at s (plus p 1) }) (record { from = p; to = run_end is_plain s p })

-- the part that stands n bytes after another
unfoldable pub part_after : List ℕ → ℕ → ℕ → Part
part_after s to n = part_at s (plus (after s to) n)

unfoldable pub word_end : List ℕ → ℕ
word_end s = run_end (is_in NotSpace) s 14

unfoldable pub receiver_part : List ℕ → Part
receiver_part s = part_after s (word_end s) 10

unfoldable pub client_part : List ℕ → Part
client_part s = part_after s (receiver_part s).to 12

unfoldable pub sender_part : List ℕ → Part
sender_part s = part_after s (client_part s).to 16

unfoldable pub helo_part : List ℕ → Part
helo_part s = part_after s (sender_part s).to 7

unfoldable pub identity_part : List ℕ → Part
identity_part s = part_after s (helo_part s).to 11

unfoldable pub parts_of : List ℕ → Parts
parts_of s = record {
  result = number_of (part s 14 (word_end s));
  receiver = receiver_part s;
  client = client_part s;
  sender = sender_part s;
  helo = helo_part s;
  identity = identity_part s;
}

-- the bytes of a part
abbrev pub bytes_of : List ℕ → Part → List ℕ
bytes_of s p = part s p.from p.to

-- whether the line was written
unfoldable pub is_written : Outcome → List ℕ → Bool
is_written (Err n) s = false
is_written (Ok xs) s = same xs s

-- the most bytes of a HELO name or a receiver, by the test of 21, and of a client's text: eight groups of four digits
abbrev pub most_host : ℕ
most_host = 255

abbrev pub most_client : ℕ
most_client = 39

-- the value of a part, as far as any value goes
abbrev pub value_of : ℕ → List ℕ → Part → List ℕ
value_of n s p = take n (unescaped (bytes_of s p))

-- whether writing what the parts give, with these values, gives the line
unfoldable pub is_line_of : List ℕ → Parts → (sender helo receiver : List ℕ) → Bool
is_line_of s f sender helo receiver =
    is_written (outcome (given f.result (address_of (value_of most_client s f.client)) sender helo receiver (identity_of (bytes_of s f.identity))) most_line) s

unfoldable pub is_line : List ℕ → Parts → Bool
is_line s f = is_line_of s f (value_of most_value s f.sender) (value_of most_host s f.helo) (value_of most_host s f.receiver)

-- a line over 1,500 bytes isn't looked at
unfoldable pub line_answer : List ℕ → Result Parts LineError
line_answer s = cond (leb (length s) most_line) (cond (is_line s (parts_of s)) (Ok (parts_of s)) (Err NoLine)) (Err NoLine)

-- a value as far as a buffer goes
pub record Held (x before after : List ℕ) (r : ℕ) : Type 0 where
  pub taken : take r after ≡ take (length before) x
  pub size : length after ≡ length before
