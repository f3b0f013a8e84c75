-- Lines, readings and refusals that are computed: from 192.0.2.1, by user@example.com, HELO mail.example, receiver mx.example, unless said otherwise.
use Rattle.std.specs.Prelude.{ℕ, ◌≡◌, refl, List, [], ◌++◌, Ok, Err}
use Rattle.text.specs.Bytes.{within, is_upper, is_alpha, is_digit, is_alphanumeric, is_not_space, is_visible, is_printable}
use Rattle.text.specs.Lists.{same, contains, all, separator_before, join_by}
use Rattle.text.specs.Runs.{is_in, run, run_end}
use Rattle.text.specs.Texts.{bytes}
use Rattle.address.specs.Octets.{octets_of, octets, as_client}
use Rattle.address.specs.declared.Address.{Address}
use Rattle.address.specs.declared.Address.TheVariants.{IPv4, IPv6}
use Rattle.address_text.specs.Digits.{digit, numeral, in_decimal, in_hex}
use Rattle.address_text.specs.Forms.{octet_texts, hex_groups, readable}
use Rattle.macros.specs.Expansion.{is_sender, is_host}
use Rattle.received.specs.Atoms.{is_atext}
use Rattle.received.specs.Quoting.{is_marked, escaped_byte, escaped, unescaped}
use Rattle.received.specs.Line.{crlf}
use Rattle.received.specs.Answers.{Given, given}
use Rattle.received.specs.States.{fold, atom_step, is_within, is_dot_atom_text, is_plain, closing}
use Rattle.received.specs.Texts.{word_of, formed, line_text, fitted, outcome}
use Rattle.received.specs.Reader.{digit_value, octet_on, high_on, low_on, push_byte, total, address_of, number_of, identity_of, closing_at, after, part_at, part_after, word_end, receiver_part, client_part, sender_part, helo_part, identity_part, parts_of, is_written, is_line_of, is_line, line_answer}
use Rattle.received.specs.declared.Identity.TheVariants.{MailFrom, Helo}
use Rattle.received.specs.declared.LineError.TheVariants.{Sender, Host, NoRoom, NoLine, NoResult}
use Rattle.text.specs.declared.spans.Span.{Span as Part}

-- the writing of these arguments: result, client, sender, HELO, receiver
abbrev pub from : ℕ → Address → (sender helo receiver : List ℕ) → Given
from result client sender helo receiver = given result client sender helo receiver MailFrom

abbrev pub client : Address
client = IPv4 3221225985

abbrev pub sender : List ℕ
sender = bytes "user@example.com"

abbrev pub passed : Given
passed = from 2 client sender (bytes "mail.example") (bytes "mx.example")

abbrev pub passed_line : List ℕ
passed_line = bytes "Received-SPF: pass receiver=mx.example; client-ip=192.0.2.1; envelope-from=\"user@example.com\"; helo=mail.example; identity=mailfrom" ++ crlf

abbrev pub part : ℕ → ℕ → Part
part from to = record { from = from; to = to }

pub record Cases : Type 0 where
  -- 133 bytes; they fit a buffer of just that length, and none of one less
  pub line : outcome passed 133 ≡ Ok passed_line
  pub no_room : outcome passed 132 ≡ Err NoRoom
  -- the empty value isn't dot-atom-text; nor is one with a colon; an IPv4-mapped client counts as IPv4
  pub empty : outcome (given 3 client (bytes "@x.y") [] [] Helo) 1500
      ≡ Ok (bytes "Received-SPF: fail receiver=\"\"; client-ip=192.0.2.1; envelope-from=\"@x.y\"; helo=\"\"; identity=helo" ++ crlf)
  pub colons : outcome (from 0 (IPv6 2306139568115548160 1) (bytes "a") (bytes "a=b") (bytes "a..b")) 1500
      ≡ Ok (bytes "Received-SPF: none receiver=\"a..b\"; client-ip=\"2001:db8:0:0:0:0:0:1\"; envelope-from=a; helo=a=b; identity=mailfrom" ++ crlf)
  pub mapped : outcome (from 2 (IPv6 0 281473902969345) sender (bytes "mail.example") (bytes "mx.example")) 1500 ≡ Ok passed_line
  -- "with a backslash before quotes and backslashes only"
  pub marked : outcome (from 6 client (bytes "a\";\\@b") (bytes "a") (bytes "a")) 1500
      ≡ Ok (bytes "Received-SPF: permerror receiver=a; client-ip=192.0.2.1; envelope-from=\"a\\\";\\\\@b\"; helo=a; identity=mailfrom" ++ crlf)
  -- "writing tests 20, 21, 52, 50": each where all after it hold too
  pub first_20 : outcome (from 7 client [] (bytes "a b") []) 0 ≡ Err Sender
  pub then_21 : outcome (from 7 client sender (bytes "a b") []) 0 ≡ Err Host
  pub then_52 : outcome (from 7 client sender [] []) 0 ≡ Err NoResult
  pub then_50 : outcome (from 6 client sender [] []) 0 ≡ Err NoRoom
  -- read back: the result and where the parts stand
  pub read : line_answer passed_line ≡ Ok (record {
    result = 2;
    receiver = part 28 38;
    client = part 50 59;
    sender = part 76 92;
    helo = part 100 112;
    identity = part 123 131;
  })
  -- no lines that writing gives: dot-atom-text in quotes, and a leading zero
  pub quoted_atom : line_answer (bytes "Received-SPF: pass receiver=\"a\"; client-ip=192.0.2.1; envelope-from=a; helo=a; identity=helo" ++ crlf) ≡ Err NoLine
  pub leading_zero : line_answer (bytes "Received-SPF: pass receiver=a; client-ip=192.0.2.01; envelope-from=a; helo=a; identity=helo" ++ crlf) ≡ Err NoLine
  pub no_zero : line_answer (bytes "Received-SPF: pass receiver=a; client-ip=192.0.2.1; envelope-from=a; helo=a; identity=helo" ++ crlf) ≡ Ok (record {
    result = 2;
    receiver = part 28 29;
    client = part 41 50;
    sender = part 66 67;
    helo = part 74 75;
    identity = part 86 90;
  })
  -- the value of a part
  pub unquoted : unescaped (bytes "a\\\";\\\\@b") ≡ bytes "a\";\\@b"

pub cases : Cases
unfolding within is_upper is_alpha is_digit is_alphanumeric is_not_space is_visible is_printable same contains all separator_before join_by is_in run run_end octets_of octets as_client digit numeral in_decimal in_hex octet_texts hex_groups readable is_sender is_host is_atext is_marked escaped_byte escaped unescaped fold atom_step is_within is_dot_atom_text is_plain closing word_of formed line_text fitted outcome digit_value octet_on high_on low_on push_byte total address_of number_of identity_of closing_at after part_at part_after word_end receiver_part client_part sender_part helo_part identity_part parts_of is_written is_line_of is_line line_answer
cases = record {
  line = refl;
  no_room = refl;
  empty = refl;
  colons = refl;
  mapped = refl;
  marked = refl;
  first_20 = refl;
  then_21 = refl;
  then_52 = refl;
  then_50 = refl;
  read = refl;
  quoted_atom = refl;
  leading_zero = refl;
  no_zero = refl;
  unquoted = refl;
}
