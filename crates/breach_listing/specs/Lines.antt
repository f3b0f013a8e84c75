-- What the program lint_record prints of an input, which has the domain name on its first line and the record on the second: for each breach of the house
-- rules a line with the rule's number, the place and the rule in a few words, then the record, and a caret under the place; `ok` where there is none; or
-- the refusal, as the record printer prints it.
use Rattle.std.specs.Prelude.{ℕ, ◌≤◌, ◌<◌, ◌≡◌, List, [], ◌∷◌, ◌++◌, cond, length, replicate, eqb}
use Rattle.text.specs.Fields.{field, after_fields}
use Rattle.text.specs.Texts.{bytes}
use Rattle.text.specs.Writing.{overwritten}
use Rattle.address_text.specs.Digits.{in_decimal}
use Rattle.records.specs.Readings.{Placed}
use Rattle.records.specs.Grammar.{Record}
use Rattle.records.specs.Numbers.{refused}
use Rattle.records.specs.Answers.{most_bytes, RecordAnswers}
use Rattle.record_listing.specs.Lines.{refusal_line, without_newline}
use Rattle.publishing.specs.Listing.{Entry, Listing, most_name, most_breaches}

-- a rule in a few words, mostly W-211's own
unfoldable pub rule_text : ℕ → List ℕ
rule_text rule =
    cond (eqb rule 1) (bytes "no ptr")
    (cond (eqb rule 2) (bytes "no p macro")
    (cond (eqb rule 3) (bytes "an all or a redirect, and no all after the first")
    (cond (eqb rule 4) (bytes "no redirect beside an all")
    (cond (eqb rule 5) (bytes "no mechanism after the first all")
    (cond (eqb rule 6) (bytes "nothing but redirect and exp after the first of these")
    (cond (eqb rule 7) (bytes "no +all, written or implied")
    (cond (eqb rule 8) (bytes "no length below /8 for IPv4 or /19 for IPv6")
    (cond (eqb rule 9) (bytes "no network equal to an earlier one")
    (bytes "name and text together under 450 bytes")))))))))

-- a breach: a line with the rule's number, the place and the rule in a few words; the record; a caret under the place
unfoldable pub head_text : Entry → List ℕ
head_text e = in_decimal e.rule ++ bytes " at " ++ in_decimal e.place ++ bytes ": " ++ rule_text e.rule ++ bytes "\n"

unfoldable pub caret_text : ℕ → List ℕ
caret_text place = replicate place 32 ++ bytes "^\n"

unfoldable pub breach_text : List ℕ → Entry → List ℕ
breach_text s e = head_text e ++ (s ++ bytes "\n") ++ caret_text e.place

unfoldable pub breach_texts : List ℕ → List Entry → List ℕ
breach_texts s [] = []
breach_texts s (e ∷ es) = breach_text s e ++ breach_texts s es

-- all of them; `ok` where there is none
unfoldable pub list_text : List ℕ → List Entry → List ℕ
list_text s [] = bytes "ok\n"
list_text s (e ∷ es) = breach_texts s (e ∷ es)

-- What is printed of a name and a record, by the house rules; it is one text (`prints_one`, proofs/Laws/Printing.antt). 22 and 70 have no place: 0.
pub data Prints (domain s : List ℕ) : List ℕ → Type 0 where
  long_name : most_name < length domain → Prints domain s (refusal_line 22 0)
  unread : {number place : ℕ} → length domain ≤ most_name → RecordAnswers s (refused number place) → Prints domain s (refusal_line number place)
  many : {ts : List Placed} {es : List Entry} → length domain ≤ most_name → length s ≤ most_bytes → Record s ts
      → Listing ts (length s) (length domain) es → most_breaches < length es → Prints domain s (refusal_line 70 0)
  lists : {ts : List Placed} {es : List Entry} → length domain ≤ most_name → length s ≤ most_bytes → Record s ts
      → Listing ts (length s) (length domain) es → length es ≤ most_breaches → Prints domain s (list_text s es)

-- the domain name: the first line
unfoldable pub domain_of : List ℕ → List ℕ
domain_of input = field 10 0 input

-- the record: all that follows, without one final newline, as the record printer reads it
unfoldable pub record_of : List ℕ → List ℕ
record_of input = without_newline (after_fields 10 1 input)

-- all that is printed stands at the front of a buffer, n bytes, and the bytes after it are kept
pub record Printed (input before after : List ℕ) (n : ℕ) : Type 0 where
  pub text : List ℕ
  pub prints : Prints (domain_of input) (record_of input) text
  pub size : n ≡ length text
  pub buffer : after ≡ overwritten text before

-- what is printed never has more bytes (`prints_length`, proofs/Laws/Room.antt)
abbrev pub room : ℕ
room = 2200000
