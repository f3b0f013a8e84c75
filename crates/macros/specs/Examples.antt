-- The sender strong-bad@email.example.com and the current domain email.example.com, each text as a domain-spec: the three cases of the house rules, an absent local
-- part, and refusals.
use Rattle.std.specs.Prelude.{ℕ, ◌≡◌, refl, List, Ok, Err}
use Rattle.text.specs.Bytes.{within, lower, is_upper, is_alpha, is_digit, is_alphanumeric, is_toplabel_byte, is_macro_literal, is_delimiter, is_space, is_visible, is_printable}
use Rattle.text.specs.Decimal.{decimal_from, decimal}
use Rattle.text.specs.Lists.{contains, all, grow, split, separator_before, join_by, rightmost}
use Rattle.text.specs.Runs.{is_in, run, run_end}
use Rattle.text.specs.Texts.{bytes}
use Rattle.address.specs.Octets.{octets_of, octets, as_client}
use Rattle.address.specs.declared.Address.TheVariants.{IPv4}
use Rattle.address_text.specs.Digits.{digit, numeral, in_decimal}
use Rattle.address_text.specs.Forms.{octet_texts, dotted, readable, family}
use Rattle.transformers.specs.Transform.{is_listed, reversed_if, kept, is_unreserved, hex_digit, escaped_byte, escaped, transformed}
use Rattle.domain.specs.Normal.{without_dot}
use Rattle.macros.specs.Grammar.{is_letter, is_part_count}
use Rattle.macros.specs.Reader.{is_literal, is_escape, is_reverse, closed_at, delimiters_at, reversal_at, digits_at, braces_of, piece_of, macro_of, pieces_after, pieces_from, pieces, ends_in_macro, is_toplabel, last_label, ends_in_label, ends_right, is_macro_string}
use Rattle.macros.specs.Expansion.{Given, given, last_part, sender_domain, front_parts, local_as_written, local_part, receiver_name, letters_of, letter_value, escape_text, piece_text, text_of, is_sender, is_host, is_short}
use Rattle.macros.specs.Numbers.{fitted, outcome}
use Rattle.macros.specs.declared.ExpandError.TheVariants.{Sender, NoMacroString, NoRoom}
use Rattle.macros.specs.declared.Form.TheVariants.{DomainSpec}

-- from 192.0.2.3, at the time 0
abbrev pub from : List ℕ → Given
from sender = given sender (bytes "") (bytes "") (bytes "email.example.com") (bytes "") (IPv4 3221225987) 0

abbrev pub strong_bad : Given
strong_bad = from (bytes "strong-bad@email.example.com")

pub record Cases : Type 0 where
  -- `%{lr-}` bad.strong; `%{l1r-}` strong; `%{d2r}` example.email
  pub reversed_at_dash : outcome DomainSpec (bytes "%{lr-}") strong_bad 500 ≡ Ok (bytes "bad.strong")
  pub one_kept : outcome DomainSpec (bytes "%{l1r-}") strong_bad 500 ≡ Ok (bytes "strong")
  pub two_kept : outcome DomainSpec (bytes "%{d2r}") strong_bad 500 ≡ Ok (bytes "example.email")
  -- "An absent or empty local part is `postmaster`, in s too."
  pub absent_local : outcome DomainSpec (bytes "%{s}") (from (bytes "email.example.com")) 500 ≡ Ok (bytes "postmaster@email.example.com")
  -- 41: the 13 bytes of `example.email` don't fit 12; 40: a value of 0; 20 comes before 40
  pub no_room : outcome DomainSpec (bytes "%{d2r}") strong_bad 12 ≡ Err NoRoom
  pub zero_digits : outcome DomainSpec (bytes "%{d0}") strong_bad 500 ≡ Err NoMacroString
  pub empty_sender : outcome DomainSpec (bytes "%{d0}") (from (bytes "")) 500 ≡ Err Sender

pub cases : Cases
unfolding within lower is_upper is_alpha is_digit is_alphanumeric is_toplabel_byte is_macro_literal is_delimiter is_space is_visible is_printable decimal_from decimal contains all grow split separator_before join_by rightmost is_in run run_end octets_of octets as_client digit numeral in_decimal octet_texts dotted readable family is_listed reversed_if kept is_unreserved hex_digit escaped_byte escaped transformed is_letter is_part_count is_literal is_escape is_reverse closed_at delimiters_at reversal_at digits_at braces_of piece_of macro_of pieces_after pieces_from pieces ends_in_macro is_toplabel last_label without_dot ends_in_label ends_right is_macro_string last_part sender_domain front_parts local_as_written local_part receiver_name letters_of letter_value escape_text piece_text text_of is_sender is_host is_short fitted outcome
cases =
    record {
      reversed_at_dash = refl;
      one_kept = refl;
      two_kept = refl;
      absent_local = refl;
      no_room = refl;
      zero_digits = refl;
      empty_sender = refl;
    }
