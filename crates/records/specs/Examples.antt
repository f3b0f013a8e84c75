-- The cases about records that the house rules want proved, as one statement.
use Rattle.records.specs.declared.Reason.{Reason}
use Rattle.std.specs.Prelude.{◌≡◌, refl, Ok, Err}
use Rattle.text.specs.Bytes.{within, lower, is_space, is_not_space, is_not_slash, is_upper, is_alpha, is_digit, is_alphanumeric, is_hex_digit, is_name_byte, is_toplabel_byte, is_macro_literal}
use Rattle.text.specs.Decimal.{decimal_from, decimal, is_decimal, read_decimal, has_no_leading_zero, read_number}
use Rattle.text.specs.Lists.{same, same_word, all, split, grow}
use Rattle.text.specs.Runs.{is_in, run, run_end}
use Rattle.text.specs.Texts.{bytes}
use Rattle.address.specs.Octets.{value_from, value_of}
use Rattle.domain.specs.Normal.{without_dot}
use Rattle.macros.specs.Reader.{is_macro_string, ends_right, ends_in_label, last_label, is_toplabel, ends_in_macro, pieces, pieces_from, pieces_after, piece_of, is_literal, is_escape}
use Rattle.networks.specs.Grammar.{hex_value, hex_from, groups_from, address_of, filled}
use Rattle.networks.specs.Reader.{octet_at, dot_octet_at, read_ip4, slash_number, read_length, read_length4, read_length6}
use Rattle.networks.specs.Reader6.{first_colon, is_double_colon, double_colon, read_h16, tail_of, last_of, last_part, push, row_of, read_row, read_side, full_of, short_of, read_ip6}
use Rattle.records.specs.Grammar.{is_qualifier}
use Rattle.records.specs.Numbers.{end, term_report, refusal}
use Rattle.records.specs.Reader.{read_record, has_version, check_from, check_after, read_term, term_from, token_answer, token_of, modifier_of, mechanism_of, mechanism_by, kind_of, later_kind, all_of, network_term, network_cut, network_by, is_redirect, is_explanation}
use Rattle.records.specs.Beginnings.{ending, is_term, some_up_to, begins_term, longest_up_to, pointed, point_term, point_record, pointed_term, pointed_record}

pub record Cases : Type 0 where
  -- `v=spf1`: accepted, no terms
  pub version_alone : pointed_record (bytes "v=spf1") ≡ Ok 6
  pub no_terms : term_report (bytes "v=spf1") (pointed_term (bytes "v=spf1") 6) ≡ end
  -- `v=spf10 -all`: 31
  pub another_version : pointed_record (bytes "v=spf10 -all") ≡ Err (refusal Reason.NoVersion 0)
  -- `ip4:192.0.2.0/32` in, `/33` 32 at 22: W-201 amends the place, "`v=spf1 ip4:192.0.2.0/33` then gives 22"
  pub length_32 : pointed_record (bytes "v=spf1 ip4:192.0.2.0/32") ≡ Ok 6
  pub length_33 : pointed_record (bytes "v=spf1 ip4:192.0.2.0/33") ≡ Err (refusal Reason.Outside 22)
  -- `ip6:2001:db8::/128` in, `/129` out, by W-201 at 24
  pub length_128 : pointed_record (bytes "v=spf1 ip6:2001:db8::/128") ≡ Ok 6
  pub length_129 : pointed_record (bytes "v=spf1 ip6:2001:db8::/129") ≡ Err (refusal Reason.Outside 24)
  -- `ip4=192.0.2.1` in
  pub unknown_modifier : pointed_record (bytes "v=spf1 ip4=192.0.2.1") ≡ Ok 6
  -- `v=spf1 redirect=a.example exp=b.example redirect=c.example`: 33 at 40
  pub second_redirect : pointed_record (bytes "v=spf1 redirect=a.example exp=b.example redirect=c.example") ≡ Err (refusal Reason.Repeated 40)

pub cases : Cases
unfolding within lower is_space is_not_space is_not_slash is_upper is_alpha is_digit is_alphanumeric is_hex_digit is_name_byte is_toplabel_byte is_macro_literal decimal_from decimal is_decimal read_decimal has_no_leading_zero read_number same same_word all split grow is_in run run_end value_from value_of is_macro_string ends_right without_dot ends_in_label last_label is_toplabel ends_in_macro pieces pieces_from pieces_after piece_of is_literal is_escape hex_value hex_from groups_from octet_at dot_octet_at read_ip4 slash_number read_length read_length4 read_length6 first_colon is_double_colon double_colon read_h16 tail_of last_of last_part push row_of read_row read_side address_of filled full_of short_of read_ip6 is_qualifier read_record has_version check_from check_after read_term term_from token_answer token_of modifier_of mechanism_of mechanism_by kind_of later_kind all_of network_term network_cut network_by is_redirect is_explanation ending is_term some_up_to begins_term longest_up_to pointed point_term point_record
cases = record {
  version_alone = refl;
  no_terms = refl;
  another_version = refl;
  length_32 = refl;
  length_33 = refl;
  length_128 = refl;
  length_129 = refl;
  unknown_modifier = refl;
  second_redirect = refl;
}
