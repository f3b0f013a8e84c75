-- The scope paper's cases about evaluation, its "Errors that look right", and one example for each of its sentences (Rules.antt), computed: each is a zone, a
-- mail and what the evaluation answers.
use Rattle.std.specs.Prelude.{ℕ, ◌≡◌, refl, List, [], ◌∷◌, ◌++◌, None, Option}
use Rattle.text.specs.Texts.{bytes}
use Rattle.text.specs.Bytes.{within, is_space, is_not_space, is_not_slash, is_upper, is_not_upper, is_alpha, is_digit, is_length_byte, is_alphanumeric, is_hex_digit, is_visible, is_printable, is_label_byte, is_name_byte, is_toplabel_byte, is_macro_literal, is_delimiter, lower}
use Rattle.text.specs.Decimal.{decimal_from, decimal, is_decimal, read_decimal, pushed, has_no_leading_zero, read_number}
use Rattle.text.specs.Lists.{same, same_word, contains, all, rightmost, grow, split, separator_before, join_by}
use Rattle.text.specs.Runs.{is_in, run as text-runs-of-run, run_end, trailing_start}
use Rattle.text.specs.Writing.{overwritten}
use Rattle.address.specs.Matching.{bits_of, bits, agree, matches_at}
use Rattle.address.specs.Octets.{octets_of, octets, value_from, value_of, from_octets, mapped_prefix, client_octets, as_client}
use Rattle.domain.specs.Names.{labels, is_label, is_name, is_table_name, label_count, at_or_below}
use Rattle.domain.specs.Normal.{without_dot, lowered, normal}
use Rattle.domain.specs.Shortening.{shorter_labels, shortened}
use Rattle.answer_table.specs.Reader.{number}
use Rattle.address_text.specs.Digits.{digit, numeral, in_decimal, in_hex}
use Rattle.address_text.specs.Forms.{nibbles, hex_groups, octet_texts, nibble_texts, dotted, readable, family, reversed_name}
use Rattle.transformers.specs.Transform.{is_listed, reversed_if, kept, is_unreserved, hex_digit, escaped_byte, escaped, transformed}
use Rattle.macros.specs.Expansion.{last_part as macros-expansion-of-lastPart, sender_domain, front_parts, local_as_written, local_part, receiver_name, letters_of, letter_value, escape_text, piece_text, text_of as macros-expansion-of-textOf, is_sender, is_host, is_short}
use Rattle.macros.specs.Grammar.{is_letter, is_part_count}
use Rattle.macros.specs.Numbers.{fitted, outcome}
use Rattle.macros.specs.Question.{question_name}
use Rattle.macros.specs.Reader.{is_literal, is_escape, is_reverse, closed_at, delimiters_at, reversal_at, digits_at, braces_of, piece_of, macro_of, pieces_after, pieces_from, pieces, ends_in_macro, is_toplabel, last_label, ends_in_label, ends_right, is_macro_string, is_p, any_p, scan_of, uses_p}
use Rattle.networks.specs.Grammar.{hex_value, hex_from, groups_from, address_of, filled}
use Rattle.networks.specs.Reader.{octet_at, dot_octet_at, read_ip4, slash_number, read_length, read_length4, read_length6, front_end, second_length, read_dual}
use Rattle.networks.specs.Reader6.{first_colon, is_double_colon, double_colon, read_h16, tail_of, last_of, last_part as networks-reader6-of-lastPart, push, row_of, read_row, read_side, full_of, short_of, read_ip6, first_of, read_address, octet_pairs}
use Rattle.records.specs.Grammar.{is_qualifier, is_reserved, count_of}
use Rattle.records.specs.Numbers.{said_of}
use Rattle.records.specs.Reader.{later_kind, kind_of, spec_at, all_of, with_spec, ptr_of, cut_of, hosts_cut, hosts_at, with_hosts, network_term, network_cut, network_by, mechanism_by, mechanism_of, modifier_of as records-reader-of-modifierOf, token_of, token_answer, term_from, read_term, is_redirect, is_explanation, check_after, check_from, has_version, read_record}
use Rattle.rules.specs.Evaluation.{include_match, check_target, begun_check, include_of, include_step, length_for, network_step, mechanism_step, term_step, sign_result, modifier_of, signed, none_is_permerror, redirect_of, no_match, after_step, try_terms, terms_after, terms_from, terms_of, read_outcome, versioned, selection, text_reply, record_lookup, after_lookup, check_name, check, evaluation, shown, gives_shown, explained, explain_reply, explain_name, explanation, explanation_of, verdict, having, plain_step, match_result}
use Rattle.rules.specs.Mechanisms.{address_kind, item_matches, any_matches, width, includes_client, with_valid, validated, names_of, holds_name, first_below, first_or, chosen, gives_chosen, p_reply, p_value, expansion, gives_expansion, expanded, gives_name, target, target_or, counting, void_step, own_reply, a_step, exists_step, insert_host, by_preference, mx_items, mx_step, ptr_step, at_target, target_step, counted_step, on_match, until_match, ask_host}
use Rattle.rules.specs.Tables.{reply_by, answer_of, table_in}
use Rattle.rules.specs.Tree.{items, settled, wanting, bind, then, answered, sooner, run}
use Rattle.rules.specs.Zones.{zone, aside, txt, nothing, answer, answer6, decided, result, lifetime}
use Rattle.rules.specs.Lifetimes.{seconds, life_of}
use Rattle.rules.specs.Rules.{Rules}

-- a label of 60 bytes and its dot
abbrev pub long : List ℕ
long = bytes "aaaaaaaaaabbbbbbbbbbccccccccccddddddddddeeeeeeeeeeffffffffff."

pub record Cases : Type 0 where
  -- nothing is known yet: the TXT question is wanting
  pub first_question : answer [] ≡ wanting 16 (bytes "example.com") (record { lookups = 0; voids = 0 }) None
  pub plain_fail : answer (txt (bytes "example.com") (bytes "v=spf1 -all") ∷ []) ≡ decided 3 0 0
  -- 192.0.2.129 against 192.0.2.0 at /24 and /25
  pub within_24 : answer (txt (bytes "example.com") (bytes "v=spf1 ip4:192.0.2.0/24 -all") ∷ []) ≡ decided 2 0 0
  pub outside_25 : answer (txt (bytes "example.com") (bytes "v=spf1 ip4:192.0.2.0/25 -all") ∷ []) ≡ decided 3 0 0
  -- an included fail isn't this record's fail
  pub included_fail : answer (txt (bytes "example.com") (bytes "v=spf1 include:b.example ?all") ∷ txt (bytes "b.example") (bytes "v=spf1 -all") ∷ []) ≡ decided 1 1 0
  -- a redirect to a domain without a record isn't neutral
  pub redirect_none : answer (txt (bytes "example.com") (bytes "v=spf1 redirect=b.example") ∷ record { kind = 16; owner = bytes "b.example"; reply = items []; lifetime = 300 } ∷ [])
      ≡ decided 6 1 0
  -- a later bad term is read before any is tried
  pub later_bad_term : answer (txt (bytes "example.com") (bytes "v=spf1 +all moo") ∷ []) ≡ decided 6 0 0
  -- a length of 33 isn't reduced to 1
  pub length_33 : answer (txt (bytes "example.com") (bytes "v=spf1 ip4:192.0.2.0/33 -all") ∷ []) ≡ decided 6 0 0
  -- a name of 254 bytes loses its first label, not its first byte
  pub long_name : answer (txt (bytes "example.com") (bytes "v=spf1 exists:" ++ (long ++ (long ++ (long ++ (long ++ bytes "bc.example"))))) ∷ [])
      ≡ wanting 1 (long ++ (long ++ (long ++ bytes "bc.example"))) (record { lookups = 1; voids = 0 }) None
  -- two void exists and `-all` give 3, three give 6
  pub two_voids : answer (txt (bytes "example.com") (bytes "v=spf1 exists:a.b exists:a.b -all") ∷ nothing (bytes "a.b") ∷ []) ≡ decided 3 2 2
  pub three_voids : answer (txt (bytes "example.com") (bytes "v=spf1 exists:a.b exists:a.b exists:a.b -all") ∷ nothing (bytes "a.b") ∷ []) ≡ decided 6 3 3
  -- the eleventh lookup isn't begun: ten redirects work, eleven give 6
  pub ten_redirects : answer (txt (bytes "example.com") (bytes "v=spf1 redirect=a0.b") ∷ txt (bytes "a0.b") (bytes "v=spf1 redirect=a1.b") ∷ txt (bytes "a1.b") (bytes "v=spf1 redirect=a2.b")
      ∷ txt (bytes "a2.b") (bytes "v=spf1 redirect=a3.b") ∷ txt (bytes "a3.b") (bytes "v=spf1 redirect=a4.b") ∷ txt (bytes "a4.b") (bytes "v=spf1 redirect=a5.b")
      ∷ txt (bytes "a5.b") (bytes "v=spf1 redirect=a6.b") ∷ txt (bytes "a6.b") (bytes "v=spf1 redirect=a7.b") ∷ txt (bytes "a7.b") (bytes "v=spf1 redirect=a8.b")
      ∷ txt (bytes "a8.b") (bytes "v=spf1 redirect=a9.b") ∷ txt (bytes "a9.b") (bytes "v=spf1 -all") ∷ []) ≡ decided 3 10 0
  pub eleven_redirects : answer (txt (bytes "example.com") (bytes "v=spf1 redirect=a0.b") ∷ txt (bytes "a0.b") (bytes "v=spf1 redirect=a1.b") ∷ txt (bytes "a1.b") (bytes "v=spf1 redirect=a2.b")
      ∷ txt (bytes "a2.b") (bytes "v=spf1 redirect=a3.b") ∷ txt (bytes "a3.b") (bytes "v=spf1 redirect=a4.b") ∷ txt (bytes "a4.b") (bytes "v=spf1 redirect=a5.b")
      ∷ txt (bytes "a5.b") (bytes "v=spf1 redirect=a6.b") ∷ txt (bytes "a6.b") (bytes "v=spf1 redirect=a7.b") ∷ txt (bytes "a7.b") (bytes "v=spf1 redirect=a8.b")
      ∷ txt (bytes "a8.b") (bytes "v=spf1 redirect=a9.b") ∷ txt (bytes "a9.b") (bytes "v=spf1 redirect=b0.b") ∷ txt (bytes "b0.b") (bytes "v=spf1 -all") ∷ []) ≡ decided 6 10 0
  -- the explanation of a fail, expanded
  pub explained_fail : answer (txt (bytes "example.com") (bytes "v=spf1 -all exp=e.example") ∷ txt (bytes "e.example") (bytes "%{i} at %{t}") ∷ [])
      ≡ settled (record { value = 3; counts = record { lookups = 0; voids = 0 }; text = bytes "192.0.2.129 at 7" }) None

-- the paper's cases, and its sentences
pub record Computed : Type 0 where
  pub scope : Cases
  pub rules : Rules

pub computed : Computed
unfolding zone answer answer6 result number within is_space is_not_space is_not_slash is_upper is_not_upper is_alpha is_digit is_length_byte is_alphanumeric is_hex_digit is_visible is_printable is_label_byte is_name_byte is_toplabel_byte is_macro_literal is_delimiter lower decimal_from decimal is_decimal read_decimal pushed has_no_leading_zero read_number same same_word contains all rightmost grow split is_in text-runs-of-run run_end trailing_start overwritten bits_of bits agree matches_at octets_of octets value_from value_of from_octets mapped_prefix client_octets as_client labels is_label is_name is_table_name label_count at_or_below without_dot lowered normal shorter_labels shortened digit numeral in_decimal in_hex nibbles hex_groups octet_texts nibble_texts dotted readable family reversed_name separator_before join_by is_listed reversed_if kept is_unreserved hex_digit escaped_byte escaped transformed macros-expansion-of-lastPart sender_domain front_parts local_as_written local_part receiver_name letters_of letter_value escape_text piece_text macros-expansion-of-textOf is_sender is_host is_short is_letter is_part_count fitted outcome question_name is_literal is_escape is_reverse closed_at delimiters_at reversal_at digits_at braces_of piece_of macro_of pieces_after pieces_from pieces ends_in_macro is_toplabel last_label ends_in_label ends_right is_macro_string is_p any_p scan_of uses_p hex_value hex_from groups_from octet_at dot_octet_at read_ip4 slash_number read_length read_length4 read_length6 front_end second_length read_dual first_colon is_double_colon double_colon read_h16 tail_of last_of networks-reader6-of-lastPart push row_of read_row read_side address_of filled full_of short_of read_ip6 first_of read_address octet_pairs is_qualifier is_reserved count_of said_of later_kind kind_of spec_at all_of with_spec ptr_of cut_of hosts_cut hosts_at with_hosts network_term network_cut network_by mechanism_by mechanism_of records-reader-of-modifierOf token_of token_answer term_from read_term is_redirect is_explanation check_after check_from has_version read_record include_match check_target begun_check include_of include_step length_for network_step mechanism_step term_step sign_result modifier_of signed none_is_permerror redirect_of no_match after_step try_terms terms_after terms_from terms_of read_outcome versioned selection text_reply record_lookup after_lookup check_name check evaluation shown gives_shown explained explain_reply explain_name explanation explanation_of verdict address_kind item_matches any_matches width includes_client with_valid validated names_of holds_name first_below first_or chosen gives_chosen p_reply p_value expansion gives_expansion expanded gives_name target target_or counting void_step own_reply a_step exists_step insert_host by_preference mx_items mx_step ptr_step reply_by answer_of table_in bind then answered sooner run aside seconds life_of lifetime having plain_step match_result at_target target_step counted_step on_match until_match ask_host
computed = record {
  scope = record {
    first_question = refl;
    plain_fail = refl;
    within_24 = refl;
    outside_25 = refl;
    included_fail = refl;
    redirect_none = refl;
    later_bad_term = refl;
    length_33 = refl;
    long_name = refl;
    two_voids = refl;
    three_voids = refl;
    ten_redirects = refl;
    eleven_redirects = refl;
    explained_fail = refl;
  };
  rules = record {
    lookup = record { malformed_domain = refl; single_label = refl; lookup_failed = refl; no_record = refl; several_records = refl; single_record = refl; spf_beside = refl; spf_beside_void = refl; spf_beside_failed = refl; spf_alone = refl; spf_included = refl };
    signs = record { plus = refl; unwritten = refl; minus = refl; tilde = refl; question_mark = refl; no_match_lem = refl };
    include = record { pass = refl; softfail = refl; neutral = refl; temperror = refl; permerror = refl; none = refl };
    a = record { four_matches = refl; four_differs = refl; six_matches = refl; six_differs = refl; six_asks = refl; failed = refl; exists_asks_a = refl; other_family = refl };
    mx = record { ten_items = refl; eleven_items = refl; by_preference_lem = refl; ties_in_order = refl; until_one_matches = refl; nameless_item = refl; failed_host = refl; at_its_length = refl };
    ptr = record { target_itself = refl; below_target = refl; by_whole_labels = refl; not_validated = refl; ten_names = refl; eleventh_name = refl; failed_question = refl; failed_name = refl; void_question = refl; six_validated = refl; six_not_validated = refl };
    p = record { current_domain = refl; after_current_domain = refl; first_below_lem = refl; first = refl; unknown = refl; all_are_asked = refl };
    voids = record { one_host = refl; one_host_of_six = refl; same_host_thrice = refl; third_before_match = refl; third_before_missing = refl; third_of_check = refl; after_mx = refl; failed_host = refl; failed_names = refl; two_names = refl; third_name = refl; p_not_counted = refl; p_before_ptr = refl; include_not_counted = refl };
    explanation = record { missing = refl; through_redirect = refl; through_include = refl; lookup_failed = refl; void = refl; doubled = refl; malformed_text = refl; malformed_name = refl; unprintable = refl; of_500_bytes = refl; of_501_bytes = refl };
    failing = record { without_exp = refl; not_asked = refl; through_redirect = refl; by_include = refl; p_not_asked = refl; malformed_target = refl };
    lifetimes = record {
      void_answer_lem = refl;
      failed_answer = refl;
      record_first = refl;
      missing = refl;
      empty_table = refl;
      largest = refl;
      of_zero = refl;
      kind_99 = refl;
      other_family = refl;
      behind_match = refl;
      unasked = refl;
      of_p = refl;
      explanation = refl;
    };
  };
}
