-- Cases of the readings of W-211 (H1 to H10), computed: a record's terms, its length and its name's, and the list of its breaches. What is computed is the
-- list that Listing determines (`found_listing`, proofs/Laws/Findings.antt).
use Rattle.std.specs.Prelude.{ℕ, ◌≡◌, refl, List, [], ◌∷◌}
use Rattle.address.specs.declared.Address.TheVariants.{IPv4, IPv6}
use Rattle.address.specs.Octets.{octets, octets_of}
use Rattle.address.specs.Matching.{bits, bits_of, agree, matches_at}
use Rattle.text.specs.Bytes.{within, lower, is_upper, is_alpha, is_digit, is_alphanumeric, is_macro_literal, is_delimiter}
use Rattle.text.specs.Decimal.{decimal_from, decimal}
use Rattle.text.specs.Lists.{same, all, contains}
use Rattle.text.specs.Runs.{is_in, run, run_end}
use Rattle.text.specs.Texts.{bytes}
use Rattle.macros.specs.Grammar.{is_letter, is_part_count}
use Rattle.macros.specs.Reader.{is_literal, is_escape, is_reverse, closed_at, delimiters_at, reversal_at, digits_at, braces_of, piece_of, macro_of, pieces_after, pieces_from, pieces, ends_right, is_macro_string, is_p, any_p, uses_p}
use Rattle.records.specs.Readings.{absent, Placed, mechanism, hosts, network4, network6, modifier}
use Rattle.publishing.specs.Listing.{Entry, entry}
use Rattle.publishing.specs.Finding.{any, is_present, is_below, is_exactly, is_mechanism, is_named, redirects, modifies, has_p, is_plus_all, is_short, same_by, same_network, offends, entry_if, offences_from, offences, offences_of, end_offences, found, of_rule, by_rule, ordered}

-- the terms of the cases, each at its place; 43 is "+" and 45 "-". The text of a network, which no rule looks at, is left empty.
abbrev all_at : ℕ → ℕ → Placed
all_at sign place = record { place = place; said = mechanism (bytes "all") sign absent }

abbrev a_at : ℕ → ℕ → ℕ → Placed
a_at four six place = record { place = place; said = hosts (bytes "a") 43 absent four six }

abbrev modifier_at : List ℕ → List ℕ → ℕ → Placed
modifier_at name value place = record { place = place; said = modifier name value }

abbrev ip4_at : ℕ → ℕ → ℕ → ℕ → Placed
ip4_at sign v n place = record { place = place; said = network4 (bytes "ip4") sign [] (IPv4 v) n }

abbrev ip6_at : ℕ → ℕ → ℕ → Placed
ip6_at low n place = record { place = place; said = network6 (bytes "ip6") 43 [] (IPv6 0 low) n }

-- the list for the name `example.com`, of 11 bytes
abbrev breaches : List Placed → ℕ → List Entry
breaches ts size = ordered (found ts size 11)

-- 10.0.0.1 and 10.0.0.2
abbrev one : ℕ
one = 167772161

abbrev two : ℕ
two = 167772162

pub record Cases : Type 0 where
  -- H1: `v=spf1 x=%{p} -all`: 2 at 7
  pub p_unknown : breaches (modifier_at (bytes "x") (bytes "%{p}") 7 ∷ all_at 45 14 ∷ []) 18 ≡ entry 2 7 ∷ []
  -- H1: `v=spf1 x=%%{p} -all`: none
  pub p_escaped : breaches (modifier_at (bytes "x") (bytes "%%{p}") 7 ∷ all_at 45 15 ∷ []) 19 ≡ []
  -- H2: `v=spf1 -all ~all`: 3 at 12, 5 at 12
  pub second_all : breaches (all_at 45 7 ∷ all_at 126 12 ∷ []) 16 ≡ entry 3 12 ∷ entry 5 12 ∷ []
  -- H3: `v=spf1`: 3 at 6
  pub no_end : breaches [] 6 ≡ entry 3 6 ∷ []
  -- H3: `v=spf1 exp=a.b  `: 3 at 16
  pub exp_alone : breaches (modifier_at (bytes "exp") (bytes "a.b") 7 ∷ []) 16 ≡ entry 3 16 ∷ []
  -- H4: `v=spf1 -all redirect=a.b`: 4 at 12
  pub redirect_after : breaches (all_at 45 7 ∷ modifier_at (bytes "redirect") (bytes "a.b") 12 ∷ []) 24 ≡ entry 4 12 ∷ []
  -- H4: `v=spf1 redirect=a.b -all`: 4 at 7, and 6 at 20
  pub redirect_before : breaches (modifier_at (bytes "redirect") (bytes "a.b") 7 ∷ all_at 45 20 ∷ []) 24 ≡ entry 4 7 ∷ entry 6 20 ∷ []
  -- H5: `v=spf1 -all a x=y mx`: 5 at 12, 5 at 18
  pub every_term : breaches
      (all_at 45 7 ∷ a_at 32 128 12 ∷ modifier_at (bytes "x") (bytes "y") 14 ∷ record { place = 18; said = hosts (bytes "mx") 43 absent 32 128 } ∷ []) 20
      ≡ entry 5 12 ∷ entry 5 18 ∷ []
  -- H6: `v=spf1 -all exp=a.b x=y`: 6 at 20
  pub unknown_after : breaches (all_at 45 7 ∷ modifier_at (bytes "exp") (bytes "a.b") 12 ∷ modifier_at (bytes "x") (bytes "y") 20 ∷ []) 23 ≡ entry 6 20 ∷ []
  -- H7: `v=spf1 ALL`: 7 at 7
  pub implied_plus : breaches (all_at 43 7 ∷ []) 10 ≡ entry 7 7 ∷ []
  -- H8: `v=spf1 a/7//18 -all`: 8 at 7, once; `v=spf1 a/8//19 -all`: none
  pub both_short : breaches (a_at 7 18 7 ∷ all_at 45 15 ∷ []) 19 ≡ entry 8 7 ∷ []
  pub just_long : breaches (a_at 8 19 7 ∷ all_at 45 15 ∷ []) 19 ≡ []
  -- H9: `v=spf1 ip4:10.0.0.1/24 -ip4:10.0.0.2/24 -all`: 9 at 23
  pub equal_network : breaches (ip4_at 43 one 24 7 ∷ ip4_at 45 two 24 23 ∷ all_at 45 40 ∷ []) 44 ≡ entry 9 23 ∷ []
  -- H9: /24 and /25 of one network: not equal
  pub other_length : breaches (ip4_at 43 one 24 7 ∷ ip4_at 45 one 25 23 ∷ all_at 45 40 ∷ []) 44 ≡ []
  -- H9: `ip4:10.0.0.1 ip6:::ffff:10.0.0.1`: not equal
  pub mapped : breaches (ip4_at 43 one 32 7 ∷ ip6_at 281470849515521 128 20 ∷ all_at 45 40 ∷ []) 44 ≡ []
  -- H10: 449 bytes together are fine, 450 a breach
  pub fits : breaches (all_at 45 7 ∷ []) 438 ≡ []
  pub too_long : breaches (all_at 45 7 ∷ []) 439 ≡ entry 10 439 ∷ []

pub cases : Cases
unfolding within lower is_upper is_alpha is_digit is_alphanumeric is_macro_literal is_delimiter decimal_from decimal same contains all is_in run run_end octets_of octets bits_of bits agree matches_at is_letter is_part_count is_literal is_escape is_reverse closed_at delimiters_at reversal_at digits_at braces_of piece_of macro_of pieces_after pieces_from pieces ends_right is_macro_string is_p any_p uses_p any is_present is_below is_exactly is_mechanism is_named redirects modifies has_p is_plus_all is_short same_by same_network offends entry_if offences_from offences offences_of end_offences found of_rule by_rule ordered
cases = record {
  p_unknown = refl;
  p_escaped = refl;
  second_all = refl;
  no_end = refl;
  exp_alone = refl;
  redirect_after = refl;
  redirect_before = refl;
  every_term = refl;
  unknown_after = refl;
  implied_plus = refl;
  both_short = refl;
  just_long = refl;
  equal_network = refl;
  other_length = refl;
  mapped = refl;
  fits = refl;
  too_long = refl;
}
