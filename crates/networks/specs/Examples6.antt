-- Texts of IPv6 networks that are read, and texts that aren't.
use Rattle.std.specs.Prelude.{◌≡◌, refl, None, Some}
use Rattle.text.specs.Bytes.{within, is_upper, is_digit, is_hex_digit, lower}
use Rattle.text.specs.Decimal.{decimal_from, decimal, is_decimal, read_decimal, has_no_leading_zero, read_number}
use Rattle.text.specs.Lists.{all, split, grow}
use Rattle.text.specs.Runs.{is_in, run, run_end}
use Rattle.text.specs.Texts.{bytes}
use Rattle.address.specs.Octets.{value_from, value_of}
use Rattle.address.specs.declared.Address.TheVariants.{IPv4, IPv6}
use Rattle.networks.specs.Grammar.{hex_value, hex_from, groups_from, address_of, filled}
use Rattle.networks.specs.Reader.{octet_at, dot_octet_at, read_ip4}
use Rattle.networks.specs.Reader6.{first_colon, is_double_colon, double_colon, read_h16, tail_of, last_of, last_part, push, row_of, read_row, read_side, full_of, short_of, read_ip6, first_of, read_address}

pub record Cases : Type 0 where
  -- 2001:0db8:: is 0x20010db8 and 96 zeros
  pub trailing : read_ip6 (bytes "2001:db8::") ≡ Some (IPv6 2306139568115548160 0)
  -- ffff:c000:0281 in the low half
  pub mapped : read_ip6 (bytes "::ffff:192.0.2.129") ≡ Some (IPv6 0 281473902969473)
  pub whole : read_ip6 (bytes "1:2:3:4:5:6:7:8") ≡ Some (IPv6 281483566841860 1407400653815816)
  pub upper_case : read_ip6 (bytes "2001:DB8::") ≡ read_ip6 (bytes "2001:0db8:0::")
  pub zeros : read_ip6 (bytes "::") ≡ Some (IPv6 0 0)
  -- "::" for one group
  pub one_group : read_ip6 (bytes "1:2:3:4:5:6:7::") ≡ read_ip6 (bytes "1:2:3:4:5:6:7:0")
  -- and for none
  pub no_group : read_ip6 (bytes "1:2:3:4:5:6:7:8::") ≡ None
  pub no_group_within : read_ip6 (bytes "1:2:3:4:5:6:7::8") ≡ None
  pub tail_full : read_ip6 (bytes "1:2:3:4:5:6::1.2.3.4") ≡ None
  pub twice : read_ip6 (bytes "1::2::3") ≡ None
  pub three_colons : read_ip6 (bytes ":::") ≡ None
  pub five_digits : read_ip6 (bytes "12345::") ≡ None
  pub tail_before : read_ip6 (bytes "1.2.3.4::") ≡ None
  pub ip4_only : read_ip6 (bytes "1.2.3.4") ≡ None
  pub empty : read_ip6 (bytes "") ≡ None
  pub either_four : read_address (bytes "192.0.2.129") ≡ Some (IPv4 3221226113)
  pub either_six : read_address (bytes "2001:db8::") ≡ Some (IPv6 2306139568115548160 0)

pub cases : Cases
unfolding within is_upper is_digit is_hex_digit lower decimal_from decimal is_decimal read_decimal has_no_leading_zero read_number all split grow is_in run run_end value_from value_of hex_value hex_from groups_from octet_at dot_octet_at read_ip4 first_colon is_double_colon double_colon read_h16 tail_of last_of last_part push row_of read_row read_side address_of filled full_of short_of read_ip6 first_of read_address
cases = record {
  trailing = refl;
  mapped = refl;
  whole = refl;
  upper_case = refl;
  zeros = refl;
  one_group = refl;
  no_group = refl;
  no_group_within = refl;
  tail_full = refl;
  twice = refl;
  three_colons = refl;
  five_digits = refl;
  tail_before = refl;
  ip4_only = refl;
  empty = refl;
  either_four = refl;
  either_six = refl;
}
