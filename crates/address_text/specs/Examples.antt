-- The texts of 192.0.2.3 and of 2001:db8::cb01 (RFC 7208 section 7.4).
use Rattle.std.specs.Prelude.{◌≡◌, refl}
use Rattle.text.specs.Lists.{separator_before, join_by}
use Rattle.text.specs.Texts.{bytes}
use Rattle.address.specs.Octets.{octets_of, octets}
use Rattle.address.specs.declared.Address.{Address}
use Rattle.address.specs.declared.Address.TheVariants.{IPv4, IPv6}
use Rattle.address_text.specs.Digits.{digit, numeral, in_decimal, in_hex}
use Rattle.address_text.specs.Forms.{nibbles, hex_groups, octet_texts, nibble_texts, dotted, readable, family, reversed_name}

abbrev pub four : Address
four = IPv4 3221225987

abbrev pub six : Address
six = IPv6 2306139568115548160 51969

pub record Cases : Type 0 where
  pub dotted_four : dotted four ≡ bytes "192.0.2.3"
  pub dotted_six : dotted six ≡ bytes "2.0.0.1.0.d.b.8.0.0.0.0.0.0.0.0.0.0.0.0.0.0.0.0.0.0.0.0.c.b.0.1"
  pub readable_four : readable four ≡ bytes "192.0.2.3"
  pub readable_six : readable six ≡ bytes "2001:db8:0:0:0:0:0:cb01"
  pub family_four : family four ≡ bytes "in-addr"
  pub family_six : family six ≡ bytes "ip6"
  pub reversed_four : reversed_name four ≡ bytes "3.2.0.192.in-addr.arpa"
  pub reversed_six : reversed_name six ≡ bytes "1.0.b.c.0.0.0.0.0.0.0.0.0.0.0.0.0.0.0.0.0.0.0.0.8.b.d.0.1.0.0.2.ip6.arpa"
  pub largest : in_decimal 18446744073709551615 ≡ bytes "18446744073709551615"
  pub smallest : in_decimal 0 ≡ bytes "0"

pub cases : Cases
unfolding separator_before join_by octets_of octets digit numeral in_decimal in_hex nibbles hex_groups octet_texts nibble_texts dotted readable family reversed_name
cases =
    record {
      dotted_four = refl;
      dotted_six = refl;
      readable_four = refl;
      readable_six = refl;
      family_four = refl;
      family_six = refl;
      reversed_four = refl;
      reversed_six = refl;
      largest = refl;
      smallest = refl;
    }
