-- Values through the transformers, as RFC 7208, section 7.4, shows them, and further ones.
use Rattle.std.specs.Prelude.{◌≡◌, refl, true, false}
use Rattle.text.specs.Bytes.{within, is_upper, is_alpha, is_digit, is_alphanumeric}
use Rattle.text.specs.Decimal.{decimal_from, decimal}
use Rattle.text.specs.Lists.{contains, grow, split, separator_before, join_by, rightmost}
use Rattle.text.specs.Texts.{bytes}
use Rattle.transformers.specs.Transform.{is_listed, reversed_if, kept, is_unreserved, hex_digit, escaped_byte, escaped, transformed}

pub record Cases : Type 0 where
  pub reversed_at_dash : transformed (bytes "") true (bytes "-") false (bytes "strong-bad") ≡ bytes "bad.strong"
  pub one_kept : transformed (bytes "1") true (bytes "-") false (bytes "strong-bad") ≡ bytes "strong"
  pub two_kept : transformed (bytes "2") true (bytes "") false (bytes "email.example.com") ≡ bytes "example.email"
  pub all_kept : transformed (bytes "99999999999999999999") false (bytes "") false (bytes "email.example.com") ≡ bytes "email.example.com"
  pub none_kept : transformed (bytes "0") false (bytes "") false (bytes "email.example.com") ≡ bytes ""
  pub escapes : transformed (bytes "") false (bytes "") true (bytes "a/b c~") ≡ bytes "a%2Fb%20c~"

pub cases : Cases
unfolding within is_upper is_alpha is_digit is_alphanumeric decimal_from decimal grow split separator_before join_by rightmost contains is_listed reversed_if kept is_unreserved hex_digit escaped_byte escaped transformed
cases = record { reversed_at_dash = refl; one_kept = refl; two_kept = refl; all_kept = refl; none_kept = refl; escapes = refl }
