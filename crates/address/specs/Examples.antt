-- Addresses that match at some lengths and not at others: 192.0.2.129 and 192.0.2.0, 2001:1db8::1 and 2001:db8::1.
use Rattle.std.specs.Prelude.{ℕ, ◌≡◌, refl, List, [], ◌∷◌, ◌++◌, true, false, get_or, replicate}
use Rattle.std.proofs.Common.{ap, arith}
use Rattle.text.specs.Lists.{same}
use Rattle.address.specs.declared.Address.{Address}
use Rattle.address.specs.declared.Address.TheVariants.{IPv4, IPv6}
use Rattle.address.specs.Octets.{octets_of, octets}
use Rattle.address.specs.Matching.{bits_of, bits, agree, matches_at, high_bits, MatchesByBytes}

abbrev pub client : Address
client = IPv4 3221226113

abbrev pub network : Address
network = IPv4 3221225984

abbrev pub client6 : Address
client6 = IPv6 2306157160301592576 1

abbrev pub network6 : Address
network6 = IPv6 2306139568115548160 1

pub record Cases : Type 0 where
  pub client_is : octets client ≡ 192 ∷ 0 ∷ 2 ∷ 129 ∷ []
  pub network_is : octets network ≡ 192 ∷ 0 ∷ 2 ∷ 0 ∷ []
  pub client6_is : octets client6 ≡ (32 ∷ 1 ∷ 29 ∷ 184 ∷ replicate 11 0) ++ (1 ∷ [])
  pub network6_is : octets network6 ≡ (32 ∷ 1 ∷ 13 ∷ 184 ∷ replicate 11 0) ++ (1 ∷ [])
  -- by bits
  pub matches_24 : matches_at client network 24 ≡ true
  pub differs_25 : matches_at client network 25 ≡ false
  -- by bytes (W-206): three whole bytes; a bit left over, 1 of 129 and 0 of 0; nothing to compare; more than the width
  pub bytes_24 : MatchesByBytes 32 (octets client) (octets network) 24
  pub bytes_25 : MatchesByBytes 32 (octets client) (octets network) 25 → ⊥
  pub bytes_0 : MatchesByBytes 32 (octets client) (octets network) 0
  pub bytes_33 : MatchesByBytes 32 (octets client) (octets client) 33 → ⊥
  -- two whole bytes and three bits, 0 of 29 and of 13; with a fourth bit, 1 and 0; all sixteen bytes, with none after them
  pub bytes_19 : MatchesByBytes 128 (octets client6) (octets network6) 19
  pub bytes_20 : MatchesByBytes 128 (octets client6) (octets network6) 20 → ⊥
  pub bytes_128 : MatchesByBytes 128 (octets client6) (octets network6) 128 → ⊥
  pub bytes_128_itself : MatchesByBytes 128 (octets client6) (octets client6) 128

pub cases : Cases
unfolding same octets_of octets bits_of bits agree matches_at high_bits
cases = record {
  client_is = refl;
  network_is = refl;
  client6_is = refl;
  network6_is = refl;
  matches_24 = refl;
  differs_25 = refl;
  bytes_24 = record { within_width = omega arith; whole_bytes = refl; bits_left_over = λ _. refl };
  bytes_25 = λ m. absurd (omega (arith, m.bits_left_over (omega arith)));
  bytes_0 = record { within_width = omega arith; whole_bytes = refl; bits_left_over = λ _. refl };
  bytes_33 = λ m. absurd (omega (arith, m.within_width));
  bytes_19 = record { within_width = omega arith; whole_bytes = refl; bits_left_over = λ _. refl };
  bytes_20 = λ m. absurd (omega (arith, m.bits_left_over (omega arith)));
  bytes_128 = λ m. absurd (omega (arith, ap (λ (l : List ℕ). get_or l 2 0) m.whole_bytes));
  bytes_128_itself = record { within_width = omega arith; whole_bytes = refl; bits_left_over = λ _. refl };
}
