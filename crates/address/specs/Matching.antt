-- When two addresses match at a prefix length.
use Rattle.std.specs.Prelude.{ℕ, ◌-◌, ◌*◌, ◌/◌, ◌%◌, ◌^◌, ◌≤◌, ◌<◌, ◌≡◌, List, [], ◌∷◌, ◌++◌, map, Bool, false, ◌&&◌, ◌↔◌, length, get_or, take, leb}
use Rattle.text.specs.Lists.{same}
use Rattle.address.specs.declared.Address.{Address}
use Rattle.address.specs.declared.Address.TheVariants.{IPv4, IPv6}
use Rattle.address.specs.Octets.{octets}

-- the bits of an octet, high-order first
unfoldable pub bits_of : ℕ → List ℕ
bits_of o = map (λ (weight : ℕ). o / weight % 2) (128 ∷ 64 ∷ 32 ∷ 16 ∷ 8 ∷ 4 ∷ 2 ∷ 1 ∷ [])

-- the bits of octets
unfoldable pub bits : List ℕ → List ℕ
bits [] = []
bits (o ∷ s) = bits_of o ++ bits s

-- whether the stated number of high-order bits agree; a length over the width agrees with nothing
unfoldable pub agree : List ℕ → List ℕ → ℕ → Bool
agree a b n = leb n (length (bits a)) && (leb n (length (bits b)) && same (take n (bits a)) (take n (bits b)))

-- "Addresses match if the stated number of high-order bits agree; families never match each other, and a length over the width matches
-- nothing."
unfoldable pub matches_at : Address → Address → ℕ → Bool
matches_at (IPv4 v) (IPv4 w) n = agree (octets (IPv4 v)) (octets (IPv4 w)) n
matches_at (IPv6 h l) (IPv6 i m) n = agree (octets (IPv6 h l)) (octets (IPv6 i m)) n
matches_at (IPv4 v) (IPv6 i m) n = false
matches_at (IPv6 h l) (IPv4 w) n = false

-- the same without a test: one family, a length of at most the width, and that many high-order bits the same
pub record Matches (a b : Address) (n : ℕ) : Type 0 where
  pub family : length (octets a) ≡ length (octets b)
  pub within_width : n ≤ length (bits (octets a))
  pub agrees : take n (bits (octets a)) ≡ take n (bits (octets b))

-- The prefix rule as taught, byte by byte. W-206 puts it beside the rule above: "addresses of one family match exactly when the length is
-- at most the width, its whole bytes are equal, and so are any bits left over in the next byte."

-- the number that the `count` high-order bits of an octet write
unfoldable pub high_bits : ℕ → ℕ → ℕ
high_bits count octet = octet / 2 ^ (8 - count)

-- x and y are the octets of two addresses that have the same width in bits; n is the length
pub record MatchesByBytes (width : ℕ) (x y : List ℕ) (n : ℕ) : Type 0 where
  -- "the length is at most the width"
  pub within_width : n ≤ width
  -- "its whole bytes are equal": there are n / 8 of them
  pub whole_bytes : take (n / 8) x ≡ take (n / 8) y
  -- "and so are any bits left over in the next byte": there are n % 8 of them, the high-order bits of the byte after the whole ones
  pub bits_left_over : 0 < n % 8 → high_bits (n % 8) (get_or x (n / 8) 0) ≡ high_bits (n % 8) (get_or y (n / 8) 0)

-- that the two rules say the same: for each family, and for any two addresses of one width
pub record PrefixRule : Type 0 where
  pub any_width : (width : ℕ) (a b : Address) → 8 * length (octets a) ≡ width → 8 * length (octets b) ≡ width
      → (n : ℕ) → Matches a b n ↔ MatchesByBytes width (octets a) (octets b) n
  pub ipv4 : (v w n : ℕ) → Matches (IPv4 v) (IPv4 w) n ↔ MatchesByBytes 32 (octets (IPv4 v)) (octets (IPv4 w)) n
  pub ipv6 : (h l i m n : ℕ) → Matches (IPv6 h l) (IPv6 i m) n ↔ MatchesByBytes 128 (octets (IPv6 h l)) (octets (IPv6 i m)) n
