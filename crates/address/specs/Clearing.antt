-- An address with the bits below a prefix length cleared.
use Rattle.std.specs.Prelude.{ℕ, ◌-◌, ◌*◌, ◌/◌, ◌^◌, ◌≤◌, ◌≡◌, ◌↔◌, length}
use Rattle.address.specs.declared.Address.{Address}
use Rattle.address.specs.declared.Address.TheVariants.{IPv4, IPv6}
use Rattle.address.specs.Octets.{InRange, octets}
use Rattle.address.specs.Matching.{bits, Matches}

-- a number with its n low-order bits cleared
unfoldable pub cleared_low : ℕ → ℕ → ℕ
cleared_low n v = v / 2 ^ n * 2 ^ n

-- "clearing the bits below it": below a prefix length; an IPv6 address has 64 bits in each of its halves
unfoldable pub cleared : Address → ℕ → Address
cleared (IPv4 v) n = IPv4 (cleared_low (32 - n) v)
cleared (IPv6 high low) n = IPv6 (cleared_low (64 - n) high) (cleared_low (64 - (n - 64)) low)

-- that addresses match at a length within the width exactly if they are equal after clearing the bits below it
pub record ClearingRule : Type 0 where
  pub rule : (a b : Address) (n : ℕ) → InRange a → InRange b → n ≤ length (bits (octets a)) → Matches a b n ↔ (cleared a n ≡ cleared b n)
