-- An address as its octets, high-order first.
use Rattle.std.specs.Prelude.{ℕ, zero, suc, ◌+◌, ◌*◌, ◌/◌, ◌%◌, ◌^◌, ◌<◌, List, [], ◌∷◌, ◌++◌, cond, ◌&&◌, length, take, drop, replicate, eqb, None, Option, Some}
use Rattle.text.specs.Lists.{same}
use Rattle.address.specs.declared.Address.{Address}
use Rattle.address.specs.declared.Address.TheVariants.{IPv4, IPv6}

-- the numbers of an address as its types hold them
abbrev pub InRange : Address → Type 0
InRange (IPv4 v) = v < 2 ^ 32
InRange (IPv6 high low) = (high < 2 ^ 64) × (low < 2 ^ 64)

-- the n low-order octets of a number, high-order first
unfoldable pub octets_of : ℕ → ℕ → List ℕ
octets_of zero v = []
octets_of (suc n) v = octets_of n (v / 256) ++ (v % 256 ∷ [])

-- an IPv4 address is 4 octets; an IPv6 address is 16, 8 in each of its halves
unfoldable pub octets : Address → List ℕ
octets (IPv4 v) = octets_of 4 v
octets (IPv6 high low) = octets_of 8 high ++ octets_of 8 low

-- the number whose octets follow those of the number v
unfoldable pub value_from : ℕ → List ℕ → ℕ
value_from v [] = v
value_from v (o ∷ s) = value_from (256 * v + o) s

-- the number that octets write
unfoldable pub value_of : List ℕ → ℕ
value_of s = value_from 0 s

-- the address of 4 or 16 octets
unfoldable pub from_octets : List ℕ → Option Address
from_octets s =
    cond (eqb (length s) 4) (Some (IPv4 (value_of s)))
    (cond (eqb (length s) 16) (Some (IPv6 (value_of (take 8 s)) (value_of (drop 8 s))))
    None)

-- IPv4-mapped (RFC 4291 section 2.5.5.2): ten octets 0, two octets 255, and the four of the IPv4 address
unfoldable pub mapped_prefix : List ℕ
mapped_prefix = replicate 10 0 ++ (255 ∷ 255 ∷ [])

-- "IPv4-mapped clients count as IPv4": the octets of a client
unfoldable pub client_octets : List ℕ → List ℕ
client_octets s = cond (eqb (length s) 16 && same (take 12 s) mapped_prefix) (drop 12 s) s

-- the same of the address: ten octets 0 and two octets 255 are a high half of 0 and 65,535 in the upper 32 bits of the low half
unfoldable pub as_client : Address → Address
as_client (IPv4 v) = IPv4 v
as_client (IPv6 high low) = cond (eqb high 0 && eqb (low / 4294967296) 65535) (IPv4 (low % 4294967296)) (IPv6 high low)
