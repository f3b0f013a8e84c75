-- The texts of an address, by its octets.
use Rattle.std.specs.Prelude.{ℕ, ◌+◌, ◌*◌, ◌/◌, ◌%◌, List, [], ◌∷◌, ◌++◌, map, reverse}
use Rattle.text.specs.Lists.{join_by, join}
use Rattle.text.specs.Texts.{bytes}
use Rattle.address.specs.Octets.{octets}
use Rattle.address.specs.declared.Address.{Address}
use Rattle.address.specs.declared.Address.TheVariants.{IPv4, IPv6}
use Rattle.address_text.specs.Digits.{digit, in_decimal, in_hex}

-- the halves of octets, high-order first
unfoldable pub nibbles : List ℕ → List ℕ
nibbles [] = []
nibbles (o ∷ s) = o / 16 ∷ o % 16 ∷ nibbles s

-- the 16-bit groups of octets
unfoldable pub hex_groups : List ℕ → List ℕ
hex_groups [] = []
hex_groups (o ∷ []) = []
hex_groups (o ∷ u ∷ s) = (256 * o + u) ∷ hex_groups s

-- each octet in decimal; each half of an octet as a hex digit
unfoldable pub octet_texts : List ℕ → List (List ℕ)
octet_texts s = map in_decimal s

unfoldable pub nibble_texts : List ℕ → List (List ℕ)
nibble_texts s = map (λ n. digit n ∷ []) (nibbles s)

-- "i address (32 dotted lower-case hex digits for IPv6)"
unfoldable pub dotted : Address → List ℕ
dotted (IPv4 v) = join (octet_texts (octets (IPv4 v)))
dotted (IPv6 h l) = join (nibble_texts (octets (IPv6 h l)))

-- "c address (IPv6 as eight lower-case hex groups, no leading zeros, no `::`)"
unfoldable pub readable : Address → List ℕ
readable (IPv4 v) = join (octet_texts (octets (IPv4 v)))
readable (IPv6 h l) = join_by 58 (map in_hex (hex_groups (octets (IPv6 h l))))

-- "v `in-addr` or `ip6`"
unfoldable pub family : Address → List ℕ
family (IPv4 v) = bytes "in-addr"
family (IPv6 h l) = bytes "ip6"

-- "the reversed name in `in-addr.arpa` or `ip6.arpa`"
unfoldable pub reversed_name : Address → List ℕ
reversed_name (IPv4 v) = join (reverse (octet_texts (octets (IPv4 v)))) ++ bytes ".in-addr.arpa"
reversed_name (IPv6 h l) = join (reverse (nibble_texts (octets (IPv6 h l)))) ++ bytes ".ip6.arpa"
