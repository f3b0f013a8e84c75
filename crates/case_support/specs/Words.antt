-- What the words of a case write: bytes in hex, numbers in decimal, addresses by their octets.
use Rattle.std.specs.Prelude.{ℕ, ◌+◌, ◌-◌, ◌*◌, List, [], ◌∷◌, cond, take, None, Option, Some}
use Rattle.text.specs.Bytes.{within, is_digit}
use Rattle.text.specs.Decimal.{read_decimal}
use Rattle.address.specs.Octets.{from_octets}
use Rattle.address.specs.declared.Address.{Address}
use Rattle.address.specs.declared.Address.TheVariants.{IPv4}

-- the value of a digit 0 to 9 or a to f; any other byte counts as 0
unfoldable pub hex_value : ℕ → ℕ
hex_value b = cond (is_digit b) (b - 48) (cond (within 97 102 b) (b - 87) 0)

-- the byte that two digits write, the high one first
unfoldable pub hex_byte : ℕ → ℕ → ℕ
hex_byte high low = 16 * hex_value high + hex_value low

-- the bytes that a word writes, two digits each; a digit that is left over writes none, so that `-` writes none
unfoldable pub hex_bytes : List ℕ → List ℕ
hex_bytes [] = []
hex_bytes (high ∷ []) = []
hex_bytes (high ∷ low ∷ s) = hex_byte high low ∷ hex_bytes s

-- a number that was read, 0 where there is none
abbrev pub or_zero : Option ℕ → ℕ
or_zero (Some v) = v
or_zero None = 0

-- the number below 2 ^ 64 that a word writes in decimal, or 0
unfoldable pub number_of : List ℕ → ℕ
number_of word = or_zero (read_decimal 18446744073709551615 word)

-- an address that was read, 0.0.0.0 where there is none
abbrev pub or_unspecified : Option Address → Address
or_unspecified (Some a) = a
or_unspecified None = IPv4 0

-- the address whose octets a word writes in hex, of which no more than 16 are read, or 0.0.0.0
unfoldable pub address_of : List ℕ → Address
address_of word = or_unspecified (from_octets (take 16 (hex_bytes word)))
