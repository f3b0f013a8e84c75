-- Networks and prefix lengths as productions: RFC 7208's collected ABNF (its section 12) and RFC 4291 section 2.2, with the house amendments. Each relates
-- bytes to what they write. Nothing of a reader is imported.
use Rattle.std.specs.Prelude.{ℕ, ◌+◌, ◌-◌, ◌*◌, ◌≤◌, ◌≡◌, List, [], ◌∷◌, ◌++◌, Bool, true, false, cond, length, take, drop, replicate}
use Rattle.text.specs.Bytes.{within, is_digit, is_hex_digit, lower}
use Rattle.text.specs.Lists.{all}
use Rattle.text.specs.Decimal.{decimal}
use Rattle.text.specs.Texts.{bytes}
use Rattle.address.specs.Octets.{value_of}
use Rattle.address.specs.declared.Address.{Address}
use Rattle.address.specs.declared.Address.TheVariants.{IPv4, IPv6}

-- qnum = DIGIT / %x31-39 DIGIT / "1" 2DIGIT / "2" %x30-34 DIGIT / "25" %x30-35, with the number it writes
pub data Qnum : List ℕ → ℕ → Type 0 where
  units : {a : ℕ} → is_digit a ≡ true → Qnum (a ∷ []) (decimal (a ∷ []))
  tens : {a b : ℕ} → within 49 57 a ≡ true → is_digit b ≡ true → Qnum (a ∷ b ∷ []) (decimal (a ∷ b ∷ []))
  hundred : {b c : ℕ} → is_digit b ≡ true → is_digit c ≡ true → Qnum (bytes "1" ++ (b ∷ c ∷ [])) (decimal (bytes "1" ++ (b ∷ c ∷ [])))
  two_hundred : {b c : ℕ} → within 48 52 b ≡ true → is_digit c ≡ true → Qnum (bytes "2" ++ (b ∷ c ∷ [])) (decimal (bytes "2" ++ (b ∷ c ∷ [])))
  two_fifty : {c : ℕ} → within 48 53 c ≡ true → Qnum (bytes "25" ++ (c ∷ [])) (decimal (bytes "25" ++ (c ∷ [])))

-- ip4-network = qnum "." qnum "." qnum "." qnum, with its octets
pub data Ip4Network : List ℕ → List ℕ → Type 0 where
  octets : {p q r s : List ℕ} {a b c d : ℕ} → Qnum p a → Qnum q b → Qnum r c → Qnum s d
      → Ip4Network (p ++ (bytes "." ++ (q ++ (bytes "." ++ (r ++ (bytes "." ++ s)))))) (a ∷ b ∷ c ∷ d ∷ [])

-- the value of a hex digit, and the number of hex digits that stand after those of the number v
unfoldable pub hex_value : ℕ → ℕ
hex_value b = cond (is_digit b) (b - 48) (lower b - 87)

unfoldable pub hex_from : ℕ → List ℕ → ℕ
hex_from v [] = v
hex_from v (b ∷ s) = hex_from (16 * v + hex_value b) s

-- a group of an IPv6 address: 1 to 4 hex digits, in either case, leading zeros allowed
pub data Group : List ℕ → ℕ → Type 0 where
  digits : {w : List ℕ} → within 1 4 (length w) ≡ true → all is_hex_digit w ≡ true → Group w (hex_from 0 w)

-- groups joined by ":", of which the last may be an IPv4 tail where a tail may stand: "an IPv4 tail, written as for ip4, counts as two groups"
pub data Row : Bool → List ℕ → List ℕ → Type 0 where
  one : {tails : Bool} {w : List ℕ} {g : ℕ} → Group w g → Row tails w (g ∷ [])
  tail : {w : List ℕ} {a b c d : ℕ} → Ip4Network w (a ∷ b ∷ c ∷ d ∷ []) → Row true w ((256 * a + b) ∷ (256 * c + d) ∷ [])
  more : {tails : Bool} {w rest : List ℕ} {g : ℕ} {gs : List ℕ} → Group w g → Row tails rest gs → Row tails (w ++ (bytes ":" ++ rest)) (g ∷ gs)

-- what stands at a side of "::", which may be nothing
pub data Side (tails : Bool) : List ℕ → List ℕ → Type 0 where
  nothing : Side tails [] []
  row : {w gs : List ℕ} → Row tails w gs → Side tails w gs

-- groups with zeros between them, eight in all
unfoldable pub filled : List ℕ → List ℕ → List ℕ
filled ls rs = ls ++ (replicate (8 - (length ls + length rs)) 0 ++ rs)

-- ip6-network (RFC 4291 section 2.2), with its eight groups: "`::` at most once and for at least one group". A tail is the end of the text.
pub data Ip6Network : List ℕ → List ℕ → Type 0 where
  full : {w gs : List ℕ} → Row true w gs → length gs ≡ 8 → Ip6Network w gs
  short : {u w ls rs : List ℕ} → Side false u ls → Side true w rs → length ls + length rs ≤ 7
      → Ip6Network (u ++ (bytes "::" ++ w)) (filled ls rs)

-- the number that 16-bit groups write
unfoldable pub groups_from : ℕ → List ℕ → ℕ
groups_from v [] = v
groups_from v (g ∷ gs) = groups_from (65536 * v + g) gs

-- the address of eight groups
unfoldable pub address_of : List ℕ → Address
address_of gs = IPv6 (groups_from 0 (take 4 gs)) (groups_from 0 (drop 4 gs))

-- a network's text with the address that it writes
pub data Network4 : List ℕ → Address → Type 0 where
  of_octets : {w os : List ℕ} → Ip4Network w os → Network4 w (IPv4 (value_of os))

pub data Network6 : List ℕ → Address → Type 0 where
  of_groups : {w gs : List ℕ} → Ip6Network w gs → Network6 w (address_of gs)

-- the number of a prefix length: "0" / %x31-39 *DIGIT, up to a limit: "IPv4 lengths 0 to 32 and IPv6 lengths 0 to 128, no leading zero"
pub data LengthNumber (limit : ℕ) : List ℕ → ℕ → Type 0 where
  nought : LengthNumber limit (bytes "0") 0
  number : {a : ℕ} {w : List ℕ} → within 49 57 a ≡ true → all is_digit w ≡ true → decimal (a ∷ w) ≤ limit → LengthNumber limit (a ∷ w) (decimal (a ∷ w))

-- a slash and the number
pub data CidrLength (limit : ℕ) : List ℕ → ℕ → Type 0 where
  slash : {w : List ℕ} {n : ℕ} → LengthNumber limit w n → CidrLength limit (bytes "/" ++ w) n

-- ip6-cidr-length = "/" ("0" / %x31-39 0*2DIGIT) ; value range 0-128
abbrev pub Ip6CidrLength : List ℕ → ℕ → Type 0
Ip6CidrLength w n = CidrLength 128 w n

-- a length that may be absent: "Absent means 32 and 128."
pub data OptionalLength (limit : ℕ) : List ℕ → ℕ → Type 0 where
  absent : OptionalLength limit [] limit
  present : {w : List ℕ} {n : ℕ} → CidrLength limit w n → OptionalLength limit w n

-- [ ip4-cidr-length ], where ip4-cidr-length = "/" ("0" / %x31-39 0*1DIGIT) ; value range 0-32
abbrev pub Length4 : List ℕ → ℕ → Type 0
Length4 w n = OptionalLength 32 w n

-- [ ip6-cidr-length ]
abbrev pub Length6 : List ℕ → ℕ → Type 0
Length6 w n = OptionalLength 128 w n

-- dual-cidr-length = [ ip4-cidr-length ] [ "/" ip6-cidr-length ]: "`a` and `mx` take `/n`, `//m` or `/n//m`"
pub data DualCidrLength : List ℕ → ℕ → ℕ → Type 0 where
  four_only : {w : List ℕ} {n : ℕ} → Length4 w n → DualCidrLength w n 128
  both : {w v : List ℕ} {n m : ℕ} → Length4 w n → Ip6CidrLength v m → DualCidrLength (w ++ (bytes "/" ++ v)) n m
