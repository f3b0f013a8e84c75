-- IPv6 networks, and addresses of either family, as the code reads them. The laws say that this is what the productions write.
use Rattle.std.specs.Prelude.{ℕ, suc, ◌+◌, ◌/◌, ◌%◌, ◌≡◌, List, [], ◌∷◌, Bool, true, false, cond, ◌&&◌, length, take, drop, leb, ltb, eqb, None, Option, Some}
use Rattle.text.specs.Bytes.{at, is_colon, is_not_colon}
use Rattle.text.specs.Lists.{all, split}
use Rattle.text.specs.Runs.{is_in, run}
use Rattle.text.specs.Writing.{Wrote}
use Rattle.text.specs.declared.writing.Writer.{Writer}
use Rattle.text.specs.declared.bytes.Class.TheVariants.{HexDigit}
use Rattle.address.specs.declared.Address.TheVariants.{IPv4, IPv6}
use Rattle.networks.specs.Grammar.{hex_from, filled, address_of}
use Rattle.networks.specs.Reader.{read_ip4}
use Rattle.address.specs.declared.Address.{Address}

-- the place of the first colon, and the length where there is none
unfoldable pub first_colon : List ℕ → ℕ
first_colon s = run is_not_colon s

-- whether "::" stands at a place
unfoldable pub is_double_colon : List ℕ → ℕ → Bool
is_double_colon s i = is_colon (at s i) && is_colon (at s (i + 1))

-- the place of the first "::", and the length where there is none
unfoldable pub double_colon : List ℕ → ℕ
double_colon [] = 0
double_colon (b ∷ s) = cond (is_double_colon (b ∷ s) 0) 0 (suc (double_colon s))

-- a group: 1 to 4 hex digits
unfoldable pub read_h16 : List ℕ → Option ℕ
read_h16 w =
    cond (eqb (length w) 0) None
    (cond (ltb 4 (length w)) None
    (cond (all (is_in HexDigit) w) (Some (hex_from 0 w)) None))

-- the groups of a text, or that it is no row
pub data Reading : Type 0 where
  groups : List ℕ → Reading
  refused : Reading

-- an IPv4 tail is two groups
unfoldable pub tail_of : Option Address → Reading
tail_of (Some (IPv4 v)) = groups ((v / 65536) ∷ (v % 65536) ∷ [])
tail_of (Some (IPv6 high low)) = refused
tail_of None = refused

-- the last part of a row: a group, or a tail where one may stand
unfoldable pub last_of : Bool → List ℕ → Option ℕ → Reading
last_of tail w (Some g) = groups (g ∷ [])
last_of tail w None = cond tail (tail_of (read_ip4 w)) refused

unfoldable pub last_part : Bool → List ℕ → Reading
last_part tail w = last_of tail w (read_h16 w)

-- a group before the rest of a row
unfoldable pub push : Option ℕ → Reading → Reading
push (Some g) (groups gs) = groups (g ∷ gs)
push (Some g) refused = refused
push None r = refused

-- the parts between the colons
unfoldable pub row_of : Bool → List (List ℕ) → Reading
row_of tail [] = refused
row_of tail (w ∷ []) = last_part tail w
row_of tail (w ∷ x ∷ ws) = push (read_h16 w) (row_of tail (x ∷ ws))

-- groups joined by ":", of which the last may be a tail where one may stand
unfoldable pub read_row : Bool → List ℕ → Reading
read_row tail s = row_of tail (split is_colon s)

-- what stands at a side of "::", which may be nothing
unfoldable pub read_side : Bool → List ℕ → Reading
read_side tail s = cond (eqb (length s) 0) (groups []) (read_row tail s)

unfoldable pub full_of : Reading → Option Address
full_of (groups gs) = cond (eqb (length gs) 8) (Some (address_of gs)) None
full_of refused = None

unfoldable pub short_of : Reading → Reading → Option Address
short_of (groups ls) (groups rs) = cond (leb (length ls + length rs) 7) (Some (address_of (filled ls rs))) None
short_of (groups ls) refused = None
short_of refused r = None

-- the whole text as an ip6-network
unfoldable pub read_ip6 : List ℕ → Option Address
read_ip6 s =
    cond (ltb (double_colon s) (length s))
    (short_of (read_side false (take (double_colon s) s)) (read_side true (drop (double_colon s + 2) s)))
    (full_of (read_row true s))

-- an address written as for ip4 or ip6
unfoldable pub first_of : Option Address → Option Address → Option Address
first_of (Some a) y = Some a
first_of None y = y

unfoldable pub read_address : List ℕ → Option Address
read_address s = first_of (read_ip4 s) (read_ip6 s)

-- each group as two octets, high-order first
unfoldable pub octet_pairs : List ℕ → List ℕ
octet_pairs [] = []
octet_pairs (g ∷ gs) = (g / 256) ∷ (g % 256) ∷ octet_pairs gs

-- what a function that writes a row's octets answers: whether the text is a row
pub data RowWritten (x : Reading) (before after : Writer) : Bool → Type 0 where
  written : {gs : List ℕ} → x ≡ groups gs → Wrote (octet_pairs gs) before.out.now before.at after.out.now after.at → RowWritten x before after true
  none : x ≡ refused → RowWritten x before after false
