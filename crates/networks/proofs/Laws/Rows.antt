-- Rows of groups: the reader against the productions, sound and complete, whether or not a tail may stand. From the laws of Ip4, Plain, of hex
-- numbers, of colons and of splitting.
use Rattle.std.proofs.Common.{None, Option, Some}
use Prim.Native.Nat.{ℕ, ◌+◌, ◌*◌, ◌/◌, ◌%◌, ◌≤◌, ◌<◌}
use mathlib.Core.Path.{◌≡◌, refl, ap, subst}
use mathlib.Core.List.{List, [], ◌∷◌, ◌++◌, append_assoc, append-nil}
use mathlib.Core.Bool.{Bool, true, false, not, ◌&&◌}
use native.Mathlib.Omega.{arith}
use lib.ListN.{length, length-append}
use lib.Dec.{leb, eqb}
use borrow.Author.Tests.{le-leb, leb-true, eqb-true, ne_eqb, not-true}
use Rattle.text.specs.Bytes.{at, within, is_colon, is_not_colon, is_digit, is_hex_digit}
use Rattle.text.specs.Lists.{all, split, separator_before, join_by}
use Rattle.text.proofs.Laws.Tests.{cond-elim, and_left, and_right}
use Rattle.text.proofs.Laws.Classes.{apart, within_range}
use Rattle.text.proofs.Laws.Parts.{all_between}
use Rattle.text.proofs.Laws.Splitting.{split_some, join_again}
use Rattle.address.specs.Octets.{value_from, value_of}
use Rattle.address.specs.declared.Address.TheVariants.{IPv4, IPv6}
use Rattle.networks.specs.Grammar.{Ip4Network, octets, Group, digits, Row, Side}
use Rattle.networks.specs.Reader.{read_ip4}
use Rattle.networks.specs.Reader6.{double_colon, read_h16, Reading, refused, tail_of, last_of, last_part, push, row_of, read_row, read_side}
use Rattle.networks.proofs.Laws.Plain.{group_bytes, ip4_bytes}
use Rattle.networks.proofs.Laws.Ip4.{ip4_made, ip4_octets, qnum_small}
use Rattle.networks.proofs.Laws.HexNumbers.{h16_sound, h16_complete}
use Rattle.networks.proofs.Laws.Colons.{first_none, first_part, double_past, double_single}
use Rattle.networks.proofs.Laws.RowWriting.{row_cons}
use Rattle.address.specs.declared.Address.{Address}

-- a group has no colon, and an IPv4 tail has none
hex_not_colon : (b : ℕ) → is_hex_digit b ≡ true → is_not_colon b ≡ true
unfolding is_hex_digit is_digit within
hex_not_colon b h = ap not (apart is_hex_digit b 58 h refl)

group_colonless : {w : List ℕ} {g : ℕ} → Group w g → all is_not_colon w ≡ true
group_colonless g = group_bytes is_not_colon hex_not_colon g

pub ip4_colonless : {w os : List ℕ} → Ip4Network w os → all is_not_colon w ≡ true
ip4_colonless n = ip4_bytes is_not_colon hex_not_colon refl n

-- nor are they empty
group_some : {w : List ℕ} {g : ℕ} → Group w g → 0 < length w
group_some (digits {w = w} l h) = let r = within_range 1 4 (length w) l in omega arith

ip4_some : {w os : List ℕ} → Ip4Network w os → 0 < length w
ip4_some (octets {p = p} {q = q} {r = r} {s = s} a b c d) = simp length-append (omega arith)

first_byte : (w t : List ℕ) → all is_not_colon w ≡ true → 0 < length w → is_colon (at (w ++ t) 0) ≡ false
unfolding all
first_byte [] t h k = absurd (omega arith)
first_byte (b ∷ w) t h k = not-true (eqb b 58) (and_left (is_not_colon b) (all is_not_colon w) h)

row_some : {tails : Bool} {w gs : List ℕ} → Row tails w gs → 0 < length w
row_some (Row.one g) = group_some g
row_some (Row.tail n) = ip4_some n
row_some (Row.more g r) = simp length-append (omega arith)

-- the first "::" of a row and what follows it, if that begins with one or is nothing, is just after the row
pub record DoubleAfter (u t : List ℕ) : Type 0 where
  pub place : double_colon (u ++ t) ≡ length u
  pub first : is_colon (at (u ++ t) 0) ≡ false

colonless_double : (w t : List ℕ) → all is_not_colon w ≡ true → 0 < length w → double_colon t ≡ 0 → DoubleAfter w t
colonless_double w t h k z = record { place = omega (arith, double_past w t h); first = first_byte w t h k }

pub row_double : {tails : Bool} {u gs : List ℕ} → Row tails u gs → (t : List ℕ) → double_colon t ≡ 0 → DoubleAfter u t
row_double (Row.one {w = w} g) t z = colonless_double w t (group_colonless g) (group_some g) z
row_double (Row.tail {w = w} n) t z = colonless_double w t (ip4_colonless n) (ip4_some n) z
row_double (Row.more {w = w} {rest = rest} g r) t z =
    let d = row_double r t z in
    record {
      place = rw (append_assoc w (58 ∷ rest) t)
          (omega (arith, double_past w (58 ∷ (rest ++ t)) (group_colonless g), double_single (rest ++ t) d.first, d.place, length-append w (58 ∷ rest)));
      first = rw (append_assoc w (58 ∷ rest) t) (first_byte w (58 ∷ (rest ++ t)) (group_colonless g) (group_some g));
    }

-- completeness: a tail is no group, and is read as two
dot_no_digit : is_hex_digit 46 ≡ false
unfolding is_hex_digit is_digit within
dot_no_digit = refl

group_hex : {w : List ℕ} {g : ℕ} → Group w g → all is_hex_digit w ≡ true
group_hex (digits l h) = h

ip4_no_hex : {w os : List ℕ} → Ip4Network w os → all is_hex_digit w ≡ true → ⊥
ip4_no_hex (octets {p = p} {q = q} {r = r} {s = s} a b c d) h =
    let e = all_between is_hex_digit p 46 (q ++ (46 ∷ (r ++ (46 ∷ s)))) h in
    let z : ◌≡◌ {A = ℕ} 0 1 = cc dot_no_digit in
    omega arith

ip4_no_h16 : {w os : List ℕ} → Ip4Network w os → read_h16 w ≡ None
ip4_no_h16 {w} n = by (read_h16 w) refl
  where
    by : (x : Option ℕ) → read_h16 w ≡ x → x ≡ None
    by (Some g) e = absurd (ip4_no_hex n (group_hex (h16_sound w g e)))
    by None e = refl

octets_small : {w os : List ℕ} → Ip4Network w os → all (λ o. leb o 255) os ≡ true
unfolding all
octets_small (octets a b c d) =
    simp (le-leb _ 255 (qnum_small a), le-leb _ 255 (qnum_small b), le-leb _ 255 (qnum_small c), le-leb _ 255 (qnum_small d))

-- an address's two groups are those of its octets
record TwoGroups (v a b c d : ℕ) : Type 0 where
  high : v / 65536 ≡ 256 * a + b
  low : v % 65536 ≡ 256 * c + d

two_groups : (v a b c d : ℕ) → v ≡ value_of (a ∷ b ∷ c ∷ d ∷ []) → c ≤ 255 → d ≤ 255 → TwoGroups v a b c d
unfolding value_of value_from
two_groups v a b c d e hc hd = record { high = omega arith; low = omega arith }

tail_groups : (a b c d : ℕ) → all (λ o. leb o 255) (a ∷ b ∷ c ∷ d ∷ []) ≡ true
    → tail_of (Some (IPv4 (value_of (a ∷ b ∷ c ∷ d ∷ [])))) ≡ Reading.groups ((256 * a + b) ∷ (256 * c + d) ∷ [])
unfolding tail_of all
tail_groups a b c d h =
    let cs = and_right (leb b 255) (leb c 255 && (leb d 255 && true)) (and_right (leb a 255) (leb b 255 && (leb c 255 && (leb d 255 && true))) h) in
    let ds = and_right (leb c 255) (leb d 255 && true) cs in
    let g = two_groups (value_of (a ∷ b ∷ c ∷ d ∷ [])) a b c d refl (leb-true c 255 (and_left (leb c 255) (leb d 255 && true) cs)) (leb-true d 255 (and_left (leb d 255) true ds)) in
    rw (g.high, g.low)

-- what the productions make is read
pub row_complete : {tails : Bool} {w gs : List ℕ} → Row tails w gs → read_row tails w ≡ Reading.groups gs
unfolding read_row row_of last_part last_of push
row_complete (Row.one {w = w} g) = rw (first_none w (group_colonless g), h16_complete g)
row_complete (Row.tail {w = w} {a = a} {b = b} {c = c} {d = d} n) =
    rw (first_none w (ip4_colonless n), ip4_no_h16 n, ip4_octets n) (tail_groups a b c d (octets_small n))
row_complete {tails} (Row.more {w = w} {rest = rest} g r) =
    rw (first_part w rest (group_colonless g), row_cons tails w (split is_colon rest) (split_some is_colon rest), h16_complete g, row_complete r)

pub side_complete : {tails : Bool} {w gs : List ℕ} → Side tails w gs → read_side tails w ≡ Reading.groups gs
unfolding read_side
side_complete Side.nothing = refl
side_complete (Side.row {w = w} r) = rw (ne_eqb (length w) 0 (λ e. omega (arith, row_some r))) (row_complete r)

-- soundness: what a reading says by the productions
abbrev pub RowRight : Bool → List ℕ → Reading → Type 0
RowRight tails s (Reading.groups gs) = Row tails s gs
RowRight tails s refused = Unit {0}

tail_right : (w : List ℕ) (x : Option Address) → read_ip4 w ≡ x → RowRight true w (tail_of x)
unfolding tail_of
tail_right w (Some (IPv4 v)) e =
    let m = ip4_made w (IPv4 v) e in
    let same : v ≡ value_of (m.first ∷ m.second ∷ m.third ∷ m.fourth ∷ []) = cc m.value in
    let g = two_groups v m.first m.second m.third m.fourth same m.third_small m.fourth_small in
    rw (g.high, g.low) (Row.tail m.written)
tail_right w (Some (IPv6 high low)) e = tt
tail_right w None e = tt

last_right : (tails : Bool) (w : List ℕ) (h : Option ℕ) → read_h16 w ≡ h → RowRight tails w (last_of tails w h)
unfolding last_of
last_right tails w (Some g) e = Row.one (h16_sound w g e)
last_right true w None e = tail_right w (read_ip4 w) refl
last_right false w None e = tt

push_right : (tails : Bool) (w s : List ℕ) (h : Option ℕ) → read_h16 w ≡ h → (x : Reading) → RowRight tails s x → RowRight tails (w ++ (58 ∷ s)) (push h x)
unfolding push
push_right tails w s (Some g) e (Reading.groups gs) r = Row.more (h16_sound w g e) r
push_right tails w s (Some g) e refused r = tt
push_right tails w s None e x r = tt

parts_right : (tails : Bool) (ws : List (List ℕ)) → RowRight tails (join_by 58 ws) (row_of tails ws)
unfolding row_of join_by separator_before last_part
parts_right tails [] = tt
parts_right tails (w ∷ []) = rw append-nil (last_right tails w (read_h16 w) refl)
parts_right tails (w ∷ x ∷ ws) = push_right tails w (join_by 58 (x ∷ ws)) (read_h16 w) refl (row_of tails (x ∷ ws)) (parts_right tails (x ∷ ws))

pub row_right : (tails : Bool) (s : List ℕ) → RowRight tails s (read_row tails s)
unfolding read_row
row_right tails s = subst (λ (t : List ℕ). RowRight tails t (row_of tails (split is_colon s))) (join_again 58 s) (parts_right tails (split is_colon s))

-- the same at a side of "::"
abbrev pub SideRight : Bool → List ℕ → Reading → Type 0
SideRight tails s (Reading.groups gs) = Side tails s gs
SideRight tails s refused = Unit {0}

row_side : (tails : Bool) (s : List ℕ) (x : Reading) → RowRight tails s x → SideRight tails s x
row_side tails s (Reading.groups gs) r = Side.row r
row_side tails s refused r = tt

empty_side : (tails : Bool) (s : List ℕ) → length s ≡ 0 → SideRight tails s (Reading.groups [])
empty_side tails [] e = Side.nothing
empty_side tails (b ∷ s) e = absurd (omega arith)

pub side_right : (tails : Bool) (s : List ℕ) → SideRight tails s (read_side tails s)
unfolding read_side
side_right tails s =
    cond-elim (SideRight tails s) (eqb (length s) 0) {x = Reading.groups []} {y = read_row tails s}
    (λ e. empty_side tails s (eqb-true (length s) 0 e)) (λ _. row_side tails s (read_row tails s) (row_right tails s))
