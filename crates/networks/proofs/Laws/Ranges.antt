-- The address that a text writes is in range: an octet is below 256 and a group below 65,536. From the productions and the laws on the numbers that
-- digits write.
use Prim.Native.Nat.{ℕ, zero, suc, ◌+◌, ◌-◌, ◌*◌, ◌^◌, ◌≤◌, ◌<◌}
use mathlib.Core.Path.{◌≡◌, refl, subst}
use mathlib.Core.List.{List, [], ◌∷◌, ◌++◌}
use mathlib.Core.Bool.{Bool, true}
use native.Mathlib.Omega.{arith}
use native.Mathlib.Numerals.{add-one}
use native.Mathlib.Nat.{add-zero, add-suc, suc-add, pow-suc, lt_of_lt_of_le, pow-le-pow_right}
use lib.ListN.{length, get_or, take, drop, replicate, length-take, length-drop, take-append-drop}
use lib.Dec.{ltb}
use borrow.Author.Tests.{lt-ltb, ltb-true}
use Rattle.text.specs.Bytes.{is_hex_digit}
use Rattle.text.specs.Lists.{all}
use Rattle.text.proofs.Laws.Classes.{within_range}
use Rattle.text.proofs.Laws.Parts.{all_none, all_join, all_front, all_back, all_cons, all_first, all_rest}
use Rattle.address.specs.Octets.{InRange, value_from, value_of}
use Rattle.address.specs.declared.Address.{Address}
use Rattle.networks.specs.Answers.{AddressText, four, six}
use Rattle.networks.specs.Grammar.{Ip4Network, octets, hex_value, Group, digits, Row, Side, nothing, row, filled, Ip6Network, full, short, groups_from, address_of, of_octets, of_groups}
use Rattle.networks.proofs.Laws.GroupOctets.{length_filled}
use Rattle.networks.proofs.Laws.HexNumbers.{HexRead, hex_start, hex_next, hex_end}
use Rattle.networks.proofs.Laws.Ip4.{qnum_small}

-- IPv4
four_range : {w os : List ℕ} → Ip4Network w os → value_of os < 2 ^ 32
unfolding value_of value_from
four_range (octets p q r s) = omega (arith, qnum_small p, qnum_small q, qnum_small r, qnum_small s)

-- a group
hex_read : (w : List ℕ) → length w ≤ 4 → all is_hex_digit w ≡ true → (i : ℕ) → i ≤ length w → (v : ℕ) × HexRead w v i
hex_read w h k zero l = (0, hex_start w)
hex_read w h k (suc i) l =
    let r = hex_read w h k i (omega arith) in
    let d = hex_value (get_or w i 0) in
    (16 * r.0 + d, subst (HexRead w (16 * r.0 + d)) (add-one i) (hex_next w r.0 i r.1 (omega arith) (h, k) d refl))

group_small : {w : List ℕ} {g : ℕ} → Group w g → g < 65536
group_small (digits {w = w} h a) =
    let l = within_range 1 4 (length w) h in
    let r = hex_read w l.1 a (length w) (omega arith) in
    let e = hex_end w r.0 (length w) r.1 (omega arith) in
    let s = lt_of_lt_of_le r.1.small (pow-le-pow_right {n = 16} (omega arith) {i = length w} {j = 4} l.1) in
    omega arith

-- groups
unfoldable is_group : ℕ → Bool
is_group g = ltb g 65536

is_group_lem : (g : ℕ) → g < 65536 → is_group g ≡ true
unfolding is_group
is_group_lem g h = lt-ltb g 65536 h

group_is : (g : ℕ) → is_group g ≡ true → g < 65536
unfolding is_group
group_is g h = ltb-true g 65536 h

row_groups : {tails : Bool} {w gs : List ℕ} → Row tails w gs → all is_group gs ≡ true
row_groups (Row.one {g = g} x) = all_cons is_group g [] (is_group_lem g (group_small x)) (all_none is_group)
row_groups (Row.tail {a = a} {b = b} {c = c} {d = d} (octets p q r s)) =
    let k = qnum_small p in
    let l = qnum_small q in
    let m = qnum_small r in
    let n = qnum_small s in
    all_cons is_group (256 * a + b) ((256 * c + d) ∷ []) (is_group_lem (256 * a + b) (omega arith))
    (all_cons is_group (256 * c + d) [] (is_group_lem (256 * c + d) (omega arith)) (all_none is_group))
row_groups (Row.more {g = g} {gs = gs} x r) = all_cons is_group g gs (is_group_lem g (group_small x)) (row_groups r)

side_groups : {tails : Bool} {w gs : List ℕ} → Side tails w gs → all is_group gs ≡ true
side_groups nothing = all_none is_group
side_groups (row r) = row_groups r

zero_groups : (n : ℕ) → all is_group (replicate n 0) ≡ true
zero_groups zero = all_none is_group
zero_groups (suc n) = all_cons is_group 0 (replicate n 0) (is_group_lem 0 (omega arith)) (zero_groups n)

ip6_groups : {w gs : List ℕ} → Ip6Network w gs → (all is_group gs ≡ true) × (length gs ≡ 8)
unfolding filled
ip6_groups (full r e) = (row_groups r, e)
ip6_groups (short {ls = ls} {rs = rs} a b h) =
    let n = 8 - (length ls + length rs) in (
      all_join is_group ls (replicate n 0 ++ rs) (side_groups a) (all_join is_group (replicate n 0) rs (zero_groups n) (side_groups b)),
      length_filled ls rs h,
    )

-- the number that groups write
groups_value : (v k : ℕ) (gs : List ℕ) → all is_group gs ≡ true → v < 65536 ^ k → groups_from v gs < 65536 ^ (k + length gs)
unfolding groups_from
groups_value v k [] h l = rw add-zero l
groups_value v k (g ∷ gs) h l =
    let a = group_is g (all_first is_group g gs h) in
    let m : 65536 * v + g < 65536 ^ suc k = rw (pow-suc 65536 k) (omega arith) in
    rw (add-suc, ← suc-add) (groups_value (65536 * v + g) (suc k) gs (all_rest is_group g gs h) m)

half_range : (gs : List ℕ) → all is_group gs ≡ true → length gs ≡ 4 → groups_from 0 gs < 2 ^ 64
half_range gs h e = let l = groups_value 0 0 gs h (omega arith) in rw e at l

groups_range : (gs : List ℕ) → all is_group gs ≡ true → length gs ≡ 8 → InRange (address_of gs)
unfolding address_of
groups_range gs h e =
    let s : all is_group (take 4 gs ++ drop 4 gs) ≡ true = rw (take-append-drop 4 gs) h in (
      half_range (take 4 gs) (all_front is_group (take 4 gs) (drop 4 gs) s) (rw length-take (omega arith)),
      half_range (drop 4 gs) (all_back is_group (take 4 gs) (drop 4 gs) s) (rw length-drop (omega arith)),
    )

pub address_range : {w : List ℕ} {a : Address} → AddressText w a → InRange a
address_range (four (of_octets n)) = four_range n
address_range (six (of_groups {gs = gs} n)) = let s = ip6_groups n in groups_range gs s.0 s.1
