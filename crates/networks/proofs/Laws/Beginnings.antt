-- Whatever a network or a prefix length begins with is one once one of a few ends is put after it: the ends of `0.0.0.0`, of `::` and of `/0`. By the
-- productions, from the laws of Fronts, Digits and Numbers.
use Prim.Native.Nat.{ℕ, zero, suc, ◌+◌, ◌-◌, ◌*◌, ◌≤◌, ◌<◌}
use mathlib.Core.Path.{◌≡◌, refl, sym, subst}
use mathlib.Core.Logic.{⊎_elim}
use mathlib.Core.List.{List, [], ◌∷◌, ◌++◌, append_assoc}
use mathlib.Core.Bool.{Bool, true, false}
use native.Mathlib.Omega.{arith}
use lib.ListN.{length, take, length-take}
use lib.Seq.{take-nil}
use Rattle.text.specs.Bytes.{within, is_digit, is_hex_digit}
use Rattle.text.specs.Lists.{all}
use Rattle.text.specs.Decimal.{decimal, decimal_from}
use Rattle.text.specs.Texts.{bytes}
use Rattle.text.proofs.Laws.Orders.{le_or_lt}
use Rattle.text.proofs.Laws.Classes.{within_range, range_within}
use Rattle.text.proofs.Laws.Digits.{decimal_grows}
use Rattle.text.proofs.Laws.Fronts.{fronts_between, all_take, Completed, completed_by, completed_now, completed_in}
use Rattle.address.specs.declared.Address.{Address}
use Rattle.networks.specs.Grammar.{Qnum, Ip4Network, octets, hex_value, hex_from, Group, digits, Row, Side, Ip6Network, full, short}
use Rattle.networks.specs.Grammar.{Network4, of_octets, Network6, of_groups, LengthNumber, nought, number, CidrLength, OptionalLength, absent, present}
use Rattle.networks.specs.Grammar.{DualCidrLength, four_only, both}
use Rattle.networks.proofs.Laws.Numbers.{qnum_number, number_qnum}

-- the ends of `0.0.0.0`, of `::` and of `/0`
pub data End : List ℕ → Type 0 where
  nothing : End []
  zero_1 : End (bytes "0")
  dot_1 : End (bytes ".0")
  zero_2 : End (bytes "0.0")
  dot_2 : End (bytes ".0.0")
  zero_3 : End (bytes "0.0.0")
  dot_3 : End (bytes ".0.0.0")
  zero_4 : End (bytes "0.0.0.0")
  colon : End (bytes ":")
  colons : End (bytes "::")
  slash : End (bytes "/0")

-- a front of a number, of a qnum and of a group is nothing or one, and a front's number is at most the whole's
data Begun {A : Type 0} (Produces : List ℕ → A → Type 0) : List ℕ → Type 0 where
  none : Begun Produces []
  some : {p : List ℕ} {x : A} → Produces p x → Begun Produces p

decimal_front : (v k : ℕ) (w : List ℕ) → decimal_from v (take k w) ≤ decimal_from v w
unfolding decimal_from
decimal_front v zero w = decimal_grows v w
decimal_front v (suc k) [] = omega arith
decimal_front v (suc k) (d ∷ w) = decimal_front (10 * v + (d - 48)) k w

number_begins : {limit : ℕ} {w : List ℕ} {n : ℕ} → LengthNumber limit w n → (k : ℕ) → Begun (LengthNumber limit) (take k w)
unfolding decimal
number_begins l zero = none
number_begins nought (suc k) = rw (take-nil k) (some nought)
number_begins (number {a = a} {w = w} ha hw le) (suc k) =
    some (number ha (all_take is_digit k w hw) (omega (arith, le, decimal_front 0 (suc k) (a ∷ w))))

qnum_begins : {w : List ℕ} {v : ℕ} → Qnum w v → (k : ℕ) → Begun Qnum (take k w)
qnum_begins q k = by (number_begins (qnum_number q) k)
  where
    by : {p : List ℕ} → Begun (LengthNumber 255) p → Begun Qnum p
    by none = none
    by (some l) = some (number_qnum l)

group_begins : {w : List ℕ} {g : ℕ} → Group w g → (k : ℕ) → Begun Group (take k w)
group_begins g zero = none
group_begins (digits {w = []} l h) (suc k) = none
group_begins (digits {w = x ∷ w} l h) (suc k) =
    let r = within_range 1 4 (suc (length w)) l in
    some (digits (range_within 1 4 (suc (length (take k w))) (omega arith) (simp length-take (omega arith))) (all_take is_hex_digit (suc k) (x ∷ w) h))

-- prefix lengths: `/` is completed by `0`, and what ends before it by `/0`
slash_begins : {limit : ℕ} {w : List ℕ} {n : ℕ} → CidrLength limit w n → (k : ℕ) → Completed End (CidrLength limit) (take k w)
slash_begins {limit} c zero = completed_by End (CidrLength limit) End.slash refl (CidrLength.slash nought)
slash_begins {limit} (CidrLength.slash l) (suc k) = by (number_begins l k)
  where
    by : {p : List ℕ} → Begun (LengthNumber limit) p → Completed End (CidrLength limit) (bytes "/" ++ p)
    by none = completed_by End (CidrLength limit) zero_1 refl (CidrLength.slash nought)
    by (some m) = completed_now End (CidrLength limit) End.nothing (CidrLength.slash m)

pub length_begins : {limit : ℕ} {w : List ℕ} {n : ℕ} → OptionalLength limit w n → (k : ℕ) → Completed End (OptionalLength limit) (take k w)
length_begins {limit} absent k = rw (take-nil k) (completed_now End (OptionalLength limit) End.nothing absent)
length_begins {limit} (present c) k =
    completed_in End (OptionalLength limit) [] (slash_begins c k) (λ e h. h) (λ w n m. (n, present m))

-- both lengths as one value
abbrev pub Dual : List ℕ → (ℕ × ℕ) → Type 0
Dual w v = DualCidrLength w v.0 v.1

four_begins : {w : List ℕ} {n : ℕ} → OptionalLength 32 w n → (k : ℕ) → Completed End Dual (take k w)
four_begins l k = completed_in End Dual [] (length_begins l k) (λ e h. h) (λ w n m. ((n, 128), four_only m))

pub dual_begins : {w : List ℕ} {n m : ℕ} → DualCidrLength w n m → (k : ℕ) → Completed End Dual (take k w)
dual_begins (four_only l) k = four_begins l k
dual_begins (both {w = w} {v = v} {n = n} l r) k = fronts_between (Completed End Dual) w 47 v (λ n _. four_begins l n) second k
  where
    second : (k : ℕ) → Completed End Dual (w ++ (47 ∷ take k v))
    second k =
        let c = slash_begins r k in
        completed_by End Dual {x = (n, c.value)} c.is_end (sym (append_assoc w (47 ∷ take k v) c.end)) (both l c.made)

-- IPv4 networks: the octets begun, and `0` for those that are missing
abbrev Four : List ℕ → Type 0
Four p = Completed End Ip4Network p

pub zero_octet : Qnum (bytes "0") 0
zero_octet = number_qnum nought

first_begun : {p : List ℕ} → Begun Qnum p → Four p
first_begun none = completed_by End Ip4Network zero_4 refl (octets zero_octet zero_octet zero_octet zero_octet)
first_begun (some a) = completed_by End Ip4Network dot_3 refl (octets a zero_octet zero_octet zero_octet)

module _ {p : List ℕ} {i : ℕ} (a : Qnum p i) where
  second_begun : {q : List ℕ} → Begun Qnum q → Four (p ++ (46 ∷ q))
  second_begun none = completed_by End Ip4Network zero_3 (sym (simp append_assoc)) (octets a zero_octet zero_octet zero_octet)
  second_begun (some b) = completed_by End Ip4Network dot_2 (sym (simp append_assoc)) (octets a b zero_octet zero_octet)

  module _ {q : List ℕ} {j : ℕ} (b : Qnum q j) where
    third_begun : {r : List ℕ} → Begun Qnum r → Four (p ++ (46 ∷ (q ++ (46 ∷ r))))
    third_begun none = completed_by End Ip4Network zero_2 (sym (simp append_assoc)) (octets a b zero_octet zero_octet)
    third_begun (some c) = completed_by End Ip4Network dot_1 (sym (simp append_assoc)) (octets a b c zero_octet)

    fourth_begun : {r s : List ℕ} {k : ℕ} → Qnum r k → Begun Qnum s → Four (p ++ (46 ∷ (q ++ (46 ∷ (r ++ (46 ∷ s))))))
    fourth_begun c none = completed_by End Ip4Network zero_1 (sym (simp append_assoc)) (octets a b c zero_octet)
    fourth_begun c (some d) = completed_now End Ip4Network End.nothing (octets a b c d)

ip4_begins : {w os : List ℕ} → Ip4Network w os → (n : ℕ) → Four (take n w)
ip4_begins (octets {p = p} {q = q} {r = r} {s = s} a b c d) =
    fronts_between Four p 46 (q ++ (46 ∷ (r ++ (46 ∷ s)))) (λ n _. first_begun (qnum_begins a n))
    (fronts_between (λ x. Four (p ++ (46 ∷ x))) q 46 (r ++ (46 ∷ s)) (λ n _. second_begun a (qnum_begins b n))
    (fronts_between (λ x. Four (p ++ (46 ∷ (q ++ (46 ∷ x))))) r 46 s (λ n _. third_begun a b (qnum_begins c n))
    (λ n. fourth_begun a b c (qnum_begins d n))))

pub network4_begins : {w : List ℕ} {x : Address} → Network4 w x → (n : ℕ) → Completed End Network4 (take n w)
network4_begins (of_octets m) n = completed_in End Network4 [] (ip4_begins m n) (λ e h. h) (λ w os h. (_, of_octets h))

-- a row with the number of its groups
abbrev Sized : ℕ → List ℕ → List ℕ → Type 0
Sized size w gs = Row true w gs × (length gs ≡ size)

-- a front of a row of so many groups: nothing, whole groups, those and a colon, or a front that ends in the tail
data RowBegun (size : ℕ) : Bool → List ℕ → Type 0 where
  at_start : {tails : Bool} → RowBegun size tails []
  groups : {tails : Bool} {p gs : List ℕ} → Row false p gs → length gs ≤ size → RowBegun size tails p
  after_colon : {tails : Bool} {p gs : List ℕ} → Row false p gs → length gs < size → RowBegun size tails (p ++ bytes ":")
  in_tail : {p : List ℕ} → Completed End (Sized size) p → RowBegun size true p

group_begun : {tails : Bool} {size : ℕ} {p : List ℕ} → 1 ≤ size → Begun Group p → RowBegun size tails p
group_begun l none = at_start
group_begun l (some g) = groups (Row.one g) l

-- a group and a colon before it
row_before : {tails : Bool} {size : ℕ} {w p : List ℕ} {g : ℕ} → Group w g → 1 ≤ size → RowBegun size tails p → RowBegun (suc size) tails (w ++ (58 ∷ p))
row_before g l at_start = after_colon (Row.one g) (omega arith)
row_before g l (groups r h) = groups (Row.more g r) (omega arith)
row_before {tails} {size} {w} g l (after_colon {p = p} r h) =
    subst (RowBegun (suc size) tails) (append_assoc w (58 ∷ p) (bytes ":")) (after_colon (Row.more g r) (omega arith))
row_before {size = size} {w = w} g l (in_tail {p = p} c) =
    in_tail (completed_by End (Sized (suc size)) c.is_end (sym (append_assoc w (58 ∷ p) c.end)) (Row.more g c.made.0, omega (arith, c.made.1)))

row_some : {tails : Bool} {w gs : List ℕ} → Row tails w gs → 1 ≤ length gs
row_some (Row.one g) = omega arith
row_some (Row.tail n) = omega arith
row_some (Row.more g r) = omega arith

tail_row : {w os : List ℕ} → Ip4Network w os → (gs : List ℕ) × Sized 2 w gs
tail_row (octets a b c d) = (_, (Row.tail (octets a b c d), refl))

row_begins : {tails : Bool} {w gs : List ℕ} → Row tails w gs → (n : ℕ) → RowBegun (length gs) tails (take n w)
row_begins (Row.one g) n = group_begun (omega arith) (group_begins g n)
row_begins (Row.tail m) n = in_tail (completed_in End (Sized 2) [] (ip4_begins m n) (λ e h. h) (λ w os h. tail_row h))
row_begins {tails} (Row.more {w = w} {rest = rest} {gs = gs} g r) n =
    fronts_between (RowBegun (suc (length gs)) tails) w 58 rest (λ k _. group_begun (omega arith) (group_begins g k))
    (λ k. row_before g (row_some r) (row_begins r k)) n

-- IPv6 networks: at most seven groups, completed by "::" or by what is missing of it
abbrev Six : List ℕ → Type 0
Six p = Completed End Ip6Network p

module _ {u ls : List ℕ} (left : Side false u ls) (l : length ls ≤ 7) where
  side_colons : Six u
  side_colons = completed_by End Ip6Network colons refl (short left Side.nothing (omega arith))

  side_colon : Six (u ++ bytes ":")
  side_colon = completed_by End Ip6Network colon (sym (append_assoc u (bytes ":") (bytes ":"))) (short left Side.nothing (omega arith))

left_begun : {size : ℕ} {p : List ℕ} → size ≤ 7 → RowBegun size false p → Six p
left_begun l at_start = side_colons Side.nothing (omega arith)
left_begun l (groups r h) = side_colons (Side.row r) (omega arith)
left_begun l (after_colon r h) = side_colon (Side.row r) (omega arith)

side_begins : {u ls : List ℕ} → Side false u ls → length ls ≤ 7 → (n : ℕ) → Six (take n u)
side_begins Side.nothing l n = rw (take-nil n) (side_colons Side.nothing (omega arith))
side_begins (Side.row r) l n = left_begun l (row_begins r n)

-- eight groups
row_tails : {w gs : List ℕ} → Row false w gs → Row true w gs
row_tails (Row.one g) = Row.one g
row_tails (Row.more g r) = Row.more g (row_tails r)

full_begun : {p : List ℕ} → RowBegun 8 true p → Six p
full_begun at_start = side_colons Side.nothing (omega arith)
full_begun (groups {gs = gs} r h) = ⊎_elim
    (λ (k : length gs ≤ 7). side_colons (Side.row r) k)
    (λ (k : 7 < length gs). completed_now End Ip6Network End.nothing (full (row_tails r) (omega arith)))
    (le_or_lt (length gs) 7)
full_begun (after_colon r h) = side_colon (Side.row r) (omega arith)
full_begun (in_tail c) = completed_in End Ip6Network [] c (λ e h. h) (λ w gs h. (gs, full h.0 h.1))

-- after "::", where a colon is followed by the group `0`
zero_group : Group (bytes "0") 0
unfolding all is_hex_digit is_digit within hex_from hex_value
zero_group = digits refl refl

row_zero : {w gs : List ℕ} → Row false w gs → (hs : List ℕ) × Sized (suc (length gs)) (w ++ bytes ":0") hs
row_zero (Row.one g) = (_, (Row.more g (Row.one zero_group), refl))
row_zero (Row.more {w = w} {rest = rest} {g = g} m r) =
    let z = row_zero r in
    (g ∷ z.0, (rw (append_assoc w (58 ∷ rest) (bytes ":0")) (Row.more m z.1.0), omega (arith, z.1.1)))

module _ {u ls : List ℕ} (left : Side false u ls) where
  right_begun : {size : ℕ} {p : List ℕ} → length ls + size ≤ 7 → RowBegun size true p → Six (u ++ (58 ∷ 58 ∷ p))
  right_begun l at_start = completed_now End Ip6Network End.nothing (short left Side.nothing (omega arith))
  right_begun l (groups r h) = completed_now End Ip6Network End.nothing (short left (Side.row (row_tails r)) (omega arith))
  right_begun l (after_colon r h) =
      let z = row_zero r in
      completed_by End Ip6Network zero_1 (sym (simp append_assoc)) (short left (Side.row z.1.0) (omega (arith, z.1.1)))
  right_begun l (in_tail {p = p} c) =
      completed_by End Ip6Network c.is_end (sym (append_assoc u (58 ∷ 58 ∷ p) c.end)) (short left (Side.row c.made.0) (omega (arith, c.made.1)))

  after_begins : {w rs : List ℕ} → Side true w rs → length ls + length rs ≤ 7 → (n : ℕ) → Six (u ++ (58 ∷ take n (58 ∷ w)))
  after_begins right l zero = side_colon left (omega arith)
  after_begins Side.nothing l (suc n) = rw (take-nil n) (right_begun {size = 0} l at_start)
  after_begins (Side.row r) l (suc n) = right_begun l (row_begins r n)

ip6_begins : {w gs : List ℕ} → Ip6Network w gs → (n : ℕ) → Six (take n w)
ip6_begins (full {w = w} r e) n = full_begun (subst (λ (k : ℕ). RowBegun k true (take n w)) e (row_begins r n))
ip6_begins (short {u = u} {w = w} left right l) n = fronts_between Six u 58 (58 ∷ w) (λ k _. side_begins left (omega arith) k) (after_begins left right l) n

pub network6_begins : {w : List ℕ} {x : Address} → Network6 w x → (n : ℕ) → Completed End Network6 (take n w)
network6_begins (of_groups m) n = completed_in End Network6 [] (ip6_begins m n) (λ e h. h) (λ w gs h. (_, of_groups h))
