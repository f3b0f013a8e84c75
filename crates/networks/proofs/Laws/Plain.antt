-- The bytes of networks and prefix lengths, as records cut them: a network holds no slash and no space; a length is empty or begins with a slash, and
-- holds slashes and digits only. By the productions.
use Prim.Native.Nat.{ℕ}
use mathlib.Core.Path.{◌≡◌, refl, ap}
use mathlib.Core.List.{List, [], ◌∷◌, ◌++◌}
use mathlib.Core.Logic.{◌⊎◌, inl, inr}
use mathlib.Core.Bool.{Bool, true, not}
use native.Mathlib.Omega.{arith}
use Rattle.address.specs.Octets.{value_of}
use Rattle.address.specs.declared.Address.{Address}
use Rattle.address.specs.declared.Address.TheVariants.{IPv4, IPv6}
use Rattle.text.specs.Bytes.{at, within, is_digit, is_hex_digit, is_not_slash, is_not_space, is_length_byte}
use Rattle.text.specs.Lists.{all}
use Rattle.text.proofs.Laws.Parts.{all_none, all_cons, all_join_by, all_inside}
use Rattle.text.proofs.Laws.Classes.{apart, within_range, range_within}
use Rattle.networks.specs.Grammar.{Qnum, Ip4Network, octets, Group, digits, Row, Side, Ip6Network, full, short, Network4, Network6, CidrLength, slash, OptionalLength, absent, present, DualCidrLength, four_only, both, address_of}
use Rattle.networks.proofs.Laws.Numbers.{number_digits, qnum_number}

pub record Plain (w : List ℕ) : Type 0 where
  pub no_slash : all is_not_slash w ≡ true
  pub no_space : all is_not_space w ≡ true

pub record LengthText (w : List ℕ) : Type 0 where
  pub bytes : all is_length_byte w ≡ true
  pub begins : (w ≡ []) ⊎ (at w 0 ≡ 47)

digit_hex : (b : ℕ) → is_digit b ≡ true → is_hex_digit b ≡ true
unfolding is_hex_digit
digit_hex b h = rw h

-- networks are of every class that holds the hex digits, the dot and, for IPv6, the colon
module _ (p : ℕ → Bool) (hex : (b : ℕ) → is_hex_digit b ≡ true → p b ≡ true) where
  pub group_bytes : {w : List ℕ} {g : ℕ} → Group w g → all p w ≡ true
  group_bytes (digits {w = w} l h) = all_inside is_hex_digit p hex w h

  module _ (dot : p 46 ≡ true) where
    qnum_bytes : {w : List ℕ} {v : ℕ} → Qnum w v → all p w ≡ true
    qnum_bytes {w} q = all_inside is_digit p (λ b h. hex b (digit_hex b h)) w (number_digits (qnum_number q))

    pub ip4_bytes : {w os : List ℕ} → Ip4Network w os → all p w ≡ true
    ip4_bytes (octets {p = u} {q = v} {r = r} {s = s} a b c d) =
        all_join_by p u 46 (v ++ (46 ∷ (r ++ (46 ∷ s)))) (qnum_bytes a) dot
        (all_join_by p v 46 (r ++ (46 ∷ s)) (qnum_bytes b) dot (all_join_by p r 46 s (qnum_bytes c) dot (qnum_bytes d)))

    module _ (colon : p 58 ≡ true) where
      row_bytes : {tails : Bool} {w gs : List ℕ} → Row tails w gs → all p w ≡ true
      row_bytes (Row.one g) = group_bytes g
      row_bytes (Row.tail n) = ip4_bytes n
      row_bytes (Row.more {w = w} {rest = rest} g r) = all_join_by p w 58 rest (group_bytes g) colon (row_bytes r)

      side_bytes : {tails : Bool} {w gs : List ℕ} → Side tails w gs → all p w ≡ true
      side_bytes Side.nothing = all_none p
      side_bytes (Side.row r) = row_bytes r

      ip6_bytes : {w gs : List ℕ} → Ip6Network w gs → all p w ≡ true
      ip6_bytes (full r l) = row_bytes r
      ip6_bytes (short {u = u} {w = w} b a l) = all_join_by p u 58 (58 ∷ w) (side_bytes b) colon (all_cons p 58 w colon (side_bytes a))

-- neither the slash nor the space is among them
hex_not_slash : (b : ℕ) → is_hex_digit b ≡ true → is_not_slash b ≡ true
unfolding is_hex_digit is_digit within is_not_slash
hex_not_slash b h = ap not (apart is_hex_digit b 47 h refl)

hex_not_space : (b : ℕ) → is_hex_digit b ≡ true → is_not_space b ≡ true
unfolding is_hex_digit is_digit within is_not_space
hex_not_space b h = ap not (apart is_hex_digit b 32 h refl)

pub network4_plain : {w : List ℕ} {a : Address} → Network4 w a → Plain w
unfolding is_not_slash is_not_space
network4_plain (Network4.of_octets n) = record {
  no_slash = ip4_bytes is_not_slash hex_not_slash refl n;
  no_space = ip4_bytes is_not_space hex_not_space refl n;
}

pub network6_plain : {w : List ℕ} {a : Address} → Network6 w a → Plain w
unfolding is_not_slash is_not_space
network6_plain (Network6.of_groups n) = record {
  no_slash = ip6_bytes is_not_slash hex_not_slash refl refl n;
  no_space = ip6_bytes is_not_space hex_not_space refl refl n;
}

-- the family of a network's address
pub network4_family : {w : List ℕ} {a : Address} → Network4 w a → (v : ℕ) × (a ≡ IPv4 v)
network4_family (Network4.of_octets {os = os} n) = (value_of os, refl)

pub network6_family : {w : List ℕ} {a : Address} → Network6 w a → (h : ℕ) × (l : ℕ) × (a ≡ IPv6 h l)
unfolding address_of
network6_family (Network6.of_groups n) = (_, _, refl)

-- a slash and then a number
pub digit_length : (b : ℕ) → is_digit b ≡ true → is_length_byte b ≡ true
unfolding is_digit is_length_byte
digit_length b h = let r = within_range 48 57 b h in range_within 47 57 b (omega arith) (omega arith)

slash_number_lem : {limit : ℕ} {w : List ℕ} {n : ℕ} → CidrLength limit w n → LengthText w
unfolding is_length_byte within
slash_number_lem (slash {w = w} d) = record {
  bytes = all_cons is_length_byte 47 w refl (all_inside is_digit is_length_byte digit_length w (number_digits d));
  begins = inr refl;
}

pub length_text_lem : {limit : ℕ} {w : List ℕ} {n : ℕ} → OptionalLength limit w n → LengthText w
length_text_lem absent = record { bytes = all_none is_length_byte; begins = inl refl }
length_text_lem (present d) = slash_number_lem d

-- both lengths begin with a slash, be the first absent or not
both_begin : {limit : ℕ} {w : List ℕ} {n : ℕ} → OptionalLength limit w n → (v : List ℕ) → at (w ++ (47 ∷ v)) 0 ≡ 47
both_begin absent v = refl
both_begin (present (slash d)) v = refl

pub dual_text : {w : List ℕ} {n m : ℕ} → DualCidrLength w n m → LengthText w
unfolding is_length_byte within
dual_text (four_only l) = length_text_lem l
dual_text (both {w = w} {v = v} l d) = record {
  bytes = all_join_by is_length_byte w 47 v (length_text_lem l).bytes refl (slash_number_lem d).bytes;
  begins = inr (both_begin l v);
}
