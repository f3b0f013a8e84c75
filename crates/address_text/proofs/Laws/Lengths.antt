-- How long the texts of numbers and addresses are at most. From the definitions of Digits and Forms.
use Prim.Native.Nat.{ℕ, zero, suc, ◌/◌, ◌%◌, ◌^◌, ◌≤◌, ◌<◌}
use mathlib.Core.Path.{◌≡◌, refl, ◌∙◌}
use mathlib.Core.List.{List, [], ◌∷◌, reverse}
use native.Mathlib.Omega.{arith}
use native.Mathlib.Nat.{pow-zero, pow-suc, one-mul}
use lib.ListN.{length, length-append}
use lib.Dec.{ltb}
use borrow.Author.Tests.{ltb-false}
use Rattle.text.specs.Lists.{separator_before, join_by, join}
use Rattle.text.proofs.Laws.Tests.{cond-elim}
use Rattle.address.specs.Octets.{octets_of, octets}
use Rattle.address.specs.declared.Address.{Address}
use Rattle.address.specs.declared.Address.TheVariants.{IPv4, IPv6}
use Rattle.address_text.specs.Digits.{digit, numeral, in_decimal, in_hex}
use Rattle.address_text.specs.Forms.{nibbles, hex_groups, octet_texts, nibble_texts, dotted, readable, family, reversed_name}
use Rattle.address_text.proofs.Laws.Numerals.{quotient_small}

-- a numeral has at most the digits that it is given, and at most those that its number needs
length_given : (f base n : ℕ) → length (numeral f base n) ≤ suc f
unfolding numeral
length_given zero base n = omega arith
length_given (suc f) base n = cond-elim (λ (s : List ℕ). length s ≤ suc (suc f)) (ltb n base)
    (λ _. omega arith)
    (λ _. rw (length-append (numeral f base (n / base)) (digit (n % base) ∷ [])) (let h = length_given f base (n / base) in omega arith))

length_needed : (f k base n : ℕ) → 0 < base → n < base ^ suc k → length (numeral f base n) ≤ suc k
unfolding numeral
length_needed zero k base n p h = omega arith
length_needed (suc f) zero base n p h = cond-elim (λ (s : List ℕ). length s ≤ 1) (ltb n base)
    (λ _. omega arith)
    (λ e. let single : base ^ 1 ≡ base = pow-suc base 0 ∙ rw pow-zero (one-mul base) in let l = ltb-false n base e in absurd (omega arith))
length_needed (suc f) (suc k) base n p h = cond-elim (λ (s : List ℕ). length s ≤ suc (suc k)) (ltb n base)
    (λ _. omega arith)
    (λ _. rw (length-append (numeral f base (n / base)) (digit (n % base) ∷ []))
    (let l = length_needed f k base (n / base) p (quotient_small k base n p h) in omega arith))

pub length_decimal : (v : ℕ) → length (in_decimal v) ≤ 20
unfolding in_decimal
length_decimal v = length_given 19 10 v

pub length_octet : (v : ℕ) → length (in_decimal (v % 256)) ≤ 3
unfolding in_decimal
length_octet v = length_needed 19 2 10 (v % 256) (omega arith) (omega arith)

pub length_hex : (v : ℕ) → length (in_hex v) ≤ 4
unfolding in_hex
length_hex v = length_given 3 16 v

-- four octets with three dots between them
length_four : (a b c d : ℕ) → length (join (in_decimal (a % 256) ∷ in_decimal (b % 256) ∷ in_decimal (c % 256) ∷ in_decimal (d % 256) ∷ [])) ≤ 15
unfolding join_by separator_before
length_four a b c d = simp length-append (omega (arith, length_octet a, length_octet b, length_octet c, length_octet d))

-- 32 nibbles with 31 dots between them
length_nibbles : (high low : ℕ) → length (join (nibble_texts (octets (IPv6 high low)))) ≡ 63
unfolding join_by separator_before nibble_texts nibbles octets octets_of
length_nibbles high low = refl

length_reversed_nibbles : (high low : ℕ) → length (join (reverse (nibble_texts (octets (IPv6 high low))))) ≡ 63
unfolding join_by separator_before nibble_texts nibbles octets octets_of
length_reversed_nibbles high low = refl

-- eight groups with seven colons between them
length_groups : (a b c d e f g h : ℕ)
    → length (join_by 58 (in_hex a ∷ in_hex b ∷ in_hex c ∷ in_hex d ∷ in_hex e ∷ in_hex f ∷ in_hex g ∷ in_hex h ∷ [])) ≤ 39
unfolding join_by separator_before
length_groups a b c d e f g h = simp length-append
    (omega (arith, length_hex a, length_hex b, length_hex c, length_hex d, length_hex e, length_hex f, length_hex g, length_hex h))

pub length_dotted : (a : Address) → length (dotted a) ≤ 63
unfolding dotted octets octets_of octet_texts
length_dotted (IPv4 v) = let h = length_four (v / 256 / 256 / 256) (v / 256 / 256) (v / 256) v in omega arith
length_dotted (IPv6 high low) = let h = length_nibbles high low in omega arith

pub length_readable : (a : Address) → length (readable a) ≤ 39
unfolding readable octets octets_of octet_texts hex_groups
length_readable (IPv4 v) = let h = length_four (v / 256 / 256 / 256) (v / 256 / 256) (v / 256) v in omega arith
length_readable (IPv6 high low) = length_groups _ _ _ _ _ _ _ _

pub length_family : (a : Address) → length (family a) ≤ 7
unfolding family
length_family (IPv4 v) = omega arith
length_family (IPv6 high low) = omega arith

pub length_reversed : (a : Address) → length (reversed_name a) ≤ 72
unfolding reversed_name octets octets_of octet_texts
length_reversed (IPv4 v) =
    rw length-append (let h = length_four v (v / 256) (v / 256 / 256) (v / 256 / 256 / 256) in omega arith)
length_reversed (IPv6 high low) =
    rw length-append (let h = length_reversed_nibbles high low in omega arith)
