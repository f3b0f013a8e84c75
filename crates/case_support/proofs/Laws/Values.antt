-- Numbers and addresses that words write: one rule for each way out of `number_of` and `address_of`. From the definitions of Words and the laws of Hex.
use Rattle.std.proofs.Common.{None, Option, Some}
use Prim.Native.Nat.{ℕ, min}
use mathlib.Core.Path.{◌≡◌, refl, ap, ◌∙◌}
use native.Mathlib.Omega.{arith}
use mathlib.Core.List.{List}
use lib.ListN.{length, take, drop, length-take}
use lib.Seq.{take_at}
use Rattle.std.specs.Option.{unwrap_or}
use Rattle.text.specs.Writing.{overwritten}
use Rattle.text.specs.Decimal.{read_decimal}
use Rattle.address.specs.Octets.{from_octets}
use Rattle.address.specs.declared.Address.{Address}
use Rattle.address.specs.declared.Address.TheVariants.{IPv4}
use Rattle.case_support.specs.Words.{hex_bytes, or_zero, number_of, or_unspecified, address_of}

-- a value that was read, or what stands for none
pub zero_or : (x : Option ℕ) → unwrap_or x 0 ≡ or_zero x
zero_or (Some v) = refl
zero_or None = refl

pub unspecified_or : (x : Option Address) → unwrap_or x (IPv4 0) ≡ or_unspecified x
unspecified_or (Some a) = refl
unspecified_or None = refl

module _ (word : List ℕ) where
  pub number_read : (x : Option ℕ) → x ≡ read_decimal 18446744073709551615 word → (v : ℕ) → v ≡ unwrap_or x 0 → v ≡ number_of word
  unfolding number_of
  number_read x p v q = q ∙ zero_or x ∙ ap or_zero p

  pub address_read : (octets : List ℕ) → octets ≡ take 16 (hex_bytes word) → (x : Option Address) → x ≡ from_octets octets
      → (a : Address) → a ≡ unwrap_or x (IPv4 0) → a ≡ address_of word
  unfolding address_of
  address_read octets o x p a q = q ∙ unspecified_or x ∙ ap or_unspecified (p ∙ ap from_octets o)

-- `unhexed`: the front of what `unhex` wrote
pub front_read : (xs before after : List ℕ) (n : ℕ) → n ≡ min (length xs) (length before) → after ≡ overwritten xs before → take n after ≡ take (length before) xs
unfolding overwritten
front_read xs before after n e w = rw w (take_at (take (length before) xs) (drop (length xs) before) n (rw length-take (omega arith)))
