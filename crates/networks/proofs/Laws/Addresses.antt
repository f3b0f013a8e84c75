-- Addresses written as for ip4 or ip6: the reader is sound and complete for both productions together. No text is written both ways: an IPv6
-- network has a colon, and an IPv4 network has none. From the laws of Ip4, Rows and Ip6.
use Rattle.std.proofs.Common.{None, Option, Some}
use Prim.Native.Nat.{ℕ, ◌≤◌}
use mathlib.Core.Path.{◌≡◌, refl, sym, ap, subst, ◌∙◌}
use mathlib.Core.List.{List, ◌∷◌, ◌++◌}
use mathlib.Core.Bool.{Bool, true, false}
use native.Mathlib.Omega.{arith}
use lib.ListN.{length}
use Rattle.text.specs.Bytes.{is_not_colon}
use Rattle.text.specs.Lists.{all}
use Rattle.text.proofs.Laws.Parts.{all_between}
use Rattle.address.specs.declared.Address.{Address}
use Rattle.networks.specs.Grammar.{Row, Ip6Network, full, short, Network4, of_octets, Network6, of_groups}
use Rattle.networks.specs.Answers.{NetworkAnswer, AddressText, four, six}
use Rattle.networks.specs.Reader.{read_ip4}
use Rattle.networks.specs.Reader6.{read_ip6, first_of, read_address}
use Rattle.networks.proofs.Laws.Readings.{network_answer}
use Rattle.networks.proofs.Laws.Ip4.{ip4_sound, ip4_complete}
use Rattle.networks.proofs.Laws.Rows.{ip4_colonless}
use Rattle.networks.proofs.Laws.Ip6.{ip6_sound, ip6_complete}

-- a text without a colon is at most two groups
not_colon : is_not_colon 58 ≡ false
not_colon = refl

colon_between : (u w : List ℕ) → all is_not_colon (u ++ (58 ∷ w)) ≡ true → ⊥
colon_between u w h = let e = all_between is_not_colon u 58 w h in let z : ◌≡◌ {A = ℕ} 0 1 = cc not_colon in omega arith

row_two : {tails : Bool} {w gs : List ℕ} → Row tails w gs → all is_not_colon w ≡ true → length gs ≤ 2
row_two (Row.one g) h = omega arith
row_two (Row.tail n) h = omega arith
row_two (Row.more {w = w} {rest = rest} g r) h = absurd (colon_between w rest h)

ip6_colon : {w gs : List ℕ} → Ip6Network w gs → all is_not_colon w ≡ true → ⊥
ip6_colon (full r e) h = omega (arith, row_two r h)
ip6_colon (short {u = u} {w = w} b a k) h = colon_between u (58 ∷ w) h

colon_six : {s : List ℕ} {a : Address} → Network6 s a → all is_not_colon s ≡ true → ⊥
colon_six (of_groups n) h = ip6_colon n h

colonless_four : {s : List ℕ} {a : Address} → Network4 s a → all is_not_colon s ≡ true
colonless_four (of_octets n) = ip4_colonless n

-- no text is both
pub not_both : {s : List ℕ} {a b : Address} → Network4 s a → Network6 s b → ⊥
not_both p q = colon_six q (colonless_four p)

-- the reader against the productions
pub address_sound : (s : List ℕ) (a : Address) → read_address s ≡ Some a → AddressText s a
unfolding read_address first_of
address_sound s a e = by (read_ip4 s) refl e
  where
    by : (x : Option Address) → read_ip4 s ≡ x → first_of x (read_ip6 s) ≡ Some a → AddressText s a
    by (Some b) p q = let same : b ≡ a = cc in four (ip4_sound s a (p ∙ ap Some same))
    by None p q = six (ip6_sound s a q)

pub address_complete : (s : List ℕ) (a : Address) → AddressText s a → read_address s ≡ Some a
unfolding read_address first_of
address_complete s a (four p) = rw (ip4_complete s a p)
address_complete s a (six p) = by (read_ip4 s) refl
  where
    by : (x : Option Address) → read_ip4 s ≡ x → first_of x (read_ip6 s) ≡ Some a
    by (Some b) q = absurd (not_both (ip4_sound s b q) p)
    by None q = ip6_complete s a p

-- a text writes one address of either family
pub address_one : (s : List ℕ) (a b : Address) → AddressText s a → AddressText s b → a ≡ b
address_one s a b p q = let f = address_complete s a p in let g = address_complete s b q in cc

-- the answer of `read_address`
pub address_answer : (s : List ℕ) (r : Option Address) → r ≡ read_address s → (r ≡ read_address s) × NetworkAnswer (AddressText s) r
address_answer s r e = (e, subst (NetworkAnswer (AddressText s)) (sym e) (network_answer (AddressText s) (read_address s) (address_sound s) (address_complete s)))

-- its ways out
module _ (s : List ℕ) (x : Option Address) (p : x ≡ read_ip4 s) where
  pub address_four : (a : Address) → x ≡ Some a → Some a ≡ read_address s
  unfolding read_address first_of
  address_four a q = rw (sym p ∙ q)

  pub address_six : x ≡ None → (r : Option Address) → r ≡ read_ip6 s → r ≡ read_address s
  unfolding read_address first_of
  address_six q r e = e ∙ rw (sym p ∙ q)
