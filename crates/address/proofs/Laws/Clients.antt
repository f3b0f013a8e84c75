-- The octets of a client, and the ways out of `as_client`. Assumes nothing.
use Prim.Native.Nat.{ℕ, ◌/◌, ◌%◌, ◌^◌, ◌<◌}
use mathlib.Core.Path.{◌≡◌, refl, sym, ap, ◌∙◌}
use mathlib.Core.List.{List, ◌++◌, append_assoc}
use mathlib.Core.Bool.{Bool, true, false, cond, ◌&&◌}
use native.Mathlib.Omega.{arith}
use native.Mathlib.Nat.{div-add-mod'}
use lib.ListN.{length, take, drop, length-append}
use lib.Seq.{take_at, drop_at}
use lib.Dec.{eqb}
use borrow.Author.Tests.{eqb-true, eq-eqb, ne_eqb}
use Rattle.text.specs.Lists.{same}
use Rattle.text.proofs.Laws.Tests.{and_left, and_right, and_both, same_tests}
use Rattle.text.proofs.Laws.Words.{same_true, same_refl}
use Rattle.address.specs.declared.Address.{Address}
use Rattle.address.specs.declared.Address.TheVariants.{IPv4, IPv6}
use Rattle.address.specs.Octets.{InRange, octets_of, octets, mapped_prefix, client_octets, as_client}
use Rattle.address.proofs.Laws.OctetValues.{length_octets_of, octets_split, octets_add, octets_injective, octets_first}
use Rattle.address.proofs.Laws.AddressOctets.{length_four, length_sixteen}

-- the octets of an IPv6 address, cut before the last four
module _ (high low : ℕ) where
  cut_low : octets_of 8 low ≡ octets_of 4 (low / 4294967296) ++ octets_of 4 (low % 4294967296)
  cut_low =
      let last : octets_of 4 low ≡ octets_of 4 (low % 4294967296) = sym (ap (octets_of 4) (div-add-mod' low 4294967296)) ∙ octets_add 4 (low / 4294967296) (low % 4294967296) in
      octets_split 4 4 low ∙ ap (λ (l : List ℕ). octets_of 4 (low / 4294967296) ++ l) last

  cut_octets : octets (IPv6 high low) ≡ octets_of 8 high ++ octets_of 4 (low / 4294967296) ++ octets_of 4 (low % 4294967296)
  unfolding octets
  cut_octets = rw (cut_low, append_assoc)

  length_first : length (octets_of 8 high ++ octets_of 4 (low / 4294967296)) ≡ 12
  length_first = simp (length-append, length_octets_of)

  first_twelve : take 12 (octets (IPv6 high low)) ≡ octets_of 8 high ++ octets_of 4 (low / 4294967296)
  first_twelve = rw cut_octets (take_at _ _ 12 length_first)

  last_four : drop 12 (octets (IPv6 high low)) ≡ octets (IPv4 (low % 4294967296))
  unfolding octets
  last_four =
      ap (drop 12) cut_octets ∙ drop_at (octets_of 8 high ++ octets_of 4 (low / 4294967296)) (octets_of 4 (low % 4294967296)) 12 length_first

-- the octets of the prefix are those of 0 and of 65,535
prefix_octets : mapped_prefix ≡ octets_of 8 0 ++ octets_of 4 65535
unfolding mapped_prefix octets_of
prefix_octets = refl

mapped_test : (high low : ℕ) → high < 2 ^ 64 → low < 2 ^ 64
    → same (take 12 (octets (IPv6 high low))) mapped_prefix ≡ (eqb high 0 && eqb (low / 4294967296) 65535)
mapped_test high low hh hl =
    let t = eqb high 0 in
    let u = eqb (low / 4294967296) 65535 in
    same_tests _ _
    (λ h.
    let e : octets_of 8 high ++ octets_of 4 (low / 4294967296) ≡ octets_of 8 0 ++ octets_of 4 65535 = sym (first_twelve high low) ∙ same_true _ _ h ∙ prefix_octets in
    let f = octets_first 8 high 0 hh (omega arith) (octets_of 4 (low / 4294967296)) (octets_of 4 65535) e in
    and_both t u (eq-eqb _ _ f.0) (eq-eqb _ _ (octets_injective 4 (low / 4294967296) 65535 (omega arith) (omega arith) f.1)))
    (λ h.
    let first : high ≡ 0 = eqb-true _ _ (and_left t u h) in
    let second : low / 4294967296 ≡ 65535 = eqb-true _ _ (and_right t u h) in
    let e : take 12 (octets (IPv6 high low)) ≡ mapped_prefix = first_twelve high low ∙ rw (first, second) (sym prefix_octets) in
    rw e (same_refl mapped_prefix))

-- "IPv4-mapped clients count as IPv4": of the address as of its octets
pub client_octets_lem : (a : Address) → InRange a → octets (as_client a) ≡ client_octets (octets a)
unfolding as_client client_octets
client_octets_lem (IPv4 v) p = rw (length_four v)
client_octets_lem (IPv6 high low) p = rw (length_sixteen high low, mapped_test high low p.0 p.1) (by (eqb high 0 && eqb (low / 4294967296) 65535))
  where
    by : (t : Bool) → octets (cond t (IPv4 (low % 4294967296)) (IPv6 high low)) ≡ cond t (drop 12 (octets (IPv6 high low))) (octets (IPv6 high low))
    by true = sym (last_four high low)
    by false = refl

-- the ways out of `as_client`, for a client in range
module _ (a : Address) where
  pub client_mapped : (high low : ℕ) → a ≡ IPv6 high low → high ≡ 0 → low / 4294967296 ≡ 65535 → IPv4 (low % 4294967296) ≡ as_client a
  unfolding as_client
  client_mapped high low e p q = rw e (simp (eq-eqb high 0 p, eq-eqb (low / 4294967296) 65535 q))

  pub client_unmapped : (high low : ℕ) → a ≡ IPv6 high low → (low / 4294967296 ≡ 65535 → ⊥) → a ≡ as_client a
  unfolding as_client
  client_unmapped high low e q = rw (e, ne_eqb (low / 4294967296) 65535 q) (by (eqb high 0))
    where
      by : (t : Bool) → IPv6 high low ≡ cond (t && false) (IPv4 (low % 4294967296)) (IPv6 high low)
      by true = refl
      by false = refl

  pub client_high : (high low : ℕ) → a ≡ IPv6 high low → (high ≡ 0 → ⊥) → a ≡ as_client a
  unfolding as_client
  client_high high low e p = rw (e, ne_eqb high 0 p)

  pub client_four : (v : ℕ) → a ≡ IPv4 v → a ≡ as_client a
  unfolding as_client
  client_four v e = rw e

  -- the octets that go with it
  pub client_right : InRange a → (r : Address) → r ≡ as_client a → octets r ≡ client_octets (octets a)
  client_right p r e = ap octets e ∙ client_octets_lem a p
