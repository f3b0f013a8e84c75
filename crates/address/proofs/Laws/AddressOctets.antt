-- An address and its octets, one from the other. Assumes nothing.
use Rattle.std.proofs.Common.{None, Option, Some}
use Prim.Native.Nat.{ℕ, ◌+◌, ◌<◌, ◌^◌}
use mathlib.Core.Path.{◌≡◌, sym, ap, subst, ◌∙◌}
use mathlib.Core.List.{List, ◌++◌}
use native.Mathlib.Omega.{arith}
use Rattle.std.specs.Int.{w32, w64, from_be_bytes}
use lib.ListN.{length, take, drop, length-append, length-take, length-drop, take-append-drop}
use lib.Dec.{eqb}
use borrow.Author.Tests.{eqb-true, ne_eqb}
use Rattle.text.proofs.Laws.Tests.{cond-elim}
use Rattle.address.specs.declared.Address.{Address}
use Rattle.address.specs.declared.Address.TheVariants.{IPv4, IPv6}
use Rattle.address.specs.Octets.{InRange, octets_of, octets, value_of, from_octets}
use Rattle.address.proofs.Laws.OctetValues.{Bytes, length_octets_of, octets_value, octets_injective, octets_first, bytes_take, bytes_drop, bytes_append, bytes_octets, be_four, be_eight}

pub length_four : (v : ℕ) → length (octets (IPv4 v)) ≡ 4
unfolding octets
length_four v = length_octets_of 4 v

pub length_sixteen : (high low : ℕ) → length (octets (IPv6 high low)) ≡ 16
unfolding octets
length_sixteen high low = simp (length-append, length_octets_of)

pub bytes_address : (a : Address) → Bytes (octets a)
unfolding octets
bytes_address (IPv4 v) = bytes_octets 4 v
bytes_address (IPv6 high low) = bytes_append (octets_of 8 high) (octets_of 8 low) (bytes_octets 8 high) (bytes_octets 8 low)

-- what octets are the address of
abbrev OctetsOf : List ℕ → Option Address → Type 0
OctetsOf s (Some a) = octets a ≡ s
OctetsOf s None = Unit {0}

module _ (s : List ℕ) (h : Bytes s) where
  from_four : length s ≡ 4 → octets_of 4 (value_of s) ≡ s
  unfolding value_of
  from_four e = rw e at (octets_value 0 s h)

  from_sixteen : length s ≡ 16 → octets_of 8 (value_of (take 8 s)) ++ octets_of 8 (value_of (drop 8 s)) ≡ s
  unfolding value_of
  from_sixteen e =
      let front : length (take 8 s) ≡ 8 = simp length-take (omega arith) in
      let back : length (drop 8 s) ≡ 8 = simp length-drop (omega arith) in
      let high = rw front at (octets_value 0 (take 8 s) (bytes_take 8 s h)) in
      let low = rw back at (octets_value 0 (drop 8 s) (bytes_drop 8 s h)) in
      rw (high, low) (take-append-drop 8 s)

  from_right : OctetsOf s (from_octets s)
  unfolding from_octets octets
  from_right =
      cond-elim (OctetsOf s) (eqb (length s) 4) (λ e. from_four (eqb-true _ _ e))
      (λ _. cond-elim (OctetsOf s) (eqb (length s) 16) (λ e. from_sixteen (eqb-true _ _ e)) (λ _. tt))

  -- the address that octets are has those octets: this tells a reader what `from_octets` answers, without numbers
  pub octets_from : (a : Address) → from_octets s ≡ Some a → octets a ≡ s
  octets_from a e = subst (OctetsOf s) e from_right

-- an address in range is the only one of its octets: this tells a reader that nothing is lost where an address is taken as its octets
pub octets_one : (a b : Address) → InRange a → InRange b → octets a ≡ octets b → a ≡ b
unfolding octets
octets_one (IPv4 v) (IPv4 w) p q e = ap IPv4 (octets_injective 4 v w p q e)
octets_one (IPv6 h l) (IPv6 i m) p q e =
    let f = octets_first 8 h i p.0 q.0 (octets_of 8 l) (octets_of 8 m) e in
    let first : h ≡ i = f.0 in
    let second : l ≡ m = octets_injective 8 l m p.1 q.1 f.1 in
    cc
octets_one (IPv4 v) (IPv6 i m) p q e = absurd (omega (arith, length_four v, length_sixteen i m, ap length e))
octets_one (IPv6 h l) (IPv4 w) p q e = absurd (omega (arith, length_four w, length_sixteen h l, ap length e))

-- the ways out of `from_octets`
module _ (s : List ℕ) where
  pub from_none : (length s ≡ 4 → ⊥) → (length s ≡ 16 → ⊥) → None ≡ from_octets s
  unfolding from_octets
  from_none p q = simp (ne_eqb _ _ p, ne_eqb _ _ q)

  module _ (h : Bytes s) where
    pub from_array : length s ≡ 4 → (v : List ℕ) → v ≡ s → (x : ℕ) → x < 2 ^ 32 → x ≡ from_be_bytes w32 v → Some (IPv4 x) ≡ from_octets s
    unfolding from_octets
    from_array e v p x l q = simp (e, be_four s x h e l (q ∙ ap (from_be_bytes w32) p))

    pub from_halves : (front rest back : List ℕ) → front ≡ take 8 s → rest ≡ drop 8 s → length rest + 8 ≡ length s → length rest ≡ 8 → back ≡ rest
        → (high low : ℕ) → high < 2 ^ 64 → low < 2 ^ 64 → high ≡ from_be_bytes w64 front → low ≡ from_be_bytes w64 back
        → Some (IPv6 high low) ≡ from_octets s
    unfolding from_octets
    from_halves front rest back p q n e r high low hh hl f g =
        let sixteen : length s ≡ 16 = omega arith in
        let size : length (take 8 s) ≡ 8 = simp length-take (omega arith) in
        let first : high ≡ value_of (take 8 s) = be_eight (take 8 s) high (bytes_take 8 s h) size hh (f ∙ ap (from_be_bytes w64) p) in
        let second : low ≡ value_of (drop 8 s) = be_eight (drop 8 s) low (bytes_drop 8 s h) (ap length (sym q) ∙ e) hl (g ∙ ap (from_be_bytes w64) (r ∙ q)) in
        simp (sixteen, first, second)
