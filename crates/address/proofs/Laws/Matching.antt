-- Matching without a test: one family, a length within the width, and so many high-order bits the same; and the same as taught, by whole
-- bytes and the bits left over (`prefix_rule`). Assumes nothing.
use Prim.Native.Nat.{ℕ, ◌*◌}
use mathlib.Core.Path.{◌≡◌, sym, ap, ◌∙◌}
use mathlib.Core.List.{List, ◌++◌}
use mathlib.Core.Bool.{Bool, true, false}
use mathlib.Core.Logic.{◌↔◌}
use native.Mathlib.Omega.{arith}
use lib.ListN.{length}
use Rattle.address.specs.declared.Address.{Address}
use Rattle.address.specs.declared.Address.TheVariants.{IPv4, IPv6}
use Rattle.address.specs.Octets.{octets_of, octets}
use Rattle.address.specs.Matching.{bits, agree, matches_at, Matches, MatchesByBytes, PrefixRule}
use Rattle.address.proofs.Laws.Agreement.{length_bits, agree_iff, agree_by_bytes}
use Rattle.address.proofs.Laws.AddressOctets.{length_four, length_sixteen, bytes_address}

one_family : (a b : Address) (n : ℕ) → length (octets a) ≡ length (octets b) → (agree (octets a) (octets b) n ≡ true) ↔ Matches a b n
one_family a b n e =
    let width : length (bits (octets a)) ≡ length (bits (octets b)) = length_bits (octets a) ∙ ap (λ (k : ℕ). 8 * k) e ∙ sym (length_bits (octets b)) in (
      (λ h. let g = (agree_iff (octets a) (octets b) n).0 h in record { family = e; within_width = g.within_first; agrees = g.the_same }),
      (λ m. (agree_iff (octets a) (octets b) n).1 (record { within_first = m.within_width; within_second = omega (arith, m.within_width); the_same = m.agrees })),
    )

pub matches_iff : (a b : Address) (n : ℕ) → (matches_at a b n ≡ true) ↔ Matches a b n
unfolding matches_at
matches_iff (IPv4 v) (IPv4 w) n = one_family (IPv4 v) (IPv4 w) n (length_four v ∙ sym (length_four w))
matches_iff (IPv6 h l) (IPv6 i m) n = one_family (IPv6 h l) (IPv6 i m) n (length_sixteen h l ∙ sym (length_sixteen i m))
matches_iff (IPv4 v) (IPv6 i m) n =
    ((λ h. absurd (let z : ◌≡◌ {A = ℕ} 0 1 = cc in omega arith)), (λ g. absurd (omega (arith, g.family, length_four v, length_sixteen i m))))
matches_iff (IPv6 h l) (IPv4 w) n =
    ((λ h. absurd (let z : ◌≡◌ {A = ℕ} 0 1 = cc in omega arith)), (λ g. absurd (omega (arith, g.family, length_four w, length_sixteen h l))))

-- the prefix rule as taught, over any width; 32 and 128 cite it
any_width : (width : ℕ) (a b : Address) → 8 * length (octets a) ≡ width → 8 * length (octets b) ≡ width
    → (n : ℕ) → Matches a b n ↔ MatchesByBytes width (octets a) (octets b) n
any_width width a b la lb n =
    let family : length (octets a) ≡ length (octets b) = omega arith in
    let bits_agree = one_family a b n family in
    let taught = agree_by_bytes width (octets a) (octets b) (omega arith) (omega arith) (bytes_address a) (bytes_address b) n in (
      (λ m. (taught (omega (arith, m.within_width, length_bits (octets a)))).0 (bits_agree.1 m)),
      (λ t. bits_agree.0 ((taught t.within_width).1 t)),
    )

pub prefix_rule : PrefixRule
prefix_rule = record {
  any_width = any_width;
  ipv4 = λ v w n. any_width 32 (IPv4 v) (IPv4 w) (omega (arith, length_four v)) (omega (arith, length_four w)) n;
  ipv6 = λ h l i m n. any_width 128 (IPv6 h l) (IPv6 i m) (omega (arith, length_sixteen h l)) (omega (arith, length_sixteen i m)) n;
}

-- the ways out of `matches`
matches_right : (a b : Address) (n : ℕ) (r : Bool) → r ≡ matches_at a b n → (r ≡ matches_at a b n) × ((r ≡ true) ↔ Matches a b n)
matches_right a b n r e = (e, ((λ h. (matches_iff a b n).0 (sym e ∙ h)), (λ m. e ∙ (matches_iff a b n).1 m)))

module _ (a b : Address) (n : ℕ) where
  pub match_four : (v w : ℕ) → a ≡ IPv4 v → b ≡ IPv4 w → (x y : List ℕ) → x ≡ octets_of 4 v → y ≡ octets_of 4 w
      → (r : Bool) → r ≡ agree x y n → (r ≡ matches_at a b n) × ((r ≡ true) ↔ Matches a b n)
  unfolding matches_at octets
  match_four v w p q x y f g r h = matches_right a b n r (rw (p, q, ← f, ← g) h)

  pub match_sixteen : (high low i m : ℕ) → a ≡ IPv6 high low → b ≡ IPv6 i m
      → (x y : List ℕ) → x ≡ octets_of 8 high ++ octets_of 8 low → y ≡ octets_of 8 i ++ octets_of 8 m
      → (r : Bool) → r ≡ agree x y n → (r ≡ matches_at a b n) × ((r ≡ true) ↔ Matches a b n)
  unfolding matches_at octets
  match_sixteen high low i m p q x y f g r h = matches_right a b n r (rw (p, q, ← f, ← g) h)

  pub four_sixteen : (v i m : ℕ) → a ≡ IPv4 v → b ≡ IPv6 i m → (false ≡ matches_at a b n) × ((false ≡ true) ↔ Matches a b n)
  unfolding matches_at
  four_sixteen v i m p q = matches_right a b n false (rw (p, q))

  pub sixteen_four : (high low w : ℕ) → a ≡ IPv6 high low → b ≡ IPv4 w → (false ≡ matches_at a b n) × ((false ≡ true) ↔ Matches a b n)
  unfolding matches_at
  sixteen_four high low w p q = matches_right a b n false (rw (p, q))
