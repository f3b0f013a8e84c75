-- Addresses match at a length within the width exactly if they are equal after clearing the bits below it (`clearing_rule`): the bits of an address
-- are the binary digits of its numbers, and the high-order digits of a number are those of a quotient. Assumes nothing.
use Prim.Native.Nat.{ℕ, zero, suc, ◌+◌, ◌-◌, ◌*◌, ◌/◌, ◌%◌, ◌^◌, ◌≤◌, ◌<◌, min}
use mathlib.Core.Path.{◌≡◌, refl, sym, ap, ◌∙◌}
use mathlib.Core.List.{List, [], ◌∷◌, ◌++◌, append_assoc, append-nil}
use mathlib.Core.Bool.{Bool, true, false}
use mathlib.Core.Logic.{◌↔◌}
use native.Mathlib.Omega.{arith}
use native.Mathlib.Numerals.{add-one}
use native.Mathlib.Nat.{zero-sub, sub-zero, suc-sub-suc, add-zero, add-suc, div-one, pow-zero, pow-suc, pow-succ', div-div-eq-div-mul}
use native.Mathlib.Nat.{div-eq_of_lt, div-mul-le_self, mod-eq_of_lt, lt_of_lt_of_le, lt_of_le_of_lt}
use lib.ListN.{length, take, drop, length-append, length-take}
use lib.Seq.{take_all, take_at, drop_at}
use lib.Pow.{pow_mono, shr_lt, shl-shr}
use lib.Dec.{leb}
use borrow.Author.Tests.{leb-true, leb-false}
use Rattle.address.specs.declared.Address.{Address}
use Rattle.address.specs.declared.Address.TheVariants.{IPv4, IPv6}
use Rattle.address.specs.Octets.{InRange, octets_of, octets}
use Rattle.address.specs.Matching.{bits_of, bits, Matches}
use Rattle.address.specs.Clearing.{cleared_low, cleared, ClearingRule}
use Rattle.address.proofs.Laws.AddressOctets.{length_four, length_sixteen}

-- the m low-order binary digits of a number, high-order first
unfoldable digits : ℕ → ℕ → List ℕ
digits zero v = []
digits (suc m) v = digits m (v / 2) ++ (v % 2 ∷ [])

length_digits : (m v : ℕ) → length (digits m v) ≡ m
unfolding digits
length_digits zero v = refl
length_digits (suc m) v = rw (length-append, length_digits m (v / 2), add-one)

-- a number in two parts
digits_split : (n m v : ℕ) → digits (n + m) v ≡ digits n (v / 2 ^ m) ++ digits m v
unfolding digits
digits_split n zero v = rw (add-zero, pow-zero, div-one, append-nil)
digits_split n (suc m) v = rw (add-suc, digits_split n m (v / 2), div-div-eq-div-mul v 2 (2 ^ m), append_assoc, pow-succ' 2 m)

-- the bits of octets are digits
octet_digits : (v : ℕ) → bits_of (v % 256) ≡ digits 8 v
unfolding bits_of digits
octet_digits v =
    let b₁ : v % 256 / 128 % 2 ≡ v / 2 / 2 / 2 / 2 / 2 / 2 / 2 % 2 = omega arith in
    let b₂ : v % 256 / 64 % 2 ≡ v / 2 / 2 / 2 / 2 / 2 / 2 % 2 = omega arith in
    let b₃ : v % 256 / 32 % 2 ≡ v / 2 / 2 / 2 / 2 / 2 % 2 = omega arith in
    let b₄ : v % 256 / 16 % 2 ≡ v / 2 / 2 / 2 / 2 % 2 = omega arith in
    let b₅ : v % 256 / 8 % 2 ≡ v / 2 / 2 / 2 % 2 = omega arith in
    let b₆ : v % 256 / 4 % 2 ≡ v / 2 / 2 % 2 = omega arith in
    let b₇ : v % 256 / 2 % 2 ≡ v / 2 % 2 = omega arith in
    let b₈ : v % 256 / 1 % 2 ≡ v % 2 = omega arith in
    cc

bits_append : (s t : List ℕ) → bits (s ++ t) ≡ bits s ++ bits t
unfolding bits
bits_append [] t = refl
bits_append (o ∷ s) t = rw (bits_append s t, append_assoc)

bits_digits : (k v : ℕ) → bits (octets_of k v) ≡ digits (8 * k) v
unfolding bits octets_of digits
bits_digits zero v = refl
bits_digits (suc k) v =
    let more : 8 * suc k ≡ 8 * k + 8 = omega arith in
    bits_append (octets_of k (v / 256)) (v % 256 ∷ []) ∙ rw (bits_digits k (v / 256), append-nil, octet_digits, more, digits_split (8 * k) 8 v)

-- equal lists, part by part
parts : (n : ℕ) (s t x y : List ℕ) → length s ≡ n → length t ≡ n → s ++ x ≡ t ++ y → (s ≡ t) × (x ≡ y)
parts n s t x y ls lt e = (
  sym (take_at s x n ls) ∙ ap (take n) e ∙ take_at t y n lt,
  sym (drop_at s x n ls) ∙ ap (drop n) e ∙ drop_at t y n lt,
)

take_append : (n : ℕ) (s t : List ℕ) → take n (s ++ t) ≡ take n s ++ take (n - length s) t
take_append zero s t = rw zero-sub
take_append (suc n) [] t = rw sub-zero
take_append (suc n) (x ∷ s) t = rw (suc-sub-suc, take_append n s t)

-- two numbers in range with the same digits are the same
digits_one : (n v w : ℕ) → v < 2 ^ n → w < 2 ^ n → digits n v ≡ digits n w → v ≡ w
unfolding digits
digits_one zero v w hv hw e = omega (arith, pow-zero 2)
digits_one (suc n) v w hv hw e =
    let p = pow-suc 2 n in
    let f = parts n (digits n (v / 2)) (digits n (w / 2)) _ _ (length_digits n (v / 2)) (length_digits n (w / 2)) e in
    let high = digits_one n (v / 2) (w / 2) (omega arith) (omega arith) f.0 in
    let low : v % 2 ≡ w % 2 = cc in
    omega arith

-- equal quotients are equal numbers with the rest cleared
quotients : (k v w : ℕ) → (v / 2 ^ k ≡ w / 2 ^ k) ↔ (cleared_low k v ≡ cleared_low k w)
unfolding cleared_low
quotients k v w = (
  (λ e. ap (λ (q : ℕ). q * 2 ^ k) e),
  (λ e. sym (shl-shr (v / 2 ^ k) k) ∙ ap (λ (x : ℕ). x / 2 ^ k) e ∙ shl-shr (w / 2 ^ k) k),
)

-- the rule for numbers of m digits, by their first n
abbrev Rule : ℕ → ℕ → ℕ → ℕ → Type 0
Rule m v w n = (take n (digits m v) ≡ take n (digits m w)) ↔ (cleared_low (m - n) v ≡ cleared_low (m - n) w)

first_digits : (n k v : ℕ) → take n (digits (n + k) v) ≡ digits n (v / 2 ^ k)
first_digits n k v = ap (take n) (digits_split n k v) ∙ take_at (digits n (v / 2 ^ k)) (digits k v) n (length_digits n (v / 2 ^ k))

-- more than m are all m
all_digits : (m n v : ℕ) → m ≤ n → take n (digits m v) ≡ take m (digits m v)
all_digits m n v h = let l = length_digits m v in take_all n (digits m v) (omega arith) ∙ sym (take_all m (digits m v) (omega arith))

module _ (m v w : ℕ) (hv : v < 2 ^ m) (hw : w < 2 ^ m) where
  within : (n : ℕ) → n ≤ m → Rule m v w n
  within n h =
      let k = m - n in
      let e : n + k ≡ m = omega arith in
      let first_v = rw e at (first_digits n k v) in
      let first_w = rw e at (first_digits n k w) in
      let q = quotients k v w in (
        (λ f. q.0 (digits_one n (v / 2 ^ k) (w / 2 ^ k) (shr_lt n k (rw e hv)) (shr_lt n k (rw e hw)) (sym first_v ∙ f ∙ first_w))),
        (λ f. first_v ∙ ap (digits n) (q.1 f) ∙ sym first_w),
      )

  number_rule : (n : ℕ) → Rule m v w n
  number_rule n = by (leb n m) refl
    where
      by : (b : Bool) → leb n m ≡ b → Rule m v w n
      by true q = within n (leb-true n m q)
      by false q =
          let over = leb-false n m q in
          let none : m - n ≡ m - m = omega arith in
          rw (none, all_digits m n v (omega arith), all_digits m n w (omega arith)) (within m (omega arith))

-- the first n bits of two addresses are the same
abbrev SameFirst : Address → Address → ℕ → Type 0
SameFirst a b n = take n (bits (octets a)) ≡ take n (bits (octets b))

four_rule : (v w n : ℕ) → InRange (IPv4 v) → InRange (IPv4 w) → SameFirst (IPv4 v) (IPv4 w) n ↔ (cleared (IPv4 v) n ≡ cleared (IPv4 w) n)
unfolding octets cleared
four_rule v w n p q =
    let r = number_rule 32 v w p q n in
    rw (bits_digits 4 v, bits_digits 4 w) ((λ e. ap IPv4 (r.0 e)), (λ e. r.1 (cc)))

half_bits : (high low n : ℕ) → take n (bits (octets (IPv6 high low))) ≡ take n (digits 64 high) ++ take (n - 64) (digits 64 low)
unfolding octets
half_bits high low n =
    ap (take n) (bits_append (octets_of 8 high) (octets_of 8 low))
    ∙ rw (bits_digits 8 high, bits_digits 8 low, take_append n (digits 64 high) (digits 64 low), length_digits 64 high)

sixteen_rule : (h l i m n : ℕ) → InRange (IPv6 h l) → InRange (IPv6 i m)
    → SameFirst (IPv6 h l) (IPv6 i m) n ↔ (cleared (IPv6 h l) n ≡ cleared (IPv6 i m) n)
unfolding cleared
sixteen_rule h l i m n p q =
    let high = number_rule 64 h i p.0 q.0 n in
    let low = number_rule 64 l m p.1 q.1 (n - 64) in
    let size : (x : ℕ) → length (take n (digits 64 x)) ≡ min n 64 = λ x. simp (length-take, length_digits) in
    rw (half_bits h l n, half_bits i m n) (
      (λ e.
          let f = parts (min n 64) (take n (digits 64 h)) (take n (digits 64 i)) _ _ (size h) (size i) e in
          let first = high.0 f.0 in
          let second = low.0 f.1 in
          cc),
      (λ e.
          let first = high.1 (cc) in
          let second = low.1 (cc) in
          cc),
    )

-- of one family: `Matches` says no more than the first bits
one_family : (a b : Address) (n : ℕ) → length (octets a) ≡ length (octets b) → n ≤ length (bits (octets a))
    → SameFirst a b n ↔ (cleared a n ≡ cleared b n) → Matches a b n ↔ (cleared a n ≡ cleared b n)
one_family a b n f h r = ((λ m. r.0 m.agrees), (λ e. record { family = f; within_width = h; agrees = r.1 e }))

rule : (a b : Address) (n : ℕ) → InRange a → InRange b → n ≤ length (bits (octets a)) → Matches a b n ↔ (cleared a n ≡ cleared b n)
unfolding cleared
rule (IPv4 v) (IPv4 w) n p q h = one_family (IPv4 v) (IPv4 w) n (length_four v ∙ sym (length_four w)) h (four_rule v w n p q)
rule (IPv6 i l) (IPv6 j m) n p q h =
    one_family (IPv6 i l) (IPv6 j m) n (length_sixteen i l ∙ sym (length_sixteen j m)) h (sixteen_rule i l j m n p q)
rule (IPv4 v) (IPv6 j m) n p q h =
    ((λ g. absurd (omega (arith, g.family, length_four v, length_sixteen j m))), (λ e. absurd (let z : ◌≡◌ {A = ℕ} 0 1 = cc in omega arith)))
rule (IPv6 i l) (IPv4 w) n p q h =
    ((λ g. absurd (omega (arith, g.family, length_four w, length_sixteen i l))), (λ e. absurd (let z : ◌≡◌ {A = ℕ} 0 1 = cc in omega arith)))

pub clearing_rule : ClearingRule
clearing_rule = record { rule = rule }

-- `clear_low`: nothing is left if all 64 bits are cleared, and no other bit is shifted out
module _ (n v : ℕ) (h : v < 2 ^ 64) where
  pub cleared_whole : 64 ≤ n → 0 ≡ cleared_low n v
  unfolding cleared_low
  cleared_whole l = rw (div-eq_of_lt (lt_of_lt_of_le h (pow_mono l))) (omega arith)

  pub cleared_shifted : v / 2 ^ n * 2 ^ n % 2 ^ 64 ≡ cleared_low n v
  unfolding cleared_low
  cleared_shifted = mod-eq_of_lt (lt_of_le_of_lt (div-mul-le_self v (2 ^ n)) h)

-- `cleared`: an IPv4 number stays one, and the answer by family
pub cleared_fits : (k v x : ℕ) → x ≡ cleared_low k v → v < 2 ^ 32 → x < 2 ^ 32
unfolding cleared_low
cleared_fits k v x e h = omega (arith, div-mul-le_self v (2 ^ k))

pub cleared_four : (a : Address) (n v : ℕ) → a ≡ IPv4 v → (u : ℕ) → u ≡ v → (k : ℕ) → k ≡ 32 - n → (x : ℕ) → x ≡ cleared_low k u → IPv4 x ≡ cleared a n
unfolding cleared
cleared_four a n v e u p k f x g = rw (e, ← p, ← f) (ap IPv4 g)

pub cleared_sixteen : (a : Address) (n high low : ℕ) → a ≡ IPv6 high low
    → (k : ℕ) → k ≡ 64 - n → (x : ℕ) → x ≡ cleared_low k high
    → (m : ℕ) → m ≡ n - 64 → (l : ℕ) → l ≡ 64 - m → (y : ℕ) → y ≡ cleared_low l low
    → IPv6 x y ≡ cleared a n
unfolding cleared
cleared_sixteen a n high low e k f x g m i l j y o = rw (e, ← i, ← f, ← j, ← g, ← o)
