-- Octets and the numbers that they write. Assumes nothing.
use Prim.Native.Nat.{ℕ, zero, suc, ◌+◌, ◌*◌, ◌/◌, ◌%◌, ◌^◌, ◌<◌}
use mathlib.Core.Path.{◌≡◌, refl, sym, ap, ◌∙◌}
use mathlib.Core.List.{List, [], ◌∷◌, ◌++◌, append_assoc, append-nil}
use native.Mathlib.Omega.{arith}
use native.Mathlib.Numerals.{add-one, one-add}
use native.Mathlib.Nat.{add-zero, add-suc, mul_assoc, div-one, pow-zero, pow-suc, pow-succ', div-lt_iff_lt-mul, div-div-eq-div-mul, mul-add-div_right, mul-add-mod_self_right}
use Rattle.std.specs.Int.{w32, w64, byte_at, bytes_high_first, from_be_bytes}
use Rattle.std.proofs.lemmas.Nat.{be_bytes_4, be_bytes_8}
use lib.ListN.{length, get_or, take, drop, length-append}
use lib.Seq.{get_or-drop, take_at, drop_at}
use Rattle.address.specs.Octets.{octets_of, value_from, value_of}

-- octets are below 256
abbrev pub Bytes : List ℕ → Type 0
Bytes s = (i : ℕ) → get_or s i 0 < 256

pub length_octets_of : (n v : ℕ) → length (octets_of n v) ≡ n
unfolding octets_of
length_octets_of zero v = refl
length_octets_of (suc n) v = rw (length-append, length_octets_of n (v / 256), add-one)

-- a number in two parts
pub octets_split : (n m v : ℕ) → octets_of (n + m) v ≡ octets_of n (v / 256 ^ m) ++ octets_of m v
unfolding octets_of
octets_split n zero v = rw (add-zero, pow-zero, div-one, append-nil)
octets_split n (suc m) v =
    rw (add-suc, octets_split n m (v / 256), div-div-eq-div-mul v 256 (256 ^ m), append_assoc, pow-succ' 256 m)

-- higher octets don't count
pub octets_add : (n q v : ℕ) → octets_of n (q * 256 ^ n + v) ≡ octets_of n v
unfolding octets_of
octets_add zero q v = refl
octets_add (suc n) q v = rw (pow-suc, ← (mul_assoc q (256 ^ n) 256), mul-add-div_right {m = 256} (omega arith) (q * 256 ^ n) v, mul-add-mod_self_right (q * 256 ^ n) 256 v, octets_add n q (v / 256))

-- one octet more
pub value_snoc : (v : ℕ) (s : List ℕ) (o : ℕ) → value_from v (s ++ (o ∷ [])) ≡ 256 * value_from v s + o
unfolding value_from
value_snoc v [] o = refl
value_snoc v (x ∷ s) o = value_snoc (256 * v + x) s o

-- the octets of a number in range write the number
pub value_octets : (n v : ℕ) → v < 256 ^ n → value_of (octets_of n v) ≡ v
unfolding octets_of value_of value_from
value_octets zero v h = omega arith
value_octets (suc n) v h =
    value_snoc 0 (octets_of n (v / 256)) (v % 256)
    ∙ rw (value_octets n (v / 256) ((div-lt_iff_lt-mul (omega arith)).1 (rw pow-suc at h))) (omega arith)

-- the value without the octets that follow
pub value_div : (v : ℕ) (s : List ℕ) → Bytes s → value_from v s / 256 ^ length s ≡ v
unfolding value_from
value_div v [] h = rw (pow-zero) (div-one v)
value_div v (o ∷ s) h =
    let first : o < 256 = h 0 in
    rw (pow-suc, ← (div-div-eq-div-mul (value_from (256 * v + o) s) (256 ^ length s) 256), value_div (256 * v + o) s (λ i. h (suc i))) (omega arith)

-- octets are those of the number that they write
pub octets_value : (v : ℕ) (s : List ℕ) → Bytes s → octets_of (length s) (value_from v s) ≡ s
unfolding octets_of value_from
octets_value v [] h = refl
octets_value v (o ∷ s) h =
    let first : o < 256 = h 0 in
    let n = length s in
    let w = value_from (256 * v + o) s in
    let here : w / 256 ^ n % 256 ≡ o = rw (value_div (256 * v + o) s (λ i. h (suc i))) (omega arith) in
    let rest : (w / 256 ^ n % 256) ∷ octets_of n w ≡ o ∷ s = rw (here, octets_value (256 * v + o) s (λ i. h (suc i))) in
    (rw (one-add n) at (octets_split 1 n w)) ∙ rest

-- octets of a part are octets
pub bytes_take : (n : ℕ) (s : List ℕ) → Bytes s → Bytes (take n s)
bytes_take zero s h i = omega arith
bytes_take (suc n) [] h i = omega arith
bytes_take (suc n) (x ∷ s) h zero = h 0
bytes_take (suc n) (x ∷ s) h (suc i) = bytes_take n s (λ j. h (suc j)) i

pub bytes_drop : (n : ℕ) (s : List ℕ) → Bytes s → Bytes (drop n s)
bytes_drop n s h i = rw (get_or-drop n s i 0) (h (n + i))

pub bytes_append : (s t : List ℕ) → Bytes s → Bytes t → Bytes (s ++ t)
bytes_append [] t hs ht i = ht i
bytes_append (x ∷ s) t hs ht zero = hs 0
bytes_append (x ∷ s) t hs ht (suc i) = bytes_append s t (λ j. hs (suc j)) ht i

-- the octets of a number are octets
pub bytes_octets : (n v : ℕ) → Bytes (octets_of n v)
unfolding octets_of
bytes_octets zero v i = omega arith
bytes_octets (suc n) v i = bytes_append (octets_of n (v / 256)) (v % 256 ∷ []) (bytes_octets n (v / 256)) last i
  where
    last : Bytes (v % 256 ∷ [])
    last zero = omega arith
    last (suc i) = omega arith

-- two numbers in range with the same octets are the same
pub octets_injective : (n v w : ℕ) → v < 256 ^ n → w < 256 ^ n → octets_of n v ≡ octets_of n w → v ≡ w
octets_injective n v w hv hw e = sym (value_octets n v hv) ∙ ap value_of e ∙ value_octets n w hw

-- and so are what follows them
pub octets_first : (n v w : ℕ) → v < 256 ^ n → w < 256 ^ n → (s t : List ℕ) → octets_of n v ++ s ≡ octets_of n w ++ t → (v ≡ w) × (s ≡ t)
octets_first n v w hv hw s t e = (
  octets_injective n v w hv hw (sym (take_at (octets_of n v) s n (length_octets_of n v)) ∙ ap (take n) e ∙ take_at (octets_of n w) t n (length_octets_of n w)),
  sym (drop_at (octets_of n v) s n (length_octets_of n v)) ∙ ap (drop n) e ∙ drop_at (octets_of n w) t n (length_octets_of n w),
)

-- the octets of a number are the bytes that `to_be_bytes` gives, and the number that they write is what `from_be_bytes` reads
pub be_octets : (n v : ℕ) → bytes_high_first n v ≡ octets_of n v
unfolding octets_of
be_octets zero v = refl
be_octets (suc n) v = rw (be_octets n v, first n) (sym (rw one-add at (octets_split 1 n v)))
  where
    first : (n : ℕ) → byte_at n v ≡ v / 256 ^ n % 256
    first zero = rw (pow-zero, div-one)
    first (suc n) = refl

module _ (s : List ℕ) (v : ℕ) (h : Bytes s) where
  pub be_four : length s ≡ 4 → v < 2 ^ 32 → v ≡ from_be_bytes w32 s → v ≡ value_of s
  be_four e l p = sym (value_octets 4 v l) ∙ ap value_of (sym (be_octets 4 v) ∙ be_bytes_4 s v e h p)

  pub be_eight : length s ≡ 8 → v < 2 ^ 64 → v ≡ from_be_bytes w64 s → v ≡ value_of s
  be_eight e l p = sym (value_octets 8 v l) ∙ ap value_of (sym (be_octets 8 v) ∙ be_bytes_8 s v e h p)
