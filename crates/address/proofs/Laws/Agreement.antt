-- When high-order bits agree: without a test, and as taught, by whole bytes and the bits of one byte more. Assumes nothing.
use Prim.Native.Nat.{ℕ, zero, suc, ◌+◌, ◌*◌, ◌/◌, ◌%◌, ◌≤◌, ◌<◌}
use mathlib.Core.Path.{◌≡◌, refl, sym, ap, ◌∙◌}
use mathlib.Core.List.{List, [], ◌∷◌, ◌++◌, append_assoc}
use mathlib.Core.Bool.{true, ◌&&◌}
use mathlib.Core.Logic.{◌↔◌}
use native.Mathlib.Omega.{arith}
use lib.ListN.{length, get_or, take, drop, length-take}
use lib.Seq.{take-append-le, take-append-add, take_at, drop_at}
use lib.Dec.{leb}
use borrow.Author.Tests.{leb-true, le-leb}
use Rattle.text.specs.Lists.{same}
use Rattle.text.proofs.Laws.Tests.{and_left, and_right, and_both}
use Rattle.text.proofs.Laws.Words.{same_true, true_same}
use Rattle.address.specs.Matching.{bits_of, bits, agree, high_bits, MatchesByBytes}
use Rattle.address.proofs.Laws.OctetBits.{shifted_bits, same_bits}
use Rattle.address.proofs.Laws.OctetValues.{Bytes, bytes_take}

pub length_bits : (s : List ℕ) → length (bits s) ≡ 8 * length s
unfolding bits bits_of
length_bits [] = refl
length_bits (o ∷ s) = let ih = length_bits s in omega arith

-- agreement without a test
pub record Agreed (a b : List ℕ) (n : ℕ) : Type 0 where
  pub within_first : n ≤ length (bits a)
  pub within_second : n ≤ length (bits b)
  pub the_same : take n (bits a) ≡ take n (bits b)

pub agree_iff : (a b : List ℕ) (n : ℕ) → (agree a b n ≡ true) ↔ Agreed a b n
unfolding agree
agree_iff a b n =
    let p = leb n (length (bits a)) in
    let q = leb n (length (bits b)) in
    let r = same (take n (bits a)) (take n (bits b)) in (
      (λ h. let i = and_right p (q && r) h in record {
        within_first = leb-true _ _ (and_left p (q && r) h);
        within_second = leb-true _ _ (and_left q r i);
        the_same = same_true _ _ (and_right q r i);
      }),
      (λ g. and_both p (q && r) (le-leb _ _ g.within_first)
          (and_both q r (le-leb _ _ g.within_second) (true_same _ _ g.the_same))),
    )

-- the first 8 * k + r bits are those of k whole bytes and r of the next
abbrev front : ℕ → ℕ → List ℕ → List ℕ
front k r s = bits (take k s) ++ take r (bits_of (get_or s k 0))

front_bits : (k r : ℕ) (s : List ℕ) → r < 8 → 8 * k + r ≤ 8 * length s → take (8 * k + r) (bits s) ≡ front k r s
unfolding bits bits_of
front_bits zero zero s hr h = refl
front_bits zero (suc r) [] hr h = absurd (omega arith)
front_bits zero (suc r) (x ∷ s) hr h =
    let none : 8 * 0 + suc r ≡ suc r = omega arith in
    ap (λ (n : ℕ). take n (bits (x ∷ s))) none ∙ take-append-le (suc r) (bits_of x) (bits s) (omega arith)
front_bits (suc k) r [] hr h = absurd (omega arith)
front_bits (suc k) r (x ∷ s) hr h =
    let more : 8 * suc k + r ≡ 8 + (8 * k + r) = omega arith in
    ap (λ (n : ℕ). take n (bits (x ∷ s))) more
    ∙ take-append-add (bits_of x) (bits s) (8 * k + r)
    ∙ ap (λ (l : List ℕ). bits_of x ++ l) (front_bits k r s hr (omega arith))
    ∙ sym (append_assoc (bits_of x) (bits (take k s)) (take r (bits_of (get_or s k 0))))

length_whole : (k : ℕ) (s : List ℕ) → k ≤ length s → length (bits (take k s)) ≡ 8 * k
length_whole k s h = let e : length (take k s) ≡ k = simp length-take (omega arith) in length_bits (take k s) ∙ ap (λ (n : ℕ). 8 * n) e

-- so they agree exactly when those of the whole bytes are the same, and those of the next
agree_parts : (a b : List ℕ) (k r n : ℕ) → 8 * k + r ≡ n → r < 8 → n ≤ 8 * length a → n ≤ 8 * length b
    → (agree a b n ≡ true) ↔ ((bits (take k a) ≡ bits (take k b)) × (take r (bits_of (get_or a k 0)) ≡ take r (bits_of (get_or b k 0))))
agree_parts a b k r n e hr la lb =
    let left = ap (λ (m : ℕ). take m (bits a)) (sym e) ∙ front_bits k r a hr (omega arith) in
    let right = ap (λ (m : ℕ). take m (bits b)) (sym e) ∙ front_bits k r b hr (omega arith) in
    let whole_a = length_whole k a (omega arith) in
    let whole_b = length_whole k b (omega arith) in
    let test = agree_iff a b n in (
      (λ h. let f = sym left ∙ (test.0 h).the_same ∙ right in (
        sym (take_at (bits (take k a)) _ (8 * k) whole_a) ∙ ap (take (8 * k)) f ∙ take_at (bits (take k b)) _ (8 * k) whole_b,
        sym (drop_at (bits (take k a)) _ (8 * k) whole_a) ∙ ap (drop (8 * k)) f ∙ drop_at (bits (take k b)) _ (8 * k) whole_b,
      )),
      (λ p.
          let whole = p.0 in
          let next = p.1 in
          let fronts : front k r a ≡ front k r b = cc in
          test.1 (record {
            within_first = omega (arith, length_bits a);
            within_second = omega (arith, length_bits b);
            the_same = left ∙ fronts ∙ sym right;
          })),
    )

-- bytes with the same bits are the same
bits_one : (a b : List ℕ) → Bytes a → Bytes b → bits a ≡ bits b → a ≡ b
unfolding bits bits_of
bits_one [] [] ha hb e = refl
bits_one [] (y ∷ t) ha hb e = absurd (omega (arith, ap length e))
bits_one (x ∷ s) [] ha hb e = absurd (omega (arith, ap length e))
bits_one (x ∷ s) (y ∷ t) ha hb e =
    let first : x ≡ y = (same_bits x y (ha 0) (hb 0)).1 (ap (take 8) e) in
    let others : s ≡ t = bits_one s t (λ i. ha (suc i)) (λ i. hb (suc i)) (ap (drop 8) e) in
    cc

-- no bits, or those whose number is the same
left_over : (r x y : ℕ) → r < 8 → x < 256 → y < 256 → (0 < r → high_bits r x ≡ high_bits r y) → take r (bits_of x) ≡ take r (bits_of y)
unfolding high_bits
left_over zero x y hr hx hy h = refl
left_over (suc r) x y hr hx hy h = (shifted_bits (suc r) x y (omega arith) hx hy).0 (h (omega arith))

-- the rule as taught, over any width: of bytes that are at least so wide, n bits agree exactly when the whole bytes do, and any bits left over
pub agree_by_bytes : (width : ℕ) (a b : List ℕ) → width ≤ 8 * length a → width ≤ 8 * length b → Bytes a → Bytes b
    → (n : ℕ) → n ≤ width → (agree a b n ≡ true) ↔ MatchesByBytes width a b n
unfolding high_bits
agree_by_bytes width a b la lb ha hb n h =
    let k = n / 8 in
    let r = n % 8 in
    let parts = agree_parts a b k r n (omega arith) (omega arith) (omega arith) (omega arith) in (
      (λ t. let p = parts.0 t in record {
        within_width = h;
        whole_bytes = bits_one _ _ (bytes_take k a ha) (bytes_take k b hb) p.0;
        bits_left_over = λ _. (shifted_bits r _ _ (omega arith) (ha k) (hb k)).1 p.1;
      }),
      (λ m. parts.1 (ap bits m.whole_bytes, left_over r _ _ (omega arith) (ha k) (hb k) m.bits_left_over)),
    )
