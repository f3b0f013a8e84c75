-- The rules by which `is_within_width` and `agrees` compare, from the laws of agreement. Assumes nothing.
use Prim.Native.Nat.{ℕ, ◌*◌, ◌/◌, ◌%◌, ◌≤◌, ◌<◌}
use mathlib.Core.Path.{◌≡◌, sym, ◌∙◌}
use mathlib.Core.List.{List}
use mathlib.Core.Bool.{Bool, true, false}
use mathlib.Core.Logic.{◌↔◌}
use native.Mathlib.Omega.{arith}
use lib.ListN.{length, get_or, take}
use lib.Dec.{leb, ltb, eqb}
use mir.Syntax.{w8}
use mir.Val.{Fits}
use borrow.Author.Tests.{leb-true, leb-false, le-leb, ltb-true, lt-ltb, eqb-true, eq-eqb}
use Rattle.text.specs.Lists.{same}
use Rattle.text.proofs.Laws.Tests.{fails_test, same_tests}
use Rattle.text.proofs.Laws.Words.{same_true, same_false}
use Rattle.address.specs.Matching.{agree, high_bits, MatchesByBytes}
use Rattle.address.proofs.Laws.Agreement.{length_bits, agree_iff, agree_by_bytes}

-- `is_within_width`
module _ (n l : ℕ) where
  pub within_whole : n % 8 ≡ 0 → leb (n / 8) l ≡ leb n (8 * l)
  within_whole h = same_tests _ _
      (λ e. le-leb n (8 * l) (omega (arith, leb-true (n / 8) l e)))
      (λ e. le-leb (n / 8) l (omega (arith, leb-true n (8 * l) e)))

  pub within_part : (n % 8 ≡ 0 → ⊥) → ltb (n / 8) l ≡ leb n (8 * l)
  within_part h = same_tests _ _
      (λ e. le-leb n (8 * l) (omega (arith, ltb-true (n / 8) l e)))
      (λ e. lt-ltb (n / 8) l (omega (arith, leb-true n (8 * l) e)))

-- `agrees`: what is within the width is there
module _ (s : List ℕ) (n : ℕ) (w : Bool) (e : w ≡ leb n (8 * length s)) (h : w ≡ true) where
  within : n ≤ 8 * length s
  within = leb-true _ _ (sym e ∙ h)

  pub whole_inside : n / 8 ≤ length s
  whole_inside = omega (arith, within)

  pub next_inside : (n % 8 ≡ 0 → ⊥) → n / 8 < length s
  next_inside more = omega (arith, within)

module _ (a b : List ℕ) (n : ℕ) where
  -- a list that is too short agrees with nothing
  over : (l : ℕ) → (agree a b n ≡ true → n ≤ 8 * l) → (w : Bool) → w ≡ leb n (8 * l) → w ≡ false → false ≡ agree a b n
  over l within w e h = let beyond = leb-false n (8 * l) (sym e ∙ h) in fails_test _ (λ t. omega (arith, beyond, within t))

  pub agree_over_first : (w : Bool) → w ≡ leb n (8 * length a) → w ≡ false → false ≡ agree a b n
  agree_over_first = over (length a) (λ t. omega (arith, ((agree_iff a b n).0 t).within_first, length_bits a))

  pub agree_over_second : (w : Bool) → w ≡ leb n (8 * length b) → w ≡ false → false ≡ agree a b n
  agree_over_second = over (length b) (λ t. omega (arith, ((agree_iff a b n).0 t).within_second, length_bits b))

  -- both are wide enough, and what u says of the whole bytes and t of the bits left over decides; that bytes fit into 8 bits is what a
  -- function knows of a slice that it reads
  module _ (v w : Bool) (ev : v ≡ leb n (8 * length a)) (ew : w ≡ leb n (8 * length b)) (hv : v ≡ true) (hw : w ≡ true)
      (ha : (i : ℕ) → Fits w8 (get_or a i 0)) (hb : (i : ℕ) → Fits w8 (get_or b i 0)) (u : Bool) (eu : u ≡ same (take (n / 8) a) (take (n / 8) b)) where
    taught : (agree a b n ≡ true) ↔ MatchesByBytes n a b n
    taught = agree_by_bytes n a b (within a n v ev hv) (within b n w ew hw) (λ i. omega (arith, ha i)) (λ i. omega (arith, hb i)) n (omega arith)

    pub agree_differs : u ≡ false → false ≡ agree a b n
    agree_differs h = fails_test _ (λ t. same_false _ _ (sym eu ∙ h) (taught.0 t).whole_bytes)

    module _ (h : u ≡ true) where
      whole : take (n / 8) a ≡ take (n / 8) b
      whole = same_true _ _ (sym eu ∙ h)

      pub agree_whole : n % 8 ≡ 0 → true ≡ agree a b n
      agree_whole none = sym (taught.1 (record { within_width = omega arith; whole_bytes = whole; bits_left_over = λ more. absurd (omega arith) }))

      pub agree_left_over : (n % 8 ≡ 0 → ⊥) → (t : Bool) → t ≡ eqb (high_bits (n % 8) (get_or a (n / 8) 0)) (high_bits (n % 8) (get_or b (n / 8) 0)) → t ≡ agree a b n
      agree_left_over more t et = et ∙ same_tests _ _
          (λ e. taught.1 (record { within_width = omega arith; whole_bytes = whole; bits_left_over = λ _. eqb-true _ _ e }))
          (λ e. eq-eqb _ _ ((taught.0 e).bits_left_over (omega arith)))
