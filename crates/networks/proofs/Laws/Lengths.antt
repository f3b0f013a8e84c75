-- The texts of prefix lengths are exactly what is read as lengths: one law over the limit, cited for 32 and 128, and the law of both together.
-- From the laws of Numbers and Runs.
use Rattle.std.proofs.Common.{None, Option, Some}
use Prim.Native.Nat.{ℕ, suc, ◌+◌, ◌<◌}
use mathlib.Core.Path.{◌≡◌, refl, sym, ap, subst, ◌∙◌}
use mathlib.Core.List.{List, [], ◌∷◌, ◌++◌, append-nil}
use mathlib.Core.Bool.{Bool, true, false, cond}
use native.Mathlib.Omega.{arith}
use native.Mathlib.Numerals.{add-one}
use lib.ListN.{length, length-append}
use lib.Seq.{split_at, take-append_seam, drop-append-add, get_or-append_seam}
use lib.Dec.{eqb}
use borrow.Author.Tests.{eq-eqb, ne_eqb, eqb-true}
use Rattle.text.specs.Bytes.{at, part, is_digit, within}
use Rattle.text.specs.Lists.{all}
use Rattle.text.specs.Decimal.{read_number}
use Rattle.text.specs.Runs.{is_in, run, run_end}
use Rattle.text.specs.declared.bytes.Class.TheVariants.{Digit}
use Rattle.text.proofs.Laws.Tests.{cond-elim}
use Rattle.text.proofs.Laws.Classes.{nonzero_inside}
use Rattle.text.proofs.Laws.Parts.{all_first}
use Rattle.text.proofs.Laws.Spans.{front_part, rest_part}
use Rattle.text.proofs.Laws.Runs.{all_run, run_zero}
use Rattle.networks.specs.declared.Lengths.{Lengths}
use Rattle.networks.specs.Grammar.{CidrLength, slash, Ip6CidrLength, OptionalLength, absent, present, Length4, Length6, DualCidrLength, four_only, both}
use Rattle.networks.specs.Answers.{LengthAnswer, DualAnswer}
use Rattle.networks.specs.Reader.{lengths, slash_number, read_length, read_length4, read_length6, front_end, second_length, read_dual}
use Rattle.networks.proofs.Laws.Readings.{number-elim, length-elim, length_answer, dual_answer}
use Rattle.networks.proofs.Laws.Numbers.{number_digits, number_some, number_limit, number_read, number_made}

-- over the limit
module _ (limit : ℕ) where
  abbrev SlashRight : List ℕ → Option ℕ → Type 0
  SlashRight s (Some n) = CidrLength limit s n
  SlashRight s None = Unit {0}

  slash_right : (s : List ℕ) → SlashRight s (slash_number limit s)
  unfolding slash_number
  slash_right [] = tt
  slash_right (b ∷ w) =
      cond-elim (SlashRight (b ∷ w)) (eqb b 47)
      (λ e. number-elim (SlashRight (b ∷ w)) (read_number limit (part (b ∷ w) 1 (suc (length w)))) (λ n. Some n) None
      (λ n h. subst (λ (c : ℕ). CidrLength limit (c ∷ w) n) (sym (eqb-true b 47 e)) (slash (number_made limit w n (ap (read_number limit) (sym (rest_part (b ∷ w) 1)) ∙ h))))
      (λ _. tt))
      (λ _. tt)

  slash_made : (s : List ℕ) (n : ℕ) → slash_number limit s ≡ Some n → CidrLength limit s n
  slash_made s n e = subst (SlashRight s) e (slash_right s)

  slash_read : {s : List ℕ} {n : ℕ} → CidrLength limit s n → slash_number limit s ≡ Some n
  unfolding slash_number
  slash_read (slash {w = w} l) = simp (rest_part (47 ∷ w) 1, number_read l)

  abbrev LengthRight : List ℕ → Option ℕ → Type 0
  LengthRight s (Some n) = OptionalLength limit s n
  LengthRight s None = Unit {0}

  slash_length : (s : List ℕ) (x : Option ℕ) → SlashRight s x → LengthRight s x
  slash_length s (Some n) h = present h
  slash_length s None h = tt

  length_cons : (b : ℕ) (w : List ℕ) → read_length limit (b ∷ w) ≡ slash_number limit (b ∷ w)
  unfolding read_length
  length_cons b w = simp (ne_eqb (suc (length w)) 0 (omega arith))

  length_other : (b : ℕ) (w : List ℕ) → (b ≡ 47 → ⊥) → read_length limit (b ∷ w) ≡ None
  unfolding slash_number
  length_other b w h = length_cons b w ∙ simp (ne_eqb b 47 h)

  length_right : (s : List ℕ) → LengthRight s (read_length limit s)
  unfolding read_length
  length_right [] = absent
  length_right (b ∷ w) = subst (LengthRight (b ∷ w)) (sym (length_cons b w)) (slash_length (b ∷ w) (slash_number limit (b ∷ w)) (slash_right (b ∷ w)))

  length_made : (s : List ℕ) (n : ℕ) → read_length limit s ≡ Some n → OptionalLength limit s n
  length_made s n e = subst (LengthRight s) e (length_right s)

  length_read : {s : List ℕ} {n : ℕ} → OptionalLength limit s n → read_length limit s ≡ Some n
  unfolding read_length
  length_read absent = refl
  length_read (present (slash {w = w} l)) = length_cons 47 w ∙ slash_read (slash l)

-- for 32 and 128
pub length4_sound : (s : List ℕ) (n : ℕ) → read_length4 s ≡ Some n → Length4 s n
unfolding read_length4
length4_sound s n e = length_made 32 s n e

pub length4_complete : (s : List ℕ) (n : ℕ) → Length4 s n → read_length4 s ≡ Some n
unfolding read_length4
length4_complete s n l = length_read 32 l

-- what begins with another byte than a slash is no length
pub length4_other : (b : ℕ) (w : List ℕ) → (b ≡ 47 → ⊥) → read_length4 (b ∷ w) ≡ None
unfolding read_length4
length4_other b w h = length_other 32 b w h

pub length6_sound : (s : List ℕ) (n : ℕ) → read_length6 s ≡ Some n → Length6 s n
unfolding read_length6
length6_sound s n e = length_made 128 s n e

pub length6_complete : (s : List ℕ) (n : ℕ) → Length6 s n → read_length6 s ≡ Some n
unfolding read_length6
length6_complete s n l = length_read 128 l

-- both lengths: what was read of the second
data Second (s : List ℕ) (i : ℕ) : ℕ → Type 0 where
  at_end : i ≡ length s → Second s i 128
  at_slash : {m : ℕ} → at s i ≡ 47 → Ip6CidrLength (part s (i + 1) (length s)) m → Second s i m

abbrev SecondRight : List ℕ → ℕ → Option ℕ → Type 0
SecondRight s i (Some m) = Second s i m
SecondRight s i None = Unit {0}

second_right : (s : List ℕ) (i : ℕ) → SecondRight s i (second_length s i)
unfolding second_length
second_right s i =
    cond-elim (SecondRight s i) (eqb i (length s)) (λ e. at_end (eqb-true i (length s) e))
    (λ _. cond-elim (SecondRight s i) (eqb (at s i) 47) {x = slash_number 128 (part s (i + 1) (length s))} {y = None}
    (λ e. after (slash_number 128 (part s (i + 1) (length s))) refl (eqb-true (at s i) 47 e))
    (λ _. tt))
  where
    after : (x : Option ℕ) → slash_number 128 (part s (i + 1) (length s)) ≡ x → at s i ≡ 47 → SecondRight s i x
    after (Some m) q h = at_slash h (slash_made 128 (part s (i + 1) (length s)) m q)
    after None q h = tt

second_made : (s : List ℕ) (i m : ℕ) → second_length s i ≡ Some m → Second s i m
second_made s i m e = subst (SecondRight s i) e (second_right s i)

-- a text in two at a slash
slash_splits : (s : List ℕ) (i : ℕ) → at s i ≡ 47 → s ≡ part s 0 i ++ (47 ∷ part s (i + 1) (length s))
slash_splits s i h = rw (rest_part s (i + 1), front_part s i) (split_at s i 0 (nonzero_inside s i (omega arith)) ∙ simp (h, add-one))

dual_of : (s : List ℕ) (i n m : ℕ) → Length4 (part s 0 i) n → Second s i m → DualCidrLength s n m
dual_of s i n m l (at_end e) = four_only (subst (λ (w : List ℕ). Length4 w n) (ap (part s 0) e ∙ rest_part s 0) l)
dual_of s i n m l (at_slash h v) = subst (λ (w : List ℕ). DualCidrLength w n m) (sym (slash_splits s i h)) (both l v)

abbrev DualRight : List ℕ → Option Lengths → Type 0
DualRight s (Some x) = DualCidrLength s x.four x.six
DualRight s None = Unit {0}

dual_right : (s : List ℕ) → DualRight s (read_dual s)
unfolding read_dual
dual_right s =
    length-elim (DualRight s) (read_length4 (part s 0 (front_end s))) _ None
    (λ n p. length-elim (DualRight s) (second_length s (front_end s)) (λ m. Some (lengths n m)) None
    (λ m q. dual_of s (front_end s) n m (length4_sound (part s 0 (front_end s)) n p) (second_made s (front_end s) m q))
    (λ _. tt))
    (λ _. tt)

pub dual_sound : (s : List ℕ) (n m : ℕ) → read_dual s ≡ Some (lengths n m) → DualCidrLength s n m
dual_sound s n m e = subst (DualRight s) e (dual_right s)

-- the first length ends where no digit follows
number_front : (u rest : List ℕ) → all is_digit u ≡ true → 0 < length u → is_digit (at rest 0) ≡ false → front_end (47 ∷ (u ++ rest)) ≡ suc (length u)
unfolding front_end run_end is_in
number_front [] rest d l h = absurd (omega arith)
number_front (a ∷ u) rest d l h =
    ap (λ (t : Bool). cond t (1 + run (is_in Digit) ((a ∷ u) ++ rest)) 0) (all_first is_digit a u d)
    ∙ ap (λ (n : ℕ). 1 + n) (all_run (is_in Digit) (a ∷ u) rest d (run_zero (is_in Digit) rest h))
    ∙ omega arith

front_ends : {w : List ℕ} {n : ℕ} (rest : List ℕ) → Length4 w n → is_digit (at rest 0) ≡ false → is_digit (at rest 1) ≡ false → front_end (w ++ rest) ≡ length w
unfolding front_end is_in
front_ends rest absent h k = simp k
front_ends rest (present (slash {w = u} l)) h k = number_front u rest (number_digits l) (number_some l) h

slash_no_digit : is_digit 47 ≡ false
unfolding is_digit within
slash_no_digit = refl

zero_no_digit : is_digit 0 ≡ false
unfolding is_digit within
zero_no_digit = refl

second_rest : (w v : List ℕ) → part (w ++ (47 ∷ v)) (length w + 1) (length (w ++ (47 ∷ v))) ≡ v
second_rest w v = rest_part (w ++ (47 ∷ v)) (length w + 1) ∙ drop-append-add w (47 ∷ v) 1

second_read : (w v : List ℕ) (m : ℕ) → slash_number 128 v ≡ Some m → second_length (w ++ (47 ∷ v)) (length w) ≡ Some m
unfolding second_length
second_read w v m e =
    simp (ne_eqb (length w) (length (w ++ (47 ∷ v))) (omega (arith, length-append w (47 ∷ v))), get_or-append_seam w 47 v 0, second_rest w v) e

second_end : (s : List ℕ) → second_length s (length s) ≡ Some 128
unfolding second_length
second_end s = simp (eq-eqb (length s) (length s) refl)

dual_read : (s : List ℕ) (i n m : ℕ) → front_end s ≡ i → read_length4 (part s 0 i) ≡ Some n → second_length s i ≡ Some m → read_dual s ≡ Some (lengths n m)
unfolding read_dual
dual_read s i n m e p q = simp (e, p, q)

four_complete : {w : List ℕ} {n : ℕ} → Length4 w n → read_dual w ≡ Some (lengths n 128)
four_complete {w} {n} l =
    dual_read w (length w) n 128 (rw append-nil at (front_ends [] l zero_no_digit zero_no_digit)) (ap read_length4 (rest_part w 0) ∙ length4_complete w n l) (second_end w)

both_complete : {w v : List ℕ} {n m : ℕ} → Length4 w n → Ip6CidrLength v m → read_dual (w ++ (47 ∷ v)) ≡ Some (lengths n m)
both_complete {w} {v} {n} {m} l (slash {w = u} d) =
    dual_read (w ++ (47 ∷ 47 ∷ u)) (length w) n m (front_ends (47 ∷ 47 ∷ u) l slash_no_digit slash_no_digit)
    (ap read_length4 (front_part (w ++ (47 ∷ 47 ∷ u)) (length w) ∙ take-append_seam w (47 ∷ 47 ∷ u)) ∙ length4_complete w n l)
    (second_read w (47 ∷ u) m (slash_read 128 (slash d)))

pub dual_complete : (s : List ℕ) (n m : ℕ) → DualCidrLength s n m → read_dual s ≡ Some (lengths n m)
dual_complete s n m (four_only l) = four_complete l
dual_complete s n m (both l r) = both_complete l r

-- the answers of `read_length4`, `read_length6` and `read_dual`
pub length4_answer : (s : List ℕ) (r : Option ℕ) → r ≡ read_length4 s → (r ≡ read_length4 s) × LengthAnswer (Length4 s) r
length4_answer s r e = (e, subst (LengthAnswer (Length4 s)) (sym e) (length_answer (Length4 s) (read_length4 s) (length4_sound s) (length4_complete s)))

pub length6_answer : (s : List ℕ) (r : Option ℕ) → r ≡ read_length6 s → (r ≡ read_length6 s) × LengthAnswer (Length6 s) r
length6_answer s r e = (e, subst (LengthAnswer (Length6 s)) (sym e) (length_answer (Length6 s) (read_length6 s) (length6_sound s) (length6_complete s)))

pub dual_answers : (s : List ℕ) (r : Option Lengths) → r ≡ read_dual s → (r ≡ read_dual s) × DualAnswer (DualCidrLength s) r
dual_answers s r e = (e, subst (DualAnswer (DualCidrLength s)) (sym e) (dual_answer (DualCidrLength s) (read_dual s) (dual_sound s) (dual_complete s)))

-- the ways out of `read_slash_number`: w is what follows the slash, and r what it was read as
module _ (limit : ℕ) (s w : List ℕ) (r : Option ℕ) (word : w ≡ part s 1 (length s)) (read : r ≡ read_number limit w) where
  module _ (b : ℕ) (first : b ≡ at s 0) (here : b ≡ 47) where
    pub slash_none : r ≡ None → None ≡ slash_number limit s
    unfolding slash_number
    slash_none q = simp (← first, here, ← word, ← read, q)

    pub slash_some : (n : ℕ) → r ≡ Some n → Some n ≡ slash_number limit s
    unfolding slash_number
    slash_some n q = simp (← first, here, ← word, ← read, q)

  pub slash_fits : limit < 256 → (n : ℕ) → r ≡ Some n → n < 256
  slash_fits h n q = let l = number_limit (number_made limit w n (sym read ∙ q)) in omega arith

-- the ways out of `read_length4` and `read_length6`
module _ (limit : ℕ) (s : List ℕ) where
  pub length_absent : length s ≡ 0 → Some limit ≡ read_length limit s
  unfolding read_length
  length_absent e = simp e

  pub length_present : (length s ≡ 0 → ⊥) → (r : Option ℕ) → r ≡ slash_number limit s → r ≡ read_length limit s
  unfolding read_length
  length_present e r h = simp (ne_eqb (length s) 0 e) h

-- the ways out of `front_end`
module _ (s : List ℕ) (b : ℕ) (t : Bool) (byte : b ≡ at s 1) (test : t ≡ is_in Digit b) where
  pub front_digits : (e : ℕ) → e ≡ run_end (is_in Digit) s 1 → t ≡ true → e ≡ front_end s
  unfolding front_end
  front_digits e h q = simp (← byte, ← test, q) h

  pub front_none : t ≡ false → 0 ≡ front_end s
  unfolding front_end
  front_none q = simp (← byte, ← test, q)

-- the ways out of `read_second` and `read_dual`
pub second_some : (s : List ℕ) (i b : ℕ) (w : List ℕ) (r : Option ℕ) → (i ≡ length s → ⊥) → b ≡ at s i → b ≡ 47 → w ≡ part s (i + 1) (length s) → r ≡ slash_number 128 w
    → r ≡ second_length s i
unfolding second_length
second_some s i b w r e p q h k = simp (ne_eqb i (length s) e, ← p, q, ← h) k

module _ (s : List ℕ) (e : ℕ) (w : List ℕ) (r : Option ℕ) (end : e ≡ front_end s) (word : w ≡ part s 0 e) (read : r ≡ read_length4 w) where
  pub dual_first_none : r ≡ None → None ≡ read_dual s
  unfolding read_dual
  dual_first_none q = simp (← end, ← word, ← read, q)

  module _ (n : ℕ) (first : r ≡ Some n) (t : Option ℕ) (second : t ≡ second_length s e) where
    pub dual_second_none : t ≡ None → None ≡ read_dual s
    unfolding read_dual
    dual_second_none q = simp (← end, ← word, ← read, first, ← second, q)

    pub dual_some : (m : ℕ) → t ≡ Some m → Some (lengths n m) ≡ read_dual s
    unfolding read_dual
    dual_some m q = simp (← end, ← word, ← read, first, ← second, q)
