-- Values with their backslashes and back, as the code writes and strips them; and the answers of `unquote`. From the definitions of Quoting, States and
-- Answers.
use Rattle.std.proofs.Common.{Result, Ok, Err}
use Prim.Native.Nat.{ℕ, suc, ◌+◌, ◌*◌, ◌≤◌, ◌<◌, ◌^◌}
use mathlib.Core.Path.{◌≡◌, refl, sym, ap, subst, ◌∙◌}
use mathlib.Core.List.{List, [], ◌∷◌, ◌++◌, append_assoc, append-nil}
use mathlib.Core.Bool.{Bool, true, false, cond, ◌&&◌}
use native.Mathlib.Omega.{arith}
use native.Mathlib.Numerals.{add-one}
use native.Mathlib.Nat.{add-zero}
use lib.ListN.{length, get_or, take, drop, length-append, length-drop, drop_of_length-le}
use lib.Seq.{take-suc, take_all, drop-drop, get_or-drop}
use lib.Dec.{eqb, leb, ltb}
use borrow.Author.Tests.{eq-eqb, ne_eqb, lt-ltb, le-ltb, ltb-true, le-leb, lt-leb, leb-true, leb-false}
use Rattle.text.specs.Bytes.{at, part, within, is_upper, is_alpha, is_digit, is_alphanumeric, is_printable}
use Rattle.text.specs.Lists.{all, contains, same}
use Rattle.text.specs.Writing.{Wrote}
use Rattle.text.proofs.Laws.Tests.{or_false_right, or_false_both, true_false}
use Rattle.text.proofs.Laws.Classes.{apart}
use Rattle.text.proofs.Laws.Parts.{all_first, all_rest}
use Rattle.text.proofs.Laws.Words.{same_true, true_same}
use Rattle.text.proofs.Laws.Writing.{wrote_none, wrote_then, wrote_front}
use Rattle.text.proofs.Laws.Classes.{class_tests}
use Rattle.text.specs.Runs.{is_in}
use Rattle.text.specs.declared.bytes.Class.TheVariants.{Printable}
use Rattle.text.proofs.Laws.Writing.{value_taken}
use Rattle.text.proofs.Laws.Spans.{front_part}
use Rattle.received.specs.Atoms.{is_atext}
use Rattle.received.specs.Quoting.{is_marked, escaped_byte, escaped, unescaped}
use Rattle.received.specs.Numbers.{Says}
use Rattle.received.specs.Answers.{PartOf, Unquotes, no_part, no_room, value, UnquotesPart}
use Rattle.received.specs.States.{is_dot_atom_text, is_plain, skip, place, Placed, valued}
use Rattle.received.specs.Texts.{formed}
use Rattle.received.specs.declared.LineError.{LineError}
use Rattle.received.specs.declared.LineError.TheVariants.{NoRoom, NoLine}

-- a byte
pub byte_marked : (b : ℕ) → is_marked b ≡ true → escaped_byte b ≡ 92 ∷ b ∷ []
unfolding escaped_byte
byte_marked b h = rw h

pub byte_plain : (b : ℕ) → is_marked b ≡ false → escaped_byte b ≡ b ∷ []
unfolding escaped_byte
byte_plain b h = rw h

-- `put_escaped_byte`
module _ (b : ℕ) (r : Bool) (e : r ≡ is_marked b) (out : List ℕ) (at : ℕ) where
  pub put_marked : r ≡ true → (o₁ o₂ : List ℕ) (n₁ n₂ : ℕ) → Wrote (92 ∷ []) out at o₁ n₁ → Wrote (b ∷ []) o₁ n₁ o₂ n₂ → Wrote (escaped_byte b) out at o₂ n₂
  put_marked h o₁ o₂ n₁ n₂ u w = rw (byte_marked b (sym e ∙ h)) (wrote_then out at (92 ∷ []) (b ∷ []) o₁ o₂ n₁ n₂ u w)

  pub put_plain : r ≡ false → (o : List ℕ) (n : ℕ) → Wrote (b ∷ []) out at o n → Wrote (escaped_byte b) out at o n
  put_plain h o n w = rw (byte_plain b (sym e ∙ h)) w

-- a value in two pieces
pub escaped_append : (xs ys : List ℕ) → escaped (xs ++ ys) ≡ escaped xs ++ escaped ys
unfolding escaped
escaped_append [] ys = refl
escaped_append (x ∷ xs) ys = rw (escaped_append xs ys, append_assoc)

escaped_one_byte : (b : ℕ) → escaped (b ∷ []) ≡ escaped_byte b
unfolding escaped
escaped_one_byte b = append-nil (escaped_byte b)

-- `put_escaped`: the bytes passed, and what was written of them
module _ (s out : List ℕ) (at : ℕ) where
  pub record Escaping (i : ℕ) (o : List ℕ) (n : ℕ) : Type 0 where
    pub inside : i ≤ length s
    pub wrote : Wrote (escaped (take i s)) out at o n

  pub escaping_start : at < 2 ^ 64 → length out < 2 ^ 64 → Escaping 0 out at
  unfolding escaped
  escaping_start h l = record { inside = omega arith; wrote = wrote_none out at (omega arith) (omega arith) }

  module _ (i : ℕ) (o : List ℕ) (n : ℕ) (p : Escaping i o n) where
    pub escaping_next : i < length s → (o' : List ℕ) (n' : ℕ) → Wrote (escaped_byte (get_or s i 0)) o n o' n' → Escaping (i + 1) o' n'
    escaping_next h o' n' w = record {
      inside = omega arith;
      wrote = rw (add-one, take-suc s i 0 h, escaped_append, escaped_one_byte) (wrote_then out at (escaped (take i s)) (escaped_byte (get_or s i 0)) o o' n n' p.wrote w);
    }

    pub escaping_end : length s ≤ i → Wrote (escaped s) out at o n
    escaping_end h = rw (sym (take_all i s h)) p.wrote

-- `put_form`
module _ (v out : List ℕ) (at : ℕ) (r : Bool) (e : r ≡ is_dot_atom_text v) where
  pub form_plain : r ≡ true → (o : List ℕ) (n : ℕ) → Wrote v out at o n → Wrote (formed v) out at o n
  unfolding formed
  form_plain h o n w = rw (← e, h) w

  pub form_quoted : r ≡ false → (o₁ o₂ o₃ : List ℕ) (n₁ n₂ n₃ : ℕ) → Wrote (34 ∷ []) out at o₁ n₁ → Wrote (escaped v) o₁ n₁ o₂ n₂ → Wrote (34 ∷ []) o₂ n₂ o₃ n₃
      → Wrote (formed v) out at o₃ n₃
  unfolding formed
  form_quoted h o₁ o₂ o₃ n₁ n₂ n₃ x y z =
      rw (← e, h) (wrote_then out at (34 ∷ escaped v) (34 ∷ []) o₂ o₃ n₂ n₃ (wrote_then out at (34 ∷ []) (escaped v) o₁ o₂ n₁ n₂ x y) z)

-- dot-atom-text is its own part
plain_mark : (b : ℕ) → is_plain b ≡ true → is_marked b ≡ false
unfolding is_marked is_plain is_atext is_alphanumeric is_alpha is_upper is_digit within contains
plain_mark b h = or_false_both (eqb b 34) (eqb b 92) (apart is_plain b 34 h refl) (apart is_plain b 92 h refl)

pub plain_part : (v : List ℕ) → all is_plain v ≡ true → escaped v ≡ v
unfolding escaped
plain_part [] h = refl
plain_part (b ∷ v) h = rw (byte_plain b (plain_mark b (all_first is_plain b v h)), plain_part v (all_rest is_plain b v h))

-- stripping
unescaped_plain : (b : ℕ) (t : List ℕ) → eqb b 92 ≡ false → unescaped (b ∷ t) ≡ b ∷ unescaped t
unfolding unescaped
unescaped_plain b [] h = refl
unescaped_plain b (c ∷ t) h = rw h

unescaped_none : unescaped [] ≡ []
unfolding unescaped
unescaped_none = refl

unescaped_marked : (b : ℕ) (t : List ℕ) → unescaped (92 ∷ b ∷ t) ≡ b ∷ unescaped t
unfolding unescaped
unescaped_marked b t = refl

not_backslash : (b : ℕ) → is_marked b ≡ false → eqb b 92 ≡ false
unfolding is_marked
not_backslash b h = or_false_right (eqb b 34) (eqb b 92) h

pub unescaped_escaped : (v : List ℕ) → unescaped (escaped v) ≡ v
unfolding escaped
unescaped_escaped [] = unescaped_none
unescaped_escaped (b ∷ v) = by (is_marked b) refl (unescaped_escaped v)
  where
    by : (t : Bool) → is_marked b ≡ t → unescaped (escaped v) ≡ v → unescaped (escaped_byte b ++ escaped v) ≡ b ∷ v
    by true e ih = rw (byte_marked b e) (unescaped_marked b (escaped v) ∙ ap (λ (x : List ℕ). b ∷ x) ih)
    by false e ih = rw (byte_plain b e) (unescaped_plain b (escaped v) (not_backslash b e) ∙ ap (λ (x : List ℕ). b ∷ x) ih)

pub escaped_one : (u v : List ℕ) → escaped u ≡ escaped v → u ≡ v
escaped_one u v e = sym (unescaped_escaped u) ∙ ap unescaped e ∙ unescaped_escaped v

-- one byte more, as the code strips
pub unescaped_step : (t : List ℕ) → 0 < length t → unescaped t ≡ at t (skip t) ∷ unescaped (drop (suc (skip t)) t)
unfolding unescaped skip
unescaped_step [] h = absurd (omega arith)
unescaped_step (b ∷ []) h = by (eqb b 92)
  where
    by : (t : Bool) → b ∷ [] ≡ at (b ∷ []) (cond (t && ltb 1 1) 1 0) ∷ unescaped (drop (suc (cond (t && ltb 1 1) 1 0)) (b ∷ []))
    by true = refl
    by false = refl
unescaped_step (b ∷ c ∷ s) h = rw (lt-ltb 1 (suc (suc (length s))) (omega arith)) (by (eqb b 92))
  where
    by : (t : Bool) → cond t (c ∷ unescaped s) (b ∷ unescaped (c ∷ s)) ≡ at (b ∷ c ∷ s) (cond (t && true) 1 0) ∷ unescaped (drop (suc (cond (t && true) 1 0)) (b ∷ c ∷ s))
    by true = refl
    by false = refl

pub skip_inside : (t : List ℕ) → 0 < length t → skip t < length t
unfolding skip
skip_inside t h = by (eqb (at t 0) 92) (ltb 1 (length t)) refl
  where
    by : (x y : Bool) → ltb 1 (length t) ≡ y → cond (x && y) 1 0 < length t
    by true true e = omega (arith, ltb-true 1 (length t) e)
    by true false e = h
    by false y e = h

-- the first byte from a place on
pub at_drop : (s : List ℕ) (i : ℕ) → at (drop i s) 0 ≡ at s i
at_drop s i = get_or-drop i s 0 0 ∙ ap (at s) (add-zero i)

-- `place_of`
module _ (s : List ℕ) (i : ℕ) where
  is_escape_lem : at s i ≡ 92 → i + 1 < length s → i + 1 ≡ place s i
  unfolding place skip
  is_escape_lem e h = rw (at_drop s i, eq-eqb (at s i) 92 e, lt-ltb 1 (length (drop i s)) (simp length-drop (omega arith)))

  is_last : length s ≤ i + 1 → i ≡ place s i
  unfolding place skip
  is_last h = rw (le-ltb 1 (length (drop i s)) (simp length-drop (omega arith))) (by (eqb (at (drop i s) 0) 92))
    where
      by : (t : Bool) → i ≡ i + cond (t && false) 1 0
      by true = omega arith
      by false = omega arith

  is_plain_lem : (at s i ≡ 92 → ⊥) → i ≡ place s i
  unfolding place skip
  is_plain_lem e = rw (at_drop s i, ne_eqb (at s i) 92 e) (omega arith)

  module _ (h : i < length s) (j : ℕ) (e : j ≡ place s i) where
    placed : Placed s i j
    unfolding place
    placed = let k = skip_inside (drop i s) (simp length-drop (omega arith)) in record { is_place = e; from = omega arith; inside = omega (arith, length-drop i s) }

    pub place_step : unescaped (drop i s) ≡ at s j ∷ unescaped (drop (j + 1) s)
    unfolding place
    place_step =
        let m : i + suc (skip (drop i s)) ≡ j + 1 = omega arith in
        unescaped_step (drop i s) (simp length-drop (omega arith))
        ∙ rw (get_or-drop i s (skip (drop i s)) 0, drop-drop (suc (skip (drop i s))) i s) (rw (← e) (ap (λ (k : ℕ). at s j ∷ unescaped (drop k s)) m))

  module _ (h : i < length s) where
    pub place_escape : at s i ≡ 92 → i + 1 < length s → Placed s i (i + 1)
    place_escape e l = placed h (i + 1) (is_escape_lem e l)

    pub place_last : length s ≤ i + 1 → Placed s i i
    place_last l = placed h i (is_last l)

    pub place_plain : (at s i ≡ 92 → ⊥) → Placed s i i
    place_plain e = placed h i (is_plain_lem e)

-- `put_unescaped`
module _ (s out : List ℕ) (at : ℕ) where
  pub record Stripped (i : ℕ) (o : List ℕ) (n : ℕ) : Type 0 where
    pub done : List ℕ
    pub all_of : unescaped s ≡ done ++ unescaped (drop i s)
    pub wrote : Wrote done out at o n

  pub stripped_start : at < 2 ^ 64 → length out < 2 ^ 64 → Stripped 0 out at
  stripped_start h l = record { done = []; all_of = refl; wrote = wrote_none out at (omega arith) (omega arith) }

  module _ (i : ℕ) (o : List ℕ) (n : ℕ) (p : Stripped i o n) where
    pub stripped_next : i < length s → (j : ℕ) → Placed s i j → (o' : List ℕ) (n' : ℕ) → Wrote (get_or s j 0 ∷ []) o n o' n' → Stripped (j + 1) o' n'
    stripped_next h j e o' n' w = record {
      done = p.done ++ (get_or s j 0 ∷ []);
      all_of = p.all_of ∙ ap (λ (t : List ℕ). p.done ++ t) (place_step s i h j e.is_place) ∙ sym (append_assoc p.done (get_or s j 0 ∷ []) (unescaped (drop (j + 1) s)));
      wrote = wrote_then out at p.done (get_or s j 0 ∷ []) o o' n n' p.wrote w;
    }

    pub stripped_end : length s ≤ i → Wrote (unescaped s) out at o n
    stripped_end h = rw (p.all_of, drop_of_length-le s h, unescaped_none, append-nil) p.wrote

-- lengths
byte_length : (b : ℕ) → length (escaped_byte b) ≤ 2
unfolding escaped_byte
byte_length b = by (is_marked b)
  where
    by : (t : Bool) → length (cond t (92 ∷ b ∷ []) (b ∷ [])) ≤ 2
    by true = omega arith
    by false = omega arith

pub escaped_length : (v : List ℕ) → length (escaped v) ≤ 2 * length v
unfolding escaped
escaped_length [] = omega arith
escaped_length (b ∷ v) = let h = escaped_length v in rw (length-append (escaped_byte b) (escaped v)) (let k = byte_length b in omega arith)

-- a text that was written into an array with room for it, as it is read back
pub read_back : (xs z o y t : List ℕ) (k n : ℕ) → k ≡ 0 → Wrote xs z k o n → y ≡ o → length xs ≤ length z → t ≡ part y 0 n → t ≡ xs
read_back xs z o y t k n ek w ey l et = et ∙ front_part y n ∙ ap (take n) ey ∙ value_taken xs z o n (rw ek at w) l

-- `is_part_of`: the part written again
pub again_same : (v z o y t : List ℕ) (k n : ℕ) → k ≡ 0 → Wrote (escaped v) z k o n → y ≡ o → length z ≡ 640 → length v ≤ 320 → t ≡ part y 0 n
    → (s : List ℕ) (r : Bool) → r ≡ same t s → r ≡ same (escaped v) s
again_same v z o y t k n ek w ey size h et s r e =
    e ∙ ap (λ (x : List ℕ). same x s) (read_back (escaped v) z o y t k n ek w ey (let l = escaped_length v in omega arith) et)

-- `write_value`
module _ (v s out : List ℕ) (a : Bool) (ea : a ≡ all (is_in Printable) v) where
  printable : all (is_in Printable) v ≡ all is_printable v
  printable = class_tests Printable v

  pub value_unprintable : a ≡ false → Says (valued v s (length out)) (Err NoLine) out out
  unfolding valued
  value_unprintable h = rw (← printable, ← ea, h) (record { answer = refl; buffer = refl })

  module _ (ha : a ≡ true) (b : Bool) (eb : b ≡ same (escaped v) s) where
    pub value_other : b ≡ false → Says (valued v s (length out)) (Err NoLine) out out
    unfolding valued
    value_other h = rw (← printable, ← ea, ha, ← eb, h) (record { answer = refl; buffer = refl })

    module _ (h : b ≡ true) where
      pub value_over : length out < length v → Says (valued v s (length out)) (Err NoRoom) out out
      unfolding valued
      value_over l = rw (← printable, ← ea, ha, ← eb, h, lt-leb (length v) (length out) l) (record { answer = refl; buffer = refl })

      pub value_written : length v ≤ length out → (u c after : List ℕ) → u ≡ out → after ≡ c → (k n : ℕ) → k ≡ 0 → Wrote v u k c n
          → Says (valued v s (length out)) (Ok (length v)) out after
      unfolding valued
      value_written l u c after eu ec k n ek w =
          rw (← printable, ← ea, ha, ← eb, h, le-leb (length v) (length out) l)
          (record { answer = refl; buffer = ec ∙ wrote_front v out c n (rw (eu, ek) at w) l })

-- `unquote`
pub part_value : (v s : List ℕ) → PartOf v s → unescaped s ≡ v
part_value v s p = ap unescaped p.text ∙ unescaped_escaped v

unquotes : (s : List ℕ) (room : ℕ) → length (unescaped s) ≤ 320 → Unquotes s room (valued (unescaped s) s room)
unfolding valued
unquotes s room h = by (all is_printable (unescaped s)) refl (same (escaped (unescaped s)) s) refl (leb (length (unescaped s)) room) refl
  where
    by : (p : Bool) → all is_printable (unescaped s) ≡ p → (q : Bool) → same (escaped (unescaped s)) s ≡ q → (l : Bool) → leb (length (unescaped s)) room ≡ l
        → Unquotes s room (cond (p && q) (cond l (Ok (unescaped s)) (Err NoRoom)) (Err NoLine))
    by true e true f true g = value (record { text = sym (same_true (escaped (unescaped s)) s f); printable = e; size = h }) (leb-true (length (unescaped s)) room g)
    by true e true f false g = no_room (record { text = sym (same_true (escaped (unescaped s)) s f); printable = e; size = h }) (leb-false (length (unescaped s)) room g)
    by true e false f l g = no_part (λ v p. true_false (same (escaped (unescaped s)) s) (true_same (escaped (unescaped s)) s (ap escaped (part_value v s p) ∙ sym p.text)) f)
    by false e q f l g = no_part (λ v p. true_false (all is_printable (unescaped s)) (ap (all is_printable) (part_value v s p) ∙ p.printable) e)

module _ (s z o y : List ℕ) (k n : ℕ) (ek : k ≡ 0) (w : Wrote (unescaped s) z k o n) (size : length z ≡ 320) (out : List ℕ) where
  pub unquote_long : 320 < n → UnquotesPart s (Err NoLine) out out
  unquote_long h = record {
    outcome = Err NoLine;
    unquotes = no_part (λ v p. omega (arith, w.next_place, p.size, ap length (part_value v s p)));
    says = record { answer = refl; buffer = refl };
  }

  module _ (h : n ≤ 320) (ey : y ≡ o) (t : List ℕ) (et : t ≡ part y 0 n) where
    strip_fits : length (unescaped s) ≤ length z
    strip_fits = omega (arith, w.next_place)

    stripped_is : t ≡ unescaped s
    stripped_is = read_back (unescaped s) z o y t k n ek w ey strip_fits et

    pub strip_short : length t ≤ 320
    strip_short = omega (arith, strip_fits, ap length stripped_is)

    pub unquote_short : (r : Result ℕ LineError) (after : List ℕ) → Says (valued t s (length out)) r out after → UnquotesPart s r out after
    unquote_short r after x = record {
      outcome = valued (unescaped s) s (length out);
      unquotes = unquotes s (length out) (omega (arith, strip_fits));
      says = subst (λ (v : List ℕ). Says (valued v s (length out)) r out after) stripped_is x;
    }
