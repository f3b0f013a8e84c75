-- One macro-expand: what the reader finds at the front of a text, the grammar produces, and what it produces, the reader finds, whatever stands
-- behind it. The digits are a longest run, and r, a delimiter or the brace behind them is no digit; a delimiter or the brace is no r; the
-- delimiters are a longest run, and the brace behind them is no delimiter. From the laws of runs and of spans.
use Rattle.std.proofs.Common.{Option, Some, None}
use Prim.Native.Nat.{ℕ, suc, ◌+◌, ◌≤◌, ◌<◌}
use mathlib.Core.Path.{◌≡◌, refl, sym, ap, subst, ◌∙◌}
use mathlib.Core.List.{List, [], ◌∷◌, ◌++◌}
use mathlib.Core.Bool.{Bool, true, false, ◌||◌}
use native.Mathlib.Omega.{arith}
use lib.ListN.{length, drop}
use lib.Seq.{drop-cons, drop-append_seam, drop-append-add}
use lib.Dec.{eqb}
use borrow.Author.Tests.{ne_eqb, eqb-true, eqb-false}
use Rattle.text.specs.Bytes.{at, within, lower, is_upper, is_digit, is_macro_literal, is_space, is_delimiter, part}
use Rattle.text.specs.Lists.{all, contains}
use Rattle.text.specs.Runs.{is_in, run_end}
use Rattle.text.specs.declared.bytes.Class.TheVariants.{Digit, Delimiter}
use Rattle.text.proofs.Laws.Tests.{cond-elim, and_left, or_elim}
use Rattle.text.proofs.Laws.Classes.{class_test, class_tests, apart, class_inside, nonzero_inside}
use Rattle.text.proofs.Laws.Spans.{Span, span_join, span_cut, span_byte, span_here, span_none, span_between, span_at, span_word}
use Rattle.text.proofs.Laws.Runs.{run_span, run_span_all, span_run}
use Rattle.macros.specs.Grammar.{Piece, literal, escape, expand, is_letter, is_part_count, Reversal, absent, present, MacroExpand, braces, percent, underscore, hyphen}
use Rattle.macros.specs.Reader.{is_literal, is_escape, is_reverse, closed_at, delimiters_at, reversal_at, digits_at, braces_of, piece_of, macro_of, Pieces, push, pieces_after}
use Rattle.macros.specs.declared.Form.{Form}
use Rattle.macros.specs.declared.Form.TheVariants.{DomainSpec, ModifierValue, Explanation}
use Rattle.macros.specs.declared.pieces.Found.{Found}
use Rattle.macros.proofs.Laws.Bytes.{delimiter_no_digit, delimiter_no_reverse, reverse_no_digit}

-- the reader's answer, in the grammar's words
pub record Expanded (form : Form) (s : List ℕ) (n : ℕ) (p : Piece) : Type 0 where
  pub word : List ℕ
  pub span : Span s 0 n word
  pub made : MacroExpand form word p
  pub inside : n ≤ length s

abbrev pub FoundRight : Form → List ℕ → Option Found → Type 0
FoundRight form s (Some (Found.Literal b)) = (s ≡ b ∷ drop 1 s) × (is_literal form b ≡ true)
FoundRight form s (Some (Found.Escape b)) = Expanded form s 2 (escape b)
FoundRight form s (Some (Found.Expand m)) = Expanded form s (m.delimiters.to + 1) (expand (macro_of s m))
FoundRight form s None = Unit {0}

-- what is found is produced
letter_zero : (form : Form) → is_letter form 0 ≡ false
unfolding is_letter lower is_upper within contains
letter_zero DomainSpec = refl
letter_zero ModifierValue = refl
letter_zero Explanation = refl

reversed_of : (b : ℕ) → is_reverse b ≡ true → Reversal (b ∷ []) true
unfolding is_reverse
reversed_of b h = present h

pub reverse_zero : is_reverse 0 ≡ false
unfolding is_reverse lower is_upper within
reverse_zero = refl

module _ (form : Form) (s : List ℕ) (front : Span s 0 3 (37 ∷ 123 ∷ at s 2 ∷ [])) (letter : is_letter form (at s 2) ≡ true) where
  module _ (d : ℕ) (digits : Span s 3 d (part s 3 d)) (count : is_part_count (part s 3 d) ≡ true) where
    closed_sound : (f t : ℕ) (r : List ℕ) (reversed : Bool) → Span s d f r → Reversal r reversed → Span s f t (part s f t) → all is_delimiter (part s f t) ≡ true
        → FoundRight form s (closed_at s d reversed f t)
    unfolding closed_at macro_of
    closed_sound f t r reversed sr hr sd hd =
        cond-elim (FoundRight form s) (eqb (at s t) 125)
        (λ h. record {
          word = 37 ∷ 123 ∷ at s 2 ∷ (part s 3 d ++ (r ++ (part s f t ++ (125 ∷ []))));
          span = span_join front (span_join digits (span_join sr (span_join sd (span_byte s t 124 (eqb-true (at s t) 125 h)))));
          made = braces letter count hr hd;
          inside = let k = nonzero_inside s t (λ e. let q = eqb-true (at s t) 125 h in omega arith) in omega arith;
        })
        (λ _. tt)

    delimiters_sound : (f : ℕ) (r : List ℕ) (reversed : Bool) → Span s d f r → Reversal r reversed → FoundRight form s (delimiters_at s d reversed f)
    unfolding delimiters_at
    delimiters_sound f r reversed sr hr =
        closed_sound f (run_end (is_in Delimiter) s f) r reversed sr hr (run_span (is_in Delimiter) s f) (sym (class_tests Delimiter (part s f (run_end (is_in Delimiter) s f))) ∙ run_span_all (is_in Delimiter) s f)

    reversal_sound : FoundRight form s (reversal_at s d)
    unfolding reversal_at
    reversal_sound =
        cond-elim (FoundRight form s) (is_reverse (at s d))
        (λ h. delimiters_sound (d + 1) (at s d ∷ []) true (span_here s d (class_inside is_reverse reverse_zero s d h)) (reversed_of (at s d) h))
        (λ _. delimiters_sound d [] false (span_none s d) absent)

  digits_sound : (d : ℕ) → Span s 3 d (part s 3 d) → FoundRight form s (digits_at s d)
  unfolding digits_at
  digits_sound d digits = cond-elim (FoundRight form s) (is_part_count (part s 3 d)) (λ h. reversal_sound d digits h) (λ _. tt)

braces_sound : (form : Form) (s : List ℕ) → at s 0 ≡ 37 → at s 1 ≡ 123 → FoundRight form s (braces_of form s)
unfolding braces_of
braces_sound form s h0 h1 =
    cond-elim (FoundRight form s) (is_letter form (at s 2))
    (λ h. digits_sound form s
    (span_join (span_byte s 0 36 h0) (span_join (span_byte s 1 122 h1) (span_here s 2 (class_inside (is_letter form) (letter_zero form) s 2 h))))
    h (run_end (is_in Digit) s 3) (run_span (is_in Digit) s 3))
    (λ _. tt)

escape_sound : (form : Form) (s : List ℕ) (b : ℕ) → at s 0 ≡ 37 → at s 1 ≡ b → is_escape b ≡ true → Expanded form s 2 (escape b)
unfolding is_escape
escape_sound form s b h0 h1 h =
    or_elim (eqb b 37) (eqb b 95 || eqb b 45) h
    (λ e. of 36 percent (eqb-true b 37 e))
    (λ k. or_elim (eqb b 95) (eqb b 45) k (λ e. of 94 underscore (eqb-true b 95 e)) (λ e. of 44 hyphen (eqb-true b 45 e)))
  where
    of : (n : ℕ) → MacroExpand form (37 ∷ suc n ∷ []) (escape (suc n)) → b ≡ suc n → Expanded form s 2 (escape b)
    of n m e = subst (λ (c : ℕ). Expanded form s 2 (escape c)) (sym e) (record {
      word = 37 ∷ suc n ∷ [];
      span = span_join (span_byte s 0 36 h0) (span_byte s 1 n (h1 ∙ e));
      made = m;
      inside = let k = nonzero_inside s 1 (λ z. omega arith) in omega arith;
    })

pub empty_of : (s : List ℕ) → length s ≡ 0 → s ≡ []
empty_of [] h = refl
empty_of (x ∷ xs) h = absurd (omega arith)

-- the piece at the front
pub piece_sound : (form : Form) (s : List ℕ) → FoundRight form s (piece_of form s)
unfolding piece_of
piece_sound form s =
    cond-elim (FoundRight form s) (eqb (length s) 0)
    (λ _. tt)
    (λ n. cond-elim (FoundRight form s) (eqb (at s 0) 37)
    (λ h. cond-elim (FoundRight form s) (is_escape (at s 1))
    (λ k. escape_sound form s (at s 1) (eqb-true (at s 0) 37 h) refl k)
    (λ _. cond-elim (FoundRight form s) (eqb (at s 1) 123) (λ k. braces_sound form s (eqb-true (at s 0) 37 h) (eqb-true (at s 1) 123 k)) (λ _. tt)))
    (λ _. cond-elim (FoundRight form s) (is_literal form (at s 0))
    (λ k. (drop-cons s 0 0 (let q = eqb-false (length s) 0 n in omega arith), k))
    (λ _. tt)))

-- what is produced is found
percent_no_literal : (form : Form) → is_literal form 37 ≡ false
unfolding is_literal is_macro_literal is_space within
percent_no_literal DomainSpec = refl
percent_no_literal ModifierValue = refl
percent_no_literal Explanation = refl

-- a delimiter or the brace stands first of what follows digits and r
next_fails : (p : ℕ → Bool) → ((b : ℕ) → is_delimiter b ≡ true → p b ≡ false) → p 125 ≡ false → {s : List ℕ} {i j : ℕ} (delimiters : List ℕ)
    → all is_delimiter delimiters ≡ true → Span s i j (delimiters ++ (125 ∷ [])) → p (at s i) ≡ false
unfolding all
next_fails p h z [] a sp = ap p (span_at sp) ∙ z
next_fails p h z (b ∷ bs) a sp = ap p (span_at sp) ∙ h b (and_left (is_delimiter b) (all is_delimiter bs) a)

brace_no_digit : is_digit 125 ≡ false
unfolding is_digit within
brace_no_digit = refl

brace_no_delimiter : is_in Delimiter 125 ≡ false
unfolding is_in is_delimiter within
brace_no_delimiter = refl

brace_no_reverse : is_reverse 125 ≡ false
unfolding is_reverse lower is_upper within
brace_no_reverse = refl

in_digits : (w : List ℕ) → is_part_count w ≡ true → all (is_in Digit) w ≡ true
unfolding is_part_count
in_digits w h = class_tests Digit w ∙ and_left (all is_digit w) _ h

is_reverse_lem : (b : ℕ) → eqb (lower b) 114 ≡ true → is_reverse b ≡ true
unfolding is_reverse
is_reverse_lem b h = h

-- what follows the digits: its delimiters stand from a place up to the brace, and the reader finds them
record Closed (s : List ℕ) (d e : ℕ) (reversed : Bool) (delimiters : List ℕ) : Type 0 where
  from : ℕ
  to : ℕ
  span : Span s from to delimiters
  ends : e ≡ to + 1
  found : reversal_at s d ≡ Some (Found.Expand (record { letter = at s 2; digits = d; reversed = reversed; delimiters = record { from = from; to = to } }))
  stops : is_digit (at s d) ≡ false

delimiters_complete : {s : List ℕ} {f e : ℕ} (d : ℕ) (reversed : Bool) (delimiters : List ℕ) → all is_delimiter delimiters ≡ true
    → Span s f e (delimiters ++ (125 ∷ []))
    → delimiters_at s d reversed f ≡ Some (Found.Expand (record { letter = at s 2; digits = d; reversed = reversed; delimiters = record { from = f; to = f + length delimiters } }))
unfolding delimiters_at closed_at
delimiters_complete {s} {f} {e} d reversed delimiters h sp =
    let c = span_cut delimiters (125 ∷ []) sp in
    let b = span_at c.1 in
    simp (span_run (is_in Delimiter) c.0 (class_tests Delimiter delimiters ∙ h) (ap (is_in Delimiter) b ∙ brace_no_delimiter), b)

reversal_complete : {r : List ℕ} {reversed : Bool} → Reversal r reversed → (s : List ℕ) (d e : ℕ) (delimiters : List ℕ) → all is_delimiter delimiters ≡ true
    → Span s d e (r ++ (delimiters ++ (125 ∷ []))) → Closed s d e reversed delimiters
unfolding reversal_at
reversal_complete absent s d e delimiters h sp =
    let c = span_cut delimiters (125 ∷ []) sp in
    record {
      from = d;
      to = d + length delimiters;
      span = c.0;
      ends = c.1.size;
      found = simp (next_fails is_reverse delimiter_no_reverse brace_no_reverse delimiters h sp) (delimiters_complete d false delimiters h sp);
      stops = next_fails is_digit delimiter_no_digit brace_no_digit delimiters h sp;
    }
reversal_complete (present {b = b} k) s d e delimiters h sp =
    let c1 = span_cut (b ∷ []) (delimiters ++ (125 ∷ [])) sp in
    let c = span_cut delimiters (125 ∷ []) c1.1 in
    let q : at s d ≡ b = span_at sp in
    record {
      from = d + 1;
      to = d + 1 + length delimiters;
      span = c.0;
      ends = c.1.size;
      found = simp (ap is_reverse q ∙ is_reverse_lem b k) (delimiters_complete d true delimiters h c1.1);
      stops = ap is_digit q ∙ reverse_no_digit b (is_reverse_lem b k);
    }

-- a text that begins with the bytes of a macro in braces, or of an escape
braces_here : (form : Form) (rest : List ℕ) → piece_of form (37 ∷ 123 ∷ rest) ≡ braces_of form (37 ∷ 123 ∷ rest)
unfolding piece_of is_escape
braces_here form rest = simp (ne_eqb (suc (suc (length rest))) 0 (λ e. omega arith))

escape_here : (form : Form) (b : ℕ) (rest : List ℕ) → is_escape b ≡ true → piece_of form (37 ∷ b ∷ rest) ≡ Some (Found.Escape b)
unfolding piece_of
escape_here form b rest h = simp (ne_eqb (suc (suc (length rest))) 0 (λ e. omega arith), h)

-- a macro in braces, with anything behind it: `more` is what follows the digits
module _ (form : Form) (letter : ℕ) (digits more delimiters rest : List ℕ) (reversed : Bool) where
  abbrev text : List ℕ
  text = 37 ∷ 123 ∷ letter ∷ ((digits ++ more) ++ rest)

  closed_complete : is_letter form letter ≡ true → is_part_count digits ≡ true → Closed text (3 + length digits) (3 + length (digits ++ more)) reversed delimiters
      → (after : List ℕ → Pieces)
      → pieces_after text (piece_of form text) after ≡ push (expand (record { letter = letter; digits = digits; reversed = reversed; delimiters = delimiters })) (after rest)
  unfolding braces_of digits_at pieces_after macro_of
  closed_complete hl hc k after =
      let c = span_cut digits more (span_between (37 ∷ 123 ∷ letter ∷ []) (digits ++ more) rest) in
      let e = span_run (is_in Digit) c.0 (in_digits digits hc) (class_test Digit (at text (3 + length digits)) ∙ k.stops) in
      let x : drop (k.to + 1) text ≡ rest =
      ap (λ (n : ℕ). drop n text) (sym k.ends) ∙ drop-append-add (37 ∷ 123 ∷ letter ∷ []) ((digits ++ more) ++ rest) (length (digits ++ more)) ∙ drop-append_seam (digits ++ more) rest in
      simp (braces_here form (letter ∷ ((digits ++ more) ++ rest)), hl, e, span_word c.0, hc, k.found, span_word k.span, x)

-- a macro-expand, with anything behind it, is the piece at the front
pub expand_complete : {form : Form} {w : List ℕ} {p : Piece} → MacroExpand form w p → (rest : List ℕ) (after : List ℕ → Pieces)
    → pieces_after (w ++ rest) (piece_of form (w ++ rest)) after ≡ push p (after rest)
unfolding is_escape pieces_after
expand_complete {form} (braces {letter = letter} {digits = digits} {r = r} {delimiters = delimiters} {reversed = reversed} hl hc hr hd) rest after =
    let more = r ++ (delimiters ++ (125 ∷ [])) in
    let c = span_cut digits more (span_between (37 ∷ 123 ∷ letter ∷ []) (digits ++ more) rest) in
    closed_complete form letter digits more delimiters rest reversed hl hc
    (reversal_complete hr (37 ∷ 123 ∷ letter ∷ ((digits ++ more) ++ rest)) (3 + length digits) (3 + length (digits ++ more)) delimiters hd c.1) after
expand_complete {form} percent rest after = rw (escape_here form 37 rest refl)
expand_complete {form} underscore rest after = rw (escape_here form 95 rest refl)
expand_complete {form} hyphen rest after = rw (escape_here form 45 rest refl)

-- a byte that stands for itself
pub literal_complete : (form : Form) (b : ℕ) (rest : List ℕ) (after : List ℕ → Pieces) → is_literal form b ≡ true
    → pieces_after (b ∷ rest) (piece_of form (b ∷ rest)) after ≡ push (literal b) (after rest)
unfolding piece_of pieces_after
literal_complete form b rest after h = simp (ne_eqb (suc (length rest)) 0 (λ e. omega arith), apart (is_literal form) b 37 h (percent_no_literal form), h)

pub expand_some : {form : Form} {w : List ℕ} {p : Piece} → MacroExpand form w p → 0 < length w
expand_some (braces hl hc hr hd) = omega arith
expand_some percent = omega arith
expand_some underscore = omega arith
expand_some hyphen = omega arith
