-- What a macro-string or a domain-spec begins with is one once one of a few ends is put after it. A front of a macro-expand is closed by an end; so a
-- front of a macro-string is one, or one and a macro-expand that an end closes; and a domain-spec is a macro-string. From the productions, the laws of
-- fronts and the row of a domain-spec.
use Prim.Native.Nat.{ℕ, zero, suc, ◌+◌, ◌-◌, ◌*◌, ◌≤◌}
use mathlib.Core.Path.{◌≡◌, refl, sym, ap, subst, ◌∙◌}
use mathlib.Core.List.{List, [], ◌∷◌, ◌++◌, append_assoc, append-nil}
use mathlib.Core.Bool.{Bool, true, ◌||◌}
use native.Mathlib.Omega.{arith}
use lib.ListN.{length, take}
use lib.Seq.{take-nil}
use lib.Dec.{leb, eqb}
use borrow.Author.Tests.{le-leb}
use Rattle.text.specs.Bytes.{within, lower, is_upper, is_alpha, is_digit, is_macro_literal, is_delimiter}
use Rattle.text.specs.Decimal.{decimal, decimal_from}
use Rattle.text.specs.Lists.{all, contains}
use Rattle.text.specs.Texts.{bytes}
use Rattle.text.proofs.Laws.Tests.{and_left, and_both, or_right}
use Rattle.text.proofs.Laws.Parts.{all_none, all_join_by}
use Rattle.text.proofs.Laws.Fronts.{fronts_joined, fronts_between, all_take, Completed, completed_by, completed_now, completed_in}
use Rattle.macros.specs.Grammar.{Piece, is_letter, is_part_count, Reversal, absent, present, MacroExpand, braces, underscore, hyphen, MacroString}
use Rattle.macros.specs.Grammar.{Toplabel, letters, DomainEnd, DomainSpec, spec}
use Rattle.macros.specs.declared.Form.{Form}
use Rattle.macros.specs.declared.Form.TheVariants.{ModifierValue, Explanation}
use Rattle.macros.proofs.Laws.Strings.{row_string}
use Rattle.macros.proofs.Laws.Endings.{literal_out, spec_row}

-- the ends that are needed of `%%`, `%{d01}` and `.a`
pub data End : List ℕ → Type 0 where
  nothing : End []
  percent : End (bytes "%")
  letter : End (bytes "d01}")
  one : End (bytes "1}")
  brace : End (bytes "}")
  label : End (bytes ".a")

-- the parts of `%{d01}` and of `.a`
pub letter_d : (form : Form) → is_letter form 100 ≡ true
unfolding is_letter contains lower is_upper within
letter_d Form.DomainSpec = refl
letter_d ModifierValue = refl
letter_d Explanation = refl

pub count_01 : is_part_count (bytes "01") ≡ true
unfolding is_part_count all is_digit within decimal decimal_from
count_01 = refl

pub label_a : Toplabel (bytes "a")
unfolding all is_alpha is_upper within
label_a = letters [] [] 97 refl refl refl

-- a digit 1 after any digits gives a value above 0
digit_1 : is_digit 49 ≡ true
unfolding is_digit within
digit_1 = refl

value_1 : (v : ℕ) (w : List ℕ) → 1 ≤ decimal_from v (w ++ bytes "1")
unfolding decimal_from
value_1 v [] = omega arith
value_1 v (d ∷ w) = value_1 (10 * v + (d - 48)) w

count_1 : (w : List ℕ) → all is_digit w ≡ true → is_part_count (w ++ bytes "1") ≡ true
unfolding is_part_count decimal
count_1 w h =
    let s = w ++ bytes "1" in
    and_both (all is_digit s) (eqb (length s) 0 || leb 1 (decimal s)) (all_join_by is_digit w 49 [] h digit_1 (all_none is_digit))
    (or_right (eqb (length s) 0) (leb 1 (decimal s)) (le-leb 1 (decimal s) (value_1 0 w)))

count_digits : (w : List ℕ) → is_part_count w ≡ true → all is_digit w ≡ true
unfolding is_part_count
count_digits w h = and_left (all is_digit w) (eqb (length w) 0 || leb 1 (decimal w)) h

-- a front of a macro-expand, closed by an end, which is nothing where all of it stands
abbrev Closed : Form → List ℕ → Type 0
Closed form p = Completed End (MacroExpand form) p

close : {form : Form} {p e w : List ℕ} {x : Piece} → End e → w ≡ p ++ e → MacroExpand form w x → Closed form p
close {form} h q m = completed_by End (MacroExpand form) h q m

whole : {form : Form} {p : List ℕ} {x : Piece} → MacroExpand form p x → Closed form p
whole {form} m = completed_now End (MacroExpand form) nothing m

-- of a macro in braces, cut in its delimiters or its brace, from its r on, and from its digits on
module _ {form : Form} (l : ℕ) (ds : List ℕ) {rs : List ℕ} (es : List ℕ) {reversed : Bool} (hl : is_letter form l ≡ true) (hd : is_part_count ds ≡ true)
    (hr : Reversal rs reversed) (he : all is_delimiter es ≡ true) where
  delimiters_begin : (n : ℕ) → Closed form (bytes "%{" ++ (l ∷ (ds ++ (rs ++ take n (es ++ bytes "}")))))
  delimiters_begin = fronts_between (λ p. Closed form (bytes "%{" ++ (l ∷ (ds ++ (rs ++ p))))) es 125 []
      (λ n _. close brace (simp append_assoc) (braces hl hd hr (all_take is_delimiter n es he)))
      (λ n. rw (take-nil n) (whole (braces hl hd hr he)))

  reversal_begins : (n : ℕ) → Closed form (bytes "%{" ++ (l ∷ (ds ++ take n (rs ++ (es ++ bytes "}")))))
  reversal_begins = fronts_joined (λ p. Closed form (bytes "%{" ++ (l ∷ (ds ++ p)))) rs (es ++ bytes "}") (λ n _. some hr n) delimiters_begin
    where
      bare : Closed form (bytes "%{" ++ (l ∷ (ds ++ [])))
      bare = close brace (simp append_assoc) (braces hl hd absent (all_none is_delimiter))

      some : {r : List ℕ} {t : Bool} → Reversal r t → (m : ℕ) → Closed form (bytes "%{" ++ (l ∷ (ds ++ take m r)))
      some absent m = rw (take-nil m) bare
      some (present h) zero = bare
      some (present h) (suc m) = rw (take-nil m) (close brace (simp append_assoc) (braces hl hd (present h) (all_none is_delimiter)))

  digits_begin : (n : ℕ) → Closed form (bytes "%{" ++ (l ∷ take n (ds ++ (rs ++ (es ++ bytes "}")))))
  digits_begin = fronts_joined (λ p. Closed form (bytes "%{" ++ (l ∷ p))) ds (rs ++ (es ++ bytes "}"))
      (λ n _. close one (simp append_assoc)
      (braces {digits = take n ds ++ bytes "1"} hl (count_1 (take n ds) (all_take is_digit n ds (count_digits ds hd))) absent (all_none is_delimiter)))
      reversal_begins

-- of any macro-expand, with at least its `%`
expand_begins : {form : Form} {w : List ℕ} {x : Piece} → MacroExpand form w x → (n : ℕ) → Closed form (take (suc n) w)
expand_begins (braces hl hd hr he) zero = close percent refl MacroExpand.percent
expand_begins {form} (braces hl hd hr he) (suc zero) =
    close letter refl (braces {digits = bytes "01"} (letter_d form) count_01 absent (all_none is_delimiter))
expand_begins (braces {letter = l} {digits = ds} {delimiters = es} hl hd hr he) (suc (suc n)) = digits_begin l ds es hl hd hr he n
expand_begins MacroExpand.percent zero = close percent refl MacroExpand.percent
expand_begins MacroExpand.percent (suc n) = rw (take-nil n) (whole MacroExpand.percent)
expand_begins underscore zero = close percent refl MacroExpand.percent
expand_begins underscore (suc n) = rw (take-nil n) (whole underscore)
expand_begins hyphen zero = close percent refl MacroExpand.percent
expand_begins hyphen (suc n) = rw (take-nil n) (whole hyphen)

-- a front of a macro-string: one, or one and a macro-expand that an end closes
data StringBegun (form : Form) (p : List ℕ) : Type 0 where
  string : {ps : List Piece} → MacroString form p ps → StringBegun form p
  string_closed : {u : List ℕ} (q : List ℕ) {ps : List Piece} → p ≡ u ++ q → MacroString form u ps → Closed form q → StringBegun form p

expand_before : {form : Form} {w p : List ℕ} {x : Piece} → MacroExpand form w x → StringBegun form p → StringBegun form (w ++ p)
expand_before m (string s) = string (MacroString.expands m s)
expand_before {w = w} m (string_closed {u = u} q e s c) =
    string_closed {u = w ++ u} q (ap (λ (t : List ℕ). w ++ t) e ∙ sym (append_assoc w u q)) (MacroString.expands m s) c

literal_before : {form : Form} {b : ℕ} {p : List ℕ} → is_macro_literal b ≡ true → StringBegun form p → StringBegun form (b ∷ p)
literal_before h (string s) = string (MacroString.literals h s)
literal_before {b = b} h (string_closed {u = u} q e s c) = string_closed {u = b ∷ u} q (ap (λ (t : List ℕ). b ∷ t) e) (MacroString.literals h s) c

expand_begun : {form : Form} {w : List ℕ} {x : Piece} → MacroExpand form w x → (n : ℕ) → StringBegun form (take n w)
expand_begun m zero = string MacroString.none
expand_begun {w = w} m (suc n) = string_closed {u = []} (take (suc n) w) refl MacroString.none (expand_begins m n)

begun : {form : Form} {v : List ℕ} {ps : List Piece} → MacroString form v ps → (n : ℕ) → StringBegun form (take n v)
begun MacroString.none n = rw (take-nil n) (string MacroString.none)
begun {form} (MacroString.expands {w = w} {rest = rest} m s) n =
    fronts_joined (StringBegun form) w rest (λ k _. expand_begun m k) (λ k. expand_before m (begun s k)) n
begun (MacroString.literals h s) zero = string MacroString.none
begun (MacroString.literals h s) (suc n) = literal_before h (begun s n)

-- such a front ends as a macro-string, and as a domain-spec
expand_after : {form : Form} {u w : List ℕ} {ps : List Piece} {x : Piece} → MacroString form u ps → MacroExpand form w x
    → MacroString form (u ++ w) (ps ++ (x ∷ []))
expand_after {form} {w = w} {x = x} MacroString.none m =
    subst (λ (t : List ℕ). MacroString form t (x ∷ [])) (append-nil w) (MacroString.expands m MacroString.none)
expand_after {form} {w = w} {ps = ps} {x = x} (MacroString.expands {w = v} {rest = rest} k s) m =
    subst (λ (t : List ℕ). MacroString form t (ps ++ (x ∷ []))) (sym (append_assoc v rest w)) (MacroString.expands k (expand_after s m))
expand_after (MacroString.literals h s) m = MacroString.literals h (expand_after s m)

string_of : {form : Form} {p : List ℕ} → StringBegun form p → Completed End (MacroString form) p
string_of {form} (string s) = completed_now End (MacroString form) nothing s
string_of {form} (string_closed {u = u} q {ps = ps} e s c) =
    rw e (completed_in End (MacroString form) u c (λ d h. h) (λ w x m. (ps ++ (x ∷ []), expand_after s m)))

spec_of : {p : List ℕ} → StringBegun Form.DomainSpec p → Completed End DomainSpec p
spec_of (string s) = completed_by End DomainSpec label refl (spec s (DomainEnd.label label_a))
spec_of (string_closed {u = u} q {ps = ps} e s c) =
    rw e (completed_in End DomainSpec u c (λ d h. h) (λ w x m. (ps ++ (x ∷ []), spec s (DomainEnd.expands m))))

pub string_begins : {form : Form} {v : List ℕ} {ps : List Piece} → MacroString form v ps → (n : ℕ) → Completed End (MacroString form) (take n v)
string_begins s n = string_of (begun s n)

pub spec_begins : {d : List ℕ} {ps : List Piece} → DomainSpec d ps → (n : ℕ) → Completed End DomainSpec (take n d)
spec_begins d n = spec_of (begun (row_string literal_out (spec_row d)) n)
