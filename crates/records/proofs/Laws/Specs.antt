-- Domain-specs as terms hold them: no space, not empty, ending in at most digits after a byte that no prefix length holds; read after a colon, or
-- absent, as the production says. From the grammar of macro strings and its soundness and completeness.
use Rattle.std.proofs.Common.{None, Option, Some}
use Prim.Native.Nat.{ℕ, ◌+◌, ◌≤◌, ◌<◌}
use mathlib.Core.Path.{◌≡◌, refl, sym, ap, subst, ◌∙◌}
use mathlib.Core.Logic.{◌⊎◌, inl, inr, ⊎_elim}
use mathlib.Core.List.{List, [], ◌∷◌, ◌++◌, append_assoc}
use mathlib.Core.Bool.{Bool, true, false, not, ◌||◌}
use native.Mathlib.Omega.{arith}
use lib.ListN.{length, drop, length-append}
use lib.Dec.{eqb, leb}
use borrow.Author.Tests.{eq-eqb, ne_eqb, eqb-true, eqb-false}
use Rattle.text.specs.Bytes.{at, part, lower, within, is_upper, is_alpha, is_digit, is_alphanumeric, is_toplabel_byte, is_macro_literal, is_delimiter, is_length_byte, is_not_space}
use Rattle.text.specs.Decimal.{decimal}
use Rattle.text.specs.Lists.{all, contains}
use Rattle.text.proofs.Laws.Tests.{cond-elim, and_left, test_fails, true_false}
use Rattle.text.proofs.Laws.Classes.{apart, within_range, range_within}
use Rattle.text.proofs.Laws.Spans.{Span, span_join, span_cut, span_byte, span_at, span_word, span_part}
use Rattle.text.proofs.Laws.Parts.{all_none, all_cons, all_join, all_first, all_rest, all_inside}
use Rattle.macros.specs.declared.Form.{Form}
use Rattle.macros.specs.declared.Form.TheVariants.{ModifierValue, Explanation}
use Rattle.macros.specs.Grammar.{Piece, is_letter, is_part_count, Reversal, absent as no-reversal, present as reversal, MacroExpand, braces, percent, underscore, hyphen, MacroString, Toplabel, DomainEnd, label, label_dot, DomainSpec, spec}
use Rattle.macros.specs.Reader.{is_reverse, is_macro_string, pieces}
use Rattle.macros.proofs.Laws.Toplabels.{passed, toplabel_complete}
use Rattle.macros.proofs.Laws.Soundness.{sound}
use Rattle.macros.proofs.Laws.Completeness.{complete}
use Rattle.records.specs.Grammar.{OptionalSpec, without, has_spec}
use Rattle.records.specs.Numbers.{optional}
use Rattle.records.specs.Reader.{spec_at, after_spec}

-- a class without the space
pub solid_byte : (p : ℕ → Bool) → p 32 ≡ false → (b : ℕ) → p b ≡ true → is_not_space b ≡ true
unfolding is_not_space
solid_byte p z b h = ap not (apart p b 32 h z)

pub solid_bytes : (p : ℕ → Bool) → p 32 ≡ false → (w : List ℕ) → all p w ≡ true → all is_not_space w ≡ true
solid_bytes p z w h = all_inside p is_not_space (solid_byte p z) w h

pub solid_one : (b : ℕ) (w : List ℕ) → eqb b 32 ≡ false → all is_not_space w ≡ true → all is_not_space (b ∷ w) ≡ true
unfolding is_not_space
solid_one b w n h = all_cons is_not_space b w (ap not n) h

-- macro strings hold no space
solid_letter : (form : Form) (b : ℕ) → is_letter form b ≡ true → eqb b 32 ≡ false
unfolding is_letter contains lower is_upper within
solid_letter Form.DomainSpec b h = apart (is_letter Form.DomainSpec) b 32 h refl
solid_letter ModifierValue b h = apart (is_letter ModifierValue) b 32 h refl
solid_letter Explanation b h = apart (is_letter Explanation) b 32 h refl

solid_digits : (w : List ℕ) → is_part_count w ≡ true → all is_not_space w ≡ true
unfolding is_part_count is_digit within
solid_digits w h = solid_bytes is_digit refl w (and_left (all is_digit w) (eqb (length w) 0 || leb 1 (decimal w)) h)

solid_reversal : {w : List ℕ} {r : Bool} → Reversal w r → all is_not_space w ≡ true
unfolding is_reverse lower is_upper within
solid_reversal no-reversal = all_none is_not_space
solid_reversal (reversal {b = b} h) = solid_one b [] (apart is_reverse b 32 h refl) (all_none is_not_space)

solid_delimiters : (w : List ℕ) → all is_delimiter w ≡ true → all is_not_space w ≡ true
unfolding is_delimiter within
solid_delimiters w h = solid_bytes is_delimiter refl w h

solid_expand : {form : Form} {w : List ℕ} {p : Piece} → MacroExpand form w p → all is_not_space w ≡ true
solid_expand {form} (braces {letter = letter} {digits = digits} {r = r} {delimiters = delimiters} hl hc hr hd) =
    solid_one 37 (123 ∷ letter ∷ (digits ++ (r ++ (delimiters ++ (125 ∷ []))))) refl
    (solid_one 123 (letter ∷ (digits ++ (r ++ (delimiters ++ (125 ∷ []))))) refl
    (solid_one letter (digits ++ (r ++ (delimiters ++ (125 ∷ [])))) (solid_letter form letter hl)
    (all_join is_not_space digits (r ++ (delimiters ++ (125 ∷ []))) (solid_digits digits hc)
    (all_join is_not_space r (delimiters ++ (125 ∷ [])) (solid_reversal hr)
    (all_join is_not_space delimiters (125 ∷ []) (solid_delimiters delimiters hd) (solid_one 125 [] refl (all_none is_not_space)))))))
solid_expand percent = solid_one 37 (37 ∷ []) refl (solid_one 37 [] refl (all_none is_not_space))
solid_expand underscore = solid_one 37 (95 ∷ []) refl (solid_one 95 [] refl (all_none is_not_space))
solid_expand hyphen = solid_one 37 (45 ∷ []) refl (solid_one 45 [] refl (all_none is_not_space))

solid_literal : (b : ℕ) → is_macro_literal b ≡ true → eqb b 32 ≡ false
unfolding is_macro_literal within
solid_literal b h = apart is_macro_literal b 32 h refl

pub solid_string : {form : Form} {w : List ℕ} {ps : List Piece} → MacroString form w ps → all is_not_space w ≡ true
solid_string MacroString.none = all_none is_not_space
solid_string (MacroString.expands {w = w} {rest = rest} m d) = all_join is_not_space w rest (solid_expand m) (solid_string d)
solid_string (MacroString.literals {b = b} {rest = rest} k d) = solid_one b rest (solid_literal b k) (solid_string d)

toplabel_bytes : {w : List ℕ} → Toplabel w → all is_toplabel_byte w ≡ true
toplabel_bytes {w} t = (passed w (toplabel_complete t)).bytes

solid_label : {w : List ℕ} → Toplabel w → all is_not_space w ≡ true
unfolding is_toplabel_byte is_alphanumeric is_alpha is_upper is_digit within
solid_label {w} t = solid_bytes is_toplabel_byte refl w (toplabel_bytes t)

solid_end : {w : List ℕ} {ps : List Piece} → DomainEnd w ps → all is_not_space w ≡ true
solid_end (label {w = w} t) = solid_one 46 w refl (solid_label t)
solid_end (label_dot {w = w} t) = solid_one 46 (w ++ (46 ∷ [])) refl (all_join is_not_space w (46 ∷ []) (solid_label t) (solid_one 46 [] refl (all_none is_not_space)))
solid_end (DomainEnd.expands m) = solid_expand m

pub solid_spec : {d : List ℕ} {ps : List Piece} → DomainSpec d ps → all is_not_space d ≡ true
solid_spec (spec {u = u} {w = w} s e) = all_join is_not_space u w (solid_string s) (solid_end e)

-- how a domain-spec ends: in a byte that no prefix length holds, and digits
pub record Ending (d : List ℕ) : Type 0 where
  pub front : List ℕ
  pub byte : ℕ
  pub digits : List ℕ
  pub parts : d ≡ front ++ (byte ∷ digits)
  pub outside : is_length_byte byte ≡ false
  pub inside : all is_digit digits ≡ true

pub ending_after : (u d : List ℕ) → Ending d → Ending (u ++ d)
ending_after u d e = record {
  front = u ++ e.front;
  byte = e.byte;
  digits = e.digits;
  parts = ap (λ (t : List ℕ). u ++ t) e.parts ∙ sym (append_assoc u e.front (e.byte ∷ e.digits));
  outside = e.outside;
  inside = e.inside;
}

ending_byte : (u : List ℕ) (b : ℕ) → is_length_byte b ≡ false → Ending (u ++ (b ∷ []))
ending_byte u b h = record { front = u; byte = b; digits = []; parts = refl; outside = h; inside = all_none is_digit }

-- a byte of a top label that is no digit
label_outside : (b : ℕ) → is_toplabel_byte b ≡ true → is_digit b ≡ false → is_length_byte b ≡ false
unfolding is_toplabel_byte is_alphanumeric is_alpha is_upper is_digit is_length_byte within
label_outside b h n = test_fails (is_length_byte b)
    (λ t.
    let r = within_range 47 57 b t in
    let s : b ≡ 47 → ⊥ = eqb-false b 47 (apart is_toplabel_byte b 47 h refl) in
    true_false (is_digit b) (range_within 48 57 b (omega (arith, r)) r.1) n)

label_ending : (w : List ℕ) → all is_toplabel_byte w ≡ true → (all is_digit w ≡ true) ⊎ Ending w
label_ending [] h = inl (all_none is_digit)
label_ending (b ∷ w) h = ⊎_elim
    (λ (k : all is_digit w ≡ true). by (is_digit b) refl k)
    (λ (e : Ending w). inr (ending_after (b ∷ []) w e))
    (label_ending w (all_rest is_toplabel_byte b w h))
  where
    by : (t : Bool) → is_digit b ≡ t → all is_digit w ≡ true → (all is_digit (b ∷ w) ≡ true) ⊎ Ending (b ∷ w)
    by true e k = inl (all_cons is_digit b w e k)
    by false e k = inr (record { front = []; byte = b; digits = w; parts = refl; outside = label_outside b (all_first is_toplabel_byte b w h) e; inside = k })

expand_ending : {form : Form} {w : List ℕ} {p : Piece} → MacroExpand form w p → Ending w
unfolding is_length_byte within
expand_ending (braces {letter = letter} {digits = digits} {r = r} {delimiters = delimiters} hl hc hr hd) =
    ending_after (37 ∷ 123 ∷ letter ∷ digits) (r ++ (delimiters ++ (125 ∷ [])))
    (ending_after r (delimiters ++ (125 ∷ [])) (ending_byte delimiters 125 refl))
expand_ending percent = ending_byte (37 ∷ []) 37 refl
expand_ending underscore = ending_byte (37 ∷ []) 95 refl
expand_ending hyphen = ending_byte (37 ∷ []) 45 refl

end_ending : {w : List ℕ} {ps : List Piece} → DomainEnd w ps → Ending w
unfolding is_length_byte within
end_ending (label {w = w} t) = ⊎_elim
    (λ (k : all is_digit w ≡ true). record { front = []; byte = 46; digits = w; parts = refl; outside = refl; inside = k })
    (λ (e : Ending w). ending_after (46 ∷ []) w e)
    (label_ending w (toplabel_bytes t))
end_ending (label_dot {w = w} t) = ending_byte (46 ∷ w) 46 refl
end_ending (DomainEnd.expands m) = expand_ending m

pub spec_ending : {d : List ℕ} {ps : List Piece} → DomainSpec d ps → Ending d
spec_ending (spec {u = u} {w = w} s e) = ending_after u w (end_ending e)

-- a domain-spec is not empty
pub spec_some : {d : List ℕ} {ps : List Piece} → DomainSpec d ps → 0 < length d
spec_some {d} s = let e = spec_ending s in omega (arith, ap length e.parts, length-append e.front (e.byte ∷ e.digits))

-- what is read after a colon is a domain-spec
pub record Argument (w : List ℕ) (k to from : ℕ) : Type 0 where
  pub pieces : List Piece
  pub made : DomainSpec (part w from to) pieces
  pub span : Span w k to (58 ∷ part w from to)
  pub some : eqb from to ≡ false

abbrev pub SpecRight : List ℕ → ℕ → ℕ → Option (Option ℕ) → Type 0
SpecRight w k to (Some (Some from)) = Argument w k to from
SpecRight w k to (Some None) = k ≡ to
SpecRight w k to None = Unit {0}

after_colon : (w : List ℕ) (k to : ℕ) → k < to → to ≤ length w → at w k ≡ 58 → is_macro_string Form.DomainSpec (part w (k + 1) to) ≡ true → Argument w k to (k + 1)
after_colon w k to h l c m =
    let p = span_part w (k + 1) to (omega arith) l in
    let d : DomainSpec (part w (k + 1) to) (pieces Form.DomainSpec (part w (k + 1) to)).list = sound Form.DomainSpec (part w (k + 1) to) m in
    record {
      pieces = (pieces Form.DomainSpec (part w (k + 1) to)).list;
      made = d;
      span = span_join (span_byte w k 57 c) p;
      some = ne_eqb (k + 1) to (λ e. omega (arith, spec_some d, p.size));
    }

pub spec_sound : (w : List ℕ) (k to : ℕ) → k ≤ to → to ≤ length w → SpecRight w k to (spec_at w k to)
unfolding spec_at
spec_sound w k to h l =
    cond-elim (SpecRight w k to) (eqb k to) (eqb-true k to)
    (λ n. cond-elim (SpecRight w k to) (eqb (at w k) 58)
    (λ c. cond-elim (SpecRight w k to) (is_macro_string Form.DomainSpec (part w (k + 1) to))
    (λ m. let z = eqb-false k to n in after_colon w k to (omega arith) l (eqb-true (at w k) 58 c) m) (λ _. tt))
    (λ _. tt))

pub spec_right : (w : List ℕ) (k to : ℕ) → k ≤ to → to ≤ length w → {x : Option (Option ℕ)} → spec_at w k to ≡ x → SpecRight w k to x
spec_right w k to h l e = subst (SpecRight w k to) e (spec_sound w k to h l)

-- an argument that may be absent
pub record Optionally (w : List ℕ) (k to from end : ℕ) : Type 0 where
  pub word : List ℕ
  pub span : Span w k to word
  pub made : OptionalSpec word (optional w from end)

pub argument_given : (w : List ℕ) (k to from : ℕ) → Argument w k to from → Optionally w k to from to
argument_given w k to from a = record {
  word = 58 ∷ part w from to;
  span = a.span;
  made = rw a.some (has_spec a.made);
}

pub argument_absent : (w : List ℕ) (k to : ℕ) → k ≡ to → Optionally w k to to to
argument_absent w k to e = record {
  word = [];
  span = record { split = ap (λ (n : ℕ). drop n w) e; size = omega arith };
  made = rw (eq-eqb to to refl) without;
}

-- a domain-spec is read after its colon, and absent where there is none
pub spec_absent : {w : List ℕ} {k to : ℕ} → Span w k to [] → spec_at w k to ≡ Some None
unfolding spec_at
spec_absent {w} {k} {to} p = simp (eq-eqb k to (omega (arith, p.size)))

pub record Given (w : List ℕ) (k to : ℕ) (d : List ℕ) : Type 0 where
  pub read : spec_at w k to ≡ Some (Some (k + 1))
  pub says : part w (k + 1) to ≡ d
  pub some : eqb (k + 1) to ≡ false

pub spec_given : {w : List ℕ} {k to : ℕ} {d : List ℕ} {ps : List Piece} → DomainSpec d ps → Span w k to (58 ∷ d) → Given w k to d
unfolding spec_at
spec_given {w} {k} {to} {d} {ps} s p =
    let q = (span_cut (58 ∷ []) d p).1 in
    let e : part w (k + 1) to ≡ d = span_word q in
    record {
      read = simp (ne_eqb k to (λ z. omega (arith, p.size)), eq-eqb (at w k) 58 (span_at p), e, (complete Form.DomainSpec d ps s).0);
      says = e;
      some = ne_eqb (k + 1) to (λ z. omega (arith, q.size, spec_some s));
    }

-- the three ways out of a domain-spec
pub spec-elim {κ} : {A : Type 0} (P : A → Type κ) (x : Option (Option ℕ)) (f : ℕ → A) (y z : A)
    → ((from : ℕ) → x ≡ Some (Some from) → P (f from)) → (x ≡ Some None → P y) → (x ≡ None → P z) → P (after_spec x f y z)
spec-elim P (Some (Some from)) f y z g h k = g from refl
spec-elim P (Some None) f y z g h k = h refl
spec-elim P None f y z g h k = k refl
