-- One modifier: what is read is produced, what is produced is read, and it holds no space. From the laws of names and of domain-specs, and the
-- soundness and completeness of macro strings.
use Rattle.std.proofs.Common.{None, Option, Some}
use Prim.Native.Nat.{ℕ, ◌+◌}
use mathlib.Core.Path.{◌≡◌, refl, sym, ap, subst, ◌∙◌}
use mathlib.Core.List.{List, [], ◌∷◌, ◌++◌, map}
use mathlib.Core.Bool.{true, false}
use native.Mathlib.Omega.{arith}
use lib.ListN.{length}
use lib.Dec.{eqb}
use borrow.Author.Tests.{eq-eqb}
use Rattle.text.specs.Bytes.{at, part, lower, within, is_upper, is_alpha, is_digit, is_alphanumeric, is_name_byte, is_not_space}
use Rattle.text.specs.Lists.{all, same, same_word}
use Rattle.text.specs.Texts.{bytes}
use Rattle.text.specs.Runs.{is_in, run_end}
use Rattle.text.specs.declared.bytes.Class.TheVariants.{NameByte}
use Rattle.text.proofs.Laws.Tests.{cond-elim, true_false, or_false_left, or_false_right}
use Rattle.text.proofs.Laws.Classes.{nonzero_inside}
use Rattle.text.proofs.Laws.Words.{false_same, same_false}
use Rattle.text.proofs.Laws.Spans.{Span, span_all, span_whole, span_join, span_cut, span_byte, span_word, span_part}
use Rattle.text.proofs.Laws.Runs.{run_span, run_span_all}
use Rattle.text.proofs.Laws.Parts.{all_cons, all_rest}
use Rattle.macros.specs.declared.Form.{Form}
use Rattle.macros.specs.declared.Form.TheVariants.{ModifierValue}
use Rattle.macros.specs.Grammar.{Piece, MacroString, DomainSpec}
use Rattle.macros.specs.Reader.{is_macro_string}
use Rattle.macros.proofs.Laws.Soundness.{sound}
use Rattle.macros.proofs.Laws.Completeness.{complete}
use Rattle.records.specs.Readings.{Said, modifier}
use Rattle.records.specs.Grammar.{Literal, Name, letters, is_reserved, Modifier}
use Rattle.records.specs.Numbers.{said_of}
use Rattle.records.specs.Reader.{modifier_of}
use Rattle.records.specs.declared.Term.{Term}
use Rattle.records.proofs.Laws.Names.{alpha_name, Word, literal_word, redirect_word, exp_word, literal_of, literal_same, NameAt, name_at, Unreserved}
use Rattle.records.proofs.Laws.Specs.{solid_spec, solid_string}
use Rattle.records.proofs.Laws.Mechanisms.{solid_after}

unreserved : (u : List ℕ) → same_word u (bytes "redirect") ≡ false → same_word u (bytes "exp") ≡ false → is_reserved u ≡ false
unfolding is_reserved
unreserved u h k = simp (h, k)

-- the ways out of a modifier with its name up to k
pub modifier_elim : (k : ℕ) (w : List ℕ) (P : Option Term → Type 0)
    → (same_word (part w 0 k) (bytes "redirect") ≡ true → is_macro_string Form.DomainSpec (part w (k + 1) (length w)) ≡ true → P (Some (Term.Redirect (k + 1) (length w))))
    → (same_word (part w 0 k) (bytes "exp") ≡ true → is_macro_string Form.DomainSpec (part w (k + 1) (length w)) ≡ true → P (Some (Term.Explanation (k + 1) (length w))))
    → (is_alpha (at w 0) ≡ true → is_reserved (part w 0 k) ≡ false → is_macro_string ModifierValue (part w (k + 1) (length w)) ≡ true → P (Some (Term.Unknown k (length w))))
    → P None → P (modifier_of k w)
unfolding modifier_of
modifier_elim k w P redirects explains others outside =
    let name = part w 0 k in
    let value = part w (k + 1) (length w) in
    cond-elim P (is_alpha (at w 0))
    (λ a. cond-elim P (same_word name (bytes "redirect"))
    (λ h. cond-elim P (is_macro_string Form.DomainSpec value) (redirects h) (λ _. outside))
    (λ h. cond-elim P (same_word name (bytes "exp"))
    (λ q. cond-elim P (is_macro_string Form.DomainSpec value) (explains q) (λ _. outside))
    (λ q. cond-elim P (is_macro_string ModifierValue value) (others a (unreserved name h q)) (λ _. outside))))
    (λ _. outside)

-- what is read is a modifier
pub record ModifierMade (w : List ℕ) (t : Term) : Type 0 where
  pub made : Modifier w (said_of w t)
  pub other : Unreserved w t

abbrev pub ModifierRight : List ℕ → Option Term → Type 0
ModifierRight w (Some t) = ModifierMade w t
ModifierRight w None = Unit {0}

equals_no_alpha : is_alpha 61 ≡ false
unfolding is_alpha is_upper within
equals_no_alpha = refl

name_of : (u rest : List ℕ) → all is_name_byte u ≡ true → is_alpha (at (u ++ (61 ∷ rest)) 0) ≡ true → Name u
name_of [] rest h a = absurd (true_false (is_alpha 61) a equals_no_alpha)
name_of (b ∷ u) rest h a = letters a (all_rest is_name_byte b u h)

-- with its name up to k, where `=` stands
module _ (w : List ℕ) (k : ℕ) (p : Span w 0 k (part w 0 k)) (names : all is_name_byte (part w 0 k) ≡ true) (equals : at w k ≡ 61) where
  whole : w ≡ part w 0 k ++ (61 ∷ part w (k + 1) (length w))
  whole =
      let i = nonzero_inside w k (λ e. omega (arith, equals, e)) in
      span_whole (span_join p (span_join (span_byte w k 60 equals) (span_part w (k + 1) (length w) (omega arith) (omega arith))))

  at_whole : {x : Said} → Modifier (part w 0 k ++ (61 ∷ part w (k + 1) (length w))) x → Modifier w x
  at_whole {x} m = subst (λ (u : List ℕ). Modifier u x) (sym whole) m

  modifier_made : ModifierRight w (modifier_of k w)
  unfolding said_of
  modifier_made = modifier_elim k w (ModifierRight w)
      (λ h m. record {
        made = at_whole (Modifier.redirect {w = part w 0 k} (literal_of (bytes "redirect") (part w 0 k) h) (sound Form.DomainSpec (part w (k + 1) (length w)) m));
        other = tt;
      })
      (λ h m. record {
        made = at_whole (Modifier.explanation {w = part w 0 k} (literal_of (bytes "exp") (part w 0 k) h) (sound Form.DomainSpec (part w (k + 1) (length w)) m));
        other = tt;
      })
      (λ a n m. record {
        made = at_whole (Modifier.unknown {w = part w 0 k}
            (name_of (part w 0 k) (part w (k + 1) (length w)) names (ap (λ (u : List ℕ). is_alpha (at u 0)) (sym whole) ∙ a))
            n (sound ModifierValue (part w (k + 1) (length w)) m));
        other = n;
      })
      tt

name_run : (w : List ℕ) → all is_name_byte (part w 0 (run_end (is_in NameByte) w 0)) ≡ true
unfolding is_in
name_run w = run_span_all (is_in NameByte) w 0

pub modifier_sound : (w : List ℕ) → at w (run_end (is_in NameByte) w 0) ≡ 61 → ModifierRight w (modifier_of (run_end (is_in NameByte) w 0) w)
modifier_sound w e = modifier_made w (run_end (is_in NameByte) w 0) (run_span (is_in NameByte) w 0) (name_run w) e

-- what is produced is read, and the reader takes it for a modifier
pub record ModifierRead (w : List ℕ) (x : Said) : Type 0 where
  pub term : Term
  pub read : modifier_of (run_end (is_in NameByte) w 0) w ≡ Some term
  pub says : said_of w term ≡ x
  pub letter : is_alpha (at w 0) ≡ true
  pub equals : eqb (at w (run_end (is_in NameByte) w 0)) 61 ≡ true

-- from what is read with its name up to k
record After (w : List ℕ) (k : ℕ) (x : Said) : Type 0 where
  term : Term
  read : modifier_of k w ≡ Some term
  says : said_of w term ≡ x

equals_no_name : is_name_byte 61 ≡ false
unfolding is_name_byte is_alphanumeric is_alpha is_upper is_digit within
equals_no_name = refl

read_by : {u v : List ℕ} {x : Said} → Word u → ((k : ℕ) → NameAt (u ++ (61 ∷ v)) 0 k u (61 ∷ v) → After (u ++ (61 ∷ v)) k x) → ModifierRead (u ++ (61 ∷ v)) x
read_by {u} {v} {x} word f =
    let r = name_at word (span_all (u ++ (61 ∷ v))) equals_no_name in
    let a = f (0 + length u) r in
    record {
      term = a.term;
      read = ap (λ (k : ℕ). modifier_of k (u ++ (61 ∷ v))) r.ends ∙ a.read;
      says = a.says;
      letter = r.first;
      equals = eq-eqb (at (u ++ (61 ∷ v)) (run_end (is_in NameByte) (u ++ (61 ∷ v)) 0)) 61 (ap (at (u ++ (61 ∷ v))) r.ends ∙ r.follows);
    }

value_part : {w u v : List ℕ} {k : ℕ} → NameAt w 0 k u (61 ∷ v) → part w (k + 1) (length w) ≡ v
value_part {v = v} r = span_word (span_cut (61 ∷ []) v r.after).1

exp_no_redirect : (u : List ℕ) → Literal (bytes "exp") u → same_word u (bytes "redirect") ≡ false
unfolding same_word same
exp_no_redirect u l = rw l.lowered

redirect_after : {w u d : List ℕ} {k : ℕ} {ps : List Piece} → Literal (bytes "redirect") u → DomainSpec d ps → NameAt w 0 k u (61 ∷ d)
    → After w k (modifier (bytes "redirect") d)
unfolding modifier_of said_of
redirect_after {w} {u} {d} {k} {ps} l s r = record {
  term = Term.Redirect (k + 1) (length w);
  read = simp (r.first, span_word r.front, literal_same (bytes "redirect") u l, value_part r, (complete Form.DomainSpec d ps s).0);
  says = simp (value_part r);
}

explanation_after : {w u d : List ℕ} {k : ℕ} {ps : List Piece} → Literal (bytes "exp") u → DomainSpec d ps → NameAt w 0 k u (61 ∷ d)
    → After w k (modifier (bytes "exp") d)
unfolding modifier_of said_of
explanation_after {w} {u} {d} {k} {ps} l s r = record {
  term = Term.Explanation (k + 1) (length w);
  read = simp (r.first, span_word r.front, exp_no_redirect u l, literal_same (bytes "exp") u l, value_part r, (complete Form.DomainSpec d ps s).0);
  says = simp (value_part r);
}

no_redirect : (u : List ℕ) → is_reserved u ≡ false → same_word u (bytes "redirect") ≡ false
unfolding is_reserved
no_redirect u h = or_false_left (same_word u (bytes "redirect")) (same_word u (bytes "exp")) h

no_exp : (u : List ℕ) → is_reserved u ≡ false → same_word u (bytes "exp") ≡ false
unfolding is_reserved
no_exp u h = or_false_right (same_word u (bytes "redirect")) (same_word u (bytes "exp")) h

unknown_after : {w u v : List ℕ} {k : ℕ} {ps : List Piece} → is_reserved u ≡ false → MacroString ModifierValue v ps → NameAt w 0 k u (61 ∷ v)
    → After w k (modifier u v)
unfolding modifier_of said_of
unknown_after {w} {u} {v} {k} {ps} n m r = record {
  term = Term.Unknown k (length w);
  read = simp (r.first, span_word r.front, no_redirect u n, no_exp u n, value_part r, (complete ModifierValue v ps m).0);
  says = simp (span_word r.front, value_part r);
}

name_word : {u : List ℕ} → Name u → Word u
name_word (letters {b = b} {w = w} h k) = record { letter = h; names = all_cons is_name_byte b w (alpha_name b h) k }

pub modifier_complete : {w : List ℕ} {x : Said} → Modifier w x → ModifierRead w x
modifier_complete (Modifier.redirect l s) = read_by (literal_word redirect_word l) (λ k r. redirect_after l s r)
modifier_complete (Modifier.explanation l s) = read_by (literal_word exp_word l) (λ k r. explanation_after l s r)
modifier_complete (Modifier.unknown n h m) = read_by (name_word n) (λ k r. unknown_after h m r)

-- a modifier holds no space
pub solid_modifier : {w : List ℕ} {x : Said} → Modifier w x → all is_not_space w ≡ true
solid_modifier (Modifier.redirect {d = d} l s) = solid_after (literal_word redirect_word l) 61 d refl (solid_spec s)
solid_modifier (Modifier.explanation {d = d} l s) = solid_after (literal_word exp_word l) 61 d refl (solid_spec s)
solid_modifier (Modifier.unknown {v = v} n h m) = solid_after (name_word n) 61 v refl (solid_string m)

-- a name that is not reserved is neither of the two, as it stands
pub unreserved_redirect : (u : List ℕ) → is_reserved u ≡ false → same u (bytes "redirect") ≡ false
unfolding same_word lower is_upper within
unreserved_redirect u h = false_same u (bytes "redirect") (λ e. same_false (map lower u) (bytes "redirect") (no_redirect u h) (ap (map lower) e))

pub unreserved_exp : (u : List ℕ) → is_reserved u ≡ false → same u (bytes "exp") ≡ false
unfolding same_word lower is_upper within
unreserved_exp u h = false_same u (bytes "exp") (λ e. same_false (map lower u) (bytes "exp") (no_exp u h) (ap (map lower) e))
