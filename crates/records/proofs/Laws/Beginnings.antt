-- The ends of the models are enough: whatever a term begins with is a term once one of them is put after it. One law for each production, from the laws of
-- fronts, of names, and of what macro-strings, domain-specs, networks and prefix lengths begin with.
use Prim.Native.Nat.{ℕ, zero, suc, ◌≤◌, ◌<◌}
use mathlib.Core.Path.{◌≡◌, refl, sym, ap, subst, ◌∙◌}
use mathlib.Core.Logic.{⊎_elim}
use mathlib.Core.List.{List, [], ◌∷◌, ◌++◌, map, append_assoc, append-nil}
use mathlib.Core.Bool.{Bool, true, false}
use native.Mathlib.Omega.{arith}
use lib.ListN.{length, take, drop}
use lib.Seq.{take_all, drop-append-le, take-nil}
use Rattle.address.specs.declared.Address.{Address}
use Rattle.text.specs.Bytes.{within, lower, is_upper, is_alpha, is_name_byte, is_macro_literal, is_delimiter}
use Rattle.text.specs.Lists.{same_word}
use Rattle.text.specs.Texts.{bytes}
use Rattle.text.proofs.Laws.Orders.{le_or_lt}
use Rattle.text.proofs.Laws.Tests.{true_false, or_elim}
use Rattle.text.proofs.Laws.Parts.{all_none, all_rest}
use Rattle.text.proofs.Laws.Fronts.{fronts_joined, fronts_between, all_take, Completed, completed_by, completed_now, completed_in}
use Rattle.macros.specs.declared.Form.{Form}
use Rattle.macros.specs.declared.Form.TheVariants.{ModifierValue}
use Rattle.macros.specs.Grammar.{Piece, Reversal, MacroExpand, MacroString, DomainEnd, DomainSpec, spec}
use Rattle.macros.proofs.Laws.Beginnings.{End as MacroEnd, letter_d, count_01, label_a, string_begins, spec_begins}
use Rattle.networks.specs.Grammar.{octets, Side, short, Network4, of_octets, Network6, of_groups, nought, slash, OptionalLength, DualCidrLength}
use Rattle.networks.proofs.Laws.Beginnings.{zero_octet, network4_begins, network6_begins, length_begins, Dual, dual_begins}
use Rattle.records.specs.Readings.{Optional, absent, present, Said, mechanism}
use Rattle.records.specs.Grammar.{Literal, OptionalSpec, without, has_spec, Mechanism, Directive, unsigned, signed, Name, letters, is_reserved, Modifier}
use Rattle.records.specs.Grammar.{TermText, directive, modifier_term}
use Rattle.records.proofs.Laws.Names.{literal_length, Word, literal_word, redirect_word, exp_word, literal_of}
use Rattle.records.proofs.Laws.Endings.{Ending, end_drop, no_end, modifier_model, all_model, mx_model, ptr_model, include_model, exists_model}
use Rattle.records.proofs.Laws.Endings.{a_model, ip4_model, ip6_model, macro_end, network_end}

-- with ends that are among those of the models, and with these inside a larger production
with_ends : {A : Type 0} {End : List ℕ → Type 0} {Produces : List ℕ → A → Type 0} {p : List ℕ} → ((c : List ℕ) → End c → Ending c) → Completed End Produces p
    → Completed Ending Produces p
with_ends f c = record { end = c.end; is_end = f c.end c.is_end; value = c.value; made = c.made }

within_larger : {A B : Type 0} {Produces : List ℕ → A → Type 0} (Larger : List ℕ → B → Type 0) (u : List ℕ) {p : List ℕ} → Completed Ending Produces p
    → ((w : List ℕ) (x : A) → Produces w x → (y : B) × Larger (u ++ w) y) → Completed Ending Larger (u ++ p)
within_larger Larger u c g = completed_in Ending Larger u c (λ e h. h) g

-- what begins with w: a front of w, and w with a front of what follows it, at once or after a byte
module _ {A : Type 0} (P : List ℕ → A → Type 0) (w rest : List ℕ) (first : (n : ℕ) → n ≤ length w → Completed Ending P (take n w)) where
  begins_after : ((k : ℕ) → Completed Ending (λ (v : List ℕ). P (w ++ v)) (take k rest)) → (n : ℕ) → Completed Ending P (take n (w ++ rest))
  begins_after second = fronts_joined (Completed Ending P) w rest first (λ k. within_larger P w (second k) (λ v x m. (x, m)))

  begins_by : (b : ℕ) → ((k : ℕ) → Completed Ending (λ (v : List ℕ). P (w ++ (b ∷ v))) (take k rest)) → (n : ℕ)
      → Completed Ending P (take n (w ++ (b ∷ rest)))
  begins_by b second = fronts_between (Completed Ending P) w b rest first
      (λ k. within_larger P w (within_larger (λ (v : List ℕ). P (w ++ v)) (b ∷ []) (second k) (λ v x m. (x, m))) (λ v x m. (x, m)))

-- two parts, of which the second may be absent
module _ {A B C : Type 0} {First : List ℕ → A → Type 0} {Second : List ℕ → B → Type 0} (P : List ℕ → C → Type 0)
    (joined : (u v : List ℕ) (x : A) (y : B) → First u x → Second v y → (z : C) × P (u ++ v) z) (none : B) (empty : Second [] none) where
  first_alone : (u : List ℕ) (x : A) → First u x → (z : C) × P u z
  first_alone u x m = let j = joined u [] x none m empty in (j.0, subst (λ (v : List ℕ). P v j.0) (append-nil u) j.1)

  both_begin : {u v : List ℕ} {x : A} → First u x → ((k : ℕ) → Completed Ending First (take k u)) → ((k : ℕ) → Completed Ending Second (take k v))
      → (n : ℕ) → Completed Ending P (take n (u ++ v))
  both_begin {u} {v} {x} m first second = begins_after P u v
      (λ n _. within_larger P [] (first n) first_alone)
      (λ k. within_larger (λ (t : List ℕ). P (u ++ t)) [] (second k) (λ t y r. joined u t x y m r))

-- the parts of terms
domain_begins : {d : List ℕ} {ps : List Piece} → DomainSpec d ps → (n : ℕ) → Completed Ending DomainSpec (take n d)
domain_begins s n = with_ends macro_end (spec_begins s n)

optional_begins : {u : List ℕ} {arg : Optional (List ℕ)} → OptionalSpec u arg → (n : ℕ) → Completed Ending OptionalSpec (take n u)
optional_begins without n = rw (take-nil n) (completed_now Ending OptionalSpec no_end without)
optional_begins (has_spec s) zero = completed_now Ending OptionalSpec no_end without
optional_begins (has_spec s) (suc n) = within_larger OptionalSpec (bytes ":") (domain_begins s n) (λ d ps m. (present d, has_spec m))

four_begins : {w : List ℕ} {x : Address} → Network4 w x → (n : ℕ) → Completed Ending Network4 (take n w)
four_begins m n = with_ends network_end (network4_begins m n)

six_begins : {w : List ℕ} {x : Address} → Network6 w x → (n : ℕ) → Completed Ending Network6 (take n w)
six_begins m n = with_ends network_end (network6_begins m n)

one_begins : {limit : ℕ} {w : List ℕ} {n : ℕ} → OptionalLength limit w n → (k : ℕ) → Completed Ending (OptionalLength limit) (take k w)
one_begins l k = with_ends network_end (length_begins l k)

lengths_begin : {w : List ℕ} {n m : ℕ} → DualCidrLength w n m → (k : ℕ) → Completed Ending Dual (take k w)
lengths_begin l k = with_ends network_end (dual_begins l k)

no_lengths : Dual [] (32, 128)
no_lengths = DualCidrLength.four_only OptionalLength.absent

-- a word of which a front stands, with the rest of the word and of its model after it
literal_front : (n : ℕ) (word w : List ℕ) → map lower word ≡ word → map lower w ≡ word → map lower (take n w ++ drop n word) ≡ word
literal_front zero word w low e = low
literal_front (suc n) [] [] low e = refl
literal_front (suc n) [] (b ∷ w) low e = let z : ◌≡◌ {A = ℕ} 0 1 = cc in absurd (omega arith)
literal_front (suc n) (c ∷ word) [] low e = let z : ◌≡◌ {A = ℕ} 0 1 = cc in absurd (omega arith)
literal_front (suc n) (c ∷ word) (b ∷ w) low e =
    let k : map lower word ≡ word = cc in
    let r : map lower w ≡ word = cc in
    let i = literal_front n word w k r in
    cc

module _ (sign : ℕ) (word tail : List ℕ) (low : map lower word ≡ word) (model : Ending (word ++ tail))
    (made : (v : List ℕ) → Literal word v → (x : Said) × Mechanism sign (v ++ tail) x) where
  word_begins : {w : List ℕ} → Literal word w → (n : ℕ) → n ≤ length w → Completed Ending (Mechanism sign) (take n w)
  word_begins {w} l n h =
      let size : length word ≡ length w = sym (literal_length l) in
      let v = take n w ++ drop n word in
      let left : drop n (word ++ tail) ≡ drop n word ++ tail = drop-append-le n word tail (omega arith) in
      completed_by Ending (Mechanism sign) (end_drop n model) (append_assoc (take n w) (drop n word) tail ∙ ap (λ (t : List ℕ). take n w ++ t) (sym left))
      (made v (record { lowered = literal_front n word w low l.lowered })).1

-- the arguments of the models
spec_percent : (ps : List Piece) × DomainSpec (bytes "%%") ps
spec_percent = (_, spec MacroString.none (DomainEnd.expands MacroExpand.percent))

spec_macro : (ps : List Piece) × DomainSpec (bytes "%{d01}") ps
spec_macro =
    (_, spec MacroString.none (DomainEnd.expands (MacroExpand.braces {digits = bytes "01"} (letter_d Form.DomainSpec) count_01 Reversal.absent (all_none is_delimiter))))

spec_label : (ps : List Piece) × DomainSpec (bytes ".a") ps
spec_label = (_, spec MacroString.none (DomainEnd.label label_a))

string_label : (ps : List Piece) × MacroString ModifierValue (bytes ".a") ps
unfolding is_macro_literal within
string_label = (_, MacroString.literals refl (MacroString.literals refl MacroString.none))

network_zero : (x : Address) × Network4 (bytes "0.0.0.0") x
network_zero = (_, of_octets (octets zero_octet zero_octet zero_octet zero_octet))

network_colons : (x : Address) × Network6 (bytes "::") x
network_colons = (_, of_groups (short Side.nothing Side.nothing (omega arith)))

-- mechanisms, by what may stand after their names, at once or after a colon
abbrev After : ℕ → List ℕ → List ℕ → Said → Type 0
After sign w v x = Mechanism sign (w ++ v) x

abbrev AfterColon : ℕ → List ℕ → List ℕ → Said → Type 0
AfterColon sign w v x = Mechanism sign (w ++ (58 ∷ v)) x

mechanism_begins : {sign : ℕ} {w : List ℕ} {x : Said} → Mechanism sign w x → (n : ℕ) → Completed Ending (Mechanism sign) (take n w)
unfolding lower is_upper within
mechanism_begins {sign} (Mechanism.all_term {w = w} l) n = ⊎_elim
    (word_begins sign (bytes "all") [] refl all_model (λ v k. (mechanism (bytes "all") sign absent, rw (append-nil v) (Mechanism.all_term k))) l n)
    (λ (h : length w < n). rw (take_all n w (omega arith)) (completed_now Ending (Mechanism sign) no_end (Mechanism.all_term l)))
    (le_or_lt n (length w))
mechanism_begins {sign} (Mechanism.include {w = w} {d = d} l s) n = begins_by (Mechanism sign) w d
    (word_begins sign (bytes "include") (bytes ":%%") refl include_model (λ v k. (_, Mechanism.include k spec_percent.1)) l) 58
    (λ k. within_larger (AfterColon sign w) [] (domain_begins s k) (λ v ps m. (_, Mechanism.include l m))) n
mechanism_begins {sign} (Mechanism.a {w = w} {u = u} {l = t} l o r) n = begins_after (Mechanism sign) w (u ++ t)
    (word_begins sign (bytes "a") (bytes "//0") refl a_model (λ v k. (_, Mechanism.a k without (DualCidrLength.both OptionalLength.absent (slash nought)))) l)
    (both_begin (After sign w) (λ u v x y o r. (_, Mechanism.a l o r)) (32, 128) no_lengths o (optional_begins o) (lengths_begin r)) n
mechanism_begins {sign} (Mechanism.mx {w = w} {u = u} {l = t} l o r) n = begins_after (Mechanism sign) w (u ++ t)
    (word_begins sign (bytes "mx") [] refl mx_model (λ v k. (_, Mechanism.mx k without no_lengths)) l)
    (both_begin (After sign w) (λ u v x y o r. (_, Mechanism.mx l o r)) (32, 128) no_lengths o (optional_begins o) (lengths_begin r)) n
mechanism_begins {sign} (Mechanism.ptr {w = w} {u = u} l o) n = begins_after (Mechanism sign) w u
    (word_begins sign (bytes "ptr") [] refl ptr_model (λ v k. (_, Mechanism.ptr k without)) l)
    (λ k. within_larger (After sign w) [] (optional_begins o k) (λ v x m. (_, Mechanism.ptr l m))) n
mechanism_begins {sign} (Mechanism.ip4 {w = w} {t = t} {l = u} l m r) n = begins_by (Mechanism sign) w (t ++ u)
    (word_begins sign (bytes "ip4") (bytes ":0.0.0.0") refl ip4_model (λ v k. (_, Mechanism.ip4 k network_zero.1 OptionalLength.absent)) l) 58
    (both_begin (AfterColon sign w) (λ u v x y m r. (_, Mechanism.ip4 l m r)) 32 OptionalLength.absent m (four_begins m) (one_begins r)) n
mechanism_begins {sign} (Mechanism.ip6 {w = w} {t = t} {l = u} l m r) n = begins_by (Mechanism sign) w (t ++ u)
    (word_begins sign (bytes "ip6") (bytes ":::") refl ip6_model (λ v k. (_, Mechanism.ip6 k network_colons.1 OptionalLength.absent)) l) 58
    (both_begin (AfterColon sign w) (λ u v x y m r. (_, Mechanism.ip6 l m r)) 128 OptionalLength.absent m (six_begins m) (one_begins r)) n
mechanism_begins {sign} (Mechanism.exists {w = w} {d = d} l s) n = begins_by (Mechanism sign) w d
    (word_begins sign (bytes "exists") (bytes ":%{d01}") refl exists_model (λ v k. (_, Mechanism.exists k spec_macro.1)) l) 58
    (λ k. within_larger (AfterColon sign w) [] (domain_begins s k) (λ v ps m. (_, Mechanism.exists l m))) n

-- directives; nothing is completed by `all`
pub nothing_begins : Completed Ending TermText []
unfolding lower is_upper within
nothing_begins = completed_by Ending TermText all_model refl (directive (unsigned (Mechanism.all_term (record { lowered = refl }))))

directive_begins : {w : List ℕ} {x : Said} → Directive w x → (n : ℕ) → Completed Ending TermText (take n w)
directive_begins (unsigned m) n = within_larger TermText [] (mechanism_begins m n) (λ v x k. (x, directive (unsigned k)))
directive_begins (signed h m) zero = nothing_begins
directive_begins (signed {q = q} h m) (suc n) = within_larger TermText (q ∷ []) (mechanism_begins m n) (λ v x k. (x, directive (signed h k)))

-- modifiers: a name is completed by `=.a`, and a front of a name is a name or nothing
name_completed : (w : List ℕ) → Name w → Completed Ending TermText w
unfolding is_reserved
name_completed w name = by (is_reserved w) refl
  where
    made : {x : Said} → Modifier (w ++ bytes "=.a") x → Completed Ending TermText w
    made m = completed_by Ending TermText (end_drop 1 modifier_model) refl (modifier_term m)

    by : (t : Bool) → is_reserved w ≡ t → Completed Ending TermText w
    by true h = or_elim (same_word w (bytes "redirect")) (same_word w (bytes "exp")) h
        (λ r. made (Modifier.redirect (literal_of (bytes "redirect") w r) spec_label.1))
        (λ r. made (Modifier.explanation (literal_of (bytes "exp") w r) spec_label.1))
    by false h = made (Modifier.unknown name h string_label.1)

name_begins : {w : List ℕ} → Name w → (n : ℕ) → Completed Ending TermText (take n w)
name_begins name zero = nothing_begins
name_begins (letters {b = b} {w = w} h k) (suc n) = name_completed (b ∷ take n w) (letters h (all_take is_name_byte n w k))

word_name : (w : List ℕ) → Word w → Name w
unfolding is_alpha is_upper within
word_name [] k = absurd (true_false (is_alpha 0) k.letter refl)
word_name (b ∷ w) k = letters k.letter (all_rest is_name_byte b w k.names)

-- after a name and `=`
value_begins : {A : Type 0} {Value : List ℕ → A → Type 0} {w v : List ℕ} → Name w → ((t : List ℕ) (y : A) → Value t y → (x : Said) × Modifier (w ++ (61 ∷ t)) x)
    → ((k : ℕ) → Completed MacroEnd Value (take k v)) → (n : ℕ) → Completed Ending TermText (take n (w ++ (61 ∷ v)))
value_begins {w = w} {v = v} name make begins = begins_by TermText w v (λ n _. name_begins name n) 61
    (λ k. completed_in Ending (λ (t : List ℕ). TermText (w ++ (61 ∷ t))) [] (begins k) macro_end (λ t y m. let r = make t y m in (r.0, modifier_term r.1)))

modifier_begins : {w : List ℕ} {x : Said} → Modifier w x → (n : ℕ) → Completed Ending TermText (take n w)
modifier_begins (Modifier.redirect {w = w} l s) n =
    value_begins (word_name w (literal_word redirect_word l)) (λ t ps m. (_, Modifier.redirect l m)) (spec_begins s) n
modifier_begins (Modifier.explanation {w = w} l s) n =
    value_begins (word_name w (literal_word exp_word l)) (λ t ps m. (_, Modifier.explanation l m)) (spec_begins s) n
modifier_begins (Modifier.unknown name h s) n = value_begins name (λ t ps m. (_, Modifier.unknown name h m)) (string_begins s) n

-- terms
pub term_begins : {w : List ℕ} {x : Said} → TermText w x → (n : ℕ) → Completed Ending TermText (take n w)
term_begins (directive d) n = directive_begins d n
term_begins (modifier_term m) n = modifier_begins m n
