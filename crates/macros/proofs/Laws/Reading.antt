-- The ways out of the functions that read macro strings, and the walk over the pieces of a text: a rule for each way. From the definitions of
-- Reader, the laws of Pieces, and for the productions Completeness.
use Rattle.std.proofs.Common.{None, Option, Some}
use Prim.Native.Nat.{ℕ, zero, suc, ◌+◌, ◌-◌, ◌≤◌, ◌<◌, ◌^◌}
use mathlib.Core.Path.{◌≡◌, refl, sym, ap, ◌∙◌}
use mathlib.Core.List.{List, [], ◌∷◌}
use mathlib.Core.Logic.{◌↔◌, ◌⊎◌, ⊎_elim}
use mathlib.Core.Bool.{Bool, true, false, cond, ◌||◌, or_assoc, or-false}
use native.Mathlib.Omega.{arith}
use lib.ListN.{length, get_or, take, drop, length-drop}
use lib.Seq.{drop-cons, drop-drop}
use lib.Dec.{leb, eqb}
use borrow.Author.Tests.{eq-eqb, ne_eqb, eqb-true, eqb-false, le-leb, leb-false}
use Rattle.text.specs.Bytes.{at, part, lower, within, is_digit, is_macro_literal}
use Rattle.text.specs.Texts.{bytes}
use Rattle.text.specs.Decimal.{decimal, is_decimal, read_decimal}
use Rattle.text.specs.Lists.{all, contains}
use Rattle.text.specs.Runs.{is_in, run_end}
use Rattle.text.specs.declared.bytes.Class.TheVariants.{Digit, MacroLiteral, Delimiter}
use Rattle.text.proofs.Laws.Classes.{class_tests}
use Rattle.text.proofs.Laws.Runs.{run_end_next, run_end_here, run_end_out, run_end_inside}
use Rattle.macros.specs.Grammar.{Macro, Piece, literal, escape, expand, Produces, is_letter, is_part_count}
use Rattle.macros.specs.Reader.{is_literal, is_escape, is_reverse, closed_at, delimiters_at, reversal_at, digits_at, braces_of, piece_of, macro_of, Pieces, push, pieces, ends_in_macro, ends_in_label, ends_right, is_macro_string, is_p, any_p, scan_of, uses_p}
use Rattle.macros.specs.declared.Form.{Form}
use Rattle.macros.specs.declared.Form.TheVariants.{DomainSpec, ModifierValue, Explanation}
use Rattle.macros.specs.declared.Summary.{Summary}
use Rattle.macros.specs.declared.pieces.Braces.{Braces}
use Rattle.macros.specs.declared.pieces.Found.{Found}
use Rattle.macros.proofs.Laws.Completeness.{accepted_iff}
use Rattle.macros.proofs.Laws.Pieces.{reverse_inside, piece_none, found_at, escape_within, expand_within, pieces_none, pieces_end, pieces_literal, pieces_escape, pieces_expand}

-- `is_count`
module _ (s : List ℕ) (r : Bool) (p : r ≡ all (is_in Digit) s) where
  digits : all is_digit s ≡ r
  digits = sym (class_tests Digit s) ∙ sym p

  pub count_other : r ≡ false → false ≡ is_part_count s
  unfolding is_part_count
  count_other q = simp (digits ∙ q)

  pub count_none : r ≡ true → (e : Bool) → e ≡ eqb (length s) 0 → e ≡ true → true ≡ is_part_count s
  unfolding is_part_count
  count_none q e h k = simp (digits ∙ q, sym h ∙ k)

  module _ (q : r ≡ true) (e : Bool) (h : e ≡ eqb (length s) 0) (k : e ≡ false) where
    some : length s ≡ 0 → ⊥
    some = eqb-false (length s) 0 (sym h ∙ k)

    counted : is_part_count s ≡ leb 1 (decimal s)
    unfolding is_part_count
    counted = simp (digits ∙ q, sym h ∙ k)

    module _ (limit : ℕ) where
      read : read_decimal limit s ≡ cond (leb (decimal s) limit) (Some (decimal s)) None
      unfolding read_decimal is_decimal
      read = simp (le-leb 1 (length s) (let z = some in omega arith), digits ∙ q)

      value : (v : ℕ) → (t : Bool) → cond t (Some (decimal s)) None ≡ Some v → v ≡ decimal s
      value v true e = cc
      value v false e = let z : ◌≡◌ {A = ℕ} 0 1 = cc in omega arith

      over : (t : Bool) → leb (decimal s) limit ≡ t → cond t (Some (decimal s)) None ≡ None → limit < decimal s
      over true k e = absurd (let z : ◌≡◌ {A = ℕ} 0 1 = cc in omega arith)
      over false k e = leb-false (decimal s) limit k

      module _ (n : Option ℕ) (en : n ≡ read_decimal limit s) where
        pub count_value : (v : ℕ) → n ≡ Some v → (x : Bool) → x ≡ leb 1 v → x ≡ is_part_count s
        count_value v w x g = g ∙ ap (leb 1) (value v (leb (decimal s) limit) (sym read ∙ sym en ∙ w)) ∙ sym counted

        pub count_large : n ≡ None → true ≡ is_part_count s
        count_large w = let l = over (leb (decimal s) limit) refl (sym read ∙ sym en ∙ w) in sym (counted ∙ le-leb 1 (decimal s) (omega arith))

-- `is_letter`
module _ (form : Form) (b l : ℕ) (p : l ≡ lower b) (r : Bool) where
  pub letter_domain : form ≡ DomainSpec → r ≡ contains (bytes "slodipvh") l → r ≡ is_letter form b
  unfolding is_letter
  letter_domain e h = h ∙ simp (p, e)

  pub letter_other : (form ≡ ModifierValue) ⊎ (form ≡ Explanation) → r ≡ contains (bytes "slodipvhcrt") l → r ≡ is_letter form b
  unfolding is_letter
  letter_other f h = ⊎_elim (λ (e : form ≡ ModifierValue). h ∙ simp (p, e)) (λ (e : form ≡ Explanation). h ∙ simp (p, e)) f

-- `is_literal`
pub literal_other : (form : Form) (b : ℕ) (r : Bool) → r ≡ is_in MacroLiteral b → (form ≡ DomainSpec) ⊎ (form ≡ ModifierValue) → r ≡ is_literal form b
unfolding is_literal is_in
literal_other form b r h f = ⊎_elim (λ (e : form ≡ DomainSpec). h ∙ simp e) (λ (e : form ≡ ModifierValue). h ∙ simp e) f

-- `is_escape`
pub escape_listed : (b : ℕ) (r : Bool) → r ≡ contains (bytes "%_-") b → r ≡ is_escape b
unfolding contains is_escape
escape_listed b r h = h ∙ simp or-false

-- `read_delimiters`
module _ (s : List ℕ) (d : ℕ) (reversed : Bool) (from to b : ℕ) (p : to ≡ run_end (is_in Delimiter) s from) (q : b ≡ at s to) where
  closed : delimiters_at s d reversed from ≡ cond (eqb b 125) (Some (Found.Expand (record { letter = at s 2; digits = d; reversed = reversed; delimiters = record { from = from; to = to } }))) None
  unfolding delimiters_at closed_at
  closed = rw (← p, q)

  pub delimiters_closed : b ≡ 125 → (l : ℕ) → l ≡ at s 2
      → Some (Found.Expand (record { letter = l; digits = d; reversed = reversed; delimiters = record { from = from; to = to } })) ≡ delimiters_at s d reversed from
  delimiters_closed h l e = sym (closed ∙ simp (eq-eqb b 125 h, e))

  pub delimiters_bad : (b ≡ 125 → ⊥) → None ≡ delimiters_at s d reversed from
  delimiters_bad h = sym (closed ∙ simp (ne_eqb b 125 h))

-- `read_reversal`
module _ (s : List ℕ) (d b l : ℕ) (p : b ≡ at s d) (q : l ≡ lower b) where
  reverses : is_reverse (at s d) ≡ eqb l 114
  unfolding is_reverse
  reverses = ap (λ (x : ℕ). eqb x 114) (ap lower (sym p) ∙ sym q)

  pub reversal_room : l ≡ 114 → length s < 2 ^ 64 → d + 1 < 2 ^ 64
  reversal_room e h = let i = reverse_inside s d (reverses ∙ eq-eqb l 114 e) in omega arith

  pub reversal_there : l ≡ 114 → (r : Option Found) → r ≡ delimiters_at s d true (d + 1) → r ≡ reversal_at s d
  unfolding reversal_at
  reversal_there e r h = h ∙ sym (simp (reverses, eq-eqb l 114 e))

  pub reversal_absent : (l ≡ 114 → ⊥) → (r : Option Found) → r ≡ delimiters_at s d false d → r ≡ reversal_at s d
  unfolding reversal_at
  reversal_absent e r h = h ∙ sym (simp (reverses, ne_eqb l 114 e))

-- `read_digits`
module _ (s : List ℕ) (d : ℕ) (w : List ℕ) (p : w ≡ part s 3 d) (x : Bool) (q : x ≡ is_part_count w) where
  counts : is_part_count (part s 3 d) ≡ x
  counts = ap is_part_count (sym p) ∙ sym q

  pub digits_counted : x ≡ true → (r : Option Found) → r ≡ reversal_at s d → r ≡ digits_at s d
  unfolding digits_at
  digits_counted h r e = e ∙ sym (simp (counts ∙ h))

  pub digits_bad : x ≡ false → None ≡ digits_at s d
  unfolding digits_at
  digits_bad h = sym (simp (counts ∙ h))

-- `read_braces`
module _ (form : Form) (s : List ℕ) (l : ℕ) (p : l ≡ at s 2) (x : Bool) (q : x ≡ is_letter form l) where
  lettered : is_letter form (at s 2) ≡ x
  lettered = ap (is_letter form) (sym p) ∙ sym q

  pub braces_letter : x ≡ true → (d : ℕ) → d ≡ run_end (is_in Digit) s 3 → (r : Option Found) → r ≡ digits_at s d → r ≡ braces_of form s
  unfolding braces_of
  braces_letter h d k r e = e ∙ ap (digits_at s) k ∙ sym (simp (lettered ∙ h))

  pub braces_bad : x ≡ false → None ≡ braces_of form s
  unfolding braces_of
  braces_bad h = sym (simp (lettered ∙ h))

-- `read_piece`
module _ (form : Form) (s : List ℕ) where
  pub piece_end : (t : Bool) → t ≡ eqb (length s) 0 → t ≡ true → None ≡ piece_of form s
  piece_end t e h = sym (piece_none form s (eqb-true (length s) 0 (sym e ∙ h)))

  module _ (t : Bool) (et : t ≡ eqb (length s) 0) (ht : t ≡ false) (a : ℕ) (p : a ≡ at s 0) where
    module _ (h : a ≡ 37) (b : ℕ) (q : b ≡ at s 1) (x : Bool) (k : x ≡ is_escape b) where
      percent : piece_of form s ≡ cond x (Some (Found.Escape b)) (cond (eqb b 123) (braces_of form s) None)
      unfolding piece_of
      percent = simp (sym et ∙ ht, eq-eqb (at s 0) 37 (sym p ∙ h), q, k)

      pub piece_escape : x ≡ true → Some (Found.Escape b) ≡ piece_of form s
      piece_escape e = sym (percent ∙ simp e)

      pub piece_braces : x ≡ false → b ≡ 123 → (r : Option Found) → r ≡ braces_of form s → r ≡ piece_of form s
      piece_braces e f r g = g ∙ sym (percent ∙ simp (e, eq-eqb b 123 f))

      pub piece_percent : x ≡ false → (b ≡ 123 → ⊥) → None ≡ piece_of form s
      piece_percent e f = sym (percent ∙ simp (e, ne_eqb b 123 f))

    module _ (h : a ≡ 37 → ⊥) (x : Bool) (k : x ≡ is_literal form a) where
      other : piece_of form s ≡ cond x (Some (Found.Literal a)) None
      unfolding piece_of
      other = simp (sym et ∙ ht, ne_eqb (at s 0) 37 (λ e. h (p ∙ e)), p, k)

      pub piece_literal : x ≡ true → Some (Found.Literal a) ≡ piece_of form s
      piece_literal e = sym (other ∙ simp e)

      pub piece_bad : x ≡ false → None ≡ piece_of form s
      piece_bad e = sym (other ∙ simp e)

-- whether the last of some pieces is a macro-expand, or the last before them where there are none
abbrev pub ends_after : Bool → List Piece → Bool
ends_after before [] = before
ends_after before (p ∷ ps) = ends_in_macro (p ∷ ps)

ends_literal : (b : ℕ) (ps : List Piece) → ends_in_macro (literal b ∷ ps) ≡ ends_after false ps
unfolding ends_in_macro
ends_literal b [] = refl
ends_literal b (q ∷ ps) = refl

ends_escape : (b : ℕ) (ps : List Piece) → ends_in_macro (escape b ∷ ps) ≡ ends_after true ps
unfolding ends_in_macro
ends_escape b [] = refl
ends_escape b (q ∷ ps) = refl

ends_expand : (m : Macro) (ps : List Piece) → ends_in_macro (expand m ∷ ps) ≡ ends_after true ps
unfolding ends_in_macro
ends_expand m [] = refl
ends_expand m (q ∷ ps) = refl

ends_none : (ps : List Piece) → ends_after false ps ≡ ends_in_macro ps
unfolding ends_in_macro
ends_none [] = refl
ends_none (q ∷ ps) = refl

-- a byte that stands for itself in every form isn't the percent sign
plain_literal : (form : Form) (b : ℕ) → is_in MacroLiteral b ≡ true → is_literal form b ≡ true
unfolding is_literal is_in
plain_literal DomainSpec b h = h
plain_literal ModifierValue b h = h
plain_literal Explanation b h = simp h

plain_not_percent : (b : ℕ) → is_in MacroLiteral b ≡ true → eqb b 37 ≡ false
unfolding is_in is_macro_literal within
plain_not_percent b h = ne_eqb b 37 (λ e. let k : is_macro_literal 37 ≡ true = ap (is_in MacroLiteral) (sym e) ∙ h in let z : ◌≡◌ {A = ℕ} 0 1 = cc in omega arith)

-- the loop of `scan`: what the pieces passed and those from `at` on tell together is what all pieces tell
pub record Scanned (form : Form) (text : List ℕ) (at : ℕ) (expands asks : Bool) : Type 0 where
  pub within : at ≤ length text
  pub whole : (pieces form (drop at text)).whole ≡ (pieces form text).whole
  pub ending : ends_after expands (pieces form (drop at text)).list ≡ ends_in_macro (pieces form text).list
  pub asking : (asks || any_p (pieces form (drop at text)).list) ≡ any_p (pieces form text).list

pub scan_start : (form : Form) (text : List ℕ) → Scanned form text 0 false false
scan_start form text = record { within = omega arith; whole = refl; ending = ends_none (pieces form text).list; asking = refl }

module _ (form : Form) (text : List ℕ) (at : ℕ) (expands asks : Bool) (inv : Scanned form text at expands asks) where
  -- a piece of k bytes further
  step : (k : ℕ) (p : Piece) (b u : Bool) → ((ps : List Piece) → ends_in_macro (p ∷ ps) ≡ ends_after b ps) → u ≡ (asks || is_p p)
      → at + k ≤ length text → pieces form (drop at text) ≡ push p (pieces form (drop k (drop at text))) → Scanned form text (at + k) b u
  unfolding any_p
  step k p b u ends asked inside e =
      let rest = pieces form (drop k (drop at text)) in
      let d : drop k (drop at text) ≡ drop (at + k) text = drop-drop k at text in
      record {
        within = inside;
        whole = rw (← d) (sym (ap (λ (x : Pieces). x.whole) e) ∙ inv.whole);
        ending = rw (← d) (sym (ap (λ (x : Pieces). ends_after expands x.list) e ∙ ends rest.list) ∙ inv.ending);
        asking = rw (← d, asked) (or_assoc asks (is_p p) (any_p rest.list) ∙ sym (ap (λ (x : Pieces). asks || any_p x.list) e) ∙ inv.asking);
      }

  -- the pieces told at the end or at the first that is none
  told : (w : Bool) → pieces form (drop at text) ≡ record { list = []; whole = w } → (x : Summary) → x ≡ record { whole = w; expands = expands; asks = asks } → x ≡ scan_of form text
  unfolding scan_of any_p
  told w e x q =
      let h : (pieces form text).whole ≡ w = sym inv.whole ∙ ap (λ (x : Pieces). x.whole) e in
      let m : ends_in_macro (pieces form text).list ≡ expands = sym inv.ending ∙ ap (λ (x : Pieces). ends_after expands x.list) e in
      let a : any_p (pieces form text).list ≡ asks = sym inv.asking ∙ ap (λ (x : Pieces). asks || any_p x.list) e ∙ or-false asks in
      q ∙ rw (h, m, a)

  pub scan_out : length text ≤ at → (x : Summary) → x ≡ record { whole = true; expands = expands; asks = asks } → x ≡ scan_of form text
  scan_out h = told true (pieces_none form (drop at text) (simp length-drop (omega arith)))

  -- a byte that stands for itself
  scan_plain : at < length text → is_in MacroLiteral (get_or text at 0) ≡ true → Scanned form text (at + 1) false asks
  unfolding is_p piece_of
  scan_plain h l =
      let b = get_or text at 0 in
      let c : drop at text ≡ b ∷ drop (suc at) text = drop-cons text at 0 h in
      let f : piece_of form (b ∷ drop (suc at) text) ≡ Some (Found.Literal b) = simp (ne_eqb (suc (length (drop (suc at) text))) 0 (λ z. omega arith), plain_not_percent b l, plain_literal form b l) in
      step 1 (literal b) false asks (ends_literal b) (sym (or-false asks)) (omega arith) (pieces_literal form (drop at text) b (rw c f))

  pub scan_bad : at < length text → (r : Option Found) → r ≡ piece_of form (take (length text - at) (drop at text)) → r ≡ None
      → (x : Summary) → x ≡ record { whole = false; expands = expands; asks = asks } → x ≡ scan_of form text
  scan_bad here r p q =
      told false (rw (ne_eqb (length (drop at text)) 0 (simp length-drop (λ z. omega arith))) at (pieces_end form (drop at text) (found_at form text at r p q)))

  module _ (f : Found) (p : Some f ≡ piece_of form (take (length text - at) (drop at text))) where
    is : {x : Found} → f ≡ x → Some f ≡ Some x
    is q = ap (λ (y : Found). Some y) q

    found : {x : Found} → f ≡ x → piece_of form (drop at text) ≡ Some x
    found q = found_at form text at (Some f) p (is q)

    module _ (b : ℕ) where
      pub scan_literal : at < length text → f ≡ Found.Literal b → Scanned form text (at + 1) false asks
      unfolding is_p
      scan_literal here q = step 1 (literal b) false asks (ends_literal b) (sym (or-false asks)) (omega arith) (pieces_literal form (drop at text) b (found q))

      pub scan_escape : f ≡ Found.Escape b → Scanned form text (at + 2) true asks
      unfolding is_p
      scan_escape q = step 2 (escape b) true asks (ends_escape b) (sym (or-false asks)) (escape_within form text at (Some f) p b (is q)) (pieces_escape form (drop at text) b (found q))

      pub escape_room : f ≡ Found.Escape b → length text < 2 ^ 64 → at + 2 < 2 ^ 64
      escape_room q h = let w = escape_within form text at (Some f) p b (is q) in omega arith

    module _ (m : Braces) (q : f ≡ Found.Expand m) where
      pub scan_expand : (l : ℕ) → l ≡ lower m.letter → Scanned form text (at + (m.delimiters.to + 1)) true (asks || eqb l 112)
      unfolding is_p macro_of
      scan_expand l e =
          step (m.delimiters.to + 1) (expand (macro_of (drop at text) m)) true (asks || eqb l 112) (ends_expand (macro_of (drop at text) m)) (rw (← e))
          (expand_within form text at (Some f) p m (is q)) (pieces_expand form (drop at text) m (found q))

      pub brace_room : length text < 2 ^ 64 → m.delimiters.to + 1 < 2 ^ 64
      brace_room h = let w = expand_within form text at (Some f) p m (is q) in omega arith

      pub expand_room : length text < 2 ^ 64 → at + (m.delimiters.to + 1) < 2 ^ 64
      expand_room h = let w = expand_within form text at (Some f) p m (is q) in omega arith

-- bytes that stand for themselves, up to the end of their run
plain_run : (form : Form) (text : List ℕ) (asks : Bool) (n i : ℕ) → n + i ≡ length text → Scanned form text i false asks → Scanned form text (run_end (is_in MacroLiteral) text i) false asks
plain_run form text asks zero i h inv = rw (run_end_out (is_in MacroLiteral) text i (omega arith)) inv
plain_run form text asks (suc n) i h inv = by (is_in MacroLiteral (get_or text i 0)) refl (λ e. plain_run form text asks n (i + 1) (omega arith) (scan_plain form text i false asks inv (omega arith) e))
  where
    by : (x : Bool) → is_in MacroLiteral (get_or text i 0) ≡ x → (is_in MacroLiteral (get_or text i 0) ≡ true → Scanned form text (run_end (is_in MacroLiteral) text (i + 1)) false asks)
        → Scanned form text (run_end (is_in MacroLiteral) text i) false asks
    by true e rest = rw (← run_end_next (is_in MacroLiteral) text i (omega arith) e) (rest e)
    by false e rest = rw (run_end_here (is_in MacroLiteral) text i (omega arith) e) inv

module _ (form : Form) (text : List ℕ) (i : ℕ) (expands asks : Bool) (inv : Scanned form text i expands asks) (e : ℕ) (p : e ≡ run_end (is_in MacroLiteral) text i) where
  pub scan_run : i < length text → i < e → Scanned form text e false asks
  scan_run h l = by (is_in MacroLiteral (get_or text i 0)) refl
    where
      by : (x : Bool) → is_in MacroLiteral (get_or text i 0) ≡ x → Scanned form text e false asks
      by true q =
          let n = run_end_next (is_in MacroLiteral) text i h q in
          rw (p, ← n) (plain_run form text asks (length text - (i + 1)) (i + 1) (omega arith) (scan_plain form text i expands asks inv h q))
      by false q = absurd (let z = run_end_here (is_in MacroLiteral) text i h q in omega (arith, p))

  pub run_room : e ≤ length text
  run_room = rw p (run_end_inside (is_in MacroLiteral) text i inv.within)

-- `read_macro_string`
module _ (form : Form) (text : List ℕ) (told : Summary) (p : told ≡ scan_of form text) where
  wholly : told.whole ≡ (pieces form text).whole
  unfolding scan_of
  wholly = ap (λ (x : Summary). x.whole) p

  pub string_broken : told.whole ≡ false → told.whole ≡ is_macro_string form text
  unfolding is_macro_string
  string_broken h = h ∙ sym (simp (sym wholly ∙ h))

  module _ (h : told.whole ≡ true) where
    right : is_macro_string form text ≡ ends_right form text
    unfolding is_macro_string
    right = simp (sym wholly ∙ h)

    pub string_other : (form ≡ ModifierValue) ⊎ (form ≡ Explanation) → true ≡ is_macro_string form text
    unfolding ends_right
    string_other = ⊎_elim (λ (e : form ≡ ModifierValue). sym (right ∙ rw e)) (λ (e : form ≡ Explanation). sym (right ∙ rw e))

    module _ (e : form ≡ DomainSpec) where
      domain : ends_right form text ≡ (told.expands || ends_in_label text)
      unfolding ends_right scan_of
      domain = ap (λ (f : Form). ends_right f text) e ∙ sym (ap (λ (x : Summary). x.expands || ends_in_label text) (p ∙ ap (λ (f : Form). scan_of f text) e))

      pub string_expands : told.expands ≡ true → told.expands ≡ is_macro_string form text
      string_expands k = k ∙ sym (right ∙ domain ∙ simp k)

      pub string_label : told.expands ≡ false → (r : Bool) → r ≡ ends_in_label text → r ≡ is_macro_string form text
      string_label k r l = l ∙ sym (right ∙ domain ∙ simp k)

-- what the answer says of the productions
pub decided : (form : Form) (text : List ℕ) (r : Bool) → r ≡ is_macro_string form text
    → (r ≡ is_macro_string form text) × ((r ≡ true) ↔ ((ps : List Piece) × Produces form text ps))
decided form text r e = (e, ((λ h. (accepted_iff form text).0 (sym e ∙ h)), (λ d. e ∙ (accepted_iff form text).1 d)))

-- `uses_p`
pub asks_p : (form : Form) (text : List ℕ) (told : Summary) → told ≡ scan_of form text → told.asks ≡ uses_p form text
unfolding scan_of uses_p
asks_p form text told p = ap (λ (x : Summary). x.asks) p
