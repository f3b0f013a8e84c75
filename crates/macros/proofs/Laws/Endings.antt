-- How a domain-spec ends: a row of pieces that ends in a macro-expand, or in a dot and a top label, with perhaps one more dot, is a domain-spec,
-- and a domain-spec ends so. The bytes of such an ending hold no `%` and no `}`, so no macro-expand reaches into it, and the row can be cut
-- before its dot. From the laws of strings and of top labels.
use Prim.Native.Nat.{ℕ, suc, ◌+◌, ◌-◌, ◌≤◌, ◌<◌}
use mathlib.Core.Path.{◌≡◌, refl, sym, ap, subst, ◌∙◌}
use mathlib.Core.Logic.{◌⊎◌, inl, inr, ⊎_elim}
use mathlib.Core.List.{List, [], ◌∷◌, ◌++◌, map, append_assoc, append-nil}
use mathlib.Core.Bool.{Bool, true, false, not, ◌||◌}
use native.Mathlib.Omega.{arith}
use lib.ListN.{length, take, drop, length-append, take-append-drop, drop_of_length-le}
use lib.Seq.{get_or_at, get_or-append-add, take_at, take-append-le, drop-append-le, take-append_seam, drop-append_seam, split_at}
use borrow.Author.Tests.{eqb-true}
use Rattle.text.specs.Bytes.{at, within, is_dot, is_not_dot, is_upper, is_alpha, is_digit, is_alphanumeric, is_toplabel_byte, is_macro_literal}
use Rattle.text.specs.Lists.{all, split, separator_before, join_by, join}
use Rattle.text.proofs.Laws.Tests.{cond-elim, true_false, or_elim, or_left, or_right}
use Rattle.text.proofs.Laws.Classes.{class_inside}
use Rattle.text.proofs.Laws.Splitting.{split_some, split_append, join_dots}
use Rattle.text.proofs.Laws.Orders.{le_or_lt}
use Rattle.text.proofs.Laws.Parts.{all_none, all_join, all_cons, all_first, all_rest, all_at_lem, all_inside, at_last}
use Rattle.macros.specs.Grammar.{Piece, literal, escape, expand, MacroExpand, braces, percent, underscore, hyphen, MacroString, DomainEnd, label, label_dot, DomainSpec, spec}
use Rattle.domain.specs.Normal.{without_dot}
use Rattle.macros.specs.Reader.{is_literal, ends_in_macro, is_toplabel, last_label, ends_in_label}
use Rattle.macros.specs.declared.Form.{Form}
use Rattle.macros.proofs.Laws.Bytes.{alphanumeric_toplabel, toplabel_literal, toplabel_no_dot}
use Rattle.macros.proofs.Laws.Strings.{Row, none, expands, literals, string_row, row_string}
use Rattle.macros.proofs.Laws.Braces.{expand_some}
use Rattle.macros.proofs.Laws.Labels.{last_label_lem, split_undotted}
use Rattle.macros.proofs.Laws.Toplabels.{passed, empty_no_label, toplabel_complete, toplabel_sound}

-- in a domain-spec the bytes that stand for themselves are the macro-literals
pub literal_in : (b : ℕ) → is_macro_literal b ≡ true → is_literal Form.DomainSpec b ≡ true
unfolding is_literal
literal_in b h = h

pub literal_out : (b : ℕ) → is_literal Form.DomainSpec b ≡ true → is_macro_literal b ≡ true
unfolding is_literal
literal_out b h = h

-- a byte of ".label" or ".label."
unfoldable is_ending : ℕ → Bool
is_ending b = is_toplabel_byte b || is_dot b

dot_literal : is_macro_literal 46 ≡ true
unfolding is_macro_literal within
dot_literal = refl

ending_literal : (b : ℕ) → is_ending b ≡ true → is_macro_literal b ≡ true
unfolding is_ending
ending_literal b h = or_elim (is_toplabel_byte b) (is_dot b) h (toplabel_literal b) (λ e. ap is_macro_literal (eqb-true b 46 e) ∙ dot_literal)

toplabel_ending : (b : ℕ) → is_toplabel_byte b ≡ true → is_ending b ≡ true
unfolding is_ending
toplabel_ending b h = or_left (is_toplabel_byte b) (is_dot b) h

dot_ending : is_ending 46 ≡ true
unfolding is_ending
dot_ending = or_right (is_toplabel_byte 46) (is_dot 46) refl

percent_no_ending : is_ending 37 ≡ false
unfolding is_ending is_toplabel_byte is_alphanumeric is_alpha is_digit is_upper within
percent_no_ending = refl

brace_no_ending : is_ending 125 ≡ false
unfolding is_ending is_toplabel_byte is_alphanumeric is_alpha is_digit is_upper within
brace_no_ending = refl

label_ending : (l : List ℕ) → is_toplabel l ≡ true → all is_ending l ≡ true
label_ending l h = all_inside is_toplabel_byte is_ending toplabel_ending l (passed l h).bytes

dotted_ending : (l : List ℕ) → is_toplabel l ≡ true → all is_ending (l ++ (46 ∷ [])) ≡ true
dotted_ending l h = all_join is_ending l (46 ∷ []) (label_ending l h) (all_cons is_ending 46 [] dot_ending (all_none is_ending))

-- bytes of an ending are read as they stand
expand_percent : {form : Form} {w : List ℕ} {p : Piece} → MacroExpand form w p → (rest : List ℕ) → at (w ++ rest) 0 ≡ 37
expand_percent (braces hl hc hr hd) rest = refl
expand_percent percent rest = refl
expand_percent underscore rest = refl
expand_percent hyphen rest = refl

ending_pieces : {form : Form} {v : List ℕ} {ps : List Piece} → Row form v ps → all is_ending v ≡ true → ps ≡ map literal v
ending_pieces none h = refl
ending_pieces (expands {w = w} {rest = rest} m r) h =
    absurd (true_false (is_ending 37) (ap is_ending (sym (expand_percent m rest)) ∙ all_at_lem is_ending (w ++ rest) 0 (omega (arith, expand_some m, length-append w rest)) h) percent_no_ending)
ending_pieces (literals {b = b} {rest = rest} k r) h = ap (λ (t : List Piece). literal b ∷ t) (ending_pieces r (all_rest is_ending b rest h))

ending_row : (v : List ℕ) → all is_ending v ≡ true → Row Form.DomainSpec v (map literal v)
ending_row [] h = none
ending_row (b ∷ v) h = literals (literal_in b (ending_literal b (all_first is_ending b v h))) (ending_row v (all_rest is_ending b v h))

-- a macro-expand doesn't reach into an ending: its last byte isn't there
module _ (u v : List ℕ) (h : all is_ending v ≡ true) where
  brace_apart : (w rest : List ℕ) → (w ++ (125 ∷ [])) ++ rest ≡ u ++ (46 ∷ v) → length u ≤ length w → ⊥
  brace_apart w rest e k =
      let n = length w - length u in
      let a : at (u ++ (46 ∷ v)) (length u + n) ≡ 125 =
      ap (λ (t : List ℕ). at t (length u + n)) (sym e ∙ append_assoc w (125 ∷ []) rest) ∙ get_or_at w 125 rest 0 (length u + n) (omega arith) in
      let b : at (46 ∷ v) n ≡ 125 = sym (get_or-append-add u (46 ∷ v) n 0) ∙ a in
      let s : n < length (46 ∷ v) = omega (arith, ap length e, length-append (w ++ (125 ∷ [])) rest, length-append w (125 ∷ []), length-append u (46 ∷ v)) in
      true_false (is_ending 125) (ap is_ending (sym b) ∙ all_at_lem is_ending (46 ∷ v) n s (all_cons is_ending 46 v dot_ending h)) brace_no_ending

  escape_apart : (c : ℕ) (rest : List ℕ) → (c ≡ 46 → ⊥) → (37 ∷ c ∷ rest) ≡ u ++ (46 ∷ v) → length u < 2 → ⊥
  escape_apart c rest n e k = by u e k
    where
      by : (u : List ℕ) → (37 ∷ c ∷ rest) ≡ u ++ (46 ∷ v) → length u < 2 → ⊥
      by [] e k = let z : ◌≡◌ {A = ℕ} 37 46 = ap (λ (t : List ℕ). at t 0) e in omega arith
      by (x ∷ []) e k = n (ap (λ (t : List ℕ). at t 1) e)
      by (x ∷ y ∷ u) e k = absurd (omega arith)

  expand_apart : {form : Form} {w : List ℕ} {p : Piece} → MacroExpand form w p → (rest : List ℕ) → w ++ rest ≡ u ++ (46 ∷ v) → length u < length w → ⊥
  expand_apart (braces {letter = letter} {digits = digits} {r = r} {delimiters = delimiters} hl hc hr hd) rest e k =
      let w : List ℕ = 37 ∷ 123 ∷ letter ∷ (digits ++ (r ++ delimiters)) in
      let a : 37 ∷ 123 ∷ letter ∷ (digits ++ (r ++ (delimiters ++ (125 ∷ [])))) ≡ w ++ (125 ∷ []) = simp append_assoc in
      brace_apart w rest (ap (λ (t : List ℕ). t ++ rest) (sym a) ∙ e) (omega (arith, ap length a, length-append w (125 ∷ [])))
  expand_apart percent rest e k = escape_apart 37 rest (λ z. omega arith) e k
  expand_apart underscore rest e k = escape_apart 95 rest (λ z. omega arith) e k
  expand_apart hyphen rest e k = escape_apart 45 rest (λ z. omega arith) e k

-- a row is cut before the dot of an ending
record Cut (form : Form) (u v : List ℕ) (ps : List Piece) : Type 0 where
  before : List Piece
  row : Row form u before
  parts : ps ≡ before ++ map literal (46 ∷ v)

cut : {form : Form} {s : List ℕ} {ps : List Piece} → Row form s ps → (u v : List ℕ) → s ≡ u ++ (46 ∷ v) → all is_ending v ≡ true → Cut form u v ps
cut none u v e h = absurd (omega (arith, ap length e, length-append u (46 ∷ v)))
cut {form} (literals {b = b} {rest = rest} {ps = ps} k r) [] v e h =
    let a : b ≡ 46 = cc in
    let t : rest ≡ v = cc in
    let q : ps ≡ map literal rest = ending_pieces r (ap (all is_ending) t ∙ h) in
    record { before = []; row = none; parts = cc }
cut {form} (literals {b = b} {rest = rest} {ps = ps} k r) (x ∷ u) v e h =
    let a : b ≡ x = cc in
    let c = cut r u v (cc) h in
    record {
      before = literal b ∷ c.before;
      row = subst (λ (y : ℕ). Row form (y ∷ u) (literal b ∷ c.before)) a (literals k c.row);
      parts = ap (λ (t : List Piece). literal b ∷ t) c.parts;
    }
cut {form} (expands {w = w} {rest = rest} {p = p} m r) u v e h = ⊎_elim
    (λ (k : length w ≤ length u).
    let t : rest ≡ drop (length w) u ++ (46 ∷ v) = sym (drop-append_seam w rest) ∙ ap (drop (length w)) e ∙ drop-append-le (length w) u (46 ∷ v) k in
    let f : w ≡ take (length w) u = sym (take-append_seam w rest) ∙ ap (take (length w)) e ∙ take-append-le (length w) u (46 ∷ v) k in
    let a : w ++ drop (length w) u ≡ u = ap (λ (x : List ℕ). x ++ drop (length w) u) f ∙ take-append-drop (length w) u in
    let c = cut r (drop (length w) u) v t h in
    record {
      before = p ∷ c.before;
      row = subst (λ (x : List ℕ). Row form x (p ∷ c.before)) a (expands m c.row);
      parts = ap (λ (x : List Piece). p ∷ x) c.parts;
    })
    (λ (k : length u < length w). absurd (expand_apart u v h m rest e k))
    (le_or_lt (length w) (length u))

-- the last piece
ends_next : (p q : Piece) (ps : List Piece) → ends_in_macro (p ∷ q ∷ ps) ≡ ends_in_macro (q ∷ ps)
unfolding ends_in_macro
ends_next (literal b) q ps = refl
ends_next (escape b) q ps = refl
ends_next (expand m) q ps = refl

ends_in_macro_lem : {form : Form} {w : List ℕ} {p : Piece} → MacroExpand form w p → (ps : List Piece) → ends_in_macro (ps ++ (p ∷ [])) ≡ true
unfolding ends_in_macro
ends_in_macro_lem (braces hl hc hr hd) [] = refl
ends_in_macro_lem percent [] = refl
ends_in_macro_lem underscore [] = refl
ends_in_macro_lem hyphen [] = refl
ends_in_macro_lem {p = p} m (x ∷ []) = ends_next x p [] ∙ ends_in_macro_lem m []
ends_in_macro_lem {p = p} m (x ∷ y ∷ ps) = ends_next x y (ps ++ (p ∷ [])) ∙ ends_in_macro_lem m (y ∷ ps)

-- a piece before a domain-spec
spec_at_lem : {s t : List ℕ} {ps : List Piece} → s ≡ t → DomainSpec t ps → DomainSpec s ps
spec_at_lem {s} {t} {ps} e d = subst (λ (x : List ℕ). DomainSpec x ps) (sym e) d

spec_expand : {w rest : List ℕ} {p : Piece} {ps : List Piece} → MacroExpand Form.DomainSpec w p → DomainSpec rest ps → DomainSpec (w ++ rest) (p ∷ ps)
spec_expand {w} m (spec {u = u} {w = v} d e) = spec_at_lem (sym (append_assoc w u v)) (spec (MacroString.expands m d) e)

spec_literal : {b : ℕ} {rest : List ℕ} {ps : List Piece} → is_macro_literal b ≡ true → DomainSpec rest ps → DomainSpec (b ∷ rest) (literal b ∷ ps)
spec_literal k (spec d e) = spec (MacroString.literals k d) e

-- a row that ends in a macro-expand is a domain-spec
macro_end : {s : List ℕ} {ps : List Piece} → Row Form.DomainSpec s ps → ends_in_macro ps ≡ true → DomainSpec s ps
unfolding ends_in_macro
macro_end none h = absurd (true_false false h refl)
macro_end (expands {w = w} m none) h = spec_at_lem (append-nil w) (spec MacroString.none (DomainEnd.expands m))
macro_end (expands {p = p} m (expands {p = q} {ps = ps} n r)) h = spec_expand m (macro_end (expands n r) (sym (ends_next p q ps) ∙ h))
macro_end (expands {p = p} m (literals {b = b} {ps = ps} k r)) h = spec_expand m (macro_end (literals k r) (sym (ends_next p (literal b) ps) ∙ h))
macro_end (literals {b = b} k none) h = absurd (true_false false h refl)
macro_end (literals {b = b} k (expands {p = q} {ps = ps} n r)) h = spec_literal (literal_out b k) (macro_end (expands n r) h)
macro_end (literals {b = b} k (literals {b = c} {ps = ps} n r)) h = spec_literal (literal_out b k) (macro_end (literals n r) h)

-- what stands after the last dot
abbrev AfterDot : List ℕ → List ℕ → Type 0
AfterDot s l = (l ≡ []) ⊎ ((u : List ℕ) × (s ≡ u ++ (46 ∷ l)))

dot_before : (x s l : List ℕ) → AfterDot s l → AfterDot (x ++ (46 ∷ s)) l
dot_before x s l (inl e) = inl e
dot_before x s l (inr (u, e)) = inr (x ++ (46 ∷ u), ap (λ (t : List ℕ). x ++ (46 ∷ t)) e ∙ sym (append_assoc x (46 ∷ u) (46 ∷ l)))

join_label : (xs : List (List ℕ)) → AfterDot (join xs) (last_label xs)
unfolding join_by separator_before last_label
join_label [] = inl refl
join_label (x ∷ []) = inl refl
join_label (x ∷ y ∷ []) = inr (x, ap (λ (t : List ℕ). x ++ t) (append-nil (46 ∷ y)))
join_label (x ∷ y ∷ z ∷ r) = dot_before x (join (y ∷ z ∷ r)) (last_label (y ∷ z ∷ r)) (join_label (y ∷ z ∷ r))

after_dot : (s : List ℕ) → AfterDot s (last_label (split is_dot s))
after_dot s = subst (λ (t : List ℕ). AfterDot t (last_label (split is_dot s))) (join_dots s) (join_label (split is_dot s))

label_before : (s l : List ℕ) → AfterDot s l → is_toplabel l ≡ true → (u : List ℕ) × (s ≡ u ++ (46 ∷ l))
label_before s l (inl e) h = absurd (true_false (is_toplabel []) (ap is_toplabel (sym e) ∙ h) empty_no_label)
label_before s l (inr x) h = x

label_of : (s : List ℕ) → is_toplabel (last_label (split is_dot s)) ≡ true → (u : List ℕ) × (s ≡ u ++ (46 ∷ last_label (split is_dot s)))
label_of s h = label_before s (last_label (split is_dot s)) (after_dot s) h

-- a row that ends in a label is a domain-spec
row_spec : {s : List ℕ} {ps : List Piece} (u v : List ℕ) → Row Form.DomainSpec s ps → s ≡ u ++ (46 ∷ v) → all is_ending v ≡ true
    → DomainEnd (46 ∷ v) (map literal (46 ∷ v)) → DomainSpec s ps
row_spec {s} {ps} u v r e h d =
    let c = cut r u v e h in
    spec_at_lem e (subst (λ (x : List Piece). DomainSpec (u ++ (46 ∷ v)) x) (sym c.parts) (spec (row_string literal_out c.row) d))

last_dot : (s : List ℕ) → is_dot (at s (length s - 1)) ≡ true → s ≡ take (length s - 1) s ++ (46 ∷ [])
last_dot s h =
    let k = class_inside is_dot refl s (length s - 1) h in
    let d : drop (suc (length s - 1)) s ≡ [] = drop_of_length-le s {i = suc (length s - 1)} (omega arith) in
    split_at s (length s - 1) 0 k ∙ simp (eqb-true (at s (length s - 1)) 46 h, d)

label_end : {s : List ℕ} {ps : List Piece} → Row Form.DomainSpec s ps → ends_in_label s ≡ true → DomainSpec s ps
unfolding ends_in_label without_dot
label_end {s} {ps} r = cond-elim (λ (t : List ℕ). is_toplabel (last_label (split is_dot t)) ≡ true → DomainSpec s ps) (is_dot (at s (length s - 1)))
    {x = take (length s - 1) s} {y = s}
    (λ d h.
    let t = take (length s - 1) s in
    let l = last_label (split is_dot t) in
    let x = label_of t h in
    row_spec x.0 (l ++ (46 ∷ [])) r
    (last_dot s d ∙ ap (λ (y : List ℕ). y ++ (46 ∷ [])) x.1 ∙ append_assoc x.0 (46 ∷ l) (46 ∷ []))
    (dotted_ending l h) (label_dot (toplabel_sound l h)))
    (λ d h.
    let l = last_label (split is_dot s) in
    let x = label_of s h in
    row_spec x.0 l r x.1 (label_ending l h) (label (toplabel_sound l h)))

pub ending_sound : {s : List ℕ} {ps : List Piece} → Row Form.DomainSpec s ps → (ends_in_macro ps || ends_in_label s) ≡ true → DomainSpec s ps
ending_sound {s} {ps} r h = or_elim (ends_in_macro ps) (ends_in_label s) h (macro_end r) (label_end r)

-- a domain-spec is a row, and ends so
end_row : {w : List ℕ} {ps : List Piece} → DomainEnd w ps → Row Form.DomainSpec w ps
end_row (label {w = w} t) = ending_row (46 ∷ w) (all_cons is_ending 46 w dot_ending (label_ending w (toplabel_complete t)))
end_row (label_dot {w = w} t) = ending_row (46 ∷ (w ++ (46 ∷ []))) (all_cons is_ending 46 (w ++ (46 ∷ [])) dot_ending (dotted_ending w (toplabel_complete t)))
end_row (DomainEnd.expands {w = w} {p = p} m) = subst (λ (x : List ℕ). Row Form.DomainSpec x (p ∷ [])) (append-nil w) (expands m none)

pub spec_row : {s : List ℕ} {ps : List Piece} → DomainSpec s ps → Row Form.DomainSpec s ps
spec_row (spec d e) = string_row literal_in d (end_row e)

split_label : (l : List ℕ) → all is_toplabel_byte l ≡ true → split is_dot l ≡ l ∷ []
split_label l h = split_undotted l (all_inside is_toplabel_byte is_not_dot (λ b k. ap not (toplabel_no_dot b k)) l h)

label_found : (u l : List ℕ) → is_toplabel l ≡ true → last_label (split is_dot (u ++ (46 ∷ l))) ≡ l
label_found u l h =
    ap last_label (split_append is_dot u 46 l refl ∙ ap (λ (x : List (List ℕ)). split is_dot u ++ x) (split_label l (passed l h).bytes))
    ∙ last_label_lem (split is_dot u) l (split_some is_dot u)

alphanumeric_zero : is_alphanumeric 0 ≡ false
unfolding is_alphanumeric is_alpha is_digit is_upper within
alphanumeric_zero = refl

no_dot_last : (u l : List ℕ) → is_toplabel l ≡ true → is_dot (at (u ++ (46 ∷ l)) (length (u ++ (46 ∷ l)) - 1)) ≡ false
no_dot_last u l h =
    let p = passed l h in
    let k = class_inside is_alphanumeric alphanumeric_zero l 0 p.first in
    let n : length (u ++ (46 ∷ l)) - 1 ≡ length u + suc (length l - 1) = omega (arith, length-append u (46 ∷ l)) in
    ap is_dot (ap (λ (i : ℕ). at (u ++ (46 ∷ l)) i) n ∙ get_or-append-add u (46 ∷ l) (suc (length l - 1)) 0)
    ∙ toplabel_no_dot (at l (length l - 1)) (alphanumeric_toplabel (at l (length l - 1)) p.last)

label_ends : (u l : List ℕ) → is_toplabel l ≡ true → ends_in_label (u ++ (46 ∷ l)) ≡ true
unfolding ends_in_label without_dot
label_ends u l h = simp (no_dot_last u l h, label_found u l h, h)

dotted_ends : (u l : List ℕ) → is_toplabel l ≡ true → ends_in_label ((u ++ (46 ∷ l)) ++ (46 ∷ [])) ≡ true
unfolding ends_in_label without_dot
dotted_ends u l h =
    let t = u ++ (46 ∷ l) in
    simp (at_last t 46, take_at t (46 ∷ []) (length (t ++ (46 ∷ [])) - 1) (omega (arith, length-append t (46 ∷ []))), label_found u l h, h)

pub ending_complete : {s : List ℕ} {ps : List Piece} → DomainSpec s ps → (ends_in_macro ps || ends_in_label s) ≡ true
ending_complete (spec {u = u} {ps = ps} d (label {w = w} t)) =
    or_right (ends_in_macro (ps ++ map literal (46 ∷ w))) (ends_in_label (u ++ (46 ∷ w))) (label_ends u w (toplabel_complete t))
ending_complete (spec {u = u} {ps = ps} d (label_dot {w = w} t)) =
    or_right (ends_in_macro (ps ++ map literal (46 ∷ (w ++ (46 ∷ []))))) (ends_in_label (u ++ (46 ∷ (w ++ (46 ∷ [])))))
    (ap ends_in_label (sym (append_assoc u (46 ∷ w) (46 ∷ []))) ∙ dotted_ends u w (toplabel_complete t))
ending_complete (spec {u = u} {ps = ps} d (DomainEnd.expands {w = w} {p = p} m)) =
    or_left (ends_in_macro (ps ++ (p ∷ []))) (ends_in_label (u ++ w)) (ends_in_macro_lem m ps)
