-- The list of entries that a table encodes is the one that the reader finds, so there is only one, and entries at its front are the first of them;
-- and kind and name pairs in a list of entries and one more. From the laws of one entry (Encoding).
use Rattle.std.proofs.Common.{Option, Some}
use Prim.Native.Nat.{ℕ, zero, suc, ◌≤◌}
use mathlib.Core.Path.{◌≡◌, refl, sym, ap, subst, ◌∙◌}
use mathlib.Core.List.{List, [], ◌∷◌, ◌++◌, append-nil, append_assoc}
use mathlib.Core.Bool.{Bool, true, false, not, ◌||◌, or_assoc}
use native.Mathlib.Omega.{arith}
use lib.ListN.{length, drop, length-append}
use lib.Seq.{drop-append_seam}
use lib.Dec.{eqb}
use borrow.Author.Tests.{eqb-true, eq-eqb, not-true}
use Rattle.text.specs.Lists.{same}
use Rattle.text.proofs.Laws.Tests.{and_left, and_right, and_both, or_elim, or_false_left, or_false_right, or_false_both, true_false}
use Rattle.text.proofs.Laws.Words.{same_true, true_same}
use Rattle.answer_table.specs.Layout.{Entry, EncodesIn, EntriesIn, none, more, is_pair, holds, distinct}
use Rattle.answer_table.specs.Reader.{header_of, entry_of, entries_after, entries_from, entries_in}
use Rattle.answer_table.specs.declared.Layout.{Layout}
use Rattle.answer_table.specs.declared.entries.Header.{Header}
use Rattle.answer_table.proofs.Laws.Encoding.{header_none, head_of, well_complete}

-- one entry taken off
pub entries_first : (lay : Layout) (s : List ℕ) (f : ℕ) (h : Header) → header_of lay s ≡ Some h
    → entries_from lay (suc f) s ≡ entry_of lay s h ∷ entries_from lay f (drop h.size s)
unfolding entries_from entries_after
entries_first lay s f h e = ap (λ (x : Option Header). entries_after lay s x (entries_from lay f)) e

entries_none : (lay : Layout) (f : ℕ) → entries_from lay f [] ≡ []
unfolding entries_from entries_after
entries_none lay zero = refl
entries_none lay (suc f) = rw (header_none lay)

-- what is encoded is read; as many turns as there are bytes are enough
entries_read : {lay : Layout} {t : List ℕ} {es : List Entry} → EntriesIn lay t es → (f : ℕ) → length t ≤ f → entries_from lay f t ≡ es
entries_read {lay} none f h = entries_none lay f
entries_read (more {w = w} {rest = rest} p q) zero h =
    let r = well_complete p rest in
    absurd (omega (arith, r.some, length-append w rest))
entries_read {lay} (more {w = w} {rest = rest} {e = e} {es = es} p q) (suc f) h =
    let r = well_complete p rest in
    let a = entries_first lay (w ++ rest) f (head_of e (length w)) r.header in
    let b : entries_from lay f rest ≡ es = entries_read q f (omega (arith, r.some, length-append w rest)) in
    let d : drop (length w) (w ++ rest) ≡ rest = drop-append_seam w rest in
    cc r.holds

pub entries_complete : {lay : Layout} {t : List ℕ} {es : List Entry} → EntriesIn lay t es → entries_in lay t ≡ es
unfolding entries_in
entries_complete {t = t} p = entries_read p (length t) (omega arith)

-- bytes encode one list of entries at most, which tells a reader that an accepted table has its entries and no others
pub entries_one : {lay : Layout} {t : List ℕ} {es fs : List Entry} → EntriesIn lay t es → EntriesIn lay t fs → es ≡ fs
entries_one p q = sym (entries_complete p) ∙ entries_complete q

-- one more entry at the end
pub entries_snoc : {lay : Layout} {t w : List ℕ} {es : List Entry} {e : Entry} → EntriesIn lay t es → EncodesIn lay w e
    → EntriesIn lay (t ++ w) (es ++ (e ∷ []))
entries_snoc {lay} {w = w} {e = e} none q = subst (λ (x : List ℕ). EntriesIn lay x (e ∷ [])) (append-nil w) (more q none)
entries_snoc (more p r) q = rw append_assoc (more p (entries_snoc r q))

-- the entry at the front of bytes is one only, and so is what follows it
entry_first : {lay : Layout} {w w' : List ℕ} {e e' : Entry} → EncodesIn lay w e → EncodesIn lay w' e' → (r r' : List ℕ) → w ++ r ≡ w' ++ r'
    → (e ≡ e') × (r ≡ r')
entry_first {w = w} {w' = w'} {e = e} {e' = e'} x x' r r' q =
    let a = well_complete x r in
    let b = well_complete x' r' in
    let d = drop-append_seam w r in
    let d' = drop-append_seam w' r' in
    let g : Some (head_of e (length w)) ≡ Some (head_of e' (length w')) = cc (a.header, b.header) in
    let f : head_of e (length w) ≡ head_of e' (length w') = cc in
    let l : length w ≡ length w' = ap (λ (h : Header). h.size) f in
    (cc (a.holds, b.holds), cc)

-- entries at the front of a table are the first of its entries
pub entries_cut : {lay : Layout} {front t : List ℕ} {ds es : List Entry} → EntriesIn lay front ds → EntriesIn lay t es → (rest : List ℕ) → t ≡ front ++ rest
    → (fs : List Entry) × (es ≡ ds ++ fs)
entries_cut {es = es} none q rest e = (es, refl)
entries_cut (more {w = w} {rest = r} x p) none rest e =
    absurd (omega (arith, (well_complete x []).some, ap length e, length-append (w ++ r) rest, length-append w r))
entries_cut (more {w = w} {rest = r} x p) (more {rest = r'} x' p') rest e =
    let a = entry_first x' x r' (r ++ rest) (e ∙ append_assoc w r rest) in
    let b = entries_cut p p' rest a.1 in
    (b.0, cc (a.0, b.1))

-- a pair among the entries of two lists
pub holds_append : (kind : ℕ) (name : List ℕ) (es fs : List Entry) → holds kind name (es ++ fs) ≡ (holds kind name es || holds kind name fs)
unfolding holds
holds_append kind name [] fs = refl
holds_append kind name (e ∷ es) fs =
    ap (λ (b : Bool). is_pair kind name e || b) (holds_append kind name es fs) ∙ sym (or_assoc (is_pair kind name e) (holds kind name es) (holds kind name fs))

-- a pair among entries and one more
pub holds_snoc : {P : Type 0} (kind : ℕ) (name : List ℕ) (es : List Entry) (e : Entry) → holds kind name (es ++ (e ∷ [])) ≡ true
    → (holds kind name es ≡ true → P) → (is_pair kind name e ≡ true → P) → P
unfolding holds
holds_snoc kind name es e h f g =
    or_elim (holds kind name es) (is_pair kind name e || false) (sym (holds_append kind name es (e ∷ [])) ∙ h) f
    (λ l. or_elim (is_pair kind name e) false l g (λ n. absurd (true_false false n refl)))

-- an entry is of one pair only
pub pair_is : (kind : ℕ) (name : List ℕ) (e : Entry) → is_pair kind name e ≡ true → (e.kind ≡ kind) × (e.name ≡ name)
unfolding is_pair
pair_is kind name e h =
    let k = eqb e.kind kind in
    let n = same e.name name in
    (eqb-true e.kind kind (and_left k n h), same_true e.name name (and_right k n h))

-- two entries of different pairs, either way round
pub pair_apart : (d e : Entry) → is_pair d.kind d.name e ≡ false → is_pair e.kind e.name d ≡ false
unfolding is_pair
pair_apart d e h = by (is_pair e.kind e.name d) refl
  where
    by : (t : Bool) → is_pair e.kind e.name d ≡ t → t ≡ false
    by false q = refl
    by true q =
        let p = pair_is e.kind e.name d q in
        let y = and_both (eqb e.kind d.kind) (same e.name d.name) (eq-eqb e.kind d.kind (sym p.0))
        (true_same e.name d.name (sym p.1)) in
        sym y ∙ h

-- a list without a repeated pair, and one more whose pair isn't in it
pub distinct_snoc : (es : List Entry) (e : Entry) → distinct es ≡ true → holds e.kind e.name es ≡ false → distinct (es ++ (e ∷ [])) ≡ true
unfolding distinct holds
distinct_snoc [] e h k = refl
distinct_snoc (d ∷ es) e h k =
    let h₀ : holds d.kind d.name es ≡ false = not-true _ (and_left (not (holds d.kind d.name es)) (distinct es) h) in
    let h₁ = and_right (not (holds d.kind d.name es)) (distinct es) h in
    let k₀ = pair_apart e d (or_false_left (is_pair e.kind e.name d) (holds e.kind e.name es) k) in
    let k₁ = or_false_right (is_pair e.kind e.name d) (holds e.kind e.name es) k in
    let a = holds_append d.kind d.name es (e ∷ []) in
    simp (a, h₀, k₀) (distinct_snoc es e h₁ k₁)

-- in a list without a repeated pair, an entry's pair isn't among those before it
pub distinct_before : (ds : List Entry) (e : Entry) (es : List Entry) → distinct (ds ++ (e ∷ es)) ≡ true → holds e.kind e.name ds ≡ false
unfolding distinct holds
distinct_before [] e es h = refl
distinct_before (d ∷ ds) e es h =
    let g = holds d.kind d.name (ds ++ (e ∷ es)) in
    let h₀ : (holds d.kind d.name ds || (is_pair d.kind d.name e || holds d.kind d.name es)) ≡ false =
    sym (holds_append d.kind d.name ds (e ∷ es)) ∙ not-true g (and_left (not g) (distinct (ds ++ (e ∷ es))) h) in
    let p = or_false_left (is_pair d.kind d.name e) (holds d.kind d.name es) (or_false_right (holds d.kind d.name ds) _ h₀) in
    or_false_both (is_pair e.kind e.name d) (holds e.kind e.name ds) (pair_apart d e p)
    (distinct_before ds e es (and_right (not g) (distinct (ds ++ (e ∷ es))) h))
