-- Where the redirect and the exp of a selected record stand: the reader's places are those of the record's terms, and its exp argument stands in the table
-- where the productions say. From records' laws on where modifiers stand, and the laws of `rules` on the exp argument.
use Rattle.std.proofs.Common.{None, Option, Some, Ok, Err, Result as Outcome}
use Prim.Native.Nat.{ℕ, ◌+◌, ◌-◌, ◌*◌, ◌^◌, ◌≤◌, ◌<◌}
use mathlib.Core.Path.{◌≡◌, refl, sym, ap, subst, ◌∙◌}
use mathlib.Core.List.{List, ◌∷◌, ◌++◌}
use native.Mathlib.Omega.{arith}
use lib.ListN.{length, drop, length-take, length-drop}
use Rattle.text.specs.Bytes.{part}
use Rattle.text.specs.Texts.{bytes}
use Rattle.text.specs.declared.spans.Span.{Span}
use Rattle.text.proofs.Laws.Words.{true_same, false_same}
use Rattle.address.specs.declared.Address.{Address}
use Rattle.domain.specs.Names.{label_count}
use Rattle.answer_table.specs.Layout.{Entry, kind_txt}
use Rattle.answer_table.specs.Answers.{Encoded}
use Rattle.answer_table.specs.Standing.{ItemAt}
use Rattle.answer_table.proofs.Laws.Places.{part_inside}
use Rattle.records.specs.Readings.{present, Placed}
use Rattle.records.specs.Reader.{read_record, after_version, Reads}
use Rattle.records.specs.Opening.{ModifierAt, none, here, later, argument_in, ModifiersAre, OpeningOf, answer_of}
use Rattle.records.specs.declared.Refusal.{Refusal}
use Rattle.records.specs.declared.opening.Reading.{Reading}
use Rattle.records.proofs.Laws.Records.{record_complete}
use Rattle.records.proofs.Laws.Standing.{modifier_absent, modifier_part}
use Rattle.rules.specs.declared.Selected.{Selected}
use Rattle.rules.specs.declared.LookedUp.{LookedUp}
use Rattle.rules.specs.Tree.{Table, settled, wanting, SettlesTo}
use Rattle.rules.specs.Tables.{table_in}
use Rattle.rules.specs.Evaluation.{ends, one, modifier_of, terms_of, record_lookup, no_counts}
use Rattle.rules.specs.Exp.{ExpAt}
use Rattle.rules.specs.Outcomes.{span_of, SaysSelection, ExpStands}
use Rattle.rules.proofs.Laws.Runs.{settles_to}
use Rattle.rules.proofs.Laws.Inversions.{lookup_ends, lookup_one, lookup_missing}
use Rattle.rules.proofs.Laws.Produced.{accepted_reading}
use Rattle.rules.proofs.Laws.Exp.{exp_text, exp_labels, exp_reads, exp_made}
use Rattle.evaluation.specs.Checks.{in_table, FitsTable, FindsExp}

-- the argument of the modifier of a name
argument_is : {s wanted : List ℕ} {ts : List Placed} {m : Option Span} → ModifierAt s wanted ts m → argument_in s m ≡ modifier_of wanted ts
unfolding argument_in modifier_of
argument_is none = refl
argument_is {wanted = wanted} (here {t = t} n a f l p) = rw (true_same t.said.name wanted n, a, p)
argument_is {wanted = wanted} (later {t = t} h r) = rw (false_same t.said.name wanted h) (argument_is r)

-- an accepted record's terms, one after the other
accepted_reads : (s : List ℕ) → read_record s ≡ Ok after_version → Reads s after_version (terms_of s after_version)
unfolding terms_of
accepted_reads s e = let r = accepted_reading s after_version e in (record_complete r.1 r.0).walk

-- one text is selected
one_text : (t : Table) (d : List ℕ) {a b : List ℕ} → SettlesTo t (record_lookup d no_counts) (one a) → SettlesTo t (record_lookup d no_counts) (one b) → a ≡ b
one_text t d {a = a} {b = b} p q =
    let x = p None in
    let y = q None in
    let e : settled (one a) x.0 ≡ settled (one b) y.0 = sym x.1 ∙ y.1 in
    cc

-- a record that stands in the table and is accepted
module _ (client : Address) (t : List ℕ) (text : Span) (u : List ℕ) (f : u ≡ span_of t text) (x : Outcome Reading Refusal) (g : OpeningOf client u x) (r : Reading) (a : x ≡ Ok r) where
  read_is : read_record (span_of t text) ≡ Ok after_version
  unfolding answer_of
  read_is = ap read_record (sym f) ∙ sym g.answer ∙ ap answer_of a

  modifiers_are : ModifiersAre (span_of t text) after_version r.modifiers
  modifiers_are = subst (λ (s : List ℕ). ModifiersAre s after_version r.modifiers) f (g.modifiers r a)

  pub redirect_is : argument_in (span_of t text) r.modifiers.redirect ≡ modifier_of (bytes "redirect") (terms_of (span_of t text) after_version)
  redirect_is = argument_is (modifiers_are.redirect _ (accepted_reads (span_of t text) read_is))

  exp_at : ModifierAt (span_of t text) (bytes "exp") (terms_of (span_of t text) after_version) r.modifiers.exp
  exp_at = modifiers_are.exp _ (accepted_reads (span_of t text) read_is)

  -- a place in the record, which no empty record has, as one in the table
  inside : (n : ℕ) → 0 < n → n ≤ length (span_of t text) → text.from + n ≤ length t
  inside n h l = omega (arith, length-take (text.to - text.from) (drop text.from t), length-drop text.from t)

  fits_by : (m : Option Span) → ModifierAt (span_of t text) (bytes "exp") (terms_of (span_of t text) after_version) m → length t * 1 < 2 ^ 63 → FitsTable m text.from
  unfolding FitsTable
  fits_by None p l = tt
  fits_by (Some m) p l =
      let (us, vs, v, e, n, b, i, j, k) = modifier_part {from = m.from} {to = m.to} p in
      (omega (arith, j), omega (arith, inside m.to (omega (arith, i, j)) k))

  pub exp_fits : length t * 1 < 2 ^ 63 → FitsTable r.modifiers.exp text.from
  exp_fits l = fits_by r.modifiers.exp exp_at l

  -- the same bytes, by their place in the table
  moved : (m : Option Span) → ModifierAt (span_of t text) (bytes "exp") (terms_of (span_of t text) after_version) m
      → argument_in t (in_table m text.from) ≡ argument_in (span_of t text) m
  unfolding argument_in in_table
  moved None p = refl
  moved (Some m) p =
      let (us, vs, v, e, n, b, i, j, k) = modifier_part {from = m.from} {to = m.to} p in
      ap present (sym (part_inside t text.from text.to m.from m.to k))

  pub exp_is : argument_in t (in_table r.modifiers.exp text.from) ≡ modifier_of (bytes "exp") (terms_of (span_of t text) after_version)
  exp_is = moved r.modifiers.exp exp_at ∙ argument_is exp_at

  module _ (d : List ℕ) (labels : 1 < label_count d) (selected : SettlesTo (table_in t) (record_lookup d no_counts) (one (span_of t text)))
      (stands : (es : List Entry) → Encoded t es → ItemAt t kind_txt d (span_of t text) text.from) where
    stands_by : (m : Option Span) → ModifierAt (span_of t text) (bytes "exp") (terms_of (span_of t text) after_version) m → ExpStands t d (in_table m text.from)
    unfolding ExpStands in_table
    stands_by None p = tt
    stands_by (Some m) p =
        let (us, vs, v, e, n, b, i, j, k) = modifier_part {from = m.from} {to = m.to} p in
        let x : part (span_of t text) m.from m.to ≡ part t (text.from + m.from) (text.from + m.to) = part_inside t text.from text.to m.from m.to k in (
          inside m.to (omega (arith, i, j)) k,
          omega (arith, j, ap length x),
          λ es c.
              subst (ExpAt t d (text.from + m.from)) x
              (subst (λ (q : ℕ). ExpAt t d (text.from + q) (part (span_of t text) m.from m.to)) (sym i)
              (exp_made c labels selected text.from (stands es c) after_version read_is us vs v e n b)),
        )

    pub exp_stands : ExpStands t d (in_table r.modifiers.exp text.from)
    exp_stands = stands_by r.modifiers.exp exp_at

    -- no exp
    no_exp : r.modifiers.exp ≡ None → (p : ℕ) (x : List ℕ) → ExpAt t d p x → ⊥
    no_exp m p x e =
        let i : e.text ≡ span_of t text = one_text (table_in t) d (exp_text e no_counts) selected in
        let n : Reads (span_of t text) after_version (e.exp.before ++ (e.exp.term ∷ e.exp.after)) =
        subst (λ (s : List ℕ). Reads s after_version (e.exp.before ++ (e.exp.term ∷ e.exp.after))) i (record_complete e.exp.reading e.short).walk in
        modifier_absent
        (subst (ModifierAt (span_of t text) (bytes "exp") (e.exp.before ++ (e.exp.term ∷ e.exp.after))) m (modifiers_are.exp _ n))
        e.exp.before e.exp.after e.exp.term refl e.exp.named

    pub exp_found : (m : Option Span) → r.modifiers.exp ≡ m → FindsExp t d (in_table m text.from)
    unfolding FindsExp in_table
    exp_found None e = no_exp e
    exp_found (Some m) e = subst (λ (m : Option Span). ExpStands t d (in_table m text.from)) e exp_stands

-- `find_exp`
module _ (t d : List ℕ) where
  pub find_single : (k : ℕ) → k ≡ label_count d → k ≤ 1 → FindsExp t d None
  unfolding FindsExp
  find_single k l h p x e = omega (arith, l, exp_labels e)

  module _ (l : Option ℕ) (r : LookedUp) (s : SaysSelection d t l r) where
    other_selection : (x : Selected) → r.selected ≡ x → ((place text : Span) → x ≡ Selected.One place text → ⊥) → (p : ℕ) (y : List ℕ) → ExpAt t d p y → ⊥
    other_selection (Selected.Ends v) q h p y e =
        let g = exp_text e no_counts l in
        let i : settled (ends v) r.life ≡ settled (one e.text) g.0 = sym (lookup_ends no_counts d t _ r (s no_counts) v q) ∙ g.1 in
        let z : ◌≡◌ {A = ℕ} 0 1 = cc in omega arith
    other_selection (Selected.One place text) q h p y e = h place text refl
    other_selection Selected.Missing q h p y e =
        let g = exp_text e no_counts l in
        let i : wanting kind_txt d no_counts r.life ≡ settled (one e.text) g.0 = sym (lookup_missing no_counts d t _ r (s no_counts) q) ∙ g.1 in
        let z : ◌≡◌ {A = ℕ} 0 1 = cc in omega arith

    pub find_other : ((place text : Span) → r.selected ≡ Selected.One place text → ⊥) → FindsExp t d None
    unfolding FindsExp
    find_other h p x e = other_selection r.selected refl h p x e

    module _ (k : ℕ) (is : k ≡ label_count d) (h : 1 < k) (place text : Span) (q : r.selected ≡ Selected.One place text) (client : Address) (u : List ℕ) (f : u ≡ span_of t text)
        (y : Outcome Reading Refusal) (g : OpeningOf client u y) where
      selected : SettlesTo (table_in t) (record_lookup d no_counts) (one (span_of t text))
      selected = settles_to (table_in t) (record_lookup d no_counts) (one (span_of t text)) l r.life (lookup_one no_counts d t _ r (s no_counts) place text q).0

      pub find_refused : (x : Refusal) → y ≡ Err x → FindsExp t d None
      unfolding FindsExp answer_of
      find_refused x o p z e =
          let i : e.text ≡ span_of t text = one_text (table_in t) d (exp_text e no_counts) selected in
          let j : Err x ≡ Ok after_version = ap answer_of (sym o) ∙ g.answer ∙ ap read_record (f ∙ sym i) ∙ exp_reads e in
          let z : ◌≡◌ {A = ℕ} 0 1 = cc in
          omega arith

      module _ (m : Reading) (a : y ≡ Ok m) where
        pub find_read : (x : Option Span) → x ≡ in_table m.modifiers.exp text.from → FindsExp t d x
        find_read x e =
            subst (FindsExp t d) (sym e)
            (exp_found client t text u f y g m a d (subst (λ (j : ℕ). 1 < j) is h) selected (lookup_one no_counts d t _ r (s no_counts) place text q).1.stands m.modifiers.exp refl)

        pub find_fits : length t * 1 < 2 ^ 63 → FitsTable m.modifiers.exp text.from
        find_fits b = exp_fits client t text u f y g m a b
