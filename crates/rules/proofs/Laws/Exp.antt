-- The exp argument of a domain's record in a table. The record is the text that record lookup selects; the domain has more than one label and is a name
-- as it is asked. A domain has at most one such argument, at one place past an entry's header, and entries after the table don't move it. Where the
-- reader finds one, there is one. From the laws of an item's place and of entries (`answer_table`), of the one reading of a record (`records`), of names
-- (`domain`) and of what a check selects (Produced).
use Rattle.std.proofs.Common.{None, Option, Ok}
use Prim.Native.Nat.{ℕ, ◌+◌, ◌-◌, ◌≤◌, ◌<◌}
use mathlib.Core.Path.{◌≡◌, refl, sym, ap, subst, ◌∙◌}
use mathlib.Core.List.{List, [], ◌∷◌, ◌++◌, map}
use mathlib.Core.Bool.{Bool, true, false, cond}
use native.Mathlib.Omega.{arith}
use lib.Dec.{eqb}
use lib.ListN.{length}
use borrow.Author.Tests.{eq-eqb, not-true}
use Rattle.text.specs.Bytes.{at, is_dot, is_upper, is_not_upper, lower, within}
use Rattle.text.specs.Lists.{all, split}
use Rattle.text.specs.Texts.{bytes}
use Rattle.text.proofs.Laws.Parts.{all_first, all_rest, all_between, at_last, Last, empty, snoc, last_of}
use Rattle.text.proofs.Laws.Splitting.{split_append}
use Rattle.text.proofs.Laws.Tests.{cond-elim, and_left, and_right, true_false}
use Rattle.text.proofs.Laws.Words.{true_same}
use Rattle.domain.specs.Names.{labels, is_label, most_name, is_name, is_table_name, label_count}
use Rattle.domain.specs.Normal.{name, lowered, normal}
use Rattle.domain.proofs.Laws.Lowering.{lowered_name, without_none}
use Rattle.answer_table.specs.Layout.{Entry, kind_txt, status_failed, Encodes, entry, Entries, is_pair}
use Rattle.answer_table.specs.Lookup.{Lookup, lookup}
use Rattle.answer_table.specs.Answers.{Encoded}
use Rattle.answer_table.specs.Standing.{ItemAt}
use Rattle.answer_table.proofs.Laws.Entries.{entries_complete, entries_cut}
use Rattle.answer_table.proofs.Laws.Standing.{item_stands, item_grown, picked, item_one}
use Rattle.records.specs.Readings.{Optional, present, Placed}
use Rattle.records.specs.Grammar.{count_of, Once, Record, spf1}
use Rattle.records.specs.Answers.{most_bytes}
use Rattle.records.specs.Reader.{read_record, has_version, after_version}
use Rattle.records.proofs.Laws.Versions.{has_version_lem}
use Rattle.records.proofs.Laws.Records.{record_complete, one_reading}
use Rattle.rules.specs.declared.Counts.{Counts}
use Rattle.rules.specs.Tree.{Reply, items, Answer, Table, settled, SettlesTo}
use Rattle.rules.specs.Tables.{reply_by, answer_of, table_of, table_in}
use Rattle.rules.specs.Evaluation.{terms_of, versioned, one, record_lookup, no_counts}
use Rattle.rules.specs.Reached.{Single, first, later, Selects, only}
use Rattle.rules.specs.Exp.{ExpIn, ExpAt, ExpOf, without, with_exp}
use Rattle.rules.proofs.Laws.Growth.{Within}
use Rattle.rules.proofs.Laws.Produced.{single_is, selects_is, accepted_reading}

-- the table that bytes encode has what their entries have
table_in_lem : {t : List ℕ} {es : List Entry} → Entries t es → table_in t ≡ table_of es
unfolding table_in table_of
table_in_lem p = ap table_of (entries_complete p)

-- a selected text has a version section, and its domain more than one label
selects_labels : {t : Table} {d s : List ℕ} → Selects t d s → 1 < label_count d
selects_labels (only h x v) = h

single_version : {ss : List (List ℕ)} {s : List ℕ} → Single ss s → has_version s ≡ true
single_version (first w n) = has_version_lem w.2
single_version (later n r) = single_version r

selects_version : {t : Table} {d s : List ℕ} → Selects t d s → has_version s ≡ true
selects_version (only h x v) = single_version v

module _ {t d : List ℕ} {p : ℕ} {x : List ℕ} (e : ExpAt t d p x) where
  -- a domain with an exp argument has more than one label
  pub exp_labels : 1 < label_count d
  exp_labels = selects_labels e.selected

  -- its record is what record lookup comes to
  pub exp_text : (c : Counts) → SettlesTo (table_in t) (record_lookup d c) (one e.text)
  exp_text c = rw (table_in_lem e.encoded.entries) ((selects_is (table_of e.entries) d e.text c exp_labels).0 e.selected)

-- the texts with a version section, as a test picks them
picked_versioned : (ss : List (List ℕ)) → picked has_version ss ≡ versioned ss
unfolding picked versioned
picked_versioned [] = refl
picked_versioned (s ∷ ss) = rw (picked_versioned ss)

-- the texts that an answer has are the items of its entry
reply_items : (status : ℕ) (ds ss : List (List ℕ)) → reply_by status ds ≡ items ss → ds ≡ ss
unfolding reply_by
reply_items status ds ss =
    cond-elim (λ (r : Reply). r ≡ items ss → ds ≡ ss) (eqb status status_failed)
    (λ _ q. let z : ◌≡◌ {A = ℕ} 0 1 = cc in absurd (omega arith)) (λ _ q. cc)

-- of the items of the entry of a domain that selects a text, that one alone has a version section
one_versioned : (es : List Entry) {d s : List ℕ} → Selects (table_of es) d s → (it : Entry) → lookup kind_txt d es ≡ Lookup.present it
    → length (picked has_version it.items) ≤ 1
unfolding table_of answer_of
one_versioned es {s = s} (only {ss = ss} h x v) it q =
    let r : Answer = record { reply = reply_by it.status it.items; lifetime = it.lifetime } in
    let o : Answer = record { reply = items ss; lifetime = x.0 } in
    let a : present r ≡ present o = rw q at x.1 in
    let b : reply_by it.status it.items ≡ items ss = ap (λ (y : Answer). y.reply) (let g : r ≡ o = cc in g) in
    let i = reply_items it.status it.items ss b in
    let k : picked has_version it.items ≡ s ∷ [] = ap (picked has_version) i ∙ picked_versioned ss ∙ (single_is ss s).1 v in
    omega (arith, ap length k)

-- a term of a name is counted
named_counted : (wanted : List ℕ) (us vs : List Placed) (u : Placed) → u.said.name ≡ wanted → 1 ≤ count_of wanted (us ++ (u ∷ vs))
unfolding count_of
named_counted wanted [] vs u n = rw (true_same u.said.name wanted n) (omega arith)
named_counted wanted (w ∷ us) vs u n = omega (arith, named_counted wanted us vs u n)

-- where a name stands at most once, two terms of that name are the same
named_one : (wanted : List ℕ) (us us' vs vs' : List Placed) (u u' : Placed) → us ++ (u ∷ vs) ≡ us' ++ (u' ∷ vs') → u.said.name ≡ wanted
    → u'.said.name ≡ wanted → count_of wanted (us ++ (u ∷ vs)) ≤ 1 → u ≡ u'
unfolding count_of
named_one wanted [] [] vs vs' u u' e n n' l = cc
named_one wanted [] (w ∷ us') vs vs' u u' e n n' l =
    let q : vs ≡ us' ++ (u' ∷ vs') = cc in
    let k = named_counted wanted us' vs' u' n' in
    absurd (omega (arith, rw (true_same u.said.name wanted n) at l, ap (count_of wanted) q))
named_one wanted (w ∷ us) [] vs vs' u u' e n n' l =
    let q : w ≡ u' = cc in
    let k = named_counted wanted us vs u n in
    absurd (omega (arith, rw (true_same w.said.name wanted (ap (λ (y : Placed). y.said.name) q ∙ n')) at l))
named_one wanted (w ∷ us) (w' ∷ us') vs vs' u u' e n n' l =
    let q : us ++ (u ∷ vs) ≡ us' ++ (u' ∷ vs') = cc in
    named_one wanted us us' vs vs' u u' q n n' (omega arith)

-- "each stands at most once"
record_once : {s : List ℕ} {ts : List Placed} → Record s ts → Once ts
record_once (spf1 l t o) = o

-- a record has at most one exp, with one argument at one place
exp_in_one : {s : List ℕ} {p p' : ℕ} {x x' : List ℕ} → length s ≤ most_bytes → ExpIn s p x → ExpIn s p' x' → (p ≡ p') × (x ≡ x')
exp_in_one {x = x} {x' = x'} h a b =
    let e = one_reading h a.reading b.reading in
    let o = (record_once a.reading).explanations in
    let q = named_one (bytes "exp") a.before b.before a.after b.after a.term b.term e a.named b.named o in
    let i : present x ≡ present x' = sym a.argument ∙ ap (λ (y : Placed). y.said.argument) q ∙ b.argument in
    (omega (arith, a.place, b.place, ap (λ (y : Placed). y.place) q), cc)

module _ {t d : List ℕ} {p p' : ℕ} {x x' : List ℕ} (e : ExpAt t d p x) (f : ExpAt t d p' x') where
  -- the text is the one that is selected, and of those with a version section it stands alone
  same_text : e.text ≡ f.text
  same_text = let a = exp_text e no_counts None in let b = exp_text f no_counts None in let q : settled (one e.text) a.0 ≡ settled (one f.text) b.0 = sym a.1 ∙ b.1 in cc

  same_place : e.text_place ≡ f.text_place
  same_place =
      item_one e.encoded.entries e.encoded.once has_version e.stands f.stands
      (selects_version e.selected) (selects_version f.selected) (one_versioned e.entries e.selected)

  -- a domain has at most one exp argument in a table, at one place
  pub exp_one : (p ≡ p') × (x ≡ x')
  exp_one =
      let o = exp_in_one f.short (subst (λ (s : List ℕ). ExpIn s e.exp_place x) same_text e.exp) f.exp in
      (omega (arith, same_place, o.0, e.place, f.place), o.1)

-- the place and length of the domain's exp argument, or 0 for both, are one each
pub exp_of_one : {t d : List ℕ} {o : Optional (List ℕ)} {p p' n n' : ℕ} → ExpOf t d o p n → ExpOf t d o p' n' → (p ≡ p') × (n ≡ n')
exp_of_one without without = (refl, refl)
exp_of_one (with_exp e) (with_exp f) = ((exp_one e f).0, refl)

-- it stands past the header of an entry, so its place is never 0
pub exp_beyond : {t d : List ℕ} {p : ℕ} {x : List ℕ} → ExpAt t d p x → 6 ≤ p
exp_beyond e = omega (arith, (item_stands e.stands).0, e.place)

-- where the reader finds an exp in the selected record, its argument stands in the table, as far into the record as it is found
pub exp_made : {t d s : List ℕ} {es : List Entry} → Encoded t es → 1 < label_count d → SettlesTo (table_in t) (record_lookup d no_counts) (one s)
    → (q : ℕ) → ItemAt t kind_txt d s q → (n : ℕ) → read_record s ≡ Ok n
    → (us vs : List Placed) (u : Placed) {x : List ℕ} → terms_of s after_version ≡ us ++ (u ∷ vs)
    → u.said.name ≡ bytes "exp" → u.said.argument ≡ present x → ExpAt t d (q + (u.place + length (bytes "exp="))) x
unfolding terms_of
exp_made {d = d} {s = s} {es = es} c h r q i n a us vs u e m g =
    let w = accepted_reading s n a in
    let k : n ≡ after_version = let b = (record_complete w.1 w.0).accepted in cc in
    let v : terms_of s n ≡ us ++ (u ∷ vs) = ap (terms_of s) k ∙ e in
    record {
      entries = es;
      text = s;
      text_place = q;
      exp_place = u.place + length (bytes "exp=");
      encoded = c;
      selected = (selects_is (table_of es) d s no_counts h).1 (rw (← table_in_lem c.entries) r);
      short = w.0;
      stands = i;
      exp = record { before = us; term = u; after = vs; reading = subst (Record s) v w.1; named = m; argument = g; place = refl };
      place = refl;
    }

-- the name of an entry is a name as the table has it
entry_name : {w : List ℕ} {e : Entry} → Encodes w e → is_table_name e.name ≡ true
entry_name (entry l k life kd st nm is hold) = nm

-- without A to Z, lowering changes nothing
lower_same : (b : ℕ) → is_not_upper b ≡ true → lower b ≡ b
unfolding lower is_not_upper
lower_same b h = rw (not-true (is_upper b) h)

lowered_same : (s : List ℕ) → all is_not_upper s ≡ true → map lower s ≡ s
lowered_same [] h = refl
lowered_same (b ∷ s) h = rw (lower_same b (all_first is_not_upper b s h), lowered_same s (all_rest is_not_upper b s h))

-- the last byte of a name is no dot: the label after it would be empty
name_no_dot : (s : List ℕ) → is_name s ≡ true → at s (length s - 1) ≡ 46 → ⊥
unfolding is_name labels split is_label within
name_no_dot s h e = by (last_of s) h e
  where
    by : {l : List ℕ} → Last l → is_name l ≡ true → at l (length l - 1) ≡ 46 → ⊥
    by empty h e = omega arith
    by (snoc w z) h e =
        let i : is_dot z ≡ true = eq-eqb z 46 (sym (at_last w z) ∙ e) in
        let a = and_right (within 1 most_name (length (w ++ (z ∷ [])))) (all is_label (labels (w ++ (z ∷ [])))) h in
        true_false false (all_between is_label (labels w) [] [] (rw (split_append is_dot w z [] i) at a)) refl

-- a name in the table is as it is asked
pub table_normal : (d : List ℕ) → is_table_name d ≡ true → normal d ≡ name d
unfolding is_table_name normal
table_normal d h =
    let n = and_left (is_name d) (all is_not_upper d) h in
    ap lowered (sym (without_none d (name_no_dot d n))) ∙ lowered_name d true (sym n) refl
    ∙ ap name (lowered_same d (and_right (is_name d) (all is_not_upper d) h))

-- what entries have for a question, they have with more entries after them, so that the same text is selected
table_front : (es fs : List Entry) → Within (table_of es) (table_of (es ++ fs))
unfolding table_of lookup answer_of
table_front [] fs k n r q = let z : ◌≡◌ {A = ℕ} 0 1 = cc in absurd (omega arith)
table_front (e ∷ es) fs k n r q = by (is_pair k n e) (table_front es fs k n r) q
  where
    by : (b : Bool) → (answer_of (lookup k n es) ≡ present r → answer_of (lookup k n (es ++ fs)) ≡ present r)
        → answer_of (cond b (Lookup.present e) (lookup k n es)) ≡ present r → answer_of (cond b (Lookup.present e) (lookup k n (es ++ fs))) ≡ present r
    by true ih q = q
    by false ih q = ih q

selects_within : {t u : Table} {d s : List ℕ} → Within t u → Selects t d s → Selects u d s
selects_within {d = d} w (only {ss = ss} h x v) = only h (x.0, w kind_txt d _ x.1) v

module _ {t d : List ℕ} {p : ℕ} {x : List ℕ} (e : ExpAt t d p x) where
  -- its domain is a name as it is asked: nothing of it is lowered or dropped
  pub exp_named : normal d ≡ name d
  exp_named = table_normal d (entry_name e.stands.entry)

  -- its record is accepted
  pub exp_reads : read_record e.text ≡ Ok after_version
  exp_reads = (record_complete e.exp.reading e.short).accepted

  -- entries after the table leave it where it is
  pub exp_grown : (w : List ℕ) {fs : List Entry} → Encoded (t ++ w) fs → ExpAt (t ++ w) d p x
  exp_grown w {fs} c =
      let g = entries_cut e.encoded.entries c.entries w refl in
      record {
        entries = fs;
        text = e.text;
        text_place = e.text_place;
        exp_place = e.exp_place;
        encoded = c;
        selected = rw g.1 (selects_within (table_front e.entries g.0) e.selected);
        short = e.short;
        stands = item_grown e.stands w;
        exp = e.exp;
        place = e.place;
      }
