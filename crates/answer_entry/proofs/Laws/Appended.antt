-- What an append comes to: one outcome and one buffer (appends_one), and a refusal keeps the buffer (refused_kept); the entries of the new table are the
-- old ones and the given one, and all other bytes are kept (appended_entries); what a lookup finds there (appended_found, appended_others). From the
-- productions of Appending, the laws of Fitting and those of `answer_table`.
use Rattle.std.proofs.Common.{is_some}
use Prim.Native.Nat.{ℕ, suc, ◌≤◌}
use mathlib.Core.Path.{◌≡◌, refl, sym, ap, ◌∙◌}
use mathlib.Core.List.{List, [], ◌∷◌, ◌++◌, append_assoc}
use mathlib.Core.Bool.{true, false, cond}
use lib.ListN.{length, take, drop}
use lib.Seq.{take-append_seam, drop-append_seam, take_at, length-take-le}
use lib.Dec.{ltb, eqb}
use borrow.Author.Tests.{lt-ltb, le-ltb, eq-eqb}
use Rattle.text.specs.Lists.{same}
use Rattle.text.proofs.Laws.Tests.{and_both, or_false_left, or_false_right, test_fails}
use Rattle.text.proofs.Laws.Words.{true_same}
use Rattle.answer_table.specs.Layout.{Entry, Items, Entries, is_pair, holds}
use Rattle.answer_table.specs.Numbers.{Place, nowhere, Report, accepted, refused as table-refused, reported}
use Rattle.answer_table.specs.Answers.{Encoded, TableAnswers}
use Rattle.answer_table.specs.Lookup.{present, lookup}
use Rattle.answer_table.specs.Reader.{find_at, check_table}
use Rattle.answer_table.proofs.Laws.Encoding.{entry_items}
use Rattle.answer_table.proofs.Laws.Entries.{distinct_before, pair_is}
use Rattle.answer_table.proofs.Laws.Finding.{found_iff}
use Rattle.answer_table.proofs.Laws.Checks.{table_answers_is}
use Rattle.answer_entry.specs.Encoding.{entry_bytes}
use Rattle.answer_entry.specs.Appending.{Outcome, appended, refused, extended, HasTable, Appends, beyond, no_table, in_table, unfit, added}
use Rattle.answer_entry.specs.Fitting.{new_size, is_fit}
use Rattle.answer_entry.proofs.Laws.Fitting.{has_table_accepted, given, new_length, fit_extends, extends_entry, extends_fit, extends_encoded, extends_new}

-- the productions determine the answer: it is what these tests come to
module _ (kind status lifetime : ℕ) (name items buffer : List ℕ) (size : ℕ) where
  abbrev new : List ℕ
  new = extended (take size buffer) kind status lifetime name items

  abbrev after_check : Report → Outcome
  after_check (table-refused n p) = refused n p
  after_check (accepted n) =
      cond (is_some (find_at (take size buffer) kind name)) (refused 64 nowhere)
      (cond (is_fit kind status name items size n (length buffer)) (appended (new_size size name items)) (refused 65 nowhere))

  abbrev tested : Outcome
  tested = cond (ltb (length buffer) size) (refused 24 nowhere) (after_check (reported (check_table (take size buffer))))

  abbrev buffer_after : Outcome → List ℕ
  buffer_after (appended n) = new ++ drop n buffer
  buffer_after (refused n p) = buffer

  tested_table : {a : Report} → size ≤ length buffer → TableAnswers (take size buffer) a → after_check a ≡ tested
  tested_table h t = simp (le-ltb (length buffer) size h, sym (table_answers_is t))

  tested_has_table : {es : List Entry} → HasTable buffer size es
      → cond (holds kind name es) (refused 64 nowhere)
      (cond (is_fit kind status name items size (length es) (length buffer)) (appended (new_size size name items)) (refused 65 nowhere)) ≡ tested
  tested_has_table b = rw (← (found_iff b.encoded.entries kind name)) (tested_table b.inside (has_table_accepted b))

  appends_tested : {o : Outcome} {a : List ℕ} → Appends kind status lifetime name items buffer size o a → (o ≡ tested) × (a ≡ buffer_after o)
  appends_tested (beyond h) = (simp (lt-ltb (length buffer) size h), refl)
  appends_tested (no_table h t) = (tested_table h t, refl)
  appends_tested (in_table b h) = (rw h at (tested_has_table b), refl)
  appends_tested (unfit {es = es} b h u) =
      let f = test_fails (is_fit kind status name items size (length es) (length buffer))
      (λ y. u (suc (length es)) (fit_extends kind status lifetime name items b h y)) in
      (rw (h, f) at (tested_has_table b), refl)
  appends_tested (added {es = es} b x) =
      let h = extends_new kind status lifetime name items b (suc (length es)) x in
      let f = extends_fit kind status lifetime name items b (suc (length es)) x in
      (rw (new_length kind status lifetime name items b) (rw (h, f) at (tested_has_table b)), refl)

  pub appends_one : {o o' : Outcome} {a a' : List ℕ} → Appends kind status lifetime name items buffer size o a
      → Appends kind status lifetime name items buffer size o' a' → (o ≡ o') × (a ≡ a')
  appends_one p q =
      let x = appends_tested p in
      let y = appends_tested q in
      let e = x.0 ∙ sym y.0 in
      (e, x.1 ∙ ap buffer_after e ∙ sym y.1)

  -- a refusal keeps the buffer
  pub refused_kept : {k : ℕ} {p : Place} {a : List ℕ} → Appends kind status lifetime name items buffer size (refused k p) a → a ≡ buffer
  refused_kept x = (appends_tested x).1

-- the buffer after an append: an accepted table of n bytes, whose entries are the old ones and one more; all other bytes are as before
pub record Appended (kind status lifetime : ℕ) (name items buffer : List ℕ) (size n : ℕ) (after : List ℕ) : Type 0 where
  pub before : List Entry
  pub old : Entries (take size buffer) before
  pub it : Entry
  pub its_kind : it.kind ≡ kind
  pub its_status : it.status ≡ status
  pub its_lifetime : it.lifetime ≡ lifetime
  pub its_name : it.name ≡ name
  pub its_items : Items kind items it.items
  pub table : Encoded (take n after) (before ++ (it ∷ []))
  pub accepts : TableAnswers (take n after) (accepted (suc (length before)))
  pub room : n ≤ length buffer
  pub front_kept : take size after ≡ take size buffer
  pub rest_kept : drop n after ≡ drop n buffer

pub appended_entries : {kind status lifetime : ℕ} {name items buffer : List ℕ} {size n : ℕ} {after : List ℕ}
    → Appends kind status lifetime name items buffer size (appended n) after → Appended kind status lifetime name items buffer size n after
appended_entries {kind} {status} {lifetime} {name} {items} {buffer} {size} (added {es = es} b x) =
    let w = entry_bytes kind status lifetime name items in
    let t = take size buffer ++ w in
    let r = drop (length t) buffer in
    let e : take (length t) (t ++ r) ≡ t = take-append_seam t r in
    record {
      before = es;
      old = b.encoded.entries;
      it = given kind status lifetime name items;
      its_kind = refl;
      its_status = refl;
      its_lifetime = refl;
      its_name = refl;
      its_items = (entry_items kind status name items (extends_entry kind status lifetime name items b (suc (length es)) x)).held;
      table = rw e (extends_encoded kind status lifetime name items b (suc (length es)) x);
      accepts = rw e x.accepts;
      room = x.room;
      front_kept = ap (take size) (append_assoc (take size buffer) w r) ∙ take_at (take size buffer) (w ++ r) size (length-take-le size buffer b.inside);
      rest_kept = drop-append_seam t r;
    }

-- looking up in entries and one more
module _ (kind : ℕ) (name : List ℕ) (e : Entry) where
  lookup_last : (es : List Entry) → holds kind name es ≡ false → is_pair kind name e ≡ true → lookup kind name (es ++ (e ∷ [])) ≡ present e
  unfolding lookup holds
  lookup_last [] h p = simp p
  lookup_last (d ∷ es) h p =
      simp (or_false_left (is_pair kind name d) (holds kind name es) h) (lookup_last es (or_false_right (is_pair kind name d) (holds kind name es) h) p)

  lookup_before : (es : List Entry) → is_pair kind name e ≡ false → lookup kind name (es ++ (e ∷ [])) ≡ lookup kind name es
  unfolding lookup
  lookup_before [] p = simp p
  lookup_before (d ∷ es) p = ap (cond (is_pair kind name d) (present d)) (lookup_before es p)

module _ {kind status lifetime : ℕ} {name items buffer : List ℕ} {size n : ℕ} {after : List ℕ}
    (a : Appended kind status lifetime name items buffer size n after) where
  -- the question of the entry is answered by it
  pub appended_found : lookup kind name (a.before ++ (a.it ∷ [])) ≡ present a.it
  unfolding is_pair
  appended_found =
      let h : holds kind name a.before ≡ false = rw (a.its_kind, a.its_name) at (distinct_before a.before a.it [] a.table.once) in
      lookup_last kind name a.it a.before h
      (and_both (eqb a.it.kind kind) (same a.it.name name) (eq-eqb a.it.kind kind a.its_kind) (true_same a.it.name name a.its_name))

  -- and every other question as before
  pub appended_others : (k : ℕ) (m : List ℕ) → ((k ≡ kind) × (m ≡ name) → ⊥) → lookup k m (a.before ++ (a.it ∷ [])) ≡ lookup k m a.before
  appended_others k m o =
      lookup_before k m a.it a.before
      (test_fails (is_pair k m a.it) (λ p. let q = pair_is k m a.it p in o (sym q.0 ∙ a.its_kind, sym q.1 ∙ a.its_name)))
