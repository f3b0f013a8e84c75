-- The tests of the code against the check of the new table: an entry that passes them extends the table, and no other does. From the laws of
-- `answer_table` on entries and on the check.
use Prim.Native.Nat.{ℕ, suc, ◌≤◌}
use mathlib.Core.Path.{◌≡◌, refl, sym, subst, ◌∙◌}
use mathlib.Core.List.{List, [], ◌∷◌, ◌++◌}
use mathlib.Core.Bool.{true, false}
use mathlib.Core.Logic.{◌⊎◌, inl, inr}
use native.Mathlib.Omega.{arith}
use lib.ListN.{length, take, length-append}
use lib.Seq.{length-take-le}
use lib.Dec.{leb, ltb}
use borrow.Author.Tests.{leb-true, ltb-true, ltb-false, le-leb}
use Rattle.text.proofs.Laws.Tests.{and_left, and_right, and_both, or_elim, true_false, test_holds}
use Rattle.domain.specs.Names.{is_table_name}
use Rattle.answer_table.specs.Layout.{Entry, Encodes, entry, Entries, none, more, is_kind, is_status, is_pair, holds}
use Rattle.answer_table.specs.Numbers.{accepted, refused, byte}
use Rattle.answer_table.specs.Answers.{most_bytes, most_entries, EncodedIn, Encoded, NoEntry, TableAnswersIn, TableAnswers, malformed, whole}
use Rattle.answer_table.specs.Reader.{items_of, is_entry}
use Rattle.answer_table.specs.declared.Layout.{Layout}
use Rattle.answer_table.proofs.Laws.Encoding.{entry_encoded, entry_none}
use Rattle.answer_table.proofs.Laws.Entries.{entries_one, entries_snoc, distinct_snoc, distinct_before, pair_is}
use Rattle.answer_table.proofs.Laws.Checks.{table_answers_is}
use Rattle.answer_entry.specs.Encoding.{entry_bytes}
use Rattle.answer_entry.specs.Appending.{extended, HasTable, Extends}
use Rattle.answer_entry.specs.Fitting.{new_size, is_fit}
use Rattle.answer_entry.proofs.Laws.Encoding.{two_bytes_lem, four_bytes_lem, length_entry}

-- an accepted table, of either layout
pub accepted_encoded : {lay : Layout} {t : List ℕ} {n : ℕ} → TableAnswersIn lay t (accepted n)
    → (es : List Entry) × EncodedIn lay t es × (length es ≡ n) × (length t ≤ most_bytes)
accepted_encoded (whole {es = es} short p) = (es, p, refl, short)

-- and one at the front of a buffer
pub has_table : {buffer : List ℕ} {size count : ℕ} → size ≤ length buffer → TableAnswers (take size buffer) (accepted count)
    → (es : List Entry) × HasTable buffer size es × (length es ≡ count)
has_table {buffer} {size} h t =
    let a = accepted_encoded t in
    (a.0, record { inside = h; short = omega (arith, a.3, length-take-le size buffer h); encoded = a.1 }, a.2)

pub has_table_accepted : {buffer : List ℕ} {size : ℕ} {es : List Entry} → HasTable buffer size es → TableAnswers (take size buffer) (accepted (length es))
has_table_accepted {buffer} {size} b = whole (omega (arith, b.short, length-take-le size buffer b.inside)) b.encoded

-- a pair of the table has a name as the table allows it
pub held_name : {t : List ℕ} {es : List Entry} → Entries t es → (kind : ℕ) (name : List ℕ) → holds kind name es ≡ true → is_table_name name ≡ true
unfolding holds
held_name none kind name h = absurd (true_false false h refl)
held_name (more {e = e} {es = es} p r) kind name h =
    or_elim (is_pair kind name e) (holds kind name es) h
    (λ q. subst (λ (n : List ℕ). is_table_name n ≡ true) (pair_is kind name e q).1 (named p))
    (λ q. held_name r kind name q)
  where
    named : {w : List ℕ} {e : Entry} → Encodes w e → is_table_name e.name ≡ true
    named (entry tl tk tf hk hs hn it may) = hn

module _ (kind status lifetime : ℕ) (name items : List ℕ) where
  -- the entry that is added
  abbrev pub given : Entry
  given = record { kind = kind; status = status; lifetime = lifetime; name = name; items = items_of items }

  pub given_encoded : is_entry kind status name items ≡ true → Encodes (entry_bytes kind status lifetime name items) given
  unfolding entry_bytes
  given_encoded h = entry_encoded status name items (two_bytes_lem _) (two_bytes_lem kind) (four_bytes_lem lifetime) h

  pub entry_named : is_entry kind status name items ≡ true → is_table_name name ≡ true
  unfolding is_entry
  entry_named h = and_left (is_table_name name) _ (and_right (is_status status) _ (and_right (is_kind kind) _ h))

  given_none : is_entry kind status name items ≡ false → NoEntry (entry_bytes kind status lifetime name items)
  unfolding entry_bytes
  given_none h = entry_none status name items (two_bytes_lem _) (two_bytes_lem kind) (four_bytes_lem lifetime) h

  module _ {buffer : List ℕ} {size : ℕ} {es : List Entry} (b : HasTable buffer size es) where
    pub new_length : length (extended (take size buffer) kind status lifetime name items) ≡ new_size size name items
    new_length =
        length-append (take size buffer) (entry_bytes kind status lifetime name items)
        ∙ omega (arith, length-take-le size buffer b.inside, length_entry kind status lifetime name items)

    -- an entry that passes the tests extends the table
    pub fit_extends : holds kind name es ≡ false → is_fit kind status name items size (length es) (length buffer) ≡ true
        → Extends buffer size kind status lifetime name items (suc (length es))
    unfolding is_fit
    fit_extends h f =
        let n = new_size size name items in
        let f₁ = and_right (leb n most_bytes) _ f in
        let f₂ = and_right (leb n (length buffer)) _ f₁ in
        let short = leb-true n most_bytes (and_left (leb n most_bytes) _ f) in
        let room = leb-true n (length buffer) (and_left (leb n (length buffer)) _ f₁) in
        let few = ltb-true (length es) most_entries (and_left (ltb (length es) most_entries) _ f₂) in
        let l : length (es ++ (given ∷ [])) ≡ suc (length es) = length-append es (given ∷ []) ∙ omega arith in
        record {
          accepts =
              subst (λ (k : ℕ). TableAnswers (extended (take size buffer) kind status lifetime name items) (accepted k)) l
              (whole (omega (arith, new_length, short)) (record {
                entries = entries_snoc b.encoded.entries (given_encoded (and_right (ltb (length es) most_entries) _ f₂));
                few = omega (arith, few, l);
                once = distinct_snoc es given b.encoded.once h;
              }));
          room = omega (arith, new_length, room);
        }

    -- and no other does
    module _ (n : ℕ) (x : Extends buffer size kind status lifetime name items n) where
      never : (length es ≡ most_entries) ⊎ NoEntry (entry_bytes kind status lifetime name items) → ⊥
      never o =
          let t = extended (take size buffer) kind status lifetime name items in
          let r : TableAnswers t (refused 25 (byte (length (take size buffer)))) =
          malformed (take size buffer) (entry_bytes kind status lifetime name items) (accepted_encoded x.accepts).3 refl b.encoded
          (omega (arith, length_entry kind status lifetime name items)) o in
          let e = table_answers_is r ∙ sym (table_answers_is x.accepts) in
          let z : ◌≡◌ {A = ℕ} 0 1 = cc in
          omega arith

      pub extends_entry : is_entry kind status name items ≡ true
      extends_entry = test_holds (is_entry kind status name items) (λ f. never (inr (given_none f)))

      pub extends_fit : is_fit kind status name items size (length es) (length buffer) ≡ true
      unfolding is_fit
      extends_fit =
          let m = new_size size name items in
          let few = test_holds (ltb (length es) most_entries) (λ f. never (inl (omega (arith, ltb-false (length es) most_entries f, b.encoded.few)))) in
          and_both (leb m most_bytes) _ (le-leb m most_bytes (omega (arith, new_length, (accepted_encoded x.accepts).3)))
          (and_both (leb m (length buffer)) _ (le-leb m (length buffer) (omega (arith, new_length, x.room)))
          (and_both (ltb (length es) most_entries) _ few extends_entry))

      -- the entries of the new table
      pub extends_encoded : Encoded (extended (take size buffer) kind status lifetime name items) (es ++ (given ∷ []))
      extends_encoded =
          let a = accepted_encoded x.accepts in
          let t = extended (take size buffer) kind status lifetime name items in
          subst (λ (fs : List Entry). Encoded t fs) (entries_one a.1.entries (entries_snoc b.encoded.entries (given_encoded extends_entry))) a.1

      pub extends_new : holds kind name es ≡ false
      extends_new = distinct_before es given [] extends_encoded.once
