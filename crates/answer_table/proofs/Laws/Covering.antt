-- The marks against the entries before a place: a pair with a clear mark isn't found there, and an entry more whose pair is marked leaves that so.
-- From the laws of marks, of entries and of finding.
use Rattle.std.proofs.Common.{is_some, Option, Some, None, Result, Ok}
use Prim.Native.Nat.{ℕ, ◌+◌, ◌<◌, ◌≤◌}
use native.Mathlib.Omega.{arith}
use mathlib.Core.Path.{◌≡◌, refl, sym, subst, ◌∙◌}
use mathlib.Core.List.{List, [], ◌∷◌, ◌++◌}
use mathlib.Core.Bool.{Bool, true, false}
use lib.Dec.{ltb}
use lib.ListN.{length, take, drop}
use lib.Seq.{take-add}
use borrow.Author.Tests.{lt-ltb, le-ltb}
use Rattle.text.proofs.Laws.Tests.{true_false, test_fails}
use Rattle.answer_table.specs.Layout.{Entry, EncodesIn, none, holds}
use Rattle.answer_table.specs.Marks.{is_pair_marked, NotesPair, noted, unmarked, Covered, CoveredAfter}
use Rattle.answer_table.specs.Reader.{find_in}
use Rattle.answer_table.specs.declared.Layout.{Layout}
use Rattle.answer_table.specs.declared.marks.Marks.{Marks}
use Rattle.answer_table.specs.declared.TableError.{TableError}
use Rattle.answer_table.proofs.Laws.Entries.{entries_snoc, holds_snoc, pair_is}
use Rattle.answer_table.proofs.Laws.Finding.{found_iff}
use Rattle.answer_table.proofs.Laws.Marks.{pair_kept}

pub covered_start : (lay : Layout) (t : List ℕ) (marks : Option Marks) → is_some marks ≡ ltb 512 (length t) → Covered lay t 0 marks
unfolding holds
covered_start lay t marks large = record { before = []; entries = none; large = large; marked = λ m q kind name h. absurd (true_false false h refl) }

-- marks that are made in a table of more than 512 bytes, and in no other
module _ (t : List ℕ) (marks : Option Marks) where
  pub marks_made : (m : Marks) → marks ≡ Some m → 512 < length t → is_some marks ≡ ltb 512 (length t)
  marks_made m e h = rw e (sym (lt-ltb 512 (length t) h))

  pub marks_unmade : marks ≡ None → length t ≤ 512 → is_some marks ≡ ltb 512 (length t)
  marks_unmade e h = rw e (sym (le-ltb 512 (length t) h))

module _ (lay : Layout) (t : List ℕ) (i : ℕ) (marks : Option Marks) (c : Covered lay t i marks) where
  covered_missing : (m : Marks) → marks ≡ Some m → (kind : ℕ) (name : List ℕ) → is_pair_marked m.words kind name ≡ false
      → is_some (find_in lay (take i t) kind name) ≡ false
  covered_missing m q kind name h =
      test_fails (is_some (find_in lay (take i t) kind name))
      (λ f. true_false (is_pair_marked m.words kind name) (c.marked m q kind name (sym (found_iff c.entries kind name) ∙ f)) h)

  -- a pair that is said to be new isn't found there
  pub covered_new : {kind : ℕ} {name : List ℕ} {new : Bool} {after : Option Marks} → NotesPair kind name marks new after → new ≡ true
      → is_some (find_in lay (take i t) kind name) ≡ false
  covered_new {kind} {name} n q = by n refl q
    where
      by : {before after : Option Marks} {new : Bool} → NotesPair kind name before new after → marks ≡ before → new ≡ true
          → is_some (find_in lay (take i t) kind name) ≡ false
      by (noted {before = m} p) e q = covered_missing m e kind name (p.unmarked q)
      by unmarked e q = absurd (true_false false q refl)

  -- with one entry more
  pub covered_next : (size : ℕ) (e : Entry) (new : Bool) (after : Option Marks) → EncodesIn lay (take size (drop i t)) e
      → NotesPair e.kind e.name marks new after → Covered lay t (i + size) after
  covered_next size e new after p n = record {
    before = c.before ++ (e ∷ []);
    entries = rw take-add (entries_snoc c.entries p);
    large = stays n refl;
    marked = by n refl;
  }
    where
      stays : {before after : Option Marks} {new : Bool} → NotesPair e.kind e.name before new after → marks ≡ before
          → is_some after ≡ ltb 512 (length t)
      stays (noted p) q = subst (λ (m : Option Marks). is_some m ≡ ltb 512 (length t)) q c.large
      stays unmarked q = subst (λ (m : Option Marks). is_some m ≡ ltb 512 (length t)) q c.large

      by : {before after : Option Marks} {new : Bool} → NotesPair e.kind e.name before new after → marks ≡ before → (m : Marks) → after ≡ Some m
          → (kind : ℕ) (name : List ℕ) → holds kind name (c.before ++ (e ∷ [])) ≡ true → is_pair_marked m.words kind name ≡ true
      by (noted {before = b} {after = a} p) q m r kind name h =
          let y : a ≡ m = cc in
          rw (← y) (holds_snoc kind name c.before e h
          (λ f. pair_kept b.words a.words p.keeps kind name (c.marked b q kind name f))
          (λ f. let z = pair_is kind name e f in rw (z.0, z.1) at p.marked))
      by unmarked q m r kind name h = let z : ◌≡◌ {A = ℕ} 0 1 = cc in absurd (omega arith)

-- at the place that a step leads to
pub covered_after : (lay : Layout) (t : List ℕ) (x : Result ℕ TableError) (marks : Option Marks) → CoveredAfter lay t x marks → (next : ℕ) → x ≡ Ok next
    → Covered lay t next marks
covered_after lay t x marks c next q = subst (λ (s : Result ℕ TableError). CoveredAfter lay t s marks) q c
