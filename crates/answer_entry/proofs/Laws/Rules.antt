-- One rule for each way out of the functions of src/lib.rt: its premises are what the code knows there. From the laws of Fitting and of
-- `answer_table` on finding.
use Rattle.std.proofs.Common.{Option, is_some, Result, Ok, Err}
use Prim.Native.Nat.{ℕ, ◌+◌, ◌≤◌, ◌<◌, ◌^◌}
use mathlib.Core.Path.{◌≡◌, sym, ap, subst, ◌∙◌}
use mathlib.Core.List.{List, ◌++◌, map}
use mathlib.Core.Bool.{Bool, true, false}
use native.Mathlib.Omega.{arith}
use lib.ListN.{length, take, drop, length-map}
use lib.Seq.{sets, sets-eq}
use lib.Dec.{leb}
use borrow.Author.Tests.{leb-true, le-leb, lt-leb, le-ltb, lt-ltb}
use Rattle.text.specs.Bytes.{lower}
use Rattle.text.specs.Writing.{Wrote}
use Rattle.text.proofs.Laws.Writing.{value_inside, value_taken}
use Rattle.text.proofs.Laws.Tests.{and_left, true_false, test_fails}
use Rattle.domain.specs.Names.{most_name, is_table_name}
use Rattle.domain.proofs.Laws.TableNames.{table_long}
use Rattle.answer_table.specs.Layout.{Entry, holds, header_size}
use Rattle.answer_table.specs.Numbers.{nowhere, reported}
use Rattle.answer_table.specs.Answers.{most_bytes, most_entries, TableAnswers}
use Rattle.answer_table.specs.Reader.{is_entry, find_at}
use Rattle.answer_table.specs.declared.Found.{Found}
use Rattle.answer_table.specs.declared.Layout.TheVariants.{New}
use Rattle.answer_table.specs.declared.TableError.{TableError}
use Rattle.answer_table.specs.declared.TableError.TheVariants.{TooLong, Malformed, Repeated}
use Rattle.answer_entry.specs.declared.AppendError.{AppendError}
use Rattle.answer_entry.specs.declared.AppendError.TheVariants.{Table}
use Rattle.answer_entry.specs.Numbers.{outcome_of}
use Rattle.answer_table.proofs.Laws.Finding.{found_iff}
use Rattle.answer_entry.specs.Encoding.{entry_bytes, written_bytes}
use Rattle.answer_entry.specs.Appending.{Outcome, appended, refused, extended, HasTable, Appends, no_table, in_table, unfit, added}
use Rattle.answer_entry.specs.Fitting.{Checked, new_size, is_fit}
use Rattle.answer_entry.proofs.Laws.Encoding.{length_entry, written_is}
use Rattle.answer_entry.proofs.Laws.Fitting.{has_table, held_name, new_length, fit_extends, entry_named, extends_entry, extends_fit}

-- `is_fit`
module _ (kind status : ℕ) (name items : List ℕ) (size count room head : ℕ) (e : head ≡ header_size New) where
  pub fit_long : most_bytes < size + head + length name + length items → false ≡ is_fit kind status name items size count room
  unfolding is_fit
  fit_long h = simp (lt-leb (new_size size name items) most_bytes (omega arith))

  module _ (short : size + head + length name + length items ≤ most_bytes) where
    pub fit_room : room < size + head + length name + length items → false ≡ is_fit kind status name items size count room
    unfolding is_fit
    fit_room h = simp (le-leb (new_size size name items) most_bytes (omega arith), lt-leb (new_size size name items) room (omega arith))

    module _ (inside : size + head + length name + length items ≤ room) where
      pub fit_full : most_entries ≤ count → false ≡ is_fit kind status name items size count room
      unfolding is_fit
      fit_full h =
          simp (le-leb (new_size size name items) most_bytes (omega arith), le-leb (new_size size name items) room (omega arith), le-ltb count most_entries h)

      pub fit_entry : count < most_entries → (r : Bool) → r ≡ is_entry kind status name items → r ≡ is_fit kind status name items size count room
      unfolding is_fit
      fit_entry h r f =
          f
          ∙ simp (le-leb (new_size size name items) most_bytes (omega arith), le-leb (new_size size name items) room (omega arith), lt-ltb count most_entries h)

-- `append_lowered`
module _ (kind status lifetime : ℕ) (name items buffer : List ℕ) (size count : ℕ) (c : Checked buffer size count) where
  pub checked_short : size ≤ most_bytes
  checked_short = (has_table c.inside c.accepts).1.short

  module _ (x : Option Found) (e : x ≡ find_at (take size buffer) kind name) (r : Bool) (u : r ≡ is_some x) where
    held : {es : List Entry} → HasTable buffer size es → holds kind name es ≡ r
    held b = sym (found_iff b.encoded.entries kind name) ∙ ap is_some (sym e) ∙ sym u

    pub lowered_found : r ≡ true → Appends kind status lifetime name items buffer size (refused 64 nowhere) buffer
    lowered_found q =
        let b = has_table c.inside c.accepts in
        in_table b.1 (held b.1 ∙ q)

    module _ (q : r ≡ false) (t : Bool) (f : t ≡ is_fit kind status name items size count (length buffer)) where
      pub lowered_unfit : t ≡ false → Appends kind status lifetime name items buffer size (refused 65 nowhere) buffer
      lowered_unfit n =
          let b = has_table c.inside c.accepts in
          let g : is_fit kind status name items size (length b.0) (length buffer) ≡ false = rw b.2 (sym f ∙ n) in
          unfit b.1 (held b.1 ∙ q) (λ k y. true_false _ (extends_fit kind status lifetime name items b.1 k y) g)

      pub lowered_added : t ≡ true → kind < 2 ^ 16 → length name ≤ most_name → (after : List ℕ) (end : ℕ)
          → Wrote (written_bytes kind status lifetime name items) buffer size after end → (last : List ℕ) → last ≡ after
          → Appends kind status lifetime name items buffer size (appended end) last
      unfolding is_fit
      lowered_added y k l after end w last z =
          let b = has_table c.inside c.accepts in
          let new = extended (take size buffer) kind status lifetime name items in
          let g : is_fit kind status name items size (length b.0) (length buffer) ≡ true = rw b.2 (sym f ∙ y) in
          let short = leb-true (new_size size name items) most_bytes (and_left (leb (new_size size name items) most_bytes) _ g) in
          let x = fit_extends kind status lifetime name items b.1 (held b.1 ∙ q) g in
          let m = new_length kind status lifetime name items b.1 in
          let n = length_entry kind status lifetime name items in
          let o : written_bytes kind status lifetime name items ≡ entry_bytes kind status lifetime name items =
          written_is kind status lifetime name items (omega arith) (omega arith) (omega arith) in
          let p : end ≡ length new = omega (arith, w.next_place, w.room, ap length o, x.room) in
          let r : size + length (entry_bytes kind status lifetime name items) ≡ length new = omega arith in
          let d : last ≡ new ++ drop (length new) buffer =
          z ∙ w.text ∙ ap (sets buffer size) o ∙ sets-eq (entry_bytes kind status lifetime name items) buffer size (omega (arith, x.room))
          ∙ ap (λ (j : ℕ). new ++ drop j buffer) r in
          subst (λ (u : List ℕ). Appends kind status lifetime name items buffer size (appended end) u) (sym d)
          (subst (λ (j : ℕ). Appends kind status lifetime name items buffer size (appended j) (new ++ drop (length new) buffer)) (sym p) (added b.1 x))

-- `append_checked`
module _ (name : List ℕ) (h : length name ≤ most_name) (z : List ℕ) (s : length z ≡ most_name) (at : ℕ) (p : at ≡ 0)
    (v : List ℕ) (n : ℕ) (w : Wrote (map lower name) z at v n) (u : List ℕ) (e : u ≡ v) where
  room : length (map lower name) ≤ length z
  room = omega (arith, length-map name lower)

  pub lowered_inside : n ≤ length u
  lowered_inside = rw e (value_inside (map lower name) z v n (rw p at w) room)

  lowered_is : take n u ≡ map lower name
  lowered_is = rw e (value_taken (map lower name) z v n (rw p at w) room)

  pub lowered_length : length (take n u) ≤ most_name
  lowered_length = omega (arith, ap length lowered_is, length-map name lower)

  pub lowered_through : (kind status lifetime : ℕ) (items buffer : List ℕ) (size : ℕ) (o : Outcome) (after : List ℕ)
      → Appends kind status lifetime (take n u) items buffer size o after → Appends kind status lifetime (map lower name) items buffer size o after
  lowered_through kind status lifetime items buffer size o after a =
      subst (λ (m : List ℕ). Appends kind status lifetime m items buffer size o after) lowered_is a

module _ (kind status lifetime : ℕ) (name items buffer : List ℕ) (size : ℕ) where
  pub checked_long : (count : ℕ) → Checked buffer size count → most_name < length name
      → Appends kind status lifetime (map lower name) items buffer size (refused 65 nowhere) buffer
  checked_long count c h =
      let b = has_table c.inside c.accepts in
      let m : 253 < length (map lower name) = omega (arith, length-map name lower) in
      let n : is_table_name (map lower name) ≡ false = sym (table_long (map lower name) m) ∙ lt-leb (length (map lower name)) 253 m in
      unfit b.1 (test_fails _ (λ y. true_false _ (held_name b.1.encoded.entries kind (map lower name) y) n))
      (λ k x. true_false _ (entry_named kind status lifetime (map lower name) items (extends_entry kind status lifetime (map lower name) items b.1 k x)) n)

  -- `append_entry`
  module _ (h : size ≤ length buffer) (x : Result ℕ TableError) (t : TableAnswers (take size buffer) (reported x)) where
    pub append_checks : (count : ℕ) → x ≡ Ok count → Checked buffer size count
    append_checks count e = record { inside = h; accepts = rw e at t }

    pub append_refused : (e : TableError) → x ≡ Err e → (a : AppendError) → a ≡ Table e
        → Appends kind status lifetime name items buffer size (outcome_of (Err a)) buffer
    append_refused e q a p = rw p (by e (rw q at t))
      where
        by : (e : TableError) → TableAnswers (take size buffer) (reported (Err e))
            → Appends kind status lifetime name items buffer size (outcome_of (Err (Table e))) buffer
        by TooLong t = no_table h t
        by (Malformed p) t = no_table h t
        by (Repeated p) t = no_table h t
