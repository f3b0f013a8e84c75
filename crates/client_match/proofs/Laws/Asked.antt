-- What a table's bytes answer a question, by what `find` finds, and what a check that asks it comes to, with the lifetime after it. From answer_table's contract of `find` and from Runs
-- and Inversions.
use Rattle.std.proofs.Common.{None, Option, Some, Ok, Err}
use Prim.Native.Nat.{ℕ, ◌≤◌, ◌<◌, min}
use mathlib.Core.Path.{◌≡◌, refl, sym, ◌∙◌}
use mathlib.Core.List.{List}
use native.Mathlib.Omega.{arith}
use borrow.Author.Tests.{eq-eqb, ne_eqb}
use lib.ListN.{length}
use Rattle.text.specs.Bytes.{part}
use Rattle.text.specs.Writing.{Wrote, overwritten}
use Rattle.text.proofs.Laws.Writing.{wrote_over}
use Rattle.answer_table.specs.declared.Layout.{Layout}
use Rattle.answer_table.specs.declared.Found.{Found}
use Rattle.answer_table.specs.Lookup.{Lookup, Finds, found, missing}
use Rattle.answer_table.specs.Reader.{items_of, find_at}
use Rattle.answer_table.proofs.Laws.Finding.{finds}
use Rattle.records.specs.Readings.{Optional, absent, present}
use Rattle.rules.specs.declared.Counts.{Counts}
use Rattle.rules.specs.Tree.{Reply, failed, items, Answer, Check, ask, sooner, run}
use Rattle.rules.specs.Tables.{reply_by, answer_of, table_in}
use Rattle.rules.specs.declared.Progress.{Progress}
use Rattle.rules.specs.declared.Wanted.{Wanted}
use Rattle.rules.specs.Outcomes.{Lacks, Wants, FindsEntry, FindsNone, LooksUp}
use Rattle.rules.proofs.Laws.Runs.{ask_absent, ask_present}
use Rattle.rules.proofs.Laws.Inversions.{wants_ask}

-- by what was found
unfoldable pub answer_found : List ℕ → Option Found → Optional Answer
answer_found t (Some f) = present (record { reply = reply_by f.status (items_of (part t f.start f.end)); lifetime = f.lifetime })
answer_found t None = absent

finds_answer : {t : List ℕ} {l : Lookup} {f : Option Found} → Finds t l f → answer_of l ≡ answer_found t f
unfolding answer_of answer_found
finds_answer (found {e = e} a z i) = rw i
finds_answer missing = refl

asks_found : (t : List ℕ) (kind : ℕ) (d : List ℕ) (f : Option Found) → f ≡ find_at t kind d → table_in t kind d ≡ answer_found t f
unfolding table_in
asks_found t kind d f p = rw p (finds_answer (finds Layout.New t kind d))

-- a question and the rest of its check
module _ (t : List ℕ) (kind : ℕ) (d : List ℕ) (f : Option Found) (p : f ≡ find_at t kind d) where
  asks_missing : f ≡ None → table_in t kind d ≡ absent
  unfolding answer_found
  asks_missing e = asks_found t kind d f p ∙ rw e

  pub run_lacks : {A : Type 0} (l : Option ℕ) (c : Counts) (g : Reply → Check A) → f ≡ None → Lacks (run (table_in t) l (ask kind d c g)) kind d c l
  run_lacks l c g e = ask_absent (table_in t) l kind d c g (asks_missing e)

  -- an entry: the check goes on from its answer, and from the smaller of the lifetimes
  module _ (l : Option ℕ) (x : Found) (e : f ≡ Some x) (j : Option ℕ) (s : j ≡ sooner l x.lifetime) where
    asks_entry : table_in t kind d ≡ answer_found t (Some x)
    asks_entry = asks_found t kind d f p ∙ rw e

    pub run_entry : {A : Type 0} (c : Counts) (g : Reply → Check A) → run (table_in t) l (ask kind d c g) ≡ run (table_in t) j (g (reply_by x.status (items_of (part t x.start x.end))))
    unfolding answer_found
    run_entry c g = ask_present (table_in t) l kind d c g _ asks_entry ∙ rw s

    pub run_failed : {A : Type 0} (c : Counts) (g : Reply → Check A) → x.status ≡ 2 → run (table_in t) l (ask kind d c g) ≡ run (table_in t) j (g failed)
    unfolding reply_by
    run_failed c g h = run_entry c g ∙ rw (eq-eqb x.status 2 h)

    pub run_items : {A : Type 0} (c : Counts) (g : Reply → Check A) → (x.status ≡ 2 → ⊥)
        → run (table_in t) l (ask kind d c g) ≡ run (table_in t) j (g (items (items_of (part t x.start x.end))))
    unfolding reply_by
    run_items c g h = run_entry c g ∙ rw (ne_eqb x.status 2 h)

-- the same by what `look_up` answers
module _ (t : List ℕ) (kind : ℕ) (d : List ℕ) (p q : Progress) (b a : List ℕ) where
  module _ (x : Found) (w : FindsEntry t kind d p q x b a) where
    pub found_entry : {A : Type 0} (c : Counts) (g : Reply → Check A) → run (table_in t) p.life (ask kind d c g) ≡ run (table_in t) q.life (g (reply_by x.status (items_of (part t x.start x.end))))
    found_entry c g = run_entry t kind d (Some x) w.found p.life x refl q.life w.life c g

    pub found_failed : {A : Type 0} (c : Counts) (g : Reply → Check A) → x.status ≡ 2 → run (table_in t) p.life (ask kind d c g) ≡ run (table_in t) q.life (g failed)
    found_failed c g h = run_failed t kind d (Some x) w.found p.life x refl q.life w.life c g h

    pub found_items : {A : Type 0} (c : Counts) (g : Reply → Check A) → (x.status ≡ 2 → ⊥)
        → run (table_in t) p.life (ask kind d c g) ≡ run (table_in t) q.life (g (items (items_of (part t x.start x.end))))
    found_items c g h = run_items t kind d (Some x) w.found p.life x refl q.life w.life c g h

  pub found_none : (w : Wanted) → FindsNone t kind d p q w b a → {A : Type 0} (c : Counts) (g : Reply → Check A)
      → Wants (run (table_in t) p.life (ask kind d c g)) w.kind w.length c p.life b a
  found_none w n c g = rw n.wanted (wants_ask (table_in t) p.life kind d c g (asks_missing t kind d None n.missing refl) b a n.name)

-- what `look_up` answers, by its case
module _ (t : List ℕ) (kind : ℕ) (d : List ℕ) (p q : Progress) (b a : List ℕ) where
  pub entry_found : (x : Found) → LooksUp t kind d p q (Ok x) b a → FindsEntry t kind d p q x b a
  unfolding LooksUp
  entry_found x w = w

  pub none_found : (w : Wanted) → LooksUp t kind d p q (Err w) b a → FindsNone t kind d p q w b a
  unfolding LooksUp
  none_found w f = f

-- `sooner`
module _ (l : Option ℕ) (n : ℕ) where
  pub sooner_first : l ≡ None → Some n ≡ sooner l n
  unfolding sooner
  sooner_first e = rw e

  pub sooner_min : (m : ℕ) → l ≡ Some m → (r : ℕ) → r ≡ min m n → Some r ≡ sooner l n
  unfolding sooner
  sooner_min m e r f = rw (e, f)

-- `look_up`
module _ (t : List ℕ) (kind : ℕ) (d : List ℕ) (p : Progress) (r : Option Found) (e : r ≡ find_at t kind d) (b : List ℕ) where
  pub looks_missing : r ≡ None → (a : List ℕ) → a ≡ overwritten d b → LooksUp t kind d p p (Err (record { kind = kind; length = length d })) b a
  unfolding LooksUp
  looks_missing h a w = record { missing = sym h ∙ e; wanted = refl; counts_kept = refl; life_kept = refl; name = w }

  pub looks_found : (x : Found) → r ≡ Some x → (n : ℕ) → Some n ≡ sooner p.life x.lifetime
      → LooksUp t kind d p (record { counts = p.counts; life = Some n }) (Ok x) b b
  unfolding LooksUp
  looks_found x h n s = record { found = sym h ∙ e; counts_kept = refl; life = s; name_kept = refl }

-- `put_name`: what a writer that began at the front leaves in its buffer
pub front_written : (s z o v f : List ℕ) (a n : ℕ) → o ≡ z → a ≡ 0 → Wrote s o a v n → f ≡ v → f ≡ overwritten s z
front_written s z o v f a n e i w h = rw (h, ← e) (wrote_over s o v n (rw i at w))
