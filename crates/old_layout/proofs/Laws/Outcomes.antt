-- What rewriting comes to: one outcome and one buffer (`rewrites_one`), a refusal keeps the buffer (`refused_kept`), and what is written is an accepted
-- table of the old one's entries (`written_table`). From the laws of Entries and those of `answer_table` on the check.
use Prim.Native.Nat.{ℕ, ◌≤◌}
use mathlib.Core.Path.{◌≡◌, refl, sym, ap, ◌∙◌}
use mathlib.Core.Logic.{⊎_elim}
use mathlib.Core.List.{List}
use native.Mathlib.Omega.{arith}
use lib.ListN.{length, take, drop}
use lib.Seq.{take-append_seam, drop-append_seam}
use Rattle.answer_table.specs.Layout.{Entry, EntriesIn}
use Rattle.answer_table.specs.Numbers.{Place, Report, accepted, refused as table-refused}
use Rattle.answer_table.specs.Answers.{TableAnswersIn, whole}
use Rattle.answer_table.specs.declared.Layout.{Layout}
use Rattle.answer_table.specs.declared.Layout.TheVariants.{Old, New}
use Rattle.answer_table.proofs.Laws.Checks.{table_answers_is}
use Rattle.old_layout.specs.Rewriting.{Outcome, written, refused, Rewrites, no_table, no_room, fits}
use Rattle.old_layout.proofs.Laws.Entries.{rewritten_one, same_entries, new_accepted}

-- a check has one answer
answer_one : {lay : Layout} {t : List ℕ} {a b : Report} → TableAnswersIn lay t a → TableAnswersIn lay t b → a ≡ b
answer_one p q = table_answers_is p ∙ sym (table_answers_is q)

pub not_both : {lay : Layout} {t : List ℕ} {n k : ℕ} {p : Place} → TableAnswersIn lay t (table-refused n p) → TableAnswersIn lay t (accepted k) → ⊥
not_both x y = let e = answer_one x y in let z : ◌≡◌ {A = ℕ} 0 1 = cc in omega arith

pub same_refusal : {lay : Layout} {t : List ℕ} {n k : ℕ} {p q : Place} → TableAnswersIn lay t (table-refused n p) → TableAnswersIn lay t (table-refused k q)
    → (n ≡ k) × (p ≡ q)
same_refusal x y = let e = answer_one x y in (cc, cc)

module _ {old buffer : List ℕ} where
  pub rewrites_one : {o o' : Outcome} {a a' : List ℕ} → Rewrites old buffer o a → Rewrites old buffer o' a' → (o ≡ o') × (a ≡ a')
  rewrites_one (no_table x) (no_table y) = let e = same_refusal x y in (cc (e.0, e.1), refl)
  rewrites_one (no_table x) (no_room y r h) = absurd (not_both x y)
  rewrites_one (no_table x) (fits y r h k) = absurd (not_both x y)
  rewrites_one (no_room x r h) (no_table y) = absurd (not_both y x)
  rewrites_one (no_room x r h) (no_room y s k) = (refl, refl)
  rewrites_one (no_room x r h) (fits y s k l) =
      let e = ap length (rewritten_one r s) in
      absurd (⊎_elim (λ m. omega arith) (λ m. omega arith) h)
  rewrites_one (fits x r h k) (no_table y) = absurd (not_both y x)
  rewrites_one (fits x r h k) (no_room y s l) =
      let e = ap length (rewritten_one r s) in
      absurd (⊎_elim (λ m. omega arith) (λ m. omega arith) l)
  rewrites_one (fits x r h k) (fits y s l m) = let e = rewritten_one r s in (cc, cc)

  pub refused_kept : {n : ℕ} {p : Place} {a : List ℕ} → Rewrites old buffer (refused n p) a → a ≡ buffer
  refused_kept (no_table x) = refl
  refused_kept (no_room x r h) = refl

-- the buffer after a table was written: n bytes of an accepted table with the entries of the old one; all other bytes are as before
pub record NewTable (old buffer : List ℕ) (n : ℕ) (after : List ℕ) : Type 0 where
  pub its : List Entry
  pub before : EntriesIn Old old its
  pub table : EntriesIn New (take n after) its
  pub accepts : TableAnswersIn New (take n after) (accepted (length its))
  pub room : n ≤ length buffer
  pub rest_kept : drop n after ≡ drop n buffer

pub written_table : {old buffer : List ℕ} {n : ℕ} {after : List ℕ} → Rewrites old buffer (written n) after → NewTable old buffer n after
written_table {buffer = buffer} (fits {new = new} (whole {es = es} h p) r k l) =
    let e = take-append_seam new (drop (length new) buffer) in
    record {
      its = es;
      before = p.entries;
      table = rw e (same_entries p.entries r);
      accepts = rw e (new_accepted p r k);
      room = l;
      rest_kept = drop-append_seam new (drop (length new) buffer);
    }
