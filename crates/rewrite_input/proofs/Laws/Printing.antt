-- What is printed of an input is one text (`prints_one`), and of an input no more than 65,536 bytes matter (`long_input`). From the laws of
-- `old_layout` on what rewriting determines.
use Prim.Native.Nat.{ℕ, ◌<◌, ◌≤◌}
use mathlib.Core.Path.{◌≡◌, refl, ap, subst}
use mathlib.Core.Logic.{◌↔◌, ⊎_elim}
use mathlib.Core.List.{List}
use native.Mathlib.Omega.{arith}
use lib.ListN.{length, take}
use lib.Seq.{take_all, length-take-le}
use Rattle.text.proofs.Laws.Orders.{le_or_lt}
use Rattle.answer_table.specs.Answers.{TableAnswersIn}
use Rattle.old_layout.proofs.Laws.Entries.{rewritten_one}
use Rattle.old_layout.proofs.Laws.Outcomes.{not_both, same_refusal}
use Rattle.rewrite_input.specs.Printing.{Prints, no_table, too_long, rewrites}

pub prints_one : {input x y : List ℕ} → Prints input x → Prints input y → x ≡ y
prints_one (no_table a) (no_table b) = let e = same_refusal a b in rw (e.0, e.1)
prints_one (no_table a) (too_long b r h) = absurd (not_both a b)
prints_one (no_table a) (rewrites b r h) = absurd (not_both a b)
prints_one (too_long a r h) (no_table b) = absurd (not_both b a)
prints_one (too_long a r h) (too_long b s k) = refl
prints_one (too_long a r h) (rewrites b s k) = absurd (omega (arith, ap length (rewritten_one r s)))
prints_one (rewrites a r h) (no_table b) = absurd (not_both b a)
prints_one (rewrites a r h) (too_long b s k) = absurd (omega (arith, ap length (rewritten_one r s)))
prints_one (rewrites a r h) (rewrites b s k) = rewritten_one r s

-- how much of an input decides what is printed: a table of 65,535 bytes, and one byte more
abbrev pub enough : ℕ
enough = 65536

pub long_input : (input text : List ℕ) → Prints input text ↔ Prints (take enough input) text
long_input input text = ⊎_elim
    (λ (h : length input ≤ enough). rw (take_all enough input h) ((λ p. p), (λ p. p)))
    (λ (h : enough < length input).
    let a : Prints input _ = no_table (TableAnswersIn.too_long (omega arith)) in
    let b : Prints (take enough input) _ = no_table (TableAnswersIn.too_long (omega (arith, length-take-le enough input (omega arith)))) in
    ((λ p. subst (Prints (take enough input)) (prints_one a p) b), (λ p. subst (Prints input) (prints_one b p) a)))
    (le_or_lt (length input) enough)
