-- What the reader accepts, the grammar produces, with exactly these pieces. From the laws of strings and of endings.
use Prim.Native.Nat.{ℕ}
use mathlib.Core.Path.{◌≡◌}
use mathlib.Core.List.{List}
use mathlib.Core.Bool.{true}
use Rattle.text.proofs.Laws.Tests.{and_left, and_right}
use Rattle.macros.specs.declared.Form.{Form}
use Rattle.macros.specs.declared.Form.TheVariants.{DomainSpec, ModifierValue, Explanation}
use Rattle.macros.specs.Grammar.{Produces}
use Rattle.macros.specs.Reader.{is_literal, pieces, ends_right, is_macro_string}
use Rattle.macros.proofs.Laws.Strings.{row_sound, row_string, row_explain}
use Rattle.macros.proofs.Laws.Endings.{ending_sound}

pub sound : (form : Form) (s : List ℕ) → is_macro_string form s ≡ true → Produces form s (pieces form s).list
unfolding is_macro_string ends_right is_literal
sound DomainSpec s h =
    ending_sound (row_sound DomainSpec s (and_left (pieces DomainSpec s).whole (ends_right DomainSpec s) h))
    (and_right (pieces DomainSpec s).whole (ends_right DomainSpec s) h)
sound ModifierValue s h = row_string (λ b k. k) (row_sound ModifierValue s (and_left (pieces ModifierValue s).whole true h))
sound Explanation s h = row_explain (row_sound Explanation s (and_left (pieces Explanation s).whole true h))
