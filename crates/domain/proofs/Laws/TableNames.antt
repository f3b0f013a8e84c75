-- Names as they stand in the table, label by label: every label fits and has no A to Z. From the definitions of Names and the laws of labels.
use Prim.Native.Nat.{ℕ, ◌≤◌, ◌<◌}
use mathlib.Core.Path.{◌≡◌, refl, sym, ap, ◌∙◌}
use mathlib.Core.List.{List}
use mathlib.Core.Bool.{Bool, true, not, ◌&&◌, and_assoc}
use lib.ListN.{length}
use Rattle.text.specs.Bytes.{is_dot, is_visible, is_upper, is_not_upper, is_label_byte, is_table_label_byte, within}
use Rattle.text.specs.Lists.{all}
use Rattle.text.specs.Runs.{is_in}
use Rattle.text.specs.declared.bytes.Class.TheVariants.{TableLabelByte}
use Rattle.text.proofs.Laws.Tests.{and_last}
use Rattle.text.proofs.Laws.Parts.{all_both}
use Rattle.text.proofs.Laws.Splitting.{all_joined}
use Rattle.domain.specs.Names.{labels, is_label, label_of, all_fit, is_table_name}
use lib.Dec.{leb}
use borrow.Author.Tests.{lt-leb}
use Rattle.domain.proofs.Laws.Labels.{join_labels, name_long, name_fits}

-- a byte in the table, but for the dots
abbrev pub table_byte : ℕ → Bool
table_byte b = is_visible b && is_not_upper b

label_not_upper : (l : List ℕ) → (is_label l && all is_not_upper l) ≡ label_of table_byte l
unfolding is_label
label_not_upper l =
    and_assoc (within 1 63 (length l)) (all is_visible l) (all is_not_upper l)
    ∙ rw (all_both is_visible is_not_upper table_byte (λ b. refl) l)

dot_not_upper : is_not_upper 46 ≡ true
unfolding is_not_upper is_upper within
dot_not_upper = refl

module _ (s : List ℕ) where
  labels_not_upper : (all is_label (labels s) && all is_not_upper s) ≡ all_fit table_byte s
  labels_not_upper =
      ap (λ (b : Bool). all is_label (labels s) && b) (ap (all is_not_upper) (sym (join_labels s)) ∙ all_joined 46 is_not_upper dot_not_upper (labels s))
      ∙ all_both is_label (all is_not_upper) (label_of table_byte) label_not_upper (labels s)

  -- `is_table_name`
  pub table_byte_lem : (b : ℕ) → is_in TableLabelByte b ≡ (table_byte b && not (is_dot b))
  unfolding is_in is_table_label_byte is_label_byte
  table_byte_lem b = and_last (is_visible b) (not (is_dot b)) (is_not_upper b)

  pub table_long : 253 < length s → leb (length s) 253 ≡ is_table_name s
  unfolding is_table_name
  table_long h = rw (← (name_long s h), lt-leb (length s) 253 h)

  pub table_fits : length s ≤ 253 → (r : Bool) → r ≡ all_fit table_byte s → r ≡ is_table_name s
  unfolding is_table_name is_label
  table_fits h r e = e ∙ sym labels_not_upper ∙ ap (λ (b : Bool). b && all is_not_upper s) (name_fits s h (all_fit is_visible s) refl)
