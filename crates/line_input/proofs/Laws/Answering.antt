-- What `answer_input` leaves at the front of its buffer is what is printed. From the laws of Printing and the laws on writing of `text`.
use Prim.Native.Nat.{ℕ}
use mathlib.Core.Path.{◌≡◌}
use mathlib.Core.List.{List}
use native.Mathlib.Omega.{arith}
use Rattle.text.specs.Writing.{Wrote}
use Rattle.text.proofs.Laws.Writing.{wrote_over, wrote_length}
use Rattle.line_input.specs.Lines.{Printed}
use Rattle.line_input.specs.Reader.{printed}
use Rattle.line_input.proofs.Laws.Printing.{prints_right, prints_length}

-- `answer_input`
pub input_printed : (input before u o after : List ℕ) (at n : ℕ) → u ≡ before → at ≡ 0 → Wrote (printed input) u at o n → after ≡ o → Printed input before after n
input_printed input before u o after at n eu ea x eo =
    let w : Wrote (printed input) before 0 after n = rw eo (rw (eu, ea) at x) in
    let k = prints_length input (printed input) (prints_right input) in
    record {
      text = printed input;
      prints = prints_right input;
      size = wrote_length (printed input) before after n w (omega arith);
      buffer = wrote_over (printed input) before after n w;
    }
