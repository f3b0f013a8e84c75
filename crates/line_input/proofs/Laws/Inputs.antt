-- One rule for each way out of the functions that read an input and answer it. From what the calls of `received` and `networks` promise and the
-- definitions of Reader.
use Rattle.std.proofs.Common.{None, Option, Some, Result, Ok, Err}
use Prim.Native.Nat.{ℕ, ◌≤◌, ◌<◌}
use mathlib.Core.Path.{◌≡◌, sym, ap, subst, ◌∙◌}
use mathlib.Core.List.{List}
use mathlib.Core.Bool.{Bool, true, false}
use lib.ListN.{length, take, drop}
use lib.Seq.{take_at}
use lib.Dec.{eqb, leb}
use borrow.Author.Tests.{le-leb, lt-leb}
use Rattle.text.specs.Bytes.{part}
use Rattle.text.specs.Fields.{after_fields, field}
use Rattle.text.specs.Lists.{same}
use Rattle.text.specs.Texts.{bytes}
use Rattle.text.specs.Writing.{Wrote}
use Rattle.text.proofs.Laws.Spans.{front_part}
use Rattle.address.specs.declared.Address.{Address}
use Rattle.networks.specs.Reader6.{read_address}
use Rattle.received.specs.Numbers.{error_number, Outcome, answer_of, buffer_of, Says}
use Rattle.received.specs.Answers.{Given, given}
use Rattle.received.specs.Texts.{outcome}
use Rattle.received.specs.Reader.{number_of, line_answer}
use Rattle.received.specs.declared.Identity.{Identity}
use Rattle.received.specs.declared.Parts.{Parts}
use Rattle.received.specs.declared.LineError.{LineError}
use Rattle.line_input.specs.Lines.{line, refusal_line}
use Rattle.line_input.specs.Reader.{opens, has_six_lines, identity_named, part_lines, answer_lines, read_text, outcome_text, written_text, named_text, lines_text, printed}

-- `is_opened`
pub opened_or_not : (input t : List ℕ) → t ≡ part input 0 13 → (r : Bool) → r ≡ same t (bytes "Received-SPF:") → r ≡ opens input
unfolding opens
opened_or_not input t e r h = h ∙ ap (λ (x : List ℕ). same x (bytes "Received-SPF:")) (e ∙ front_part input 13)

-- `has_six_lines`
pub six_too_long : (input : List ℕ) → 4096 < length input → leb (length input) 4096 ≡ has_six_lines input
unfolding has_six_lines
six_too_long input h = rw (lt-leb (length input) 4096 h)

pub six_or_not : (input rest : List ℕ) → length input ≤ 4096 → rest ≡ after_fields 10 6 input → (r : Bool) → r ≡ eqb (length rest) 0 → r ≡ has_six_lines input
unfolding has_six_lines
six_or_not input rest h e r q = q ∙ rw (le-leb (length input) 4096 h, e)

-- `answer_line`
module _ (s : List ℕ) (r : Result Parts LineError) (e : r ≡ line_answer s) (out o : List ℕ) (at n : ℕ) where
  pub line_read : (f : Parts) → r ≡ Ok f → Wrote (part_lines s f) out at o n → Wrote (read_text s) out at o n
  unfolding read_text answer_lines
  line_read f h w = rw (sym e ∙ h) w

  pub line_refused : (x : LineError) → r ≡ Err x → Wrote (refusal_line (error_number x)) out at o n → Wrote (read_text s) out at o n
  unfolding read_text answer_lines
  line_refused x h w = rw (sym e ∙ h) w

-- `answer_given`
text_of : (x : Outcome) (n : ℕ) (z after : List ℕ) → Ok n ≡ answer_of x → after ≡ buffer_of x z → take n after ≡ outcome_text x
unfolding outcome_text
text_of (Err m) n z after e b = cc
text_of (Ok xs) n z after e b = let k : n ≡ length xs = cc in ap (take n) b ∙ take_at xs (drop (length xs) z) n (sym k)

refusal_of_lem : (x : Outcome) (e : LineError) → Err e ≡ answer_of x → refusal_line (error_number e) ≡ outcome_text x
unfolding outcome_text
refusal_of_lem (Err m) e q = let k : e ≡ m = cc in ap (λ (x : LineError). refusal_line (error_number x)) k
refusal_of_lem (Ok xs) e q = cc

module _ (g : Given) (z after : List ℕ) (size : length z ≡ 1500) (r : Result ℕ LineError) (x : Says (outcome g (length z)) r z after) (out o : List ℕ) (at m : ℕ) where
  answer : r ≡ answer_of (outcome g 1500)
  answer = x.answer ∙ ap (λ (k : ℕ). answer_of (outcome g k)) size

  pub line_given : (n : ℕ) → r ≡ Ok n → (t : List ℕ) → t ≡ part after 0 n → Wrote t out at o m → Wrote (written_text g) out at o m
  unfolding written_text
  line_given n e t h w =
      subst (λ (y : List ℕ). Wrote y out at o m)
      (h ∙ front_part after n ∙ text_of (outcome g 1500) n z after (sym e ∙ answer) (x.buffer ∙ ap (λ (k : ℕ). buffer_of (outcome g k) z) size)) w

  pub refusal_given : (e : LineError) → r ≡ Err e → Wrote (refusal_line (error_number e)) out at o m → Wrote (written_text g) out at o m
  unfolding written_text
  refusal_given e q w = subst (λ (y : List ℕ). Wrote y out at o m) (refusal_of_lem (outcome g 1500) e (sym q ∙ answer)) w

-- `put_lines`
abbrev text_for : List ℕ → List ℕ
text_for input = lines_text (field 10 0 input) (field 10 1 input) (field 10 2 input) (field 10 3 input) (field 10 4 input) (field 10 5 input)

module _ (input r : List ℕ) (er : r ≡ field 10 0 input) (number : ℕ) (en : number ≡ number_of r) (out o : List ℕ) (at n : ℕ) where
  pub no_result : 7 ≤ number → Wrote (line (bytes "input")) out at o n → Wrote (text_for input) out at o n
  unfolding lines_text
  no_result h w = rw (← er, ← en, le-leb 7 number h) w

  module _ (small : number < 7) (c : List ℕ) (ec : c ≡ field 10 1 input) (x : Option Address) (ex : x ≡ read_address c) where
    pub no_client : x ≡ None → Wrote (line (bytes "input")) out at o n → Wrote (text_for input) out at o n
    unfolding lines_text named_text
    no_client h w = rw (← er, ← en, lt-leb 7 number small, ← ec, sym ex ∙ h) w

    module _ (a : Address) (h : x ≡ Some a) (i : List ℕ) (ei : i ≡ field 10 5 input) (y : Option Identity) (ey : y ≡ identity_named i) where
      pub no_identity : y ≡ None → Wrote (line (bytes "input")) out at o n → Wrote (text_for input) out at o n
      unfolding lines_text named_text
      no_identity k w = rw (← er, ← en, lt-leb 7 number small, ← ec, sym ex ∙ h, ← ei, sym ey ∙ k) w

      pub all_read : (j : Identity) → y ≡ Some j → (sender helo receiver : List ℕ) → sender ≡ field 10 2 input → helo ≡ field 10 3 input → receiver ≡ field 10 4 input
          → Wrote (written_text (given number a sender helo receiver j)) out at o n → Wrote (text_for input) out at o n
      unfolding lines_text named_text
      all_read j k sender helo receiver es eh ev w = rw (← er, ← en, lt-leb 7 number small, ← ec, sym ex ∙ h, ← ei, sym ey ∙ k, ← es, ← eh, ← ev) w

-- `put_printed`
module _ (input : List ℕ) (r : Bool) (er : r ≡ opens input) (out o : List ℕ) (at n : ℕ) where
  pub opened_printed : r ≡ true → Wrote (read_text input) out at o n → Wrote (printed input) out at o n
  unfolding printed
  opened_printed h w = rw (← er, h) w

  module _ (h : r ≡ false) (q : Bool) (eq : q ≡ has_six_lines input) where
    pub lines_printed : q ≡ true → Wrote (text_for input) out at o n → Wrote (printed input) out at o n
    unfolding printed
    lines_printed k w = rw (← er, h, ← eq, k) w

    pub other_printed : q ≡ false → Wrote (line (bytes "input")) out at o n → Wrote (printed input) out at o n
    unfolding printed
    other_printed k w = rw (← er, h, ← eq, k) w
