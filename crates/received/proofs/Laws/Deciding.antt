-- What each of the three calls is lent determines its answer and the buffer afterwards. From the laws of quoting, lines and inverse.
use Rattle.std.proofs.Common.{Result, Ok, Err}
use Prim.Native.Nat.{ℕ, ◌≤◌, ◌<◌}
use mathlib.Core.Path.{◌≡◌, refl, sym, ap, ◌∙◌}
use mathlib.Core.Logic.{⊎_elim}
use mathlib.Core.List.{List}
use mathlib.Core.Bool.{Bool, true, false, cond}
use native.Mathlib.Omega.{arith}
use lib.ListN.{length}
use borrow.Author.Tests.{lt-ltb, le-ltb, le-leb, lt-leb}
use lib.Dec.{leb}
use Rattle.received.specs.Numbers.{Outcome, answer_of, buffer_of, Says}
use Rattle.received.specs.Answers.{Given, most_line, Writes, no_sender, no_host, no_result, no_room, fits, WritesLine, ReadsLine, reads, no_line, PartOf, Unquotes, no_part, no_room as no_buffer, value, UnquotesPart}
use Rattle.received.specs.Texts.{fitted, text_of, outcome}
use Rattle.received.specs.declared.Parts.{Parts}
use Rattle.received.specs.declared.LineError.{LineError}
use Rattle.received.specs.declared.LineError.TheVariants.{NoRoom}
use Rattle.received.proofs.Laws.Quoting.{part_value}
use Rattle.received.proofs.Laws.Lines.{line_one}
use Rattle.received.proofs.Laws.Inverse.{line_stands}

-- two answers, and two buffers, for one outcome
pub record Same (r q : Result ℕ LineError) (after after' : List ℕ) : Type 0 where
  pub answer : r ≡ q
  pub buffer : after ≡ after'

says_one : (o p : Outcome) → o ≡ p → (r q : Result ℕ LineError) (before after after' : List ℕ) → Says o r before after → Says p q before after' → Same r q after after'
says_one o p e r q before after after' x y = record {
  answer = x.answer ∙ ap answer_of e ∙ sym y.answer;
  buffer = x.buffer ∙ ap (λ (z : Outcome). buffer_of z before) e ∙ sym y.buffer;
}

-- `write_line`: an outcome that the production allows is the one that the code computes
pub writes_is : {g : Given} {room : ℕ} {o : Outcome} → Writes g room o → o ≡ outcome g room
unfolding outcome fitted
writes_is {g} (no_sender a) = rw a
writes_is {g} (no_host a b) = rw (a, b)
writes_is {g} (no_result a b c) = rw (a, b, le-ltb g.result 7 c)
writes_is {g} {room} (no_room {xs} f l o) =
    let e = ap length (line_one l).text in
    rw (f.sender, f.hosts, lt-ltb g.result 7 f.result)
    (⊎_elim (λ (h : most_line < length xs). rw (lt-leb (length (text_of g)) most_line (omega arith)))
    (λ (h : room < length xs). over (leb (length (text_of g)) most_line) (lt-leb (length (text_of g)) room (omega arith))) o)
  where
    over : (t : Bool) → leb (length (text_of g)) room ≡ false
        → Err NoRoom ≡ cond t (cond (leb (length (text_of g)) room) (Ok (text_of g)) (Err NoRoom)) (Err NoRoom)
    over true h = rw h
    over false h = refl
writes_is {g} {room} (fits {xs} f l m n) =
    let e = (line_one l).text in
    let k = ap length e in
    rw (f.sender, f.hosts, lt-ltb g.result 7 f.result, le-leb (length (text_of g)) most_line (omega arith), le-leb (length (text_of g)) room (omega arith)) (ap (λ (t : List ℕ). Ok t) e)

pub writes_one : (g : Given) (r q : Result ℕ LineError) (before after after' : List ℕ) → WritesLine g r before after → WritesLine g q before after' → Same r q after after'
writes_one g r q before after after' x y =
    says_one x.outcome y.outcome (writes_is x.writes ∙ sym (writes_is y.writes)) r q before after after' x.says y.says

-- `read_line`: the parts of a line stand where the reader finds them, whatever it was written from
pub reads_one : (s : List ℕ) (r q : Result Parts LineError) → ReadsLine s r → ReadsLine s q → r ≡ q
reads_one s r q (reads x) (reads y) = ap (λ (f : Parts). Ok f) ((line_stands x).place ∙ sym (line_stands y).place)
reads_one s r q (reads {g} {f} x) (no_line n) = absurd (n g f x)
reads_one s r q (no_line n) (reads {g} {f} x) = absurd (n g f x)
reads_one s r q (no_line n) (no_line m) = refl

-- `unquote`
part_one : (u v s : List ℕ) → PartOf u s → PartOf v s → u ≡ v
part_one u v s x y = sym (part_value u s x) ∙ part_value v s y

unquotes_same : {s : List ℕ} {room : ℕ} {o p : Outcome} → Unquotes s room o → Unquotes s room p → o ≡ p
unquotes_same (no_part n) (no_part m) = refl
unquotes_same (no_part n) (no_buffer {v} x h) = absurd (n v x)
unquotes_same (no_part n) (value {v} x h) = absurd (n v x)
unquotes_same (no_buffer {v} x h) (no_part n) = absurd (n v x)
unquotes_same (no_buffer x h) (no_buffer y k) = refl
unquotes_same {s} (no_buffer {v = u} x h) (value {v} y k) = absurd (omega (arith, ap length (part_one u v s x y)))
unquotes_same (value {v} x h) (no_part n) = absurd (n v x)
unquotes_same {s} (value {v = u} x h) (no_buffer {v} y k) = absurd (omega (arith, ap length (part_one u v s x y)))
unquotes_same {s} (value {v = u} x h) (value {v} y k) = ap Ok (part_one u v s x y)

pub unquotes_one : (s : List ℕ) (r q : Result ℕ LineError) (before after after' : List ℕ) → UnquotesPart s r before after → UnquotesPart s q before after' → Same r q after after'
unquotes_one s r q before after after' x y = says_one x.outcome y.outcome (unquotes_same x.unquotes y.unquotes) r q before after after' x.says y.says

-- what the second call gives of a part that has a value
pub value_is : (s : List ℕ) (room : ℕ) (v : List ℕ) → PartOf v s → length v ≤ room → (o : Outcome) → Unquotes s room o → o ≡ Ok v
value_is s room v x h o u = unquotes_same u (value x h)
