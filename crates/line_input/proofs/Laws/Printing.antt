-- What is printed of an input: it is what the productions say, it is one text of at most 1,500 bytes, no byte past 4,097 of the input matters, and the
-- line that is printed for six lines is printed back as those. From the laws of SixLines and of `received`.
use Rattle.std.proofs.Common.{None, Option, Some, Result, Ok, Err}
use Prim.Native.Nat.{ℕ, ◌≤◌, ◌<◌}
use mathlib.Core.Path.{◌≡◌, refl, sym, ap, subst, ◌∙◌}
use mathlib.Core.List.{List}
use mathlib.Core.Bool.{true, false}
use native.Mathlib.Omega.{arith}
use lib.ListN.{length, take, length-append, length-take}
use lib.Seq.{take-take}
use lib.Dec.{leb}
use borrow.Author.Tests.{leb-true, leb-false}
use Rattle.text.specs.Fields.{field}
use Rattle.text.specs.Texts.{bytes}
use Rattle.text.proofs.Laws.Tests.{and_left, and_right, true_false, test_fails, cond-elim}
use Rattle.text.proofs.Laws.Words.{same_true, true_same}
use Rattle.address.specs.Octets.{as_client}
use Rattle.address_text.proofs.Laws.Lengths.{length_decimal, length_readable}
use Rattle.macros.specs.Expansion.{is_host}
use Rattle.networks.specs.Reader6.{read_address}
use Rattle.networks.proofs.Laws.Ranges.{address_range}
use Rattle.received.specs.Quoting.{escaped, unescaped}
use Rattle.received.specs.Line.{Word, none, neutral, pass, fail, softfail, temperror, permerror, Values, Line}
use Rattle.received.specs.Numbers.{error_number, Outcome}
use Rattle.received.specs.Answers.{Given, given, identity_text, values_of, most_line, Writes, fits, LineFor, ReadsLine}
use Rattle.received.specs.Texts.{word_of, outcome}
use Rattle.received.specs.Reader.{number_of, line_answer}
use Rattle.received.specs.declared.Identity.{Identity}
use Rattle.received.specs.declared.Identity.TheVariants.{MailFrom, Helo}
use Rattle.received.specs.declared.Parts.{Parts}
use Rattle.received.specs.declared.LineError.{LineError}
use Rattle.received.proofs.Laws.Quoting.{unescaped_escaped}
use Rattle.received.proofs.Laws.Lines.{word_of_lem, word_one, writes as writes-right}
use Rattle.received.proofs.Laws.Inverse.{line_stands, reads_right, sender_short, host_short}
use Rattle.received.proofs.Laws.Deciding.{writes_is, reads_one}
use Rattle.line_input.specs.Lines.{line, refusal_line, six_lines, Opens, most_input, SixLines, Prints, unreadable, refuses, writes, no_line, reads, room}
use Rattle.line_input.specs.Reader.{opens, has_six_lines, identity_named, part_lines, answer_lines, read_text, outcome_text, written_text, named_text, lines_text, printed}
use Rattle.line_input.proofs.Laws.SixLines.{six_shape, six_small, six_client, six_identity, six_text, six_found}
use Rattle.address.specs.declared.Address.{Address}

-- the test of how an input begins
opens_true : (input : List ℕ) → opens input ≡ true → Opens input
unfolding opens
opens_true input h = same_true (take 13 input) (bytes "Received-SPF:") h

true_opens : (input : List ℕ) → Opens input → opens input ≡ true
unfolding opens
true_opens input o = true_same (take 13 input) (bytes "Received-SPF:") o

opens_false : (input : List ℕ) → (Opens input → ⊥) → opens input ≡ false
opens_false input n = test_fails (opens input) (λ h. n (opens_true input h))

-- the parts of a line are printed as the values that it was written from
value_back : (u v : List ℕ) → u ≡ escaped v → line (unescaped u) ≡ line v
value_back u v e = ap line (ap unescaped e ∙ unescaped_escaped v)

word_back : {g : Given} {s : List ℕ} {f : Parts} {word : List ℕ} → LineFor g s f → Word g.result word → line (word_of f.result) ≡ line word
word_back w k = ap line (ap word_of (line_stands w).result ∙ sym (word_one k))

lines_back : {g : Given} {s : List ℕ} {f : Parts} {word : List ℕ} → LineFor g s f → Word g.result word → part_lines s f ≡ six_lines word (values_of g)
unfolding part_lines six_lines
lines_back {g} w k =
    let b = (line_stands w).holds in
    rw (word_back w k, value_back _ _ b.client, value_back _ _ b.sender, value_back _ _ b.helo, value_back _ _ b.receiver, value_back _ _ b.identity)

-- what the code prints is what the productions say
module _ (input : List ℕ) where
  read_prints : Opens input → (r : Result Parts LineError) → ReadsLine input r → Prints input (answer_lines input r)
  unfolding answer_lines
  read_prints o (Ok f) (ReadsLine.reads {g} w) =
      let k = word_of_lem g.result w.fit.result in
      subst (Prints input) (sym (lines_back w k)) (reads o w k)
  read_prints o (Err e) r = no_line o r

  module _ (closed : Opens input → ⊥) where
    outcome_prints : (g : Given) → SixLines input g → (x : Outcome) → Writes g most_line x → Prints input (outcome_text x)
    unfolding outcome_text
    outcome_prints g x (Err e) w = refuses closed x w
    outcome_prints g x (Ok xs) w = writes closed x w

    lines_print : has_six_lines input ≡ true
        → Prints input (lines_text (field 10 0 input) (field 10 1 input) (field 10 2 input) (field 10 3 input) (field 10 4 input) (field 10 5 input))
    unfolding lines_text named_text written_text
    lines_print h =
        cond-elim (Prints input) (leb 7 (number_of (field 10 0 input)))
        (λ e. unreadable closed (λ g x. omega (arith, six_small input g x, leb-true 7 (number_of (field 10 0 input)) e)))
        (λ e. by (leb-false 7 (number_of (field 10 0 input)) e) (read_address (field 10 1 input)) refl (identity_named (field 10 5 input)) refl)
      where
        by : number_of (field 10 0 input) < 7 → (y : Option Address) → read_address (field 10 1 input) ≡ y → (i : Option Identity) → identity_named (field 10 5 input) ≡ i
            → Prints input (named_text (number_of (field 10 0 input)) y i (field 10 2 input) (field 10 3 input) (field 10 4 input))
        by k None e i f = unreadable closed (λ g x. let c = six_client input g x in let q : ◌≡◌ {A = ℕ} 0 1 = cc in omega arith)
        by k (Some a) e None f = unreadable closed (λ g x. let c = six_identity input g x in let q : ◌≡◌ {A = ℕ} 0 1 = cc in omega arith)
        by k (Some a) e (Some i) f =
            let g = given (number_of (field 10 0 input)) a (field 10 2 input) (field 10 3 input) (field 10 4 input) i in
            outcome_prints g (six_found input h k a e i f) (outcome g most_line) (writes-right g most_line)

pub prints_right : (input : List ℕ) → Prints input (printed input)
unfolding printed read_text
prints_right input =
    cond-elim (Prints input) (opens input) (λ e. read_prints input (opens_true input e) (line_answer input) (reads_right input))
    (λ e. cond-elim (Prints input) (has_six_lines input) (λ h. lines_print input (closed e) h)
    (λ h. unreadable (closed e) (λ g x. true_false (has_six_lines input) (six_shape input g x) h)))
  where
    closed : opens input ≡ false → Opens input → ⊥
    closed e o = true_false (opens input) (true_opens input o) e

-- it is one text
none_other : (input : List ℕ) → (Opens input → ⊥) → ((g : Given) → SixLines input g → ⊥) → (t : List ℕ) → Prints input t → line (bytes "input") ≡ t
none_other input n k t (unreadable m l) = refl
none_other input n k t (refuses {g} m x w) = absurd (k g x)
none_other input n k t (writes {g} m x w) = absurd (k g x)
none_other input n k t (no_line o r) = absurd (n o)
none_other input n k t (reads o w v) = absurd (n o)

six_printed : (input : List ℕ) (g : Given) (x : Outcome) → (Opens input → ⊥) → SixLines input g → Writes g most_line x → outcome_text x ≡ printed input
unfolding printed written_text
six_printed input g x n l w = rw (opens_false input n, six_shape input g l, six_text input g l) (ap outcome_text (writes_is w))

line_printed : (input : List ℕ) (r : Result Parts LineError) → Opens input → ReadsLine input r → answer_lines input r ≡ printed input
unfolding printed read_text
line_printed input r o x = rw (true_opens input o) (ap (answer_lines input) (reads_one input r (line_answer input) x (reads_right input)))

pub prints_is : (input s : List ℕ) → Prints input s → s ≡ printed input
unfolding outcome_text answer_lines
prints_is input s (unreadable n k) = none_other input n k (printed input) (prints_right input)
prints_is input s (refuses {g} {e} n x w) = six_printed input g (Err e) n x w
prints_is input s (writes {g} {xs} n x w) = six_printed input g (Ok xs) n x w
prints_is input s (no_line {e} o r) = line_printed input (Err e) o r
prints_is input s (reads {g} {f} o w k) = sym (lines_back w k) ∙ line_printed input (Ok f) o (ReadsLine.reads w)

pub prints_one : (input s t : List ℕ) → Prints input s → Prints input t → s ≡ t
prints_one input s t p q = prints_is input s p ∙ sym (prints_is input t q)

-- how long it is
word_length : {n : ℕ} {w : List ℕ} → Word n w → length w ≤ 9
word_length none = omega arith
word_length neutral = omega arith
word_length pass = omega arith
word_length fail = omega arith
word_length softfail = omega arith
word_length temperror = omega arith
word_length permerror = omega arith

identity_length : (i : Identity) → length (identity_text i) ≤ 8
identity_length MailFrom = omega arith
identity_length Helo = omega arith

refusal_length : (number : ℕ) → length (refusal_line number) ≤ 29
unfolding refusal_line
refusal_length number = simp length-append (omega (arith, length_decimal number))

six_length : (g : Given) (word : List ℕ) → Word g.result word → length g.sender ≤ 320 → length g.helo ≤ 255 → length g.receiver ≤ 255
    → length (six_lines word (values_of g)) ≤ room
unfolding six_lines line
six_length g word k a b c =
    simp length-append (omega (arith, word_length k, length_readable (as_client g.client), identity_length g.identity))

pub prints_length : (input s : List ℕ) → Prints input s → length s ≤ room
unfolding line
prints_length input s (unreadable n k) = omega arith
prints_length input s (refuses {e = e} n x w) = omega (arith, refusal_length (error_number e))
prints_length input s (writes n x (fits f l h k)) = h
prints_length input s (no_line {e} o r) = omega (arith, refusal_length (error_number e))
prints_length input s (reads {g} {word = word} o w k) =
    let hosts = w.fit.hosts in
    six_length g word k (sender_short g.sender w.fit.sender)
    (host_short g.helo (and_left (is_host g.helo) (is_host g.receiver) hosts))
    (host_short g.receiver (and_right (is_host g.helo) (is_host g.receiver) hosts))

-- of an input of more than 4,096 bytes no more than 4,097 need be read
module _ (input : List ℕ) (long : most_input < length input) where
  front_long : length (take 4097 input) ≡ 4097
  front_long = rw length-take (omega arith)

  front_opens : Opens input → Opens (take 4097 input)
  front_opens o = take-take 13 4097 input (omega arith) ∙ o

  opens_front : Opens (take 4097 input) → Opens input
  opens_front o = sym (take-take 13 4097 input (omega arith)) ∙ o

pub long_input : (input s : List ℕ) → most_input < length input → Prints input s → Prints (take 4097 input) s
long_input input s h (unreadable n k) = unreadable (λ o. n (opens_front input h o)) (λ g x. omega (arith, x.short, front_long input h))
long_input input s h (refuses n x w) = absurd (omega (arith, x.short))
long_input input s h (writes n x w) = absurd (omega (arith, x.short))
long_input input s h (no_line o (ReadsLine.no_line n)) = no_line (front_opens input h o) (ReadsLine.no_line (λ g f w. omega (arith, w.short, front_long input h)))
long_input input s h (reads o w k) = absurd (omega (arith, w.short))

-- what the program wrote it prints back as six lines, the client as macro c shows it
line_opens : {n : ℕ} {v : Values} {s : List ℕ} {f : Parts} → Line n v s f → Opens s
line_opens (Line.line w a b c d e) = refl

pub printed_back : (input xs : List ℕ) (g : Given) (word : List ℕ) → SixLines input g → Word g.result word → Writes g most_line (Ok xs)
    → Prints xs (six_lines word (values_of g))
printed_back input xs g word x k (fits {f = f} fit l h r) =
    reads (line_opens l) (record { client = address_range x.client; fit = fit; line = l; short = h }) k
