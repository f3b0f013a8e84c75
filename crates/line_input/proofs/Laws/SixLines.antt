-- Six lines that the code reads are those that say what a line is written from, and there is one such reading of an input. From the laws of `received`
-- and `networks` on words and addresses.
use Rattle.std.proofs.Common.{Option, Some}
use Prim.Native.Nat.{ℕ, ◌<◌}
use mathlib.Core.Path.{◌≡◌, refl, sym, ap, ◌∙◌}
use mathlib.Core.List.{List, [], ◌∷◌}
use mathlib.Core.Bool.{true}
use native.Mathlib.Omega.{arith}
use lib.ListN.{length}
use lib.Dec.{eqb, leb}
use borrow.Author.Tests.{le-leb, lt-leb, leb-true, eq-eqb, eqb-true}
use Rattle.text.specs.Fields.{after_fields, field}
use Rattle.text.specs.Lists.{same}
use Rattle.text.specs.Texts.{bytes}
use Rattle.text.proofs.Laws.Tests.{and_left, and_right, and_both, cond-elim}
use Rattle.text.proofs.Laws.Words.{same_true}
use Rattle.address.specs.declared.Address.{Address}
use Rattle.networks.specs.Reader6.{read_address}
use Rattle.networks.proofs.Laws.Addresses.{address_sound, address_complete}
use Rattle.received.specs.Line.{Word}
use Rattle.received.specs.Answers.{Given, given, identity_text}
use Rattle.received.specs.Reader.{number_of}
use Rattle.received.specs.declared.Identity.{Identity}
use Rattle.received.specs.declared.Identity.TheVariants.{MailFrom, Helo}
use Rattle.received.proofs.Laws.Lines.{word_one, word_small}
use Rattle.received.proofs.Laws.Parsing.{word_number, number_word}
use Rattle.line_input.specs.Lines.{most_input, SixLines}
use Rattle.line_input.specs.Reader.{has_six_lines, identity_named, written_text, named_text, lines_text}

-- a list of no bytes
none_left : (l : List ℕ) → length l ≡ 0 → l ≡ []
none_left [] h = refl
none_left (b ∷ l) h = absurd (omega arith)

-- the number of a result's word
pub number_is : {n : ℕ} {w : List ℕ} → Word n w → number_of w ≡ n
number_is {n} x = ap number_of (word_one x) ∙ word_number n (word_small x)

-- the identity of a word
pub identity_is : (i : Identity) (w : List ℕ) → identity_text i ≡ w → identity_named w ≡ Some i
unfolding identity_named same
identity_is MailFrom w e = rw (← e)
identity_is Helo w e = rw (← e)

pub identity_found : (w : List ℕ) (i : Identity) → identity_named w ≡ Some i → identity_text i ≡ w
unfolding identity_named
identity_found w i =
    cond-elim Found (same w (bytes "mailfrom")) (λ t e. let k : MailFrom ≡ i = cc in rw (← k) (sym (same_true w (bytes "mailfrom") t)))
    (λ _. cond-elim Found (same w (bytes "helo")) (λ t e. let k : Helo ≡ i = cc in rw (← k) (sym (same_true w (bytes "helo") t)))
    (λ _ e. absurd (let q : ◌≡◌ {A = ℕ} 0 1 = cc in omega arith)))
  where
    Found : Option Identity → Type 0
    Found x = x ≡ Some i → identity_text i ≡ w

-- six lines pass the tests, and what is written of them is what they say
module _ (input : List ℕ) (g : Given) (x : SixLines input g) where
  pub six_shape : has_six_lines input ≡ true
  unfolding has_six_lines
  six_shape =
      and_both (leb (length input) most_input) (eqb (length (after_fields 10 6 input)) 0) (le-leb (length input) most_input x.short)
      (eq-eqb (length (after_fields 10 6 input)) 0 (ap length x.end))

  pub six_number : number_of (field 10 0 input) ≡ g.result
  six_number = number_is x.result

  pub six_small : number_of (field 10 0 input) < 7
  six_small = let k = word_small x.result in omega (arith, six_number)

  pub six_client : read_address (field 10 1 input) ≡ Some g.client
  six_client = address_complete (field 10 1 input) g.client x.client

  pub six_identity : identity_named (field 10 5 input) ≡ Some g.identity
  six_identity = identity_is g.identity (field 10 5 input) x.identity

  pub six_text : lines_text (field 10 0 input) (field 10 1 input) (field 10 2 input) (field 10 3 input) (field 10 4 input) (field 10 5 input) ≡ written_text g
  unfolding lines_text named_text
  six_text =
      rw (lt-leb 7 (number_of (field 10 0 input)) six_small, six_number, six_client, six_identity, ← x.sender, ← x.helo, ← x.receiver)

-- what passes the tests is six lines
pub six_found : (input : List ℕ) → has_six_lines input ≡ true → number_of (field 10 0 input) < 7 → (a : Address) → read_address (field 10 1 input) ≡ Some a
    → (i : Identity) → identity_named (field 10 5 input) ≡ Some i
    → SixLines input (given (number_of (field 10 0 input)) a (field 10 2 input) (field 10 3 input) (field 10 4 input) i)
unfolding has_six_lines
six_found input h k a e i f = record {
  short = leb-true (length input) most_input (and_left (leb (length input) most_input) (eqb (length (after_fields 10 6 input)) 0) h);
  result = number_word (field 10 0 input) k;
  client = address_sound (field 10 1 input) a e;
  sender = refl;
  helo = refl;
  receiver = refl;
  identity = identity_found (field 10 5 input) i f;
  end = none_left (after_fields 10 6 input) (eqb-true (length (after_fields 10 6 input)) 0 (and_right (leb (length input) most_input) (eqb (length (after_fields 10 6 input)) 0) h));
}
