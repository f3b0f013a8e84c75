-- What an expansion answers, by the productions: `outcome` answers so, and nothing else does. From Soundness and Completeness.
use Rattle.std.proofs.Common.{Result}
use Prim.Native.Nat.{ℕ}
use mathlib.Core.Path.{◌≡◌}
use mathlib.Core.List.{List}
use mathlib.Core.Bool.{◌&&◌}
use lib.ListN.{length}
use lib.Dec.{leb}
use borrow.Author.Tests.{leb-true, leb-false, le-leb, lt-leb}
use Rattle.text.proofs.Laws.Tests.{cond-elim, test_fails, true_false}
use Rattle.macros.specs.declared.Form.{Form}
use Rattle.macros.specs.declared.ExpandError.{ExpandError}
use Rattle.macros.specs.Grammar.{Piece, Produces}
use Rattle.macros.specs.Reader.{pieces, is_macro_string}
use Rattle.macros.specs.Expansion.{Given, letters_of, text_of, is_sender, is_host, is_short}
use Rattle.macros.specs.Numbers.{Outcome, fitted, outcome, Says}
use Rattle.macros.specs.Answers.{Fit, Expands, no_sender, no_host, too_long, outside, no_room, made, Answered}
use Rattle.macros.proofs.Laws.Soundness.{sound}
use Rattle.macros.proofs.Laws.Completeness.{complete}

module _ (form : Form) (s : List ℕ) (g : Given) (room : ℕ) where
  -- the text of the pieces, within the room or over it
  fitted_expands : (ps : List Piece) → Fit g → Produces form s ps → Expands form s g room (fitted (text_of (letters_of g) ps) room)
  unfolding fitted
  fitted_expands ps f d =
      cond-elim (Expands form s g room) (leb (length (text_of (letters_of g) ps)) room)
      (λ h. made ps f d (leb-true (length (text_of (letters_of g) ps)) room h))
      (λ h. no_room ps f d (leb-false (length (text_of (letters_of g) ps)) room h))

  -- the tests in their order
  pub outcome_expands : Expands form s g room (outcome form s g room)
  unfolding outcome
  outcome_expands =
      cond-elim (Expands form s g room) (is_sender g.sender)
      (λ a. cond-elim (Expands form s g room) (is_host g.helo && is_host g.receiver)
      (λ b. cond-elim (Expands form s g room) (is_short g.domain && is_short g.p)
      (λ c. let f : Fit g = record { sender = a; hosts = b; short = c } in
      cond-elim (Expands form s g room) (is_macro_string form s)
      (λ h. fitted_expands (pieces form s).list f (sound form s h))
      (λ h. outside f (λ ps d. true_false (is_macro_string form s) (complete form s ps d).0 h)))
      (λ c. too_long a b c))
      (λ b. no_host a b))
      (λ a. no_sender a)

  -- for the reader: what the productions say of an answer determines it, so `Answered` is no weaker than the equation with `outcome`
  pub expands_is : {o : Outcome} → Expands form s g room o → o ≡ outcome form s g room
  unfolding outcome fitted
  expands_is (no_sender a) = rw a
  expands_is (no_host a b) = rw (a, b)
  expands_is (too_long a b c) = rw (a, b, c)
  expands_is (outside f n) =
      let h = test_fails (is_macro_string form s) (λ k. n (pieces form s).list (sound form s k)) in
      rw (f.sender, f.hosts, f.short, h)
  expands_is (no_room ps f d l) =
      let q = complete form s ps d in
      rw (f.sender, f.hosts, f.short, q.0, q.1, lt-leb (length (text_of (letters_of g) ps)) room l)
  expands_is (made ps f d l) =
      let q = complete form s ps d in
      rw (f.sender, f.hosts, f.short, q.0, q.1, le-leb (length (text_of (letters_of g) ps)) room l)

-- what says the outcome is an answer
pub answered : (form : Form) (s : List ℕ) (g : Given) (r : Result ℕ ExpandError) (before after : List ℕ) → Says (outcome form s g (length before)) r before after
    → Says (outcome form s g (length before)) r before after × Answered form s g r before after
answered form s g r before after w =
    (w, record { outcome = outcome form s g (length before); expands = outcome_expands form s g (length before); says = w })
