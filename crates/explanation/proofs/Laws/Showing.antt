-- What a text shows, from a value of p on: a rule for each way out. From the contract of macros' `write_expansion`, target_name's laws of expansions, and Inversions.
use Rattle.std.proofs.Common.{Option, Result, Ok, Err, Bor}
use Prim.Native.Nat.{ℕ, ◌≤◌, ◌<◌}
use mathlib.Core.Path.{◌≡◌, refl, sym, ◌∙◌}
use mathlib.Core.List.{List, [], ◌∷◌}
use mathlib.Core.Bool.{Bool, true, false}
use native.Mathlib.Omega.{arith}
use lib.ListN.{length, take}
use borrow.Author.Tests.{le-leb, lt-leb}
use Rattle.text.specs.Bytes.{is_printable}
use Rattle.text.specs.Lists.{all}
use Rattle.text.specs.Runs.{is_in}
use Rattle.text.specs.Writing.{overwritten}
use Rattle.text.specs.declared.bytes.Class.TheVariants.{Printable}
use Rattle.text.proofs.Laws.Classes.{class_tests}
use Rattle.text.proofs.Laws.Writing.{over_fits}
use Rattle.macros.specs.declared.Form.TheVariants.{Explanation}
use Rattle.macros.specs.declared.ExpandError.{ExpandError}
use Rattle.macros.specs.Reader.{is_macro_string}
use Rattle.macros.specs.Numbers.{fitted, Says}
use Rattle.rules.specs.declared.Counts.{Counts}
use Rattle.rules.specs.declared.Progress.{Progress}
use Rattle.rules.specs.declared.Wanted.{Wanted}
use Rattle.rules.specs.Tree.{Settled}
use Rattle.rules.specs.Tables.{table_in}
use Rattle.rules.specs.Mechanisms.{Mail, expansion}
use Rattle.rules.specs.Evaluation.{most_text, shown, gives_shown, explained}
use Rattle.rules.specs.Outcomes.{SaysText, Gives, Shows, FindsP}
use Rattle.rules.proofs.Laws.Inversions.{gives_give, text_gives, text_wanted}
use Rattle.target_name.specs.Choosing.{p_for}
use Rattle.target_name.proofs.Laws.Expansions.{text_taken, text_fits, text_over, expansion_given, expansion_wanted}
use Rattle.explanation.specs.Stages.{WritesShown, printed}

-- an explanation that shows a text, and one that is empty
text_shows : (c : Counts) (x : Settled (List ℕ)) (s : List ℕ) (l : Option ℕ) (n : ℕ) (u v b a : List ℕ) → Gives x s l b a → WritesShown s n u v → SaysText c x (Ok n) u v b a
text_shows c x s l n u v b a g w = text_gives c x s l n u v b a g w.size w.buffer

shows_none : (s u : List ℕ) → s ≡ [] → WritesShown s 0 u u
shows_none s u e = rw e (record { size = refl; buffer = sym (over_fits [] u (omega arith)) })

pub text_empty : (c : Counts) (x : Settled (List ℕ)) (l : Option ℕ) (u b a : List ℕ) → Gives x [] l b a → SaysText c x (Ok 0) u u b a
text_empty c x l u b a g = text_shows c x [] l 0 u u b a g (shows_none [] u refl)

-- what is shown of a text
shown_short : (s : List ℕ) → length s ≤ most_text → shown s ≡ printed s
unfolding shown printed
shown_short s h = rw (le-leb (length s) most_text h)

shown_over : (s : List ℕ) → most_text < length s → shown s ≡ []
unfolding shown
shown_over s h = rw (lt-leb (length s) most_text h)

-- `put_printable`
module _ (s : List ℕ) (b : Bool) (e : b ≡ all (is_in Printable) s) where
  tested : all is_printable s ≡ b
  tested = sym (class_tests Printable s) ∙ sym e

  pub printed_all : b ≡ true → (u v : List ℕ) → v ≡ overwritten s u → WritesShown (printed s) (length s) u v
  unfolding printed
  printed_all h u v w = rw (tested, h) (record { size = refl; buffer = w })

  pub printed_none : b ≡ false → (u : List ℕ) → WritesShown (printed s) 0 u u
  unfolding printed
  printed_none h u = shows_none (printed s) u (rw (tested, h))

-- `write_shown`: an expansion that fits its array, and one that is too long for it
module _ (s z v : List ℕ) (x : Result ℕ ExpandError) (says : Says (fitted s (length z)) x z v) where
  pub shown_written : length z ≤ most_text → (n : ℕ) → x ≡ Ok n → (r : ℕ) (u u' : List ℕ) → WritesShown (printed (take n v)) r u u' → WritesShown (shown s) r u u'
  shown_written room n e r u u' o =
      let l = text_fits s z v x says n e in
      let m : length s ≤ most_text = omega arith in
      rw (shown_short s m, ← text_taken s z v x says n e) o

  pub shown_refused : most_text ≤ length z → (k : ExpandError) → x ≡ Err k → (u : List ℕ) → WritesShown (shown s) 0 u u
  shown_refused room k e u = let l = text_over s z v x says k e in let m : most_text < length s = omega arith in shows_none _ u (shown_over s m)

-- `explain_text`
module _ (mail : Mail) (t d s : List ℕ) (g : Bool) (e : g ≡ is_macro_string Explanation s) (p : Progress) where
  pub text_outside : g ≡ false → (u b : List ℕ) → Shows t (explained mail d p.counts (s ∷ [])) p p (Ok 0) u u b b
  unfolding explained
  text_outside h u b = text_empty p.counts _ p.life u b b (rw (← e, h) (gives_give (table_in t) p.life [] b))

  module _ (h : g ≡ true) (q : Progress) (b a : List ℕ) where
    pub text_given : (v : Bor (List ℕ)) → FindsP t (p_for mail.client d Explanation s p.counts) p q (Ok v) b a → (n : ℕ) (u u' : List ℕ)
        → WritesShown (shown (expansion mail d Explanation s v.now)) n u u' → Shows t (explained mail d p.counts (s ∷ [])) p q (Ok n) u u' b a
    unfolding explained gives_shown
    text_given v w n u u' y =
        text_shows p.counts _ _ q.life n u u' b a (rw (← e, h) (expansion_given mail d Explanation s gives_shown t p q b a shown (λ _. refl) v w).0) y

    pub text_wants_p : (w : Wanted) → FindsP t (p_for mail.client d Explanation s p.counts) p q (Err w) b a → (u : List ℕ)
        → Shows t (explained mail d p.counts (s ∷ [])) p q (Err w) u u b a
    unfolding explained
    text_wants_p w y u = text_wanted p.counts _ w q.life u b a (rw (← e, h) (expansion_wanted mail d Explanation s gives_shown t p q b a w y).0)
