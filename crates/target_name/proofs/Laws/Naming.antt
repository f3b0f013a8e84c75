-- The name of a target, from the value of p to the question name: a rule for each way out. From the contracts of macros and Inversions.
use Rattle.std.proofs.Common.{None, Option, Some, Result, Ok, Err, Bor}
use Prim.Native.Nat.{ℕ, ◌≤◌, ◌<◌}
use mathlib.Core.Path.{◌≡◌, refl}
use mathlib.Core.List.{List, map}
use mathlib.Core.Bool.{true, ◌&&◌}
use native.Mathlib.Omega.{arith}
use lib.Dec.{leb}
use lib.ListN.{length, take, drop}
use lib.Seq.{take_at}
use borrow.Author.Tests.{leb-true}
use Rattle.text.specs.Bytes.{within, lower}
use Rattle.text.specs.Lists.{all}
use Rattle.text.specs.Writing.{overwritten}
use Rattle.text.proofs.Laws.Tests.{cond-elim, and_left, and_right}
use Rattle.text.proofs.Laws.Writing.{over_fits}
use Rattle.domain.specs.Names.{is_name, is_label, labels}
use Rattle.domain.specs.Normal.{Naming, name, malformed, without_dot, lowered, name_answer, name_buffer}
use Rattle.domain.specs.Shortening.{shortened}
use Rattle.macros.specs.declared.Form.TheVariants.{DomainSpec}
use Rattle.macros.specs.declared.ExpandError.{ExpandError}
use Rattle.macros.specs.Numbers.{fitted, Says}
use Rattle.macros.specs.Question.{question_name}
use Rattle.macros.proofs.Laws.Expanding.{question_long}
use Rattle.rules.specs.declared.Progress.{Progress}
use Rattle.rules.specs.declared.Wanted.{Wanted}
use Rattle.rules.specs.Tables.{table_in}
use Rattle.rules.specs.Mechanisms.{Mail, expansion, gives_name, target, target_or}
use Rattle.rules.specs.Outcomes.{NamingIs, Target, Targets, FindsP}
use Rattle.rules.proofs.Laws.Inversions.{gives_give, target_gives, target_wanted}
use Rattle.target_name.specs.Choosing.{p_for, spec_of}
use Rattle.target_name.proofs.Laws.Expansions.{text_taken, text_over, expansion_given, expansion_wanted}

-- a name has at most 253 bytes
unfoldable pub Short : Naming → Type 0
Short (name s) = length s ≤ 253
Short malformed = Unit {0}

pub name_short : (s : List ℕ) → is_name s ≡ true → length s ≤ 253
unfolding is_name within
name_short s h =
    let w : (leb 1 (length s) && leb (length s) 253) ≡ true = and_left (leb 1 (length s) && leb (length s) 253) (all is_label (labels s)) h in
    leb-true (length s) 253 (and_right (leb 1 (length s)) (leb (length s) 253) w)

question_is_short : (s : List ℕ) → Short (question_name s)
unfolding question_name lowered Short
question_is_short s =
    let u = shortened (without_dot s) in
    cond-elim Short (leb (length s) 4096)
    (λ _. cond-elim Short (is_name (map lower u)) (λ e. name_short (map lower u) e) (λ _. tt))
    (λ _. tt)

-- a name at the front of a buffer with room for it
name_front : (s to to' : List ℕ) → length s ≤ 253 → 253 ≤ length to → to' ≡ overwritten s to → take (length s) to' ≡ s
name_front s to to' short room b = rw (b, over_fits s to (omega arith)) (take_at s (drop (length s) to) (length s) refl)

-- a question name that is written
pub naming_is : (x : Naming) → Short x → (to to' : List ℕ) → 253 ≤ length to → (r : Option ℕ) → r ≡ name_answer x → to' ≡ name_buffer x to → NamingIs x r to'
unfolding Short NamingIs
naming_is (name s) short to to' room r a b = (a, name_front s to to' short room b, short)
naming_is malformed short to to' room r a b = a

pub question_named : (s to to' : List ℕ) (r : Option ℕ) → 253 ≤ length to → r ≡ name_answer (question_name s) → to' ≡ name_buffer (question_name s) to
    → NamingIs (question_name s) r to'
question_named s to to' r room a b = naming_is (question_name s) (question_is_short s) to to' room r a b

-- `write_target`: an expansion that fits its array, and one that is too long for it
module _ (s z v : List ℕ) (x : Result ℕ ExpandError) (says : Says (fitted s (length z)) x z v) where
  pub target_written : (n : ℕ) → x ≡ Ok n → (r : Option ℕ) (to to' : List ℕ) → 253 ≤ length to → r ≡ name_answer (question_name (take n v))
      → to' ≡ name_buffer (question_name (take n v)) to → NamingIs (question_name s) r to'
  target_written n k r to to' room a b = rw (text_taken s z v x says n k) at (question_named (take n v) to to' r room a b)

  pub target_long : 4096 ≤ length z → (k : ExpandError) → x ≡ Err k → (to : List ℕ) → NamingIs (question_name s) None to
  unfolding NamingIs
  target_long room k f to = let l : length z < length s = text_over s z v x says k f in let m : 4096 < length s = omega arith in rw (question_long s m) refl

-- `make_target`
module _ (mail : Mail) (t d spec : List ℕ) (p q : Progress) (b a : List ℕ) where
  pub target_given : (v : Bor (List ℕ)) → FindsP t (p_for mail.client d DomainSpec spec p.counts) p q (Ok v) b a → (r : Option ℕ) (to : List ℕ)
      → NamingIs (question_name (expansion mail d DomainSpec spec v.now)) r to → Targets t (target mail d spec p.counts) p q (Ok r) to b a
  unfolding target gives_name
  target_given v w r to y =
      let g = expansion_given mail d DomainSpec spec gives_name t p q b a question_name (λ _. refl) v w in
      rw g.1 (target_gives p.counts _ _ q.life r to b a g.0 y)

  pub target_wants_p : (w : Wanted) → FindsP t (p_for mail.client d DomainSpec spec p.counts) p q (Err w) b a → (to : List ℕ)
      → Targets t (target mail d spec p.counts) p q (Err w) to b a
  unfolding target
  target_wants_p w y to =
      let g = expansion_wanted mail d DomainSpec spec gives_name t p q b a w y in
      rw g.1 (target_wanted p.counts _ w q.life to b a g.0)

-- `make_target_or`
module _ (mail : Mail) (t d : List ℕ) (x : Option (Bor (List ℕ))) (p : Progress) where
  pub or_given : (spec : Bor (List ℕ)) → x ≡ Some spec → (q : Progress) (r : Target) (to b a : List ℕ) → Targets t (target mail d spec.now p.counts) p q r to b a
      → Targets t (target_or mail d (spec_of x) p.counts) p q r to b a
  unfolding target_or spec_of
  or_given spec e q r to b a w = rw e w

  pub or_current : x ≡ None → length d ≤ 253 → (to to' : List ℕ) → 253 ≤ length to → to' ≡ overwritten d to → (b : List ℕ)
      → Targets t (target_or mail d (spec_of x) p.counts) p p (Ok (Some (length d))) to' b b
  unfolding target_or spec_of NamingIs
  or_current e short to to' room w b =
      rw e (target_gives p.counts _ (name d) p.life _ to' b b (gives_give (table_in t) p.life (name d) b) (refl, name_front d to to' short room w, short))
