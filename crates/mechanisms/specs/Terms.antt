-- The own questions of each mechanism, and what a term comes to that is no include.
use Rattle.std.specs.Prelude.{ℕ, ◌≡◌, List, cond, eqb, Ok, Err, Result as Outcome}
use Rattle.text.specs.Bytes.{part}
use Rattle.address.specs.declared.Address.{Address}
use Rattle.address.specs.declared.Address.TheVariants.{IPv4, IPv6}
use Rattle.records.specs.Readings.{Optional, absent, present}
use Rattle.records.specs.Numbers.{said_of}
use Rattle.records.specs.declared.Term.{Term}
use Rattle.rules.specs.declared.Counts.{Counts}
use Rattle.rules.specs.declared.Progress.{Progress}
use Rattle.rules.specs.declared.Ending.{Ending}
use Rattle.rules.specs.Tree.{Check}
use Rattle.rules.specs.Mechanisms.{Mail, Step, ask_a, ask_exists, ask_mx, ask_ptr}
use Rattle.rules.specs.Evaluation.{Sub, include_step, term_step}
use Rattle.rules.specs.Outcomes.{Unchanged, Steps}
use Rattle.mechanisms.specs.declared.Question.{Question}
use Rattle.mechanisms.specs.declared.Tried.{Tried}

-- the own questions of a mechanism for its target
unfoldable pub asker : Question → Address → ℕ → Counts → List ℕ → Check Step
asker Question.A client n c m = ask_a client n c m
asker Question.Mx client n c m = ask_mx client n c m
asker Question.Ptr client n c m = ask_ptr client c m
asker Question.Exists client n c m = ask_exists c m

-- the prefix length of the client's family
unfoldable pub length_of : Address → ℕ → ℕ → ℕ
length_of (IPv4 v) four six = four
length_of (IPv6 h l) four six = six

-- that of an `a`, `mx` or `ptr`: none where its places are equal
abbrev pub given_at : List ℕ → ℕ → ℕ → Optional (List ℕ)
given_at w from to = cond (eqb from to) absent (present (part w from to))

-- what a term of the text w comes to, whatever the check one level down: whether it matches, or what ends the check; or it is an include, with its
-- domain-spec's places in w
unfoldable pub TriedIs : (t : List ℕ) → Mail → List ℕ → List ℕ → Term → (p q : Progress) → Outcome Tried Ending → (before after : List ℕ) → Type 0
TriedIs t mail d w x p q (Ok (Tried.Matches r)) b a = (sub : Sub) → Steps t (term_step mail sub d (said_of w x) (said_of w x).sign p.counts) p q (Ok r) b a
TriedIs t mail d w x p q (Err e) b a = (sub : Sub) → Steps t (term_step mail sub d (said_of w x) (said_of w x).sign p.counts) p q (Err e) b a
TriedIs t mail d w x p q (Ok (Tried.Include s)) b a =
    Unchanged p q b a × ((sub : Sub) → term_step mail sub d (said_of w x) (said_of w x).sign p.counts ≡ include_step mail sub d (part w s.from s.to) p.counts)
