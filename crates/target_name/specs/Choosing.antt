-- The choice among p's names, name after name, and the value of p that a text is expanded with.
use Rattle.std.specs.Prelude.{ℕ, ◌≡◌, List, [], Bool, cond, Option, Some, None, Ok, Err, Result as Outcome}
use Rattle.std.specs.Borrow.{Bor}
use Rattle.text.specs.Lists.{same}
use Rattle.text.specs.Texts.{bytes}
use Rattle.address.specs.declared.Address.{Address}
use Rattle.domain.specs.Names.{at_or_below}
use Rattle.macros.specs.declared.Form.{Form}
use Rattle.macros.specs.Reader.{uses_p}
use Rattle.records.specs.Readings.{Optional, absent, present}
use Rattle.rules.specs.declared.Counts.{Counts}
use Rattle.rules.specs.declared.Progress.{Progress}
use Rattle.rules.specs.declared.Wanted.{Wanted}
use Rattle.rules.specs.Tree.{Reply, Check, give, ask, Settled, run}
use Rattle.rules.specs.Tables.{table_in}
use Rattle.rules.specs.Outcomes.{Gives, Wants}
use Rattle.rules.specs.Mechanisms.{address_kind, includes_client, p_value}
use Rattle.target_name.specs.declared.Choice.{Choice}
use Rattle.target_name.specs.declared.Choice.TheVariants.{Current, Below, First, Nobody}

-- the choice after one more validated name that isn't the current domain, by whether it is below it
abbrev pub later_choice : Choice → Bool → Bor (List ℕ) → Choice
later_choice Current below n = Current
later_choice (Below m) below n = Below m
later_choice (First m) below n = cond below (Below n) (First m)
later_choice Nobody below n = cond below (Below n) (First n)

-- the choice after one more validated name n, for the current domain d
abbrev pub choice_with : Choice → List ℕ → Bor (List ℕ) → Choice
choice_with choice d n = cond (same n.now d) Current (later_choice choice (at_or_below n.now d) n)

-- the value that the last choice is
abbrev pub choice_value : Choice → List ℕ → List ℕ
choice_value Current d = d
choice_value (Below n) d = n.now
choice_value (First n) d = n.now
choice_value Nobody d = bytes "unknown"

-- whether a name is validated
unfoldable pub gives_valid : Address → Reply → Check Bool
gives_valid client r = give (includes_client client r)

unfoldable pub valid : Address → Counts → List ℕ → Check Bool
valid client c n = ask (address_kind client) n c (gives_valid client)

-- what validating a name answers; the counts stay
unfoldable pub ValidIs : Settled Bool → Outcome Bool Wanted → Counts → Option ℕ → (before after : List ℕ) → Type 0
ValidIs x (Ok v) c l b a = Gives x v l b a
ValidIs x (Err w) c l b a = Wants x w.kind w.length c l b a

pub record FindsValid (t : List ℕ) (m : Check Bool) (p q : Progress) (r : Outcome Bool Wanted) (before after : List ℕ) : Type 0 where
  pub counts_kept : q.counts ≡ p.counts
  pub valid : ValidIs (run (table_in t) p.life m) r p.counts q.life before after

-- the value of p that a text is expanded with, "asked for only where the string uses p"
unfoldable pub p_for : Address → List ℕ → Form → List ℕ → Counts → Check (List ℕ)
p_for client d form text c = cond (uses_p form text) (p_value client d c) (give [])

-- a domain-spec that a mechanism may have
unfoldable pub spec_of : Option (Bor (List ℕ)) → Optional (List ℕ)
spec_of (Some s) = present s.now
spec_of None = absent
