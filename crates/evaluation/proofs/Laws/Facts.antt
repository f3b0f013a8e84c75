-- Facts of every evaluation as one call, whatever its arguments: a wanted name is a name as the table has it, so that it fits the name buffer and its
-- answer can be added to the table; a wanted kind is one of five; "text written only for 3"; lookups never exceed 10, and voids never 3. By `together` they
-- hold of both calls. From the definition of `evaluated` and the theorems of `rules`.
use Rattle.std.proofs.Common.{None, Option, Ok, Err, Result as Either}
use Prim.Native.Nat.{ℕ}
use mathlib.Core.Path.{◌≡◌, subst}
use mathlib.Core.List.{List, []}
use mathlib.Core.Bool.{true, ◌&&◌}
use Rattle.text.proofs.Laws.Tests.{cond-elim}
use Rattle.address.specs.declared.Address.{Address}
use Rattle.domain.specs.Names.{is_table_name}
use Rattle.answer_table.specs.declared.TableError.{TableError}
use Rattle.answer_table.specs.declared.TableError.TheVariants.{TooLong, Malformed, Repeated}
use Rattle.answer_table.specs.Numbers.{accepted, reported}
use Rattle.answer_table.specs.Answers.{TableAnswers, whole}
use Rattle.answer_table.specs.Reader.{check_table}
use Rattle.answer_table.proofs.Laws.Checks.{table_answers}
use Rattle.macros.specs.Expansion.{is_sender, is_host, is_short}
use Rattle.rules.specs.declared.Counts.{Counts}
use Rattle.rules.specs.Tree.{Settled, settled, wanting, run}
use Rattle.rules.specs.Tables.{table_in}
use Rattle.rules.proofs.Laws.Alike.{Holds}
use Rattle.rules.proofs.Laws.Askable.{Fitting, entries_fit}
use Rattle.rules.specs.Evaluation.{Verdict, verdict}
use Rattle.rules.proofs.Laws.Kept.{AskedKind}
use Rattle.rules.proofs.Laws.Verdicts.{AskedFacts, VerdictFacts, verdict_facts}
use Rattle.evaluation.specs.Numbers.{Outcome, refused, refused_at, settles}
use Rattle.evaluation.specs.Evaluating.{mail_for, has_room, after_table, evaluated}

module _ (client : Address) (domain sender helo receiver : List ℕ) (seconds : ℕ) (table name text : List ℕ) where
  -- of an outcome that settles something: what holds of that, and that the table's items are of their kinds
  unfoldable Sound : Outcome → Type 0
  Sound (refused number) = Unit {0}
  Sound (refused_at number place) = Unit {0}
  Sound (settles x life) = Holds (AskedFacts (table_in table)) VerdictFacts x × Fitting (table_in table)

  table_fits : {n : ℕ} → TableAnswers table (accepted n) → Fitting (table_in table)
  table_fits (whole h e) = entries_fit e.entries

  table_sound : (a : Either ℕ TableError) → TableAnswers table (reported a) → (life : ℕ) → Sound (after_table a (run (table_in table) None (verdict (mail_for client sender helo receiver seconds) domain)) life)
  unfolding Sound after_table
  table_sound (Err TooLong) c life = tt
  table_sound (Err (Malformed p)) c life = tt
  table_sound (Err (Repeated p)) c life = tt
  table_sound (Ok n) c life = (verdict_facts (table_in table) (mail_for client sender helo receiver seconds) domain None, table_fits c)

  evaluated_sound : Sound (evaluated client domain sender helo receiver seconds table name text)
  unfolding evaluated Sound
  evaluated_sound =
      cond-elim Sound (is_sender sender)
      (λ _. cond-elim Sound (is_host helo && is_host receiver)
      (λ _. cond-elim Sound (is_short domain)
      (λ _. cond-elim Sound (has_room name text) (λ _. table_sound (check_table table) (table_answers table) _) (λ _. tt))
      (λ _. tt))
      (λ _. tt))
      (λ _. tt)

  module _ (x : Settled Verdict) (life : ℕ) (e : evaluated client domain sender helo receiver seconds table name text ≡ settles x life) where
    sound : Sound (settles x life)
    sound = subst Sound e evaluated_sound

    -- the counts at a wanted question and with a result, and the two facts below
    pub facts : Holds (AskedFacts (table_in table)) VerdictFacts x
    unfolding Sound
    facts = sound.0

    fitting : Fitting (table_in table)
    unfolding Sound
    fitting = sound.1

  -- a wanted name
  pub wanted_name : (kind : ℕ) (n : List ℕ) (c : Counts) (l : Option ℕ) (life : ℕ)
      → evaluated client domain sender helo receiver seconds table name text ≡ settles (wanting kind n c l) life
      → is_table_name n ≡ true
  unfolding Holds
  wanted_name kind n c l life e = (facts (wanting kind n c l) life e).table_name (fitting (wanting kind n c l) life e)

  -- a wanted kind: A, PTR, MX, TXT or AAAA
  pub wanted_kind : (kind : ℕ) (n : List ℕ) (c : Counts) (l : Option ℕ) (life : ℕ)
      → evaluated client domain sender helo receiver seconds table name text ≡ settles (wanting kind n c l) life
      → AskedKind kind
  unfolding Holds
  wanted_kind kind n c l life e = (facts (wanting kind n c l) life e).asked_kind

  -- "text written only for 3"
  pub only_for_fail : (v : Verdict) (l : Option ℕ) (life : ℕ) → evaluated client domain sender helo receiver seconds table name text ≡ settles (settled v l) life → (v.value ≡ 3 → ⊥) → v.text ≡ []
  unfolding Holds
  only_for_fail v l life e n = (facts (settled v l) life e).text n
