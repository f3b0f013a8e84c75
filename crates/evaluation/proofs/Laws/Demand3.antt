-- Demand 3: reading a record, its terms and their arguments, and evaluating. From records' claim, `evaluation_never_evaluated` of `rules`, and that what
-- is lent determines the outcome (Deciding).
use Rattle.std.proofs.Common.{None, Ok, Err}
use Prim.Native.Nat.{ℕ, ◌≤◌, ◌<◌}
use mathlib.Core.Path.{◌≡◌, refl, sym, subst}
use mathlib.Core.Logic.{⊎_elim}
use mathlib.Core.List.{List}
use native.Mathlib.Omega.{arith}
use lib.ListN.{length}
use Rattle.text.proofs.Laws.Orders.{le_or_lt}
use Rattle.records.specs.Answers.{most_bytes}
use Rattle.records.specs.Claim.{Calls}
use Rattle.records.specs.declared.Refusal.{Refusal}
use Rattle.records.proofs.Laws.Claim.{claim}
use Rattle.rules.specs.declared.Counts.{Counts}
use Rattle.rules.specs.Lifetimes.{seconds}
use Rattle.rules.specs.Tree.{Settled}
use Rattle.rules.specs.Evaluation.{Result}
use Rattle.rules.specs.Reached.{Outside, too_long, unproduced}
use Rattle.rules.proofs.Laws.Reached.{evaluation_never_evaluated}
use Rattle.evaluation.specs.declared.Answer.{Answer}
use Rattle.rules.specs.Tables.{table_of}
use Rattle.evaluation.specs.First.{Lent, Handed, handed, mail_in, Outcome, decided, answer_of, name_after, Says, Comes, decides, evaluates}
use Rattle.evaluation.specs.Demand3.{Demand3}
use Rattle.evaluation.proofs.Laws.Deciding.{said_one, answers_one}

-- what is refused is outside the grammar
refused_outside : (s : List ℕ) (calls : Calls s) (e : Refusal) → calls.record_answer ≡ Err e → Outside s
refused_outside s calls r e = ⊎_elim
    (λ (h : length s ≤ most_bytes). unproduced (λ ts r.
    let x = (claim s calls).accepts.1 (h, (ts, r)) in
    let q = x.1 in
    let z : ◌≡◌ {A = ℕ} 0 1 = cc in
    omega arith))
    (λ (h : most_bytes < length s). too_long h)
    (le_or_lt (length s) most_bytes)

-- what a permerror hands back
permerror_handed : (a : Lent) (h : Handed) (o : Outcome) (k : Counts) (life : ℕ) → Says o h.answer a.name h.name → o ≡ decided 6 k life
    → h ≡ handed (Ok (Answer.Decided 6 k life)) a.name
unfolding answer_of name_after
permerror_handed a h o k life s e = said_one h (handed (Ok (Answer.Decided 6 k life)) a.name) s (rw e (record { answer = refl; name_buffer_lem = refl }))

pub demand3 : (s : List ℕ) (calls : Calls s) → Demand3 s calls
demand3 s calls = record {
  reads = claim s calls;
  never = λ x refused a h evaluates_a fit es small encoded d k reached selects.
      let p = evaluation_never_evaluated (table_of es) (mail_in a) a.domain s reached selects (refused_outside s calls x refused) None in (
        seconds p.0,
        permerror_handed a h evaluates_a.outcome k (seconds p.0) evaluates_a.says
            (answers_one a evaluates_a.answers
            (evaluates fit small encoded (subst (λ (x : Settled Result). Comes a.table x (decided 6 k (seconds p.0))) (sym p.1) (decides refl)))),
      );
}
