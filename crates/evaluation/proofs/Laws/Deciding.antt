-- The first call: the check of a domain as it was given, its answer, and the refusals before it: one rule for each way out of their functions; and that
-- what is lent determines what is handed back. From the definitions of First, the inversions of the answers below, and the laws of the exp argument.
use Rattle.std.proofs.Common.{None, Option, Some, Ok, Err, Result as Either}
use Prim.Native.Nat.{ℕ, ◌-◌, ◌≤◌}
use mathlib.Core.Path.{◌≡◌, refl, sym, ap, subst, ◌∙◌}
use mathlib.Core.List.{List, map}
use native.Mathlib.Omega.{arith}
use lib.Dec.{leb}
use lib.ListN.{length, take, drop, length-take}
use lib.Seq.{take_at}
use Rattle.text.specs.Bytes.{part, lower}
use Rattle.text.specs.Writing.{overwritten}
use Rattle.text.specs.declared.spans.Span.{Span}
use Rattle.text.proofs.Laws.Spans.{front_part}
use Rattle.text.proofs.Laws.Tests.{cond-elim}
use Rattle.text.proofs.Laws.Writing.{over_fits}
use Rattle.address.specs.declared.Address.{Address}
use Rattle.address.specs.Octets.{as_client}
use Rattle.domain.specs.Names.{is_name}
use Rattle.domain.specs.Normal.{Naming, name, malformed, without_dot, lowered, normal, name_answer, name_buffer}
use Rattle.answer_table.specs.Layout.{Entry, Entries}
use Rattle.answer_table.specs.declared.TableError.{TableError}
use Rattle.answer_table.specs.Numbers.{accepted}
use Rattle.answer_table.specs.Answers.{TableAnswers, Encoded, whole as whole-table}
use Rattle.answer_table.specs.Reader.{check_table}
use Rattle.answer_table.proofs.Laws.Entries.{entries_complete, entries_one}
use Rattle.records.specs.Readings.{present}
use Rattle.records.specs.Opening.{argument_in}
use Rattle.rules.specs.declared.Counts.{Counts}
use Rattle.rules.specs.declared.Progress.{Progress}
use Rattle.rules.specs.declared.Wanted.{Wanted}
use Rattle.rules.specs.declared.Checked.{Checked}
use Rattle.rules.specs.declared.FailingPlace.{FailingPlace}
use Rattle.rules.specs.Tree.{Settled, settled, Check, run}
use Rattle.rules.specs.Lifetimes.{seconds}
use Rattle.rules.specs.Tables.{table_in, table_of}
use Rattle.rules.specs.Mechanisms.{Mail}
use Rattle.rules.specs.Evaluation.{Failing, failing_at, Result, check_name, check, whole, no_counts, evaluation}
use Rattle.rules.specs.Exp.{ExpOf, without, with_exp}
use Rattle.rules.specs.Outcomes.{mail_of, span_of, failing_of, ExpStands, FailingAt, After, Ends, PlacedAt, SaysCheck}
use Rattle.rules.proofs.Laws.Exp.{exp_of_one}
use Rattle.rules.proofs.Laws.Inversions.{checked_result, checked_wants, checked_give}
use Rattle.target_name.proofs.Laws.Naming.{Short, name_short}
use Rattle.evaluation.specs.declared.Answer.{Answer}
use Rattle.evaluation.specs.declared.Refusal.{Refusal}
use Rattle.evaluation.specs.Checks.{ended_of}
use Rattle.evaluation.specs.Evaluating.{has_name_room, refusal_of}
use Rattle.evaluation.specs.First.{Lent, lent, Handed, handed, Fit, Outcome, refused, failed, wants, answer_of, name_after, Says, Comes, decides, fails, lacks, Answers, refuses, bad_table, evaluates, Evaluates, place_of, size_of, finished, Decides}
use Rattle.evaluation.proofs.Laws.Refusing.{refused_by_lem, fits_by, refuses_fits, refuses_one, table_accepted, table_refused_one, table_said}

-- an outcome has one answer, and leaves the buffer in one way
pub said_one : {o : Outcome} {b : List ℕ} (h g : Handed) → Says o h.answer b h.name → Says o g.answer b g.name → h ≡ g
said_one h g s r =
    ap (λ (x : Either Answer Refusal). handed x h.name) (s.answer ∙ sym r.answer) ∙ ap (λ (x : List ℕ). handed g.answer x) (s.name_buffer_lem ∙ sym r.name_buffer_lem)

-- the table that bytes encode, by the list of entries
pub table_is : {t : List ℕ} {es : List Entry} → Entries t es → table_in t ≡ table_of es
unfolding table_in table_of
table_is p = ap table_of (entries_complete p)

-- a given domain's name has at most 253 bytes
normal_short : (s : List ℕ) → Short (normal s)
unfolding normal lowered Short
normal_short s = cond-elim Short (is_name (map lower (without_dot s))) (λ e. name_short (map lower (without_dot s)) e) (λ _. tt)

-- what was written at the front of a buffer
pub over_front : (xs before : List ℕ) → length xs ≤ length before → take (length xs) (overwritten xs before) ≡ xs
over_front xs before h = rw (over_fits xs before h) (take_at xs (drop (length xs) before) (length xs) refl)

-- check_given: from where nothing has been asked
abbrev begun : Progress
begun = record { counts = no_counts; life = None }

module _ (domain : List ℕ) (r : Option ℕ) (p : r ≡ name_answer (normal domain)) where
  pub malformed_is : (x : Naming) → r ≡ name_answer x → r ≡ None → x ≡ malformed
  malformed_is (name s) q e = let z : ◌≡◌ {A = ℕ} 0 1 = cc in absurd (omega arith)
  malformed_is malformed q e = refl

  module _ (n : ℕ) (e : r ≡ Some n) (z to : List ℕ) (w : to ≡ name_buffer (normal domain) z) (room : 253 ≤ length z) where
    pub written : (normal domain ≡ name (take n to)) × (n ≤ 253)
    unfolding Short
    written = by (normal domain) (normal_short domain) (sym e ∙ p) w
      where
        by : (x : Naming) → Short x → Some n ≡ name_answer x → to ≡ name_buffer x z → (x ≡ name (take n to)) × (n ≤ 253)
        by (name s) h q v =
            let j : n ≡ length s = cc in
            let g = over_front s z (omega (arith, h)) in
            (rw (v, j) (ap name (sym g)), omega (arith, j, h))
        by malformed h q v = let z : ◌≡◌ {A = ℕ} 0 1 = cc in absurd (omega arith)

    pub given_small : (d : List ℕ) → d ≡ part to 0 n → length d ≤ 253
    given_small d i = let k = written.1 in rw (i, front_part to n) (simp length-take (omega arith))

    pub given_checked : (t : List ℕ) (mail : Mail) (q : Progress) → q ≡ begun → (b : List ℕ) (o : After Ends) (d a : List ℕ) → d ≡ part to 0 n
        → SaysCheck t (run (table_in t) q.life (whole mail (name d) q.counts)) o b a
        → SaysCheck t (run (table_in t) q.life (evaluation mail domain)) o b a
    unfolding evaluation
    given_checked t mail q g b o d a i f =
        let j : d ≡ take n to = i ∙ front_part to n in
        rw (g, written.0, ← j) (rw g at f)

  pub given_malformed : (t : List ℕ) (mail : Mail) (q : Progress) → q ≡ begun → (b : List ℕ) → r ≡ None → (o : Checked) → o ≡ ended_of 0
      → SaysCheck t (run (table_in t) q.life (evaluation mail domain)) (record { answer = Ok o; counts = q.counts; life = q.life }) b b
  unfolding evaluation check check_name failing_of FailingAt
  given_malformed t mail q g b e o h = rw (g, malformed_is (normal domain) p e, h) (checked_give t (table_in t) _ (ended_of 0) no_counts None b (refl, refl) refl tt)

-- finish
module _ (t : List ℕ) (v : ℕ) (c : Counts) (life : ℕ) (f : Option FailingPlace) (b : List ℕ) where
  pub finish_nowhere : f ≡ None → Says (finished t v c life f) (Ok (Answer.Decided v c life)) b b
  unfolding finished answer_of name_after
  finish_nowhere e = rw e (record { answer = refl; name_buffer_lem = refl })

  module _ (place : FailingPlace) (e : f ≡ Some place) where
    pub finish_order : FailingAt t f → (x : Span) → place.exp ≡ Some x → x.from ≤ x.to
    unfolding FailingAt ExpStands
    finish_order h x q =
        let p = subst (ExpStands t (span_of t place.domain)) q (subst (FailingAt t) e h).stands in
        omega (arith, p.1)

    module _ (d : List ℕ) (i : d ≡ span_of t place.domain) (a : List ℕ) (w : a ≡ overwritten d b) where
      pub finish_absent : place.exp ≡ None → Says (finished t v c life f) (Ok (Answer.Fail c life (length d) 0 0)) b a
      unfolding finished answer_of name_after place_of size_of
      finish_absent q = rw (e, q, ← i) (record { answer = refl; name_buffer_lem = w })

      pub finish_part : (x : Span) → place.exp ≡ Some x → Says (finished t v c life f) (Ok (Answer.Fail c life (length d) x.from (x.to - x.from))) b a
      unfolding finished answer_of name_after place_of size_of
      finish_part x q = rw (e, q, ← i) (record { answer = refl; name_buffer_lem = w })

-- a result with the record that failed, as what the table settles comes to
finished_comes : (t : List ℕ) (v : ℕ) (c : Counts) (l : Option ℕ) (f : Option FailingPlace) → FailingAt t f → (es : List Entry) → Encoded t es
    → Comes t (settled (record { value = v; counts = c; failing = failing_of t f }) l) (finished t v c (seconds l) f)
unfolding finished failing_of FailingAt ExpStands argument_in place_of size_of
finished_comes t v c l None h es e = decides refl
finished_comes t v c l (Some f) h es e = by f.exp h.stands
  where
    by : (x : Option Span) → ExpStands t (span_of t f.domain) x
        → Comes t (settled (record { value = v; counts = c; failing = present (failing_at (span_of t f.domain) (argument_in t x)) }) l)
        (failed c (seconds l) (span_of t f.domain) (place_of x) (size_of x))
    by None p = fails refl without
    by (Some x) p =
        let n : length (span_of t x) ≡ x.to - x.from = omega (arith, p.1) in
        fails refl (subst (ExpOf t (span_of t f.domain) (present (span_of t x)) x.from) n (with_exp (p.2 es e)))

-- decide
module _ (t : List ℕ) (m : Check Result) (o : Ends) (c : Counts) (l : Option ℕ) (b a : List ℕ)
    (s : SaysCheck t (run (table_in t) None m) (record { answer = o; counts = c; life = l }) b a) (life : ℕ) (i : life ≡ seconds l) where
  pub decide_placed : (k : Checked) → o ≡ Ok k → FailingAt t k.failing
  unfolding PlacedAt
  decide_placed k e = subst (PlacedAt t) e s.placed

  pub decide_wants : (q : Wanted) → o ≡ Err q → Decides t m (Ok (Answer.Wanting q c life)) b a
  unfolding answer_of name_after
  decide_wants q e =
      let w = checked_wants t _ _ b a s q e in
      record {
        outcome = wants q.kind w.asked c life;
        comes = λ es x. subst (λ (y : Settled Result). Comes t y (wants q.kind w.asked c life)) (sym w.is) (rw i lacks);
        says = record { answer = ap (λ (n : ℕ). Ok (Answer.Wanting (record { kind = q.kind; length = n }) c life)) w.size_is; name_buffer_lem = w.buffer };
      }

  pub decide_result : (k : Checked) → o ≡ Ok k → (r : Answer) (z : List ℕ) → Says (finished t k.value c life k.failing) (Ok r) a z → Decides t m (Ok r) b z
  decide_result k e r z h =
      let g = checked_result t _ _ b a s k e in
      record {
        outcome = finished t k.value c life k.failing;
        comes = λ es x. subst (λ (y : Settled Result). Comes t y (finished t k.value c life k.failing)) (sym g.is)
            (rw i (finished_comes t k.value c l k.failing (decide_placed k e) es x));
        says = subst (λ (y : List ℕ). Says (finished t k.value c life k.failing) (Ok r) y z) g.kept h;
      }

-- evaluate
module _ (client : Address) (domain sender helo receiver : List ℕ) (seconds : ℕ) (table name : List ℕ) (r : Either Unit Refusal)
    (e : r ≡ refusal_of domain sender helo receiver (length name)) where
  pub evaluated_refused : (x : Refusal) → r ≡ Err x → Evaluates (lent client domain sender helo receiver seconds table name) (handed (Err x) name)
  unfolding has_name_room answer_of name_after
  evaluated_refused x h = record {
    outcome = refused x;
    answers = refuses (refused_by_lem domain sender helo receiver (length name) r e (leb 253 (length name)) x h (λ q. q));
    says = record { answer = refl; name_buffer_lem = refl };
  }

  module _ (z : Unit {0}) (h : r ≡ Ok z) where
    fit : Fit (lent client domain sender helo receiver seconds table name)
    unfolding has_name_room
    fit = fits_by domain sender helo receiver (length name) r e (leb 253 (length name)) z h (λ q. q)

    module _ (a : Either ℕ TableError) (q : a ≡ check_table table) where
      pub evaluated_bad : (x : TableError) → a ≡ Err x → Evaluates (lent client domain sender helo receiver seconds table name) (handed (Err (Refusal.Table x)) name)
      unfolding answer_of name_after
      evaluated_bad x k = record { outcome = refused (Refusal.Table x); answers = bad_table fit (table_said q (Err x) k); says = record { answer = refl; name_buffer_lem = refl } }

      pub evaluated_decided : (m : ℕ) → a ≡ Ok m → (c : Address) → c ≡ as_client client → (x : Answer) (name' : List ℕ)
          → Decides table (evaluation (mail_of c sender helo receiver seconds) domain) (Ok x) name name'
          → Evaluates (lent client domain sender helo receiver seconds table name) (handed (Ok x) name')
      evaluated_decided m k c i x name' s = by (table_said q (Ok m) k)
        where
          by : {j : ℕ} → TableAnswers table (accepted j) → Evaluates (lent client domain sender helo receiver seconds table name) (handed (Ok x) name')
          by (whole-table {es = es} l w) = record {
            outcome = s.outcome;
            answers = evaluates fit l w (rw (i, table_is w.entries) at (s.comes es w));
            says = s.says;
          }

-- what is lent determines the outcome
comes_one : {t : List ℕ} {x : Settled Result} {o u : Outcome} → Comes t x o → Comes t x u → o ≡ u
comes_one (decides h) (decides g) = refl
comes_one (decides h) (fails g e) = let i = sym h ∙ g in let z : ◌≡◌ {A = ℕ} 0 1 = cc in absurd (omega arith)
comes_one (fails h e) (decides g) = let i = sym h ∙ g in let z : ◌≡◌ {A = ℕ} 0 1 = cc in absurd (omega arith)
comes_one {t} (fails {r = r} {f = f} {l = life} {place = p} {size = n} h e) (fails {f = g} {place = q} {size = m} k d) =
    let i : g ≡ f = cc in
    let k' = exp_of_one e (subst (λ (y : Failing). ExpOf t y.domain y.exp q m) i d) in
    ap (λ (y : List ℕ). failed r.counts (seconds life) y p n) (ap (λ (y : Failing). y.domain) (sym i))
    ∙ ap (λ (y : ℕ). failed r.counts (seconds life) g.domain y n) k'.0 ∙ ap (failed r.counts (seconds life) g.domain q) k'.1
comes_one lacks lacks = refl

pub answers_one : (a : Lent) {o u : Outcome} → Answers a o → Answers a u → o ≡ u
answers_one a (refuses r) (refuses s) = ap refused (refuses_one r s)
answers_one a (refuses r) (bad_table f c) = absurd (refuses_fits r f)
answers_one a (refuses r) (evaluates f h e c) = absurd (refuses_fits r f)
answers_one a (bad_table f c) (refuses r) = absurd (refuses_fits r f)
answers_one a (bad_table {e = x} f c) (bad_table {e = y} g d) = ap (λ (x : TableError). refused (Refusal.Table x)) (table_refused_one x y c d)
answers_one a (bad_table {e = x} f c) (evaluates g h e d) = absurd (table_accepted x h e c)
answers_one a (evaluates f h e c) (refuses r) = absurd (refuses_fits r f)
answers_one a (evaluates f h e c) (bad_table {e = x} g d) = absurd (table_accepted x h e d)
answers_one a (evaluates f h e c) (evaluates g k d b) = comes_one c (rw (entries_one d.entries e.entries) at b)

pub first_one : (a : Lent) (h g : Handed) → Evaluates a h → Evaluates a g → h ≡ g
first_one a h g e d =
    said_one h g e.says (subst (λ (o : Outcome). Says o g.answer a.name g.name) (answers_one a d.answers e.answers) d.says)
