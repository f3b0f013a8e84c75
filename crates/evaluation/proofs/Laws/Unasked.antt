-- The first's answer depends only on what its own questions find: two accepted tables that have the same for these have the same answer but for where the
-- exp argument stands, and all of it where one table is the other with entries appended. From `agrees` of `rules` and the laws of the exp argument.
use Rattle.std.proofs.Common.{None}
use Prim.Native.Nat.{ℕ, ◌≤◌}
use mathlib.Core.Path.{◌≡◌, refl, sym, ap, subst, ◌∙◌}
use mathlib.Core.List.{List, ◌++◌}
use native.Mathlib.Omega.{arith}
use lib.ListN.{length}
use Rattle.answer_table.specs.Layout.{Entry}
use Rattle.answer_table.specs.Answers.{Encoded, most_bytes}
use Rattle.answer_table.proofs.Laws.Entries.{entries_one}
use Rattle.records.specs.Readings.{Optional}
use Rattle.rules.specs.declared.Counts.{Counts}
use Rattle.rules.specs.Tree.{Settled, run}
use Rattle.rules.specs.Lifetimes.{seconds}
use Rattle.rules.specs.Tables.{table_of}
use Rattle.rules.specs.Evaluation.{Failing, Result, evaluation}
use Rattle.rules.specs.Exp.{ExpAt, ExpOf, without, with_exp}
use Rattle.rules.proofs.Laws.Agreement.{agrees}
use Rattle.rules.proofs.Laws.Exp.{exp_one, exp_grown}
use Rattle.evaluation.specs.declared.Refusal.{Refusal}
use Rattle.evaluation.specs.First.{Lent, Handed, mail_in, Outcome, failed, answer_of, name_after, Says, Comes, decides, fails, lacks, Answers, refuses, bad_table, evaluates, Evaluates}
use Rattle.evaluation.specs.Together.{with_table, same, moved, SameButPlace, Unasked}
use Rattle.evaluation.proofs.Laws.Refusing.{refuses_fits, refuses_one, table_accepted}
use Rattle.evaluation.proofs.Laws.Deciding.{said_one}

-- two outcomes are the same, but for where the exp argument of a fail stands
data Alike (t u : List ℕ) : Outcome → Outcome → Type 0 where
  same_outcome : {o : Outcome} → Alike t u o o
  moved_exp : {c : Counts} {life : ℕ} {d x : List ℕ} {p q : ℕ} → ExpAt t d p x → ExpAt u d q x
      → Alike t u (failed c life d p (length x)) (failed c life d q (length x))

module _ (t u : List ℕ) where
  exps_alike : {c : Counts} {life : ℕ} {d : List ℕ} {exp : Optional (List ℕ)} {p q n m : ℕ} → ExpOf t d exp p n → ExpOf u d exp q m
      → Alike t u (failed c life d p n) (failed c life d q m)
  exps_alike without without = same_outcome
  exps_alike (with_exp e) (with_exp f) = moved_exp e f

  comes_alike : {x : Settled Result} {o v : Outcome} → Comes t x o → Comes u x v → Alike t u o v
  comes_alike (decides h) (decides g) = same_outcome
  comes_alike (decides h) (fails g e) = let i = sym h ∙ g in let z : ◌≡◌ {A = ℕ} 0 1 = cc in absurd (omega arith)
  comes_alike (fails h e) (decides g) = let i = sym h ∙ g in let z : ◌≡◌ {A = ℕ} 0 1 = cc in absurd (omega arith)
  comes_alike (fails {r = r} {f = f} {l = l} {place = p} {size = n} h e) (fails {f = g} {place = q} {size = m} k d) =
      let i : g ≡ f = cc in
      subst (λ (y : Failing). Alike t u (failed r.counts (seconds l) f.domain p n) (failed r.counts (seconds l) y.domain q m)) (sym i)
      (exps_alike e (subst (λ (y : Failing). ExpOf u y.domain y.exp q m) i d))
  comes_alike lacks lacks = same_outcome

  -- the answers and the buffers
  says_alike : {o v : Outcome} → Alike t u o v → (b : List ℕ) (h g : Handed) → Says o h.answer b h.name → Says v g.answer b g.name → SameButPlace t u h g
  unfolding answer_of name_after
  says_alike same_outcome b h g s r = record { answer = rw (s.answer, r.answer) same; name = s.name_buffer_lem ∙ sym r.name_buffer_lem }
  says_alike (moved_exp e f) b h g s r = record { answer = rw (s.answer, r.answer) (moved e f); name = s.name_buffer_lem ∙ sym r.name_buffer_lem }

  -- entries appended: the exp argument stands where it stood
  alike_grown : {o v : Outcome} {fs : List Entry} → Alike t u o v → (w : List ℕ) → u ≡ t ++ w → Encoded u fs → o ≡ v
  alike_grown same_outcome w e c = refl
  alike_grown {fs = fs} (moved_exp {c = k} {life = life} {d = d} {x = x} {p = p} {q = q} i j) w e c =
      let y : ExpAt u d p x = subst (λ (z : List ℕ). ExpAt z d p x) (sym e) (exp_grown i w (subst (λ (z : List ℕ). Encoded z fs) e c)) in
      ap (λ (n : ℕ). failed k life d n (length x)) (exp_one y j).0

module _ (a : Lent) {t u : List ℕ} {es fs : List Entry} (l : length t ≤ most_bytes) (p : Encoded t es) (m : length u ≤ most_bytes) (q : Encoded u fs)
    (e : run (table_of fs) None (evaluation (mail_in a) a.domain) ≡ run (table_of es) None (evaluation (mail_in a) a.domain)) where
  -- over two accepted tables that settle the same
  answers_alike : {o v : Outcome} → Answers (with_table a t) o → Answers (with_table a u) v → Alike t u o v
  answers_alike (refuses {e = i} r) (refuses s) =
      subst (λ (y : Refusal). Alike t u (Outcome.refused i) (Outcome.refused y)) (refuses_one r s) same_outcome
  answers_alike (refuses r) (bad_table f c) = absurd (refuses_fits r f)
  answers_alike (refuses r) (evaluates f h d c) = absurd (refuses_fits r f)
  answers_alike (bad_table {e = i} f c) x = absurd (table_accepted i l p c)
  answers_alike (evaluates f h d c) (refuses r) = absurd (refuses_fits r f)
  answers_alike (evaluates f h d c) (bad_table {e = i} g k) = absurd (table_accepted i m q k)
  answers_alike (evaluates {o = o} f h d c) (evaluates {o = v} g k b j) =
      comes_alike t u c
      (subst (λ (x : Settled Result). Comes u x v) (e ∙ ap (λ (ds : List Entry). run (table_of ds) None (evaluation (mail_in a) a.domain)) (entries_one p.entries d.entries))
      (subst (λ (ds : List Entry). Comes u (run (table_of ds) None (evaluation (mail_in a) a.domain)) v) (entries_one b.entries q.entries) j))

  module _ (h g : Handed) (x : Evaluates (with_table a t) h) (y : Evaluates (with_table a u) g) where
    pub same_but_place : SameButPlace t u h g
    same_but_place = says_alike t u (answers_alike x.answers y.answers) a.name h g x.says y.says

    pub grown_same : (w : List ℕ) → u ≡ t ++ w → h ≡ g
    grown_same w i =
        said_one h g x.says
        (subst (λ (o : Outcome). Says o g.answer a.name g.name) (sym (alike_grown t u (answers_alike x.answers y.answers) w i q)) y.says)

pub unasked : Unasked
unasked a t u es fs l p m q s h g x y =
    let e = agrees (table_of es) (table_of fs) None (evaluation (mail_in a) a.domain) s in
    (same_but_place a l p m q e h g x y, grown_same a l p m q e h g x y)
