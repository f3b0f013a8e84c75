-- A record outside the grammar is never evaluated: where a check that an evaluation reaches selects one, the whole evaluation ends in permerror with
-- the counts of that moment. By induction on how the check is reached, from the ties to the productions (Produced) and the tree of questions.
use Rattle.std.proofs.Common.{None, Option}
use Prim.Native.Nat.{ℕ, ◌≤◌, ◌<◌}
use mathlib.Core.Path.{◌≡◌, refl, sym, ap, subst, ◌∙◌}
use mathlib.Core.List.{List, []}
use native.Mathlib.Omega.{arith}
use borrow.Author.Tests.{lt-ltb}
use Rattle.text.specs.Lists.{same}
use Rattle.text.specs.Texts.{bytes}
use Rattle.domain.specs.Normal.{Naming, name, normal}
use Rattle.records.specs.Readings.{absent, present, Said, Placed}
use Rattle.rules.specs.declared.Counts.{Counts}
use Rattle.rules.specs.Tree.{Table, Check, bind, run, SettlesTo}
use Rattle.rules.proofs.Laws.Runs.{bind_to}
use Rattle.rules.specs.Mechanisms.{Mail, no, stop, Step, target, most_lookups, begun, counting}
use Rattle.rules.specs.Evaluation.{Result, Sub, include_match, check_target, begun_check, include_of, include_step, having, mechanism_step, term_step, none_is_permerror, redirect_of, no_match, after_step, try_terms, whole, no_counts, evaluation, explanation_of, verdict}
use Rattle.rules.proofs.Laws.Steps.{no_bounded}
use Rattle.rules.specs.Reached.{Selects, Begins, past_term, by_include, by_redirect, Reaches, here, below, Outside}
use Rattle.rules.proofs.Laws.Produced.{produced_runs, outside_permerror}
use Rattle.rules.specs.Zones.{zone, aside, answer, decided, mail}
use Rattle.rules.specs.ReachedExample.{rows, reached_case}

abbrev permerror : Counts → Result
permerror c = record { value = 6; counts = c; failing = absent }

-- a check that is begun, by its target
begun_check_is : (t : Table) (mail : Mail) (sub : Sub) (d spec e : List ℕ) (c z : Counts) → c.lookups < most_lookups
    → SettlesTo t (target mail d spec (begun c)) (name e) → SettlesTo t (sub (name e) (begun c)) (permerror z)
    → SettlesTo t (begun_check mail sub d spec c) (permerror z)
unfolding begun_check counting check_target
begun_check_is t mail sub d spec e c z h g p = rw (lt-ltb _ _ h) (bind_to t (target mail d spec (begun c)) (λ x. sub x (begun c)) (name e) (permerror z) g p)

-- an include's permerror stops the check
include_error : (t : Table) (mail : Mail) (sub : Sub) (d spec : List ℕ) (c z : Counts) → SettlesTo t (begun_check mail sub d spec c) (permerror z)
    → SettlesTo t (include_step mail sub d spec c) (record { match = stop 6; counts = z })
unfolding include_step include_of include_match run
include_error t mail sub d spec c z p = bind_to t (begun_check mail sub d spec c) include_of (permerror z) _ p (λ l. (l, refl))

include_is : (t : Table) (mail : Mail) (sub : Sub) (d : List ℕ) (x : Said) (spec : List ℕ) (sign : ℕ) (c : Counts)
    → x.name ≡ bytes "include" → x.sign ≡ present sign → x.argument ≡ present spec
    → term_step mail sub d x x.sign c ≡ include_step mail sub d spec c
unfolding term_step mechanism_step having same
include_is t mail sub d x spec sign c n g a = rw (g, n, a)

-- a redirect's permerror is the check's
redirect_error : (t : Table) (mail : Mail) (sub : Sub) (d spec : List ℕ) (c z : Counts) → SettlesTo t (begun_check mail sub d spec c) (permerror z)
    → SettlesTo t (no_match mail sub d (present spec) c) (permerror z)
unfolding no_match redirect_of none_is_permerror run
redirect_error t mail sub d spec c z p = bind_to t (begun_check mail sub d spec c) redirect_of (permerror z) _ p (λ l. (l, refl))

-- a permerror of the check that is begun is one of the terms
terms_error : (t : Table) (mail : Mail) (sub : Sub) (d : List ℕ) (all_terms : List Placed) {ts : List Placed} {c k : Counts} {e : List ℕ} (z : Counts)
    → Begins t mail sub d all_terms ts c e k → SettlesTo t (sub (name e) k) (permerror z) → SettlesTo t (try_terms mail sub d all_terms ts c) (permerror z)
unfolding try_terms after_step run
terms_error t mail sub d all_terms z (past_term {x = x} {ts = ts} {c = c} {l = l} m b) p =
    bind_to t (term_step mail sub d x.said x.said.sign c) _ (record { match = no; counts = l }) (permerror z) m (terms_error t mail sub d all_terms z b p)
terms_error t mail sub d all_terms z (by_include {x = x} {ts = ts} {c = c} {e = e} {spec = spec} {sign = sign} n g a h q) p =
    bind_to t (term_step mail sub d x.said x.said.sign c) _ (record { match = stop 6; counts = z }) (permerror z)
    (subst (λ (m : Check Step). SettlesTo t m (record { match = stop 6; counts = z })) (sym (include_is t mail sub d x.said spec sign c n g a))
    (include_error t mail sub d spec c z (begun_check_is t mail sub d spec e c z h q p)))
    (λ l. (l, refl))
terms_error t mail sub d all_terms z (by_redirect {c = c} {e = e} {spec = spec} r h q) p =
    rw r (redirect_error t mail sub d spec c z (begun_check_is t mail sub d spec e c z h q p))

-- a check that is begun takes one of the ten lookups
pub begins_grows : (t : Table) (mail : Mail) (d : List ℕ) (all_terms : List Placed) {ts : List Placed} {c k : Counts} {e : List ℕ}
    → Begins t mail (whole mail) d all_terms ts c e k → (c.lookups < k.lookups) × (k.lookups ≤ 10)
begins_grows t mail d all_terms (past_term {x = x} {c = c} {l = l} m b) =
    let r = begins_grows t mail d all_terms b in
    (omega (arith, (no_bounded t None (m None).0 c l mail d x.said x.said.sign (m None).1).lookups_grow, r.0), r.1)
begins_grows t mail d all_terms (by_include n g a h q) = (omega arith, omega (arith, h))
begins_grows t mail d all_terms (by_redirect r h q) = (omega arith, omega (arith, h))

-- A record outside the grammar is never evaluated. Whenever an evaluation comes, along its includes and redirects, to the check of a domain whose one
-- record is outside the grammar, the result of the whole is permerror, with the lookups begun and the void answers met just before that record was
-- selected: whatever its terms say, and whatever terms stand after the include in the records above.
pub never_evaluated : (t : Table) (mail : Mail) {x : Naming} {c k : Counts} {e : List ℕ} (s : List ℕ)
    → c.lookups ≤ 10 → Reaches t mail x c e k → Selects t e s → Outside s → SettlesTo t (whole mail x c) (record { value = 6; counts = k; failing = absent })
never_evaluated t mail {c = c} {e = e} s l here p o j = outside_permerror t mail e s c l p o j
never_evaluated t mail {k = k} s l (below {d = d} {s = r} {ts = ts} {c = c} g h y b w) p o j =
    let i = produced_runs t j mail d r ts c l g h y in
    let n = terms_error t mail (whole mail) d ts k b (never_evaluated t mail s (begins_grows t mail d ts b).1 w p o) i.0 in
    (n.0, i.1 ∙ n.1)

-- The same of an evaluation of a domain as it was given.
pub evaluation_never_evaluated : (t : Table) (mail : Mail) (domain : List ℕ) {k : Counts} {e : List ℕ} (s : List ℕ)
    → Reaches t mail (normal domain) no_counts e k → Selects t e s → Outside s
    → SettlesTo t (evaluation mail domain) (record { value = 6; counts = k; failing = absent })
unfolding evaluation
evaluation_never_evaluated t mail domain s r p o = never_evaluated t mail s (omega arith) r p o

-- And of the whole answer: permerror, those counts, and no explanation.
pub verdict_never_evaluated : (t : Table) (mail : Mail) (domain : List ℕ) {k : Counts} {e : List ℕ} (s : List ℕ)
    → Reaches t mail (normal domain) no_counts e k → Selects t e s → Outside s
    → SettlesTo t (verdict mail domain) (record { value = 6; counts = k; text = [] })
unfolding verdict explanation_of bind run
verdict_never_evaluated t mail domain {k = k} s r p o =
    bind_to t (evaluation mail domain) _ (record { value = 6; counts = k; failing = absent }) _ (evaluation_never_evaluated t mail domain s r p o) (λ l. (l, refl))

-- as in the example of specs/ReachedExample.antt
pub reached_example : answer rows ≡ decided 6 2 0
unfolding answer aside
reached_example =
    let p = verdict_never_evaluated (zone rows) mail (bytes "example.com") (bytes "v=spf1 moo") reached_case.reached reached_case.selects reached_case.outside None in
    ap aside p.1
