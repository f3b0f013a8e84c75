-- A lookup that is begun, the check of a domain up to its record, include and redirect: one rule for each way out of their functions.
-- From the definitions of the evaluation, its unfolding (Enough) and the inversions of the answers of the functions below.
use Rattle.std.proofs.Common.{true, false, None, Option, Some, Ok, Err, Result as Outcome}
use Prim.Native.Nat.{ℕ, ◌≤◌, ◌<◌}
use mathlib.Core.Path.{◌≡◌, refl, ap, subst, ◌∙◌}
use mathlib.Core.List.{List}
use mathlib.Core.Bool.{Bool, cond}
use native.Mathlib.Omega.{arith}
use lib.Dec.{eqb}
use lib.ListN.{length, take, length-take}
use borrow.Author.Tests.{lt-ltb, le-ltb, le-leb, lt-leb}
use Rattle.text.specs.Bytes.{part}
use Rattle.text.specs.Writing.{overwritten}
use Rattle.text.specs.declared.spans.Span.{Span}
use Rattle.text.proofs.Laws.Spans.{front_part}
use Rattle.domain.specs.Names.{label_count}
use Rattle.domain.specs.Normal.{name, malformed}
use Rattle.records.specs.Readings.{absent}
use Rattle.records.specs.Reader.{read_record}
use Rattle.records.specs.Numbers.{said_of}
use Rattle.records.specs.declared.Term.{Term}
use Rattle.records.specs.Opening.{argument_in}
use Rattle.rules.specs.declared.Counts.{Counts}
use Rattle.rules.specs.declared.Progress.{Progress}
use Rattle.rules.specs.declared.Wanted.{Wanted}
use Rattle.rules.specs.declared.Ending.{Ending}
use Rattle.rules.specs.declared.Selected.{Selected}
use Rattle.rules.specs.declared.LookedUp.{LookedUp}
use Rattle.rules.specs.declared.Checked.{Checked}
use Rattle.rules.specs.Tree.{Table, Check, bind, run}
use Rattle.rules.specs.Tables.{table_in}
use Rattle.rules.specs.Mechanisms.{Mail, yes, no, stop, target, begun, counting}
use Rattle.rules.specs.Evaluation.{Sub, Result, Selection, ends, one, ended, check_target, begun_check, include_match, include_of, include_step, term_step, none_is_permerror, redirect_of, no_match, read_outcome, record_lookup, after_lookup, check_name, check, whole, no_counts}
use Rattle.rules.specs.Outcomes.{Settles, Gives, Wants, wanted_of, After, Matched, matched_of, SaysStep, Target, SaysTarget, span_of, SaysSelection, failing_of, FailingAt, Ends, PlacedAt, Unchanged, SaysCheck}
use Rattle.rules.proofs.Laws.Runs.{bind_is, settles_to}
use Rattle.rules.proofs.Laws.Enough.{whole_unfolds}
use Rattle.rules.proofs.Laws.Inversions.{gives_bind, wants_bind, step_gives, step_wanted, target_name, target_malformed, target_wants, lookup_ends, lookup_one, lookup_missing, checked_result, checked_wants, checked_gives, checked_give, checked_wanted}
use Rattle.mechanisms.specs.declared.Tried.{Tried}
use Rattle.mechanisms.specs.Terms.{TriedIs}
use Rattle.evaluation.specs.Checks.{ended_of, SelectedAt, redirected_of, included_now}

-- a result that no record's sign gives
pub says_ended : (t : List ℕ) (u : Table) (v : ℕ) (c : Counts) (l : Option ℕ) (o : Checked) (b : List ℕ) → o ≡ ended_of v
    → SaysCheck t (run u l (ended v c)) (record { answer = Ok o; counts = c; life = l }) b b
unfolding failing_of FailingAt
says_ended t u v c l o b e = rw e (checked_give t u _ (ended_of v) c l b (refl, refl) refl tt)

-- begin_check
module _ (t : List ℕ) (mail : Mail) (d spec : List ℕ) (c : Counts) (l : Option ℕ) (b : List ℕ) where
  pub begin_eleventh : 10 ≤ c.lookups → (o : Checked) → o ≡ ended_of 6
      → SaysCheck t (run (table_in t) l (begun_check mail (whole mail) d spec c)) (record { answer = Ok o; counts = c; life = l }) b b
  unfolding begun_check counting
  begin_eleventh h o e = rw (le-ltb _ _ h) (says_ended t (table_in t) 6 c l o b e)

  begun_is : c.lookups < 10 → run (table_in t) l (begun_check mail (whole mail) d spec c) ≡ run (table_in t) l (check_target mail (whole mail) d spec (begun c))
  unfolding begun_check counting
  begun_is h = rw (lt-ltb _ _ h)

  module _ (h : c.lookups < 10) (r : Target) (k : Counts) (j : Option ℕ) (to a : List ℕ) (y : List ℕ) (f : y ≡ d)
      (s : SaysTarget (begun c) (run (table_in t) l (target mail y spec (begun c))) (record { answer = r; counts = k; life = j }) to b a) where
    here : SaysTarget (begun c) (run (table_in t) l (target mail d spec (begun c))) (record { answer = r; counts = k; life = j }) to b a
    here = rw (← f) s

    none_below : (o : Checked) → o ≡ ended_of 0 → SaysCheck t (run (table_in t) j (whole mail malformed (begun c))) (record { answer = Ok o; counts = begun c; life = j }) a a
    unfolding check check_name
    none_below o e = says_ended t (table_in t) 0 (begun c) j o a e

    pub begin_malformed : (x : Option ℕ) → r ≡ Ok x → x ≡ None → (o : Checked) → o ≡ ended_of 0
        → SaysCheck t (run (table_in t) l (begun_check mail (whole mail) d spec c)) (record { answer = Ok o; counts = k; life = j }) b a
    unfolding check_target
    begin_malformed x q n o e =
        let g = target_malformed (begun c) _ (record { answer = r; counts = k; life = j }) to b a here (q ∙ ap Ok n) in
        rw (begun_is h, bind_is (table_in t) l (target mail d spec (begun c)) (λ x. whole mail x (begun c)) malformed j g.0.is, ← g.0.kept, g.1) (none_below o e)

    pub begin_wants : (w : Wanted) → r ≡ Err w
        → SaysCheck t (run (table_in t) l (begun_check mail (whole mail) d spec c)) (record { answer = Err w; counts = k; life = j }) b a
    unfolding check_target
    begin_wants w q =
        let g = target_wants (begun c) _ (record { answer = r; counts = k; life = j }) to b a here w q in
        rw (begun_is h, g.1)
        (checked_wanted t _ w (begun c) j b a
        (wants_bind (table_in t) l (target mail d spec (begun c)) (λ x. whole mail x (begun c)) w.kind w.length (begun c) j b a g.0))

    module _ (x : Option ℕ) (q : r ≡ Ok x) (m : ℕ) (n : x ≡ Some m) where
      -- the target fits a domain, and its lookup is counted
      named : Gives (run (table_in t) l (target mail d spec (begun c))) (name (take m to)) j b a × (m ≤ 253) × (m ≡ length (take m to)) × (k ≡ begun c)
      named = target_name (begun c) _ (record { answer = r; counts = k; life = j }) to b a here m (q ∙ ap Ok n)

      pub target_small : (e : List ℕ) → e ≡ part to 0 m → length e ≤ 253
      target_small e i = let g = named.1 in rw (i, front_part to m) (simp length-take (omega arith))

      pub target_counts : k ≡ begun c
      target_counts = named.3

      pub begin_checked : (e : List ℕ) → e ≡ part to 0 m → (o : After Ends) (z : List ℕ) → SaysCheck t (run (table_in t) j (whole mail (name e) k)) o a z
          → SaysCheck t (run (table_in t) l (begun_check mail (whole mail) d spec c)) o b z
      unfolding check_target
      begin_checked e i o z g =
          let v = named.0 in
          let w : e ≡ take m to = i ∙ front_part to m in
          rw (begun_is h, bind_is (table_in t) l (target mail d spec (begun c)) (λ x. whole mail x (begun c)) (name (take m to)) j v.is, ← w, ← v.kept, ← target_counts) g

-- check_domain
module _ (t : List ℕ) (mail : Mail) (d : List ℕ) (c : Counts) (l : Option ℕ) (small : c.lookups ≤ 10) (b : List ℕ) (k : ℕ) (is : k ≡ label_count d) where
  pub domain_single : k ≤ 1 → (o : Checked) → o ≡ ended_of 0
      → SaysCheck t (run (table_in t) l (whole mail (name d) c)) (record { answer = Ok o; counts = c; life = l }) b b
  unfolding check check_name
  domain_single h o e = rw (← is, le-leb _ _ h) (says_ended t (table_in t) 0 c l o b e)

  module _ (h : 1 < k) (r : LookedUp) (s : SaysSelection d t l r) where
    looked_up : run (table_in t) l (whole mail (name d) c) ≡ run (table_in t) l (bind (record_lookup d c) (after_lookup mail (whole mail) d c))
    unfolding check_name
    looked_up = whole_unfolds (table_in t) l mail (name d) c small ∙ rw (← is, lt-leb _ _ h)

    selected : (x : Selection) → Settles (run (table_in t) l (record_lookup d c)) x r.life
        → run (table_in t) l (whole mail (name d) c) ≡ run (table_in t) r.life (after_lookup mail (whole mail) d c x)
    selected x g = looked_up ∙ bind_is (table_in t) l (record_lookup d c) (after_lookup mail (whole mail) d c) x r.life g

    pub domain_ends : (v : ℕ) → r.selected ≡ Selected.Ends v → (o : Checked) → o ≡ ended_of v
        → SaysCheck t (run (table_in t) l (whole mail (name d) c)) (record { answer = Ok o; counts = c; life = r.life }) b b
    unfolding after_lookup
    domain_ends v q o e = rw (selected (ends v) (lookup_ends c d t _ r (s c) v q)) (says_ended t (table_in t) v c r.life o b e)

    pub domain_missing : r.selected ≡ Selected.Missing → (a : List ℕ) → a ≡ overwritten d b
        → SaysCheck t (run (table_in t) l (whole mail (name d) c)) (record { answer = Err (wanted_of 16 d); counts = c; life = r.life }) b a
    domain_missing q a w =
        let g : Wants (run (table_in t) l (record_lookup d c)) 16 (length d) c r.life b a = record { asked = d; is = lookup_missing c d t _ r (s c) q; size_is = refl; buffer = w } in
        rw looked_up (checked_wanted t _ (wanted_of 16 d) c r.life b a (wants_bind (table_in t) l (record_lookup d c) (after_lookup mail (whole mail) d c) 16 (length d) c r.life b a g))

    module _ (place text : Span) (q : r.selected ≡ Selected.One place text) where
      pub domain_one : (o : After Ends) (z : List ℕ)
          → SaysCheck t (run (table_in t) r.life (read_outcome mail (whole mail) (span_of t place) (span_of t text) (read_record (span_of t text)) c)) o b z
          → SaysCheck t (run (table_in t) l (whole mail (name d) c)) o b z
      unfolding after_lookup
      domain_one o z f =
          let g = lookup_one c d t _ r (s c) place text q in
          rw (selected (one (span_of t text)) g.0, ← g.1.named) f

-- the record that was selected, where it stands
pub domain_selected : (t d : List ℕ) (l : Option ℕ) → length d ≤ 253 → (k : ℕ) → k ≡ label_count d → 1 < k → (r : LookedUp) → SaysSelection d t l r
    → (place text : Span) → r.selected ≡ Selected.One place text → SelectedAt t place text
domain_selected t d l small k is h r s place text q =
    let g = lookup_one no_counts d t _ r (s no_counts) place text q in
    let e : span_of t place ≡ d = g.1.named in
    record { labels = rw (e, ← is) h; short = rw e small; selected = rw e (settles_to (table_in t) (record_lookup d no_counts) (one (span_of t text)) l r.life g.0); stands = rw e g.1.stands }

included_is : (v : ℕ) → matched_of (include_match v) ≡ included_now v
unfolding include_match included_now matched_of
included_is v = by (eqb v 2) (eqb v 5) (eqb v 6) (eqb v 0)
  where
    by : (x y z w : Bool) → matched_of (cond x yes (cond y (stop 5) (cond z (stop 6) (cond w (stop 6) no))))
        ≡ cond x (Ok true) (cond y (Err (Ending.Result 5)) (cond z (Err (Ending.Result 6)) (cond w (Err (Ending.Result 6)) (Ok false))))
    by true y z w = refl
    by false true z w = refl
    by false false true w = refl
    by false false false true = refl
    by false false false false = refl

-- include and redirect, by the answer of the check below them
module _ (t : List ℕ) (u : Table) (l : Option ℕ) (m : Check Result) (o : Ends) (c : Counts) (j : Option ℕ) (b a : List ℕ)
    (s : SaysCheck t (run u l m) (record { answer = o; counts = c; life = j }) b a) where
  includes : (k : Checked) → o ≡ Ok k → SaysStep (run u l (bind m include_of)) (record { answer = included_now k.value; counts = c; life = j }) b a
  unfolding include_of
  includes k e =
      step_gives _ (record { match = include_match k.value; counts = c }) j _ b a
      (gives_bind u l m include_of _ _ j b a (checked_result t _ _ b a s k e) refl) (rw (included_is k.value))

  include_lacks : (w : Wanted) → o ≡ Err w → SaysStep (run u l (bind m include_of)) (record { answer = Err (Ending.Wanting w); counts = c; life = j }) b a
  include_lacks w e = step_wanted _ w c j b a (wants_bind u l m include_of w.kind w.length c j b a (checked_wants t _ _ b a s w e))

  redirects_by : (k : Checked) → FailingAt t k.failing → (x : Bool)
      → Gives (run u l (bind m redirect_of))
      (cond x (record { value = 6; counts = c; failing = absent }) (record { value = k.value; counts = c; failing = failing_of t k.failing })) j b a
      → SaysCheck t (run u l (bind m redirect_of)) (record { answer = Ok (cond x (ended_of 6) k); counts = c; life = j }) b a
  unfolding failing_of FailingAt
  redirects_by k p true g = checked_gives t _ _ (ended_of 6) c j b a g (refl, refl) refl tt
  redirects_by k p false g = checked_gives t _ _ k c j b a g (refl, refl) refl p

  redirects : (k : Checked) → o ≡ Ok k → SaysCheck t (run u l (bind m redirect_of)) (record { answer = Ok (redirected_of k); counts = c; life = j }) b a
  unfolding redirect_of none_is_permerror redirected_of PlacedAt
  redirects k e =
      redirects_by k (subst (PlacedAt t) e s.placed) (eqb k.value 0) (gives_bind u l m redirect_of _ _ j b a (checked_result t _ _ b a s k e) refl)

  redirect_lacks : (w : Wanted) → o ≡ Err w → SaysCheck t (run u l (bind m redirect_of)) (record { answer = Err w; counts = c; life = j }) b a
  redirect_lacks w e = checked_wanted t _ w c j b a (wants_bind u l m redirect_of w.kind w.length c j b a (checked_wants t _ _ b a s w e))

-- include
module _ (t : List ℕ) (mail : Mail) (d spec : List ℕ) (c : Counts) (l : Option ℕ) (o : Ends) (k : Counts) (j : Option ℕ) (b a : List ℕ)
    (s : SaysCheck t (run (table_in t) l (begun_check mail (whole mail) d spec c)) (record { answer = o; counts = k; life = j }) b a) where
  pub include_done : (x : Checked) → o ≡ Ok x → (r : Matched) → r ≡ included_now x.value
      → SaysStep (run (table_in t) l (include_step mail (whole mail) d spec c)) (record { answer = r; counts = k; life = j }) b a
  unfolding include_step
  include_done x e r i = rw i (includes t (table_in t) l (begun_check mail (whole mail) d spec c) o k j b a s x e)

  pub include_wants : (w : Wanted) → o ≡ Err w
      → SaysStep (run (table_in t) l (include_step mail (whole mail) d spec c)) (record { answer = Err (Ending.Wanting w); counts = k; life = j }) b a
  unfolding include_step
  include_wants w e = include_lacks t (table_in t) l (begun_check mail (whole mail) d spec c) o k j b a s w e

-- try_term
module _ (t : List ℕ) (mail : Mail) (d e : List ℕ) (f : e ≡ d) (w : List ℕ) (x : Term) (p q : Progress) (b a : List ℕ) (r : Outcome Tried Ending) (g : TriedIs t mail e w x p q r b a) where
  pub tried_ends : (i : Ending) → r ≡ Err i
      → SaysStep (run (table_in t) p.life (term_step mail (whole mail) d (said_of w x) (said_of w x).sign p.counts)) (record { answer = Err i; counts = q.counts; life = q.life }) b a
  unfolding TriedIs
  tried_ends i h = rw (← f) (subst (λ (r : Outcome Tried Ending). TriedIs t mail e w x p q r b a) h g (whole mail))

  module _ (y : Tried) (z : r ≡ Ok y) where
    told : TriedIs t mail e w x p q (Ok y) b a
    told = subst (λ (r : Outcome Tried Ending). TriedIs t mail e w x p q r b a) z g

    pub tried_matches : (m : Bool) → y ≡ Tried.Matches m
        → SaysStep (run (table_in t) p.life (term_step mail (whole mail) d (said_of w x) (said_of w x).sign p.counts)) (record { answer = Ok m; counts = q.counts; life = q.life }) b a
    unfolding TriedIs
    tried_matches m h = rw (← f) (subst (λ (y : Tried). TriedIs t mail e w x p q (Ok y) b a) h told (whole mail))

    module _ (i : Span) (h : y ≡ Tried.Include i) where
      as_include : Unchanged p q b a × ((sub : Sub) → term_step mail sub e (said_of w x) (said_of w x).sign p.counts ≡ include_step mail sub e (part w i.from i.to) p.counts)
      unfolding TriedIs
      as_include = subst (λ (y : Tried). TriedIs t mail e w x p q (Ok y) b a) h told

      pub tried_counts : q.counts ≡ p.counts
      tried_counts = as_include.0.counts_kept

      pub tried_include : (v : List ℕ) → v ≡ part w i.from i.to → (o : After Matched) (u : List ℕ)
          → SaysStep (run (table_in t) q.life (include_step mail (whole mail) d v q.counts)) o a u
          → SaysStep (run (table_in t) p.life (term_step mail (whole mail) d (said_of w x) (said_of w x).sign p.counts)) o b u
      tried_include v j o u n =
          let k = as_include in
          rw (← f, k.1 (whole mail), ← j, ← k.0.counts_kept, ← k.0.life_kept, ← k.0.name_kept, f) n

-- no_match
module _ (t : List ℕ) (mail : Mail) (d s : List ℕ) (c : Counts) (l : Option ℕ) (r : Option Span) (b : List ℕ) where
  pub nothing_left : r ≡ None → (o : Checked) → o ≡ ended_of 1
      → SaysCheck t (run (table_in t) l (no_match mail (whole mail) d (argument_in s r) c)) (record { answer = Ok o; counts = c; life = l }) b b
  unfolding argument_in no_match
  nothing_left q o e = rw q (says_ended t (table_in t) 1 c l o b e)

  module _ (x : Span) (q : r ≡ Some x) (y : List ℕ) (i : y ≡ part s x.from x.to) (o : Ends) (k : Counts) (j : Option ℕ) (z : List ℕ)
      (g : SaysCheck t (run (table_in t) l (begun_check mail (whole mail) d y c)) (record { answer = o; counts = k; life = j }) b z) where
    pub redirected : (v : Checked) → o ≡ Ok v → (w : Checked) → w ≡ redirected_of v
        → SaysCheck t (run (table_in t) l (no_match mail (whole mail) d (argument_in s r) c)) (record { answer = Ok w; counts = k; life = j }) b z
    unfolding argument_in no_match
    redirected v e w h = rw (q, ← i, h) (redirects t (table_in t) l (begun_check mail (whole mail) d y c) o k j b z g v e)

    pub redirect_wants : (w : Wanted) → o ≡ Err w
        → SaysCheck t (run (table_in t) l (no_match mail (whole mail) d (argument_in s r) c)) (record { answer = Err w; counts = k; life = j }) b z
    unfolding argument_in no_match
    redirect_wants w e = rw (q, ← i) (redirect_lacks t (table_in t) l (begun_check mail (whole mail) d y c) o k j b z g w e)
