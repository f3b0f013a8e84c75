-- What an answer of the code tells of what a table settles, by the answer's case, and what makes such an answer. From Outcomes alone, over any
-- settled value. The laws of the crates above speak of a settled value by `Gives` and `Wants`, so only this file and Runs take it apart for them.
use Rattle.std.proofs.Common.{true, false, Option, Some, None, Ok, Err, Bor}
use Prim.Native.Nat.{ℕ, ◌≤◌}
use mathlib.Core.Path.{◌≡◌, refl, sym, ap, subst, ◌∙◌}
use mathlib.Core.List.{List}
use native.Mathlib.Omega.{arith}
use lib.ListN.{length, take}
use Rattle.text.specs.Bytes.{part}
use Rattle.text.specs.Writing.{overwritten}
use Rattle.text.specs.declared.spans.Span.{Span}
use Rattle.answer_table.specs.Layout.{kind_txt}
use Rattle.domain.specs.Normal.{Naming, name, malformed}
use Rattle.records.specs.Readings.{absent}
use Rattle.rules.specs.declared.Counts.{Counts}
use Rattle.rules.specs.declared.Wanted.{Wanted}
use Rattle.rules.specs.declared.Ending.{Ending}
use Rattle.rules.specs.declared.Selected.{Selected}
use Rattle.rules.specs.declared.LookedUp.{LookedUp}
use Rattle.rules.specs.declared.Checked.{Checked}
use Rattle.rules.specs.Tree.{Reply, Table, Check, give, ask, Settled, settled, wanting, bind, run}
use Rattle.rules.proofs.Laws.Runs.{give_settles, ask_absent, bind_is, bind_wants, Same, decided, lacking, run_any}
use Rattle.rules.specs.Mechanisms.{Match, yes, no, stop, Step, step}
use Rattle.rules.specs.Evaluation.{Result, Selection, ends, one}
use Rattle.rules.specs.Outcomes.{Settles, Lacks, Wants, Gives, wanted_buffer, After, Matched, matched_of, step_of, stepped_of, SaysStep, Target, NamingIs, NameIs, TargetIs, SaysTarget, PFound, FoundIs, PIs, SaysP, span_of, TextAt, SelectionIs, SelectedIs, Ends, failing_of, FailingAt, ResultIs, EndsIn, CheckedIs, PlacedAt, SaysCheck, Explained, ExplainedIs, text_buffer, SaysText}

-- a value that is settled leaves the name buffer as it is
pub gives : {A : Type 0} (x : Settled A) (v : A) (l : Option ℕ) (b : List ℕ) → Settles x v l → Gives x v l b b
gives x v l b e = record { is = e; kept = refl }

pub gives_give : {A : Type 0} (t : Table) (l : Option ℕ) (v : A) (b : List ℕ) → Gives (run t l (give v)) v l b b
gives_give t l v b = gives (run t l (give v)) v l b (give_settles t l v)

-- a check that gives a value from the value of the one before it
pub gives_bind : {A B : Type 0} (t : Table) (l : Option ℕ) (m : Check A) (f : A → Check B) (v : A) (u : B) (j : Option ℕ) (b a : List ℕ)
    → Gives (run t l m) v j b a → f v ≡ give u → Gives (run t l (bind m f)) u j b a
gives_bind t l m f v u j b a g e = record { is = rw (bind_is t l m f v j g.is, e) (give_settles t j u); kept = g.kept }

-- a question without an entry is wanted, once its name is written
pub wants_ask : {A : Type 0} (t : Table) (l : Option ℕ) (kind : ℕ) (d : List ℕ) (c : Counts) (g : Reply → Check A) → t kind d ≡ absent
    → (b a : List ℕ) → a ≡ overwritten d b → Wants (run t l (ask kind d c g)) kind (length d) c l b a
wants_ask t l kind d c g e b a w = record { asked = d; is = ask_absent t l kind d c g e; size_is = refl; buffer = w }

-- what is wanted before a check goes on is wanted
pub wants_bind : {A B : Type 0} (t : Table) (l : Option ℕ) (m : Check A) (f : A → Check B) (kind size : ℕ) (c : Counts) (j : Option ℕ) (b a : List ℕ)
    → Wants (run t l m) kind size c j b a → Wants (run t l (bind m f)) kind size c j b a
wants_bind t l m f kind size c j b a w =
    record { asked = w.asked; is = bind_wants t l m f kind w.asked c j w.is; size_is = w.size_is; buffer = w.buffer }

-- For each kind of answer: what it tells by its case, that it tells this, and each case on its own; and the other way round, the answer from a value
-- that is given or a question that is wanted.

-- a term
abbrev StepTells : Settled Step → Matched → Counts → Option ℕ → (before after : List ℕ) → Type 0
StepTells x (Ok true) c l b a = Gives x (record { match = yes; counts = c }) l b a
StepTells x (Ok false) c l b a = Gives x (record { match = no; counts = c }) l b a
StepTells x (Err (Ending.Result v)) c l b a = Gives x (record { match = stop v; counts = c }) l b a
StepTells x (Err (Ending.Wanting w)) c l b a = Wants x w.kind w.length c l b a

settled_tells : (m : Match) (c : Counts) (l : Option ℕ) (b a : List ℕ) → a ≡ b → StepTells (settled (record { match = m; counts = c }) l) (matched_of m) c l b a
unfolding matched_of
settled_tells yes c l b a k = record { is = refl; kept = k }
settled_tells no c l b a k = record { is = refl; kept = k }
settled_tells (stop v) c l b a k = record { is = refl; kept = k }

step_tells : (x : Settled Step) (r : After Matched) (b a : List ℕ) → SaysStep x r b a → StepTells x r.answer r.counts r.life b a
unfolding stepped_of wanted_buffer
step_tells (settled s l) r b a w = rw w.outcome (settled_tells s.match s.counts l b a w.buffer)
step_tells (wanting k n c l) r b a w = rw w.outcome (record { asked = n; is = refl; size_is = refl; buffer = w.buffer })

module _ (x : Settled Step) (r : After Matched) (b a : List ℕ) (w : SaysStep x r b a) where
  step_as : (m : Matched) → r.answer ≡ m → StepTells x m r.counts r.life b a
  step_as m e = subst (λ (m : Matched). StepTells x m r.counts r.life b a) e (step_tells x r b a w)

  pub step_yes : r.answer ≡ Ok true → Gives x (record { match = yes; counts = r.counts }) r.life b a
  step_yes e = step_as (Ok true) e

  pub step_no : r.answer ≡ Ok false → Gives x (record { match = no; counts = r.counts }) r.life b a
  step_no e = step_as (Ok false) e

  pub step_result : (v : ℕ) → r.answer ≡ Err (Ending.Result v) → Gives x (record { match = stop v; counts = r.counts }) r.life b a
  step_result v e = step_as (Err (Ending.Result v)) e

  pub step_wants : (q : Wanted) → r.answer ≡ Err (Ending.Wanting q) → Wants x q.kind q.length r.counts r.life b a
  step_wants q e = step_as (Err (Ending.Wanting q)) e

pub step_gives : (x : Settled Step) (s : Step) (l : Option ℕ) (r : After Matched) (b a : List ℕ) → Gives x s l b a → r ≡ step_of s l → SaysStep x r b a
unfolding stepped_of wanted_buffer
step_gives x s l r b a g e = rw g.is (record { outcome = e; buffer = g.kept })

pub step_give : (t : Table) (l : Option ℕ) (m : Match) (c : Counts) (b : List ℕ) → SaysStep (run t l (step m c)) (record { answer = matched_of m; counts = c; life = l }) b b
step_give t l m c b = step_gives _ (record { match = m; counts = c }) l _ b b (gives_give t l (record { match = m; counts = c }) b) refl

pub step_wanted : (x : Settled Step) (q : Wanted) (c : Counts) (l : Option ℕ) (b a : List ℕ) → Wants x q.kind q.length c l b a
    → SaysStep x (record { answer = Err (Ending.Wanting q); counts = c; life = l }) b a
unfolding stepped_of wanted_buffer
step_wanted x q c l b a w = rw w.is (record { outcome = ap (λ (n : ℕ). record { answer = Err (Ending.Wanting (record { kind = q.kind; length = n })); counts = c; life = l }) w.size_is; buffer = w.buffer })

-- a domain-spec: of its name
abbrev NamingTells : Naming → Option ℕ → List ℕ → Type 0
NamingTells x (Some n) to = (x ≡ name (take n to)) × (n ≤ 253) × (n ≡ length (take n to))
NamingTells x None to = x ≡ malformed

pub naming_tells : (x : Naming) (r : Option ℕ) (to : List ℕ) → NamingIs x r to → NamingTells x r to
unfolding NamingIs
naming_tells (name s) r to p = rw (p.0, p.1) (refl, p.2, refl)
naming_tells malformed r to p = rw p refl

pub naming_name : (x : Naming) (n : ℕ) (to : List ℕ) → NamingIs x (Some n) to → (x ≡ name (take n to)) × (n ≤ 253) × (n ≡ length (take n to))
naming_name x n to p = naming_tells x (Some n) to p

-- and of a question of p
abbrev TargetTells : Counts → Settled Naming → Target → Counts → Option ℕ → (to before after : List ℕ) → Type 0
TargetTells c x (Ok (Some n)) k l to b a = Gives x (name (take n to)) l b a × (n ≤ 253) × (n ≡ length (take n to)) × (k ≡ c)
TargetTells c x (Ok None) k l to b a = Gives x malformed l b a × (k ≡ c)
TargetTells c x (Err w) k l to b a = Wants x w.kind w.length c l b a × (k ≡ c)

named_tells : (c : Counts) (x : Naming) (r : Target) (l : Option ℕ) (to b a : List ℕ) → NameIs x r to → a ≡ b → TargetTells c (settled x l) r c l to b a
unfolding NameIs
named_tells c x (Ok (Some n)) l to b a p k = let q = naming_name x n to p in (record { is = rw q.0; kept = k }, q.1, q.2, refl)
named_tells c x (Ok None) l to b a p k = let q : x ≡ malformed = naming_tells x None to p in (record { is = rw q; kept = k }, refl)
named_tells c x (Err w) l to b a p k = absurd p

target_tells : (c : Counts) (x : Settled Naming) (r : After Target) (to b a : List ℕ) → SaysTarget c x r to b a → TargetTells c x r.answer r.counts r.life to b a
unfolding TargetIs wanted_buffer
target_tells c (settled x l) r to b a w =
    let p = w.target in
    rw (p.1, p.2) (named_tells c x r.answer l to b a p.0 w.buffer)
target_tells c (wanting k n e l) r to b a w =
    let p = w.target in
    rw (p.0, p.2, p.3) (record { asked = n; is = rw p.1; size_is = refl; buffer = w.buffer }, refl)

module _ (c : Counts) (x : Settled Naming) (r : After Target) (to b a : List ℕ) (w : SaysTarget c x r to b a) where
  target_as : (y : Target) → r.answer ≡ y → TargetTells c x y r.counts r.life to b a
  target_as y e = subst (λ (y : Target). TargetTells c x y r.counts r.life to b a) e (target_tells c x r to b a w)

  pub target_name : (n : ℕ) → r.answer ≡ Ok (Some n) → Gives x (name (take n to)) r.life b a × (n ≤ 253) × (n ≡ length (take n to)) × (r.counts ≡ c)
  target_name n e = target_as (Ok (Some n)) e

  pub target_malformed : r.answer ≡ Ok None → Gives x malformed r.life b a × (r.counts ≡ c)
  target_malformed e = target_as (Ok None) e

  pub target_wants : (q : Wanted) → r.answer ≡ Err q → Wants x q.kind q.length c r.life b a × (r.counts ≡ c)
  target_wants q e = target_as (Err q) e

pub target_gives : (c : Counts) (x : Settled Naming) (n : Naming) (l : Option ℕ) (r : Option ℕ) (to b a : List ℕ)
    → Gives x n l b a → NamingIs n r to → SaysTarget c x (record { answer = Ok r; counts = c; life = l }) to b a
unfolding TargetIs NameIs wanted_buffer
target_gives c x n l r to b a g w = rw g.is (record { target = (w, refl, refl); buffer = g.kept })

pub target_wanted : (c : Counts) (x : Settled Naming) (q : Wanted) (l : Option ℕ) (to b a : List ℕ)
    → Wants x q.kind q.length c l b a → SaysTarget c x (record { answer = Err q; counts = c; life = l }) to b a
unfolding TargetIs wanted_buffer
target_wanted c x q l to b a w = rw w.is (record { target = (ap (λ (n : ℕ). Err (record { kind = q.kind; length = n })) w.size_is, refl, refl, refl); buffer = w.buffer })

-- the value of p
abbrev PTells : Counts → Settled (List ℕ) → PFound → Counts → Option ℕ → (before after : List ℕ) → Type 0
PTells c x (Ok v) k l b a = Gives x v.now l b a × (k ≡ c)
PTells c x (Err w) k l b a = Wants x w.kind w.length c l b a × (k ≡ c)

value_tells : (c : Counts) (s : List ℕ) (r : PFound) (l : Option ℕ) (b a : List ℕ) → FoundIs s r → a ≡ b → PTells c (settled s l) r c l b a
unfolding FoundIs
value_tells c s (Ok v) l b a p k = (record { is = rw p; kept = k }, refl)
value_tells c s (Err w) l b a p k = absurd p

p_tells : (c : Counts) (x : Settled (List ℕ)) (r : After PFound) (b a : List ℕ) → SaysP c x r b a → PTells c x r.answer r.counts r.life b a
unfolding PIs wanted_buffer
p_tells c (settled s l) r b a w = let p = w.value in rw (p.1, p.2) (value_tells c s r.answer l b a p.0 w.buffer)
p_tells c (wanting k n e l) r b a w =
    let p = w.value in
    rw (p.0, p.2, p.3) (record { asked = n; is = rw p.1; size_is = refl; buffer = w.buffer }, refl)

module _ (c : Counts) (x : Settled (List ℕ)) (r : After PFound) (b a : List ℕ) (w : SaysP c x r b a) where
  p_as : (y : PFound) → r.answer ≡ y → PTells c x y r.counts r.life b a
  p_as y e = subst (λ (y : PFound). PTells c x y r.counts r.life b a) e (p_tells c x r b a w)

  pub p_found : (v : Bor (List ℕ)) → r.answer ≡ Ok v → Gives x v.now r.life b a × (r.counts ≡ c)
  p_found v e = p_as (Ok v) e

  pub p_wants : (q : Wanted) → r.answer ≡ Err q → Wants x q.kind q.length c r.life b a × (r.counts ≡ c)
  p_wants q e = p_as (Err q) e

pub p_gives : (c : Counts) (x : Settled (List ℕ)) (l : Option ℕ) (v : Bor (List ℕ)) (b a : List ℕ)
    → Gives x v.now l b a → SaysP c x (record { answer = Ok v; counts = c; life = l }) b a
unfolding PIs FoundIs wanted_buffer
p_gives c x l v b a g = rw g.is (record { value = (refl, refl, refl); buffer = g.kept })

pub p_wanted : (c : Counts) (x : Settled (List ℕ)) (q : Wanted) (l : Option ℕ) (b a : List ℕ)
    → Wants x q.kind q.length c l b a → SaysP c x (record { answer = Err q; counts = c; life = l }) b a
unfolding PIs wanted_buffer
p_wanted c x q l b a w = rw w.is (record { value = (ap (λ (n : ℕ). Err (record { kind = q.kind; length = n })) w.size_is, refl, refl, refl); buffer = w.buffer })

-- record lookup
abbrev SelectedTells : Counts → (d t : List ℕ) → Settled Selection → Selected → Option ℕ → Type 0
SelectedTells c d t x (Selected.Ends v) l = Settles x (ends v) l
SelectedTells c d t x (Selected.One domain text) l = Settles x (one (span_of t text)) l × TextAt d t domain text (span_of t text)
SelectedTells c d t x Selected.Missing l = Lacks x kind_txt d c l

selection_tells : (c : Counts) (d t : List ℕ) (s : Selection) (r : Selected) (l : Option ℕ) → SelectionIs d t s r → SelectedTells c d t (settled s l) r l
unfolding SelectionIs
selection_tells c d t (ends v) r l w = rw w refl
selection_tells c d t (one s) r l w =
    let q = w.3 in
    rw w.2 (rw q.bytes_are, record { named = q.named; bytes_are = refl; stands = rw q.bytes_are q.stands })

lookup_tells : (c : Counts) (d t : List ℕ) (x : Settled Selection) (r : LookedUp) → SelectedIs c d t x r → SelectedTells c d t x r.selected r.life
unfolding SelectedIs
lookup_tells c d t (settled s l) r w = rw w.1 (selection_tells c d t s r.selected l w.0)
lookup_tells c d t (wanting k n e l) r w = rw (w.0, w.1, w.2, w.3, w.4) refl

module _ (c : Counts) (d t : List ℕ) (x : Settled Selection) (r : LookedUp) (w : SelectedIs c d t x r) where
  lookup_as : (y : Selected) → r.selected ≡ y → SelectedTells c d t x y r.life
  lookup_as y e = subst (λ (y : Selected). SelectedTells c d t x y r.life) e (lookup_tells c d t x r w)

  pub lookup_ends : (v : ℕ) → r.selected ≡ Selected.Ends v → Settles x (ends v) r.life
  lookup_ends v e = lookup_as (Selected.Ends v) e

  pub lookup_one : (domain text : Span) → r.selected ≡ Selected.One domain text → Settles x (one (span_of t text)) r.life × TextAt d t domain text (span_of t text)
  lookup_one domain text e = lookup_as (Selected.One domain text) e

  pub lookup_missing : r.selected ≡ Selected.Missing → Lacks x kind_txt d c r.life
  lookup_missing e = lookup_as Selected.Missing e

pub lookup_gives : (c : Counts) (d t : List ℕ) (x : Settled Selection) (s : Selection) (l : Option ℕ) (r : Selected) → Settles x s l → SelectionIs d t s r
    → SelectedIs c d t x (record { selected = r; life = l })
unfolding SelectedIs
lookup_gives c d t x s l r g w = rw g (w, refl)

pub lookup_lacks : (c : Counts) (d t : List ℕ) (x : Settled Selection) (l : Option ℕ) → Lacks x kind_txt d c l
    → SelectedIs c d t x (record { selected = Selected.Missing; life = l })
unfolding SelectedIs
lookup_lacks c d t x l w = rw w (refl, refl, refl, refl, refl)

-- a check
pub checked_result : (t : List ℕ) (x : Settled Result) (o : After Ends) (b a : List ℕ) → SaysCheck t x o b a
    → (k : Checked) → o.answer ≡ Ok k → Gives x (record { value = k.value; counts = o.counts; failing = failing_of t k.failing }) o.life b a
unfolding CheckedIs EndsIn wanted_buffer
checked_result t (settled r l) o b a w k e =
    let q = w.checked in
    let p = subst (EndsIn t r) e q.0 in
    record { is = rw (p.0, q.1, p.1, q.2); kept = w.buffer }
checked_result t (wanting i m c l) o b a w k e = let p = w.checked in let z : ◌≡◌ {A = ℕ} 0 1 = cc in absurd (omega arith)

pub checked_wants : (t : List ℕ) (x : Settled Result) (o : After Ends) (b a : List ℕ) → SaysCheck t x o b a
    → (q : Wanted) → o.answer ≡ Err q → Wants x q.kind q.length o.counts o.life b a
unfolding CheckedIs EndsIn wanted_buffer
checked_wants t (settled r l) o b a w q e = absurd (subst (EndsIn t r) e w.checked.0)
checked_wants t (wanting k m c l) o b a w q e =
    let p = w.checked in
    let i : q.kind ≡ k = ap (λ (x : Ends). elim x [ Ok v ↦ 0 | Err y ↦ y.kind ]) (sym e ∙ p.0) in
    let j : q.length ≡ length m = ap (λ (x : Ends). elim x [ Ok v ↦ 0 | Err y ↦ y.length ]) (sym e ∙ p.0) in
    record { asked = m; is = rw (i, p.1, p.2); size_is = j; buffer = w.buffer }

pub checked_gives : (t : List ℕ) (x : Settled Result) (y : Result) (k : Checked) (c : Counts) (l : Option ℕ) (b a : List ℕ) → Gives x y l b a → ResultIs t y k → c ≡ y.counts
    → FailingAt t k.failing → SaysCheck t x (record { answer = Ok k; counts = c; life = l }) b a
unfolding CheckedIs EndsIn PlacedAt wanted_buffer
checked_gives t x y k c l b a g w n p = rw g.is (record { checked = (w, n, refl); placed = p; buffer = g.kept })

pub checked_give : (t : List ℕ) (u : Table) (y : Result) (k : Checked) (c : Counts) (l : Option ℕ) (b : List ℕ) → ResultIs t y k → c ≡ y.counts → FailingAt t k.failing
    → SaysCheck t (run u l (give y)) (record { answer = Ok k; counts = c; life = l }) b b
checked_give t u y k c l b w n p = checked_gives t _ y k c l b b (gives_give u l y b) w n p

pub checked_wanted : (t : List ℕ) (x : Settled Result) (q : Wanted) (c : Counts) (l : Option ℕ) (b a : List ℕ)
    → Wants x q.kind q.length c l b a → SaysCheck t x (record { answer = Err q; counts = c; life = l }) b a
unfolding CheckedIs PlacedAt wanted_buffer
checked_wanted t x q c l b a w = rw w.is (record { checked = (ap (λ (n : ℕ). Err (record { kind = q.kind; length = n })) w.size_is, refl, refl); placed = tt; buffer = w.buffer })

-- an explanation
pub text_gives : (c : Counts) (x : Settled (List ℕ)) (s : List ℕ) (l : Option ℕ) (n : ℕ) (u v b a : List ℕ) → Gives x s l b a → n ≡ length s → v ≡ overwritten s u
    → SaysText c x (Ok n) u v b a
unfolding ExplainedIs wanted_buffer text_buffer
text_gives c x s l n u v b a g e w = rw g.is (record { explained = ap Ok e; text_buffer_lem = w; buffer = g.kept })

pub text_wanted : (c : Counts) (x : Settled (List ℕ)) (q : Wanted) (l : Option ℕ) (u b a : List ℕ)
    → Wants x q.kind q.length c l b a → SaysText c x (Err q) u u b a
unfolding ExplainedIs wanted_buffer text_buffer
text_wanted c x q l u b a w = rw w.is (record { explained = (ap (λ (n : ℕ). Err (record { kind = q.kind; length = n })) w.size_is, refl); text_buffer_lem = refl; buffer = w.buffer })

-- the lifetime that a run begins with has no part in an explanation's answer
text_same : (c : Counts) {x y : Settled (List ℕ)} → Same x y → (r : Explained) (u v b a : List ℕ) → SaysText c x r u v b a → SaysText c y r u v b a
unfolding ExplainedIs wanted_buffer text_buffer
text_same c decided r u v b a w = record { explained = w.explained; text_buffer_lem = w.text_buffer_lem; buffer = w.buffer }
text_same c lacking r u v b a w = record { explained = w.explained; text_buffer_lem = w.text_buffer_lem; buffer = w.buffer }

pub text_any : (c : Counts) (t : Table) (i l : Option ℕ) (m : Check (List ℕ)) (r : Explained) (u v b a : List ℕ) → SaysText c (run t i m) r u v b a
    → SaysText c (run t l m) r u v b a
text_any c t i l m r u v b a w = text_same c (run_any t i l m) r u v b a w
