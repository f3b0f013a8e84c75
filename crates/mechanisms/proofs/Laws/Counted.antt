-- A mechanism that asks for a name: the eleventh lookup, a malformed target, a question of p without an entry, and its own questions.
-- One rule for each way out of `counted_step` and `ask`. From the definitions of `counted_step` and the inversions of a target's answer.
use Rattle.std.proofs.Common.{false, Option, Some, None, Ok, Err}
use Prim.Native.Nat.{ℕ, ◌≤◌, ◌<◌}
use mathlib.Core.Path.{◌≡◌, refl, ap, ◌∙◌}
use mathlib.Core.List.{List}
use lib.ListN.{take}
use borrow.Author.Tests.{lt-ltb, le-ltb}
use Rattle.text.specs.Bytes.{part}
use Rattle.text.proofs.Laws.Spans.{front_part}
use Rattle.address.specs.declared.Address.{Address}
use Rattle.domain.specs.Normal.{name, malformed}
use Rattle.records.specs.Readings.{Optional}
use Rattle.rules.specs.declared.Counts.{Counts}
use Rattle.rules.specs.declared.Progress.{Progress}
use Rattle.rules.specs.declared.Wanted.{Wanted}
use Rattle.rules.specs.declared.Ending.{Ending}
use Rattle.rules.specs.Tree.{Check, run}
use Rattle.rules.specs.Tables.{table_in}
use Rattle.rules.specs.Mechanisms.{Mail, no, stop, Step, target_or, begun, counting, at_target, target_step, counted_step, ask_a, ask_mx, ask_ptr, ask_exists}
use Rattle.rules.specs.Outcomes.{Matched, matched_of, handed, Steps, Target, Targets}
use Rattle.rules.proofs.Laws.Runs.{bind_is}
use Rattle.rules.proofs.Laws.Inversions.{gives_bind, wants_bind, step_gives, step_give, step_wanted, target_name, target_malformed, target_wants}
use Rattle.mechanisms.specs.declared.Question.{Question}
use Rattle.mechanisms.specs.Terms.{asker}

-- a target leaves the counts
pub counted_few : (t : List ℕ) (mail : Mail) (d : List ℕ) (spec : Optional (List ℕ)) (p q : Progress) (to b a : List ℕ) (x : Option ℕ)
    → Targets t (target_or mail d spec (begun p.counts)) (record { counts = begun p.counts; life = p.life }) q (Ok x) to b a → (n : ℕ) → x ≡ Some n → p.counts.voids ≤ 2 → q.counts.voids ≤ 2
counted_few t mail d spec p q to b a x s n e k = rw (target_name (begun p.counts) _ (handed (Ok x) q) to b a s n (ap Ok e)).3 k

module _ (t : List ℕ) (mail : Mail) (d : List ℕ) (spec : Optional (List ℕ)) (go : Counts → List ℕ → Check Step) (p : Progress) where
  pub counted_eleventh : (b : List ℕ) → 10 ≤ p.counts.lookups → Steps t (counted_step mail d spec go p.counts) p p (Err (Ending.Result 6)) b b
  unfolding counted_step counting matched_of
  counted_eleventh b h = rw (le-ltb _ _ h) (step_give (table_in t) p.life (stop 6) p.counts b)

  begun_is : p.counts.lookups < 10 → run (table_in t) p.life (counted_step mail d spec go p.counts) ≡ run (table_in t) p.life (target_step mail d spec go (begun p.counts))
  unfolding counted_step counting
  begun_is h = rw (lt-ltb _ _ h)

  module _ (h : p.counts.lookups < 10) (q : Progress) (to b a : List ℕ) where
    pub counted_malformed : (x : Option ℕ) → Targets t (target_or mail d spec (begun p.counts)) (record { counts = begun p.counts; life = p.life }) q (Ok x) to b a → x ≡ None
        → Steps t (counted_step mail d spec go p.counts) p q (Ok false) b a
    unfolding target_step at_target matched_of
    counted_malformed x s e =
        let g = target_malformed (begun p.counts) _ (handed (Ok x) q) to b a s (ap Ok e) in
        rw (begun_is h, g.1)
        (step_gives _ (record { match = no; counts = begun p.counts }) q.life _ b a
        (gives_bind (table_in t) p.life (target_or mail d spec (begun p.counts)) (at_target (go (begun p.counts)) (begun p.counts)) malformed _ q.life b a g.0 refl) refl)

    pub counted_wants : (w : Wanted) → Targets t (target_or mail d spec (begun p.counts)) (record { counts = begun p.counts; life = p.life }) q (Err w) to b a
        → Steps t (counted_step mail d spec go p.counts) p q (Err (Ending.Wanting w)) b a
    unfolding target_step
    counted_wants w s =
        let g = target_wants (begun p.counts) _ (handed (Err w) q) to b a s w refl in
        rw (begun_is h, g.1)
        (step_wanted _ w (begun p.counts) q.life b a
        (wants_bind (table_in t) p.life (target_or mail d spec (begun p.counts)) (at_target (go (begun p.counts)) (begun p.counts)) w.kind w.length (begun p.counts) q.life b a g.0))

    module _ (x : Option ℕ) (s : Targets t (target_or mail d spec (begun p.counts)) (record { counts = begun p.counts; life = p.life }) q (Ok x) to b a) (n : ℕ) (e : x ≡ Some n) where
      pub counted_asks : (m : List ℕ) → m ≡ part to 0 n → (z : Progress) (r : Matched) (o : List ℕ)
          → Steps t (go q.counts m) q z r a o → Steps t (counted_step mail d spec go p.counts) p z r b o
      unfolding target_step at_target
      counted_asks m i z r o w =
          let f = target_name (begun p.counts) _ (handed (Ok x) q) to b a s n (ap Ok e) in
          let g = f.0 in
          let j : m ≡ take n to = i ∙ front_part to n in
          rw (begun_is h, bind_is (table_in t) p.life (target_or mail d spec (begun p.counts)) (at_target (go (begun p.counts)) (begun p.counts)) (name (take n to)) q.life g.is, ← j, ← g.kept, ← f.3) w

-- by the mechanism
module _ (t : List ℕ) (client : Address) (n : ℕ) (p q : Progress) (m : List ℕ) (x : Question) (r : Matched) (b a : List ℕ) where
  pub by_a : x ≡ Question.A → Steps t (ask_a client n p.counts m) p q r b a → Steps t (asker x client n p.counts m) p q r b a
  unfolding asker
  by_a e s = rw e s

  pub by_mx : x ≡ Question.Mx → Steps t (ask_mx client n p.counts m) p q r b a → Steps t (asker x client n p.counts m) p q r b a
  unfolding asker
  by_mx e s = rw e s

  pub by_ptr : x ≡ Question.Ptr → Steps t (ask_ptr client p.counts m) p q r b a → Steps t (asker x client n p.counts m) p q r b a
  unfolding asker
  by_ptr e s = rw e s

  pub by_exists : x ≡ Question.Exists → Steps t (ask_exists p.counts m) p q r b a → Steps t (asker x client n p.counts m) p q r b a
  unfolding asker
  by_exists e s = rw e s
