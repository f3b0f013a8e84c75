-- Looking up against standing in a list of entries: what is found stands there, of that kind and name; and what stands in a list without a repeated pair
-- is found. So lists with the same entries of a kind find the same. From the laws of pairs (Entries).
use Prim.Native.Nat.{ℕ}
use native.Mathlib.Omega.{arith}
use mathlib.Core.Path.{◌≡◌, refl, sym, subst, ◌∙◌}
use mathlib.Core.Logic.{◌↔◌}
use mathlib.Core.List.{List, [], ◌∷◌, ◌++◌}
use mathlib.Core.Bool.{true, false, not}
use lib.Dec.{eqb}
use borrow.Author.Tests.{eq-eqb, not-true}
use Rattle.text.specs.Lists.{same}
use Rattle.text.proofs.Laws.Tests.{cond-elim, and_left, and_right, and_both, or_left, or_right, true_false, test_fails}
use Rattle.text.proofs.Laws.Words.{same_refl}
use Rattle.answer_table.specs.Layout.{Entry, is_pair, holds, Among, first, later, distinct}
use Rattle.answer_table.specs.Lookup.{Lookup, present, absent, lookup}
use Rattle.answer_table.proofs.Laws.Entries.{pair_is}

-- what is found stands there
found_stands : (kind : ℕ) (name : List ℕ) (es : List Entry) (e : Entry) → lookup kind name es ≡ present e → Among e es × (is_pair kind name e ≡ true)
unfolding lookup
found_stands kind name [] e q = let z : ◌≡◌ {A = ℕ} 0 1 = cc in absurd (omega arith)
found_stands kind name (f ∷ es) e q =
    cond-elim (λ (l : Lookup). l ≡ present e → Among e (f ∷ es) × (is_pair kind name e ≡ true)) (is_pair kind name f)
    (λ h p. let i : f ≡ e = cc in subst (λ (x : Entry). Among x (f ∷ es) × (is_pair kind name x ≡ true)) i (first, h))
    (λ h p. let g = found_stands kind name es e p in (later g.0, g.1)) q

-- what stands there is found
pub pair_self : (e : Entry) → is_pair e.kind e.name e ≡ true
unfolding is_pair
pair_self e = and_both (eqb e.kind e.kind) (same e.name e.name) (eq-eqb e.kind e.kind refl) (same_refl e.name)

stands_held : {e : Entry} {es : List Entry} → Among e es → holds e.kind e.name es ≡ true
unfolding holds
stands_held {e} (first {es = es}) = or_left (is_pair e.kind e.name e) (holds e.kind e.name es) (pair_self e)
stands_held {e} (later {f = f} {es = es} a) = or_right (is_pair e.kind e.name f) (holds e.kind e.name es) (stands_held a)

pub stands_found : {e : Entry} {es : List Entry} → distinct es ≡ true → Among e es → lookup e.kind e.name es ≡ present e
unfolding lookup distinct
stands_found {e} d first = rw (pair_self e)
stands_found {e} d (later {f = f} {es = es} a) =
    let held = holds f.kind f.name es in
    let n : is_pair e.kind e.name f ≡ false =
    test_fails (is_pair e.kind e.name f)
    (λ h. let p = pair_is e.kind e.name f h in
    true_false held (rw (p.0, p.1) (stands_held a)) (not-true held (and_left (not held) (distinct es) d))) in
    rw n (stands_found (and_right (not held) (distinct es) d) a)

-- between others
pub among_at : (ds : List Entry) (e : Entry) (fs : List Entry) → Among e (ds ++ (e ∷ fs))
among_at [] e fs = first
among_at (d ∷ ds) e fs = later (among_at ds e fs)

-- an entry that is found in one list is found in another in which it stands too
pub found_over : (kind : ℕ) (name : List ℕ) (e : Entry) (es fs : List Entry) → distinct fs ≡ true → (e.kind ≡ kind → Among e es → Among e fs)
    → lookup kind name es ≡ present e → lookup kind name fs ≡ present e
found_over kind name e es fs d h q =
    let g = found_stands kind name es e q in
    let p = pair_is kind name e g.1 in
    rw (← p.0, ← p.1) (stands_found d (h p.0 g.0))

-- lists with the same entries of a kind
pub found_same : (kind : ℕ) (name : List ℕ) (es fs : List Entry) → distinct es ≡ true → distinct fs ≡ true
    → ((e : Entry) → e.kind ≡ kind → Among e es ↔ Among e fs) → lookup kind name fs ≡ lookup kind name es
found_same kind name es fs d d' h = by (lookup kind name es) refl (lookup kind name fs) refl
  where
    by : (x : Lookup) → lookup kind name es ≡ x → (y : Lookup) → lookup kind name fs ≡ y → y ≡ x
    by absent p absent q = refl
    by absent p (present e) q = sym (found_over kind name e fs es d (λ k. (h e k).1) q) ∙ p
    by (present e) p y q = sym q ∙ found_over kind name e es fs d' (λ k. (h e k).0) p
