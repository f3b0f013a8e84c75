-- What a choice tells of the names that are validated so far, and that one more name keeps it so. From the definitions of Choosing and of p.
use Rattle.std.proofs.Common.{Bor}
use Prim.Native.Nat.{ℕ}
use mathlib.Core.Path.{◌≡◌, refl, sym, ap, ◌∙◌}
use mathlib.Core.List.{List, [], ◌∷◌, ◌++◌}
use mathlib.Core.Bool.{Bool, true, false, cond, ◌||◌, or_assoc, or-false}
use Rattle.text.specs.Lists.{same}
use Rattle.text.specs.Texts.{bytes}
use Rattle.text.proofs.Laws.Tests.{cond-elim}
use Rattle.domain.specs.Names.{at_or_below}
use Rattle.rules.specs.Mechanisms.{holds_name, first_below, first_or, chosen}
use Rattle.target_name.specs.declared.Choice.{Choice}
use Rattle.target_name.specs.declared.Choice.TheVariants.{Current, Below, First, Nobody}
use Rattle.target_name.specs.Choosing.{later_choice, choice_with, choice_value}

-- what a choice tells of the names that are found, for the current domain d
unfoldable pub Picks : List ℕ → Choice → List (List ℕ) → Type 0
Picks d Current found = holds_name d found ≡ true
Picks d (Below s) found = (holds_name d found ≡ false) × ((other : List ℕ) → first_below d found other ≡ s.now)
Picks d (First s) found = (holds_name d found ≡ false) × ((other : List ℕ) → first_below d found other ≡ other) × ((other : List ℕ) → first_or found other ≡ s.now)
Picks d Nobody found = found ≡ []

-- one more name at the end
module _ (d n : List ℕ) where
  holds_more : (ns : List (List ℕ)) → holds_name d (ns ++ (n ∷ [])) ≡ (holds_name d ns || same n d)
  unfolding holds_name
  holds_more [] = or-false (same n d)
  holds_more (m ∷ ns) = ap (λ (t : Bool). same m d || t) (holds_more ns) ∙ sym (or_assoc (same m d) (holds_name d ns) (same n d))

  below_more : (ns : List (List ℕ)) (other : List ℕ) → first_below d (ns ++ (n ∷ [])) other ≡ first_below d ns (cond (at_or_below n d) n other)
  unfolding first_below
  below_more [] other = refl
  below_more (m ∷ ns) other = rw (below_more ns other)

  first_more : (ns : List (List ℕ)) (other : List ℕ) → first_or (ns ++ (n ∷ [])) other ≡ first_or ns n
  unfolding first_or
  first_more [] other = refl
  first_more (m ∷ ns) other = refl

  -- it is the current domain
  holds_here : (ns : List (List ℕ)) → same n d ≡ true → holds_name d (ns ++ (n ∷ [])) ≡ true
  holds_here ns e = holds_more ns ∙ by (holds_name d ns)
    where
      by : (t : Bool) → (t || same n d) ≡ true
      by true = refl
      by false = e

  holds_before : (ns : List (List ℕ)) → holds_name d ns ≡ true → holds_name d (ns ++ (n ∷ [])) ≡ true
  holds_before ns e = holds_more ns ∙ rw e

  -- it is another
  holds_not : (ns : List (List ℕ)) → holds_name d ns ≡ false → same n d ≡ false → holds_name d (ns ++ (n ∷ [])) ≡ false
  holds_not ns e k = holds_more ns ∙ rw (e, k)

  holds_none : holds_name d [] ≡ false
  unfolding holds_name
  holds_none = refl

  module _ (s : Bor (List ℕ)) (e : n ≡ s.now) (other : same n d ≡ false) where
    later : (choice : Choice) (found : List (List ℕ)) (below : Bool) → at_or_below n d ≡ below → Picks d choice found → Picks d (later_choice choice below s) (found ++ (n ∷ []))
    unfolding Picks first_below first_or
    later Current found below b p = holds_before found p
    later (Below m) found below b p = (holds_not found p.0 other, λ o. below_more found o ∙ p.1 (cond (at_or_below n d) n o))
    later (First m) found true b p = (holds_not found p.0 other, λ o. below_more found o ∙ p.1 (cond (at_or_below n d) n o) ∙ rw (b, e))
    later (First m) found false b p =
        (holds_not found p.0 other, λ o. below_more found o ∙ p.1 (cond (at_or_below n d) n o) ∙ rw b, λ o. first_more found o ∙ p.2 n)
    later Nobody found true b p = rw p (holds_not [] holds_none other, λ o. rw (b, e))
    later Nobody found false b p = rw p (holds_not [] holds_none other, λ o. rw b, λ o. e)

-- one more validated name
pub picks_more : (d : List ℕ) (s : Bor (List ℕ)) (choice : Choice) (found : List (List ℕ)) → Picks d choice found → Picks d (choice_with choice d s) (found ++ (s.now ∷ []))
unfolding Picks
picks_more d s choice found p =
    cond-elim (λ (x : Choice). Picks d x (found ++ (s.now ∷ []))) (same s.now d)
    (λ k. holds_here d s.now found k)
    (λ k. later d s.now s refl k choice found (at_or_below s.now d) refl p)

-- none at first
pub picks_none : (d : List ℕ) → Picks d Nobody []
unfolding Picks
picks_none d = refl

-- the last choice is the value of p
pub picks_value : (d : List ℕ) (choice : Choice) (found : List (List ℕ)) → Picks d choice found → choice_value choice d ≡ chosen d found
unfolding Picks chosen holds_name first_below first_or
picks_value d Current found p = rw p
picks_value d (Below s) found p = rw p.0 (sym (p.1 (first_or found (bytes "unknown"))))
picks_value d (First s) found p = rw p.0 (sym (p.1 (first_or found (bytes "unknown")) ∙ p.2 (bytes "unknown")))
picks_value d Nobody found p = rw p

-- a way out of `choose`
module _ (choice : Choice) (d : List ℕ) (n : Bor (List ℕ)) (r : Bool) (e : r ≡ same n.now d) where
  pub choose_current : r ≡ true → Current ≡ choice_with choice d n
  choose_current h = rw (← e, h)

  pub choose_later : r ≡ false → (below : Bool) → below ≡ at_or_below n.now d → (x : Choice) → x ≡ later_choice choice below n → x ≡ choice_with choice d n
  choose_later h below k x w = rw (← e, h, ← k) w
