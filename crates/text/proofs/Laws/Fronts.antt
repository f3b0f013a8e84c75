-- The fronts of a list: of two lists end to end they end in the first or in the second; and a front that a production produces once an end is put
-- after it. From the laws of `take`.
use Prim.Native.Nat.{ℕ, zero, suc, ◌+◌, ◌-◌, ◌≤◌, ◌<◌}
use mathlib.Core.Path.{◌≡◌, sym, ap, subst, ◌∙◌}
use mathlib.Core.Logic.{⊎_elim}
use mathlib.Core.List.{List, [], ◌∷◌, ◌++◌, append_assoc, append-nil}
use mathlib.Core.Bool.{Bool, true}
use native.Mathlib.Omega.{arith}
use lib.ListN.{length, take, drop, take-append-drop}
use lib.Seq.{take-length, take-append-le, take-append-add}
use Rattle.text.specs.Lists.{all}
use Rattle.text.proofs.Laws.Orders.{le_or_lt}
use Rattle.text.proofs.Laws.Parts.{all_front}

-- what holds of every front of u, and of u with every front of v after it, holds of every front of the two; and with a byte between them
pub fronts_joined : (P : List ℕ → Type 0) (u v : List ℕ) → ((n : ℕ) → n ≤ length u → P (take n u)) → ((n : ℕ) → P (u ++ take n v))
    → (n : ℕ) → P (take n (u ++ v))
fronts_joined P u v first second n = ⊎_elim
    (λ (h : n ≤ length u). subst P (sym (take-append-le n u v h)) (first n h))
    (λ (h : length u < n).
    let e : length u + (n - length u) ≡ n = omega arith in
    subst (λ (k : ℕ). P (take k (u ++ v))) e (subst P (sym (take-append-add u v (n - length u))) (second (n - length u))))
    (le_or_lt n (length u))

pub fronts_between : (P : List ℕ → Type 0) (u : List ℕ) (b : ℕ) (v : List ℕ) → ((n : ℕ) → n ≤ length u → P (take n u)) → ((n : ℕ) → P (u ++ (b ∷ take n v)))
    → (n : ℕ) → P (take n (u ++ (b ∷ v)))
fronts_between P u b v first second = fronts_joined P u (b ∷ v) first after
  where
    after : (n : ℕ) → P (u ++ take n (b ∷ v))
    after zero = subst P (take-length u ∙ sym (append-nil u)) (first (length u) (omega arith))
    after (suc n) = second n

-- a front of what passes a test passes it
pub all_take : (p : ℕ → Bool) (n : ℕ) (w : List ℕ) → all p w ≡ true → all p (take n w) ≡ true
all_take p n w h = all_front p (take n w) (drop n w) (ap (all p) (take-append-drop n w) ∙ h)

-- a production produces p once one of some ends is put after it
pub record Completed {A : Type 0} (End : List ℕ → Type 0) (Produces : List ℕ → A → Type 0) (p : List ℕ) : Type 0 where
  pub end : List ℕ
  pub is_end : End end
  pub value : A
  pub made : Produces (p ++ end) value

module _ {A : Type 0} (End : List ℕ → Type 0) (Produces : List ℕ → A → Type 0) where
  pub completed_by : {p e w : List ℕ} {x : A} → End e → w ≡ p ++ e → Produces w x → Completed End Produces p
  completed_by {e = e} {x = x} h q m = record { end = e; is_end = h; value = x; made = subst (λ (y : List ℕ). Produces y x) q m }

  pub completed_now : {p : List ℕ} {x : A} → End [] → Produces p x → Completed End Produces p
  completed_now {p} h m = completed_by h (sym (append-nil p)) m

-- inside a larger production, after u, and with ends that are among others
pub completed_in : {A B : Type 0} {End : List ℕ → Type 0} {Produces : List ℕ → A → Type 0} (Other : List ℕ → Type 0) (Larger : List ℕ → B → Type 0) (u : List ℕ)
    {p : List ℕ} → Completed End Produces p → ((c : List ℕ) → End c → Other c) → ((w : List ℕ) (x : A) → Produces w x → (y : B) × Larger (u ++ w) y)
    → Completed Other Larger (u ++ p)
completed_in Other Larger u {p} c f g =
    let m = g (p ++ c.end) c.value c.made in
    completed_by Other Larger (f c.end c.is_end) (sym (append_assoc u p c.end)) m.1
