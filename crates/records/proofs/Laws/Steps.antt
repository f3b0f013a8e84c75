-- What the code has read, as the answer that a definition of Reader goes by: one rule for each case of each answer. Assumes nothing.
use mathlib.Core.Bool.{Bool, true, false, cond}
use Rattle.std.specs.Bool.{then_some}
use Rattle.std.proofs.Common.{None, Option, Some}
use Prim.Native.Nat.{ℕ}
use mathlib.Core.Path.{◌≡◌, sym, ap, ◌∙◌, refl}
use Rattle.text.proofs.Laws.Tests.{ways}
use Rattle.records.specs.declared.terms.Hosts.{Hosts}
use Rattle.records.specs.Reader.{after_spec, after_hosts, hosts_of}

module _ {A : Type 0} where
  pub by_from : (r x : Option (Option ℕ)) (f : ℕ → A) (y w : A) (n : ℕ) (z : A) → r ≡ x → r ≡ Some (Some n) → z ≡ f n → z ≡ after_spec x f y w
  by_from r x f y w n z p q h = h ∙ ap (λ (t : Option (Option ℕ)). after_spec t f y w) (sym q ∙ p)

  pub by_absent : (r x : Option (Option ℕ)) (f : ℕ → A) (y w z : A) → r ≡ x → r ≡ Some None → z ≡ y → z ≡ after_spec x f y w
  by_absent r x f y w z p q h = h ∙ ap (λ (t : Option (Option ℕ)). after_spec t f y w) (sym q ∙ p)

  pub by_bad : (r x : Option (Option ℕ)) (f : ℕ → A) (y w z : A) → r ≡ x → r ≡ None → z ≡ w → z ≡ after_spec x f y w
  by_bad r x f y w z p q h = h ∙ ap (λ (t : Option (Option ℕ)). after_spec t f y w) (sym q ∙ p)

  pub by_hosts : (r x : Option Hosts) (f : ℕ → ℕ → ℕ → ℕ → A) (y : A) (i j n m : ℕ) (z : A) → r ≡ x → r ≡ Some (hosts_of i j n m) → z ≡ f i j n m → z ≡ after_hosts x f y
  by_hosts r x f y i j n m z p q h = h ∙ ap (λ (t : Option Hosts). after_hosts t f y) (sym q ∙ p)

  pub by_no_hosts : (r x : Option Hosts) (f : ℕ → ℕ → ℕ → ℕ → A) (y z : A) → r ≡ x → r ≡ None → z ≡ y → z ≡ after_hosts x f y
  by_no_hosts r x f y z p q h = h ∙ ap (λ (t : Option Hosts). after_hosts t f y) (sym q ∙ p)

-- a value where a test holds
pub some_if : {A : Type 0} (m : Bool) (x : A) → then_some m x ≡ cond m (Some x) None
some_if true x = refl
some_if false x = refl

pub ruleset steps = (by_from, by_absent, by_bad, by_hosts, by_no_hosts, ways)
