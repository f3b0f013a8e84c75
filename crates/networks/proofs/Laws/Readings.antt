-- What was read, by cases: what is made of it, a property of what is made, and the answer by a production from both directions of its reader.
-- From the definitions of Reader and Answers.
use Rattle.std.proofs.Common.{None, Option, Some}
use Prim.Native.Nat.{ℕ}
use mathlib.Core.Path.{◌≡◌, refl, sym, ap, ◌∙◌}
use native.Mathlib.Omega.{arith}
use Rattle.text.proofs.Laws.Tests.{ways}
use Rattle.address.specs.declared.Address.{Address}
use Rattle.networks.specs.declared.Lengths.{Lengths}
use Rattle.networks.specs.Reader.{lengths, on_number, on_octet, on_length}
use Rattle.networks.specs.Answers.{NetworkAnswer, LengthAnswer, DualAnswer, is, none, are}

-- an octet that was read, and what is made of it
module _ {A : Type 0} where
  pub by_octet : (r x : Option (ℕ × ℕ)) (f : ℕ → ℕ → A) (y : A) (o j : ℕ) (z : A) → r ≡ x → r ≡ Some (o, j) → z ≡ f o j → z ≡ on_octet x f y
  by_octet r x f y o j z p q h = h ∙ ap (λ (t : Option (ℕ × ℕ)). on_octet t f y) (sym q ∙ p)

  pub by_no_octet : (r x : Option (ℕ × ℕ)) (f : ℕ → ℕ → A) (y z : A) → r ≡ x → r ≡ None → z ≡ y → z ≡ on_octet x f y
  by_no_octet r x f y z p q h = h ∙ ap (λ (t : Option (ℕ × ℕ)). on_octet t f y) (sym q ∙ p)

-- a property of what is made of what was read
module _ {A : Type 0} where
  pub number-elim {κ} : (P : A → Type κ) (x : Option ℕ) (f : ℕ → A) (y : A) → ((n : ℕ) → x ≡ Some n → P (f n)) → (x ≡ None → P y) → P (on_number x f y)
  number-elim P (Some n) f y g b = g n refl
  number-elim P None f y g b = b refl

  pub octet-elim {κ} : (P : A → Type κ) (x : Option (ℕ × ℕ)) (f : ℕ → ℕ → A) (y : A) → ((o j : ℕ) → x ≡ Some (o, j) → P (f o j)) → (x ≡ None → P y) → P (on_octet x f y)
  octet-elim P (Some x) f y g b = g x.0 x.1 refl
  octet-elim P None f y g b = b refl

  pub length-elim {κ} : (P : A → Type κ) (x : Option ℕ) (f : ℕ → A) (y : A) → ((n : ℕ) → x ≡ Some n → P (f n)) → (x ≡ None → P y) → P (on_length x f y)
  length-elim P (Some n) f y g b = g n refl
  length-elim P None f y g b = b refl

pub ruleset steps = (by_octet, by_no_octet, ways)

-- what a reader answers, by the production that it reads
pub network_answer : (P : Address → Type 0) (x : Option Address) → ((a : Address) → x ≡ Some a → P a) → ((a : Address) → P a → x ≡ Some a) → NetworkAnswer P x
network_answer P (Some a) sound complete = is (sound a refl)
network_answer P None sound complete = none (λ a p. let e = complete a p in let z : ◌≡◌ {A = ℕ} 0 1 = cc in omega arith)

pub length_answer : (P : ℕ → Type 0) (x : Option ℕ) → ((n : ℕ) → x ≡ Some n → P n) → ((n : ℕ) → P n → x ≡ Some n) → LengthAnswer P x
length_answer P (Some n) sound complete = is (sound n refl)
length_answer P None sound complete = none (λ n p. let e = complete n p in let z : ◌≡◌ {A = ℕ} 0 1 = cc in omega arith)

pub dual_answer : (P : ℕ → ℕ → Type 0) (x : Option Lengths) → ((n m : ℕ) → x ≡ Some (lengths n m) → P n m) → ((n m : ℕ) → P n m → x ≡ Some (lengths n m)) → DualAnswer P x
dual_answer P (Some x) sound complete = are (sound x.four x.six refl)
dual_answer P None sound complete = none (λ n m p. let e = complete n m p in let z : ◌≡◌ {A = ℕ} 0 1 = cc in omega arith)
