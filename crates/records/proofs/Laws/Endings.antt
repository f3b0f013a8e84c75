-- Which ends stand among those of the models: what is left of an end without its first bytes is one, so every end of each model is; and the ends that
-- macro-strings, domain-specs, networks and prefix lengths need are among them. From the definition of `ending` and, for each model, its place.
use Prim.Native.Nat.{ℕ, zero, suc, ◌+◌, ◌≤◌, ◌<◌}
use mathlib.Core.Path.{◌≡◌, refl, sym, ap, ◌∙◌}
use mathlib.Core.List.{List, [], ◌∷◌}
use mathlib.Core.Bool.{Bool}
use native.Mathlib.Omega.{arith}
use native.Mathlib.Nat.{add-sub_cancel_left}
use lib.ListN.{length, take, drop, length-drop}
use lib.Seq.{drop-drop}
use Rattle.text.specs.Bytes.{is_not_space}
use Rattle.text.specs.Texts.{bytes}
use Rattle.text.specs.Runs.{is_in, run, run_end}
use Rattle.text.specs.declared.bytes.Class.TheVariants.{NotSpace}
use Rattle.text.proofs.Laws.Tests.{cond-elim}
use Rattle.macros.proofs.Laws.Beginnings.{End as MacroEnd}
use Rattle.networks.proofs.Laws.Beginnings.{End as NetworkEnd}
use Rattle.records.specs.Beginnings.{models, ending}

-- c is an end of a model
pub record Ending (c : List ℕ) : Type 0 where
  pub place : ℕ
  pub inside : place ≤ length models
  pub is : ending models place ≡ c

-- the run of a class at the front of a list, and what is left of it without its first byte
abbrev front : (ℕ → Bool) → List ℕ → List ℕ
front p s = take (run p s) s

record Shorter (p : ℕ → Bool) (s c : List ℕ) : Type 0 where
  some : 0 < length s
  is : front p (drop 1 s) ≡ c

front_shorter : (p : ℕ → Bool) (s : List ℕ) {b : ℕ} {c : List ℕ} → front p s ≡ b ∷ c → Shorter p s c
unfolding run
front_shorter p [] h = let z : ◌≡◌ {A = ℕ} 0 1 = cc in absurd (omega arith)
front_shorter p (x ∷ s) {b} {c} h = cond-elim (λ (n : ℕ). take n (x ∷ s) ≡ b ∷ c → Shorter p (x ∷ s) c) (p x) {x = suc (run p s)} {y = 0}
    (λ _ e. record { some = omega arith; is = cc })
    (λ _ e. let z : ◌≡◌ {A = ℕ} 0 1 = cc in absurd (omega arith)) h

ending_front : (s : List ℕ) (i : ℕ) → ending s i ≡ front (is_in NotSpace) (drop i s)
unfolding ending run_end
ending_front s i = simp add-sub_cancel_left

end_shorter : {b : ℕ} {c : List ℕ} → Ending (b ∷ c) → Ending c
end_shorter e =
    let i = e.place in
    let r = front_shorter (is_in NotSpace) (drop i models) (sym (ending_front models i) ∙ e.is) in
    record {
      place = i + 1;
      inside = omega (arith, r.some, length-drop i models);
      is = ending_front models (i + 1) ∙ ap (front (is_in NotSpace)) (sym (drop-drop 1 i models)) ∙ r.is;
    }

-- without its first k bytes
pub end_drop : (k : ℕ) {c : List ℕ} → Ending c → Ending (drop k c)
end_drop zero e = e
end_drop (suc k) {c = []} e = e
end_drop (suc k) {c = b ∷ c} e = end_drop k (end_shorter e)

-- each model
pub modifier_model : Ending (bytes "x=.a")
unfolding ending run_end run is_in is_not_space
modifier_model = record { place = 0; inside = omega arith; is = refl }

pub all_model : Ending (bytes "all")
unfolding ending run_end run is_in is_not_space
all_model = record { place = 43; inside = omega arith; is = refl }

pub mx_model : Ending (bytes "mx")
unfolding ending run_end run is_in is_not_space
mx_model = record { place = 47; inside = omega arith; is = refl }

pub ptr_model : Ending (bytes "ptr")
unfolding ending run_end run is_in is_not_space
ptr_model = record { place = 50; inside = omega arith; is = refl }

pub include_model : Ending (bytes "include:%%")
unfolding ending run_end run is_in is_not_space
include_model = record { place = 54; inside = omega arith; is = refl }

pub exists_model : Ending (bytes "exists:%{d01}")
unfolding ending run_end run is_in is_not_space
exists_model = record { place = 29; inside = omega arith; is = refl }

pub a_model : Ending (bytes "a//0")
unfolding ending run_end run is_in is_not_space
a_model = record { place = 5; inside = omega arith; is = refl }

pub ip4_model : Ending (bytes "ip4:0.0.0.0")
unfolding ending run_end run is_in is_not_space
ip4_model = record { place = 10; inside = omega arith; is = refl }

pub ip6_model : Ending (bytes "ip6:::")
unfolding ending run_end run is_in is_not_space
ip6_model = record { place = 22; inside = omega arith; is = refl }

-- nothing, after a model
pub no_end : Ending []
no_end = end_drop 3 all_model

-- the ends that the parts of terms need
pub macro_end : (c : List ℕ) → MacroEnd c → Ending c
macro_end c MacroEnd.nothing = no_end
macro_end c MacroEnd.percent = end_drop 9 include_model
macro_end c MacroEnd.letter = end_drop 9 exists_model
macro_end c MacroEnd.one = end_drop 11 exists_model
macro_end c MacroEnd.brace = end_drop 12 exists_model
macro_end c MacroEnd.label = end_drop 2 modifier_model

pub network_end : (c : List ℕ) → NetworkEnd c → Ending c
network_end c NetworkEnd.nothing = no_end
network_end c NetworkEnd.zero_1 = end_drop 10 ip4_model
network_end c NetworkEnd.dot_1 = end_drop 9 ip4_model
network_end c NetworkEnd.zero_2 = end_drop 8 ip4_model
network_end c NetworkEnd.dot_2 = end_drop 7 ip4_model
network_end c NetworkEnd.zero_3 = end_drop 6 ip4_model
network_end c NetworkEnd.dot_3 = end_drop 5 ip4_model
network_end c NetworkEnd.zero_4 = end_drop 4 ip4_model
network_end c NetworkEnd.colon = end_drop 5 ip6_model
network_end c NetworkEnd.colons = end_drop 4 ip6_model
network_end c NetworkEnd.slash = end_drop 2 a_model
