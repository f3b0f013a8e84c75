-- A set that agrees with a class at each of the 256 bytes, which is computed, holds the class. From the law of two tests that agree.
use Prim.Native.Nat.{ℕ, ◌<◌}
use mathlib.Core.Path.{◌≡◌, sym, ap, ◌∙◌}
use mathlib.Core.Bool.{Bool, true, beq}
use Rattle.text.specs.Runs.{is_in}
use Rattle.text.specs.Sets.{in_set, Holds}
use Rattle.text.specs.declared.bytes.Class.{Class}
use Rattle.text.specs.declared.bytes.ByteSet.{ByteSet}
use Rattle.text.proofs.Laws.Classes.{all_below, agree}

-- `set_of`: in the arm of a class k it answers the set t
pub holds : (c k : Class) (s t : ByteSet) → c ≡ k → s ≡ t → all_below 256 (λ b. beq (in_set t b) (is_in k b)) ≡ true → Holds c s
holds c k s t p q h b l =
    ap (λ (x : ByteSet). in_set x b) q ∙ agree (in_set t) (is_in k) h b l ∙ sym (ap (λ (x : Class). is_in x b) p)

-- `is_in`: what the set says
pub in_set_lem : (c : Class) (b : ℕ) (s : ByteSet) (z : Bool) → b < 256 → Holds c s → z ≡ in_set s b → z ≡ is_in c b
in_set_lem c b s z l h e = e ∙ h b l
