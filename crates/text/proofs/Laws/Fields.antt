-- The loops over a text's fields, by places: the first separator from a place on, and the place behind k fields. From the definitions of Fields and the
-- laws on runs of `text`.
use Prim.Native.Nat.{ℕ, zero, suc, ◌+◌, ◌-◌, ◌≤◌, ◌<◌}
use mathlib.Core.Path.{◌≡◌, refl, sym, ap, ◌∙◌}
use mathlib.Core.List.{List, []}
use mathlib.Core.Bool.{not}
use native.Mathlib.Omega.{arith}
use native.Mathlib.Nat.{zero-add}
use lib.ListN.{length, take, drop, drop_of_length-le}
use lib.Dec.{eqb}
use Rattle.text.specs.Runs.{run, run_end}
use Rattle.text.proofs.Laws.Runs.{run_end_inside}
use Rattle.text.proofs.Laws.Spans.{rest_part}
use Rattle.text.specs.Fields.{is_not, first_field, after_field, after_fields, field}

-- any byte but the separator, as code tests it
pub other_byte : (separator b : ℕ) → not (eqb b separator) ≡ is_not separator b
unfolding is_not
other_byte separator b = refl

-- behind a text that is empty there is nothing
after_nil : (separator k : ℕ) → after_fields separator k [] ≡ []
unfolding after_fields after_field
after_nil separator zero = refl
after_nil separator (suc k) = after_nil separator k

-- `after_fields`: those that are left are the fields of what stands from a place on
module _ (separator k i : ℕ) (rest : List ℕ) (goes : i < k) (end : ℕ) (e : end ≡ run_end (is_not separator) rest 0) where
  taken : k - i ≡ suc (k - (i + 1))
  taken = omega arith

  step : after_fields separator (k - i) rest ≡ after_fields separator (k - (i + 1)) (drop (end + 1) rest)
  unfolding after_fields after_field run_end
  step =
      let n = run (is_not separator) rest in
      let z : suc n ≡ n + 1 = omega arith in
      rw (taken, e, zero-add) (ap (λ (m : ℕ). after_fields separator (k - (i + 1)) (drop m rest)) z)

  module _ (all : List ℕ) (inv : after_fields separator (k - i) rest ≡ all) where
    pub walked_next : after_fields separator (k - (i + 1)) (take (length rest - (end + 1)) (drop (end + 1) rest)) ≡ all
    walked_next = rw (rest_part rest (end + 1)) (sym step ∙ inv)

    pub walked_out : length rest ≤ end → [] ≡ all
    walked_out h =
        sym (after_nil separator (k - (i + 1))) ∙ ap (after_fields separator (k - (i + 1))) (sym (drop_of_length-le rest {i = end + 1} (omega arith))) ∙ sym step ∙ inv

pub walked_end : (separator k i : ℕ) (rest all : List ℕ) → k ≤ i → after_fields separator (k - i) rest ≡ all → rest ≡ all
unfolding after_fields
walked_end separator k i rest all h inv = let z : k - i ≡ 0 = omega arith in rw z at inv

-- `field`
pub place_inside : (separator : ℕ) (s : List ℕ) (end : ℕ) → end ≡ run_end (is_not separator) s 0 → end ≤ length s
place_inside separator s end e = rw e (run_end_inside (is_not separator) s 0 (omega arith))

pub field_is : (separator k : ℕ) (s rest : List ℕ) (end : ℕ) → rest ≡ after_fields separator k s → end ≡ run_end (is_not separator) rest 0
    → take end rest ≡ field separator k s
unfolding field first_field run_end
field_is separator k s rest end p q = rw (q, zero-add, ← p)
