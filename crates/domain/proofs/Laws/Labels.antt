-- Whether every label fits, by the run of label bytes from a place on; whether a text is a name; how many labels it has. From the definitions
-- of Names and the laws of runs and splitting.
use Prim.Native.Nat.{ℕ, suc, ◌+◌, ◌-◌, ◌≤◌, ◌<◌}
use mathlib.Core.Path.{◌≡◌, refl, sym, ap, ◌∙◌}
use mathlib.Core.Logic.{⊎_elim}
use mathlib.Core.List.{List, [], ◌∷◌}
use mathlib.Core.Bool.{Bool, true, false, cond, not, ◌&&◌}
use native.Mathlib.Omega.{arith}
use native.Mathlib.Nat.{zero-add}
use native.Mathlib.Numerals.{add-one}
use lib.ListN.{length, take, drop}
use lib.Seq.{take_all, length-take-le}
use lib.Dec.{eqb, leb, ltb, eqb-suc-suc, eqb-zero-suc}
use borrow.Author.Tests.{eqb-true, ltb-true, ltb-false, eq-eqb, not-false, not-true, lt-leb, le-leb}
use Rattle.std.specs.List.{count_by}
use Rattle.std.proofs.lemmas.List.Recursion.{is_count_by}
use Rattle.text.specs.Bytes.{at, is_dot, is_visible, is_label_byte, within}
use Rattle.text.specs.Lists.{all, split, join}
use Rattle.text.specs.Runs.{is_in, run, run_end}
use Rattle.text.specs.declared.bytes.Class.TheVariants.{LabelByte}
use Rattle.text.proofs.Laws.Tests.{cond-elim, and_left, and_right, and_both, fails_test}
use Rattle.text.proofs.Laws.Classes.{within_range, range_within}
use Rattle.text.proofs.Laws.Parts.{all_first}
use Rattle.text.proofs.Laws.Runs.{run_le, run_stops, run_within}
use Rattle.text.proofs.Laws.Spans.{rest_part}
use Rattle.text.proofs.Laws.Splitting.{Some, some_count, front, split_some, split_none, split_first, count_in, count_out, join_dots}
use Rattle.text.proofs.Laws.Orders.{le_or_lt}
use Rattle.domain.specs.Names.{labels, is_label, label_of, all_fit, is_name, label_count}

-- the byte after the front is a dot, and none within it is
pub front_dot : (s : List ℕ) → front is_dot s < length s → at s (front is_dot s) ≡ 46
front_dot s h = eqb-true (at s (front is_dot s)) 46 (not-false (is_dot (at s (front is_dot s))) (run_stops (λ b. not (is_dot b)) s h))

front_no_dot : (s : List ℕ) (i : ℕ) → i < front is_dot s → at s i ≡ 46 → ⊥
front_no_dot s i h e =
    let f = not-true (is_dot (at s i)) (run_within (λ b. not (is_dot b)) s i h) in
    let t = eq-eqb (at s i) 46 e in
    let z : ◌≡◌ {A = ℕ} 0 1 = cc in
    omega arith

-- there is a label, and joined by dots the labels are the name
pub labels_some : (s : List ℕ) → Some (labels s)
unfolding labels
labels_some s = split_some is_dot s

pub join_labels : (s : List ℕ) → join (labels s) ≡ s
unfolding labels
join_labels s = join_dots s

-- the labels by the first one
pub labels_none : (s : List ℕ) → length s ≤ front is_dot s → labels s ≡ s ∷ []
unfolding labels
labels_none s h = split_none is_dot s h

pub labels_first : (s : List ℕ) → front is_dot s < length s → labels s ≡ take (front is_dot s) s ∷ labels (drop (suc (front is_dot s)) s)
unfolding labels
labels_first s h = split_first is_dot s h

-- labels whose bytes pass q, by runs of bytes that pass q and are no dot
module _ (p q : ℕ → Bool) (no_dot : (b : ℕ) → p b ≡ (q b && not (is_dot b))) where
  -- the run ends at the first label's end, exactly if every byte of that label passes
  record First (s : List ℕ) (e f : ℕ) : Type 0 where
    before : e ≤ f
    passes : all q (take f s) ≡ eqb e f

  first_label : (s : List ℕ) → First s (run p s) (front is_dot s)
  unfolding run all
  first_label [] = record { before = omega arith; passes = refl }
  first_label (b ∷ s) = rw (no_dot b) (by (eqb b 46) (q b) refl (first_label s))
    where
      by : (d v : Bool) → q b ≡ v → First s (run p s) (front is_dot s)
          → First (b ∷ s) (cond (v && not d) (suc (run p s)) 0) (cond (not d) (suc (front is_dot s)) 0)
      by true true e ih = record { before = omega arith; passes = refl }
      by true false e ih = record { before = omega arith; passes = refl }
      by false true e ih = record { before = let h = ih.before in omega arith; passes = rw e (ih.passes ∙ sym (eqb-suc-suc (run p s) (front is_dot s))) }
      by false false e ih = record { before = omega arith; passes = rw e (sym (eqb-zero-suc (front is_dot s))) }

  first_fits : (s : List ℕ) → all_fit q s ≡ true → label_of q (take (front is_dot s) s) ≡ true
  first_fits s h = ⊎_elim
      (λ (k : length s ≤ front is_dot s). rw (take_all (front is_dot s) s k) (all_first (label_of q) s [] (rw (labels_none s k) at h)))
      (λ (k : front is_dot s < length s). all_first (label_of q) (take (front is_dot s) s) (labels (drop (suc (front is_dot s)) s)) (rw (labels_first s k) at h))
      (le_or_lt (length s) (front is_dot s))

  -- e is the end of the run at the front
  module _ (s : List ℕ) (e : ℕ) (r : e ≡ run p s) where
    first : First s e (front is_dot s)
    first = rw r (first_label s)

    run_inside : e ≤ length s
    run_inside = rw r (run_le p s)

    front_inside : front is_dot s ≤ length s
    front_inside = run_le (λ b. not (is_dot b)) s

    -- all labels fit only if the first one does
    record Fits : Type 0 where
      least : 1 ≤ front is_dot s
      most : front is_dot s ≤ 63
      ends : e ≡ front is_dot s

    fits_first : all_fit q s ≡ true → Fits
    fits_first h =
        let t = take (front is_dot s) s in
        let l = first_fits s h in
        let w = within_range 1 63 (length t) (and_left (within 1 63 (length t)) (all q t) l) in
        let n : length t ≡ front is_dot s = length-take-le (front is_dot s) s front_inside in
        let v = and_right (within 1 63 (length t)) (all q t) l in
        record { least = omega arith; most = omega arith; ends = eqb-true e (front is_dot s) (sym first.passes ∙ v) }

    fit_empty : e ≡ 0 → false ≡ all_fit q s
    fit_empty h = fails_test (all_fit q s) (λ k. let f = fits_first k in omega (arith, f.least, f.ends))

    fit_long : 63 < e → false ≡ all_fit q s
    fit_long h = fails_test (all_fit q s) (λ k. let f = fits_first k in omega (arith, f.most, f.ends))

    fit_other : (e ≡ length s → ⊥) → (at s e ≡ 46 → ⊥) → false ≡ all_fit q s
    fit_other h d = fails_test (all_fit q s) (λ k.
        let f = fits_first k in
        let i = run_inside in
        let l : e < length s = omega arith in
        d (rw f.ends (front_dot s (rw (sym f.ends) l))))

    -- a first label that fits
    module _ (z : e ≡ 0 → ⊥) (m : e ≤ 63) where
      label_fits : e ≡ front is_dot s → label_of q (take e s) ≡ true
      label_fits h =
          let n : length (take e s) ≡ e = length-take-le e s run_inside in
          and_both (within 1 63 (length (take e s))) (all q (take e s))
          (range_within 1 63 (length (take e s)) (omega arith) (omega arith))
          (ap (λ (x : ℕ). all q (take x s)) h ∙ first.passes ∙ eq-eqb e (front is_dot s) h)

      fit_last : e ≡ length s → all_fit q s ≡ true
      unfolding all
      fit_last h =
          let b = first.before in
          let i = front_inside in
          let f : e ≡ front is_dot s = omega arith in
          rw (labels_none s (omega arith)) (and_both (label_of q s) true (rw (take_all e s (omega arith)) at (label_fits f)) refl)

      module _ (h : e ≡ length s → ⊥) (d : at s e ≡ 46) where
        at_front : e ≡ front is_dot s
        at_front = ⊎_elim
            (λ (k : front is_dot s ≤ e). let b = first.before in omega arith)
            (λ (k : e < front is_dot s). absurd (front_no_dot s e k d))
            (le_or_lt (front is_dot s) e)

        fit_rest : all_fit q s ≡ all_fit q (drop (suc e) s)
        unfolding all
        fit_rest =
            let f = at_front in
            let i = run_inside in
            let parts : labels s ≡ take e s ∷ labels (drop (suc e) s) = rw at_front (labels_first s (omega arith)) in
            rw (parts, label_fits f)

-- `labels_fit`: e is the end of the run from the front on
module _ (p q : ℕ → Bool) (no_dot : (b : ℕ) → p b ≡ (q b && not (is_dot b))) (s : List ℕ) (e : ℕ) (r : e ≡ run_end p s 0) where
  from_front : e ≡ run p s
  unfolding run_end
  from_front = r ∙ zero-add _

  pub fits_none : e < 1 → false ≡ all_fit q s
  fits_none h = fit_empty p q no_dot s e from_front (omega arith)

  pub fits_over : 64 ≤ e → false ≡ all_fit q s
  fits_over h = fit_long p q no_dot s e from_front h

  module _ (h : 1 ≤ e) (k : e < 64) where
    pub fits_one : false ≡ ltb e (length s) → true ≡ all_fit q s
    fits_one l =
        let i = run_inside p q no_dot s e from_front in
        let o = ltb-false e (length s) (sym l) in
        sym (fit_last p q no_dot s e from_front (λ z. omega arith) (omega arith) (omega arith))

    module _ (l : true ≡ ltb e (length s)) where
      inside : e < length s
      inside = ltb-true e (length s) (sym l)

      pub fits_other : (at s e ≡ 46 → ⊥) → false ≡ all_fit q s
      fits_other d = fit_other p q no_dot s e from_front (λ z. let i = inside in omega arith) d

      pub fits_more : at s e ≡ 46 → (t : Bool) → t ≡ all_fit q (take (length s - (e + 1)) (drop (e + 1) s)) → t ≡ all_fit q s
      fits_more d t f =
          let i = inside in
          f ∙ ap (all_fit q) (rest_part s (e + 1)) ∙ rw add-one (sym (fit_rest p q no_dot s e from_front (λ z. omega arith) (omega arith) (λ z. omega arith) d))

-- `is_name`: the labels of a text that isn't too long
module _ (s : List ℕ) where
  pub label_byte : (b : ℕ) → is_in LabelByte b ≡ (is_visible b && not (is_dot b))
  unfolding is_in is_label_byte
  label_byte b = refl

  pub name_long : 253 < length s → leb (length s) 253 ≡ is_name s
  unfolding is_name within
  name_long h = simp (le-leb 1 (length s) (omega arith), lt-leb (length s) 253 h)

pub name_fits : (s : List ℕ) → length s ≤ 253 → (r : Bool) → r ≡ all_fit is_visible s → r ≡ is_name s
unfolding is_name is_label labels split all within
name_fits [] h r e = e
name_fits (b ∷ s) h r e = simp (le-leb 1 (suc (length s)) (omega arith), le-leb (suc (length s)) 253 h) e

-- `count_labels`
pub count_dots : (s : List ℕ) → count_by is_dot s + 1 ≡ label_count s
unfolding label_count labels split
count_dots s = omega (arith, is_count_by dots is_dot refl more s, some_count (split_some is_dot s))
  where
    dots : List ℕ → ℕ
    dots s = length (split is_dot s) - 1

    more : (b : ℕ) (s : List ℕ) → dots (b ∷ s) ≡ cond (is_dot b) (1 + dots s) (dots s)
    more b s = cond-elim (λ (n : ℕ). dots (b ∷ s) ≡ n) (is_dot b)
        (λ e. omega (arith, count_in is_dot b s e, some_count (split_some is_dot s))) (λ e. omega (arith, count_out is_dot b s e))
