-- What the functions that keep an input write: one rule for each way out of the functions of src/keeping.rt; and that chunk after chunk, what is held
-- is answered as the whole input is (`held_answer`). From the definitions of Keeping, the laws on writing of `text` and `kept_same`.
use Prim.Native.Nat.{ℕ, zero, suc, ◌+◌, ◌-◌, ◌≤◌, ◌<◌, min}
use mathlib.Core.Path.{◌≡◌, refl, sym, ap, ◌∙◌}
use mathlib.Core.Logic.{⊎_elim}
use mathlib.Core.List.{List, [], ◌∷◌, ◌++◌, append-nil, append_assoc}
use mathlib.Core.Bool.{Bool, true, false, cond, ◌&&◌}
use native.Mathlib.Omega.{arith}
use native.Mathlib.Numerals.{add-one}
use lib.ListN.{length, get_or, take, drop, replicate, length-append, length-take, length-drop, drop_of_length-le}
use lib.Seq.{take_all, take_at, drop-cons, length-take-le, sets-eq}
use lib.Dec.{ltb, eqb}
use borrow.Author.Tests.{lt-ltb, le-ltb, ne_eqb, eq-eqb}
use Rattle.text.specs.Bytes.{part}
use Rattle.text.specs.Runs.{run, run_end}
use Rattle.text.specs.Writing.{Wrote}
use Rattle.text.proofs.Laws.Orders.{le_or_lt}
use Rattle.text.proofs.Laws.Runs.{run_le}
use Rattle.text.proofs.Laws.Tests.{cond-elim}
use Rattle.text.proofs.Laws.Writing.{wrote_then, wrote_over, wrote_front, wrote_length}
use Rattle.text.specs.Fields.{is_not, first_field, after_field, after_fields, field}
use Rattle.check_input.specs.Input.{checked_input}
use Rattle.check_input.specs.Keeping.{line_end, without_zeros, time_front, kept_by, time_fronts, host_fronts, kept, Held, holding, joined}
use Rattle.check_input.specs.Lines.{answered}
use Rattle.check_input.proofs.Laws.Keeping.{kept_same}

-- `without_zeros`: the zeros that lead it go, and its last byte stays
abbrev pub is_zero : ℕ → Bool
is_zero b = eqb b 48

skip_by : (t : Bool) (b : ℕ) (s : List ℕ) → drop (min (run is_zero s) (length s - 1)) s ≡ without_zeros s
    → drop (min (cond t (suc (run is_zero s)) 0) (length (b ∷ s) - 1)) (b ∷ s) ≡ cond (t && ltb 0 (length s)) (without_zeros s) (b ∷ s)
skip_by false b s ih = let z : min 0 (length (b ∷ s) - 1) ≡ 0 = omega arith in rw z
skip_by true b [] ih = let z : min (suc (run is_zero [])) (length (b ∷ []) - 1) ≡ 0 = omega arith in rw z
skip_by true b (c ∷ s) ih =
    let r = run is_zero (c ∷ s) in
    let z : min (suc r) (length (b ∷ (c ∷ s)) - 1) ≡ suc (min r (length (c ∷ s) - 1)) = omega arith in
    rw (z, lt-ltb 0 (length (c ∷ s)) (omega arith)) ih

skips : (s : List ℕ) → drop (min (run is_zero s) (length s - 1)) s ≡ without_zeros s
unfolding run without_zeros
skips [] = refl
skips (b ∷ s) = skip_by (eqb b 48) b s (skips s)

pub zeros_gone : (s : List ℕ) (z : ℕ) → z ≡ run_end is_zero s 0 → (l : ℕ) → l ≡ length s - 1 → (k : ℕ) → k ≡ min z l
    → take (length s - k) (drop k s) ≡ without_zeros s
unfolding run_end
zeros_gone s z e l f k g =
    let start : z ≡ run is_zero s = e ∙ omega arith in
    take_all (length s - k) (drop k s) (omega (arith, length-drop k s)) ∙ rw (g, start, f) (skips s)

-- `put_front`, `keep_line` and `keep_time`
first_length : (s : List ℕ) → length (field 10 0 s) ≡ run (is_not 10) s
unfolding field after_fields first_field
first_length s = length-take-le (run (is_not 10) s) s (run_le (is_not 10) s)

module _ (out : List ℕ) (at : ℕ) (input line : List ℕ) (e : line ≡ field 10 0 input) where
  module _ (front o₁ : List ℕ) (n₁ : ℕ) (v : Wrote front out at o₁ n₁) where
    pub front_ended : length line < length input → (o₂ : List ℕ) (n₂ : ℕ) → Wrote (10 ∷ []) o₁ n₁ o₂ n₂ → Wrote (front ++ line_end input) out at o₂ n₂
    unfolding line_end
    front_ended h o₂ n₂ w =
        let l : run (is_not 10) input < length input = omega (arith, first_length input, ap length e) in
        rw (lt-ltb (run (is_not 10) input) (length input) l) (wrote_then out at front (10 ∷ []) o₁ o₂ n₁ n₂ v w)

    pub front_open : length input ≤ length line → Wrote (front ++ line_end input) out at o₁ n₁
    unfolding line_end
    front_open h =
        let l : length input ≤ run (is_not 10) input = omega (arith, first_length input, ap length e) in
        rw (le-ltb (run (is_not 10) input) (length input) l, append-nil) v

  pub line_kept : (limit : ℕ) (p : List ℕ) → p ≡ part line 0 limit → (o : List ℕ) (r : ℕ) → Wrote (p ++ line_end input) out at o r
      → Wrote (take limit (first_field 10 input) ++ line_end input) out at o r
  unfolding field after_fields
  line_kept limit p q o r w = let z : limit - 0 ≡ limit = omega arith in rw (← e, ← z, ← q) w

  pub time_kept : (d : List ℕ) → d ≡ without_zeros line → (p : List ℕ) → p ≡ part d 0 21 → (o : List ℕ) (r : ℕ) → Wrote (p ++ line_end input) out at o r
      → Wrote (time_front (first_field 10 input) ++ line_end input) out at o r
  unfolding field after_fields time_front
  time_kept d f p q o r w = rw (← e, ← f, ← q) w

-- `keep_from_time`, `keep_from_helo` and `keep`
module _ (out : List ℕ) (at : ℕ) (input s₁ : List ℕ) (e₁ : s₁ ≡ after_fields 10 1 input) (o₁ : List ℕ) (n₁ : ℕ) (o₂ : List ℕ) (n₂ : ℕ) where
  pub time_on : (p : List ℕ) → p ≡ part s₁ 0 65536 → Wrote (time_front (first_field 10 input) ++ line_end input) out at o₁ n₁ → Wrote p o₁ n₁ o₂ n₂
      → Wrote (kept_by time_fronts input) out at o₂ n₂
  unfolding kept_by after_fields
  time_on p q v w = wrote_then out at _ _ o₁ o₂ n₁ n₂ v (rw (q, e₁) at w)

  module _ (s₂ : List ℕ) (e₂ : s₂ ≡ after_fields 10 2 input) (o₃ : List ℕ) (n₃ : ℕ) where
    pub helo_on : Wrote (take 256 (first_field 10 input) ++ line_end input) out at o₁ n₁ → Wrote (take 256 (first_field 10 s₁) ++ line_end s₁) o₁ n₁ o₂ n₂
        → Wrote (kept_by time_fronts s₂) o₂ n₂ o₃ n₃ → Wrote (kept_by host_fronts input) out at o₃ n₃
    unfolding kept_by after_fields
    helo_on u v w = wrote_then out at _ _ o₁ o₃ n₁ n₃ u (wrote_then o₁ n₁ _ _ o₂ o₃ n₂ n₃ (rw e₁ at v) (rw e₂ at w))

module _ (out : List ℕ) (at : ℕ) (input s₁ s₂ s₃ : List ℕ) (e₁ : s₁ ≡ after_fields 10 1 input) (e₂ : s₂ ≡ after_fields 10 2 input) (e₃ : s₃ ≡ after_fields 10 3 input) where
  pub all_kept : (o₁ : List ℕ) (n₁ : ℕ) (o₂ : List ℕ) (n₂ : ℕ) (o₃ : List ℕ) (n₃ : ℕ) (o₄ : List ℕ) (n₄ : ℕ)
      → Wrote (take 46 (first_field 10 input) ++ line_end input) out at o₁ n₁ → Wrote (take 256 (first_field 10 s₁) ++ line_end s₁) o₁ n₁ o₂ n₂
      → Wrote (take 321 (first_field 10 s₂) ++ line_end s₂) o₂ n₂ o₃ n₃ → Wrote (kept_by host_fronts s₃) o₃ n₃ o₄ n₄ → Wrote (kept input) out at o₄ n₄
  unfolding kept kept_by after_fields
  all_kept o₁ n₁ o₂ n₂ o₃ n₃ o₄ n₄ u v w x =
      wrote_then out at _ _ o₁ o₄ n₁ n₄ u (wrote_then o₁ n₁ _ _ o₂ o₄ n₂ n₄ (rw e₁ at v) (wrote_then o₂ n₂ _ _ o₃ o₄ n₃ n₄ (rw e₂ at w) (rw e₃ at x)))

-- how much is kept
front_length : (n : ℕ) (s : List ℕ) → length (take n s) ≤ n
front_length n s = rw length-take (omega arith)

end_length : (s : List ℕ) → length (line_end s) ≤ 1
unfolding line_end
end_length s = cond-elim (λ (x : List ℕ). length x ≤ 1) (ltb (run (is_not 10) s) (length s)) (λ _. omega arith) (λ _. omega arith)

pub kept_length : (input : List ℕ) → length (kept input) ≤ 66698
unfolding kept kept_by time_front
kept_length input =
    let a = after_field 10 input in
    let b = after_field 10 a in
    let c = after_field 10 b in
    let d = after_field 10 c in
    let e = after_field 10 d in
    simp length-append
    (omega (
      arith,
      front_length 46 (first_field 10 input),
      end_length input,
      front_length 256 (first_field 10 a),
      end_length a,
      front_length 321 (first_field 10 b),
      end_length b,
      front_length 256 (first_field 10 c),
      end_length c,
      front_length 256 (first_field 10 d),
      end_length d,
      front_length 21 (without_zeros (first_field 10 e)),
      end_length e,
      front_length 65536 (after_field 10 e),
    ))

-- `hold`
module _ (held chunk more : List ℕ) (n size : ℕ) (a : n ≤ 66698) (b : length chunk ≤ 65536) (c : 132234 ≤ length held) (q : more ≡ part chunk 0 size)
    (h₁ : List ℕ) (end : ℕ) (u : Wrote more held n h₁ end) where
  fits : n + length more ≤ length held
  fits = rw (q, length-take) (omega arith)

  both_length : length (take n held ++ more) ≡ n + length more
  both_length = rw (length-append, length-take-le n held (omega (arith, fits))) refl

  end_is : length (take n held ++ more) ≡ end
  end_is = both_length ∙ omega (arith, fits, u.next_place, u.room)

  both_held : (x : List ℕ) → x ≡ part h₁ 0 end → x ≡ take n held ++ more
  both_held x e =
      let z : end - 0 ≡ end = omega arith in
      e ∙ rw (z, u.text, sets-eq more held n fits) (take_at (take n held ++ more) (drop (n + length more) held) end end_is)

  module _ (x : List ℕ) (e : x ≡ part h₁ 0 end) (space : List ℕ) (l : 66698 ≡ length space) (space' : List ℕ) (m : ℕ) (v : Wrote (kept x) space 0 space' m)
      (y : List ℕ) (f : y ≡ part space' 0 m) where
    size_kept : m ≡ length (kept x)
    size_kept = wrote_length (kept x) space space' m v (omega (arith, kept_length x))

    kept_stands : y ≡ kept x
    kept_stands =
        let z : m - 0 ≡ m = omega arith in
        f ∙ rw (z, wrote_front (kept x) space space' m v (omega (arith, kept_length x))) (take_at (kept x) (drop (length (kept x)) space) m (sym size_kept))

    held_more : (h₂ : List ℕ) (r : ℕ) → Wrote y h₁ 0 h₂ r → Held held n (part chunk 0 size) h₂ r
    held_more h₂ r w =
        let k : kept x ≡ kept (take n held ++ part chunk 0 size) = ap kept (both_held x e ∙ ap (λ (s : List ℕ). take n held ++ s) q) in
        let w' : Wrote (kept x) h₁ 0 h₂ r = rw kept_stands at w in
        let s = wrote_length (kept x) h₁ h₂ r w' (omega (arith, kept_length x)) in
        record {
          size = s ∙ ap length k;
          small = omega (arith, s, kept_length x);
          buffer = wrote_over (kept x) h₁ h₂ r w' ∙ rw (k, u.text, q);
        }

-- the same by three writers, each of which begins at what the one before left
module _ (held chunk more : List ℕ) (n size : ℕ) (a : n ≤ 66698) (b : length chunk ≤ 65536) (c : 132234 ≤ length held) (q : more ≡ part chunk 0 size) where
  pub held_written : (h₁ h : List ℕ) (end : ℕ) → h ≡ h₁ → Wrote more held n h₁ end → (x : List ℕ) → x ≡ part h 0 end
      → (space : List ℕ) → 66698 ≡ length space → (s₀ s₁ s : List ℕ) (i m : ℕ) → s₀ ≡ space → i ≡ 0 → s ≡ s₁ → Wrote (kept x) s₀ i s₁ m
      → (y : List ℕ) → y ≡ part s 0 m → (b₀ b₁ after : List ℕ) (j r : ℕ) → b₀ ≡ h → j ≡ 0 → after ≡ b₁ → Wrote y b₀ j b₁ r
      → Held held n (part chunk 0 size) after r
  held_written h₁ h end eh u x e space l s₀ s₁ s i m es ei et v y f b₀ b₁ after j r eb ej ea w =
      rw ea
      (held_more held chunk more n size a b c q h₁ end u x (e ∙ ap (λ (z : List ℕ). part z 0 end) eh) space l s₁ m (rw (es, ei) at v)
      y (f ∙ ap (λ (z : List ℕ). part z 0 m) et) b₁ r (rw (eb, eh, ej) at w))

-- chunk after chunk
module _ (name text : List ℕ) where
  chunks_same : (cs : List (List ℕ)) (h x : List ℕ) → ((y : List ℕ) → checked_input (h ++ y) name text ≡ checked_input (x ++ y) name text)
      → checked_input (holding h cs) name text ≡ checked_input (joined x cs) name text
  unfolding holding joined
  chunks_same [] h x f = rw (append-nil, append-nil) at (f [])
  chunks_same (c ∷ cs) h x f =
      chunks_same cs (kept (h ++ c)) (x ++ c) (λ y. kept_same (h ++ c) y name text ∙ rw (append_assoc h c y, append_assoc x c y) (f (c ++ y)))

pub held_answer : (chunks : List (List ℕ)) → answered (holding [] chunks) ≡ answered (joined [] chunks)
unfolding answered
held_answer chunks = chunks_same (replicate 253 0) (replicate 500 0) chunks [] [] (λ y. refl)
