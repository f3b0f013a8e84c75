-- Bytes written into a buffer: nothing, one piece after another, and what the buffer holds then. `Wrote` composes with no side condition.
use Prim.Native.Nat.{ℕ, suc, ◌+◌, ◌-◌, ◌≤◌, ◌<◌, ◌^◌, min}
use native.Mathlib.Omega.{arith}
use native.Mathlib.Numerals.{add-one}
use native.Mathlib.Nat.{add-zero, zero-add, add-suc, suc-add}
use mathlib.Core.Path.{◌≡◌, refl, sym, ap, ◌∙◌}
use mathlib.Core.Logic.{⊎_elim}
use mathlib.Core.List.{List, [], ◌∷◌, ◌++◌, map, map-append, map-id, append_assoc, append-nil}
use lib.ListN.{length, get_or, take, drop, set, length-append, length-take, take-append-drop, drop_of_length-le}
use lib.Seq.{sets, length-sets, sets-eq, set_out, take-suc, take_all, take_at, length-take-le}
use Rattle.text.specs.Writing.{Wrote, overwritten}
use Rattle.text.proofs.Laws.Orders.{le_or_lt}

pub sets_append : (xs ys l : List ℕ) (i : ℕ) → sets l i (xs ++ ys) ≡ sets (sets l i xs) (i + length xs) ys
sets_append [] ys l i = rw add-zero
sets_append (x ∷ xs) ys l i = rw (add-suc, ← suc-add) (sets_append xs ys (set l i x) (suc i))

pub sets_out : (xs l : List ℕ) (i : ℕ) → length l ≤ i → sets l i xs ≡ l
sets_out [] l i h = refl
sets_out (x ∷ xs) l i h = rw (set_out l i x h) (sets_out xs l (suc i) (omega arith))

sets_capped : (n : ℕ) (ys l : List ℕ) (i : ℕ) → length l ≤ n → sets l (min i n) ys ≡ sets l i ys
sets_capped n ys l i h = ⊎_elim (λ (p : i ≤ n). let e : min i n ≡ i = omega arith in rw e)
    (λ (p : n < i). rw (sets_out ys l i (omega arith)) (sets_out ys l (min i n) (omega arith)))
    (le_or_lt i n)

module _ (out : List ℕ) (at : ℕ) where
  pub wrote_none : at ≤ 18446744073709551615 → length out ≤ 18446744073709551615 → Wrote [] out at out at
  wrote_none h l = record { next_place = omega arith; room = l; text = refl }

  pub wrote_then : (xs ys o₁ o₂ : List ℕ) (n₁ n₂ : ℕ) → Wrote xs out at o₁ n₁ → Wrote ys o₁ n₁ o₂ n₂ → Wrote (xs ++ ys) out at o₂ n₂
  wrote_then xs ys o₁ o₂ n₁ n₂ v w =
      record {
        next_place = simp length-append (omega (arith, v.next_place, w.next_place));
        room = v.room;
        text = w.text ∙ rw (v.text, v.next_place, sets_append xs ys out at) (sets_capped 18446744073709551615 ys (sets out at xs) (at + length xs) (rw length-sets v.room));
      }

  pub length_wrote : (xs after : List ℕ) (n : ℕ) → Wrote xs out at after n → length after ≡ length out
  length_wrote xs after n w = rw w.text (length-sets out at xs)

-- what is written from the front on
sets_long : (xs l : List ℕ) (i : ℕ) → i ≤ length l → length l ≤ i + length xs → sets l i xs ≡ take i l ++ take (length l - i) xs
sets_long xs l i h k =
    let n = length l - i in
    let e : xs ≡ take n xs ++ drop n xs = sym (take-append-drop n xs) in
    let m : length (take n xs) ≡ n = length-take-le n xs (omega arith) in
    let f = sets-eq (take n xs) l i (omega arith) in
    let d : drop (i + length (take n xs)) l ≡ [] = drop_of_length-le l {i = i + length (take n xs)} (omega arith) in
    ap (sets l i) e ∙ sets_append (take n xs) (drop n xs) l i ∙ sets_out (drop n xs) (sets l i (take n xs)) (i + length (take n xs)) (rw length-sets (omega arith))
    ∙ f ∙ rw (d, append-nil)

pub wrote_over : (xs before after : List ℕ) (n : ℕ) → Wrote xs before 0 after n → after ≡ overwritten xs before
unfolding overwritten
wrote_over xs before after n w = ⊎_elim
    (λ (h : length xs ≤ length before). w.text ∙ sets-eq xs before 0 (omega arith) ∙ rw (zero-add, take_all (length before) xs h))
    (λ (h : length before < length xs).
    let z : length before - 0 ≡ length before = omega arith in
    w.text ∙ sets_long xs before 0 (omega arith) (omega arith) ∙ rw (z, drop_of_length-le before {i = length xs} (omega arith), append-nil))
    (le_or_lt (length xs) (length before))

-- and where there is room for all of it
pub over_fits : (xs before : List ℕ) → length xs ≤ length before → overwritten xs before ≡ xs ++ drop (length xs) before
unfolding overwritten
over_fits xs before h = rw (take_all (length before) xs h)

pub wrote_front : (xs before after : List ℕ) (n : ℕ) → Wrote xs before 0 after n → length xs ≤ length before → after ≡ xs ++ drop (length xs) before
wrote_front xs before after n w h = wrote_over xs before after n w ∙ over_fits xs before h

pub wrote_length : (xs before after : List ℕ) (n : ℕ) → Wrote xs before 0 after n → length xs ≤ 18446744073709551615 → n ≡ length xs
wrote_length xs before after n w h = omega (arith, w.next_place)

-- a text that was written from a place on, with room for it: what stood before that place and what was written are read back
module _ (xs z v : List ℕ) (at n : ℕ) (w : Wrote xs z at v n) (h : at + length xs ≤ length z) where
  pub after_place : n ≡ at + length xs
  after_place = omega (arith, w.next_place, w.room)

  after_is : v ≡ (take at z ++ xs) ++ drop (at + length xs) z
  after_is = w.text ∙ sets-eq xs z at h

  front_length : length (take at z) ≡ at
  front_length = length-take-le at z (omega arith)

  pub after_taken : take n v ≡ take at z ++ xs
  after_taken = rw after_is (take_at (take at z ++ xs) (drop (at + length xs) z) n (simp length-append (omega (arith, after_place, front_length))))

  pub after_front : take at v ≡ take at z
  after_front = rw (after_is, append_assoc) (take_at (take at z) (xs ++ drop (at + length xs) z) at front_length)

-- a text that was written into an array with room for it: what was written is read back
module _ (xs z v : List ℕ) (n : ℕ) (w : Wrote xs z 0 v n) (h : length xs ≤ length z) where
  value_size : n ≡ length xs
  value_size = omega (arith, after_place xs z v 0 n w (omega arith))

  pub value_taken : take n v ≡ xs
  value_taken = after_taken xs z v 0 n w (omega arith)

  pub value_inside : n ≤ length v
  value_inside = omega (arith, value_size, length_wrote z 0 xs v n w)

  pub value_whole : n ≡ length (take n v)
  value_whole = simp length-take (let i = value_inside in omega arith)

-- a loop that writes f of each byte: the bytes passed, and what was written of them
module _ (f : ℕ → ℕ) (s out : List ℕ) (at : ℕ) where
  pub record Copied (i : ℕ) (o : List ℕ) (n : ℕ) : Type 0 where
    pub within : i ≤ length s
    pub wrote : Wrote (map f (take i s)) out at o n

  pub copied_start : at < 2 ^ 64 → length out < 2 ^ 64 → Copied 0 out at
  copied_start h l = record { within = omega arith; wrote = wrote_none out at (omega arith) (omega arith) }

  module _ (i : ℕ) (o : List ℕ) (n : ℕ) (p : Copied i o n) where
    pub copied_next : i < length s → (b : ℕ) → b ≡ f (get_or s i 0) → (o' : List ℕ) (n' : ℕ) → Wrote (b ∷ []) o n o' n' → Copied (i + 1) o' n'
    copied_next h b e o' n' w =
        record {
          within = omega arith;
          wrote = rw (add-one, take-suc s i 0 h, map-append, ← e) (wrote_then out at (map f (take i s)) (b ∷ []) o o' n n' p.wrote w);
        }

    pub copied_end : length s ≤ i → Wrote (map f s) out at o n
    copied_end h = rw (sym (take_all i s h)) p.wrote

-- the same of a plain copy
module _ (s out : List ℕ) (at i : ℕ) (o : List ℕ) (n : ℕ) (p : Copied (λ b. b) s out at i o n) where
  pub plain_next : i < length s → (o' : List ℕ) (n' : ℕ) → Wrote (get_or s i 0 ∷ []) o n o' n' → Copied (λ b. b) s out at (i + 1) o' n'
  plain_next h o' n' w = copied_next (λ b. b) s out at i o n p h (get_or s i 0) refl o' n' w

  pub plain_end : length s ≤ i → Wrote s out at o n
  plain_end h = rw map-id at (copied_end (λ b. b) s out at i o n p h)
