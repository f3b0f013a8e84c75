-- Parts as the code writes them: in their order, in reverse, and the right-most ones; and the whole transformer. From the laws of splitting, of
-- writing, of escaping and of counts.
use Prim.Native.Nat.{ℕ, zero, suc, ◌+◌, ◌-◌, ◌*◌, ◌≤◌, ◌<◌, ◌^◌, min}
use native.Mathlib.Omega.{arith}
use native.Mathlib.Numerals.{add-one}
use mathlib.Core.Path.{◌≡◌, refl, sym, ap, ◌∙◌}
use mathlib.Core.List.{List, [], ◌∷◌, ◌++◌, map, map-append, append-nil, reverse, reverse-cons}
use mathlib.Core.Bool.{Bool, true, false, cond}
use lib.ListN.{length, get_or, take, drop, take-append-drop, drop_of_length-le, length-reverse}
use lib.Seq.{take-suc, take_all}
use lib.Dec.{eqb}
use Rattle.text.specs.Decimal.{decimal}
use Rattle.text.specs.Lists.{split, separator_before, join_by, join, rightmost}
use Rattle.text.specs.Writing.{Wrote}
use Rattle.text.proofs.Laws.Parts.{rightmost_none, rightmost_all, rightmost_append, rightmost_reverse}
use Rattle.text.proofs.Laws.Spans.{rest_part, drop_before}
use Rattle.text.proofs.Laws.Splitting.{Some, some, some_snoc, split_some, split_append, join_split, count_in, count_out, count_le, join_snoc, join_dots}
use Rattle.text.proofs.Laws.Writing.{wrote_none, wrote_then}
use Rattle.transformers.specs.Transform.{is_listed, reversed_if, kept, escaped_byte, escaped, transformed}
use Rattle.transformers.proofs.Laws.Delimiters.{one_part, front_alone, first_part}
use Rattle.transformers.proofs.Laws.Escaping.{escaped_append, escaped_dot}
use Rattle.transformers.proofs.Laws.Counts.{kept_count}

-- `put_parts`, where nothing is escaped and only dots part a text: it is written as it stands
plain : (s : List ℕ) → escaped false s ≡ s
unfolding escaped escaped_byte
plain [] = refl
plain (b ∷ s) = ap (λ (t : List ℕ). b ∷ t) (plain s)

pub written_plain : (s ds : List ℕ) (escape : Bool) → escape ≡ false → length ds ≡ 0 → (out : List ℕ) (at : ℕ) (o : List ℕ) (n : ℕ) → Wrote s out at o n
    → Wrote (escaped escape (join (split (is_listed ds) s))) out at o n
unfolding is_listed
written_plain s [] escape e z out at o n w = rw (e, plain, join_dots) w
written_plain s (d ∷ ds) escape e z out at o n w = absurd (omega arith)

-- and otherwise, byte by byte
module _ (s ds : List ℕ) (escape : Bool) (out : List ℕ) (at : ℕ) where
  pub record Written (i : ℕ) (o : List ℕ) (n : ℕ) : Type 0 where
    pub within : i ≤ length s
    pub wrote : Wrote (escaped escape (map (λ b. cond (is_listed ds b) 46 b) (take i s))) out at o n

  pub written_start : at < 2 ^ 64 → length out < 2 ^ 64 → Written 0 out at
  unfolding escaped
  written_start h l = record { within = omega arith; wrote = wrote_none out at (omega arith) (omega arith) }

  module _ (i : ℕ) (o : List ℕ) (n : ℕ) (p : Written i o n) where
    pub written_next : i < length s → (b : ℕ) → b ≡ cond (is_listed ds (get_or s i 0)) 46 (get_or s i 0) → (o' : List ℕ) (n' : ℕ) → Wrote (escaped_byte escape b) o n o' n'
        → Written (i + 1) o' n'
    unfolding escaped
    written_next h b e o' n' w =
        record {
          within = omega arith;
          wrote = rw (add-one, take-suc s i 0 h, map-append, ← e, escaped_append, append-nil) (wrote_then out at _ _ o o' n n' p.wrote w);
        }

    pub written_end : length s ≤ i → Wrote (escaped escape (join (split (is_listed ds) s))) out at o n
    written_end h = rw (join_split, ← take_all i s h) p.wrote

-- `put_reversed`
one_reversed : (n : ℕ) (x : List ℕ) → 0 < n → reverse (take n (x ∷ [])) ≡ x ∷ []
one_reversed zero x h = absurd (omega arith)
one_reversed (suc zero) x h = refl
one_reversed (suc (suc n)) x h = refl

some_reversed : (n : ℕ) (xs : List (List ℕ)) → Some xs → Some (reverse (take (suc n) xs))
some_reversed n (x ∷ xs) some = rw reverse-cons (some_snoc (reverse (take n xs)) x)
some_reversed n [] x' = elim x' [ ]

-- one part more, which comes last
join_reversed : (n : ℕ) → 0 < n → (n ≡ 1 → ⊥) → (x : List ℕ) (xs : List (List ℕ)) → Some xs
    → join (rightmost n (reverse (x ∷ xs))) ≡ join (rightmost (n - 1) (reverse xs)) ++ (46 ∷ x)
join_reversed zero h k x xs t = absurd (omega arith)
join_reversed (suc zero) h k x xs t = absurd (k refl)
join_reversed (suc (suc n)) h k x xs t =
    let z : suc (suc n) - 1 ≡ suc n = omega arith in
    rw (z, rightmost_reverse (suc (suc n)) (x ∷ xs), rightmost_reverse (suc n) xs, reverse-cons)
    (join_snoc 46 (reverse (take (suc n) xs)) x (some_reversed n xs t))

module _ (s ds : List ℕ) (n : ℕ) (escape : Bool) (out : List ℕ) (at : ℕ) (some_kept : 0 < n) where
  pub reversed_one_part : ((k : ℕ) → k < length s → is_listed ds (get_or s k 0) ≡ false) → (o : List ℕ) (m : ℕ)
      → Wrote (escaped escape (join (split (is_listed ds) s))) out at o m
      → Wrote (escaped escape (join (rightmost n (reverse (split (is_listed ds) s))))) out at o m
  reversed_one_part h o m w =
      let one = one_part (is_listed ds) s h in
      rw (rightmost_reverse n (split (is_listed ds) s), one, one_reversed n s some_kept) (rw one at w)

  -- the first delimiter at i
  module _ (i : ℕ) (inside : i < length s) (here : is_listed ds (get_or s i 0) ≡ true) (before : (k : ℕ) → k < i → is_listed ds (get_or s k 0) ≡ false) where
    pub reversed_one_kept : n ≡ 1 → (o : List ℕ) (m : ℕ) → Wrote (escaped escape (join (split (is_listed ds) (take i s)))) out at o m
        → Wrote (escaped escape (join (rightmost n (reverse (split (is_listed ds) s))))) out at o m
    reversed_one_kept k o m w =
        rw (rightmost_reverse n (split (is_listed ds) s), k, first_part (is_listed ds) s i inside here before)
        (rw (front_alone (is_listed ds) s i inside here before) at w)

    pub reversed_more : (n ≡ 1 → ⊥) → (o₁ o₂ o₃ : List ℕ) (m₁ m₂ m₃ : ℕ)
        → Wrote (escaped escape (join (rightmost (n - 1) (reverse (split (is_listed ds) (take (length s - (i + 1)) (drop (i + 1) s))))))) out at o₁ m₁
        → Wrote (46 ∷ []) o₁ m₁ o₂ m₂
        → Wrote (escaped escape (join (split (is_listed ds) (take i s)))) o₂ m₂ o₃ m₃
        → Wrote (escaped escape (join (rightmost n (reverse (split (is_listed ds) s))))) out at o₃ m₃
    unfolding join_by separator_before escaped
    reversed_more k o₁ o₂ o₃ m₁ m₂ m₃ u v w =
        let parts : join (rightmost n (reverse (split (is_listed ds) s))) ≡ join (rightmost (n - 1) (reverse (split (is_listed ds) (drop (i + 1) s)))) ++ (46 ∷ take i s) =
        rw (first_part (is_listed ds) s i inside here before) (join_reversed n some_kept k (take i s) (split (is_listed ds) (drop (i + 1) s)) (split_some (is_listed ds) _)) in
        let part : join (split (is_listed ds) (take i s)) ≡ take i s = rw (front_alone (is_listed ds) s i inside here before, append-nil) in
        let w' : Wrote (escaped escape (take i s)) o₂ m₂ o₃ m₃ = rw part at w in
        rw (parts, escaped_append, escaped_dot)
        (wrote_then out at _ _ o₁ o₃ m₁ m₃ (rw rest_part at u) (wrote_then o₁ m₁ (46 ∷ []) _ o₂ o₃ m₂ m₃ v w'))

-- `rightmost_start`
module _ (s ds : List ℕ) (n : ℕ) where
  -- a text of fewer bytes than n has no more than n parts
  pub left_few : length s < n → split (is_listed ds) (drop 0 s) ≡ rightmost n (split (is_listed ds) s)
  left_few h = sym (rightmost_all n (split (is_listed ds) s) (omega (arith, count_le (is_listed ds) s)))

  pub record Left (left i : ℕ) : Type 0 where
    pub within : i ≤ length s
    pub more : 0 < left
    pub count : length (split (is_listed ds) (drop i s)) + left ≡ n + 1

  pub left_start : 0 < n → Left n (length s)
  unfolding split
  left_start h = record { within = omega arith; more = h; count = rw (drop_of_length-le s {i = length s} (omega arith)) (omega arith) }

  module _ (left i : ℕ) (p : Left left i) where
    pub left_all : i ≤ 0 → split (is_listed ds) (drop 0 s) ≡ rightmost n (split (is_listed ds) s)
    left_all h = sym (rightmost_all n (split (is_listed ds) s) (let z : i ≡ 0 = omega arith in omega (arith, rw z at p.count, p.more)))

    module _ (h : 0 < i) (r : Bool) (q : r ≡ is_listed ds (get_or s (i - 1) 0)) where
      at_before : drop (i - 1) s ≡ get_or s (i - 1) 0 ∷ drop i s
      at_before = drop_before s i h p.within

      pub left_found : r ≡ true → left ≡ 1 → split (is_listed ds) (drop (i - 1 + 1) s) ≡ rightmost n (split (is_listed ds) s)
      left_found k l =
          let whole : s ≡ take (i - 1) s ++ get_or s (i - 1) 0 ∷ drop i s = sym (take-append-drop (i - 1) s) ∙ rw at_before in
          let parts : split (is_listed ds) s ≡ split (is_listed ds) (take (i - 1) s) ++ split (is_listed ds) (drop i s) =
          ap (split (is_listed ds)) whole ∙ split_append (is_listed ds) (take (i - 1) s) (get_or s (i - 1) 0) (drop i s) (sym q ∙ k) in
          let z : i - 1 + 1 ≡ i = omega arith in
          rw z (sym (rw parts (rightmost_append n (split (is_listed ds) (take (i - 1) s)) (split (is_listed ds) (drop i s)) (omega (arith, p.count)))))

      pub left_less : r ≡ true → (left ≡ 1 → ⊥) → Left (left - 1) (i - 1)
      left_less k l =
          record {
            within = omega (arith, p.within);
            more = omega (arith, p.more, l);
            count = rw (at_before, count_in (is_listed ds) _ (drop i s) (sym q ∙ k)) (omega (arith, p.count, p.more));
          }

      pub left_same : r ≡ false → Left left (i - 1)
      left_same k =
          record {
            within = omega (arith, p.within);
            more = p.more;
            count = rw (at_before, count_out (is_listed ds) _ (drop i s) (sym q ∙ k)) p.count;
          }

-- `transform`
module _ (s digits : List ℕ) (reversed : Bool) (ds : List ℕ) (escape : Bool) (out : List ℕ) (at n : ℕ)
    (e : n ≡ cond (eqb (length digits) 0) 18446744073709551615 (min (decimal digits) 18446744073709551615)) (small : length s * 1 < 2 ^ 63) where
  kept_parts : kept digits (split (is_listed ds) s) ≡ rightmost n (split (is_listed ds) s)
  kept_parts = kept_count digits n e (split (is_listed ds) s) (omega (arith, count_le (is_listed ds) s))

  kept_reversed : kept digits (reverse (split (is_listed ds) s)) ≡ rightmost n (reverse (split (is_listed ds) s))
  kept_reversed = kept_count digits n e (reverse (split (is_listed ds) s)) (simp length-reverse (omega (arith, count_le (is_listed ds) s)))

  pub transform_none : n ≡ 0 → at < 2 ^ 64 → length out < 2 ^ 64 → Wrote (transformed digits reversed ds escape s) out at out at
  unfolding transformed reversed_if join_by escaped
  transform_none z h l = by reversed
    where
      by : (t : Bool) → Wrote (transformed digits t ds escape s) out at out at
      by true = rw (kept_reversed, rightmost_none n z) (wrote_none out at (omega arith) (omega arith))
      by false = rw (kept_parts, rightmost_none n z) (wrote_none out at (omega arith) (omega arith))

  module _ (o : List ℕ) (m : ℕ) where
    pub transform_reversed : reversed ≡ true → Wrote (escaped escape (join (rightmost n (reverse (split (is_listed ds) s))))) out at o m
        → Wrote (transformed digits reversed ds escape s) out at o m
    unfolding transformed reversed_if
    transform_reversed k w = rw (k, kept_reversed) w

    pub transform_forward : reversed ≡ false → (r : ℕ) → split (is_listed ds) (drop r s) ≡ rightmost n (split (is_listed ds) s)
        → Wrote (escaped escape (join (split (is_listed ds) (take (length s - r) (drop r s))))) out at o m
        → Wrote (transformed digits reversed ds escape s) out at o m
    unfolding transformed reversed_if
    transform_forward k r p w =
        let all : take (length s - r) (drop r s) ≡ drop r s = rest_part s r in
        rw (k, kept_parts, ← p) (rw all at w)
