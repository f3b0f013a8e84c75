-- Four octets read from a place on, against a word that begins there, with neither a digit nor a dot after it: each octet is read in the list as in
-- the word, so that the word is an ip4-network exactly if the octets end where it ends. From the laws of Spans, Runs and Octets.
use Rattle.std.proofs.Common.{None, Option, Some}
use Prim.Native.Nat.{ℕ, ◌+◌, ◌≤◌, ◌<◌}
use mathlib.Core.Path.{◌≡◌, refl, sym, ap, subst, ◌∙◌}
use mathlib.Core.Logic.{⊎_elim}
use mathlib.Core.List.{List, [], ◌∷◌, ◌++◌}
use mathlib.Core.Bool.{Bool, true, false, cond}
use native.Mathlib.Omega.{arith}
use native.Mathlib.Nat.{add-zero, add_assoc}
use lib.ListN.{length, drop, get_or-append}
use lib.Seq.{drop-drop, drop-append-le, take-append-le, get_or-drop}
use lib.Dec.{eqb}
use borrow.Author.Tests.{eqb-true, eqb-false}
use Rattle.text.specs.Bytes.{at, is_digit, within}
use Rattle.text.specs.Decimal.{read_number}
use Rattle.text.specs.Runs.{is_in, run, run_end}
use Rattle.text.specs.declared.bytes.Class.TheVariants.{Digit}
use Rattle.text.proofs.Laws.Tests.{cond-elim}
use Rattle.text.proofs.Laws.Orders.{le_or_lt}
use Rattle.text.proofs.Laws.Classes.{nonzero_inside, past_end}
use Rattle.text.proofs.Laws.Spans.{Span, span_all}
use Rattle.text.proofs.Laws.Runs.{run_le, run_zero, run_end_inside}
use Rattle.address.specs.declared.Address.TheVariants.{IPv4}
use Rattle.networks.specs.declared.Front.{Front}
use Rattle.networks.specs.Reader.{front, on_number, on_octet, octet_at, dot_octet_at, front_at, read_ip4}
use Rattle.networks.proofs.Laws.Octets.{end_at, digits_at, digits_run}
use Rattle.address.specs.declared.Address.{Address}

-- neither a digit nor a dot: the 0 past the end, and a slash
pub record Stops (b : ℕ) : Type 0 where
  digit : is_in Digit b ≡ false
  dot : eqb b 46 ≡ false

pub stops_end : Stops 0
unfolding is_in is_digit within
stops_end = record { digit = refl; dot = refl }

pub stops_slash : Stops 47
unfolding is_in is_digit within
stops_slash = record { digit = refl; dot = refl }

-- a word as a network, and the octets read from its place on: they end with the word, or before it, or aren't there
pub data Cut (from to : ℕ) : Option Address → Option Front → Type 0 where
  whole : {v end : ℕ} → end ≡ to → Cut from to (Some (IPv4 v)) (Some (front v end))
  short : {v end : ℕ} → from ≤ end → end < to → Cut from to None (Some (front v end))
  none : Cut from to None None

pub cut_none : {from to : ℕ} {x : Option Address} → Cut from to x None → None ≡ x
cut_none none = refl

pub cut_end : {from to v end : ℕ} {x : Option Address} → Cut from to x (Some (front v end)) → end ≤ to
cut_end (whole e) = omega arith
cut_end (short h l) = omega arith

-- a run that what follows does not go on
run_front : (p : ℕ → Bool) (u rest : List ℕ) → run p rest ≡ 0 → run p (u ++ rest) ≡ run p u
unfolding run
run_front p [] rest z = z
run_front p (x ∷ u) rest z = rw (run_front p u rest z)

module _ {s : List ℕ} {from to : ℕ} {w : List ℕ} (p : Span s from to w) (stops : Stops (at s to)) where
  -- the rest of the list from a place in the word on
  rest : (j : ℕ) → j ≤ length w → drop (from + j) s ≡ drop j w ++ drop to s
  rest j h = sym (drop-drop j from s) ∙ ap (drop j) p.split ∙ drop-append-le j w (drop to s) h

  -- the digits from a place in the word on
  digits_count : (j : ℕ) → j ≤ length w → run (is_in Digit) (drop (from + j) s) ≡ run (is_in Digit) (drop j w)
  digits_count j h =
      ap (run (is_in Digit)) (rest j h)
      ∙ run_front (is_in Digit) (drop j w) (drop to s) (run_zero (is_in Digit) (drop to s) (rw (get_or-drop to s 0 0, add-zero) stops.digit))

  digits_end : (j : ℕ) → j ≤ length w → end_at s (from + j) ≡ from + end_at w j
  unfolding run_end
  digits_end j h = rw (digits_count j h) (omega arith)

  digits_same : (j : ℕ) → j ≤ length w → digits_at s (from + j) ≡ digits_at w j
  digits_same j h =
      digits_run s (from + j)
      ∙ rw (digits_count j h, rest j h) (take-append-le (run (is_in Digit) (drop j w)) (drop j w) (drop to s) (run_le (is_in Digit) (drop j w)))
      ∙ sym (digits_run w j)

  -- an octet in the word, and in the list
  data Same : Option (ℕ × ℕ) → Option (ℕ × ℕ) → Type 0 where
    ends : {o j : ℕ} → j ≤ length w → Same (Some (o, j)) (Some (o, from + j))
    neither : Same None None

  octet_same : (j : ℕ) → j ≤ length w → Same (octet_at w j) (octet_at s (from + j))
  unfolding octet_at
  octet_same j h = rw (digits_same j h, digits_end j h) (by (read_number 255 (digits_at w j)))
    where
      by : (x : Option ℕ) → Same (on_number x (λ o. Some (o, end_at w j)) None) (on_number x (λ o. Some (o, from + end_at w j)) None)
      by (Some o) = ends (run_end_inside (is_in Digit) w j h)
      by None = neither

  dot_test : (j : ℕ) → j ≤ length w → eqb (at s (from + j)) 46 ≡ eqb (at w j) 46
  dot_test j h = ⊎_elim
      (λ (l : length w ≤ j).
      let e : from + j ≡ to = omega (arith, p.size) in
      rw (e, ← (past_end w j l)) stops.dot)
      (λ (l : j < length w).
      ap (λ (b : ℕ). eqb b 46) (sym (get_or-drop from s j 0) ∙ ap (λ (u : List ℕ). at u j) p.split ∙ get_or-append w (drop to s) 0 j l))
      (le_or_lt (length w) j)

  dot_same : (j : ℕ) → j ≤ length w → Same (dot_octet_at w j) (dot_octet_at s (from + j))
  unfolding dot_octet_at
  dot_same j h = rw (dot_test j h, add_assoc) (by (eqb (at w j) 46) refl)
    where
      by : (t : Bool) → eqb (at w j) 46 ≡ t → Same (cond t (octet_at w (j + 1)) None) (cond t (octet_at s (from + (j + 1))) None)
      by true e = let f = eqb-true (at w j) 46 e in let l = nonzero_inside w j (omega arith) in octet_same (j + 1) (omega arith)
      by false e = neither

  -- what is made of an octet of each
  step : {x y : Option (ℕ × ℕ)} → Same x y → (f : ℕ → ℕ → Option Address) (g : ℕ → ℕ → Option Front)
      → ((o j : ℕ) → j ≤ length w → Cut from to (f o j) (g o (from + j))) → Cut from to (on_octet x f None) (on_octet y g None)
  step (ends h) f g k = k _ _ h
  step neither f g k = none

  ended : (v l : ℕ) → l ≤ length w → Cut from to (cond (eqb l (length w)) (Some (IPv4 v)) None) (Some (front v (from + l)))
  ended v l h =
      cond-elim (λ (x : Option Address). Cut from to x (Some (front v (from + l)))) (eqb l (length w))
      (λ e. whole (omega (arith, eqb-true l (length w) e, p.size)))
      (λ e. short (omega arith) (omega (arith, eqb-false l (length w) e, p.size)))

  pub front_cut : Cut from to (read_ip4 w) (front_at s from)
  unfolding read_ip4 front_at
  front_cut =
      step (rw add-zero at (octet_same 0 (omega arith))) _ _
      (λ a i hi. step (dot_same i hi) _ _
      (λ b j hj. step (dot_same j hj) _ _
      (λ c k hk. step (dot_same k hk) _ _
      (λ d l hl. ended _ l hl))))

-- `read_ip4`
module _ (s : List ℕ) (r : Option Front) (p : r ≡ front_at s 0) where
  cut : {x : Option Front} → r ≡ x → Cut 0 (length s) (read_ip4 s) x
  cut e = subst (Cut 0 (length s) (read_ip4 s)) (sym p ∙ e) (front_cut (span_all s) (rw (← (past_end s (length s) (omega arith))) stops_end))

  pub front_none : r ≡ None → None ≡ read_ip4 s
  front_none e = cut_none (cut e)

  module _ (v end : ℕ) (e : r ≡ Some (front v end)) where
    pub front_whole : end ≡ length s → Some (IPv4 v) ≡ read_ip4 s
    front_whole h = by (cut e)
      where
        by : {x : Option Address} → Cut 0 (length s) x (Some (front v end)) → Some (IPv4 v) ≡ x
        by (whole g) = refl
        by (short g l) = absurd (omega arith)

    pub front_short : (end ≡ length s → ⊥) → None ≡ read_ip4 s
    front_short h = by (cut e)
      where
        by : {x : Option Address} → Cut 0 (length s) x (Some (front v end)) → None ≡ x
        by (whole g) = absurd (h g)
        by (short g l) = refl
