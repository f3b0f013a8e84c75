-- The tests of the values that an expansion is given, and the parts of a sender, whose domain is found from the right. From the definitions of
-- Expansion and the laws of Splitting.
use Prim.Native.Nat.{ℕ, suc, ◌+◌, ◌-◌, ◌≤◌, ◌<◌}
use mathlib.Core.Path.{◌≡◌, refl, sym, ap, ◌∙◌}
use mathlib.Core.List.{List, [], ◌∷◌, ◌++◌, append-nil}
use mathlib.Core.Bool.{Bool, true, false, ◌&&◌}
use native.Mathlib.Omega.{arith}
use lib.ListN.{length, get_or, take, drop, length-append, length-take}
use lib.Seq.{take-append_seam}
use lib.Dec.{eqb}
use borrow.Author.Tests.{le-leb}
use Rattle.text.specs.Bytes.{within, is_printable}
use Rattle.text.specs.Lists.{all, split, grow, separator_before, join_by}
use Rattle.text.specs.Runs.{is_in}
use Rattle.text.specs.Texts.{bytes}
use Rattle.text.specs.declared.bytes.Class.TheVariants.{Printable}
use Rattle.text.proofs.Laws.Tests.{cond-elim, and_left, test_fails}
use Rattle.text.proofs.Laws.Classes.{within_range}
use Rattle.text.proofs.Laws.Spans.{rest_part}
use Rattle.text.proofs.Laws.Splitting.{Some, some, split_some, join_snoc, join_again}
use Rattle.transformers.proofs.Laws.Delimiters.{one_part, last_part as delimited}
use Rattle.macros.specs.Expansion.{is_at, last_part, sender_domain, front_parts, local_as_written, local_part, is_sender}

-- `is_sender`
module _ (s : List ℕ) where
  pub sender_every : 1 ≤ length s → length s ≤ 320 → (r : Bool) → r ≡ all (is_in Printable) s → r ≡ is_sender s
  unfolding is_sender within is_in
  sender_every l h r e = rw (le-leb 1 (length s) l, le-leb (length s) 320 h) e

  pub sender_outside : ((1 ≤ length s) × (length s ≤ 320) → ⊥) → false ≡ is_sender s
  unfolding is_sender
  sender_outside n = sym (ap (λ (b : Bool). b && all is_printable s) (test_fails (within 1 320 (length s)) (λ h. n (within_range 1 320 (length s) h))))

-- `write_expansion` is asked for senders that pass
pub sender_bound : (s : List ℕ) (r : Bool) → r ≡ is_sender s → r ≡ true → length s ≤ 320
unfolding is_sender
sender_bound s r e h = (within_range 1 320 (length s) (and_left (within 1 320 (length s)) (all is_printable s) (sym e ∙ h))).1

-- the last of several parts
last_snoc : (xs : List (List ℕ)) (y : List ℕ) → last_part (xs ++ (y ∷ [])) ≡ y
unfolding last_part
last_snoc [] y = refl
last_snoc (x ∷ []) y = refl
last_snoc (x ∷ z ∷ r) y = last_snoc (z ∷ r) y

-- `sender_domain`, `written_local`: no @
module _ (s : List ℕ) (none : (k : ℕ) → k < length s → is_at (get_or s k 0) ≡ false) where
  pub domain_whole : s ≡ sender_domain s
  unfolding sender_domain last_part
  domain_whole = sym (ap last_part (one_part is_at s none))

  pub local_none : [] ≡ local_as_written s
  unfolding local_as_written front_parts join_by
  local_none = sym (ap (λ (xs : List (List ℕ)). join_by 64 (front_parts xs)) (one_part is_at s none))

-- the last @ at i
front_snoc : (xs : List (List ℕ)) (y : List ℕ) → front_parts (xs ++ (y ∷ [])) ≡ xs
unfolding front_parts
front_snoc [] y = refl
front_snoc (x ∷ []) y = refl
front_snoc (x ∷ z ∷ r) y = ap (λ (xs : List (List ℕ)). x ∷ xs) (front_snoc (z ∷ r) y)

module _ (s : List ℕ) (i : ℕ) (inside : i < length s) (here : is_at (get_or s i 0) ≡ true)
    (after : (k : ℕ) → i + 1 ≤ k → k < length s → is_at (get_or s k 0) ≡ false) where
  parted : split is_at s ≡ split is_at (take i s) ++ (drop (i + 1) s ∷ [])
  parted = delimited is_at s i inside here after

  pub domain_here : take (length s - (i + 1)) (drop (i + 1) s) ≡ sender_domain s
  unfolding sender_domain
  domain_here = rest_part s (i + 1) ∙ sym (ap last_part parted ∙ last_snoc (split is_at (take i s)) (drop (i + 1) s))

  pub local_here : take i s ≡ local_as_written s
  unfolding local_as_written
  local_here = sym (join_again 64 (take i s)) ∙ ap (join_by 64) (sym (ap front_parts parted ∙ front_snoc (split is_at (take i s)) (drop (i + 1) s)))

-- the domain is no longer than the sender
last_empty : (xs : List (List ℕ)) → Some xs → last_part ([] ∷ xs) ≡ last_part xs
unfolding last_part
last_empty (x ∷ xs) some = refl
last_empty [] x' = elim x' [ ]

last_grow : (b : ℕ) (xs : List (List ℕ)) → length (last_part (grow b xs)) ≤ suc (length (last_part xs))
unfolding last_part grow
last_grow b [] = omega arith
last_grow b (x ∷ []) = omega arith
last_grow b (x ∷ y ∷ r) = omega arith

last_length : (s : List ℕ) → length (last_part (split is_at s)) ≤ length s
unfolding split last_part
last_length [] = omega arith
last_length (b ∷ s) =
    cond-elim (λ (xs : List (List ℕ)). length (last_part xs) ≤ suc (length s)) (is_at b)
    {x = [] ∷ split is_at s} {y = grow b (split is_at s)}
    (λ _. rw (last_empty (split is_at s) (split_some is_at s)) (let h = last_length s in omega arith))
    (λ _. let h = last_length s in let g = last_grow b (split is_at s) in omega arith)

pub domain_length : (s : List ℕ) → length (sender_domain s) ≤ length s
unfolding sender_domain
domain_length s = last_length s

-- the parts of a sender, and what stands before the last `@`
parts_again : (xs : List (List ℕ)) → Some xs → xs ≡ front_parts xs ++ (last_part xs ∷ [])
unfolding front_parts last_part
parts_again (x ∷ []) some = refl
parts_again (x ∷ y ∷ r) some = ap (λ (z : List (List ℕ)). x ∷ z) (parts_again (y ∷ r) some)
parts_again [] x' = elim x' [ ]

local_taken : (s : List ℕ) → local_as_written s ≡ take (length s - suc (length (sender_domain s))) s
unfolding local_as_written sender_domain join_by separator_before
local_taken s = by (front_parts (split is_at s)) (sym (join_again 64 s) ∙ ap (join_by 64) (parts_again (split is_at s) (split_some is_at s)))
  where
    d : List ℕ
    d = last_part (split is_at s)

    by : (xs : List (List ℕ)) → s ≡ join_by 64 (xs ++ (d ∷ [])) → join_by 64 xs ≡ take (length s - suc (length d)) s
    by [] e = let n : length s - suc (length d) ≡ 0 = omega (arith, simp append-nil at (ap length e)) in rw n
    by (x ∷ xs) e =
        let j = join_snoc 64 (x ∷ xs) d some in
        let n : length s - suc (length d) ≡ length (join_by 64 (x ∷ xs)) = omega (arith, ap length (e ∙ j), length-append (join_by 64 (x ∷ xs)) (64 ∷ d)) in
        rw n (sym (ap (take (length (join_by 64 (x ∷ xs)))) (e ∙ j) ∙ take-append_seam (join_by 64 (x ∷ xs)) (64 ∷ d)))

-- how long the local part and the whole sender are
module _ (s : List ℕ) (bound : length s ≤ 320) where
  pub sender_length : length (local_part s ++ (64 ∷ sender_domain s)) ≤ 331
  unfolding local_part
  sender_length =
      let d = domain_length s in
      cond-elim (λ (x : List ℕ). length (x ++ (64 ∷ sender_domain s)) ≤ 331) (eqb (length (local_as_written s)) 0)
      {x = bytes "postmaster"} {y = local_as_written s}
      (λ _. omega arith) (λ _. simp (local_taken, length-append, length-take) (omega arith))
