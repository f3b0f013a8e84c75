-- Bytes written in hex: the value of a digit, how many bytes a word writes and which, the loop of `unhex`, and what stands at the buffer's front
-- afterwards. From the definitions of Words and the laws on writing of `text`.
use Prim.Native.Nat.{ℕ, zero, suc, ◌+◌, ◌*◌, ◌/◌, ◌≤◌, ◌<◌, min}
use mathlib.Core.Path.{◌≡◌, refl, ap, ◌∙◌}
use mathlib.Core.Logic.{⊎_elim}
use mathlib.Core.List.{List, [], ◌∷◌, ◌++◌, append_assoc}
use native.Mathlib.Omega.{arith}
use native.Mathlib.Numerals.{add-one}
use lib.ListN.{length, take, drop, set, drop_of_length-le}
use lib.Seq.{take-suc, take_all, length-take-le, drop-length}
use Rattle.std.proofs.lemmas.List.{drop_more, set_at}
use Rattle.text.specs.Bytes.{at}
use Rattle.text.specs.Writing.{overwritten}
use Rattle.text.proofs.Laws.Orders.{le_or_lt}
use Rattle.case_support.specs.Words.{hex_value, hex_byte, hex_bytes}

pub byte_value : (high low h l : ℕ) → h ≡ hex_value high → l ≡ hex_value low → 16 * h + l ≡ hex_byte high low
unfolding hex_byte
byte_value high low h l p q = rw (p, q)

-- how many bytes, and which
hex_count : (s : List ℕ) → (2 * length (hex_bytes s) ≤ length s) × (length s ≤ 2 * length (hex_bytes s) + 1)
unfolding hex_bytes
hex_count [] = (omega arith, omega arith)
hex_count (high ∷ []) = (omega arith, omega arith)
hex_count (high ∷ low ∷ s) = let h = hex_count s in (omega (arith, h.0, h.1), omega (arith, h.0, h.1))

pub hex_length : (s : List ℕ) → length (hex_bytes s) ≡ length s / 2
hex_length s = let h = hex_count s in omega (arith, h.0, h.1)

hex_at : (s : List ℕ) (i : ℕ) → i < length (hex_bytes s) → hex_byte (at s (2 * i)) (at s (2 * i + 1)) ≡ at (hex_bytes s) i
unfolding hex_bytes
hex_at [] i h = absurd (omega arith)
hex_at (high ∷ []) i h = absurd (omega arith)
hex_at (high ∷ low ∷ s) zero h = refl
hex_at (high ∷ low ∷ s) (suc i) h =
    let e : 2 * suc i ≡ suc (suc (2 * i)) = omega arith in
    let f : 2 * suc i + 1 ≡ suc (suc (2 * i + 1)) = omega arith in
    let t = high ∷ low ∷ s in
    ap (λ (n : ℕ). hex_byte (at t n) (at t (2 * suc i + 1))) e ∙ ap (λ (n : ℕ). hex_byte (at s (2 * i)) (at t n)) f ∙ hex_at s i (omega arith)

-- the loop of `unhex`: i bytes stand at the front
module _ (s before : List ℕ) where
  abbrev pub Unhexed : ℕ → List ℕ → Type 0
  Unhexed i o = o ≡ take i (hex_bytes s) ++ drop i before

  module _ (i : ℕ) (o : List ℕ) (p : Unhexed i o) where
    pub unhexed_next : i < length s / 2 → i < length before → Unhexed (i + 1) (set o i (hex_byte (at s (2 * i)) (at s (2 * i + 1))))
    unhexed_next h k =
        let here : i < length (hex_bytes s) = omega (arith, hex_length s) in
        let size : length (take i (hex_bytes s)) ≡ i = length-take-le i (hex_bytes s) (omega arith) in
        rw (p, drop_more before i 0 k, set_at (take i (hex_bytes s)) (at before i) (drop (i + 1) before) _ i size, hex_at s i here, add-one, take-suc (hex_bytes s) i 0 here, append_assoc)

    pub unhexed_all : i ≡ min (length before) (length s / 2) → o ≡ overwritten (hex_bytes s) before
    unfolding overwritten
    unhexed_all e = ⊎_elim
        (λ (h : length before ≤ length (hex_bytes s)).
        let n : i ≡ length before = omega (arith, hex_length s) in
        p ∙ rw (n, drop-length, drop_of_length-le before {i = length (hex_bytes s)} h))
        (λ (h : length (hex_bytes s) < length before).
        let n : i ≡ length (hex_bytes s) = omega (arith, hex_length s) in
        p ∙ rw (n, take_all (length (hex_bytes s)) (hex_bytes s) (omega arith), take_all (length before) (hex_bytes s) (omega arith)))
        (le_or_lt (length before) (length (hex_bytes s)))
