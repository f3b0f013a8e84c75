-- The numbers that hex digits write, as the code reads them, and groups against `Group`. From the definitions of Grammar and Reader6.
use Rattle.std.proofs.Common.{None, Option, Some}
use Prim.Native.Nat.{ℕ, ◌+◌, ◌-◌, ◌*◌, ◌^◌, ◌≤◌, ◌<◌}
use mathlib.Core.Path.{◌≡◌, refl, sym, ap, subst, ◌∙◌}
use mathlib.Core.List.{List, [], ◌∷◌, ◌++◌}
use mathlib.Core.Bool.{Bool, true, false, cond}
use native.Mathlib.Omega.{arith}
use native.Mathlib.Numerals.{add-one}
use native.Mathlib.Nat.{pow-suc, lt_of_lt_of_le, pow-le-pow_right}
use lib.ListN.{length, get_or, take}
use lib.Seq.{take-suc, take_all}
use lib.Dec.{ltb, eqb}
use borrow.Author.Tests.{ltb-true, ltb-false, eqb-false, ne_eqb, le-ltb, lt-ltb}
use Rattle.text.specs.Bytes.{within, is_digit, is_upper, is_hex_digit, lower}
use Rattle.text.specs.Lists.{all}
use Rattle.text.specs.Runs.{is_in}
use Rattle.text.specs.declared.bytes.Class.TheVariants.{HexDigit}
use Rattle.text.proofs.Laws.Tests.{cond-elim, or_elim}
use Rattle.text.proofs.Laws.Classes.{class_tests, within_range, range_within, all_below, below}
use Rattle.text.proofs.Laws.Parts.{all_at_lem}
use Rattle.networks.specs.Grammar.{hex_value, hex_from, Group, digits}
use Rattle.networks.specs.Reader6.{read_h16}

-- the ways out of `hex_value`
module _ (b : ℕ) (t : Bool) (e : t ≡ within 48 57 b) where
  pub hex_digit_lem : t ≡ true → b - 48 ≡ hex_value b
  unfolding hex_value is_digit
  hex_digit_lem h = simp (sym e ∙ h)

  pub hex_letter : t ≡ false → (l : ℕ) → l ≡ lower b → 87 ≤ l → l - 87 ≡ hex_value b
  unfolding hex_value is_digit
  hex_letter h l q k = simp (sym e ∙ h, q)

  pub hex_none : t ≡ false → (l : ℕ) → l ≡ lower b → l < 87 → 0 ≡ hex_value b
  unfolding hex_value is_digit
  hex_none h l q k = simp (sym e ∙ h, ← q) (omega arith)

-- a hex digit's value
unfoldable is_small : ℕ → Bool
is_small b = cond (is_hex_digit b) (ltb (hex_value b) 16) true

small_below : all_below 103 is_small ≡ true
unfolding is_small is_hex_digit is_digit is_upper within hex_value lower
small_below = refl

hex_bound : (b : ℕ) → is_hex_digit b ≡ true → b < 103
unfolding is_hex_digit is_digit
hex_bound b h =
    or_elim (within 48 57 b) _ h (λ p. let r = within_range 48 57 b p in omega arith)
    (λ q. or_elim (within 65 70 b) (within 97 102 b) q (λ p. let r = within_range 65 70 b p in omega arith) (λ p. let r = within_range 97 102 b p in omega arith))

hex_small : (b : ℕ) → is_hex_digit b ≡ true → hex_value b < 16
unfolding is_small
hex_small b h = ltb-true _ _ (simp h at (below 103 is_small small_below b (hex_bound b h)))

-- one digit more
hex_snoc : (v : ℕ) (s : List ℕ) (b : ℕ) → hex_from v (s ++ (b ∷ [])) ≡ 16 * hex_from v s + hex_value b
unfolding hex_from
hex_snoc v [] b = refl
hex_snoc v (x ∷ s) b = hex_snoc (16 * v + hex_value x) s b

-- the rules of the loop of `hex_number`
pub record HexRead (w : List ℕ) (v i : ℕ) : Type 0 where
  pub within_word : i ≤ length w
  pub value : v ≡ hex_from 0 (take i w)
  pub small : v < 16 ^ i

pub hex_start : (w : List ℕ) → HexRead w 0 0
unfolding hex_from
hex_start w = record { within_word = omega arith; value = refl; small = omega arith }

module _ (w : List ℕ) (v i : ℕ) (p : HexRead w v i) where
  module _ (here : i < length w) where
    pub hex_fits : length w ≤ 4 → v < 4096
    hex_fits l = lt_of_lt_of_le p.small (pow-le-pow_right {n = 16} (omega arith) {i = i} {j = 3} (omega arith))

    digit_fits : all is_hex_digit w ≡ true → hex_value (get_or w i 0) < 16
    digit_fits h = hex_small (get_or w i 0) (all_at_lem is_hex_digit w i here h)

    pub hex_next : (length w ≤ 4) × (all is_hex_digit w ≡ true) → (d : ℕ) → d ≡ hex_value (get_or w i 0) → HexRead w (16 * v + d) (i + 1)
    hex_next h d e = record {
      within_word = omega arith;
      value = rw (add-one, take-suc w i 0 here, hex_snoc 0 (take i w) (get_or w i 0), ← p.value, e);
      small = rw (add-one, pow-suc 16 i) (omega (arith, digit_fits h.1));
    }

    -- no overflow
    pub hex_sum : (length w ≤ 4) × (all is_hex_digit w ≡ true) → (d : ℕ) → d ≡ hex_value (get_or w i 0) → 16 * v + d < 65536
    hex_sum h d e = omega (arith, hex_fits h.0, digit_fits h.1)

  pub hex_end : length w ≤ i → v ≡ hex_from 0 w
  hex_end h = p.value ∙ ap (hex_from 0) (take_all i w h)

-- the ways out of `read_h16`
module _ (w : List ℕ) where
  pub h16_empty : length w ≡ 0 → None ≡ read_h16 w
  unfolding read_h16
  h16_empty h = simp h

  pub h16_long : 4 < length w → None ≡ read_h16 w
  unfolding read_h16
  h16_long h = simp (ne_eqb (length w) 0 (λ e. omega arith), lt-ltb 4 (length w) h)

  module _ (some : length w ≡ 0 → ⊥) (short : length w ≤ 4) (t : Bool) (e : t ≡ all (is_in HexDigit) w) where
    pub h16_value : t ≡ true → (v : ℕ) → v ≡ hex_from 0 w → Some v ≡ read_h16 w
    unfolding read_h16
    h16_value h v q = simp (ne_eqb (length w) 0 some, le-ltb 4 (length w) short, sym e ∙ h, q)

    pub h16_other : t ≡ false → None ≡ read_h16 w
    unfolding read_h16
    h16_other h = simp (ne_eqb (length w) 0 some, le-ltb 4 (length w) short, sym e ∙ h)

    pub h16_asks : t ≡ true → (length w ≤ 4) × (all is_hex_digit w ≡ true)
    h16_asks h = (short, sym (class_tests HexDigit w) ∙ sym e ∙ h)

-- against the production
abbrev H16Right : List ℕ → Option ℕ → Type 0
H16Right w (Some g) = Group w g
H16Right w None = Unit {0}

h16_right : (w : List ℕ) → H16Right w (read_h16 w)
unfolding read_h16
h16_right w =
    cond-elim (H16Right w) (eqb (length w) 0) (λ _. tt)
    (λ a. cond-elim (H16Right w) (ltb 4 (length w)) (λ _. tt)
    (λ b. cond-elim (H16Right w) (all (is_in HexDigit) w) {x = Some (hex_from 0 w)} {y = None}
    (λ c. let some = eqb-false (length w) 0 a in let short = ltb-false 4 (length w) b in digits (range_within 1 4 (length w) (omega arith) (omega arith)) (sym (class_tests HexDigit w) ∙ c))
    (λ _. tt)))

pub h16_sound : (w : List ℕ) (g : ℕ) → read_h16 w ≡ Some g → Group w g
h16_sound w g e = subst (H16Right w) e (h16_right w)

pub h16_complete : {w : List ℕ} {g : ℕ} → Group w g → read_h16 w ≡ Some g
unfolding read_h16
h16_complete (digits {w = w} l h) =
    let r = within_range 1 4 (length w) l in
    simp (ne_eqb (length w) 0 (λ e. omega arith), le-ltb 4 (length w) r.1, class_tests HexDigit w ∙ h)
