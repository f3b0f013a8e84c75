-- The address of a client's text: what the reader makes of the text that writing gives; and the bytes of that text. From the definitions of Reader and of
-- the crate address_text.
use Prim.Native.Nat.{ℕ, zero, suc, ◌+◌, ◌-◌, ◌*◌, ◌/◌, ◌%◌, ◌^◌, ◌≤◌, ◌<◌}
use mathlib.Core.Path.{◌≡◌, refl, sym, ap, ◌∙◌}
use mathlib.Core.List.{List, [], ◌∷◌, ◌++◌, append-nil}
use mathlib.Core.Bool.{Bool, true, false, cond, ◌&&◌, ◌||◌}
use native.Mathlib.Omega.{arith}
use native.Mathlib.Nat.{pow-suc, pow-zero, one-mul, mul-zero, zero-add}
use lib.Dec.{eqb, ltb}
use borrow.Author.Tests.{eq-eqb, ne_eqb, eqb-true, lt-ltb, le-ltb, ltb-true, ltb-false}
use Rattle.text.specs.Lists.{all, contains, separator_before, join_by}
use Rattle.text.specs.Bytes.{within, is_digit, is_hex_digit, is_printable}
use Rattle.text.proofs.Laws.Tests.{or_left, or_right, or_elim, or_false_both, true_false, cond-elim}
use Rattle.text.proofs.Laws.Classes.{within_range, range_within, apart, below}
use Rattle.text.proofs.Laws.Parts.{all_none, all_join, all_cons, all_first, all_rest, all_join_by, all_inside}
use Rattle.address.specs.Octets.{octets_of, octets, as_client}
use Rattle.address.specs.declared.Address.{Address}
use Rattle.address.specs.declared.Address.TheVariants.{IPv4, IPv6}
use Rattle.address.specs.Octets.{InRange}
use Rattle.address_text.specs.Digits.{digit, numeral, in_decimal, in_hex}
use Rattle.address_text.specs.Forms.{hex_groups, octet_texts, readable}
use Rattle.address_text.proofs.Laws.Numerals.{quotient_small}
use Rattle.received.specs.States.{fold}
use Rattle.received.specs.Reader.{digit_value, octet_on, high_on, low_on, push_byte, total, address_of}
use Rattle.received.specs.declared.clients.Sum.{Sum}
use Rattle.received.proofs.Laws.Folding.{fold_append}

-- a digit
digit_hex : (d : ℕ) → d < 16 → is_hex_digit (digit d) ≡ true
unfolding is_hex_digit is_digit within digit
digit_hex d h = below 16 (λ d. is_hex_digit (digit d)) refl d h

no_dot : is_hex_digit 46 ≡ false
unfolding is_hex_digit is_digit within
no_dot = refl

no_colon : is_hex_digit 58 ≡ false
unfolding is_hex_digit is_digit within
no_colon = refl

module _ (d : ℕ) (h : d < 16) where
  digit_not : (k : ℕ) → is_hex_digit k ≡ false → eqb (digit d) k ≡ false
  digit_not k n = apart is_hex_digit (digit d) k (digit_hex d h) n

  digit_back : digit_value (digit d) ≡ d
  unfolding digit digit_value
  digit_back = by (ltb d 10) refl
    where
      by : (t : Bool) → ltb d 10 ≡ t → cond (ltb (cond t (48 + d) (87 + d)) 58) (cond t (48 + d) (87 + d) - 48) (cond t (48 + d) (87 + d) - 87) ≡ d
      by true e = let l = ltb-true d 10 e in rw (lt-ltb (48 + d) 58 (omega arith)) (omega arith)
      by false e = let l = ltb-false d 10 e in rw (le-ltb (87 + d) 58 (omega arith)) (omega arith)

  push_one : (base : ℕ) (x : Sum) → push_byte base x (digit d) ≡ record { high = x.high; low = x.low; group = (base * (x.group % 65536) + d) % 65536 }
  unfolding push_byte
  push_one base x = rw (digit_not 46 no_dot, digit_not 58 no_colon, digit_back)

-- a byte in a text
contains_none : (p : ℕ → Bool) (b : ℕ) → p b ≡ false → (s : List ℕ) → all p s ≡ true → contains s b ≡ false
unfolding contains
contains_none p b n [] h = refl
contains_none p b n (x ∷ s) h =
    or_false_both (eqb b x) (contains s b) (ne_eqb b x (λ e. true_false (p b) (ap p e ∙ all_first p x s h) n)) (contains_none p b n s (all_rest p x s h))

contains_between : (u : List ℕ) (b : ℕ) (w : List ℕ) → contains (u ++ (b ∷ w)) b ≡ true
unfolding contains
contains_between [] b w = or_left (eqb b b) (contains w b) (eq-eqb b b refl)
contains_between (x ∷ u) b w = or_right (eqb b x) (contains (u ++ (b ∷ w)) b) (contains_between u b w)

-- a numeral
module _ (base : ℕ) (two : 2 ≤ base) (most : base ≤ 16) (step : (m : ℕ) → (base * (m / base % 65536 % 65536) + m % base) % 65536 ≡ m % 65536) (rest_small : (m : ℕ) → m % base < base) where
  abbrev group_of : Sum → ℕ → Sum
  group_of x n = record { high = x.high; low = x.low; group = n % 65536 }

  one_digit : (x : Sum) → x.group ≡ 0 → (n : ℕ) → n < base → fold (push_byte base) x (digit n ∷ []) ≡ group_of x n
  unfolding fold
  one_digit x z n h = push_one n (omega arith) base x ∙ ap (λ (g : ℕ). record { high = x.high; low = x.low; group = g }) (rw z (zero_product base n))
    where
      zero_product : (base n : ℕ) → (base * (0 % 65536) + n) % 65536 ≡ n % 65536
      zero_product base n = ap (λ (k : ℕ). (k + n) % 65536) (mul-zero base) ∙ rw (zero-add n)

  more : (f n : ℕ) (x : Sum) → fold (push_byte base) x (numeral f base (n / base)) ≡ group_of x (n / base) → fold (push_byte base) x (numeral f base (n / base) ++ (digit (n % base) ∷ [])) ≡ group_of x n
  unfolding fold
  more f n x ih = fold_append (push_byte base) x (numeral f base (n / base)) (digit (n % base) ∷ []) ∙ ap (λ (y : Sum). push_byte base y (digit (n % base))) ih
      ∙ push_one (n % base) (let l = rest_small n in omega arith) base (group_of x (n / base))
      ∙ ap (λ (g : ℕ). record { high = x.high; low = x.low; group = g }) (step n)

  numeral_read : (f n : ℕ) (x : Sum) → x.group ≡ 0 → n < base ^ suc f → fold (push_byte base) x (numeral f base n) ≡ group_of x n
  unfolding numeral
  numeral_read zero n x z h = one_digit x z n (rw (pow-suc, pow-zero, one-mul) at h)
  numeral_read (suc f) n x z h = by (ltb n base) refl (numeral_read f (n / base) x z (quotient_small f base n (omega arith) h))
    where
      by : (t : Bool) → ltb n base ≡ t → fold (push_byte base) x (numeral f base (n / base)) ≡ group_of x (n / base)
          → fold (push_byte base) x (cond t (digit n ∷ []) (numeral f base (n / base) ++ (digit (n % base) ∷ []))) ≡ group_of x n
      by true e ih = one_digit x z n (ltb-true n base e)
      by false e ih = more f n x ih

  -- and it is hex digits
  one_hex : (n : ℕ) → n < base → all is_hex_digit (digit n ∷ []) ≡ true
  one_hex n h = all_cons is_hex_digit (digit n) [] (digit_hex n (omega arith)) (all_none is_hex_digit)

  numeral_hex : (f n : ℕ) → n < base ^ suc f → all is_hex_digit (numeral f base n) ≡ true
  unfolding numeral
  numeral_hex zero n h = one_hex n (rw (pow-suc, pow-zero, one-mul) at h)
  numeral_hex (suc f) n h = cond-elim (λ (s : List ℕ). all is_hex_digit s ≡ true) (ltb n base) (λ e. one_hex n (ltb-true n base e))
      (λ e. all_join is_hex_digit (numeral f base (n / base)) (digit (n % base) ∷ []) (numeral_hex f (n / base) (quotient_small f base n (omega arith) h)) (one_hex (n % base) (rest_small n)))

shift : (x j : ℕ) → (x + 65536 * j) % 65536 ≡ x % 65536
shift x j = omega arith

step_ten : (m : ℕ) → (10 * (m / 10 % 65536 % 65536) + m % 10) % 65536 ≡ m % 65536
step_ten m =
    let e : m ≡ 10 * (m / 10 % 65536 % 65536) + m % 10 + 65536 * (10 * (m / 10 / 65536)) = omega arith in
    sym (ap (λ (k : ℕ). k % 65536) e ∙ shift (10 * (m / 10 % 65536 % 65536) + m % 10) (10 * (m / 10 / 65536)))

step_sixteen : (m : ℕ) → (16 * (m / 16 % 65536 % 65536) + m % 16) % 65536 ≡ m % 65536
step_sixteen m =
    let e : m ≡ 16 * (m / 16 % 65536 % 65536) + m % 16 + 65536 * (16 * (m / 16 / 65536)) = omega arith in
    sym (ap (λ (k : ℕ). k % 65536) e ∙ shift (16 * (m / 16 % 65536 % 65536) + m % 16) (16 * (m / 16 / 65536)))

decimal_read : (n : ℕ) (x : Sum) → x.group ≡ 0 → n < 256 → fold (push_byte 10) x (in_decimal n) ≡ record { high = x.high; low = x.low; group = n % 65536 }
unfolding in_decimal
decimal_read n x z h = numeral_read 10 (omega arith) (omega arith) step_ten (λ m. omega arith) 19 n x z (omega arith)

hex_read : (n : ℕ) (x : Sum) → x.group ≡ 0 → n < 65536 → fold (push_byte 16) x (in_hex n) ≡ record { high = x.high; low = x.low; group = n % 65536 }
unfolding in_hex
hex_read n x z h = numeral_read 16 (omega arith) (omega arith) step_sixteen (λ m. omega arith) 3 n x z (omega arith)

decimal_bytes : (n : ℕ) → n < 256 → all is_hex_digit (in_decimal n) ≡ true
unfolding in_decimal
decimal_bytes n h = numeral_hex 10 (omega arith) (omega arith) step_ten (λ m. omega arith) 19 n (omega arith)

hex_bytes_lem : (n : ℕ) → n < 65536 → all is_hex_digit (in_hex n) ≡ true
unfolding in_hex
hex_bytes_lem n h = numeral_hex 16 (omega arith) (omega arith) step_sixteen (λ m. omega arith) 3 n (omega arith)

-- the bytes of numerals with a separator between them, each of them printable
abbrev is_in : ℕ → ℕ → Bool
is_in separator b = is_hex_digit b || eqb b separator

module _ (separator : ℕ) where
  numeral_inside : (u : List ℕ) → all is_hex_digit u ≡ true → all (is_in separator) u ≡ true
  numeral_inside u h = all_inside is_hex_digit (is_in separator) (λ b x. or_left (is_hex_digit b) (eqb b separator) x) u h

  numeral_then : (u w : List ℕ) → all is_hex_digit u ≡ true → all (is_in separator) w ≡ true → all (is_in separator) (u ++ (separator ∷ w)) ≡ true
  numeral_then u w h k =
      all_join_by (is_in separator) u separator w (numeral_inside u h) (or_right (is_hex_digit separator) (eqb separator separator) (eq-eqb separator separator refl)) k

  numeral_last : (u : List ℕ) → all is_hex_digit u ≡ true → all (is_in separator) (u ++ []) ≡ true
  numeral_last u h = all_join (is_in separator) u [] (numeral_inside u h) (all_none (is_in separator))

hex_printable : (b : ℕ) → is_hex_digit b ≡ true → is_printable b ≡ true
unfolding is_hex_digit is_digit is_printable
hex_printable b h = or_elim (within 48 57 b) _ h (λ p. let r = within_range 48 57 b p in range_within 32 126 b (omega arith) (omega arith))
    (λ q. or_elim (within 65 70 b) (within 97 102 b) q (λ p. let r = within_range 65 70 b p in range_within 32 126 b (omega arith) (omega arith))
    (λ p. let r = within_range 97 102 b p in range_within 32 126 b (omega arith) (omega arith)))

all_printable : (separator : ℕ) → is_printable separator ≡ true → (s : List ℕ) → all (is_in separator) s ≡ true → all is_printable s ≡ true
all_printable separator k s h =
    all_inside (is_in separator) is_printable (λ b x. or_elim (is_hex_digit b) (eqb b separator) x (hex_printable b) (λ e. ap is_printable (eqb-true b separator e) ∙ k)) s h

-- a number and its separator
abbrev plain : ℕ → ℕ → Sum
plain high low = record { high = high; low = low; group = 0 }

octet_small : (n high low : ℕ) → n < 256 → octet_on (record { high = high; low = low; group = n % 65536 }) ≡ (low % 16777216) * 256 + n
unfolding octet_on
octet_small n high low h = omega arith

low_small : (n high low : ℕ) → n < 65536 → low_on (record { high = high; low = low; group = n % 65536 }) ≡ (low % 281474976710656) * 65536 + n
unfolding low_on
low_small n high low h = omega arith

after_dot : (x : Sum) → push_byte 10 x 46 ≡ plain x.high (octet_on x)
unfolding push_byte
after_dot x = refl

after_colon : (x : Sum) → push_byte 16 x 58 ≡ plain (high_on x) (low_on x)
unfolding push_byte
after_colon x = refl

dot_read : (n high low : ℕ) (t : List ℕ) → n < 256 → fold (push_byte 10) (plain high low) (in_decimal n ++ (46 ∷ t)) ≡ fold (push_byte 10) (plain high ((low % 16777216) * 256 + n)) t
unfolding fold
dot_read n high low t h = fold_append (push_byte 10) (plain high low) (in_decimal n) (46 ∷ t)
    ∙ ap (λ (x : Sum). fold (push_byte 10) (push_byte 10 x 46) t) (decimal_read n (plain high low) refl h)
    ∙ ap (λ (x : Sum). fold (push_byte 10) x t) (after_dot (record { high = high; low = low; group = n % 65536 }) ∙ ap (plain high) (octet_small n high low h))

colon_read : (n high low : ℕ) (t : List ℕ) → n < 65536
    → fold (push_byte 16) (plain high low) (in_hex n ++ (58 ∷ t)) ≡ fold (push_byte 16) (plain ((high % 281474976710656) * 65536 + (low / 281474976710656) % 65536) ((low % 281474976710656) * 65536 + n)) t
unfolding fold high_on
colon_read n high low t h = fold_append (push_byte 16) (plain high low) (in_hex n) (58 ∷ t)
    ∙ ap (λ (x : Sum). fold (push_byte 16) (push_byte 16 x 58) t) (hex_read n (plain high low) refl h)
    ∙ ap (λ (x : Sum). fold (push_byte 16) x t) (after_colon (record { high = high; low = low; group = n % 65536 }) ∙ ap (plain ((high % 281474976710656) * 65536 + (low / 281474976710656) % 65536)) (low_small n high low h))

-- four numbers
four_read : (a b c d : ℕ) → a < 256 → b < 256 → c < 256 → d < 256 → octet_on (total 10 (in_decimal a ++ (46 ∷ (in_decimal b ++ (46 ∷ (in_decimal c ++ (46 ∷ (in_decimal d ++ [])))))))) ≡ 16777216 * a + 65536 * b + 256 * c + d
unfolding total
four_read a b c d ha hb hc hd =
    ap octet_on (dot_read a 0 0 (in_decimal b ++ (46 ∷ (in_decimal c ++ (46 ∷ (in_decimal d ++ []))))) ha
    ∙ dot_read b 0 ((0 % 16777216) * 256 + a) (in_decimal c ++ (46 ∷ (in_decimal d ++ []))) hb
    ∙ dot_read c 0 (((0 % 16777216) * 256 + a) % 16777216 * 256 + b) (in_decimal d ++ []) hc
    ∙ ap (fold (push_byte 10) (plain 0 ((((0 % 16777216) * 256 + a) % 16777216 * 256 + b) % 16777216 * 256 + c))) (append-nil (in_decimal d))
    ∙ decimal_read d (plain 0 ((((0 % 16777216) * 256 + a) % 16777216 * 256 + b) % 16777216 * 256 + c)) refl hd)
    ∙ octet_small d 0 ((((0 % 16777216) * 256 + a) % 16777216 * 256 + b) % 16777216 * 256 + c) hd ∙ omega arith

four_bytes_lem : (a b c d : ℕ) → a < 256 → b < 256 → c < 256 → d < 256 → all (is_in 46) (in_decimal a ++ (46 ∷ (in_decimal b ++ (46 ∷ (in_decimal c ++ (46 ∷ (in_decimal d ++ []))))))) ≡ true
four_bytes_lem a b c d ha hb hc hd =
    numeral_then 46 (in_decimal a) _ (decimal_bytes a ha) (numeral_then 46 (in_decimal b) _ (decimal_bytes b hb)
    (numeral_then 46 (in_decimal c) _ (decimal_bytes c hc) (numeral_last 46 (in_decimal d) (decimal_bytes d hd))))

colon_apart : is_in 46 58 ≡ false
unfolding is_hex_digit is_digit within
colon_apart = refl

pub address_four_back : (v : ℕ) → v < 2 ^ 32 → address_of (readable (IPv4 v)) ≡ IPv4 v
unfolding address_of readable octets octets_of octet_texts join_by separator_before
address_four_back v h =
    let a = v / 256 / 256 / 256 % 256 in
    let b = v / 256 / 256 % 256 in
    let c = v / 256 % 256 in
    let d = v % 256 in
    rw (contains_none (is_in 46) 58 colon_apart _ (four_bytes_lem a b c d (omega arith) (omega arith) (omega arith) (omega arith)), four_read a b c d (omega arith) (omega arith) (omega arith) (omega arith)) (ap IPv4 (back v h))
  where
    back : (v : ℕ) → v < 2 ^ 32 → 16777216 * (v / 256 / 256 / 256 % 256) + 65536 * (v / 256 / 256 % 256) + 256 * (v / 256 % 256) + v % 256 ≡ v
    back v h = omega arith

-- eight numbers
colon_to : (n high low high' low' : ℕ) (t : List ℕ) → n < 65536 → (high % 281474976710656) * 65536 + (low / 281474976710656) % 65536 ≡ high' → (low % 281474976710656) * 65536 + n ≡ low'
    → fold (push_byte 16) (plain high low) (in_hex n ++ (58 ∷ t)) ≡ fold (push_byte 16) (plain high' low') t
colon_to n high low high' low' t h p q = colon_read n high low t h ∙ ap (λ (x : ℕ). fold (push_byte 16) (plain x ((low % 281474976710656) * 65536 + n)) t) p ∙ ap (λ (x : ℕ). fold (push_byte 16) (plain high' x) t) q

module _ (a b c d e f g h : ℕ) (ha : a < 65536) (hb : b < 65536) (hc : c < 65536) (hd : d < 65536) (he : e < 65536) (hf : f < 65536) (hg : g < 65536) (hh : h < 65536) where
  abbrev t₇ : List ℕ
  t₇ = in_hex h ++ []

  abbrev t₆ : List ℕ
  t₆ = in_hex g ++ (58 ∷ t₇)

  abbrev t₅ : List ℕ
  t₅ = in_hex f ++ (58 ∷ t₆)

  abbrev t₄ : List ℕ
  t₄ = in_hex e ++ (58 ∷ t₅)

  abbrev t₃ : List ℕ
  t₃ = in_hex d ++ (58 ∷ t₄)

  abbrev t₂ : List ℕ
  t₂ = in_hex c ++ (58 ∷ t₃)

  abbrev t₁ : List ℕ
  t₁ = in_hex b ++ (58 ∷ t₂)

  abbrev t₀ : List ℕ
  t₀ = in_hex a ++ (58 ∷ t₁)

  abbrev three : ℕ → ℕ → ℕ → ℕ
  three x y z = (x * 65536 + y) * 65536 + z

  six_total : total 16 t₀ ≡ record { high = three a b c; low = ((d * 65536 + e) * 65536 + f) * 65536 + g; group = h % 65536 }
  unfolding total
  six_total =
      colon_to a 0 0 0 a t₁ ha (omega arith) (omega arith)
      ∙ colon_to b 0 a 0 (a * 65536 + b) t₂ hb (omega arith) (omega arith)
      ∙ colon_to c 0 (a * 65536 + b) 0 (three a b c) t₃ hc (omega arith) (omega arith)
      ∙ colon_to d 0 (three a b c) 0 (three a b c * 65536 + d) t₄ hd (omega arith) (omega arith)
      ∙ colon_to e 0 (three a b c * 65536 + d) a (three b c d * 65536 + e) t₅ he (omega arith) (omega arith)
      ∙ colon_to f a (three b c d * 65536 + e) (a * 65536 + b) (three c d e * 65536 + f) t₆ hf (omega arith) (omega arith)
      ∙ colon_to g (a * 65536 + b) (three c d e * 65536 + f) (three a b c) (three d e f * 65536 + g) t₇ hg (omega arith) (omega arith)
      ∙ ap (fold (push_byte 16) (plain (three a b c) (three d e f * 65536 + g))) (append-nil (in_hex h))
      ∙ hex_read h (plain (three a b c) (three d e f * 65536 + g)) refl hh

  six_high : high_on (total 16 t₀) ≡ three a b c * 65536 + d
  unfolding high_on
  six_high = rw six_total (omega arith)

  six_low : low_on (total 16 t₀) ≡ three e f g * 65536 + h
  unfolding low_on
  six_low = rw six_total (omega arith)

  six_colon : contains t₀ 58 ≡ true
  six_colon = contains_between (in_hex a) 58 t₁

  six_bytes : all (is_in 58) t₀ ≡ true
  six_bytes =
      numeral_then 58 (in_hex a) t₁ (hex_bytes_lem a ha) (numeral_then 58 (in_hex b) t₂ (hex_bytes_lem b hb) (numeral_then 58 (in_hex c) t₃ (hex_bytes_lem c hc)
      (numeral_then 58 (in_hex d) t₄ (hex_bytes_lem d hd) (numeral_then 58 (in_hex e) t₅ (hex_bytes_lem e he) (numeral_then 58 (in_hex f) t₆ (hex_bytes_lem f hf)
      (numeral_then 58 (in_hex g) t₇ (hex_bytes_lem g hg) (numeral_last 58 (in_hex h) (hex_bytes_lem h hh))))))))

  six_back : address_of t₀ ≡ IPv6 (three a b c * 65536 + d) (three e f g * 65536 + h)
  unfolding address_of
  six_back = rw (six_colon, six_high, six_low)

eight : (v : ℕ) → v < 2 ^ 64 → (((256 * (v / 256 / 256 / 256 / 256 / 256 / 256 / 256 % 256) + v / 256 / 256 / 256 / 256 / 256 / 256 % 256) * 65536
    + (256 * (v / 256 / 256 / 256 / 256 / 256 % 256) + v / 256 / 256 / 256 / 256 % 256)) * 65536 + (256 * (v / 256 / 256 / 256 % 256) + v / 256 / 256 % 256)) * 65536 + (256 * (v / 256 % 256) + v % 256) ≡ v
eight v h = omega arith

same_six : (x y u v : ℕ) → x ≡ u → y ≡ v → IPv6 x y ≡ IPv6 u v
same_six x y u v p q = ap (λ (k : ℕ). IPv6 k y) p ∙ ap (IPv6 u) q

pub address_six_back : (high low : ℕ) → high < 2 ^ 64 → low < 2 ^ 64 → address_of (readable (IPv6 high low)) ≡ IPv6 high low
unfolding readable octets octets_of hex_groups join_by separator_before
address_six_back high low p q =
    six_back (256 * (high / 256 / 256 / 256 / 256 / 256 / 256 / 256 % 256) + high / 256 / 256 / 256 / 256 / 256 / 256 % 256)
    (256 * (high / 256 / 256 / 256 / 256 / 256 % 256) + high / 256 / 256 / 256 / 256 % 256) (256 * (high / 256 / 256 / 256 % 256) + high / 256 / 256 % 256) (256 * (high / 256 % 256) + high % 256)
    (256 * (low / 256 / 256 / 256 / 256 / 256 / 256 / 256 % 256) + low / 256 / 256 / 256 / 256 / 256 / 256 % 256)
    (256 * (low / 256 / 256 / 256 / 256 / 256 % 256) + low / 256 / 256 / 256 / 256 % 256) (256 * (low / 256 / 256 / 256 % 256) + low / 256 / 256 % 256) (256 * (low / 256 % 256) + low % 256)
    (omega arith) (omega arith) (omega arith) (omega arith) (omega arith) (omega arith) (omega arith) (omega arith)
    ∙ same_six _ _ high low (eight high p) (eight low q)

-- every client
client_back : (a : Address) → InRange a → address_of (readable a) ≡ a
client_back (IPv4 v) h = address_four_back v h
client_back (IPv6 high low) h = address_six_back high low h.0 h.1

client_range : (a : Address) → InRange a → InRange (as_client a)
unfolding as_client
client_range (IPv4 v) h = h
client_range (IPv6 high low) h = by (eqb high 0 && eqb (low / 4294967296) 65535)
  where
    by : (t : Bool) → InRange (cond t (IPv4 (low % 4294967296)) (IPv6 high low))
    by true = omega arith
    by false = h

pub address_back : (a : Address) → InRange a → address_of (readable (as_client a)) ≡ as_client a
address_back a h = client_back (as_client a) (client_range a h)

-- the address that any text gives is one
pub address_range : (s : List ℕ) → InRange (address_of s)
unfolding address_of high_on low_on octet_on
address_range s = cond-elim InRange (contains s 58) (λ _. (omega arith, omega arith)) (λ _. omega arith)

-- the bytes of a client's text are printable
dot_printable : is_printable 46 ≡ true
unfolding is_printable within
dot_printable = refl

colon_printable : is_printable 58 ≡ true
unfolding is_printable within
colon_printable = refl

pub readable_printable : (a : Address) → all is_printable (readable a) ≡ true
unfolding readable octets octets_of octet_texts hex_groups join_by separator_before
readable_printable (IPv4 v) =
    all_printable 46 dot_printable _ (four_bytes_lem (v / 256 / 256 / 256 % 256) (v / 256 / 256 % 256) (v / 256 % 256) (v % 256) (omega arith) (omega arith) (omega arith) (omega arith))
readable_printable (IPv6 high low) =
    all_printable 58 colon_printable _
    (six_bytes (256 * (high / 256 / 256 / 256 / 256 / 256 / 256 / 256 % 256) + high / 256 / 256 / 256 / 256 / 256 / 256 % 256)
    (256 * (high / 256 / 256 / 256 / 256 / 256 % 256) + high / 256 / 256 / 256 / 256 % 256) (256 * (high / 256 / 256 / 256 % 256) + high / 256 / 256 % 256) (256 * (high / 256 % 256) + high % 256)
    (256 * (low / 256 / 256 / 256 / 256 / 256 / 256 / 256 % 256) + low / 256 / 256 / 256 / 256 / 256 / 256 % 256)
    (256 * (low / 256 / 256 / 256 / 256 / 256 % 256) + low / 256 / 256 / 256 / 256 % 256) (256 * (low / 256 / 256 / 256 % 256) + low / 256 / 256 % 256) (256 * (low / 256 % 256) + low % 256)
    (omega arith) (omega arith) (omega arith) (omega arith) (omega arith) (omega arith) (omega arith) (omega arith))
