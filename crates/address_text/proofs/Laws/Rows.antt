-- Rows of numbers: halves and groups of octets at a place, a row as a loop writes it number by number, and the texts of addresses as rows. From the
-- definitions of Rows and Forms and the laws of splitting and writing.
use Prim.Native.Nat.{ℕ, zero, suc, ◌+◌, ◌-◌, ◌*◌, ◌/◌, ◌%◌, ◌^◌, ◌≤◌, ◌<◌}
use mathlib.Core.Path.{◌≡◌, refl, sym, ap, ◌∙◌}
use mathlib.Core.List.{List, [], ◌∷◌, ◌++◌, map, reverse, map-append, append-nil, reverse-cons}
use native.Mathlib.Omega.{arith}
use native.Mathlib.Numerals.{add-one}
use lib.ListN.{length, get_or, take, length-reverse, length-append}
use lib.Seq.{take-suc, take_all}
use Rattle.std.proofs.lemmas.List.{get_or-reverse}
use Rattle.text.specs.Lists.{separator_before, join_by, join}
use Rattle.text.specs.Texts.{bytes}
use Rattle.text.specs.Writing.{Wrote}
use Rattle.text.proofs.Laws.Splitting.{Some, some, join_snoc}
use Rattle.text.proofs.Laws.Writing.{wrote_then}
use Rattle.address.specs.Octets.{octets_of, octets}
use Rattle.address.specs.declared.Address.{Address}
use Rattle.address.specs.declared.Address.TheVariants.{IPv4, IPv6}
use Rattle.address.proofs.Laws.OctetValues.{Bytes, length_octets_of, bytes_octets, bytes_append}
use Rattle.address_text.specs.Digits.{digit, numeral, in_decimal, in_hex}
use Rattle.address_text.specs.Forms.{nibbles, hex_groups, octet_texts, nibble_texts, dotted, readable, reversed_name}
use Rattle.address_text.specs.Rows.{Gives, Below}

-- nibbles
pub length_nibbles : (s : List ℕ) → length (nibbles s) ≡ 2 * length s
unfolding nibbles
length_nibbles [] = refl
length_nibbles (o ∷ s) = let h = length_nibbles s in omega arith

pub nibble_even : (s : List ℕ) (i : ℕ) → i % 2 ≡ 0 → get_or (nibbles s) i 0 ≡ get_or s (i / 2) 0 / 16
unfolding nibbles
nibble_even [] i h = refl
nibble_even (o ∷ s) zero h = refl
nibble_even (o ∷ s) (suc zero) h = absurd (omega arith)
nibble_even (o ∷ s) (suc (suc i)) h = let e : suc (suc i) / 2 ≡ suc (i / 2) = omega arith in rw e (nibble_even s i (omega arith))

pub nibble_odd : (s : List ℕ) (i : ℕ) → (i % 2 ≡ 0 → ⊥) → get_or (nibbles s) i 0 ≡ get_or s (i / 2) 0 % 16
unfolding nibbles
nibble_odd [] i h = refl
nibble_odd (o ∷ s) zero h = absurd (h refl)
nibble_odd (o ∷ s) (suc zero) h = refl
nibble_odd (o ∷ s) (suc (suc i)) h = let e : suc (suc i) / 2 ≡ suc (i / 2) = omega arith in rw e (nibble_odd s i (λ z. h (omega arith)))

-- groups
pub length_groups : (s : List ℕ) → length (hex_groups s) ≡ length s / 2
unfolding hex_groups
length_groups [] = refl
length_groups (o ∷ []) = refl
length_groups (o ∷ u ∷ s) = let h = length_groups s in omega arith

pub group_at : (s : List ℕ) (i : ℕ) → i < length s / 2 → get_or (hex_groups s) i 0 ≡ 256 * get_or s (2 * i) 0 + get_or s (2 * i + 1) 0
unfolding hex_groups
group_at [] i h = absurd (omega arith)
group_at (o ∷ []) i h = absurd (omega arith)
group_at (o ∷ u ∷ s) zero h = refl
group_at (o ∷ u ∷ s) (suc i) h =
    let e : 2 * suc i ≡ suc (suc (2 * i)) = omega arith in
    let g : 2 * suc i + 1 ≡ suc (suc (2 * i + 1)) = omega arith in
    rw (g, e) (group_at s i (omega arith))

map_reverse : (f : ℕ → List ℕ) (s : List ℕ) → map f (reverse s) ≡ reverse (map f s)
map_reverse f [] = refl
map_reverse f (x ∷ s) = rw (reverse-cons x s, reverse-cons (f x) (map f s), map-append) (ap (λ (l : List (List ℕ)). l ++ (f x ∷ [])) (map_reverse f s))

some_taken : (f : ℕ → List ℕ) (i : ℕ) (xs : List ℕ) → 0 < i → i ≤ length xs → Some (map f (take i xs))
some_taken f zero xs h k = absurd (omega arith)
some_taken f (suc i) [] h k = absurd (omega arith)
some_taken f (suc i) (x ∷ xs) h k = some

-- what a closure gives from the last number back
pub gives_back : (number : ℕ → ℕ → Type 0) (s : List ℕ) (n : ℕ) → length s ≡ n + 1
    → ((i r : ℕ) → i < length s → number i r → r ≡ get_or s (n - i) 0) → Gives number (reverse s)
gives_back number s n e h i r l w =
    let inside : i < length s = rw length-reverse at l in
    let last : length s - 1 - i ≡ n - i = omega arith in
    rw (get_or-reverse s i 0 inside, last) (h i r inside w)

-- halves and groups of octets are below 16 and 65,536
below_nibbles : (s : List ℕ) → Bytes s → (i : ℕ) → get_or (nibbles s) i 0 < 16
unfolding nibbles
below_nibbles [] h i = omega arith
below_nibbles (o ∷ s) h zero = omega (arith, h 0)
below_nibbles (o ∷ s) h (suc zero) = omega arith
below_nibbles (o ∷ s) h (suc (suc i)) = below_nibbles s (λ j. h (suc j)) i

below_groups : (s : List ℕ) → Bytes s → (i : ℕ) → get_or (hex_groups s) i 0 < 65536
unfolding hex_groups
below_groups [] h i = omega arith
below_groups (o ∷ []) h i = omega arith
below_groups (o ∷ u ∷ s) h zero = omega (arith, h 0, h 1)
below_groups (o ∷ u ∷ s) h (suc i) = below_groups s (λ j. h (suc (suc j))) i

below_back : (k : ℕ) (s : List ℕ) → ((i : ℕ) → get_or s i 0 < k) → Below k (reverse s)
below_back k s h i l = rw (get_or-reverse s i 0 (rw length-reverse at l)) (h (length s - 1 - i))

-- `put_row`: the numbers passed, and what was written of them
module _ (f base separator : ℕ) (xs out : List ℕ) (at : ℕ) where
  pub record Joined (i : ℕ) (o : List ℕ) (n : ℕ) : Type 0 where
    pub some : 0 < i
    pub within : i ≤ length xs
    pub wrote : Wrote (join_by separator (map (numeral f base) (take i xs))) out at o n

  pub joined_first : 0 < length xs → (v : ℕ) → v ≡ get_or xs 0 0 → (o : List ℕ) (n : ℕ) → Wrote (numeral f base v) out at o n → Joined 1 o n
  unfolding join_by separator_before
  joined_first h v e o n w = record {
    some = omega arith;
    within = omega arith;
    wrote = rw (one_suc, take-suc xs 0 0 h, ← e, append-nil) w;
  }
    where
      one_suc : ◌≡◌ {A = ℕ} 1 (suc 0)
      one_suc = refl

  module _ (i : ℕ) (o : List ℕ) (n : ℕ) (p : Joined i o n) where
    pub joined_next : i < length xs → (v : ℕ) → v ≡ get_or xs i 0 → (o₁ o₂ : List ℕ) (n₁ n₂ : ℕ)
        → Wrote (separator ∷ []) o n o₁ n₁ → Wrote (numeral f base v) o₁ n₁ o₂ n₂ → Joined (i + 1) o₂ n₂
    joined_next h v e o₁ o₂ n₁ n₂ u w =
        let text = join_snoc separator (map (numeral f base) (take i xs)) (numeral f base (get_or xs i 0)) (some_taken (numeral f base) i xs p.some p.within) in
        record {
          some = omega arith;
          within = omega arith;
          wrote = rw (add-one, take-suc xs i 0 h, map-append, text, ← e)
              (wrote_then out at (join_by separator (map (numeral f base) (take i xs))) (separator ∷ numeral f base v) o o₂ n n₂ p.wrote
              (wrote_then o n (separator ∷ []) (numeral f base v) o₁ o₂ n₁ n₂ u w));
        }

    pub joined_end : length xs ≤ i → Wrote (join_by separator (map (numeral f base) xs)) out at o n
    joined_end h = rw (sym (take_all i xs h)) p.wrote

-- `put_octets`: what a row of octets in decimal is
pub octets_row : (s : List ℕ) → (length s ≡ 4) → Bytes s → (number : ℕ → ℕ → Type 0) → ((i r : ℕ) → i < length s → number i r → r ≡ get_or s i 0)
    → (out : List ℕ) (at : ℕ) (after : List ℕ) (next : ℕ)
    → ((f : ℕ) (xs : List ℕ) → 4 ≡ length xs → Gives number xs → Below (10 ^ suc f) xs → Wrote (join_by 46 (map (numeral f 10) xs)) out at after next)
    → Wrote (join_by 46 (octet_texts s)) out at after next
unfolding octet_texts in_decimal
octets_row s e h number g out at after next w = w 19 s (sym e) g (λ i l. omega (arith, h i))

-- `put_dotted`, `put_readable`, `put_family`, `put_reversed_name`
module _ (a : Address) (out : List ℕ) (at : ℕ) (after : List ℕ) (next : ℕ) where
  module _ (v : ℕ) (e : a ≡ IPv4 v) where
    module _ (x : List ℕ) (p : x ≡ octets_of 4 v) where
      pub dotted_four : Wrote (join_by 46 (octet_texts x)) out at after next → Wrote (dotted a) out at after next
      unfolding dotted octets
      dotted_four w = rw (e, ← p) w

      pub readable_four : Wrote (join_by 46 (octet_texts x)) out at after next → Wrote (readable a) out at after next
      unfolding readable octets
      readable_four w = rw (e, ← p) w

      pub reversed_four : (number : ℕ → ℕ → Type 0) → ((i r : ℕ) → i < length x → number i r → r ≡ get_or x (3 - i) 0) → (o : List ℕ) (n : ℕ)
          → ((f : ℕ) (xs : List ℕ) → 4 ≡ length xs → Gives number xs → Below (10 ^ suc f) xs → Wrote (join_by 46 (map (numeral f 10) xs)) out at o n)
          → Wrote (bytes ".in-addr.arpa") o n after next → Wrote (reversed_name a) out at after next
      unfolding reversed_name octets octet_texts in_decimal
      reversed_four number g o n w z =
          let size : length x ≡ 4 = rw p (length_octets_of 4 v) in
          let row : Wrote (join_by 46 (map in_decimal (reverse x))) out at o n =
          w 19 (reverse x) (sym (length-reverse x ∙ size)) (gives_back number x 3 size g) (below_back (10 ^ 20) x (λ i. rw p (omega (arith, bytes_octets 4 v i)))) in
          rw (e, ← p) (wrote_then out at (join (reverse (octet_texts x))) (bytes ".in-addr.arpa") o after n next (rw map_reverse at row) z)

  module _ (high low : ℕ) (e : a ≡ IPv6 high low) where
    module _ (x : List ℕ) (p : x ≡ octets_of 8 high ++ octets_of 8 low) where
      size : length x ≡ 16
      size = rw p (simp (length-append, length_octets_of))

      octets_fit : Bytes x
      octets_fit = rw p (bytes_append (octets_of 8 high) (octets_of 8 low) (bytes_octets 8 high) (bytes_octets 8 low))

      pub dotted_six : (number : ℕ → ℕ → Type 0) → Gives number (nibbles x)
          → ((f : ℕ) (xs : List ℕ) → 32 ≡ length xs → Gives number xs → Below (16 ^ suc f) xs → Wrote (join_by 46 (map (numeral f 16) xs)) out at after next)
          → Wrote (dotted a) out at after next
      unfolding dotted octets nibble_texts numeral
      dotted_six number g w = rw (e, ← p) (w 0 (nibbles x) (omega (arith, length_nibbles x, size)) g (λ i l. below_nibbles x octets_fit i))

      pub readable_six : (number : ℕ → ℕ → Type 0) → Gives number (hex_groups x)
          → ((f : ℕ) (xs : List ℕ) → 8 ≡ length xs → Gives number xs → Below (16 ^ suc f) xs → Wrote (join_by 58 (map (numeral f 16) xs)) out at after next)
          → Wrote (readable a) out at after next
      unfolding readable octets in_hex
      readable_six number g w = rw (e, ← p) (w 3 (hex_groups x) (omega (arith, length_groups x, size)) g (λ i l. below_groups x octets_fit i))

      pub reversed_six : (number : ℕ → ℕ → Type 0) → ((i r : ℕ) → i < length (nibbles x) → number i r → r ≡ get_or (nibbles x) (31 - i) 0) → (o : List ℕ) (n : ℕ)
          → ((f : ℕ) (xs : List ℕ) → 32 ≡ length xs → Gives number xs → Below (16 ^ suc f) xs → Wrote (join_by 46 (map (numeral f 16) xs)) out at o n)
          → Wrote (bytes ".ip6.arpa") o n after next → Wrote (reversed_name a) out at after next
      unfolding reversed_name octets nibble_texts numeral
      reversed_six number g o n w z =
          let count : length (nibbles x) ≡ 32 = omega (arith, length_nibbles x, size) in
          let row : Wrote (join_by 46 (map (λ d. digit d ∷ []) (reverse (nibbles x)))) out at o n =
          w 0 (reverse (nibbles x)) (sym (length-reverse (nibbles x) ∙ count)) (gives_back number (nibbles x) 31 count g) (below_back 16 (nibbles x) (below_nibbles x octets_fit)) in
          rw (e, ← p) (wrote_then out at (join (reverse (nibble_texts x))) (bytes ".ip6.arpa") o after n next (rw map_reverse at row) z)
