-- The name of a PTR question is a name as the table has it: labels of digits or hex digits, then `in-addr.arpa` or `ip6.arpa`. From the forms
-- of address_text, with the text of each octet and of each half of one by computation.
use Prim.Native.Nat.{ℕ, zero, suc, ◌/◌, ◌%◌, ◌≤◌}
use native.Mathlib.Omega.{arith}
use mathlib.Core.Path.{◌≡◌, refl}
use mathlib.Core.List.{List, [], ◌∷◌, ◌++◌, map, reverse, reverse-cons, append_assoc}
use mathlib.Core.Bool.{Bool, true, ◌&&◌}
use lib.ListN.{length, length-append}
use lib.Dec.{ltb}
use borrow.Author.Tests.{lt-ltb, ltb-true}
use Rattle.text.specs.Bytes.{is_dot, is_visible, is_upper, is_not_upper, within}
use Rattle.text.specs.Lists.{all, split, grow, separator_before, join_by, join}
use Rattle.text.specs.Texts.{bytes}
use Rattle.text.proofs.Laws.Tests.{and_left, and_right, and_both}
use Rattle.text.proofs.Laws.Classes.{range_within, below}
use Rattle.text.proofs.Laws.Parts.{all_none, all_cons, all_first, all_rest, all_join, all_join_by}
use Rattle.text.proofs.Laws.Splitting.{Some, some, split_append}
use Rattle.address.specs.Octets.{octets_of, octets}
use Rattle.address.specs.declared.Address.{Address}
use Rattle.address.specs.declared.Address.TheVariants.{IPv4, IPv6}
use Rattle.domain.specs.Names.{labels, is_label, is_name, is_table_name}
use Rattle.address_text.specs.Digits.{digit, numeral, in_decimal}
use Rattle.address_text.specs.Forms.{nibbles, octet_texts, nibble_texts, reversed_name}
use Rattle.address_text.proofs.Laws.Lengths.{length_reversed}

-- a test of every element, after a map and in reverse
all_mapped : {A B : Type 0} (p : A → Bool) (q : B → Bool) (f : A → B) → ((x : A) → p x ≡ true → q (f x) ≡ true)
    → (xs : List A) → all p xs ≡ true → all q (map f xs) ≡ true
all_mapped p q f h [] a = all_none q
all_mapped p q f h (x ∷ xs) a = all_cons q (f x) (map f xs) (h x (all_first p x xs a)) (all_mapped p q f h xs (all_rest p x xs a))

all_reverse : {A : Type 0} (p : A → Bool) (xs : List A) → all p xs ≡ true → all p (reverse xs) ≡ true
all_reverse p [] a = all_none p
all_reverse p (x ∷ xs) a =
    rw (reverse-cons x xs) (all_join_by p (reverse xs) x [] (all_reverse p xs (all_rest p x xs a)) (all_first p x xs a) (all_none p))

-- a table's name but for its length: labels that fit, in lower case
unfoldable is_plain : List ℕ → Bool
is_plain s = all is_label (labels s) && all is_not_upper s

plain_labels : (s : List ℕ) → is_plain s ≡ true → all is_label (labels s) ≡ true
unfolding is_plain
plain_labels s h = and_left (all is_label (labels s)) (all is_not_upper s) h

plain_lower : (s : List ℕ) → is_plain s ≡ true → all is_not_upper s ≡ true
unfolding is_plain
plain_lower s h = and_right (all is_label (labels s)) (all is_not_upper s) h

labels_dot : (x s : List ℕ) → labels (x ++ 46 ∷ s) ≡ labels x ++ labels s
unfolding labels
labels_dot x s = split_append is_dot x 46 s refl

plain_dot : (x s : List ℕ) → is_plain x ≡ true → is_plain s ≡ true → is_plain (x ++ 46 ∷ s) ≡ true
unfolding is_plain is_not_upper is_upper within
plain_dot x s hx hs = rw (labels_dot x s) (and_both _ _
    (all_join is_label (labels x) (labels s) (plain_labels x hx) (plain_labels s hs))
    (all_join_by is_not_upper x 46 s (plain_lower x hx) refl (plain_lower s hs)))

-- parts joined by dots, and then one more
plain_parts : (x : List ℕ) (xs : List (List ℕ)) (s : List ℕ) → is_plain x ≡ true → all is_plain xs ≡ true → is_plain s ≡ true
    → is_plain (x ++ (separator_before 46 xs ++ 46 ∷ s)) ≡ true
unfolding separator_before
plain_parts x [] s hx h hs = plain_dot x s hx hs
plain_parts x (y ∷ ys) s hx h hs =
    rw (append_assoc y (separator_before 46 ys) (46 ∷ s))
    (plain_dot x (y ++ (separator_before 46 ys ++ 46 ∷ s)) hx (plain_parts y ys s (all_first is_plain y ys h) (all_rest is_plain y ys h) hs))

plain_join : (xs : List (List ℕ)) (s : List ℕ) → Some xs → all is_plain xs ≡ true → is_plain s ≡ true → is_plain (join xs ++ 46 ∷ s) ≡ true
unfolding join_by
plain_join (x ∷ xs) s some h hs =
    rw (append_assoc x (separator_before 46 xs) (46 ∷ s)) (plain_parts x xs s (all_first is_plain x xs h) (all_rest is_plain x xs h) hs)
plain_join [] s x3 h hs = elim x3 [ ]

plain_name : (xs : List (List ℕ)) (s : List ℕ) → Some xs → all is_plain xs ≡ true → is_plain s ≡ true → length (join xs ++ 46 ∷ s) ≤ 253
    → is_table_name (join xs ++ 46 ∷ s) ≡ true
unfolding is_table_name is_name
plain_name xs s e h hs l =
    let t = join xs ++ 46 ∷ s in
    let p = plain_join xs s e h hs in
    let n = length-append (join xs) (46 ∷ s) in
    and_both _ _ (and_both _ _ (range_within 1 253 (length t) (omega arith) l) (plain_labels t p)) (plain_lower t p)

-- octets and their halves, and their texts
octets_small : (n v : ℕ) → all (λ o. ltb o 256) (octets_of n v) ≡ true
unfolding octets_of
octets_small zero v = all_none _
octets_small (suc n) v = all_join_by _ (octets_of n (v / 256)) (v % 256) [] (octets_small n (v / 256)) (lt-ltb (v % 256) 256 (omega arith)) (all_none _)

all_octets : (a : Address) → all (λ o. ltb o 256) (octets a) ≡ true
unfolding octets
all_octets (IPv4 v) = octets_small 4 v
all_octets (IPv6 high low) = all_join _ (octets_of 8 high) (octets_of 8 low) (octets_small 8 high) (octets_small 8 low)

nibbles_small : (s : List ℕ) → all (λ o. ltb o 256) s ≡ true → all (λ n. ltb n 16) (nibbles s) ≡ true
unfolding nibbles
nibbles_small [] h = all_none _
nibbles_small (o ∷ s) h =
    let l = ltb-true o 256 (all_first _ o s h) in
    all_cons _ (o / 16) (o % 16 ∷ nibbles s) (lt-ltb (o / 16) 16 (omega arith))
    (all_cons _ (o % 16) (nibbles s) (lt-ltb (o % 16) 16 (omega arith)) (nibbles_small s (all_rest _ o s h)))

octet_plain : (o : ℕ) → ltb o 256 ≡ true → is_plain (in_decimal o) ≡ true
unfolding is_plain labels split grow all is_label is_visible is_not_upper is_upper within in_decimal numeral digit
octet_plain o h = below 256 (λ o. is_plain (in_decimal o)) refl o (ltb-true o 256 h)

nibble_plain : (n : ℕ) → ltb n 16 ≡ true → is_plain (digit n ∷ []) ≡ true
unfolding is_plain labels split grow all is_label is_visible is_not_upper is_upper within digit
nibble_plain n h = below 16 (λ n. is_plain (digit n ∷ [])) refl n (ltb-true n 16 h)

octets_plain : (s : List ℕ) → all (λ o. ltb o 256) s ≡ true → all is_plain (reverse (octet_texts s)) ≡ true
unfolding octet_texts
octets_plain s h = all_reverse is_plain (map in_decimal s) (all_mapped _ is_plain in_decimal octet_plain s h)

nibbles_plain : (s : List ℕ) → all (λ o. ltb o 256) s ≡ true → all is_plain (reverse (nibble_texts s)) ≡ true
unfolding nibble_texts
nibbles_plain s h =
    all_reverse is_plain (map (λ n. digit n ∷ []) (nibbles s)) (all_mapped _ is_plain (λ n. digit n ∷ []) nibble_plain (nibbles s) (nibbles_small s h))

-- the lists of their texts aren't empty
some_octets : (v : ℕ) → Some (reverse (octet_texts (octets (IPv4 v))))
unfolding octets octets_of octet_texts
some_octets v = some

some_nibbles : (high low : ℕ) → Some (reverse (nibble_texts (octets (IPv6 high low))))
unfolding octets octets_of nibble_texts nibbles
some_nibbles high low = some

-- the ends of the names
in_addr_arpa_plain : is_plain (bytes "in-addr.arpa") ≡ true
unfolding is_plain labels split grow all is_label is_visible is_not_upper is_upper within
in_addr_arpa_plain = refl

ip6_arpa_plain : is_plain (bytes "ip6.arpa") ≡ true
unfolding is_plain labels split grow all is_label is_visible is_not_upper is_upper within
ip6_arpa_plain = refl

-- for an address of either family
pub reversed_ok : (a : Address) → is_table_name (reversed_name a) ≡ true
unfolding reversed_name
reversed_ok (IPv4 v) =
    let l = length_reversed (IPv4 v) in
    plain_name (reverse (octet_texts (octets (IPv4 v)))) (bytes "in-addr.arpa") (some_octets v)
    (octets_plain (octets (IPv4 v)) (all_octets (IPv4 v))) in_addr_arpa_plain (omega arith)
reversed_ok (IPv6 high low) =
    let l = length_reversed (IPv6 high low) in
    plain_name (reverse (nibble_texts (octets (IPv6 high low)))) (bytes "ip6.arpa") (some_nibbles high low)
    (nibbles_plain (octets (IPv6 high low)) (all_octets (IPv6 high low))) ip6_arpa_plain (omega arith)
