-- Groups as octets, two for each, and the address of eight groups. From the definitions of Grammar, Reader6 and `from_octets`.
use Rattle.std.proofs.Common.{Some}
use Prim.Native.Nat.{ℕ, zero, suc, ◌+◌, ◌-◌, ◌*◌, ◌/◌, ◌%◌, ◌≤◌}
use mathlib.Core.Path.{◌≡◌, refl, sym, ap, ◌∙◌}
use mathlib.Core.List.{List, [], ◌∷◌, ◌++◌, append_assoc, append-nil}
use native.Mathlib.Omega.{arith}
use lib.ListN.{length, take, drop, replicate, length-append, length-replicate, length-take, take-append-drop, drop_of_length-le, replicate-append-replicate}
use lib.Seq.{take_at, drop_at, sets, sets-eq}
use Rattle.address.specs.Octets.{value_from, value_of, from_octets}
use Rattle.networks.specs.Grammar.{groups_from, address_of, filled}
use Rattle.networks.specs.Reader6.{octet_pairs}

pub length_pairs : (gs : List ℕ) → length (octet_pairs gs) ≡ 2 * length gs
unfolding octet_pairs
length_pairs [] = refl
length_pairs (g ∷ gs) = let r = length_pairs gs in omega arith

pub pairs_append : (xs ys : List ℕ) → octet_pairs (xs ++ ys) ≡ octet_pairs xs ++ octet_pairs ys
unfolding octet_pairs
pairs_append [] ys = refl
pairs_append (g ∷ xs) ys = rw (pairs_append xs ys)

pairs_zeros : (n : ℕ) → octet_pairs (replicate n 0) ≡ replicate (2 * n) 0
unfolding octet_pairs
pairs_zeros zero = refl
pairs_zeros (suc n) = let e : 2 * suc n ≡ suc (suc (2 * n)) = omega arith in rw (e, pairs_zeros n)

-- the octets of groups write the groups' number
value_pairs : (v : ℕ) (gs : List ℕ) → value_from v (octet_pairs gs) ≡ groups_from v gs
unfolding octet_pairs value_from groups_from
value_pairs v [] = refl
value_pairs v (g ∷ gs) = let e : 256 * (256 * v + g / 256) + g % 256 ≡ 65536 * v + g = omega arith in ap (λ (n : ℕ). value_from n (octet_pairs gs)) e ∙ value_pairs (65536 * v + g) gs

-- eight groups and their address
pub eight_address : (gs : List ℕ) → length gs ≡ 8 → from_octets (octet_pairs gs) ≡ Some (address_of gs)
unfolding from_octets address_of value_of
eight_address gs h =
    let n : length (octet_pairs gs) ≡ 16 = length_pairs gs ∙ omega arith in
    let m : length (octet_pairs (take 4 gs)) ≡ 8 = length_pairs (take 4 gs) ∙ simp length-take (omega arith) in
    let e : octet_pairs gs ≡ octet_pairs (take 4 gs) ++ octet_pairs (drop 4 gs) = ap octet_pairs (sym (take-append-drop 4 gs)) ∙ pairs_append (take 4 gs) (drop 4 gs) in
    let p : take 8 (octet_pairs gs) ≡ octet_pairs (take 4 gs) = ap (take 8) e ∙ take_at (octet_pairs (take 4 gs)) (octet_pairs (drop 4 gs)) 8 m in
    let q : drop 8 (octet_pairs gs) ≡ octet_pairs (drop 4 gs) = ap (drop 8) e ∙ drop_at (octet_pairs (take 4 gs)) (octet_pairs (drop 4 gs)) 8 m in
    rw (n, p, q, value_pairs 0 (take 4 gs), value_pairs 0 (drop 4 gs))

-- zeros between the groups of both sides
pub length_filled : (ls rs : List ℕ) → length ls + length rs ≤ 7 → length (filled ls rs) ≡ 8
unfolding filled
length_filled ls rs h = simp (length-append, length-replicate) (omega arith)

drop_zeros : (n m : ℕ) → n ≤ m → drop {A = ℕ} n (replicate m 0) ≡ replicate (m - n) 0
drop_zeros n m h =
    let e : n + (m - n) ≡ m = omega arith in
    sym (ap (drop n) (replicate-append-replicate n (m - n) 0 ∙ ap (λ (k : ℕ). replicate k 0) e)) ∙ drop_at (replicate n 0) (replicate (m - n) 0) n (length-replicate n 0)

-- the octets of the left side at the front of zeros, and of the right side at the end
pub filled_octets : (ls rs : List ℕ) → length ls + length rs ≤ 7
    → sets (octet_pairs ls ++ drop (length (octet_pairs ls)) (replicate 16 0)) (16 - length (octet_pairs rs)) (octet_pairs rs) ≡ octet_pairs (filled ls rs)
unfolding filled
filled_octets ls rs h =
    let a = octet_pairs ls in
    let b = octet_pairs rs in
    let n = length_pairs ls in
    let m = length_pairs rs in
    let k = 8 - (length ls + length rs) in
    let i = 16 - length b in
    let front = a ++ replicate (2 * k) 0 in
    let count : 16 - length a ≡ 2 * k + 2 * length rs = omega arith in
    let l : a ++ drop (length a) (replicate 16 0) ≡ front ++ replicate (2 * length rs) 0 =
    rw (drop_zeros (length a) 16 (omega arith), count, append_assoc, replicate-append-replicate) in
    let size : length front ≡ i = simp (length-append, length-replicate) (omega arith) in
    let all : length (front ++ replicate (2 * length rs) 0) ≡ 16 = simp (length-append, length-replicate) (omega arith) in
    ap (λ (t : List ℕ). sets t i b) l ∙ sets-eq b (front ++ replicate (2 * length rs) 0) i (omega arith)
    ∙ rw (take_at front (replicate (2 * length rs) 0) i size, drop_of_length-le (front ++ replicate (2 * length rs) 0) {i = i + length b} (omega arith), append-nil, append_assoc)
    (sym (rw (pairs_append ls (replicate k 0 ++ rs), pairs_append (replicate k 0) rs, pairs_zeros k)))
