-- The address of a text's groups as the code makes it of octets: the ways out of `read_full` and `read_short`. From the laws of groups as
-- octets and of writing.
use Rattle.std.proofs.Common.{None, Option}
use Prim.Native.Nat.{ℕ, ◌+◌, ◌-◌, ◌≤◌}
use mathlib.Core.Path.{◌≡◌, sym, ap, ◌∙◌}
use mathlib.Core.List.{List, [], ◌++◌, append-nil}
use native.Mathlib.Omega.{arith}
use lib.ListN.{length, take, drop, replicate, drop_of_length-le}
use lib.Seq.{take_at}
use mathlib.Core.Bool.{Bool, true, false}
use lib.Dec.{leb}
use borrow.Author.Tests.{leb-true, leb-false, eq-eqb, ne_eqb, le-leb, lt-leb}
use Rattle.text.specs.Writing.{Wrote}
use Rattle.text.specs.declared.writing.Writer.{Writer}
use Rattle.text.proofs.Laws.Writing.{wrote_front}
use Rattle.address.specs.Octets.{from_octets}
use Rattle.networks.specs.Grammar.{filled}
use Rattle.networks.specs.Reader6.{Reading, groups, refused, octet_pairs, full_of, short_of, RowWritten, written, none}
use Rattle.networks.proofs.Laws.GroupOctets.{length_pairs, eight_address, length_filled, filled_octets}
use Rattle.address.specs.declared.Address.{Address}

-- what was written where the function answers a place
record Filled (x : Reading) (before : List ℕ) (at : ℕ) (after : List ℕ) (n : ℕ) : Type 0 where
  gs : List ℕ
  reads : x ≡ groups gs
  wrote : Wrote (octet_pairs gs) before at after n

row_at : (x : Reading) (a b : Writer) (e : Bool) → RowWritten x a b e → e ≡ true → Filled x a.out.now a.at b.out.now b.at
row_at x a b e (written {gs = gs} p w) q = record { gs = gs; reads = p; wrote = w }
row_at x a b e (none p) q = absurd (let z : ◌≡◌ {A = ℕ} 0 1 = cc in omega arith)

row_none : (x : Reading) (a b : Writer) (e : Bool) → RowWritten x a b e → e ≡ false → x ≡ refused
row_none x a b e (written p w) q = let z : ◌≡◌ {A = ℕ} 0 1 = cc in absurd (omega arith)
row_none x a b e (none p) q = p

-- 16 octets that were written are eight groups
eight_read : (gs z o : List ℕ) (n : ℕ) → Wrote (octet_pairs gs) z 0 o n → n ≡ 16 → length z ≡ 16 → (r : Option Address) → r ≡ from_octets o → r ≡ full_of (groups gs)
unfolding full_of
eight_read gs z o n w h l r p =
    let pairs = length_pairs gs in
    let next = w.next_place in
    let eight : length gs ≡ 8 = omega arith in
    let rest : drop (length (octet_pairs gs)) z ≡ [] = drop_of_length-le z {i = length (octet_pairs gs)} (omega arith) in
    let all : o ≡ octet_pairs gs = wrote_front (octet_pairs gs) z o n w (omega arith) ∙ rw (rest, append-nil) in
    p ∙ rw (all, eq-eqb (length gs) 8 eight) (eight_address gs eight)

-- the octets of both sides, at the front and at the end of zeros
filled_read : (ls rs z o : List ℕ) (n : ℕ) → Wrote (octet_pairs ls) z 0 o n → (z' right : List ℕ) (m : ℕ) → Wrote (octet_pairs rs) z' 0 right m
    → n + m ≤ 14 → z ≡ replicate 16 0 → length z' ≡ 16 → (o₂ : List ℕ) (k : ℕ) → Wrote (take m right) o (16 - m) o₂ k
    → (r : Option Address) → r ≡ from_octets o₂ → r ≡ short_of (groups ls) (groups rs)
unfolding short_of
filled_read ls rs z o n w z' right m w' most zeros size o₂ k v r p =
    let a = w.next_place in
    let b = w'.next_place in
    let c = length_pairs ls in
    let d = length_pairs rs in
    let sixteen : length z ≡ 16 = ap length zeros in
    let seven : length ls + length rs ≤ 7 = omega arith in
    let left : o ≡ octet_pairs ls ++ drop (length (octet_pairs ls)) (replicate 16 0) = rw zeros at (wrote_front (octet_pairs ls) z o n w (omega arith)) in
    let length_right : length (octet_pairs rs) ≡ m = omega arith in
    let part : take m right ≡ octet_pairs rs =
    ap (take m) (wrote_front (octet_pairs rs) z' right m w' (omega arith)) ∙ take_at (octet_pairs rs) (drop (length (octet_pairs rs)) z') m length_right in
    let all : o₂ ≡ octet_pairs (filled ls rs) = v.text ∙ rw (part, left, ← length_right) (filled_octets ls rs seven) in
    p ∙ rw (all, le-leb (length ls + length rs) 7 seven) (eight_address (filled ls rs) (length_filled ls rs seven))

-- octets that leave a group are within an address's 16
pub leave_within : (n m : ℕ) (t : Bool) → t ≡ leb (n + m) 14 → t ≡ true → m ≤ 16
leave_within n m t k h = let most = leb-true (n + m) 14 (sym k ∙ h) in omega arith

-- `read_full`: what was written, by a writer at the front of 16 zeros, as the array has it then
module _ (x : Reading) (a b : Writer) (e : Bool) (w : RowWritten x a b e) (front : a.at ≡ 0) where
  filled_at : e ≡ true → Filled x a.out.now 0 b.out.now b.at
  filled_at q = rw front at (row_at x a b e w q)

  pub full_none : e ≡ false → None ≡ full_of x
  unfolding full_of
  full_none q = rw (row_none x a b e w q)

  module _ (q : e ≡ true) where
    pub full_other : (b.at ≡ 16 → ⊥) → None ≡ full_of x
    unfolding full_of
    full_other h =
        let f = filled_at q in
        rw (f.reads, ne_eqb (length f.gs) 8 (λ k. h (omega (arith, f.wrote.next_place, length_pairs f.gs))))

    pub full_eight : b.at ≡ 16 → length a.out.now ≡ 16 → (o : List ℕ) → o ≡ b.out.now → (r : Option Address) → r ≡ from_octets o → r ≡ full_of x
    full_eight h l o g r p =
        let f = filled_at q in
        eight_read f.gs a.out.now b.out.now b.at f.wrote h l r (p ∙ ap from_octets g) ∙ ap full_of (sym f.reads)

-- `read_short`
module _ (x y : Reading) (a b : Writer) (e : Bool) (w : RowWritten x a b e) (front : a.at ≡ 0) where
  pub short_no_left : e ≡ false → None ≡ short_of x y
  unfolding short_of
  short_no_left q = rw (row_none x a b e w q)

  module _ (q : e ≡ true) (a' b' : Writer) (e' : Bool) (w' : RowWritten y a' b' e') (front' : a'.at ≡ 0) where
    pub short_no_right : e' ≡ false → None ≡ short_of x y
    unfolding short_of
    short_no_right k = let f = filled_at x a b e w front q in rw (f.reads, row_none y a' b' e' w' k)

    -- at most seven groups in all, or more
    module _ (q' : e' ≡ true) (t : Bool) (k : t ≡ leb (b.at + b'.at) 14) where
      pub short_over : t ≡ false → None ≡ short_of x y
      unfolding short_of
      short_over h =
          let f = filled_at x a b e w front q in
          let g = filled_at y a' b' e' w' front' q' in
          let over = leb-false (b.at + b'.at) 14 (sym k ∙ h) in
          rw (f.reads, g.reads, lt-leb (length f.gs + length g.gs) 7 (omega (arith, f.wrote.next_place, g.wrote.next_place, length_pairs f.gs, length_pairs g.gs)))

      pub short_filled : t ≡ true → a.out.now ≡ replicate 16 0 → length a'.out.now ≡ 16 → (o : List ℕ) → o ≡ b.out.now → (right : List ℕ) → right ≡ b'.out.now
          → (o₂ : List ℕ) (i : ℕ) → Wrote (take b'.at right) o (16 - b'.at) o₂ i → (all : List ℕ) → all ≡ o₂ → (r : Option Address) → r ≡ from_octets all → r ≡ short_of x y
      short_filled h zeros size o u right u' o₂ i v all l r p =
          let f = filled_at x a b e w front q in
          let g = filled_at y a' b' e' w' front' q' in
          filled_read f.gs g.gs a.out.now b.out.now b.at f.wrote a'.out.now b'.out.now b'.at g.wrote (leb-true (b.at + b'.at) 14 (sym k ∙ h)) zeros size o₂ i (rw (u, u') at v) r
          (p ∙ ap from_octets l)
          ∙ ap (λ (t : Reading). short_of t (groups g.gs)) (sym f.reads) ∙ ap (short_of x) (sym g.reads)
