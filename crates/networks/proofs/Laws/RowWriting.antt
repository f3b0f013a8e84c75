-- The octets of rows as the code writes them: the ways out of the functions that write. From the definitions of Reader6 and the laws of
-- splitting and writing.
use Rattle.std.proofs.Common.{None, Option, Some}
use Prim.Native.Nat.{ℕ, suc, ◌+◌, ◌-◌, ◌/◌, ◌%◌, ◌^◌, ◌≤◌, ◌<◌}
use mathlib.Core.Path.{◌≡◌, refl, sym, ◌∙◌}
use mathlib.Core.List.{List, [], ◌∷◌, ◌++◌}
use mathlib.Core.Bool.{Bool, true, false}
use native.Mathlib.Omega.{arith}
use native.Mathlib.Numerals.{add-one}
use lib.ListN.{length, take, drop}
use borrow.Author.Tests.{ne_eqb}
use Rattle.text.specs.Bytes.{is_colon}
use Rattle.text.specs.Lists.{split}
use Rattle.text.specs.Writing.{Wrote, Writes}
use Rattle.text.specs.declared.writing.Writer.{Writer}
use Rattle.text.proofs.Laws.Spans.{rest_part}
use Rattle.text.proofs.Laws.Splitting.{Some as Parts, some, split_some, split_none, split_first}
use Rattle.text.proofs.Laws.Writing.{wrote_none, wrote_then}
use Rattle.address.specs.declared.Address.{Address}
use Rattle.address.specs.declared.Address.TheVariants.{IPv4, IPv6}
use Rattle.networks.specs.Reader.{read_ip4}
use Rattle.networks.specs.Reader6.{first_colon, read_h16, Reading, tail_of, last_of, last_part, push, row_of, read_row, read_side, octet_pairs, RowWritten, written, none}
use Rattle.networks.proofs.Laws.GroupOctets.{pairs_append}

-- `put_h16`
pub pair_written : (g : ℕ) (a b c : Writer) → Writes ((g / 256) ∷ []) a b → Writes ((g % 256) ∷ []) b c → Writes (octet_pairs (g ∷ [])) a c
unfolding octet_pairs
pair_written g a b c v w = record {
  wrote = wrote_then a.out.now a.at ((g / 256) ∷ []) ((g % 256) ∷ []) b.out.now c.out.now b.at c.at v.wrote w.wrote;
  same = w.same ∙ v.same;
}

-- groups after groups
abbrev Pairs : List ℕ → Writer → Writer → Type 0
Pairs gs a b = Wrote (octet_pairs gs) a.out.now a.at b.out.now b.at

pairs_then : (xs ys : List ℕ) (a b c : Writer) → Pairs xs a b → Pairs ys b c → Pairs (xs ++ ys) a c
pairs_then xs ys a b c v w =
    rw (pairs_append xs ys) (wrote_then a.out.now a.at (octet_pairs xs) (octet_pairs ys) b.out.now c.out.now b.at c.at v w)

module _ (a : Writer) where
  -- `put_tail`
  module _ (w : List ℕ) (r : Option Address) (p : r ≡ read_ip4 w) where
    pub tail_none : r ≡ None → (b : Writer) → RowWritten (tail_of (read_ip4 w)) a b false
    unfolding tail_of
    tail_none q b = none (rw (sym p ∙ q))

    pub tail_six : (x : Address) → r ≡ Some x → (high low : ℕ) → x ≡ IPv6 high low → (b : Writer) → RowWritten (tail_of (read_ip4 w)) a b false
    unfolding tail_of
    tail_six x q high low e b = none (rw (sym p ∙ q, e))

    pub tail_four : (x : Address) → r ≡ Some x → (v : ℕ) → x ≡ IPv4 v → (b c : Writer) → Writes (octet_pairs ((v / 65536) ∷ [])) a b → Writes (octet_pairs ((v % 65536) ∷ [])) b c
        → RowWritten (tail_of (read_ip4 w)) a c true
    unfolding tail_of
    tail_four t q v e b c x y =
        written {gs = (v / 65536) ∷ (v % 65536) ∷ []} (rw (sym p ∙ q, e)) (pairs_then ((v / 65536) ∷ []) ((v % 65536) ∷ []) a b c x.wrote y.wrote)

  -- `put_last`
  module _ (tail : Bool) (w : List ℕ) (r : Option ℕ) (p : r ≡ read_h16 w) where
    pub last_group : (g : ℕ) → r ≡ Some g → (b : Writer) → Writes (octet_pairs (g ∷ [])) a b → RowWritten (last_part tail w) a b true
    unfolding last_part last_of
    last_group g q b x = written {gs = g ∷ []} (rw (sym p ∙ q)) x.wrote

    pub last_tail : r ≡ None → tail ≡ true → (b : Writer) (e : Bool) → RowWritten (tail_of (read_ip4 w)) a b e → RowWritten (last_part tail w) a b e
    unfolding last_part last_of
    last_tail q t b e x = rw (sym p ∙ q, t) x

    pub last_none : r ≡ None → tail ≡ false → (b : Writer) (e : Bool) → e ≡ tail → RowWritten (last_part tail w) a b e
    unfolding last_part last_of
    last_none q t b e f = rw (f, t) (none (rw (sym p ∙ q)))

-- a row with parts after its first
pub row_cons : (tail : Bool) (w : List ℕ) (ws : List (List ℕ)) → Parts ws → row_of tail (w ∷ ws) ≡ push (read_h16 w) (row_of tail ws)
unfolding row_of
row_cons tail w (x ∷ ws) some = refl
row_cons tail w [] x' = elim x' [ ]

push_written : (g : ℕ) (x : Reading) (a b c : Writer) (e : Bool) → Pairs (g ∷ []) a b → RowWritten x b c e → RowWritten (push (Some g) x) a c e
unfolding push
push_written g x a b c e v (written {gs = gs} q w) = written {gs = g ∷ gs} (rw q) (pairs_then (g ∷ []) gs a b c v w)
push_written g x a b c e v (none q) = none (rw q)

-- `put_row`
module _ (tail : Bool) (s : List ℕ) (a : Writer) (k : ℕ) (p : k ≡ first_colon s) where
  pub row_last : length s ≤ k → (b : Writer) (e : Bool) → RowWritten (last_part tail s) a b e → RowWritten (read_row tail s) a b e
  unfolding read_row first_colon row_of
  row_last h b e x = rw (split_none is_colon s (omega arith)) x

  module _ (h : k < length s) (r : Option ℕ) (q : r ≡ read_h16 (take k s)) where
    row_first : read_row tail s ≡ push r (read_row tail (drop (k + 1) s))
    unfolding read_row first_colon
    row_first = rw (split_first is_colon s (omega arith), ← p, add-one, q) (row_cons tail (take k s) (split is_colon (drop (suc k) s)) (split_some is_colon (drop (suc k) s)))

    pub row_bad : r ≡ None → (b : Writer) → RowWritten (read_row tail s) a b false
    unfolding push
    row_bad e b = none (row_first ∙ rw e)

    pub row_more : (g : ℕ) → r ≡ Some g → (b : Writer) → Writes (octet_pairs (g ∷ [])) a b
        → (c : Writer) (e : Bool) → RowWritten (read_row tail (take (length s - (k + 1)) (drop (k + 1) s))) b c e
        → RowWritten (read_row tail s) a c e
    row_more g t b v c e x = rw (row_first, t) (push_written g (read_row tail (drop (k + 1) s)) a b c e v.wrote (rw (rest_part s (k + 1)) at x))

-- `put_side`
module _ (tail : Bool) (s : List ℕ) (a : Writer) where
  pub side_none : length s ≡ 0 → a.at < 2 ^ 64 → length a.out.now < 2 ^ 64 → RowWritten (read_side tail s) a a true
  unfolding read_side octet_pairs
  side_none h k l = written {gs = []} (simp h) (wrote_none a.out.now a.at (omega arith) (omega arith))

  pub side_row : (length s ≡ 0 → ⊥) → (b : Writer) (e : Bool) → RowWritten (read_row tail s) a b e → RowWritten (read_side tail s) a b e
  unfolding read_side
  side_row h b e x = rw (ne_eqb (length s) 0 h) x
