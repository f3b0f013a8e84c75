-- IPv6 networks: the reader is sound and complete for the production, so that a text writes one address. From the laws of Rows and Colons.
use Rattle.std.proofs.Common.{None, Option, Some}
use Prim.Native.Nat.{ℕ, ◌+◌, ◌-◌, ◌≤◌, ◌<◌}
use mathlib.Core.Path.{◌≡◌, sym, subst, ◌∙◌}
use mathlib.Core.List.{List, [], ◌∷◌, ◌++◌, append-nil}
use mathlib.Core.Bool.{Bool, true, false}
use native.Mathlib.Omega.{arith}
use lib.ListN.{length, take, drop, length-append}
use lib.Seq.{take-append_seam, drop-append-add}
use lib.Dec.{eqb, ltb, leb}
use borrow.Author.Tests.{eq-eqb, eqb-true, leb-true, ltb-true, lt-ltb, le-ltb, le-leb}
use Rattle.text.proofs.Laws.Tests.{cond-elim}
use Rattle.text.proofs.Laws.Spans.{rest_part}
use Rattle.address.specs.declared.Address.{Address}
use Rattle.networks.specs.Grammar.{Side, Ip6Network, full, short, Network6, of_groups, address_of}
use Rattle.networks.specs.Answers.{NetworkAnswer}
use Rattle.networks.specs.Reader6.{double_colon, Reading, groups, refused, read_row, read_side, full_of, short_of, read_ip6}
use Rattle.networks.proofs.Laws.Readings.{network_answer}
use Rattle.networks.proofs.Laws.Colons.{double_splits, double_at, double_empty}
use Rattle.networks.proofs.Laws.Rows.{RowRight, SideRight, row_right, side_right, row_complete, side_complete, row_double}

-- what was read as an address is written so
abbrev Ip6Right : List ℕ → Option Address → Type 0
Ip6Right s (Some a) = Network6 s a
Ip6Right s None = Unit {0}

full_right : (s : List ℕ) (x : Reading) → RowRight true s x → Ip6Right s (full_of x)
unfolding full_of
full_right s (groups gs) r =
    cond-elim (Ip6Right s) (eqb (length gs) 8) (λ e. of_groups (full r (eqb-true (length gs) 8 e))) (λ _. tt)
full_right s refused r = tt

short_right : (u w : List ℕ) (x y : Reading) → SideRight false u x → SideRight true w y → Ip6Right (u ++ (58 ∷ 58 ∷ w)) (short_of x y)
unfolding short_of
short_right u w (groups ls) (groups rs) b a =
    cond-elim (Ip6Right (u ++ (58 ∷ 58 ∷ w))) (leb (length ls + length rs) 7)
    (λ e. of_groups (short {u = u} {w = w} {ls = ls} {rs = rs} b a (leb-true (length ls + length rs) 7 e))) (λ _. tt)
short_right u w (groups ls) refused b a = tt
short_right u w refused y b a = tt

ip6_right : (s : List ℕ) → Ip6Right s (read_ip6 s)
unfolding read_ip6
ip6_right s =
    cond-elim (Ip6Right s) (ltb (double_colon s) (length s)) {x = short_of (read_side false (take (double_colon s) s)) (read_side true (drop (double_colon s + 2) s))} {y = full_of (read_row true s)}
    (λ h.
    let u = take (double_colon s) s in
    let w = drop (double_colon s + 2) s in
    subst (λ (t : List ℕ). Ip6Right t (short_of (read_side false u) (read_side true w))) (sym (double_splits s (ltb-true _ _ h)))
    (short_right u w (read_side false u) (read_side true w) (side_right false u) (side_right true w)))
    (λ _. full_right s (read_row true s) (row_right true s))

pub ip6_sound : (s : List ℕ) (a : Address) → read_ip6 s ≡ Some a → Network6 s a
ip6_sound s a e = subst (Ip6Right s) e (ip6_right s)

-- what the production makes is read
side_double : {tails : Bool} {u ls : List ℕ} → Side tails u ls → (t : List ℕ) → double_colon (u ++ (58 ∷ 58 ∷ t)) ≡ length u
side_double Side.nothing t = double_at t
side_double (Side.row r) t = (row_double r (58 ∷ 58 ∷ t) (double_at t)).place

pub groups_read : {w gs : List ℕ} → Ip6Network w gs → read_ip6 w ≡ Some (address_of gs)
unfolding read_ip6 full_of short_of
groups_read (full {w = w} {gs = gs} r e) =
    let d : double_colon w ≡ length w = rw append-nil at (row_double r [] double_empty).place in
    rw (le-ltb (double_colon w) (length w) (omega arith), row_complete r, eq-eqb (length gs) 8 e)
groups_read (short {u = u} {w = w} {ls = ls} {rs = rs} b a h) =
    let s = u ++ (58 ∷ 58 ∷ w) in
    let d = side_double b w in
    let inside : length u < length s = simp length-append (omega arith) in
    let left : take (length u) s ≡ u = take-append_seam u (58 ∷ 58 ∷ w) in
    let right : drop (length u + 2) s ≡ w = drop-append-add u (58 ∷ 58 ∷ w) 2 in
    rw (d, lt-ltb (length u) (length s) inside, left, right, side_complete b, side_complete a, le-leb (length ls + length rs) 7 h)

pub ip6_complete : (s : List ℕ) (a : Address) → Network6 s a → read_ip6 s ≡ Some a
ip6_complete s a (of_groups n) = groups_read n

-- a text writes one address, which tells a reader that the production isn't ambiguous
pub ip6_one : (s : List ℕ) (a b : Address) → Network6 s a → Network6 s b → a ≡ b
ip6_one s a b p q = let f = ip6_complete s a p in let g = ip6_complete s b q in cc

-- the answer of `read_ip6`
pub ip6_answer : (s : List ℕ) (r : Option Address) → r ≡ read_ip6 s → (r ≡ read_ip6 s) × NetworkAnswer (Network6 s) r
ip6_answer s r e = (e, subst (NetworkAnswer (Network6 s)) (sym e) (network_answer (Network6 s) (read_ip6 s) (ip6_sound s) (ip6_complete s)))

-- its ways out
module _ (s : List ℕ) (k : ℕ) (p : k ≡ double_colon s) (r : Option Address) where
  pub ip6_short : k < length s → r ≡ short_of (read_side false (take k s)) (read_side true (take (length s - (k + 2)) (drop (k + 2) s)))
      → r ≡ read_ip6 s
  unfolding read_ip6
  ip6_short h e = e ∙ rw (rest_part s (k + 2), ← p, lt-ltb k (length s) h)

  pub ip6_full : length s ≤ k → r ≡ full_of (read_row true s) → r ≡ read_ip6 s
  unfolding read_ip6
  ip6_full h e = e ∙ rw (← p, le-ltb k (length s) h)
