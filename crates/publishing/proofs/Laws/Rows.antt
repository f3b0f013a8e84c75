-- Networks are the same exactly if their rows are (`network_same`), and so are those before a term (`rows_same`). From address's
-- `clearing_rule`: addresses match at a length within the width exactly if they are equal after clearing the bits below it.
use Prim.Native.Nat.{ℕ, ◌≤◌}
use mathlib.Core.Path.{◌≡◌, refl, sym, ap, ◌∙◌}
use mathlib.Core.Logic.{⊎_elim, ◌↔◌}
use mathlib.Core.List.{List, [], ◌∷◌}
use native.Mathlib.Omega.{arith}
use lib.ListN.{length}
use Rattle.address.specs.declared.Address.{Address}
use Rattle.address.specs.declared.Address.TheVariants.{IPv4, IPv6}
use Rattle.address.specs.Octets.{octets}
use Rattle.address.specs.Matching.{bits, Matches}
use Rattle.address.specs.Clearing.{cleared}
use Rattle.address.proofs.Laws.AddressOctets.{length_four, length_sixteen}
use Rattle.address.proofs.Laws.Clearing.{clearing_rule}
use Rattle.records.specs.Readings.{absent, present, Said, Placed}
use Rattle.duplicates.specs.declared.Row.{Row}
use Rattle.publishing.specs.House.{Some, here, later, SameNetwork}
use Rattle.publishing.specs.Rows.{words_of, row_of, rows_of, network_rows}
use Rattle.publishing.proofs.Laws.Listings.{some_first, nobody}
use Rattle.publishing.proofs.Laws.Networks.{Sized, Network, FitsSaid, Fits, width_four, network_row, other_rows}

-- the same row: the same length and cleared address, since a number below 256 is IPv4's
row_parts : (a b : Address) (n m : ℕ) → n ≤ length (bits (octets a)) → m ≤ length (bits (octets b)) → row_of b m ≡ row_of a n
    → (m ≡ n) × (cleared a n ≡ cleared b n)
unfolding row_of words_of cleared
row_parts (IPv4 v) (IPv4 w) n m h k e =
    let size = ap (λ (r : Row). r.kind) e in
    let high = ap (λ (r : Row). r.high) e in
    (size, cc)
row_parts (IPv6 i l) (IPv6 j o) n m h k e =
    let size : m ≡ n = omega (arith, ap (λ (r : Row). r.kind) e) in
    let high = ap (λ (r : Row). r.high) e in
    let low = ap (λ (r : Row). r.low) e in
    (size, cc)
row_parts (IPv4 v) (IPv6 j o) n m h k e = absurd (omega (arith, ap (λ (r : Row). r.kind) e, width_four v))
row_parts (IPv6 i l) (IPv4 w) n m h k e = absurd (omega (arith, ap (λ (r : Row). r.kind) e, width_four w))

parts_row : (a b : Address) (n m : ℕ) → m ≡ n → cleared a n ≡ cleared b n → row_of b m ≡ row_of a n
unfolding row_of
parts_row a b n m e f = cc

-- a network's only length
sized_four : (a : Address) (n k : ℕ) (x : Said) → Sized a n x → x.four ≡ present k → k ≡ n
sized_four (IPv4 v) n k x s e = let f = s.0 in cc
sized_four (IPv6 h l) n k x s e = let f = s.0 in let z : ◌≡◌ {A = ℕ} 0 1 = cc in absurd (omega arith)

sized_six : (a : Address) (n k : ℕ) (x : Said) → Sized a n x → x.six ≡ present k → k ≡ n
sized_six (IPv4 v) n k x s e = let f = s.1 in let z : ◌≡◌ {A = ℕ} 0 1 = cc in absurd (omega arith)
sized_six (IPv6 h l) n k x s e = let f = s.1 in cc

-- the same network: one length, at which the addresses match
module _ (t u : Placed) where
  module _ (k : Network t.said) (l : Network u.said) where
    abbrev Agree : Type 0
    Agree = (l.n ≡ k.n) × Matches k.a l.a k.n

    agree : (a b : Address) (n : ℕ) → t.said.address ≡ present a → u.said.address ≡ present b → n ≡ k.n → n ≡ l.n → Matches a b n → Agree
    agree a b n e f g h m =
        let p = k.is in
        let q = l.is in
        let first : a ≡ k.a = cc in
        let second : b ≡ l.a = cc in
        (sym h ∙ g, rw (← first, ← second, ← g) m)

    same_parts : SameNetwork t u → Agree
    same_parts (SameNetwork.four {a = a} {b = b} {n = n} e f g i m) =
        agree a b n e f (sized_four k.a k.n n t.said k.sized g) (sized_four l.a l.n n u.said l.sized i) m
    same_parts (SameNetwork.six {a = a} {b = b} {n = n} e f g i m) =
        agree a b n e f (sized_six k.a k.n n t.said k.sized g) (sized_six l.a l.n n u.said l.sized i) m

  same_by_lem : (a b : Address) (n m : ℕ) → t.said.address ≡ present a → u.said.address ≡ present b → Sized a n t.said → Sized b m u.said
      → m ≡ n → Matches a b n → SameNetwork t u
  same_by_lem (IPv4 v) (IPv4 w) n m e f s r q i = SameNetwork.four e f s.0 (r.0 ∙ ap present q) i
  same_by_lem (IPv6 g l) (IPv6 h o) n m e f s r q i = SameNetwork.six e f s.1 (r.1 ∙ ap present q) i
  same_by_lem (IPv4 v) (IPv6 h o) n m e f s r q i = absurd (omega (arith, i.family, length_four v, length_sixteen h o))
  same_by_lem (IPv6 g l) (IPv4 w) n m e f s r q i = absurd (omega (arith, i.family, length_four w, length_sixteen g l))

  network_same : (k : Network t.said) (l : Network u.said) → (row_of l.a l.n ≡ row_of k.a k.n) ↔ SameNetwork t u
  network_same k l =
      let rule = clearing_rule.rule k.a l.a k.n k.range l.range k.within in (
        (λ e.
            let p = row_parts k.a l.a k.n l.n k.within l.within e in
            same_by_lem k.a l.a k.n l.n k.is l.is k.sized l.sized p.0 (rule.1 p.1)),
        (λ s. let p = same_parts k l s in parts_row k.a l.a k.n l.n p.0 (rule.0 p.1)),
      )

first_of : {r q : Row} {rs qs : List Row} → r ∷ rs ≡ q ∷ qs → r ≡ q
first_of e = cc

nothing_first : {r : Row} {rs : List Row} → ◌≡◌ {A = List Row} [] (r ∷ rs) → ⊥
nothing_first e = let z : ◌≡◌ {A = ℕ} 0 1 = cc in omega arith

-- networks that are the same have addresses
some_address : {t u : Placed} → SameNetwork t u → u.said.address ≡ absent → ⊥
some_address (SameNetwork.four e f g i m) a = let z : ◌≡◌ {A = ℕ} 0 1 = cc in omega arith
some_address (SameNetwork.six e f g i m) a = let z : ◌≡◌ {A = ℕ} 0 1 = cc in omega arith

-- all terms of a list fit
pub data AllFit : List Placed → Type 0 where
  none : AllFit []
  more : {t : Placed} {ts : List Placed} → Fits t → AllFit ts → AllFit (t ∷ ts)

-- over lists
module _ (t : Placed) (r : Row) (k : Network t.said) (e : row_of k.a k.n ≡ r) where
  abbrev IsRow : Row → Type 0
  IsRow q = q ≡ r

  rows_networks : {ts : List Placed} → AllFit ts → Some IsRow (network_rows ts) → Some (SameNetwork t) ts
  unfolding network_rows
  rows_networks AllFit.none s = absurd (nobody IsRow s refl)
  rows_networks (AllFit.more {t = u} (FitsSaid.network l) fs) s =
      ⊎_elim (λ (h : IsRow (row_of l.a l.n)). here ((network_same t u k l).0 (h ∙ sym e))) (λ h. later (rows_networks fs h))
      (some_first IsRow (rw (network_row u l) at s))
  rows_networks (AllFit.more {t = u} (FitsSaid.other a) fs) s = later (rows_networks fs (rw (other_rows u a) at s))

  networks_rows : {ts : List Placed} → AllFit ts → Some (SameNetwork t) ts → Some IsRow (network_rows ts)
  unfolding network_rows
  networks_rows AllFit.none s = absurd (nobody (SameNetwork t) s refl)
  networks_rows (AllFit.more {t = u} (FitsSaid.network l) fs) (here h) = rw (network_row u l) (here ((network_same t u k l).1 h ∙ e))
  networks_rows (AllFit.more {t = u} (FitsSaid.network l) fs) (later h) = rw (network_row u l) (later (networks_rows fs h))
  networks_rows (AllFit.more {t = u} (FitsSaid.other a) fs) (here h) = absurd (some_address h a)
  networks_rows (AllFit.more {t = u} (FitsSaid.other a) fs) (later h) = rw (other_rows u a) (networks_rows fs h)

pub rows_same : (before : List Placed) (t : Placed) (r : Row) → AllFit before → Fits t → rows_of t ≡ r ∷ []
    → Some (λ (q : Row). q ≡ r) (network_rows before) ↔ Some (SameNetwork t) before
rows_same before t r fs (FitsSaid.network k) e =
    let f = first_of (sym (network_row t k) ∙ e) in (rows_networks t r k f fs, networks_rows t r k f fs)
rows_same before t r fs (FitsSaid.other a) e = absurd (nothing_first (sym (other_rows t a) ∙ e))
