-- The table of a record's networks: marks of its rows are marks of the networks (`marks_marked`), and rows are written one after the other. From the laws
-- of Rows.
use Prim.Native.Nat.{ℕ, zero, suc, ◌+◌, ◌≤◌, ◌<◌}
use mathlib.Core.Path.{◌≡◌, refl, sym, subst, ◌∙◌}
use mathlib.Core.Logic.{◌↔◌}
use mathlib.Core.Bool.{Bool, true, false}
use mathlib.Core.List.{List, [], ◌∷◌, ◌++◌, append_assoc, append-nil}
use native.Mathlib.Omega.{arith}
use lib.Dec.{ltb}
use lib.ListN.{length, get_or, take, set, length-append, length-set, get_or-append}
use lib.Seq.{get_or-take, get_or-append_seam, get_or-set_same, get_or-set_other, length-take-le}
use borrow.Author.Tests.{ltb-true, ltb-false}
use Rattle.address.specs.declared.Address.{Address}
use Rattle.address.specs.declared.Address.TheVariants.{IPv4, IPv6}
use Rattle.address.specs.Clearing.{cleared}
use Rattle.text.specs.Bytes.{at}
use Rattle.records.specs.Readings.{Placed}
use Rattle.records.specs.declared.Term.{Term}
use Rattle.duplicates.specs.declared.Row.{Row}
use Rattle.duplicates.specs.Rows.{no_row, row_at, Repeated, Marks, most_rows}
use Rattle.publishing.specs.House.{Some, here, later, Among, SameNetwork}
use Rattle.publishing.specs.Rows.{words_of, row_of, rows_of, network_rows, term_rows, Holds, PutsRow}
use Rattle.publishing.proofs.Laws.Networks.{Fits, one_row}
use Rattle.publishing.proofs.Laws.Rows.{AllFit, rows_same}

-- lists of terms, joined
pub network_rows_lem : (ts us : List Placed) → network_rows (ts ++ us) ≡ network_rows ts ++ network_rows us
unfolding network_rows
network_rows_lem [] us = refl
network_rows_lem (t ∷ ts) us = rw (network_rows_lem ts us, append_assoc)

pub fit_before : (before : List Placed) (t : Placed) (after : List Placed) → AllFit (before ++ (t ∷ after)) → AllFit before × Fits t
fit_before [] t after (AllFit.more f fs) = (AllFit.none, f)
fit_before (u ∷ us) t after (AllFit.more f fs) = let r = fit_before us t after fs in (AllFit.more f r.0, r.1)

-- a row of a list is one at a place
record Place (xs : List Row) (r : Row) : Type 0 where
  place : ℕ
  inside : place < length xs
  there : get_or xs place no_row ≡ r

some_place : {r : Row} {xs : List Row} → Some (λ (q : Row). q ≡ r) xs → Place xs r
some_place (here e) = record { place = 0; inside = omega arith; there = e }
some_place (later s) = let p = some_place s in record { place = suc p.place; inside = omega (arith, p.inside); there = p.there }

place_some : (xs : List Row) (r : Row) (i : ℕ) → i < length xs → get_or xs i no_row ≡ r → Some (λ (q : Row). q ≡ r) xs
place_some [] r i h e = absurd (omega arith)
place_some (x ∷ xs) r zero h e = here e
place_some (x ∷ xs) r (suc i) h e = later (place_some xs r i (omega arith) e)

-- a row after others is repeated exactly if one of them is the same
module _ (table xs ys : List Row) (r : Row) (holds : Holds table (xs ++ (r ∷ ys))) where
  reach : length xs < length (xs ++ (r ∷ ys))
  reach = rw length-append (omega arith)

  row_is : row_at table (length xs) ≡ r
  row_is = holds.each (length xs) reach ∙ get_or-append_seam xs r ys no_row

  earlier_is : (i : ℕ) → i < length xs → row_at table i ≡ row_at xs i
  earlier_is i h = holds.each i (omega (arith, reach)) ∙ get_or-append xs (r ∷ ys) no_row i h

  repeated : Repeated table (length xs) ↔ Some (λ (q : Row). q ≡ r) xs
  repeated = (
    (λ p. place_some xs r p.earlier p.before (sym (earlier_is p.earlier p.before) ∙ p.same ∙ row_is)),
    (λ s.
        let p = some_place s in
        record { earlier = p.place; before = p.inside; same = earlier_is p.place p.inside ∙ p.there ∙ sym row_is }),
  )

-- the rows that a table holds, at its front
holds_front : (table rows : List Row) → Holds table rows → Holds (take (length rows) table) rows
holds_front table rows h = record { each = λ i k. get_or-take (length rows) table i no_row k ∙ h.each i k }

-- marks of the rows are marks of the networks
pub marks_marked : (ts : List Placed) (table : List Row) (marks : List ℕ) → Holds table (network_rows ts) → length (network_rows ts) ≤ length table → AllFit ts
    → Marks (take (length (network_rows ts)) table) marks
    → (before : List Placed) (t : Placed) → Among ts before t → 0 < length (rows_of t)
    → (at marks (length (network_rows before)) ≡ 1) ↔ Some (SameNetwork t) before
unfolding network_rows
marks_marked ts table marks holds fits all marked before t among h =
    let f = fit_before before t among.after (rw among.split at all) in
    let o = one_row t f.1 h in
    let xs = network_rows before in
    let ys = network_rows among.after in
    let rows : network_rows ts ≡ xs ++ (o.row ∷ ys) = rw (among.split, network_rows_lem before (t ∷ among.after), o.only) in
    let front = take (length (network_rows ts)) table in
    let first : Holds front (xs ++ (o.row ∷ ys)) = subst (Holds front) rows (holds_front table (network_rows ts) holds) in
    let size : length front ≡ length (network_rows ts) = length-take-le (length (network_rows ts)) table fits in
    let there : length xs < length (network_rows ts) = rw (rows, length-append) (omega arith) in
    let m = marked.marked (length xs) (omega (arith, size, there)) in
    let p = repeated front xs ys o.row first in
    let s = rows_same before t o.row f.0 f.1 o.only in
    ((λ e. s.0 (p.0 (m.0 e))), (λ n. m.1 (p.1 (s.1 n))))

-- `row_of`: by family
module _ (a : Address) (n : ℕ) where
  pub row_four : (x : Address) → x ≡ cleared a n → (v : ℕ) → x ≡ IPv4 v → ◌≡◌ {A = Row} (record { kind = n; high = v; low = 0 }) (row_of a n)
  unfolding row_of words_of
  row_four x c v e = rw (← c, e)

  pub row_six : (x : Address) → x ≡ cleared a n → (high low : ℕ) → x ≡ IPv6 high low → ◌≡◌ {A = Row} (record { kind = 256 + n; high = high; low = low }) (row_of a n)
  unfolding row_of words_of
  row_six x c high low e = rw (← c, e)

-- `put_row`: a term that is no network; one row more; no room for it, which the promise leaves out
abbrev pub NoNetwork : Term → Type 0
NoNetwork t = (sign from to : ℕ) (a : Address) (n : ℕ) → t ≡ Term.Network sign from to a n → ⊥

no_rows : (t : Term) → NoNetwork t → term_rows t ≡ []
unfolding term_rows
no_rows (Term.Network sign from to a n) h = absurd (h sign from to a n refl)
no_rows (Term.All sign) h = refl
no_rows (Term.Include sign from to) h = refl
no_rows (Term.A sign from to n m) h = refl
no_rows (Term.Mx sign from to n m) h = refl
no_rows (Term.Ptr sign from to) h = refl
no_rows (Term.Exists sign from to) h = refl
no_rows (Term.Redirect from to) h = refl
no_rows (Term.Explanation from to) h = refl
no_rows (Term.Unknown name to) h = refl

holds_more : (rows table : List Row) (r : Row) → length rows < length table → Holds table rows → Holds (set table (length rows) r) (rows ++ (r ∷ []))
holds_more rows table r inside h = record { each = λ i b. by i (rw length-append at b) (ltb i (length rows)) refl }
  where
    by : (i : ℕ) → i < length rows + 1 → (b : Bool) → ltb i (length rows) ≡ b → row_at (set table (length rows) r) i ≡ row_at (rows ++ (r ∷ [])) i
    by i b true q =
        let l = ltb-true i (length rows) q in
        get_or-set_other table (length rows) i r no_row (λ e. omega arith) ∙ h.each i l ∙ sym (get_or-append rows (r ∷ []) no_row i l)
    by i b false q =
        let e : i ≡ length rows = omega (arith, ltb-false i (length rows) q) in
        rw e (get_or-set_same table (length rows) r no_row inside ∙ sym (get_or-append_seam rows r [] no_row))

module _ (t : Term) (n : ℕ) (before : List Row) where
  pub row_none : NoNetwork t → PutsRow t n before before
  row_none k = record { kept = refl; by = λ rows e l h. rw (no_rows t k, append-nil) h }

  module _ (sign from to : ℕ) (a : Address) (k : ℕ) (e : t ≡ Term.Network sign from to a k) where
    pub row_put : n < length before → (r : Row) → r ≡ row_of a k → PutsRow t n before (set before n r)
    unfolding term_rows
    row_put i r f = record { kept = length-set before n r; by = λ rows g l h. rw (e, ← f, g) (holds_more rows before r (omega arith) h) }

    pub row_past : most_rows ≤ n → PutsRow t n before before
    unfolding term_rows
    row_past p = record { kept = refl; by = λ rows g l h. absurd (omega (arith, rw (e, length-append) at l)) }
