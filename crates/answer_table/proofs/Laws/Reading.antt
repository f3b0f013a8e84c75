-- The reader's steps as the code makes them: one rule for each way out of a function of src/items.rt and src/entries.rt. A part `&s[i..]`
-- stands as `take (length s - i) (drop i s)`.
use Rattle.std.proofs.Common.{None, Some}
use Prim.Native.Nat.{ℕ, ◌+◌, ◌-◌, ◌*◌, ◌≤◌, ◌<◌}
use mathlib.Core.Path.{◌≡◌, ap, ◌∙◌}
use mathlib.Core.List.{List, [], ◌∷◌}
use mathlib.Core.Bool.{Bool, true, false, cond}
use native.Mathlib.Omega.{arith}
use native.Mathlib.Nat.{add-sub_cancel_left}
use lib.Dec.{ltb}
use lib.ListN.{length, take, drop, drop_of_length-le}
use borrow.Author.Tests.{lt-ltb, le-ltb}
use Rattle.text.specs.Bytes.{at, part}
use Rattle.text.proofs.Laws.Spans.{rest_part}
use Rattle.answer_table.specs.Layout.{is_item, lifetime_bytes, header_size}
use Rattle.answer_table.specs.Reader.{number, first_item, other_items, items_of, items_fit, header_of, lifetime_at}
use Rattle.answer_table.specs.declared.Layout.{Layout}
use Rattle.answer_table.specs.declared.Layout.TheVariants.{New}
use Rattle.answer_table.proofs.Laws.Items.{of_more, of_none, fit_of, fit_empty}

-- `item`
item_whole : (s : List ℕ) (i m : ℕ) → m ≡ number (take (length s - i) (drop i s))
    → take (2 + m - 2) (drop 2 (take (length s - i) (drop i s))) ≡ first_item (drop i s)
unfolding first_item
item_whole s i m e = simp (add-sub_cancel_left, e, rest_part)

pub item_read : (s : List ℕ) (i : ℕ) (rest : List ℕ) → rest ≡ part s i (length s) → (m : ℕ) → m ≡ number rest → (r : List ℕ) → r ≡ part rest 2 (2 + m)
    → r ≡ first_item (drop i s)
item_read s i rest p m e r q = q ∙ rw p (item_whole s i m (rw p at e))

-- `Items::next`
pub left_none : (s : List ℕ) → length s ≡ 0 → items_of s ≡ []
left_none s h = ap items_of (drop_of_length-le s {i = 0} (omega arith)) ∙ of_none

pub left_some : (s : List ℕ) → (length s ≡ 0 → ⊥) → (m : ℕ) → m ≡ number s → (rest : List ℕ) → rest ≡ part s (2 + m) (length s)
    → (d : List ℕ) → d ≡ part s 2 (2 + m) → items_of s ≡ d ∷ items_of rest
unfolding first_item other_items
left_some s h m e rest p d q = rw (p, q, rest_part, e, add-sub_cancel_left) (of_more s (omega (arith, h)))

-- `items_fit`: what is left, of what was given
module _ (kind : ℕ) (s : List ℕ) where
  pub fit_none : length s ≡ 0 → items_fit kind s ≡ true
  fit_none h = ap (items_fit kind) (drop_of_length-le s {i = 0} (omega arith)) ∙ fit_empty kind

  module _ (h : length s ≡ 0 → ⊥) (m : ℕ) (e : m ≡ number s) where
    pub fit_short : length s < 2 + m → items_fit kind s ≡ false
    fit_short k = fit_of kind s (omega (arith, h)) ∙ simp (lt-ltb (length s) (2 + number s) (rw e at k))

    module _ (k : 2 + m ≤ length s) (t : Bool) (g : t ≡ is_item kind (take (2 + m - 2) (drop 2 s))) where
      its_test : items_fit kind s ≡ cond t (items_fit kind (drop (2 + m) s)) false
      unfolding first_item other_items
      its_test =
          fit_of kind s (omega (arith, h))
          ∙ simp (le-ltb (length s) (2 + number s) (rw e at k), g, e, add-sub_cancel_left)

      pub fit_other : t ≡ false → items_fit kind s ≡ false
      fit_other q = its_test ∙ rw q

      pub fit_next : t ≡ true → items_fit kind s ≡ items_fit kind (drop (2 + m) s)
      fit_next q = its_test ∙ rw q

-- `read_header`
module _ (lay : Layout) (s : List ℕ) (head : ℕ) (g : head ≡ header_size lay) where
  pub header_cut : length s < head → None ≡ header_of lay s
  unfolding header_of
  header_cut h = simp (lt-ltb (length s) (header_size lay) (rw g at h))

  module _ (h : head ≤ length s) (m : ℕ) (e : m ≡ number s) where
    headed : ltb (length s) (header_size lay) ≡ false
    headed = le-ltb (length s) (header_size lay) (rw g at h)

    pub header_short : length s < 2 + m → None ≡ header_of lay s
    unfolding header_of
    header_short k = simp (headed, lt-ltb (length s) (2 + number s) (rw e at k))

    module _ (k : 2 + m ≤ length s) where
      within : ltb (length s) (2 + number s) ≡ false
      within = le-ltb (length s) (2 + number s) (rw e at k)

      -- the name's length stands last in the header
      last : head - 1 ≡ 5 + lifetime_bytes lay
      last = omega (arith, g)

      pub header_name : 2 + m < head + at s (head - 1) → None ≡ header_of lay s
      unfolding header_of
      header_name l = simp (headed, within, lt-ltb (2 + number s) (header_size lay + at s (5 + lifetime_bytes lay)) (rw (last, e, g) at l))

      pub header_whole : head + at s (head - 1) ≤ 2 + m → (kind : ℕ) → kind ≡ number (take (length s - 2) (drop 2 s))
          → Some (record { kind = kind; status = at s 4; name = at s (head - 1); size = 2 + m }) ≡ header_of lay s
      unfolding header_of
      header_whole l kind f =
          simp (headed, within, le-ltb (2 + number s) (header_size lay + at s (5 + lifetime_bytes lay)) (rw (last, e, g) at l), last, e, f, rest_part)

-- `lifetime`: two numbers of two bytes
pub life_seconds : (lay : Layout) (s : List ℕ) → lay ≡ New → (u v : List ℕ) → u ≡ part s 5 (length s) → v ≡ part s 7 (length s) → (a b : ℕ)
    → a ≡ number u → b ≡ number v → a + 65536 * b ≡ lifetime_at lay s
unfolding lifetime_at
life_seconds lay s e u v p q a b f g = rw (e, f, g, p, q, rest_part s 5, rest_part s 7)
