-- One rule for each way out of `find`, `find_in`, `found_items`, `step_at`, `check_entries` and `check_table_in`: its premises are what the code knows
-- there. From the definitions of the reader, header_facts (Encoding), `finds`, `table_answers` and what the marks say (Covering).
use Rattle.std.proofs.Common.{is_some, None, Option, Some, Result, Ok, Err, Bor}
use Rattle.std.specs.Option.{unwrap_or}
use Rattle.std.specs.Slice.{IsGetRangeResult}
use Prim.Native.Nat.{ℕ, zero, suc, ◌+◌, ◌-◌, ◌*◌, ◌^◌, ◌≤◌, ◌<◌}
use mathlib.Core.Path.{◌≡◌, refl, sym, ap, ◌∙◌}
use mathlib.Core.List.{List, []}
use mathlib.Core.Logic.{◌⊎◌, inl, inr}
use mathlib.Core.Bool.{Bool, true, false, cond, ◌&&◌, and-false}
use native.Mathlib.Omega.{arith}
use native.Mathlib.Nat.{add-sub_cancel_left}
use lib.ListN.{length, take, drop, length-drop, drop_of_length-le}
use lib.Dec.{eqb}
use mir.Syntax.{w64}
use mir.Val.{Fits}
use borrow.Author.Tests.{le-leb, lt-leb, le-ltb, lt-ltb}
use Rattle.text.specs.Lists.{same}
use Rattle.text.proofs.Laws.Spans.{rest_part}
use Rattle.answer_table.specs.Layout.{header_size}
use Rattle.answer_table.specs.Numbers.{reported}
use Rattle.answer_table.specs.Answers.{TableAnswersIn}
use Rattle.answer_table.specs.Lookup.{lookup, Finds}
use Rattle.answer_table.specs.Marks.{NotesPair, Covered}
use Rattle.answer_table.specs.Reader.{header_of, lifetime_at, is_entry, is_well, name_of, item_bytes, entry_of, entries_in, found_of, find_after, find_from, find_in, found_items, step_after, step_at, check_from, check_in}
use Rattle.answer_table.specs.declared.Layout.{Layout}
use Rattle.answer_table.specs.declared.entries.Header.{Header}
use Rattle.answer_table.specs.declared.Found.{Found}
use Rattle.answer_table.specs.declared.marks.Marks.{Marks}
use Rattle.answer_table.specs.declared.TableError.{TableError}
use Rattle.answer_table.specs.declared.TableError.TheVariants.{TooLong, Malformed, Repeated}
use Rattle.answer_table.proofs.Laws.Encoding.{header_none, header_facts, well_sound}
use Rattle.answer_table.proofs.Laws.Finding.{finds}
use Rattle.answer_table.proofs.Laws.Checks.{table_answers, check_end, check_full, check_next, check_bad, step_next}
use Rattle.answer_table.proofs.Laws.Covering.{covered_new, covered_next}

-- `find`: what it answers is what looking up says
pub find_right : (lay : Layout) (t : List ℕ) (kind : ℕ) (name : List ℕ) (r : Option Found) → r ≡ find_in lay t kind name
    → Finds t (lookup kind name (entries_in lay t)) r
find_right lay t kind name r e = rw e (finds lay t kind name)

-- no entry begins past the end
header_past : (lay : Layout) (t : List ℕ) (i : ℕ) → length t ≤ i → header_of lay (drop i t) ≡ None
header_past lay t i h = rw (drop_of_length-le t h) (header_none lay)

-- the parts of an entry with a whole header, as the code takes them from what stands from its place on
module _ (lay : Layout) (t : List ℕ) (i : ℕ) (x : Option Header) (p : x ≡ header_of lay (take (length t - i) (drop i t))) where
  header_is : header_of lay (drop i t) ≡ x
  header_is = sym (p ∙ ap (header_of lay) (rest_part t i))

  module _ (h : Header) (q : x ≡ Some h) where
    within : (header_size lay + h.name ≤ h.size) × (h.size ≤ length (drop i t))
    within = header_facts lay (drop i t) h (header_is ∙ q)

    size_inside : i + h.size ≤ length t
    size_inside = omega (arith, within.0, within.1, length-drop i t)

    -- a slice's length, as code knows it
    pub size_fits : length t * 1 < 2 ^ 63 → Fits w64 (i + h.size)
    size_fits l = record { fits = omega (arith, size_inside) }

    pub size_within : h.size ≤ length (take (length t - i) (drop i t))
    size_within = rw (rest_part t i) within.1

    module _ (head : ℕ) (g : head ≡ header_size lay) where
      pub name_before : head + h.name ≤ h.size
      name_before = rw g within.0

      pub name_within : head + h.name ≤ length (take (length t - i) (drop i t))
      name_within = omega (arith, name_before, size_within)

      -- its name and its items' bytes
      abbrev own : List ℕ
      own = take (head + h.name - head) (drop head (take (length t - i) (drop i t)))

      own_name : own ≡ name_of lay (drop i t) h
      unfolding name_of
      own_name = rw (g, rest_part t i, add-sub_cancel_left (header_size lay) h.name)

      abbrev own_bytes : List ℕ
      own_bytes = take (h.size - (head + h.name)) (drop (head + h.name) (take (length t - i) (drop i t)))

      own_items : own_bytes ≡ item_bytes lay (drop i t) h
      unfolding item_bytes
      own_items = rw (g, rest_part t i)

-- the search of `find_in` from a place, with turns enough
pub record Search (lay : Layout) (t : List ℕ) (kind : ℕ) (name : List ℕ) (i : ℕ) : Type 0 where
  pub turns : ℕ
  pub enough : length t ≤ turns + i
  pub rest : find_from lay turns t kind name i ≡ find_in lay t kind name

pub find_start : (lay : Layout) (t : List ℕ) (kind : ℕ) (name : List ℕ) → Search lay t kind name 0
unfolding find_in
find_start lay t kind name = record { turns = length t; enough = omega arith; rest = refl }

module _ (lay : Layout) (t : List ℕ) (kind : ℕ) (name : List ℕ) (i : ℕ) (s : Search lay t kind name i) where
  none_at : header_of lay (drop i t) ≡ None → None ≡ find_in lay t kind name
  unfolding find_from find_after
  none_at e = sym (sym s.rest ∙ by s.turns)
    where
      by : (f : ℕ) → find_from lay f t kind name i ≡ None
      by zero = refl
      by (suc f) = ap (λ (x : Option Header). find_after lay t kind name i x (find_from lay f t kind name)) e

  pub find_out : length t ≤ i → None ≡ find_in lay t kind name
  find_out h = none_at (header_past lay t i h)

  module _ (here : i < length t) (x : Option Header) (p : x ≡ header_of lay (take (length t - i) (drop i t))) where
    pub find_broken : x ≡ None → None ≡ find_in lay t kind name
    find_broken e = none_at (header_is lay t i x p ∙ e)

    module _ (h : Header) (q : x ≡ Some h) where
      pub find_less : length t - (i + h.size) < length t - i
      find_less = omega (arith, (within lay t i x p h q).0, size_inside lay t i x p h q)

      module _ (head : ℕ) (g : head ≡ header_size lay) (m : Bool) (e : m ≡ (eqb h.kind kind && same (own lay t i x p h q head g) name)) where
        abbrev it : Option Found
        it = Some (found_of lay t i h)

        turn : (f : ℕ) → find_from lay (suc f) t kind name i ≡ cond m it (find_from lay f t kind name (i + h.size))
        unfolding find_from find_after
        turn f =
            ap (λ (x : Option Header). find_after lay t kind name i x (find_from lay f t kind name)) (header_is lay t i x p ∙ q)
            ∙ ap (λ (b : Bool). cond b it (find_from lay f t kind name (i + h.size)))
            (sym (e ∙ ap (λ (u : List ℕ). eqb h.kind kind && same u name) (own_name lay t i x p h q head g)))

        found_here : m ≡ true → it ≡ find_in lay t kind name
        found_here b = by s.turns s.enough s.rest
          where
            by : (f : ℕ) → length t ≤ f + i → find_from lay f t kind name i ≡ find_in lay t kind name → it ≡ find_in lay t kind name
            by zero l r = absurd (omega arith)
            by (suc f) l r = sym (sym r ∙ turn f ∙ rw b)

        pub find_here : m ≡ true → (life : ℕ) → life ≡ lifetime_at lay (take (length t - i) (drop i t))
            → Some (record { status = h.status; lifetime = life; start = i + (head + h.name); end = i + h.size }) ≡ find_in lay t kind name
        unfolding found_of
        find_here b life y = rw (g, y, rest_part t i) (found_here b)

        pub stands_here : m ≡ true → true ≡ is_some (find_in lay t kind name)
        stands_here b = ap is_some (found_here b)

        pub find_next : m ≡ false → Search lay t kind name (i + h.size)
        find_next b = by s.turns s.enough s.rest
          where
            by : (f : ℕ) → length t ≤ f + i → find_from lay f t kind name i ≡ find_in lay t kind name → Search lay t kind name (i + h.size)
            by zero l r = absurd (omega arith)
            by (suc f) l r = record { turns = f; enough = omega (arith, find_less); rest = sym (turn f ∙ rw b) ∙ r }

-- `stands_in`: where the search misses
pub stands_none : (lay : Layout) (t : List ℕ) (kind : ℕ) (name : List ℕ) → None ≡ find_in lay t kind name → false ≡ is_some (find_in lay t kind name)
stands_none lay t kind name e = ap is_some e

-- `found_items`: the range of the entry that was found, where the table has one
pub items_missing : (t : List ℕ) (x : Option Found) → x ≡ None → [] ≡ found_items t x
unfolding found_items
items_missing t x e = rw e

pub items_got : (t : List ℕ) (x : Option Found) (f : Found) → x ≡ Some f → (got : Option (Bor (List ℕ))) → IsGetRangeResult t f.start f.end got
    → (d r : Bor (List ℕ)) → d.now ≡ [] → r ≡ unwrap_or got d → r.now ≡ found_items t x
unfolding found_items
items_got t x f e None g d r z q = rw (q, e, z) (by g.0)
  where
    by : (f.end < f.start) ⊎ (length t < f.end) → [] ≡ found_items t (Some f)
    by (inl a) = simp (lt-leb f.start f.end a)
    by (inr a) = simp (lt-leb f.end (length t) a, and-false)
items_got t x f e (Some y) g d r z q = rw (q, e, le-leb f.start f.end g.0.0, le-leb f.end (length t) g.0.1) g.0.2

-- `step_at`
module _ (lay : Layout) (t : List ℕ) (i : ℕ) (x : Option Header) (p : x ≡ header_of lay (take (length t - i) (drop i t))) where
  step_at_lem : (y : Option Header) → x ≡ y → step_after lay t i y ≡ step_at lay t i
  unfolding step_at
  step_at_lem y q = ap (step_after lay t i) (sym (header_is lay t i x p ∙ q))

  pub step_broken : x ≡ None → Err (Malformed i) ≡ step_at lay t i
  unfolding step_after
  step_broken q = step_at_lem None q

  module _ (h : Header) (q : x ≡ Some h) (head : ℕ) (g : head ≡ header_size lay) where
    abbrev name : List ℕ
    name = own lay t i x p h q head g

    name_is : name ≡ name_of lay (drop i t) h
    name_is = own_name lay t i x p h q head g

    module _ (m : Bool) (w : m ≡ is_entry h.kind h.status name (own_bytes lay t i x p h q head g)) where
      well_at : is_well lay (drop i t) h ≡ m
      unfolding is_well
      well_at = sym (w ∙ rw (name_is, own_items lay t i x p h q head g))

      pub step_ill : m ≡ false → Err (Malformed i) ≡ step_at lay t i
      unfolding step_after
      step_ill b = rw (well_at ∙ b) at (step_at_lem (Some h) q)

      module _ (b : m ≡ true) where
        module _ (seen : Option Found) (f : seen ≡ find_in lay (take i t) h.kind name) (r : Bool) (u : r ≡ is_some seen) where
          found_at : cond r (Err (Repeated i)) (Ok (i + h.size)) ≡ step_at lay t i
          unfolding step_after
          found_at = rw (u, f, name_is) (rw (well_at ∙ b) at (step_at_lem (Some h) q))

          pub step_repeated : r ≡ true → Err (Repeated i) ≡ step_at lay t i
          step_repeated e = rw e at found_at

          -- the place after the entry has a name of its own: the size is then taken from the header, not from what is to be shown
          pub step_fresh : r ≡ false → (next : ℕ) → next ≡ i + h.size → Ok next ≡ step_at lay t i
          step_fresh e next z = rw z (rw e at found_at)

        module _ (marks : Option Marks) (c : Covered lay t i marks) (new : Bool) (after : Option Marks) (k : NotesPair h.kind name marks new after) where
          pub step_new : new ≡ true → (next : ℕ) → next ≡ i + h.size → Ok next ≡ step_at lay t i
          step_new r next z = let n = covered_new lay t i marks c k r in rw z (found_at (find_in lay (take i t) h.kind name) refl false (sym n))

          pub step_covered : (next : ℕ) → next ≡ i + h.size → Covered lay t next after
          unfolding entry_of
          step_covered next z =
              let p = well_sound (drop i t) h (header_is lay t i x p ∙ q) (well_at ∙ b) in
              rw z (covered_next lay t i marks c h.size (entry_of lay (drop i t) h) new after p (rw name_is at k))

-- `check_table_in`: what it answers is what the productions say
pub check_right : (lay : Layout) (t : List ℕ) (r : Result ℕ TableError) → r ≡ check_in lay t → TableAnswersIn lay t (reported r)
check_right lay t r e = rw e (table_answers t)

pub check_long : (lay : Layout) (t : List ℕ) → 65535 < length t → Err TooLong ≡ check_in lay t
unfolding check_in
check_long lay t h = simp (lt-ltb 65535 (length t) h)

-- the check from a place, with turns enough
pub record Checking (lay : Layout) (t : List ℕ) (i count : ℕ) : Type 0 where
  pub turns : ℕ
  pub enough : length t < turns + i
  pub inside : i ≤ length t
  pub few : count ≤ 512
  pub rest : check_from lay turns t i count ≡ check_in lay t

pub check_start : (lay : Layout) (t : List ℕ) → length t ≤ 65535 → Checking lay t 0 0
unfolding check_in
check_start lay t h = record { turns = suc (length t); enough = omega arith; inside = omega arith; few = omega arith; rest = simp (le-ltb 65535 (length t) h) }

-- each entry leaves less of the table
pub check_less : (lay : Layout) (t : List ℕ) (i : ℕ) (x : Result ℕ TableError) → x ≡ step_at lay t i → (next : ℕ) → x ≡ Ok next → length t - next < length t - i
check_less lay t i x p next q = let b = step_next lay t i next (sym p ∙ q) in omega arith

module _ (lay : Layout) (t : List ℕ) (i count : ℕ) (s : Checking lay t i count) where
  pub check_done : length t ≤ i → Ok count ≡ check_in lay t
  check_done h = sym (sym s.rest ∙ check_end lay s.turns t i count h)

  -- there is a turn left
  last : (r : Result ℕ TableError) → i < length t → ((f : ℕ) → check_from lay (suc f) t i count ≡ r) → r ≡ check_in lay t
  last r here g = by s.turns s.enough s.rest
    where
      by : (f : ℕ) → length t < f + i → check_from lay f t i count ≡ check_in lay t → r ≡ check_in lay t
      by zero l e = absurd (omega arith)
      by (suc f) l e = sym (sym e ∙ g f)

  module _ (here : i < length t) where
    pub check_512 : count ≡ 512 → Err (Malformed i) ≡ check_in lay t
    check_512 h = last (Err (Malformed i)) here (λ f. check_full lay f t i count here h)

    module _ (few : count ≡ 512 → ⊥) (x : Result ℕ TableError) (p : x ≡ step_at lay t i) where
      pub check_refused : (e : TableError) → x ≡ Err e → Err e ≡ check_in lay t
      check_refused e q = last (Err e) here (λ f. check_bad lay f t i count here few e (sym p ∙ q))

      pub check_on : (next : ℕ) → x ≡ Ok next → Checking lay t next (count + 1)
      check_on next q = by s.turns s.enough s.rest
        where
          by : (f : ℕ) → length t < f + i → check_from lay f t i count ≡ check_in lay t → Checking lay t next (count + 1)
          by zero l e = absurd (omega arith)
          by (suc f) l e =
              let b = step_next lay t i next (sym p ∙ q) in
              record {
                turns = f;
                enough = omega arith;
                inside = omega arith;
                few = omega (arith, s.few, few);
                rest = sym (check_next lay f t i count here few next (sym p ∙ q)) ∙ e;
              }
