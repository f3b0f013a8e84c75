-- What `find` answers is what looking up in the list of entries says, for any bytes; and in a table that encodes entries it finds just the pairs
-- that stand among them. From header_facts (Encoding) and entries_complete.
use Rattle.std.proofs.Common.{is_some, None, Option, Some}
use Prim.Native.Nat.{ℕ, zero, suc, ◌+◌, ◌-◌, ◌≤◌}
use mathlib.Core.Path.{◌≡◌, refl, ap, ◌∙◌}
use mathlib.Core.List.{List, [], ◌∷◌}
use mathlib.Core.Bool.{Bool, true, false, cond, ◌&&◌, ◌||◌}
use native.Mathlib.Omega.{arith}
use lib.ListN.{length, take, drop, length-drop}
use lib.Seq.{drop-drop}
use lib.Dec.{eqb}
use Rattle.text.specs.Lists.{same}
use Rattle.answer_table.specs.Layout.{Entry, header_size, EntriesIn, is_pair, holds}
use Rattle.answer_table.specs.Lookup.{Lookup, present, absent, lookup, Finds, found, missing}
use Rattle.answer_table.specs.Reader.{header_of, name_of, item_bytes, items_of, entry_of, entries_from, entries_after, entries_in, found_of, find_after, find_from, find_in}
use Rattle.answer_table.specs.declared.Layout.{Layout}
use Rattle.answer_table.specs.declared.entries.Header.{Header}
use Rattle.answer_table.specs.declared.Found.{Found}
use Rattle.answer_table.proofs.Laws.Encoding.{header_facts}
use Rattle.answer_table.proofs.Laws.Entries.{entries_complete}

-- a part of what stands from a place on, as a part of the whole
pub part_in : (t : List ℕ) (i m size : ℕ) → take (i + size - (i + m)) (drop (i + m) t) ≡ take (size - m) (drop m (drop i t))
part_in t i m size = let e : i + size - (i + m) ≡ size - m = omega arith in rw (e, drop-drop)

-- the search from a place and the list of entries from there go in step
module _ (lay : Layout) (t : List ℕ) (kind : ℕ) (name : List ℕ) where
  finds_from : (f i : ℕ) → i ≤ length t → Finds t (lookup kind name (entries_from lay f (drop i t))) (find_from lay f t kind name i)
  unfolding entries_from entries_after find_from find_after found_of lookup is_pair entry_of item_bytes
  finds_from zero i h = missing
  finds_from (suc f) i h = go (λ j. finds_from f j) (header_of lay (drop i t)) refl
    where
      by : (h : Header) → (header_size lay + h.name ≤ h.size) × (h.size ≤ length (drop i t))
          → Finds t (lookup kind name (entries_from lay f (drop h.size (drop i t)))) (find_from lay f t kind name (i + h.size)) → (b : Bool)
          → Finds t (cond b (present (entry_of lay (drop i t) h)) (lookup kind name (entries_from lay f (drop h.size (drop i t)))))
          (cond b (Some (found_of lay t i h)) (find_from lay f t kind name (i + h.size)))
      by h l r true =
          found {start = i + (header_size lay + h.name)} {end = i + h.size} (omega (arith, l.0)) (omega (arith, l.1, length-drop i t))
          (ap items_of (part_in t i (header_size lay + h.name) h.size))
      by h l r false = r

      go : ((j : ℕ) → j ≤ length t → Finds t (lookup kind name (entries_from lay f (drop j t))) (find_from lay f t kind name j))
          → (x : Option Header) → header_of lay (drop i t) ≡ x
          → Finds t (lookup kind name (entries_after lay (drop i t) x (entries_from lay f))) (find_after lay t kind name i x (find_from lay f t kind name))
      go ih None e = missing
      go ih (Some h) e =
          let l = header_facts lay (drop i t) h e in
          by h l (rw drop-drop (ih (i + h.size) (omega (arith, l.1, length-drop i t)))) (eqb h.kind kind && same (name_of lay (drop i t) h) name)

  pub finds : Finds t (lookup kind name (entries_in lay t)) (find_in lay t kind name)
  unfolding entries_in find_in
  finds = finds_from (length t) 0 (omega arith)

-- whether there is an entry
abbrev is_present : Lookup → Bool
is_present (present e) = true
is_present absent = false

finds_present : {t : List ℕ} {l : Lookup} {r : Option Found} → Finds t l r → is_some r ≡ is_present l
finds_present (found a z e) = refl
finds_present missing = refl

holds_lookup : (kind : ℕ) (name : List ℕ) (es : List Entry) → is_present (lookup kind name es) ≡ holds kind name es
unfolding lookup holds
holds_lookup kind name [] = refl
holds_lookup kind name (e ∷ es) = by (is_pair kind name e) (holds_lookup kind name es)
  where
    by : (b : Bool) → is_present (lookup kind name es) ≡ holds kind name es
        → is_present (cond b (present e) (lookup kind name es)) ≡ (b || holds kind name es)
    by true ih = refl
    by false ih = ih

-- in a table that encodes entries just the pairs among them are found
pub found_iff : {lay : Layout} {t : List ℕ} {es : List Entry} → EntriesIn lay t es → (kind : ℕ) (name : List ℕ)
    → is_some (find_in lay t kind name) ≡ holds kind name es
found_iff {lay} {t} {es} p kind name =
    finds_present (finds lay t kind name) ∙ holds_lookup kind name (entries_in lay t) ∙ ap (holds kind name) (entries_complete p)
