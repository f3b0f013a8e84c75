-- The table as the code reads it, in either layout: total on any bytes. The laws say that on an accepted table this is what the productions say.
-- entries_of, find_at and check_table are those of the tables that are evaluated.
use Rattle.std.specs.Prelude.{ℕ, zero, suc, ◌+◌, ◌-◌, ◌*◌, ◌<◌, min, List, [], ◌∷◌, Bool, true, false, cond, ◌&&◌, length, take, drop, leb, ltb, eqb, None, Option, Some, is_some, Result, Ok, Err}
use Rattle.text.specs.Bytes.{at}
use Rattle.text.specs.Lists.{same}
use Rattle.domain.specs.Names.{is_table_name}
use Rattle.answer_table.specs.Layout.{Entry, is_kind, status_answered, is_status, is_item, lifetime_bytes, header_size}
use Rattle.answer_table.specs.Answers.{most_bytes, most_entries}
use Rattle.answer_table.specs.declared.Layout.{Layout}
use Rattle.answer_table.specs.declared.Layout.TheVariants.{Old, New}
use Rattle.answer_table.specs.declared.entries.Header.{Header}
use Rattle.answer_table.specs.declared.Found.{Found}
use Rattle.answer_table.specs.declared.TableError.{TableError}
use Rattle.answer_table.specs.declared.TableError.TheVariants.{TooLong, Malformed, Repeated}

-- the 2-byte number at the front
unfoldable pub number : List ℕ → ℕ
number s = at s 0 + 256 * at s 1

-- the first item, and what follows it
unfoldable pub first_item : List ℕ → List ℕ
first_item s = take (number s) (drop 2 s)

unfoldable pub other_items : List ℕ → List ℕ
other_items s = drop (2 + number s) s

-- at most n items; each takes two bytes or more
unfoldable pub items_from : ℕ → List ℕ → List (List ℕ)
items_from zero s = []
items_from (suc n) s = cond (eqb (length s) 0) [] (first_item s ∷ items_from n (other_items s))

-- all items
unfoldable pub items_of : List ℕ → List (List ℕ)
items_of s = items_from (length s) s

-- the place just after the item that begins at a place
unfoldable pub next_item : List ℕ → ℕ → ℕ
next_item s i = min (i + (2 + number (drop i s))) (length s)

-- whether items of a kind stand end to end
unfoldable pub items_fit_from : ℕ → ℕ → List ℕ → Bool
items_fit_from zero kind s = true
items_fit_from (suc n) kind s =
    cond (eqb (length s) 0) true
    (cond (ltb (length s) (2 + number s)) false
    (cond (is_item kind (first_item s)) (items_fit_from n kind (other_items s)) false))

unfoldable pub items_fit : ℕ → List ℕ → Bool
items_fit kind s = items_fit_from (length s) kind s

-- the entry at the front: its header is there, its name ends within it and it within the list; not yet whether it is well-formed
unfoldable pub header_of : Layout → List ℕ → Option Header
header_of lay s =
    cond (ltb (length s) (header_size lay)) None
    (cond (ltb (length s) (2 + number s)) None
    (cond (ltb (2 + number s) (header_size lay + at s (5 + lifetime_bytes lay))) None
    (Some (record { kind = number (drop 2 s); status = at s 4; name = at s (5 + lifetime_bytes lay); size = 2 + number s }))))

-- its lifetime: the number of two bytes, and that of the next two
unfoldable pub lifetime_at : Layout → List ℕ → ℕ
lifetime_at Old s = 0
lifetime_at New s = number (drop 5 s) + 65536 * number (drop 7 s)

-- its name and its items' bytes, by the name's length and the entry's size
unfoldable pub name_of : Layout → List ℕ → Header → List ℕ
name_of lay s h = take h.name (drop (header_size lay) s)

unfoldable pub item_bytes : Layout → List ℕ → Header → List ℕ
item_bytes lay s h = take (h.size - (header_size lay + h.name)) (drop (header_size lay + h.name) s)

-- whether a kind, a status, a name and items' bytes make a well-formed entry
unfoldable pub is_entry : (kind status : ℕ) (name items : List ℕ) → Bool
is_entry kind status name items =
    is_kind kind && (is_status status && (is_table_name name && cond (eqb status status_answered) (items_fit kind items) (eqb (length items) 0)))

-- whether the entry at the front, with this header, is well-formed
unfoldable pub is_well : Layout → List ℕ → Header → Bool
is_well lay s h = is_entry h.kind h.status (name_of lay s h) (item_bytes lay s h)

-- what it holds
unfoldable pub entry_of : Layout → List ℕ → Header → Entry
entry_of lay s h =
    record { kind = h.kind; status = h.status; lifetime = lifetime_at lay s; name = name_of lay s h; items = items_of (item_bytes lay s h) }

-- the entries up to the first broken header, at most f of them
unfoldable pub entries_after : Layout → List ℕ → Option Header → (List ℕ → List Entry) → List Entry
entries_after lay s None rest = []
entries_after lay s (Some h) rest = entry_of lay s h ∷ rest (drop h.size s)

unfoldable pub entries_from : Layout → ℕ → List ℕ → List Entry
entries_from lay zero s = []
entries_from lay (suc f) s = entries_after lay s (header_of lay s) (entries_from lay f)

unfoldable pub entries_in : Layout → List ℕ → List Entry
entries_in lay s = entries_from lay (length s) s

abbrev pub entries_of : List ℕ → List Entry
entries_of = entries_in New

-- where `find` finds the entry of a kind and a name, from a place on
unfoldable pub found_of : Layout → List ℕ → ℕ → Header → Found
found_of lay t i h =
    record { status = h.status; lifetime = lifetime_at lay (drop i t); start = i + (header_size lay + h.name); end = i + h.size }

unfoldable pub find_after : Layout → List ℕ → ℕ → List ℕ → ℕ → Option Header → (ℕ → Option Found) → Option Found
find_after lay t kind name i None rest = None
find_after lay t kind name i (Some h) rest =
    cond (eqb h.kind kind && same (name_of lay (drop i t) h) name) (Some (found_of lay t i h)) (rest (i + h.size))

unfoldable pub find_from : Layout → ℕ → List ℕ → ℕ → List ℕ → ℕ → Option Found
find_from lay zero t kind name i = None
find_from lay (suc f) t kind name i = find_after lay t kind name i (header_of lay (drop i t)) (find_from lay f t kind name)

unfoldable pub find_in : Layout → List ℕ → ℕ → List ℕ → Option Found
find_in lay t kind name = find_from lay (length t) t kind name 0

abbrev pub find_at : List ℕ → ℕ → List ℕ → Option Found
find_at = find_in New

-- the items' bytes of what was found
unfoldable pub found_items : List ℕ → Option Found → List ℕ
found_items t (Some e) = cond (leb e.start e.end && leb e.end (length t)) (take (e.end - e.start) (drop e.start t)) []
found_items t None = []

-- the entry at a place in the check: malformed, of a pair that stands before it, or whole, with the place after it
unfoldable pub step_after : Layout → List ℕ → ℕ → Option Header → Result ℕ TableError
step_after lay t i None = Err (Malformed i)
step_after lay t i (Some h) =
    cond (is_well lay (drop i t) h)
    (cond (is_some (find_in lay (take i t) h.kind (name_of lay (drop i t) h))) (Err (Repeated i)) (Ok (i + h.size)))
    (Err (Malformed i))

unfoldable pub step_at : Layout → List ℕ → ℕ → Result ℕ TableError
step_at lay t i = step_after lay t i (header_of lay (drop i t))

-- the check from a place on, after that many entries
unfoldable pub check_after : ℕ → Result ℕ TableError → (ℕ → ℕ → Result ℕ TableError) → Result ℕ TableError
check_after count (Ok next) rest = rest next (count + 1)
check_after count (Err e) rest = Err e

unfoldable pub check_from : Layout → ℕ → List ℕ → ℕ → ℕ → Result ℕ TableError
check_from lay zero t i count = Ok count
check_from lay (suc f) t i count =
    cond (ltb i (length t))
    (cond (eqb count most_entries) (Err (Malformed i)) (check_after count (step_at lay t i) (check_from lay f t)))
    (Ok count)

unfoldable pub check_in : Layout → List ℕ → Result ℕ TableError
check_in lay t = cond (ltb most_bytes (length t)) (Err TooLong) (check_from lay (suc (length t)) t 0 0)

abbrev pub check_table : List ℕ → Result ℕ TableError
check_table = check_in New

-- the places at which the items of a list begin, one after the other; the last is the end
pub data Starts (s : List ℕ) : ℕ → Type 0 where
  first : Starts s 0
  next : {i : ℕ} → Starts s i → i < length s → Starts s (next_item s i)
