-- Where the items of a table stand: the reader's place of an item is the productions' place (found_item); its bytes stand there (item_stands), also with
-- more bytes after the table (item_grown); it is one of the entry that is looked up (item_listed), and an item that alone passes a test has one place
-- (item_one). From the laws of items end to end (Items), of one entry (Encoding) and of lists of entries (Entries, Among).
use Rattle.std.proofs.Common.{None, Option, Some}
use Prim.Native.Nat.{ℕ, zero, suc, ◌+◌, ◌≤◌, ◌<◌}
use mathlib.Core.Path.{◌≡◌, refl, sym, ap, subst, ◌∙◌}
use mathlib.Core.List.{List, [], ◌∷◌, ◌++◌, append_assoc}
use mathlib.Core.Bool.{Bool, true, false, cond, ◌&&◌}
use native.Mathlib.Omega.{arith}
use lib.Dec.{eqb}
use lib.ListN.{length, drop, length-append}
use lib.Seq.{drop_at}
use borrow.Author.Tests.{eqb-true}
use Rattle.text.specs.Bytes.{part}
use Rattle.text.specs.Lists.{same}
use Rattle.text.proofs.Laws.Tests.{cond-elim, and_left, and_right, or_false_left, or_false_right, true_false}
use Rattle.text.proofs.Laws.Spans.{span_word, span_between}
use Rattle.text.proofs.Laws.Words.{same_true}
use Rattle.answer_table.specs.Layout.{Entry, is_item, Two, Items, none, more, Lifetime, body, header_size, EncodesIn, entry, EntriesIn, is_pair, holds, distinct}
use Rattle.answer_table.specs.Standing.{ItemIn}
use Rattle.answer_table.specs.Lookup.{present, lookup}
use Rattle.answer_table.specs.Reader.{number, first_item, items_of, next_item, Starts, first, next, header_of, name_of, item_bytes, entry_of, found_of, find_after, find_from, find_in}
use Rattle.answer_table.specs.declared.Layout.{Layout}
use Rattle.answer_table.specs.declared.Found.{Found}
use Rattle.answer_table.specs.declared.entries.Header.{Header}
use Rattle.answer_table.proofs.Laws.Items.{two_front, read_number_lem, read_length_lem, read_first, read_items, items_append, items_snoc}
use Rattle.answer_table.proofs.Laws.Encoding.{header_none, life_length, laid_out, well_complete}
use Rattle.answer_table.proofs.Laws.Entries.{entries_snoc, entries_cut, distinct_before}
use Rattle.answer_table.proofs.Laws.Among.{pair_self, stands_found, among_at}
use Rattle.answer_table.proofs.Laws.Finding.{part_in}

-- items split at a place between two of them
record Split (kind : ℕ) (u : List ℕ) (i : ℕ) : Type 0 where
  front : List ℕ
  back : List ℕ
  ds : List (List ℕ)
  gs : List (List ℕ)
  whole : u ≡ front ++ back
  size : length front ≡ i
  before : Items kind front ds
  after : Items kind back gs

-- an item that begins at a place, with items before and after it
record Begins (kind : ℕ) (u : List ℕ) (i : ℕ) (d : List ℕ) : Type 0 where
  front : List ℕ
  ds : List (List ℕ)
  n : List ℕ
  back : List ℕ
  gs : List (List ℕ)
  whole : u ≡ front ++ (n ++ (d ++ back))
  size : length front ≡ i
  before : Items kind front ds
  own : Two n (length d)
  item : is_item kind d ≡ true
  after : Items kind back gs

-- what begins at a place short of the end is read there
begins : {kind : ℕ} {u : List ℕ} {i : ℕ} → Split kind u i → i < length u → Begins kind u i (first_item (drop i u))
begins {kind} {u} {i} s h = go s.after s.whole
  where
    go : {v : List ℕ} {gs : List (List ℕ)} → Items kind v gs → u ≡ s.front ++ v → Begins kind u i (first_item (drop i u))
    go none e = absurd (omega (arith, s.size, ap length e, length-append s.front []))
    go (more {n = n} {d = d} {rest = rest} {ds = gs} t x r) e =
        let a : drop i u ≡ n ++ (d ++ rest) = ap (drop i) e ∙ drop_at s.front (n ++ (d ++ rest)) i s.size in
        let b : d ≡ first_item (drop i u) = sym (ap first_item a ∙ read_first n d rest t) in
        subst (Begins kind u i) b
        (record { front = s.front; ds = s.ds; n = n; back = rest; gs = gs; whole = e; size = s.size; before = s.before; own = t; item = x; after = r })

-- and the next place is just after it
ends : {kind : ℕ} {u : List ℕ} {i : ℕ} {d : List ℕ} → Begins kind u i d → Split kind u (next_item u i)
unfolding next_item
ends {u = u} {i = i} {d = d} b =
    let v = b.n ++ (d ++ b.back) in
    let e : number (drop i u) ≡ length d =
    ap number (ap (drop i) b.whole ∙ drop_at b.front v i b.size) ∙ read_number_lem b.n d b.back b.own in
    let l : length u ≡ i + (2 + length d + length b.back) =
    ap length b.whole ∙ length-append b.front v ∙ omega (arith, b.size, read_length_lem b.n d b.back b.own) in
    record {
      front = b.front ++ (b.n ++ d);
      back = b.back;
      ds = b.ds ++ (d ∷ []);
      gs = b.gs;
      whole = b.whole ∙ simp append_assoc;
      size = simp length-append (omega (arith, e, l, b.size, (two_front b.own []).size));
      before = items_snoc b.before d b.own b.item;
      after = b.after;
    }

-- items are split at each of the places at which they begin
split_at : {kind : ℕ} {u : List ℕ} {ds : List (List ℕ)} {i : ℕ} → Items kind u ds → Starts u i → Split kind u i
split_at {u = u} {ds = ds} p first = record { front = []; back = u; ds = []; gs = ds; whole = refl; size = refl; before = none; after = p }
split_at p (next s h) = ends (begins (split_at p s) h)

-- an entry of a kind and a name in a table, with entries before it: its items' bytes i stand at the byte start
record EntryAt (lay : Layout) (t : List ℕ) (kind : ℕ) (name : List ℕ) (start : ℕ) (i : List ℕ) : Type 0 where
  front : List ℕ
  ds : List Entry
  back : List ℕ
  l : List ℕ
  k : List ℕ
  status : ℕ
  life : List ℕ
  lifetime : ℕ
  items : List (List ℕ)
  whole : t ≡ front ++ ((l ++ body k status life name i) ++ back)
  before : EntriesIn lay front ds
  size : Two l (length (body k status life name i))
  kind_of_lem : Two k kind
  life_of_lem : Lifetime lay life lifetime
  encodes : EncodesIn lay (l ++ body k status life name i) (record { kind = kind; status = status; lifetime = lifetime; name = name; items = items })
  held : Items kind i items
  place : start ≡ length front + (header_size lay + length name)

-- what was found is such an entry
abbrev Stands : Layout → List ℕ → ℕ → List ℕ → Option Found → Type 0
Stands lay t kind name (Some x) = EntryAt lay t kind name x.start (part t x.start x.end)
Stands lay t kind name None = Unit {0}

module _ (lay : Layout) (t : List ℕ) (kind : ℕ) (name : List ℕ) where
  -- an entry is found, or the search goes on after it
  stands_step : {front w : List ℕ} {ds : List Entry} {e : Entry} → EntriesIn lay front ds → EncodesIn lay w e → (rest : List ℕ) → t ≡ front ++ (w ++ rest)
      → (g : ℕ → Option Found) → Stands lay t kind name (g (length front + length w))
      → Stands lay t kind name (find_after lay t kind name (length front) (header_of lay (drop (length front) t)) g)
  unfolding find_after found_of item_bytes
  stands_step {front} {ds = ds} p
      (entry {l = l} {k = k} {life = life} {name = m} {i = i} {kind = c} {status = status} {lifetime = lifetime} {items = items} tl tk tf hk hs hn it may)
      rest q g z =
      let n = length front in
      let w = l ++ body k status life m i in
      let r = laid_out status m i tl tk tf rest in
      let d : drop n t ≡ w ++ rest = ap (drop n) q ∙ drop_at front (w ++ rest) n refl in
      let a = header_size lay + length m in
      let head : Header = record { kind = c; status = status; name = length m; size = length w } in
      let b : i ≡ part t (n + a) (n + length w) =
      sym (part_in t n a (length w) ∙ ap (λ (s : List ℕ). item_bytes lay s head) d ∙ r.bytes_read) in
      let here : EntryAt lay t c m (n + a) i = record {
        front = front;
        ds = ds;
        back = rest;
        l = l;
        k = k;
        status = status;
        life = life;
        lifetime = lifetime;
        items = items;
        whole = q;
        before = p;
        size = tl;
        kind_of_lem = tk;
        life_of_lem = tf;
        encodes = entry tl tk tf hk hs hn it may;
        held = it;
        place = refl;
      } in
      rw (ap (header_of lay) d ∙ r.header)
      (cond-elim (Stands lay t kind name) (eqb c kind && same (name_of lay (drop n t) head) name)
      (λ y.
      let e = eqb-true c kind (and_left (eqb c kind) _ y) in
      let f : m ≡ name = sym (ap (λ (s : List ℕ). name_of lay s head) d ∙ r.name_read) ∙ same_true _ name (and_right (eqb c kind) _ y) in
      rw (← e, ← b) (subst (λ (s : List ℕ). EntryAt lay t c s (n + a) i) f here))
      (λ _. z))

  -- the search from a place and the entries from there go in step
  stands_from : {front u : List ℕ} {ds fs : List Entry} → EntriesIn lay front ds → EntriesIn lay u fs → (f : ℕ) → t ≡ front ++ u
      → Stands lay t kind name (find_from lay f t kind name (length front))
  unfolding find_from find_after
  stands_from p none zero e = tt
  stands_from p (more x q) zero e = tt
  stands_from {front} p none (suc f) e =
      let d : drop (length front) t ≡ [] = ap (drop (length front)) e ∙ drop_at front [] (length front) refl in
      rw (d, header_none lay) tt
  stands_from {front} p (more {w = w} {rest = rest} x q) (suc f) e =
      stands_step p x rest e (find_from lay f t kind name)
      (rw (length-append front w) at (stands_from (entries_snoc p x) q f (e ∙ sym (append_assoc front w rest))))

-- how many bytes stand before an item
place_is : {lay : Layout} {l k life n : List ℕ} {x kind lifetime y : ℕ} → Two l x → Two k kind → Lifetime lay life lifetime → Two n y
    → (front : List ℕ) (status : ℕ) (name before : List ℕ)
    → length (front ++ (l ++ body k status life name (before ++ n))) ≡ length front + (header_size lay + length name) + length before + 2
unfolding body
place_is tl tk tf tn front status name before =
    simp length-append (omega (arith, (two_front tl []).size, (two_front tk []).size, life_length tf, (two_front tn []).size))

-- the item that begins at a place of an entry's items
item_at : {lay : Layout} {t : List ℕ} {kind : ℕ} {name : List ℕ} {start : ℕ} {u : List ℕ} {i : ℕ} {d : List ℕ} (b : Begins kind u i d)
    → EntryAt lay t kind name start (b.front ++ (b.n ++ (d ++ b.back))) → ItemIn lay t kind name d (start + i + 2)
item_at {name = name} b x =
    record {
      front = x.front;
      entries = x.ds;
      rest = x.back;
      size_bytes = x.l;
      kind_bytes = x.k;
      status = x.status;
      life_bytes = x.life;
      lifetime = x.lifetime;
      items = x.items;
      before = b.front;
      before_items = b.ds;
      length_bytes = b.n;
      after = b.back;
      table = x.whole;
      entries_before = x.before;
      size_of_entry = x.size;
      kind_of_entry = x.kind_of_lem;
      lifetime_of_entry = x.life_of_lem;
      entry = x.encodes;
      items_before = b.before;
      length_of_item = b.own;
      place = omega (arith, x.place, b.size, place_is x.size x.kind_of_lem x.life_of_lem b.own x.front x.status name b.front);
    }

-- the reader's place of an item is the productions' place
pub found_item : {lay : Layout} {t : List ℕ} {es : List Entry} → EntriesIn lay t es → (kind : ℕ) (name : List ℕ) (f : Found)
    → find_in lay t kind name ≡ Some f → (i : ℕ) → Starts (part t f.start f.end) i → i < length (part t f.start f.end)
    → ItemIn lay t kind name (first_item (drop i (part t f.start f.end))) (f.start + i + 2)
unfolding find_in
found_item {lay} {t} p kind name f e i s h =
    let x : EntryAt lay t kind name f.start (part t f.start f.end) =
    subst (Stands lay t kind name) e (stands_from lay t kind name none p (length t) refl) in
    let b = begins (split_at x.held s) h in
    item_at b (subst (EntryAt lay t kind name f.start) b.whole x)

item_place : {lay : Layout} {t : List ℕ} {kind : ℕ} {name s : List ℕ} {p : ℕ} (a : ItemIn lay t kind name s p)
    → p ≡ length a.front + (header_size lay + length name) + length a.before + 2
item_place {name = name} a =
    a.place ∙ place_is a.size_of_entry a.kind_of_entry a.lifetime_of_entry a.length_of_item a.front a.status name a.before

-- an item's bytes stand at its place, after an entry's header and within the table
pub item_stands : {lay : Layout} {t : List ℕ} {kind : ℕ} {name s : List ℕ} {p : ℕ} → ItemIn lay t kind name s p
    → (6 ≤ p) × (p + length s ≤ length t) × (part t p (p + length s) ≡ s)
unfolding body
item_stands {t = t} {name = name} {s = s} a =
    let u = a.front ++ (a.size_bytes ++ body a.kind_bytes a.status a.life_bytes name (a.before ++ a.length_bytes)) in
    let v = a.after ++ a.rest in
    let e : t ≡ u ++ (s ++ v) = a.table ∙ simp append_assoc in (
      omega (arith, item_place a),
      omega (arith, a.place, ap length e, length-append u (s ++ v), length-append s v),
      rw (e, a.place) (span_word (span_between u s v)),
    )

-- bytes after the table move no item
pub item_grown : {lay : Layout} {t : List ℕ} {kind : ℕ} {name s : List ℕ} {p : ℕ} → ItemIn lay t kind name s p → (w : List ℕ)
    → ItemIn lay (t ++ w) kind name s p
item_grown {name = name} {s = s} a w =
    let x = a.size_bytes ++ body a.kind_bytes a.status a.life_bytes name (a.before ++ (a.length_bytes ++ (s ++ a.after))) in
    record {
      front = a.front;
      entries = a.entries;
      rest = a.rest ++ w;
      size_bytes = a.size_bytes;
      kind_bytes = a.kind_bytes;
      status = a.status;
      life_bytes = a.life_bytes;
      lifetime = a.lifetime;
      items = a.items;
      before = a.before;
      before_items = a.before_items;
      length_bytes = a.length_bytes;
      after = a.after;
      table = ap (λ (y : List ℕ). y ++ w) a.table ∙ append_assoc a.front (x ++ a.rest) w
          ∙ ap (λ (y : List ℕ). a.front ++ y) (append_assoc x a.rest w);
      entries_before = a.entries_before;
      size_of_entry = a.size_of_entry;
      kind_of_entry = a.kind_of_entry;
      lifetime_of_entry = a.lifetime_of_entry;
      entry = a.entry;
      items_before = a.items_before;
      length_of_item = a.length_of_item;
      place = a.place;
    }

-- how many bytes items and entries take
abbrev items_size : List (List ℕ) → ℕ
items_size [] = 0
items_size (d ∷ ds) = 2 + length d + items_size ds

abbrev entries_size : Layout → List Entry → ℕ
entries_size lay [] = 0
entries_size lay (e ∷ es) = header_size lay + (length e.name + items_size e.items) + entries_size lay es

items_size_lem : {kind : ℕ} {u : List ℕ} {ds : List (List ℕ)} → Items kind u ds → length u ≡ items_size ds
items_size_lem none = refl
items_size_lem (more {n = n} {d = d} {rest = rest} t x r) = omega (arith, read_length_lem n d rest t, items_size_lem r)

entry_size : {lay : Layout} {w : List ℕ} {e : Entry} → EncodesIn lay w e → length w ≡ header_size lay + (length e.name + items_size e.items)
entry_size (entry {name = name} {i = i} {status = status} tl tk tf hk hs hn it may) =
    omega (arith, (laid_out status name i tl tk tf []).total, items_size_lem it)

entries_size_lem : {lay : Layout} {t : List ℕ} {es : List Entry} → EntriesIn lay t es → length t ≡ entries_size lay es
entries_size_lem none = refl
entries_size_lem (more {w = w} {rest = rest} x p) = omega (arith, length-append w rest, entry_size x, entries_size_lem p)

-- an item s of the entry `it` of a list, at the place p that the entries and items before it tell
record Listed (lay : Layout) (es : List Entry) (it : Entry) (s : List ℕ) (p : ℕ) : Type 0 where
  before : List Entry
  after : List Entry
  ds : List (List ℕ)
  gs : List (List ℕ)
  list : es ≡ before ++ (it ∷ after)
  items : it.items ≡ ds ++ (s ∷ gs)
  place : p ≡ entries_size lay before + (header_size lay + length it.name) + items_size ds + 2

-- each item that stands in a table is such
listed : {lay : Layout} {t : List ℕ} {es : List Entry} → EntriesIn lay t es → {kind : ℕ} {name s : List ℕ} {p : ℕ} (a : ItemIn lay t kind name s p)
    → Listed lay es (record { kind = kind; status = a.status; lifetime = a.lifetime; name = name; items = a.items }) s p
unfolding entry_of
listed q {kind} {name} {s} a =
    let it : Entry = record { kind = kind; status = a.status; lifetime = a.lifetime; name = name; items = a.items } in
    let i = a.before ++ (a.length_bytes ++ (s ++ a.after)) in
    let w = a.size_bytes ++ body a.kind_bytes a.status a.life_bytes name i in
    let c = entries_cut (entries_snoc a.entries_before a.entry) q a.rest (a.table ∙ sym (append_assoc a.front w a.rest)) in
    let r : items_of i ≡ a.items =
    ap items_of (sym (laid_out a.status name i a.size_of_entry a.kind_of_entry a.lifetime_of_entry []).bytes_read)
    ∙ ap (λ (e : Entry). e.items) (well_complete a.entry []).holds in
    record {
      before = a.entries;
      after = c.0;
      ds = a.before_items;
      gs = items_of a.after;
      list = c.1 ∙ append_assoc a.entries (it ∷ []) c.0;
      items = sym r ∙ items_append a.items_before _
          ∙ ap (λ (x : List (List ℕ)). a.before_items ++ x) (read_items a.length_bytes s a.after a.length_of_item);
      place = omega (arith, item_place a, entries_size_lem a.entries_before, items_size_lem a.items_before);
    }

-- its entry is the one that is looked up
listed_found : {lay : Layout} {es : List Entry} {it : Entry} {s : List ℕ} {p : ℕ} → distinct es ≡ true → Listed lay es it s p
    → lookup it.kind it.name es ≡ present it
listed_found {it = it} d u = stands_found d (rw u.list (among_at u.before it u.after))

-- what stands in a table of an entry is one of the items of the entry that is looked up
pub item_listed : {lay : Layout} {t : List ℕ} {es : List Entry} → EntriesIn lay t es → distinct es ≡ true → {kind : ℕ} {name s : List ℕ} {p : ℕ}
    → ItemIn lay t kind name s p
    → (e : Entry) × (lookup kind name es ≡ present e) × ((ds : List (List ℕ)) × ((gs : List (List ℕ)) × (e.items ≡ ds ++ (s ∷ gs))))
item_listed q d {kind} {name} a =
    let u = listed q a in
    let it : Entry = record { kind = kind; status = a.status; lifetime = a.lifetime; name = name; items = a.items } in
    (it, listed_found d u, (u.ds, (u.gs, u.items)))

-- the elements that pass a test
unfoldable pub picked : (List ℕ → Bool) → List (List ℕ) → List (List ℕ)
picked P [] = []
picked P (d ∷ ds) = cond (P d) (d ∷ picked P ds) (picked P ds)

-- no element passes a test
abbrev Misses : {A : Type 0} → (A → Bool) → List A → Type 0
Misses P [] = Unit {0}
Misses P (x ∷ xs) = (P x ≡ false) × Misses P xs

-- two elements that pass, in one list, with none before either of them, stand at one place
misses_same : {A : Type 0} (P : A → Bool) (xs ys : List A) (x y : A) (us vs : List A) → xs ++ (x ∷ us) ≡ ys ++ (y ∷ vs) → Misses P xs → Misses P ys
    → P x ≡ true → P y ≡ true → xs ≡ ys
misses_same P [] [] x y us vs e m m' h h' = refl
misses_same P [] (b ∷ ys) x y us vs e m m' h h' = absurd (true_false (P x) h (let i : x ≡ b = cc in rw i m'.0))
misses_same P (a ∷ xs) [] x y us vs e m m' h h' = absurd (true_false (P y) h' (let i : y ≡ a = cc in rw i m.0))
misses_same P (a ∷ xs) (b ∷ ys) x y us vs e m m' h h' =
    let i : a ≡ b = cc in
    let q : xs ++ (x ∷ us) ≡ ys ++ (y ∷ vs) = cc in
    let r = misses_same P xs ys x y us vs q m.1 m'.1 h h' in
    cc

holds_misses : (kind : ℕ) (name : List ℕ) (es : List Entry) → holds kind name es ≡ false → Misses (is_pair kind name) es
unfolding holds
holds_misses kind name [] h = tt
holds_misses kind name (e ∷ es) h =
    (or_false_left (is_pair kind name e) (holds kind name es) h, holds_misses kind name es (or_false_right (is_pair kind name e) (holds kind name es) h))

module _ (P : List ℕ → Bool) where
  picked_some : (ds : List (List ℕ)) (s : List ℕ) (gs : List (List ℕ)) → P s ≡ true → 1 ≤ length (picked P (ds ++ (s ∷ gs)))
  unfolding picked
  picked_some [] s gs h = rw h (omega arith)
  picked_some (d ∷ ds) s gs h =
      let r = picked_some ds s gs h in
      cond-elim (λ (x : List (List ℕ)). 1 ≤ length x) (P d) (λ _. omega arith) (λ _. r)

  -- where one passes and no more do, none does before it
  picked_misses : (ds : List (List ℕ)) (s : List ℕ) (gs : List (List ℕ)) → P s ≡ true → length (picked P (ds ++ (s ∷ gs))) ≤ 1 → Misses P ds
  unfolding picked
  picked_misses [] s gs h l = tt
  picked_misses (d ∷ ds) s gs h l =
      let r = picked_some ds s gs h in
      cond-elim (λ (x : List (List ℕ)). length x ≤ 1 → Misses P (d ∷ ds)) (P d) {x = d ∷ picked P (ds ++ (s ∷ gs))} {y = picked P (ds ++ (s ∷ gs))}
      (λ _ m. absurd (omega arith)) (λ n m. (n, picked_misses ds s gs h m)) l

-- where one item of an entry passes and no more do, there is one place for it
listed_one : {lay : Layout} {es : List Entry} {it : Entry} {s s' : List ℕ} {p p' : ℕ} → distinct es ≡ true → (P : List ℕ → Bool)
    → Listed lay es it s p → Listed lay es it s' p' → P s ≡ true → P s' ≡ true → length (picked P it.items) ≤ 1 → p ≡ p'
listed_one {lay} {es} {it} {s} {s'} d P u v h h' l =
    let pair = is_pair it.kind it.name in
    let is = pair_self it in
    let a = misses_same pair u.before v.before it it u.after v.after (sym u.list ∙ v.list) (entries_miss u) (entries_miss v) is is in
    let b = misses_same P u.ds v.ds s s' u.gs v.gs (sym u.items ∙ v.items) (items_miss u h) (items_miss v h') h h' in
    omega (arith, u.place, v.place, ap (entries_size lay) a, ap items_size b)
  where
    entries_miss : {c : List ℕ} {n : ℕ} (w : Listed lay es it c n) → Misses (is_pair it.kind it.name) w.before
    entries_miss w = holds_misses it.kind it.name w.before (distinct_before w.before it w.after (rw w.list at d))

    items_miss : {c : List ℕ} {n : ℕ} (w : Listed lay es it c n) → P c ≡ true → Misses P w.ds
    items_miss {c} w k = picked_misses P w.ds c w.gs k (rw w.items at l)

-- an item that alone passes a test has one place
pub item_one : {lay : Layout} {t : List ℕ} {es : List Entry} → EntriesIn lay t es → distinct es ≡ true → (P : List ℕ → Bool)
    {kind : ℕ} {name s s' : List ℕ} {p p' : ℕ}
    → ItemIn lay t kind name s p → ItemIn lay t kind name s' p' → P s ≡ true → P s' ≡ true
    → ((e : Entry) → lookup kind name es ≡ present e → length (picked P e.items) ≤ 1) → p ≡ p'
item_one {lay} {es = es} q d P {kind} {name} {s' = s'} {p' = p'} a b h h' l =
    let it : Entry = record { kind = kind; status = a.status; lifetime = a.lifetime; name = name; items = a.items } in
    let it' : Entry = record { kind = kind; status = b.status; lifetime = b.lifetime; name = name; items = b.items } in
    let u = listed q a in
    let v = listed q b in
    let f = listed_found d u in
    let g = listed_found d v in
    let i : it' ≡ it = cc in
    listed_one d P u (subst (λ (e : Entry). Listed lay es e s' p') i v) h h' (l it f)
