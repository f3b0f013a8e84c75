-- One entry, read as the code reads it, against the productions: what the reader takes for a well-formed entry is one, and each well-formed
-- entry is read, whatever follows it. For either layout.
use Rattle.std.proofs.Common.{None, Option, Some}
use Prim.Native.Nat.{ℕ, suc, ◌+◌, ◌-◌, ◌≤◌}
use mathlib.Core.Path.{◌≡◌, refl, sym, ap, subst, ◌∙◌}
use mathlib.Core.List.{List, [], ◌∷◌, ◌++◌, append-nil, append_assoc}
use mathlib.Core.Bool.{Bool, true, false, cond}
use native.Mathlib.Omega.{arith}
use lib.Dec.{ltb, eqb}
use lib.ListN.{length, take, drop, length-append, length-drop, drop_of_length-le}
use lib.Seq.{take_at, drop_at, drop-drop, take-add, take-suc, get_or-drop, length-take-le}
use borrow.Author.Tests.{ltb-false, lt-ltb, le-ltb, eqb-true, eq-eqb}
use Rattle.text.specs.Bytes.{at}
use Rattle.text.proofs.Laws.Tests.{cond-elim, and_left, and_right, true_false}
use Rattle.domain.specs.Names.{is_table_name}
use Rattle.answer_table.specs.Layout.{Entry, is_kind, is_status, Two, two, Items, none, more, may_hold, lifetime_bytes, Lifetime, no_lifetime, seconds, body, header_size, EncodesIn, entry}
use Rattle.answer_table.specs.Answers.{NoEntryIn}
use Rattle.answer_table.specs.Reader.{number, items_of, items_fit, header_of, lifetime_at, name_of, item_bytes, is_entry, is_well, entry_of}
use Rattle.answer_table.specs.declared.Layout.{Layout}
use Rattle.answer_table.specs.declared.Layout.TheVariants.{Old, New}
use Rattle.answer_table.specs.declared.entries.Header.{Header}
use Rattle.answer_table.proofs.Laws.Items.{two_front, of_none, items_sound, items_complete}

-- a header that was read: where its parts stand, and that the entry ends within the list
record Placed (lay : Layout) (s : List ℕ) (h : Header) : Type 0 where
  kind_place : h.kind ≡ number (drop 2 s)
  status_place : h.status ≡ at s 4
  name_place : h.name ≡ at s (5 + lifetime_bytes lay)
  size_place : h.size ≡ 2 + number s
  name_within : header_size lay + h.name ≤ h.size
  within : h.size ≤ length s

abbrev HeaderRight : Layout → List ℕ → Option Header → Type 0
HeaderRight lay s (Some h) = Placed lay s h
HeaderRight lay s None = Unit {0}

header_right : (lay : Layout) (s : List ℕ) → HeaderRight lay s (header_of lay s)
unfolding header_of
header_right lay s =
    let m = header_size lay in
    let n = at s (5 + lifetime_bytes lay) in
    let whole : Option Header = Some (record { kind = number (drop 2 s); status = at s 4; name = n; size = 2 + number s }) in
    cond-elim (HeaderRight lay s) (ltb (length s) m) {x = None}
    {y = cond (ltb (length s) (2 + number s)) None (cond (ltb (2 + number s) (m + n)) None whole)}
    (λ _. tt)
    (λ _. cond-elim (HeaderRight lay s) (ltb (length s) (2 + number s)) {x = None} {y = cond (ltb (2 + number s) (m + n)) None whole}
    (λ _. tt)
    (λ p. cond-elim (HeaderRight lay s) (ltb (2 + number s) (m + n)) {x = None} {y = whole}
    (λ _. tt)
    (λ q. record {
      kind_place = refl;
      status_place = refl;
      name_place = refl;
      size_place = refl;
      name_within = ltb-false (2 + number s) (m + n) q;
      within = ltb-false (length s) (2 + number s) p;
    })))

placed : (lay : Layout) (s : List ℕ) (h : Header) → header_of lay s ≡ Some h → Placed lay s h
placed lay s h e = subst (HeaderRight lay s) e (header_right lay s)

-- no entry begins at the end
pub header_none : (lay : Layout) → header_of lay [] ≡ None
unfolding header_of
header_none lay = rw (lt-ltb 0 (header_size lay) (omega arith))

-- an entry's name ends within it, and it within the list
pub header_facts : (lay : Layout) (s : List ℕ) (h : Header) → header_of lay s ≡ Some h → (header_size lay + h.name ≤ h.size) × (h.size ≤ length s)
header_facts lay s h e = let p = placed lay s h e in (p.name_within, p.within)

-- the first bytes of a list
front_four : (s : List ℕ) → 4 ≤ length s → take 4 s ≡ at s 0 ∷ at s 1 ∷ at s 2 ∷ at s 3 ∷ []
front_four [] h = absurd (omega arith)
front_four (a ∷ []) h = absurd (omega arith)
front_four (a ∷ b ∷ []) h = absurd (omega arith)
front_four (a ∷ b ∷ c ∷ []) h = absurd (omega arith)
front_four (a ∷ b ∷ c ∷ d ∷ s) h = refl

-- the header's: four, the status, those of a lifetime, and the name's length
front_header : (s : List ℕ) (m : ℕ) → 6 + m ≤ length s
    → take (6 + m) s ≡ at s 0 ∷ at s 1 ∷ at s 2 ∷ at s 3 ∷ at s 4 ∷ (take m (drop 5 s) ++ (at s (5 + m) ∷ []))
front_header s m h =
    let x : 6 + m ≡ 5 + suc m = omega arith in
    let y : take 5 s ≡ at s 0 ∷ at s 1 ∷ at s 2 ∷ at s 3 ∷ at s 4 ∷ [] = take-suc s 4 0 (omega arith) ∙ rw (front_four s (omega arith)) in
    let z : take (suc m) (drop 5 s) ≡ take m (drop 5 s) ++ (at s (5 + m) ∷ []) =
    take-suc (drop 5 s) m 0 (omega (arith, length-drop 5 s)) ∙ rw (get_or-drop 5 s m 0) in
    rw (x, take-add 5 (suc m) s, y, z)

-- the bytes of the lifetime
abbrev life_of : Layout → List ℕ → List ℕ
life_of lay s = take (lifetime_bytes lay) (drop 5 s)

life_long : (lay : Layout) (s : List ℕ) → header_size lay ≤ length s → length (life_of lay s) ≡ lifetime_bytes lay
life_long lay s h = length-take-le (lifetime_bytes lay) (drop 5 s) (omega (arith, length-drop 5 s))

life_read : (lay : Layout) (s : List ℕ) → header_size lay ≤ length s → Lifetime lay (life_of lay s) (lifetime_at lay s)
unfolding lifetime_bytes lifetime_at number
life_read Old s h = no_lifetime
life_read New s h =
    let e = front_four (drop 5 s) (omega (arith, length-drop 5 s)) in
    rw (e, ← (drop-drop 2 5 s), get_or-drop 2 (drop 5 s) 0 0, get_or-drop 2 (drop 5 s) 1 0) (seconds two two)

-- an entry cut out of the list: the header, the name, the items' bytes
cut : (lay : Layout) (s : List ℕ) (h : Header) → header_size lay + h.name ≤ h.size
    → take h.size s ≡ take (header_size lay) s ++ (name_of lay s h ++ item_bytes lay s h)
unfolding name_of item_bytes
cut lay s h l =
    let a = header_size lay in
    let n = h.name in
    let m = h.size - (a + n) in
    let e : h.size ≡ a + (n + m) = omega arith in
    ap (λ (k : ℕ). take k s) e ∙ take-add a (n + m) s
    ∙ ap (λ (t : List ℕ). take a s ++ t) (take-add n m (drop a s) ∙ ap (λ (t : List ℕ). take n (drop a s) ++ take m t) (drop-drop n a s))

name_length : (lay : Layout) (s : List ℕ) (h : Header) → header_size lay + h.name ≤ length s → length (name_of lay s h) ≡ h.name
unfolding name_of
name_length lay s h l = length-take-le h.name (drop (header_size lay) s) (simp length-drop (omega arith))

bytes_length : (lay : Layout) (s : List ℕ) (h : Header) → h.size ≤ length s → length (item_bytes lay s h) ≡ h.size - (header_size lay + h.name)
unfolding item_bytes
bytes_length lay s h l =
    length-take-le (h.size - (header_size lay + h.name)) (drop (header_size lay + h.name) s) (simp length-drop (omega arith))

-- items, and none where the status is 2 or 3
pub record Held (kind status : ℕ) (i : List ℕ) : Type 0 where
  pub held : Items kind i (items_of i)
  pub may : may_hold status (items_of i) ≡ true

zero_may : (status : ℕ) (ds : List (List ℕ)) → eqb status 0 ≡ true → may_hold status ds ≡ true
unfolding may_hold
zero_may status [] h = refl
zero_may status (d ∷ ds) h = h

held_none : (kind status : ℕ) (i : List ℕ) → i ≡ [] → Held kind status i
unfolding may_hold
held_none kind status i e =
    record { held = rw (e, of_none) none; may = ap (may_hold status) (ap items_of e ∙ of_none) }

held_items : (kind status : ℕ) (i : List ℕ) → cond (eqb status 0) (items_fit kind i) (eqb (length i) 0) ≡ true → Held kind status i
held_items kind status i h =
    cond-elim (λ (b : Bool). b ≡ true → Held kind status i) (eqb status 0) {x = items_fit kind i} {y = eqb (length i) 0}
    (λ z f. record { held = items_sound kind i f; may = zero_may status (items_of i) z })
    (λ _ f. let e = eqb-true (length i) 0 f in held_none kind status i (drop_of_length-le i {i = 0} (omega arith)))
    h

-- what the test of an entry says of its items
pub entry_items : (kind status : ℕ) (name i : List ℕ) → is_entry kind status name i ≡ true → Held kind status i
unfolding is_entry
entry_items kind status name i h =
    held_items kind status i (and_right (is_table_name name) _ (and_right (is_status status) _ (and_right (is_kind kind) _ h)))

-- what it takes for well-formed is so, in any bytes that lay it out
pub entry_encoded : {lay : Layout} {l k life : List ℕ} {kind lifetime : ℕ} (status : ℕ) (name i : List ℕ) → Two l (length (body k status life name i))
    → Two k kind → Lifetime lay life lifetime → is_entry kind status name i ≡ true
    → EncodesIn lay (l ++ body k status life name i) (record { kind = kind; status = status; lifetime = lifetime; name = name; items = items_of i })
unfolding is_entry
entry_encoded {kind = kind} status name i tl tk tf h =
    let h₁ = and_right (is_kind kind) _ h in
    let h₂ = and_right (is_status status) _ h₁ in
    let q = entry_items kind status name i h in
    entry tl tk tf (and_left (is_kind kind) _ h) (and_left (is_status status) _ h₁) (and_left (is_table_name name) _ h₂) q.held q.may

-- the same bytes by the productions
module _ (lay : Layout) (s : List ℕ) (h : Header) (p : Placed lay s h) where
  headed : header_size lay ≤ length s
  headed = omega (arith, p.name_within, p.within)

  name_long : length (name_of lay s h) ≡ h.name
  name_long = name_length lay s h (omega (arith, p.name_within, p.within))

  abbrev its_body : List ℕ
  its_body = body (at s 2 ∷ at s 3 ∷ []) h.status (life_of lay s) (name_of lay s h) (item_bytes lay s h)

  whole : take h.size s ≡ (at s 0 ∷ at s 1 ∷ []) ++ its_body
  unfolding body
  whole =
      cut lay s h p.name_within
      ∙ ap (λ (t : List ℕ). t ++ (name_of lay s h ++ item_bytes lay s h)) (front_header s (lifetime_bytes lay) headed)
      ∙ rw (append_assoc (life_of lay s) (at s (5 + lifetime_bytes lay) ∷ []) (name_of lay s h ++ item_bytes lay s h), name_long)
      (rw (← p.status_place, ← p.name_place))

  whole_length : number s ≡ length its_body
  unfolding body
  whole_length =
      simp length-append
      (omega (arith, p.size_place, p.name_within, name_long, life_long lay s headed, bytes_length lay s h p.within))

  whole_size : Two (at s 0 ∷ at s 1 ∷ []) (length its_body)
  unfolding number
  whole_size = subst (λ (m : ℕ). Two (at s 0 ∷ at s 1 ∷ []) m) whole_length two

  whole_kind : Two (at s 2 ∷ at s 3 ∷ []) h.kind
  unfolding number
  whole_kind = subst (λ (m : ℕ). Two (at s 2 ∷ at s 3 ∷ []) m) (sym (p.kind_place ∙ simp get_or-drop)) two

pub well_sound : {lay : Layout} (s : List ℕ) (h : Header) → header_of lay s ≡ Some h → is_well lay s h ≡ true
    → EncodesIn lay (take h.size s) (entry_of lay s h)
unfolding is_well entry_of
well_sound {lay} s h e w =
    let p = placed lay s h e in
    subst (λ (x : List ℕ). EncodesIn lay x (entry_of lay s h)) (sym (whole lay s h p))
    (entry_encoded h.status (name_of lay s h) (item_bytes lay s h) (whole_size lay s h p) (whole_kind lay s h p) (life_read lay s (headed lay s h p)) w)

-- the header of an entry of what e holds, of so many bytes
abbrev pub head_of : Entry → ℕ → Header
head_of e size = record { kind = e.kind; status = e.status; name = length e.name; size = size }

-- a well-formed entry w of what e holds, read with anything after it
pub record Read (lay : Layout) (w rest : List ℕ) (e : Entry) : Type 0 where
  pub header : header_of lay (w ++ rest) ≡ Some (head_of e (length w))
  pub well : is_well lay (w ++ rest) (head_of e (length w)) ≡ true
  pub holds : entry_of lay (w ++ rest) (head_of e (length w)) ≡ e
  pub some : 6 ≤ length w

-- the bytes of an entry at the front of a list, as the productions lay them
record Laid (lay : Layout) (s : List ℕ) (kind status lifetime : ℕ) (name i rest : List ℕ) (size : ℕ) : Type 0 where
  size_at : 2 + number s ≡ size
  kind_at : number (drop 2 s) ≡ kind
  status_at : at s 4 ≡ status
  life_at : lifetime_at lay s ≡ lifetime
  name_at : at s (5 + lifetime_bytes lay) ≡ length name
  after : drop (header_size lay) s ≡ name ++ (i ++ rest)
  long : length s ≡ size + length rest
  total : size ≡ header_size lay + (length name + length i)

module _ (lay : Layout) (s : List ℕ) (kind status lifetime : ℕ) (name i rest : List ℕ) (size : ℕ) (p : Laid lay s kind status lifetime name i rest size) where
  abbrev head : Header
  head = record { kind = kind; status = status; name = length name; size = size }

  read_header : header_of lay s ≡ Some head
  unfolding header_of
  read_header =
      simp (
        p.size_at,
        p.kind_at,
        p.status_at,
        p.name_at,
        le-ltb (length s) (header_size lay) (omega (arith, p.long, p.total)),
        le-ltb (length s) size (omega (arith, p.long)),
        le-ltb size (header_size lay + length name) (omega (arith, p.total)),
      )

  read_name : name_of lay s head ≡ name
  unfolding name_of
  read_name = ap (take (length name)) p.after ∙ take_at name (i ++ rest) (length name) refl

  read_bytes : item_bytes lay s head ≡ i
  unfolding item_bytes
  read_bytes =
      let a = header_size lay in
      let e : drop (a + length name) s ≡ i ++ rest =
      sym (drop-drop (length name) a s) ∙ ap (drop (length name)) p.after ∙ drop_at name (i ++ rest) (length name) refl in
      ap (take (size - (a + length name))) e ∙ take_at i rest (size - (a + length name)) (omega (arith, p.total))

may_none : (status : ℕ) (items : List (List ℕ)) → may_hold status items ≡ true → eqb status 0 ≡ false → items ≡ []
unfolding may_hold
may_none status [] h k = refl
may_none status (d ∷ ds) h k = let z : ◌≡◌ {A = ℕ} 0 1 = cc in cc

no_bytes : {kind : ℕ} {i : List ℕ} {items : List (List ℕ)} → Items kind i items → items ≡ [] → i ≡ []
no_bytes none e = refl
no_bytes (more t h r) e = let z : ◌≡◌ {A = ℕ} 0 1 = cc in cc

held_test : (kind status : ℕ) (i : List ℕ) (items : List (List ℕ)) → Items kind i items → may_hold status items ≡ true
    → cond (eqb status 0) (items_fit kind i) (eqb (length i) 0) ≡ true
held_test kind status i items it may =
    cond-elim (λ (b : Bool). b ≡ true) (eqb status 0) {x = items_fit kind i} {y = eqb (length i) 0}
    (λ _. (items_complete it).0)
    (λ k. eq-eqb (length i) 0 (ap length (no_bytes it (may_none status items may k))))

-- a lifetime's bytes are as many as the layout says
pub life_length : {lay : Layout} {life : List ℕ} {lifetime : ℕ} → Lifetime lay life lifetime → length life ≡ lifetime_bytes lay
unfolding lifetime_bytes
life_length no_lifetime = refl
life_length (seconds two two) = refl

laid_bytes : {lay : Layout} {l k life : List ℕ} {m kind lifetime : ℕ} → Two l m → Two k kind → Lifetime lay life lifetime
    → (status : ℕ) (name i rest : List ℕ) → m ≡ 4 + lifetime_bytes lay + (length name + length i)
    → Laid lay (l ++ (k ++ (status ∷ (life ++ (length name ∷ (name ++ (i ++ rest))))))) kind status lifetime name i rest (2 + m)
unfolding number lifetime_bytes lifetime_at
laid_bytes two two no_lifetime status name i rest e =
    record {
      size_at = refl;
      kind_at = refl;
      status_at = refl;
      life_at = refl;
      name_at = refl;
      after = refl;
      long = simp length-append (omega arith);
      total = omega arith;
    }
laid_bytes two two (seconds two two) status name i rest e =
    record {
      size_at = refl;
      kind_at = refl;
      status_at = refl;
      life_at = refl;
      name_at = refl;
      after = refl;
      long = simp length-append (omega arith);
      total = omega arith;
    }

-- bytes that lay out an entry, well-formed or not, read with anything after them
pub record LaidOut (lay : Layout) (w rest : List ℕ) (kind status lifetime : ℕ) (name i : List ℕ) : Type 0 where
  pub header : header_of lay (w ++ rest) ≡ Some (record { kind = kind; status = status; name = length name; size = length w })
  pub life_is : lifetime_at lay (w ++ rest) ≡ lifetime
  pub name_read : name_of lay (w ++ rest) (record { kind = kind; status = status; name = length name; size = length w }) ≡ name
  pub bytes_read : item_bytes lay (w ++ rest) (record { kind = kind; status = status; name = length name; size = length w }) ≡ i
  pub total : length w ≡ header_size lay + (length name + length i)

pub laid_out : {lay : Layout} {l k life : List ℕ} {kind lifetime : ℕ} (status : ℕ) (name i : List ℕ) → Two l (length (body k status life name i))
    → Two k kind → Lifetime lay life lifetime → (rest : List ℕ) → LaidOut lay (l ++ body k status life name i) rest kind status lifetime name i
unfolding body
laid_out {lay} {l} {k} {life} {kind} {lifetime} status name i tl tk tf rest =
    let b = k ++ (status ∷ (life ++ (length name ∷ (name ++ i)))) in
    let w = l ++ b in
    let m : length b ≡ 4 + lifetime_bytes lay + (length name + length i) =
    simp length-append (omega (arith, (two_front tk []).size, life_length tf)) in
    let size : length w ≡ 2 + length b = simp length-append (omega (arith, (two_front tl []).size)) in
    let p : Laid lay (w ++ rest) kind status lifetime name i rest (length w) = simp (append_assoc, size) (laid_bytes tl tk tf status name i rest m) in
    record {
      header = read_header lay (w ++ rest) kind status lifetime name i rest (length w) p;
      life_is = p.life_at;
      name_read = read_name lay (w ++ rest) kind status lifetime name i rest (length w) p;
      bytes_read = read_bytes lay (w ++ rest) kind status lifetime name i rest (length w) p;
      total = p.total;
    }

pub well_complete : {lay : Layout} {w : List ℕ} {e : Entry} → EncodesIn lay w e → (rest : List ℕ) → Read lay w rest e
unfolding is_well is_entry entry_of
well_complete (entry {name = name} {i = i} {kind = kind} {status = status} {items = items} tl tk tf hk hs hn it may) rest =
    let x = laid_out status name i tl tk tf rest in
    record {
      header = x.header;
      well = simp (hk, hs, x.name_read, hn, x.bytes_read) (held_test kind status i items it may);
      holds = simp (x.life_is, x.name_read, x.bytes_read, (items_complete it).1);
      some = omega (arith, x.total);
    }

-- and what it takes for malformed begins no entry
pub entry_none : {lay : Layout} {l k life : List ℕ} {kind lifetime : ℕ} (status : ℕ) (name i : List ℕ) → Two l (length (body k status life name i))
    → Two k kind → Lifetime lay life lifetime → is_entry kind status name i ≡ false → NoEntryIn lay (l ++ body k status life name i)
unfolding is_well
entry_none {lay} {l} {k} {life} {kind} status name i tl tk tf h w after e q p =
    let r = well_complete p after in
    let s = l ++ body k status life name i in
    let x = laid_out status name i tl tk tf [] in
    let o : s ++ [] ≡ s = append-nil s in
    let head : Header = record { kind = kind; status = status; name = length name; size = length s } in
    let f : head_of e (length w) ≡ head = let g : Some (head_of e (length w)) ≡ Some head = cc (q, r.header, o, x.header) in cc in
    let a : is_well lay s head ≡ true = subst (λ (y : Header). is_well lay s y ≡ true) f (rw q r.well) in
    let b : is_well lay s head ≡ false = rw (rw o at x.name_read, rw o at x.bytes_read) h in
    true_false (is_well lay s head) a b
