-- The new table of an old one: there is one (`rewritten_some`), longer by four bytes for each entry, and no other (`rewritten_one`); its entries are
-- those of the old one, whose lifetimes are 0 (`same_entries`), and it is accepted with as many (`new_accepted`). From the productions and the laws of
-- `answer_table` on one entry.
use Rattle.std.proofs.Common.{Some}
use Prim.Native.Nat.{ℕ, ◌+◌, ◌*◌, ◌≤◌}
use Rattle.answer_table.specs.declared.entries.Header.{Header}
use mathlib.Core.Path.{◌≡◌, refl, sym, ap, ◌∙◌}
use mathlib.Core.List.{List, [], ◌++◌, append_assoc}
use native.Mathlib.Omega.{arith}
use lib.ListN.{length, take, drop, length-append}
use lib.Seq.{drop-append_seam}
use Rattle.answer_table.specs.Layout.{Entry, Two, two, Lifetime, no_lifetime, body, entry, EntriesIn, none, more}
use Rattle.answer_table.specs.Numbers.{accepted}
use Rattle.answer_table.specs.Answers.{most_bytes, EncodedIn, TableAnswersIn, whole}
use Rattle.answer_table.specs.declared.Layout.TheVariants.{Old, New}
use Rattle.answer_table.proofs.Laws.Items.{two_front}
use Rattle.answer_table.proofs.Laws.Encoding.{laid_out, well_complete}
use Rattle.answer_entry.specs.Encoding.{two_bytes, four_bytes}
use Rattle.answer_entry.proofs.Laws.Encoding.{two_bytes_lem, four_bytes_lem}
use Rattle.old_layout.specs.Rewriting.{zeros, new_entry, Rewritten}

-- a lifetime of 0
zero_life : Lifetime New zeros 0
unfolding four_bytes
zero_life = four_bytes_lem 0

-- the two bytes of the kind
kind_bytes : {l k : List ℕ} {m kind : ℕ} → Two l m → Two k kind → (after : List ℕ) → take 2 (drop 2 (l ++ (k ++ after))) ≡ k
kind_bytes two two after = refl

module _ {l k : List ℕ} {m kind : ℕ} (tl : Two l m) (tk : Two k kind) (status : ℕ) (name i : List ℕ) where
  kind_at : (rest : List ℕ) → take 2 (drop 2 (l ++ body k status [] name i ++ rest)) ≡ k
  unfolding body
  kind_at rest = simp append_assoc (kind_bytes tl tk _)

  -- an entry gains four bytes
  pub entry_longer : length (new_entry k status name i) ≡ length (l ++ body k status [] name i) + 4
  unfolding new_entry two_bytes body
  entry_longer = simp length-append (omega (arith, (two_front tl []).size))

  entry_some : (rest : List ℕ) → [] ≡ l ++ body k status [] name i ++ rest → ⊥
  entry_some rest e =
      omega (arith, ap length e, length-append (l ++ body k status [] name i) rest, length-append l (body k status [] name i), (two_front tl []).size)

-- the entry at the front of an old table is read in one way
record SameFront (k k' : List ℕ) (status status' : ℕ) (name name' i i' rest rest' : List ℕ) : Type 0 where
  same_kind : k ≡ k'
  same_status : status ≡ status'
  same_name : name ≡ name'
  same_items : i ≡ i'
  same_rest : rest ≡ rest'

front_one : {l l' k k' : List ℕ} {kind kind' : ℕ} (status status' : ℕ) (name name' i i' : List ℕ) → Two l (length (body k status [] name i)) → Two k kind
    → Two l' (length (body k' status' [] name' i')) → Two k' kind' → (rest rest' : List ℕ)
    → l ++ body k status [] name i ++ rest ≡ l' ++ body k' status' [] name' i' ++ rest' → SameFront k k' status status' name name' i i' rest rest'
front_one {l} {l'} {k} {k'} {kind} {kind'} status status' name name' i i' tl tk tl' tk' rest rest' q =
    let x = laid_out status name i tl tk no_lifetime rest in
    let y = laid_out status' name' i' tl' tk' no_lifetime rest' in
    let d = drop-append_seam (l ++ body k status [] name i) rest in
    let d' = drop-append_seam (l' ++ body k' status' [] name' i') rest' in
    let a = kind_at tl tk status name i rest in
    let a' = kind_at tl' tk' status' name' i' rest' in
    let h : Header = record { kind = kind; status = status; name = length name; size = length (l ++ body k status [] name i) } in
    let h' : Header = record { kind = kind'; status = status'; name = length name'; size = length (l' ++ body k' status' [] name' i') } in
    let o : Some h ≡ Some h' = cc (x.header, y.header) in
    let e : h ≡ h' = cc in
    let size = ap (λ (h : Header). h.size) e in
    record {
      same_kind = cc;
      same_status = ap (λ (h : Header). h.status) e;
      same_name = cc (x.name_read, y.name_read);
      same_items = cc (x.bytes_read, y.bytes_read);
      same_rest = cc;
    }

-- there is one new table only
one_of : {old old' new new' : List ℕ} → Rewritten old new → Rewritten old' new' → old ≡ old' → new ≡ new'
one_of Rewritten.none Rewritten.none e = refl
one_of Rewritten.none (Rewritten.more {rest = rest} status name i tl tk r) e = absurd (entry_some tl tk status name i rest e)
one_of (Rewritten.more {rest = rest} status name i tl tk r) Rewritten.none e = absurd (entry_some tl tk status name i rest (sym e))
one_of (Rewritten.more {rest = rest} status name i tl tk r) (Rewritten.more {rest = rest'} status' name' i' tl' tk' r') e =
    let a = front_one status status' name name' i i' tl tk tl' tk' rest rest' e in
    rw (a.same_kind, a.same_status, a.same_name, a.same_items, one_of r r' a.same_rest)

pub rewritten_one : {old new new' : List ℕ} → Rewritten old new → Rewritten old new' → new ≡ new'
rewritten_one p q = one_of p q refl

-- the entries of the new table are those of the old one
same_of : {old old' new : List ℕ} {es : List Entry} → EntriesIn Old old es → Rewritten old' new → old ≡ old' → EntriesIn New new es
unfolding new_entry
same_of none Rewritten.none e = none
same_of none (Rewritten.more {rest = rest} status name i tl tk r) e = absurd (entry_some tl tk status name i rest e)
same_of (more {w = w} {rest = rest} x p) Rewritten.none e = absurd (omega (arith, (well_complete x []).some, ap length e, length-append w rest))
same_of (more {rest = rest} (entry {name = name} {i = i} {status = status} tl tk no_lifetime hk hs hn it may) p) (Rewritten.more {rest = u} s n j tl' tk' r) e =
    let a = front_one status s name n i j tl tk tl' tk' rest u e in
    rw (← a.same_kind, ← a.same_status, ← a.same_name, ← a.same_items)
    (more (entry (two_bytes_lem _) tk zero_life hk hs hn it may) (same_of p r a.same_rest))

pub same_entries : {old new : List ℕ} {es : List Entry} → EntriesIn Old old es → Rewritten old new → EntriesIn New new es
same_entries p r = same_of p r refl

-- there is one, by its length
pub rewritten_some : {old : List ℕ} {es : List Entry} → EntriesIn Old old es → (new : List ℕ) × Rewritten old new × (length new ≡ length old + 4 * length es)
rewritten_some none = ([], Rewritten.none, refl)
rewritten_some (more {rest = rest} (entry {l = l} {k = k} {name = name} {i = i} {status = status} tl tk no_lifetime hk hs hn it may) p) =
    let r = rewritten_some p in
    let n = new_entry k status name i in (
      n ++ r.0,
      Rewritten.more status name i tl tk r.1,
      omega (arith, length-append n r.0, length-append (l ++ body k status [] name i) rest, entry_longer tl tk status name i, r.2),
    )

pub rewritten_length : {old new : List ℕ} {es : List Entry} → EntriesIn Old old es → Rewritten old new → length new ≡ length old + 4 * length es
rewritten_length p r = let s = rewritten_some p in ap length (rewritten_one r s.1) ∙ s.2

-- a new table that isn't too long is accepted, with as many entries
pub new_accepted : {old new : List ℕ} {es : List Entry} → EncodedIn Old old es → Rewritten old new → length new ≤ most_bytes
    → TableAnswersIn New new (accepted (length es))
new_accepted p r h = whole h (record { entries = same_entries p.entries r; few = p.few; once = p.once })
