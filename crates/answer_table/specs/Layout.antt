-- The answer table as productions: entries "end to end", all numbers "Little-endian". There are two layouts, that of 01 and the one of 02, which amends it:
-- they differ only in the bytes of a lifetime, so all is said once over the layout. Encodes and Entries are those of the tables that are evaluated.
use Rattle.std.specs.Prelude.{ℕ, ◌+◌, ◌*◌, ◌≡◌, List, [], ◌∷◌, ◌++◌, Bool, true, false, cond, not, ◌&&◌, ◌||◌, length, drop, leb, eqb}
use Rattle.text.specs.Lists.{same}
use Rattle.domain.specs.Names.{is_table_name}
use Rattle.answer_table.specs.declared.Layout.{Layout}
use Rattle.answer_table.specs.declared.Layout.TheVariants.{Old, New}

-- what an entry holds
pub record Entry : Type 0 where
  pub kind : ℕ
  pub status : ℕ
  pub lifetime : ℕ
  pub name : List ℕ
  pub items : List (List ℕ)

-- the kinds by name: "the DNS type asked (1 A, 12 PTR, 15 MX, 16 TXT, 28 AAAA, 99 SPF)"
abbrev pub kind_a : ℕ
kind_a = 1

abbrev pub kind_ptr : ℕ
kind_ptr = 12

abbrev pub kind_mx : ℕ
kind_mx = 15

abbrev pub kind_txt : ℕ
kind_txt = 16

abbrev pub kind_aaaa : ℕ
kind_aaaa = 28

-- W-207 amends the house rules: its entries are "still checked for 25 and 26, then ignored"
abbrev pub kind_spf : ℕ
kind_spf = 99

-- "2-byte kind"
unfoldable pub is_kind : ℕ → Bool
is_kind k = eqb k kind_a || (eqb k kind_ptr || (eqb k kind_mx || (eqb k kind_txt || (eqb k kind_aaaa || eqb k kind_spf))))

-- the statuses by name: "(0 answered, 2 failed, 3 no such name)"
abbrev pub status_answered : ℕ
status_answered = 0

abbrev pub status_failed : ℕ
status_failed = 2

abbrev pub status_no_such_name : ℕ
status_no_such_name = 3

-- "1-byte status"
unfoldable pub is_status : ℕ → Bool
is_status s = eqb s status_answered || (eqb s status_failed || eqb s status_no_such_name)

-- "MX a 2-byte preference and a name or nothing"
unfoldable pub is_mail_exchange : List ℕ → Bool
is_mail_exchange d = cond (eqb (length d) 2) true (leb 2 (length d) && is_table_name (drop 2 d))

-- "a text of 0 to 4,096 bytes"
abbrev pub most_text_bytes : ℕ
most_text_bytes = 4096

-- "A item 4 bytes; AAAA 16; PTR a name; MX ..; TXT and SPF a text of 0 to 4,096 bytes"
unfoldable pub is_item : ℕ → List ℕ → Bool
is_item kind d =
    cond (eqb kind kind_a) (eqb (length d) 4)
    (cond (eqb kind kind_aaaa) (eqb (length d) 16)
    (cond (eqb kind kind_ptr) (is_table_name d)
    (cond (eqb kind kind_mx) (is_mail_exchange d)
    (leb (length d) most_text_bytes))))

-- a 2-byte number, little-endian
pub data Two : List ℕ → ℕ → Type 0 where
  two : {a b : ℕ} → Two (a ∷ b ∷ []) (a + 256 * b)

-- "items, each a 2-byte length and its bytes, up to the entry's end"
pub data Items (kind : ℕ) : List ℕ → List (List ℕ) → Type 0 where
  none : Items kind [] []
  more : {n d rest : List ℕ} {ds : List (List ℕ)} → Two n (length d) → is_item kind d ≡ true → Items kind rest ds
      → Items kind (n ++ (d ++ rest)) (d ∷ ds)

-- "Status 2 or 3 has no items."
unfoldable pub may_hold : ℕ → List (List ℕ) → Bool
may_hold status [] = true
may_hold status (d ∷ ds) = eqb status status_answered

-- how many bytes of a lifetime stand in an entry
unfoldable pub lifetime_bytes : Layout → ℕ
lifetime_bytes Old = 0
lifetime_bytes New = 4

-- 02 amends 01 (W-209): "Every entry gains a 4-byte lifetime in seconds after its status byte", of any value for any status; 01's entries have none
pub data Lifetime : Layout → List ℕ → ℕ → Type 0 where
  no_lifetime : Lifetime Old [] 0
  seconds : {low high : List ℕ} {a b : ℕ} → Two low a → Two high b → Lifetime New (low ++ high) (a + 65536 * b)

-- all that follows an entry's length: kind, status, lifetime, name length, name, items
unfoldable pub body : List ℕ → ℕ → (life name i : List ℕ) → List ℕ
body k status life name i = k ++ (status ∷ (life ++ (length name ∷ (name ++ i))))

-- what stands before an entry's name: its length, kind, status, lifetime and name length
abbrev pub header_size : Layout → ℕ
header_size lay = 6 + lifetime_bytes lay

-- "An entry: 2-byte length of all that follows in it; 2-byte kind ..; 1-byte status ..; 1-byte name length; the name; then items", with the lifetime
-- after the status
pub data EncodesIn (lay : Layout) : List ℕ → Entry → Type 0 where
  entry : {l k life name i : List ℕ} {kind status lifetime : ℕ} {items : List (List ℕ)} → Two l (length (body k status life name i)) → Two k kind
      → Lifetime lay life lifetime → is_kind kind ≡ true → is_status status ≡ true → is_table_name name ≡ true → Items kind i items
      → may_hold status items ≡ true
      → EncodesIn lay (l ++ body k status life name i) (record { kind = kind; status = status; lifetime = lifetime; name = name; items = items })

abbrev pub Encodes : List ℕ → Entry → Type 0
Encodes = EncodesIn New

-- "entries, end to end; an empty table is allowed"
pub data EntriesIn (lay : Layout) : List ℕ → List Entry → Type 0 where
  none : EntriesIn lay [] []
  more : {w rest : List ℕ} {e : Entry} {es : List Entry} → EncodesIn lay w e → EntriesIn lay rest es → EntriesIn lay (w ++ rest) (e ∷ es)

abbrev pub Entries : List ℕ → List Entry → Type 0
Entries = EntriesIn New

-- whether an entry is of a kind and name pair
unfoldable pub is_pair : ℕ → List ℕ → Entry → Bool
is_pair kind name e = eqb e.kind kind && same e.name name

-- whether a pair stands among entries
unfoldable pub holds : ℕ → List ℕ → List Entry → Bool
holds kind name [] = false
holds kind name (e ∷ es) = is_pair kind name e || holds kind name es

-- an entry stands among entries
pub data Among (e : Entry) : List Entry → Type 0 where
  first : {es : List Entry} → Among e (e ∷ es)
  later : {f : Entry} {es : List Entry} → Among e es → Among e (f ∷ es)

-- "No kind and name pair occurs twice."
unfoldable pub distinct : List Entry → Bool
distinct [] = true
distinct (e ∷ es) = not (holds e.kind e.name es) && distinct es
