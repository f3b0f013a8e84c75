-- Where an item stands in a table, by the productions of its layout. No reader is named.
use Rattle.std.specs.Prelude.{ℕ, ◌≡◌, List, ◌++◌, length}
use Rattle.answer_table.specs.Layout.{Entry, Two, Items, Lifetime, body, EncodesIn, EntriesIn}
use Rattle.answer_table.specs.declared.Layout.{Layout}
use Rattle.answer_table.specs.declared.Layout.TheVariants.{New}

-- The item s of the entry of a kind and a name stands at the byte p of the table t. Before the entry stand whole entries, and before the item the entry's
-- own header, its name, whole items and the item's length; p is the length of all that.
pub record ItemIn (lay : Layout) (t : List ℕ) (kind : ℕ) (name s : List ℕ) (p : ℕ) : Type 0 where
  -- the entries before it, and the bytes after its own entry
  pub front : List ℕ
  pub entries : List Entry
  pub rest : List ℕ
  -- its entry's length, kind, status and lifetime, and what the entry holds
  pub size_bytes : List ℕ
  pub kind_bytes : List ℕ
  pub status : ℕ
  pub life_bytes : List ℕ
  pub lifetime : ℕ
  pub items : List (List ℕ)
  -- the items before it, its own length, and the items after it
  pub before : List ℕ
  pub before_items : List (List ℕ)
  pub length_bytes : List ℕ
  pub after : List ℕ
  pub table : t ≡ front ++ ((size_bytes ++ body kind_bytes status life_bytes name (before ++ (length_bytes ++ (s ++ after)))) ++ rest)
  pub entries_before : EntriesIn lay front entries
  pub size_of_entry : Two size_bytes (length (body kind_bytes status life_bytes name (before ++ (length_bytes ++ (s ++ after)))))
  pub kind_of_entry : Two kind_bytes kind
  pub lifetime_of_entry : Lifetime lay life_bytes lifetime
  pub entry : EncodesIn lay (size_bytes ++ body kind_bytes status life_bytes name (before ++ (length_bytes ++ (s ++ after))))
      (record { kind = kind; status = status; lifetime = lifetime; name = name; items = items })
  pub items_before : Items kind before before_items
  pub length_of_item : Two length_bytes (length s)
  pub place : p ≡ length (front ++ (size_bytes ++ body kind_bytes status life_bytes name (before ++ length_bytes)))

abbrev pub ItemAt : List ℕ → (kind : ℕ) (name s : List ℕ) (p : ℕ) → Type 0
ItemAt = ItemIn New
