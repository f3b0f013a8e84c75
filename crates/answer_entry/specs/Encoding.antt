-- The bytes of an entry of an answer table: by the layout, and as they are written, for any kind, status, lifetime, name and items.
use Rattle.std.specs.Prelude.{ℕ, ◌+◌, ◌/◌, ◌%◌, List, [], ◌∷◌, ◌++◌, length}
use Rattle.answer_table.specs.Layout.{body}

-- a number in two bytes, the lower one first; of a number over 65,535 the higher one is no byte
unfoldable pub two_bytes : ℕ → List ℕ
two_bytes n = n % 256 ∷ n / 256 ∷ []

-- a number in four bytes, the lowest first; of a number over 4,294,967,295 the highest one is no byte
unfoldable pub four_bytes : ℕ → List ℕ
four_bytes n = n % 256 ∷ n / 256 % 256 ∷ n / 65536 % 256 ∷ n / 16777216 ∷ []

-- "2-byte length of all that follows in it", then the kind, the status, the lifetime, the name and the items
unfoldable pub entry_bytes : (kind status lifetime : ℕ) (name items : List ℕ) → List ℕ
entry_bytes kind status lifetime name items =
    two_bytes (length (body (two_bytes kind) status (four_bytes lifetime) name items)) ++ body (two_bytes kind) status (four_bytes lifetime) name items

-- what is written of a number: its two low bytes
unfoldable pub low_bytes : ℕ → List ℕ
low_bytes n = n % 256 ∷ n / 256 % 256 ∷ []

-- what is written of a kind, a status, a lifetime and a name: of the name's length the low byte
unfoldable pub head_bytes : (kind status lifetime : ℕ) (name : List ℕ) → List ℕ
head_bytes kind status lifetime name = low_bytes kind ++ (status ∷ []) ++ four_bytes lifetime ++ (length name % 256 ∷ []) ++ name

-- what is written of an entry; `written_is` (Laws/Encoding) says when these are its bytes
unfoldable pub written_bytes : (kind status lifetime : ℕ) (name items : List ℕ) → List ℕ
written_bytes kind status lifetime name items = low_bytes (8 + length name % 256 + length items % 65536) ++ head_bytes kind status lifetime name ++ items
