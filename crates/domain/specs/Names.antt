-- Domain names by their labels.
use Rattle.std.specs.Prelude.{ℕ, List, Bool, ◌&&◌, length}
use Rattle.text.specs.Bytes.{is_dot, is_visible, is_not_upper, within}
use Rattle.text.specs.Lists.{same, all, split, join, rightmost}

-- the parts of a name between its dots
unfoldable pub labels : List ℕ → List (List ℕ)
labels s = split is_dot s

-- "labels of 1 to 63 bytes ..., each byte 33 to 126"
unfoldable pub is_label : List ℕ → Bool
is_label l = within 1 63 (length l) && all is_visible l

-- a label of 1 to 63 bytes that pass a test: `is_label` is that of visible bytes; and whether every label of a name is one
abbrev pub label_of : (ℕ → Bool) → List ℕ → Bool
label_of q l = within 1 63 (length l) && all q l

abbrev pub all_fit : (ℕ → Bool) → List ℕ → Bool
all_fit q s = all (label_of q) (labels s)

-- the longest name: "1 to 253 bytes"
abbrev pub most_name : ℕ
most_name = 253

-- "A name is 1 to 253 bytes, labels of 1 to 63 bytes joined by dots, each byte 33 to 126"
unfoldable pub is_name : List ℕ → Bool
is_name s = within 1 most_name (length s) && all is_label (labels s)

-- "in the table no A to Z"
unfoldable pub is_table_name : List ℕ → Bool
is_table_name s = is_name s && all is_not_upper s

-- how many labels
unfoldable pub label_count : List ℕ → ℕ
label_count s = length (labels s)

-- "it is the target or below it": the name's last labels, as many as the target has, make the target
unfoldable pub at_or_below : List ℕ → List ℕ → Bool
at_or_below name target = same (join (rightmost (label_count target) (labels name))) target
