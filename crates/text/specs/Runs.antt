-- The longest run of a class of bytes.
use Rattle.std.specs.Prelude.{ℕ, suc, ◌+◌, ◌<◌, ◌≡◌, List, [], ◌∷◌, Bool, cond, drop}
use Rattle.text.specs.Lists.{all}
use Rattle.text.specs.Bytes.{is_space, is_not_space, is_not_dot, is_not_colon, is_not_slash, is_upper, is_not_upper, is_alpha, is_digit, is_length_byte, is_alphanumeric, is_hex_digit, is_visible, is_printable, is_label_byte, is_table_label_byte, is_name_byte, is_toplabel_byte, is_macro_literal, is_delimiter}
use Rattle.text.specs.declared.bytes.Class.{Class}
use Rattle.text.specs.declared.bytes.Class.TheVariants.{Space, NotSpace, NotDot, NotColon, NotSlash, Upper, NotUpper, Alpha, Digit, LengthByte, Alphanumeric, HexDigit, Visible, Printable, LabelByte, TableLabelByte, NameByte, ToplabelByte, MacroLiteral, Delimiter}

-- the test of a class
unfoldable pub is_in : Class → ℕ → Bool
is_in Space b = is_space b
is_in NotSpace b = is_not_space b
is_in NotDot b = is_not_dot b
is_in NotColon b = is_not_colon b
is_in NotSlash b = is_not_slash b
is_in Upper b = is_upper b
is_in NotUpper b = is_not_upper b
is_in Alpha b = is_alpha b
is_in Digit b = is_digit b
is_in LengthByte b = is_length_byte b
is_in Alphanumeric b = is_alphanumeric b
is_in HexDigit b = is_hex_digit b
is_in Visible b = is_visible b
is_in Printable b = is_printable b
is_in LabelByte b = is_label_byte b
is_in TableLabelByte b = is_table_label_byte b
is_in NameByte b = is_name_byte b
is_in ToplabelByte b = is_toplabel_byte b
is_in MacroLiteral b = is_macro_literal b
is_in Delimiter b = is_delimiter b

-- what a closure answers of each byte is what a test says
abbrev pub Answers : (ℕ → Bool → Type 0) → (ℕ → Bool) → Type 0
Answers post p = (b : ℕ) (r : Bool) → b < 256 → post b r → r ≡ p b

-- how many bytes at the front of a list pass a test
unfoldable pub run : (ℕ → Bool) → List ℕ → ℕ
run p [] = 0
run p (x ∷ xs) = cond (p x) (suc (run p xs)) 0

-- the end of the longest run from a place on
unfoldable pub run_end : (ℕ → Bool) → List ℕ → ℕ → ℕ
run_end p s i = i + run p (drop i s)

-- the start of the longest run that ends where the list ends: the first place from which all bytes pass the test
unfoldable pub trailing_start : (ℕ → Bool) → List ℕ → ℕ
trailing_start p [] = 0
trailing_start p (x ∷ xs) = cond (all p (x ∷ xs)) 0 (suc (trailing_start p xs))
