-- Macro strings as productions: RFC 7208 section 7.1 in the RFC's names, each rule after those that it uses, with the house amendments, which are quoted.
-- Each relates bytes to their pieces. Any split that the ABNF allows is a derivation; nothing of a reader is imported. The rules of one byte are
-- classes of `text`: alphanum is is_alphanumeric, macro-literal is_macro_literal, delimiter is_delimiter, and alphanum / "-" is_toplabel_byte.
use Rattle.std.specs.Prelude.{ℕ, ◌≡◌, List, [], ◌∷◌, ◌++◌, map, Bool, true, false, ◌&&◌, ◌||◌, length, leb, eqb}
use Rattle.text.specs.Bytes.{lower, is_alpha, is_digit, is_alphanumeric, is_toplabel_byte, is_macro_literal, is_delimiter}
use Rattle.text.specs.Decimal.{decimal}
use Rattle.text.specs.Lists.{all, contains}
use Rattle.text.specs.Texts.{bytes}
use Rattle.macros.specs.declared.Form.{Form}
use Rattle.macros.specs.declared.Form.TheVariants.{ModifierValue, Explanation}

-- a macro in braces: its letter as it stands, its digits, whether r stands, its delimiters
pub record Macro : Type 0 where
  pub letter : ℕ
  pub digits : List ℕ
  pub reversed : Bool
  pub delimiters : List ℕ

-- a piece of a macro string: a byte as it stands; `%%`, `%_` or `%-`, by its second byte; or a macro in braces
pub data Piece : Type 0 where
  literal : ℕ → Piece
  escape : ℕ → Piece
  expand : Macro → Piece

-- macro-letter = "s" / "l" / "o" / "d" / "i" / "p" / "h" / "c" / "r" / "t" / "v", in either case. "Letters c, r and t are outside the grammar in
-- a domain-spec; in an unknown modifier's value and in explanation text they are inside."
unfoldable pub is_letter : Form → ℕ → Bool
is_letter Form.DomainSpec b = contains (bytes "slodipvh") (lower b)
is_letter ModifierValue b = contains (bytes "slodipvhcrt") (lower b)
is_letter Explanation b = contains (bytes "slodipvhcrt") (lower b)

-- *DIGIT: "Macro digits have a value above 0; leading zeros are allowed"
unfoldable pub is_part_count : List ℕ → Bool
is_part_count digits = all is_digit digits && (eqb (length digits) 0 || leb 1 (decimal digits))

-- [ "r" ], in either case
pub data Reversal : List ℕ → Bool → Type 0 where
  absent : Reversal [] false
  present : {b : ℕ} → eqb (lower b) 114 ≡ true → Reversal (b ∷ []) true

-- macro-expand = ( "%{" macro-letter transformers *delimiter "}" ) / "%%" / "%_" / "%-"
-- transformers = *DIGIT [ "r" ]
pub data MacroExpand (form : Form) : List ℕ → Piece → Type 0 where
  braces : {letter : ℕ} {digits r delimiters : List ℕ} {reversed : Bool} → is_letter form letter ≡ true → is_part_count digits ≡ true
      → Reversal r reversed → all is_delimiter delimiters ≡ true
      → MacroExpand form (bytes "%{" ++ (letter ∷ (digits ++ (r ++ (delimiters ++ bytes "}")))))
      (expand (record { letter = letter; digits = digits; reversed = reversed; delimiters = delimiters }))
  percent : MacroExpand form (bytes "%%") (escape 37)
  underscore : MacroExpand form (bytes "%_") (escape 95)
  hyphen : MacroExpand form (bytes "%-") (escape 45)

-- macro-string = *( macro-expand / macro-literal )
pub data MacroString (form : Form) : List ℕ → List Piece → Type 0 where
  none : MacroString form [] []
  expands : {w rest : List ℕ} {p : Piece} {ps : List Piece} → MacroExpand form w p → MacroString form rest ps → MacroString form (w ++ rest) (p ∷ ps)
  literals : {b : ℕ} {rest : List ℕ} {ps : List Piece} → is_macro_literal b ≡ true → MacroString form rest ps → MacroString form (b ∷ rest) (literal b ∷ ps)

-- toplabel = ( *alphanum ALPHA *alphanum ) / ( 1*alphanum "-" *( alphanum / "-" ) alphanum )
pub data Toplabel : List ℕ → Type 0 where
  letters : (u w : List ℕ) (b : ℕ) → all is_alphanumeric u ≡ true → is_alpha b ≡ true → all is_alphanumeric w ≡ true → Toplabel (u ++ (b ∷ w))
  hyphens : (u w : List ℕ) (a z : ℕ) → is_alphanumeric a ≡ true → all is_alphanumeric u ≡ true → all is_toplabel_byte w ≡ true → is_alphanumeric z ≡ true
      → Toplabel ((a ∷ u) ++ (bytes "-" ++ (w ++ (z ∷ []))))

-- domain-end = ( "." toplabel [ "." ] ) / macro-expand
pub data DomainEnd : List ℕ → List Piece → Type 0 where
  label : {w : List ℕ} → Toplabel w → DomainEnd (bytes "." ++ w) (map literal (bytes "." ++ w))
  label_dot : {w : List ℕ} → Toplabel w → DomainEnd (bytes "." ++ (w ++ bytes ".")) (map literal (bytes "." ++ (w ++ bytes ".")))
  expands : {w : List ℕ} {p : Piece} → MacroExpand Form.DomainSpec w p → DomainEnd w (p ∷ [])

-- domain-spec = macro-string domain-end
pub data DomainSpec : List ℕ → List Piece → Type 0 where
  spec : {u w : List ℕ} {ps qs : List Piece} → MacroString Form.DomainSpec u ps → DomainEnd w qs → DomainSpec (u ++ w) (ps ++ qs)

-- explain-string = *( macro-string / SP )
pub data ExplainString : List ℕ → List Piece → Type 0 where
  none : ExplainString [] []
  string : {w rest : List ℕ} {ps qs : List Piece} → MacroString Explanation w ps → ExplainString rest qs → ExplainString (w ++ rest) (ps ++ qs)
  space : {rest : List ℕ} {qs : List Piece} → ExplainString rest qs → ExplainString (bytes " " ++ rest) (literal 32 ∷ qs)

-- what each form produces: a domain-spec, a macro-string, an explain-string
abbrev pub Produces : Form → List ℕ → List Piece → Type 0
Produces Form.DomainSpec s ps = DomainSpec s ps
Produces ModifierValue s ps = MacroString ModifierValue s ps
Produces Explanation s ps = ExplainString s ps
