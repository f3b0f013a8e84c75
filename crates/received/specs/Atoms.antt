-- dot-atom-text as a production: RFC 5322 section 3.2.3, in its names.
use Rattle.std.specs.Prelude.{ℕ, ◌≤◌, ◌≡◌, List, ◌++◌, Bool, true, ◌||◌, length}
use Rattle.text.specs.Bytes.{is_alphanumeric}
use Rattle.text.specs.Lists.{all, contains}
use Rattle.text.specs.Texts.{bytes}

-- atext = ALPHA / DIGIT / "!" / "#" / "$" / "%" / "&" / "'" / "*" / "+" / "-" / "/" / "=" / "?" / "^" / "_" / "`" / "{" / "|" / "}" / "~"
unfoldable pub is_atext : ℕ → Bool
is_atext b = is_alphanumeric b || contains (bytes "!#$%&'*+-/=?^_`{|}~") b

-- 1*atext
pub record Atom (u : List ℕ) : Type 0 where
  pub some : 1 ≤ length u
  pub bytes_of : all is_atext u ≡ true

-- dot-atom-text = 1*atext *("." 1*atext)
pub data DotAtomText : List ℕ → Type 0 where
  last : {u : List ℕ} → Atom u → DotAtomText u
  dotted : {u w : List ℕ} → Atom u → DotAtomText w → DotAtomText (u ++ (bytes "." ++ w))
