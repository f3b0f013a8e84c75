-- The Received-SPF line as a production: the header field of RFC 7208 section 9.1 in the form that W-202 fixes. It relates the result's number and the
-- five values to the line's bytes and to where each value's part stands. Nothing of a reader is imported.
use Rattle.std.specs.Prelude.{ℕ, ◌+◌, List, [], ◌∷◌, ◌++◌, length}
use Rattle.text.specs.Texts.{bytes}
use Rattle.received.specs.Atoms.{DotAtomText}
use Rattle.received.specs.Quoting.{escaped, quoted}
use Rattle.text.specs.declared.spans.Span.{Span as Part}
use Rattle.received.specs.declared.Parts.{Parts}

-- result = "Pass" / "Fail" / "SoftFail" / "Neutral" / "None" / "TempError" / "PermError": the result's word, in lower case, by its number
pub data Word : ℕ → List ℕ → Type 0 where
  none : Word 0 (bytes "none")
  neutral : Word 1 (bytes "neutral")
  pass : Word 2 (bytes "pass")
  fail : Word 3 (bytes "fail")
  softfail : Word 4 (bytes "softfail")
  temperror : Word 5 (bytes "temperror")
  permerror : Word 6 (bytes "permerror")

-- the field's name, its colon and a space
abbrev pub opening : List ℕ
opening = bytes "Received-SPF: "

-- CR LF
abbrev pub crlf : List ℕ
crlf = 13 ∷ 10 ∷ []

-- the part of these bytes that begins at a place
abbrev pub part_from : ℕ → List ℕ → Part
part_from p w = record { from = p; to = p + length w }

-- key-value-pair = key "=" ( dot-atom / quoted-string ), behind what joins it to the line; it begins at a place. "A value that isn't dot-atom-text is
-- quoted"; "each value's part of the line, without quotes".
pub data Pair (key value : List ℕ) (place : ℕ) : List ℕ → Part → Type 0 where
  as_it_stands : DotAtomText value → Pair key value place (key ++ value) (part_from (place + length key) value)
  in_quotes : (DotAtomText value → ⊥) → Pair key value place (key ++ quoted value) (part_from (place + length key + 1) (escaped value))

-- the five values
pub record Values : Type 0 where
  pub receiver : List ℕ
  pub client : List ℕ
  pub sender : List ℕ
  pub helo : List ℕ
  pub identity : List ℕ

-- "`Received-SPF: `, the result's word, a space, then `receiver=`, `client-ip=` .., `envelope-from=`, `helo=`, `identity=` and their values joined by
-- `; `, and CRLF": each pair begins where what stands before it ends
pub data Line (result : ℕ) (v : Values) : List ℕ → Parts → Type 0 where
  line : {word a b c d e : List ℕ} {p q r s t : Part} → Word result word
      → Pair (bytes " receiver=") v.receiver (length opening + length word) a p
      → Pair (bytes "; client-ip=") v.client (length opening + length word + length a) b q
      → Pair (bytes "; envelope-from=") v.sender (length opening + length word + length a + length b) c r
      → Pair (bytes "; helo=") v.helo (length opening + length word + length a + length b + length c) d s
      → Pair (bytes "; identity=") v.identity (length opening + length word + length a + length b + length c + length d) e t
      → Line result v (opening ++ (word ++ (a ++ (b ++ (c ++ (d ++ (e ++ crlf)))))))
      (record { result = result; receiver = p; client = q; sender = r; helo = s; identity = t })
