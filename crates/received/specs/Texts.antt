-- For private functions: the line as text, piece by piece, and where its parts stand; the laws tie both to the production.
use Rattle.std.specs.Prelude.{ℕ, ◌+◌, List, ◌++◌, cond, ◌&&◌, length, eqb, leb, ltb, Ok, Err}
use Rattle.text.specs.Texts.{bytes}
use Rattle.macros.specs.Expansion.{is_sender, is_host}
use Rattle.received.specs.Quoting.{escaped, quoted}
use Rattle.received.specs.Line.{opening, crlf, part_from}
use Rattle.received.specs.Numbers.{Outcome}
use Rattle.received.specs.Answers.{Given, values_of, most_line}
use Rattle.received.specs.States.{is_dot_atom_text}
use Rattle.text.specs.declared.spans.Span.{Span as Part}
use Rattle.received.specs.declared.Parts.{Parts}
use Rattle.received.specs.declared.LineError.TheVariants.{Sender, Host, NoRoom, NoResult}

unfoldable pub word_of : ℕ → List ℕ
word_of n =
    cond (eqb n 0) (bytes "none")
    (cond (eqb n 1) (bytes "neutral")
    (cond (eqb n 2) (bytes "pass")
    (cond (eqb n 3) (bytes "fail")
    (cond (eqb n 4) (bytes "softfail")
    (cond (eqb n 5) (bytes "temperror")
    (bytes "permerror"))))))

-- a value as the line shows it
unfoldable pub formed : List ℕ → List ℕ
formed v = cond (is_dot_atom_text v) v (quoted v)

-- the part of a value that the line shows from a place on
unfoldable pub shown : ℕ → List ℕ → Part
shown p v = cond (is_dot_atom_text v) (part_from p v) (part_from (p + 1) (escaped v))

-- a key and its value
abbrev pub pair : List ℕ → List ℕ → List ℕ
pair key v = key ++ formed v

unfoldable pub line_text : ℕ → (receiver client sender helo identity : List ℕ) → List ℕ
line_text result receiver client sender helo identity =
    opening ++ (word_of result ++ (pair (bytes " receiver=") receiver ++ (pair (bytes "; client-ip=") client
    ++ (pair (bytes "; envelope-from=") sender ++ (pair (bytes "; helo=") helo ++ (pair (bytes "; identity=") identity ++ crlf))))))

-- where each pair begins: behind the word, the receiver, the client, the sender and the HELO name
abbrev pub place₀ : ℕ → ℕ
place₀ result = length opening + length (word_of result)

abbrev pub place₁ : ℕ → List ℕ → ℕ
place₁ result receiver = place₀ result + length (bytes " receiver=" ++ formed receiver)

abbrev pub place₂ : ℕ → (receiver client : List ℕ) → ℕ
place₂ result receiver client = place₁ result receiver + length (bytes "; client-ip=" ++ formed client)

abbrev pub place₃ : ℕ → (receiver client sender : List ℕ) → ℕ
place₃ result receiver client sender = place₂ result receiver client + length (bytes "; envelope-from=" ++ formed sender)

abbrev pub place₄ : ℕ → (receiver client sender helo : List ℕ) → ℕ
place₄ result receiver client sender helo = place₃ result receiver client sender + length (bytes "; helo=" ++ formed helo)

unfoldable pub line_parts : ℕ → (receiver client sender helo identity : List ℕ) → Parts
line_parts result receiver client sender helo identity = record {
  result = result;
  receiver = shown (place₀ result + 10) receiver;
  client = shown (place₁ result receiver + 12) client;
  sender = shown (place₂ result receiver client + 16) sender;
  helo = shown (place₃ result receiver client sender + 7) helo;
  identity = shown (place₄ result receiver client sender helo + 11) identity;
}

-- "50 over 1,500 bytes or the buffer"
unfoldable pub fitted : List ℕ → ℕ → Outcome
fitted xs room = cond (leb (length xs) most_line) (cond (leb (length xs) room) (Ok xs) (Err NoRoom)) (Err NoRoom)

abbrev pub text_of : Given → List ℕ
text_of g = line_text g.result (values_of g).receiver (values_of g).client (values_of g).sender (values_of g).helo (values_of g).identity

abbrev pub parts_in : Given → Parts
parts_in g = line_parts g.result (values_of g).receiver (values_of g).client (values_of g).sender (values_of g).helo (values_of g).identity

-- writing: the tests in their order
unfoldable pub outcome : Given → ℕ → Outcome
outcome g room =
    cond (is_sender g.sender)
    (cond (is_host g.helo && is_host g.receiver)
    (cond (ltb g.result 7) (fitted (text_of g) room) (Err NoResult))
    (Err Host))
    (Err Sender)
