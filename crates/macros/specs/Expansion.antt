-- What a macro string expands to: the value of each letter, and the texts of the pieces, in the words and order of the house rules.
use Rattle.std.specs.Prelude.{ℕ, List, [], ◌∷◌, ◌++◌, Bool, cond, ◌&&◌, length, leb, eqb}
use Rattle.text.specs.Bytes.{lower, is_upper, is_visible, is_printable, within}
use Rattle.text.specs.Lists.{all, split, join_by}
use Rattle.text.specs.Texts.{bytes}
use Rattle.address.specs.declared.Address.{Address}
use Rattle.address.specs.Octets.{as_client}
use Rattle.address_text.specs.Digits.{in_decimal}
use Rattle.address_text.specs.Forms.{dotted, readable, family}
use Rattle.transformers.specs.Transform.{transformed}
use Rattle.macros.specs.Grammar.{Piece, literal, escape, expand}
use Rattle.macros.specs.declared.Given.{Given as Lent}
use Rattle.macros.specs.declared.emit.Letters.{Letters as Values}

-- what an expansion is given
pub record Given : Type 0 where
  pub sender : List ℕ
  pub helo : List ℕ
  pub receiver : List ℕ
  pub domain : List ℕ
  pub p : List ℕ
  pub client : Address
  pub seconds : ℕ

-- the same from its parts, as the contracts say it
abbrev pub given : (sender helo receiver domain p : List ℕ) → Address → ℕ → Given
given sender helo receiver domain p client seconds =
    record { sender = sender; helo = helo; receiver = receiver; domain = domain; p = p; client = client; seconds = seconds }

-- what the functions are given
abbrev pub given_of : Lent → Given
given_of g = given g.sender.now g.helo.now g.receiver.now g.domain.now g.p.now g.client g.seconds

-- the @ of a sender
abbrev pub is_at : ℕ → Bool
is_at b = eqb b 64

-- the last of some parts
unfoldable pub last_part : List (List ℕ) → List ℕ
last_part [] = []
last_part (x ∷ []) = x
last_part (x ∷ y ∷ r) = last_part (y ∷ r)

-- "The sender splits at its last `@`; with none, all of it is domain."
unfoldable pub sender_domain : List ℕ → List ℕ
sender_domain sender = last_part (split is_at sender)

-- all parts but the last
unfoldable pub front_parts : List (List ℕ) → List (List ℕ)
front_parts [] = []
front_parts (x ∷ []) = []
front_parts (x ∷ y ∷ r) = x ∷ front_parts (y ∷ r)

-- the local part as it stands: all before the last `@`; nothing where there is none
unfoldable pub local_as_written : List ℕ → List ℕ
local_as_written sender = join_by 64 (front_parts (split is_at sender))

-- "An absent or empty local part is `postmaster`, in s too."
unfoldable pub local_part : List ℕ → List ℕ
local_part sender = cond (eqb (length (local_as_written sender)) 0) (bytes "postmaster") (local_as_written sender)

-- "r receiver (`unknown` if empty)"
unfoldable pub receiver_name : List ℕ → List ℕ
receiver_name receiver = cond (eqb (length receiver) 0) (bytes "unknown") receiver

-- the value of each letter
pub record Letters : Type 0 where
  pub s : List ℕ
  pub l : List ℕ
  pub o : List ℕ
  pub d : List ℕ
  pub i : List ℕ
  pub p : List ℕ
  pub v : List ℕ
  pub h : List ℕ
  pub c : List ℕ
  pub r : List ℕ
  pub t : List ℕ

-- the same from its parts, as the contracts say it
abbrev pub letters : (s l o d i p v h c r t : List ℕ) → Letters
letters s l o d i p v h c r t = record { s = s; l = l; o = o; d = d; i = i; p = p; v = v; h = h; c = c; r = r; t = t }

-- the values that the functions pass on
abbrev pub values_of : Values → Letters
values_of x = letters x.s.now x.l.now x.o.now x.d.now x.i.now x.p.now x.v.now x.h.now x.c.now x.r.now x.t.now

-- "s sender, l local part, o sender's domain, d current domain, i address .., p below, v `in-addr` or `ip6`, h HELO, c address .., r receiver ..,
-- t seconds in decimal"; "IPv4-mapped clients count as IPv4, in expansion too"; "the public expansion takes the domain as given"
unfoldable pub letters_of : Given → Letters
letters_of g = record {
  s = local_part g.sender ++ (64 ∷ sender_domain g.sender);
  l = local_part g.sender;
  o = sender_domain g.sender;
  d = g.domain;
  i = dotted (as_client g.client);
  p = g.p;
  v = family (as_client g.client);
  h = g.helo;
  c = readable (as_client g.client);
  r = receiver_name g.receiver;
  t = in_decimal g.seconds;
}

-- by the letter in lower case
unfoldable pub letter_value : Letters → ℕ → List ℕ
letter_value x b =
    cond (eqb b 115) x.s
    (cond (eqb b 108) x.l
    (cond (eqb b 111) x.o
    (cond (eqb b 100) x.d
    (cond (eqb b 105) x.i
    (cond (eqb b 112) x.p
    (cond (eqb b 118) x.v
    (cond (eqb b 104) x.h
    (cond (eqb b 99) x.c
    (cond (eqb b 114) x.r
    x.t)))))))))

-- "`%%`, `%_`, `%-` give `%`, a space, `%20`"
unfoldable pub escape_text : ℕ → List ℕ
escape_text b = cond (eqb b 37) (bytes "%") (cond (eqb b 95) (bytes " ") (bytes "%20"))

-- the text of a piece; "An upper-case letter escapes .."
unfoldable pub piece_text : Letters → Piece → List ℕ
piece_text x (literal b) = b ∷ []
piece_text x (escape b) = escape_text b
piece_text x (expand m) = transformed m.digits m.reversed m.delimiters (is_upper m.letter) (letter_value x (lower m.letter))

-- the text of pieces
unfoldable pub text_of : Letters → List Piece → List ℕ
text_of x [] = []
text_of x (p ∷ ps) = piece_text x p ++ text_of x ps

-- 20 "sender not 1 to 320 bytes of 32 to 126"
unfoldable pub is_sender : List ℕ → Bool
is_sender s = within 1 320 (length s) && all is_printable s

-- 21 "HELO or receiver over 255 bytes, or a byte outside 33 to 126"
unfoldable pub is_host : List ℕ → Bool
is_host s = leb (length s) 255 && all is_visible s

-- 22 "domain, or a given p value, over 255 bytes"
unfoldable pub is_short : List ℕ → Bool
is_short s = leb (length s) 255
