-- "What our customers may publish" (W-211): the house rules, over a record's reading, the record's length and its domain name's length. No reader is
-- named. The rules are numbered and quoted as W-211 has them.
use Rattle.std.specs.Prelude.{ℕ, ◌+◌, ◌≤◌, ◌<◌, ◌≡◌, List, ◌∷◌, ◌++◌}
use Rattle.address.specs.declared.Address.{Address}
use Rattle.address.specs.Matching.{Matches}
use Rattle.text.specs.Bytes.{lower}
use Rattle.text.specs.Texts.{bytes}
use Rattle.macros.specs.declared.Form.TheVariants.{ModifierValue}
use Rattle.macros.specs.Grammar.{Macro, Piece, expand, MacroString}
use Rattle.records.specs.Readings.{present, Placed}
use Rattle.records.specs.Grammar.{sign_plus}

-- one of a list is so
pub data Some {A : Type 0} (P : A → Type 0) : List A → Type 0 where
  here : {x : A} {xs : List A} → P x → Some P (x ∷ xs)
  later : {x : A} {xs : List A} → Some P xs → Some P (x ∷ xs)

-- a term of a reading, with those before it
pub record Among (ts before : List Placed) (t : Placed) : Type 0 where
  pub after : List Placed
  pub split : ts ≡ before ++ (t ∷ after)

-- a mechanism: it has a sign
pub record Mechanism (t : Placed) : Type 0 where
  pub sign : ℕ
  pub signed : t.said.sign ≡ present sign

-- the mechanism of a name; an unknown modifier may have the same name
pub record Named (name : List ℕ) (t : Placed) : Type 0 where
  pub mechanism : Mechanism t
  pub named : t.said.name ≡ name

abbrev pub Ptr : Placed → Type 0
Ptr = Named (bytes "ptr")

abbrev pub All : Placed → Type 0
All = Named (bytes "all")

-- no mechanism and no unknown modifier is named redirect or exp
pub record Redirect (t : Placed) : Type 0 where
  pub named : t.said.name ≡ bytes "redirect"

pub data RedirectOrExp (t : Placed) : Type 0 where
  redirect : Redirect t → RedirectOrExp t
  explanation : t.said.name ≡ bytes "exp" → RedirectOrExp t

-- the letter of the p macro
abbrev pub letter_p : ℕ
letter_p = 112

-- a p macro, in either case
pub data IsP : Piece → Type 0 where
  p : {m : Macro} → lower m.letter ≡ letter_p → IsP (expand m)

-- "a term with a p macro": its argument, a domain-spec or an unknown modifier's value, is a macro-string with one. Every domain-spec is such a
-- macro-string, with the same pieces (`spec_string`, proofs/Laws/Arguments.antt).
pub record WithP (t : Placed) : Type 0 where
  pub text : List ℕ
  pub pieces : List Piece
  pub argument : t.said.argument ≡ present text
  pub string : MacroString ModifierValue text pieces
  pub some : Some IsP pieces

-- "`+all`, written or implied"
pub record PlusAll (t : Placed) : Type 0 where
  pub signed : t.said.sign ≡ present sign_plus
  pub named : t.said.name ≡ bytes "all"

-- "/8 for IPv4 or /19 for IPv6"
abbrev pub least_4 : ℕ
least_4 = 8

abbrev pub least_6 : ℕ
least_6 = 19

-- "a, mx or network length below /8 for IPv4 or /19 for IPv6"; no other term has a length
pub data Short (t : Placed) : Type 0 where
  four : {n : ℕ} → t.said.four ≡ present n → n < least_4 → Short t
  six : {n : ℕ} → t.said.six ≡ present n → n < least_6 → Short t

-- "ip4 or ip6 network equal, length included, .. after clearing the bits below it": one length, and addresses that match at it, so of one family. That
-- this says the same as being equal after clearing is `clearing_rule` of `address`.
pub data SameNetwork (t u : Placed) : Type 0 where
  four : {a b : Address} {n : ℕ} → t.said.address ≡ present a → u.said.address ≡ present b → t.said.four ≡ present n → u.said.four ≡ present n
      → Matches a b n → SameNetwork t u
  six : {a b : Address} {n : ℕ} → t.said.address ≡ present a → u.said.address ≡ present b → t.said.six ≡ present n → u.said.six ≡ present n
      → Matches a b n → SameNetwork t u

-- what is wrong with the end of a record, and where: none at all, at the record's length; each `all` after the first
pub data WrongEnd (ts : List Placed) (size : ℕ) : ℕ → Type 0 where
  missing : (Some All ts → ⊥) → (Some Redirect ts → ⊥) → WrongEnd ts size size
  again : {before : List Placed} {t : Placed} → Among ts before t → All t → Some All before → WrongEnd ts size t.place

-- "under 450 bytes"
abbrev pub too_many_bytes : ℕ
too_many_bytes = 450

-- "A breach is a rule and the first byte of the offending term, or the record's length for a missing end in (3) and for (10)." The record's terms, its
-- length and the name's; the rule and the place.
pub data Breach (ts : List Placed) (size name : ℕ) : ℕ → ℕ → Type 0 where
  -- "(1) no ptr"
  ptr : {before : List Placed} {t : Placed} → Among ts before t → Ptr t → Breach ts size name 1 t.place
  -- "(2) no term with a p macro"
  p_macro : {before : List Placed} {t : Placed} → Among ts before t → WithP t → Breach ts size name 2 t.place
  -- "(3) an `all` or a redirect, and no `all` after the first"
  wrong_end : {place : ℕ} → WrongEnd ts size place → Breach ts size name 3 place
  -- "(4) no redirect beside an `all`"
  beside_all : {before : List Placed} {t : Placed} → Among ts before t → Redirect t → Some All ts → Breach ts size name 4 t.place
  -- "(5) no mechanism after the first `all`"
  after_all : {before : List Placed} {t : Placed} → Among ts before t → Mechanism t → Some All before → Breach ts size name 5 t.place
  -- "(6) nothing but redirect and exp after the first of these"
  after_modifier : {before : List Placed} {t : Placed} → Among ts before t → (RedirectOrExp t → ⊥) → Some RedirectOrExp before
      → Breach ts size name 6 t.place
  -- "(7) no `+all`, written or implied"
  plus_all : {before : List Placed} {t : Placed} → Among ts before t → PlusAll t → Breach ts size name 7 t.place
  -- "(8) no a, mx or network length below /8 for IPv4 or /19 for IPv6"
  short : {before : List Placed} {t : Placed} → Among ts before t → Short t → Breach ts size name 8 t.place
  -- "(9) no ip4 or ip6 network equal, length included, to an earlier one after clearing the bits below it"
  equal_network : {before : List Placed} {t : Placed} → Among ts before t → Some (SameNetwork t) before → Breach ts size name 9 t.place
  -- "(10) name and text together under 450 bytes"
  long : too_many_bytes ≤ name + size → Breach ts size name 10 size
