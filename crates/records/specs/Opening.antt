-- A record read for a client: what its leading terms say without a lookup, and where its redirect and exp stand. The laws tie it to the reading of the
-- record, term after term.
use Rattle.records.specs.Numbers.{RecordAnswer, term_at}
use Rattle.std.specs.Prelude.{ℕ, ◌+◌, ◌≤◌, ◌<◌, ◌≡◌, List, [], ◌∷◌, ◌++◌, Bool, true, false, cond, ◌&&◌, ◌||◌, eqb, length, None, Option, Some, Result, Ok, Err}
use Rattle.address.specs.declared.Address.{Address}
use Rattle.address.specs.Matching.{matches_at}
use Rattle.text.specs.Bytes.{part}
use Rattle.text.specs.Texts.{bytes}
use Rattle.records.specs.Readings.{Optional, absent, present, Placed}
use Rattle.records.specs.Answers.{most_bytes}
use Rattle.records.specs.declared.Term.{Term}
use Rattle.records.specs.declared.opening.Unaided.{Unaided}
use Rattle.records.specs.declared.opening.Opening.{Opening}
use Rattle.text.specs.declared.spans.Span.{Span}
use Rattle.records.specs.declared.opening.Modifiers.{Modifiers}
use Rattle.records.specs.declared.opening.Met.{Met}
use Rattle.records.specs.declared.Refusal.{Refusal}
use Rattle.records.specs.declared.opening.Reading.{Reading}
use Rattle.records.specs.Reader.{read_term, is_redirect, is_explanation, after_version, check_from, read_record, Reads}

-- what a term says of a client without a lookup: a network of the client matches, and so does `all`; any other network and a modifier pass. Lookups are
-- those that count as lookups: "include, a, mx, ptr, exists and a used redirect count one each when begun"
unfoldable pub unaided : Address → Term → Unaided
unaided client (Term.All sign) = Unaided.Matches sign
unaided client (Term.Network sign from to a n) = cond (matches_at client a n) (Unaided.Matches sign) Unaided.Passes
unaided client (Term.Redirect from to) = Unaided.Passes
unaided client (Term.Explanation from to) = Unaided.Passes
unaided client (Term.Unknown name to) = Unaided.Passes
unaided client (Term.Include sign from to) = Unaided.Asks
unaided client (Term.A sign from to four six) = Unaided.Asks
unaided client (Term.Mx sign from to four six) = Unaided.Asks
unaided client (Term.Ptr sign from to) = Unaided.Asks
unaided client (Term.Exists sign from to) = Unaided.Asks

-- the terms read from a place up to another pass; "Terms run left to right; the first match gives its sign's result"
pub data Passing (client : Address) (s : List ℕ) (i : ℕ) : ℕ → Type 0 where
  none : Passing client s i i
  onward : {j at next : ℕ} {x : Term} → Passing client s i j → read_term s j ≡ term_at at next x → unaided client x ≡ Unaided.Passes → Passing client s i next

-- the term that is read at a place, if any is, needs a lookup
abbrev pub Asking : Address → List ℕ → ℕ → Type 0
Asking client s j = (at next : ℕ) (x : Term) → read_term s j ≡ term_at at next x → unaided client x ≡ Unaided.Asks

-- what an opening tells of the terms from a place on: all that pass are passed; the next one matches, or needs a lookup, or there is none
pub data Leads (client : Address) (s : List ℕ) (i : ℕ) : Opening → Type 0 where
  opened : {j : ℕ} → Passing client s i j → Asking client s j → Leads client s i (Opening.Open j)
  matched : {j at next sign : ℕ} {x : Term} → Passing client s i j → read_term s j ≡ term_at at next x → unaided client x ≡ Unaided.Matches sign
      → Leads client s i (Opening.Matched sign)

-- the record's answer, the same for every client
unfoldable pub answer_of : Result Reading Refusal → RecordAnswer
answer_of (Ok r) = Ok after_version
answer_of (Err x) = Err x

-- from a place up to another
abbrev pub span : ℕ → ℕ → Span
span from to = record { from = from; to = to }

-- Where the argument of a modifier stands: in a reading of the record s, the term of the wanted name has its own place, and its argument x follows the
-- name and "=". Of two terms of that name, which no accepted record has, it would be the first.
pub data ModifierAt (s wanted : List ℕ) : List Placed → Option Span → Type 0 where
  none : ModifierAt s wanted [] None
  here : {t : Placed} {ts : List Placed} {x : List ℕ} {from : ℕ} → t.said.name ≡ wanted → t.said.argument ≡ present x
      → from ≡ t.place + length (wanted ++ bytes "=") → from + length x ≤ length s → part s from (from + length x) ≡ x
      → ModifierAt s wanted (t ∷ ts) (Some (span from (from + length x)))
  later : {t : Placed} {ts : List Placed} {m : Option Span} → (t.said.name ≡ wanted → ⊥) → ModifierAt s wanted ts m → ModifierAt s wanted (t ∷ ts) m

-- the bytes of a modifier's argument in its record s
unfoldable pub argument_in : List ℕ → Option Span → Optional (List ℕ)
argument_in s None = absent
argument_in s (Some x) = present (part s x.from x.to)

-- redirect and exp of an accepted record, by its reading from a place on
pub record ModifiersAre (s : List ℕ) (i : ℕ) (m : Modifiers) : Type 0 where
  pub redirect : (ts : List Placed) → Reads s i ts → ModifierAt s (bytes "redirect") ts m.redirect
  pub exp : (ts : List Placed) → Reads s i ts → ModifierAt s (bytes "exp") ts m.exp

-- all terms from a place on, checked and led
pub record Opened (client : Address) (s : List ℕ) (i : ℕ) (x : Result Reading Refusal) : Type 0 where
  pub checks : (f : ℕ) → length s < f + i → answer_of x ≡ check_from f s i false false
  pub leads : (r : Reading) → x ≡ Ok r → Leads client s i r.opening
  pub modifiers : (r : Reading) → x ≡ Ok r → ModifiersAre s i r.modifiers

-- what reading a record for a client answers: the record's answer, with the place of a run outside the grammar at its first byte; its leading terms are
-- as the opening says; and its redirect and exp stand where the modifiers say
pub record OpeningOf (client : Address) (s : List ℕ) (x : Result Reading Refusal) : Type 0 where
  pub answer : answer_of x ≡ read_record s
  pub leads : (r : Reading) → x ≡ Ok r → Leads client s after_version r.opening
  pub modifiers : (r : Reading) → x ≡ Ok r → ModifiersAre s after_version r.modifiers

-- the modifiers met so far, and with one more term that begins at a place; for private functions
abbrev pub none_met : Modifiers
none_met = record { redirect = None; exp = None }

unfoldable pub modifier_at : Span → Option Span
modifier_at m = cond (eqb m.to 0) None (Some m)

abbrev pub modifiers_of : Met → Modifiers
modifiers_of m = record { redirect = modifier_at m.redirect; exp = modifier_at m.exp }

unfoldable pub is_met : Option Span → Bool
is_met None = false
is_met (Some x) = true

unfoldable pub repeated_by : Modifiers → Term → Bool
repeated_by m x = (is_met m.redirect && is_redirect x) || (is_met m.exp && is_explanation x)

unfoldable pub noted : Modifiers → ℕ → Term → Modifiers
noted m p (Term.Redirect from to) = record { redirect = Some (span (p + from) (p + to)); exp = m.exp }
noted m p (Term.Explanation from to) = record { redirect = m.redirect; exp = Some (span (p + from) (p + to)) }
noted m p (Term.All sign) = m
noted m p (Term.Include sign from to) = m
noted m p (Term.A sign from to four six) = m
noted m p (Term.Mx sign from to four six) = m
noted m p (Term.Ptr sign from to) = m
noted m p (Term.Network sign from to a n) = m
noted m p (Term.Exists sign from to) = m
noted m p (Term.Unknown name to) = m

-- the places of a redirect or exp that begins at p are numbers of the machine, and not 0
pub record NoteFits (p : ℕ) (x : Term) : Type 0 where
  pub redirect : (from to : ℕ) → x ≡ Term.Redirect from to → (from ≤ to) × (p + to ≤ most_bytes) × (0 < to)
  pub exp : (from to : ℕ) → x ≡ Term.Explanation from to → (from ≤ to) × (p + to ≤ most_bytes) × (0 < to)

-- an opening with one more term, read from i up to next
unfoldable pub led_by : Unaided → ℕ → ℕ → Opening
led_by (Unaided.Matches sign) i next = Opening.Matched sign
led_by Unaided.Passes i next = Opening.Open next
led_by Unaided.Asks i next = Opening.Open i

unfoldable pub led_on : Address → Opening → ℕ → ℕ → Term → Opening
led_on client (Opening.Matched sign) i next x = Opening.Matched sign
led_on client (Opening.Open j) i next x = cond (eqb j i) (led_by (unaided client x) j next) (Opening.Open j)
