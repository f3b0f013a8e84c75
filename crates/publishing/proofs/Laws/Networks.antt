-- The networks of a record, of terms that were read: a term has a row exactly if it is a network (`term_rows`), a network's text has six bytes or more
-- (`network_size`), and a network fits its family (`term_fits`). From the productions of `records` and `networks`.
use Rattle.std.proofs.Common.{Some}
use Prim.Native.Nat.{ℕ, ◌+◌, ◌*◌, ◌≤◌, ◌<◌}
use mathlib.Core.Path.{◌≡◌, refl, ap, ◌∙◌}
use mathlib.Core.List.{List, [], ◌∷◌}
use mathlib.Core.Bool.{Bool}
use native.Mathlib.Omega.{arith}
use lib.ListN.{length, length-append}
use Rattle.address.specs.declared.Address.{Address}
use Rattle.address.specs.declared.Address.TheVariants.{IPv4, IPv6}
use Rattle.address.specs.Octets.{InRange, octets}
use Rattle.address.specs.Matching.{bits}
use Rattle.address.proofs.Laws.Agreement.{length_bits}
use Rattle.address.proofs.Laws.AddressOctets.{length_four, length_sixteen}
use Rattle.networks.specs.Grammar.{Ip4Network, Row as Groups, Ip6Network, address_of, Network4, Network6, CidrLength, OptionalLength}
use Rattle.networks.specs.Answers.{AddressText}
use Rattle.networks.proofs.Laws.Ranges.{address_range}
use Rattle.networks.proofs.Laws.Numbers.{number_limit}
use Rattle.records.specs.Readings.{absent, present, Said, Placed}
use Rattle.records.specs.Grammar.{Mechanism, Directive, Modifier, TermText}
use Rattle.records.specs.Numbers.{said_of}
use Rattle.records.specs.Reader.{token_of}
use Rattle.records.specs.declared.Term.{Term}
use Rattle.records.proofs.Laws.Names.{literal_length}
use Rattle.records.proofs.Laws.Tokens.{token_sound}
use Rattle.duplicates.specs.declared.Row.{Row}
use Rattle.publishing.specs.Rows.{row_of, row_by, rows_of, term_rows}

-- the row of a term is that of the reading
pub term_rows_lem : (w : List ℕ) (p : ℕ) (t : Term) → rows_of (record { place = p; said = said_of w t }) ≡ term_rows t
unfolding said_of row_by term_rows
term_rows_lem w p (Term.All sign) = refl
term_rows_lem w p (Term.Include sign from to) = refl
term_rows_lem w p (Term.A sign from to n m) = refl
term_rows_lem w p (Term.Mx sign from to n m) = refl
term_rows_lem w p (Term.Ptr sign from to) = refl
term_rows_lem w p (Term.Network sign from to (IPv4 v) n) = refl
term_rows_lem w p (Term.Network sign from to (IPv6 h l) n) = refl
term_rows_lem w p (Term.Exists sign from to) = refl
term_rows_lem w p (Term.Redirect from to) = refl
term_rows_lem w p (Term.Explanation from to) = refl
term_rows_lem w p (Term.Unknown name to) = refl

-- a network has its own family's length and not the other
abbrev pub Sized : Address → ℕ → Said → Type 0
Sized (IPv4 v) n x = (x.four ≡ present n) × (x.six ≡ absent)
Sized (IPv6 h l) n x = (x.four ≡ absent) × (x.six ≡ present n)

-- a network that fits its family: numbers in range, and a length within the width
pub record Network (x : Said) : Type 0 where
  pub a : Address
  pub n : ℕ
  pub is : x.address ≡ present a
  pub sized : Sized a n x
  pub range : InRange a
  pub within : n ≤ length (bits (octets a))

-- a term that is such a network or none
pub data FitsSaid (x : Said) : Type 0 where
  network : Network x → FitsSaid x
  other : x.address ≡ absent → FitsSaid x

abbrev pub Fits : Placed → Type 0
Fits t = FitsSaid t.said

-- the widths
pub width_four : (v : ℕ) → length (bits (octets (IPv4 v))) ≡ 32
width_four v = length_bits (octets (IPv4 v)) ∙ ap (λ (k : ℕ). 8 * k) (length_four v)

width_sixteen : (h l : ℕ) → length (bits (octets (IPv6 h l))) ≡ 128
width_sixteen h l = length_bits (octets (IPv6 h l)) ∙ ap (λ (k : ℕ). 8 * k) (length_sixteen h l)

-- the texts of networks: how long they are at least, and that lengths keep their limit
length_limit : {limit : ℕ} {w : List ℕ} {n : ℕ} → OptionalLength limit w n → n ≤ limit
length_limit OptionalLength.absent = omega arith
length_limit (OptionalLength.present (CidrLength.slash d)) = number_limit d

four_size : {w os : List ℕ} → Ip4Network w os → 2 ≤ length w
four_size (Ip4Network.octets p q r s) = simp length-append (omega arith)

groups_size : {tails : Bool} {w gs : List ℕ} → Groups tails w gs → length gs ≤ 2 + length w
groups_size (Groups.one g) = omega arith
groups_size (Groups.tail n) = omega arith
groups_size (Groups.more g r) = simp length-append (omega (arith, groups_size r))

six_size : {w gs : List ℕ} → Ip6Network w gs → 2 ≤ length w
six_size (Ip6Network.full r e) = omega (arith, groups_size r)
six_size (Ip6Network.short a b h) = simp length-append (omega arith)

-- what the productions say of a term's network: it fits, and has six bytes or more
data Made (w : List ℕ) (x : Said) : Type 0 where
  network : Network x → 6 ≤ length w → Made w x
  other : x.address ≡ absent → Made w x

made_by : {w : List ℕ} {x : Said} (a : Address) (n : ℕ) → x.address ≡ present a → Sized a n x → InRange a → n ≤ length (bits (octets a)) → 6 ≤ length w
    → Made w x
made_by a n e s r h k = Made.network (record { a = a; n = n; is = e; sized = s; range = r; within = h }) k

mechanism_made : {sign : ℕ} {w : List ℕ} {x : Said} → Mechanism sign w x → Made w x
unfolding address_of
mechanism_made (Mechanism.ip4 {n = n} l (Network4.of_octets m) d) =
    made_by _ n refl (refl, refl) (address_range (AddressText.four (Network4.of_octets m))) (rw width_four (length_limit d))
    (simp length-append (omega (arith, literal_length l, four_size m)))
mechanism_made (Mechanism.ip6 {n = n} l (Network6.of_groups m) d) =
    made_by _ n refl (refl, refl) (address_range (AddressText.six (Network6.of_groups m))) (rw width_sixteen (length_limit d))
    (simp length-append (omega (arith, literal_length l, six_size m)))
mechanism_made (Mechanism.all_term l) = Made.other refl
mechanism_made (Mechanism.include l d) = Made.other refl
mechanism_made (Mechanism.a l u d) = Made.other refl
mechanism_made (Mechanism.mx l u d) = Made.other refl
mechanism_made (Mechanism.ptr l u) = Made.other refl
mechanism_made (Mechanism.exists l d) = Made.other refl

signed_made : {q : ℕ} {w : List ℕ} {x : Said} → Made w x → Made (q ∷ w) x
signed_made (Made.network n h) = Made.network n (omega arith)
signed_made (Made.other e) = Made.other e

made : {w : List ℕ} {x : Said} → TermText w x → Made w x
made (TermText.directive (Directive.unsigned m)) = mechanism_made m
made (TermText.directive (Directive.signed q m)) = signed_made (mechanism_made m)
made (TermText.modifier_term (Modifier.redirect l d)) = Made.other refl
made (TermText.modifier_term (Modifier.explanation l d)) = Made.other refl
made (TermText.modifier_term (Modifier.unknown n r v)) = Made.other refl

-- the rows of a term that fits
pub network_row : (t : Placed) (k : Network t.said) → rows_of t ≡ row_of k.a k.n ∷ []
unfolding row_by
network_row t k = by k.a k.n k.is k.sized
  where
    by : (a : Address) (n : ℕ) → t.said.address ≡ present a → Sized a n t.said → rows_of t ≡ row_of a n ∷ []
    by (IPv4 v) n e s = rw (e, s.0)
    by (IPv6 h l) n e s = rw (e, s.1)

pub other_rows : (t : Placed) → t.said.address ≡ absent → rows_of t ≡ []
unfolding row_by
other_rows t e = rw e

-- a network's term has six bytes or more
pub network_size : (w : List ℕ) (t : Term) → token_of w ≡ Some t → 6 * length (term_rows t) ≤ length w
network_size w t e = by (made (token_sound w t e))
  where
    by : Made w (said_of w t) → 6 * length (term_rows t) ≤ length w
    by (Made.network k h) = rw (← term_rows_lem w 0 t, network_row (record { place = 0; said = said_of w t }) k) h
    by (Made.other f) = rw (← term_rows_lem w 0 t, other_rows (record { place = 0; said = said_of w t }) f) (omega arith)

-- a term that was read fits
pub term_fits : (w : List ℕ) (p : ℕ) (t : Term) → token_of w ≡ Some t → Fits (record { place = p; said = said_of w t })
term_fits w p t e = by (made (token_sound w t e))
  where
    by : Made w (said_of w t) → FitsSaid (said_of w t)
    by (Made.network k h) = FitsSaid.network k
    by (Made.other f) = FitsSaid.other f

-- a term with rows has one
pub record OneRow (t : Placed) : Type 0 where
  pub row : Row
  pub only : rows_of t ≡ row ∷ []

pub one_row : (t : Placed) → Fits t → 0 < length (rows_of t) → OneRow t
one_row t (FitsSaid.network k) h = record { row = row_of k.a k.n; only = network_row t k }
one_row t (FitsSaid.other e) h = absurd (omega (arith, ap length (other_rows t e)))
