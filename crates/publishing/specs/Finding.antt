-- The breaches as the code finds them: a test for each rule; the breaches of one term after the other; those of one rule after the other. The laws tie
-- them to House.
use Rattle.std.specs.Prelude.{ℕ, zero, suc, ◌+◌, ◌*◌, ◌≤◌, ◌≡◌, length, drop, Result, Ok, Err, List, [], ◌∷◌, ◌++◌, Bool, true, false, cond, not, ◌&&◌, ◌||◌, leb, ltb, eqb}
use Rattle.address.specs.declared.Address.{Address}
use Rattle.address.specs.declared.Address.TheVariants.{IPv4, IPv6}
use Rattle.address.specs.Matching.{matches_at}
use Rattle.text.specs.Lists.{same}
use Rattle.text.specs.Texts.{bytes}
use Rattle.text.specs.Writing.{Wrote, overwritten}
use Rattle.text.specs.declared.writing.Writer.{Writer}
use Rattle.macros.specs.declared.Form.TheVariants.{ModifierValue}
use Rattle.macros.specs.Reader.{is_macro_string, uses_p}
use Rattle.duplicates.specs.declared.Row.{Row}
use Rattle.duplicates.specs.Rows.{most_rows}
use Rattle.records.specs.Readings.{Optional, absent, present, Placed}
use Rattle.records.specs.Grammar.{sign_plus}
use Rattle.records.specs.Reader.{Reads}
use Rattle.records.specs.declared.Term.{Term}
use Rattle.publishing.specs.House.{least_4, least_6, too_many_bytes}
use Rattle.publishing.specs.Listing.{Entry, entry, breach_bytes, encoded, most_breaches, NoRoom}
use Rattle.publishing.specs.Rows.{network_rows, Holds, Marked}
use Rattle.publishing.specs.declared.offences.Facts.{Facts}
use Rattle.publishing.specs.declared.offences.Seen.{Seen}
use Rattle.publishing.specs.declared.HouseError.{HouseError}
use Rattle.publishing.specs.declared.HouseError.TheVariants.{TooMany}

unfoldable pub any : {A : Type 0} → (A → Bool) → List A → Bool
any p [] = false
any p (x ∷ xs) = p x || any p xs

unfoldable pub is_present : Optional ℕ → Bool
is_present absent = false
is_present (present n) = true

unfoldable pub is_below : ℕ → Optional ℕ → Bool
is_below limit absent = false
is_below limit (present n) = ltb n limit

unfoldable pub is_exactly : ℕ → Optional ℕ → Bool
is_exactly m absent = false
is_exactly m (present n) = eqb n m

unfoldable pub is_mechanism : Placed → Bool
is_mechanism t = is_present t.said.sign

unfoldable pub is_named : List ℕ → Placed → Bool
is_named name t = is_present t.said.sign && same t.said.name name

abbrev pub is_all : Placed → Bool
is_all = is_named (bytes "all")

unfoldable pub redirects : Placed → Bool
redirects t = same t.said.name (bytes "redirect")

unfoldable pub modifies : Placed → Bool
modifies t = redirects t || same t.said.name (bytes "exp")

unfoldable pub has_p : Optional (List ℕ) → Bool
has_p absent = false
has_p (present d) = is_macro_string ModifierValue d && uses_p ModifierValue d

unfoldable pub is_plus_all : Placed → Bool
is_plus_all t = is_exactly sign_plus t.said.sign && same t.said.name (bytes "all")

unfoldable pub is_short : Placed → Bool
is_short t = is_below least_4 t.said.four || is_below least_6 t.said.six

unfoldable pub same_by : Optional Address → Optional Address → Optional ℕ → Optional ℕ → Bool
same_by (present a) (present b) (present n) (present m) = eqb n m && matches_at a b n
same_by (present a) (present b) (present n) absent = false
same_by (present a) (present b) absent m = false
same_by (present a) absent n m = false
same_by absent b n m = false

unfoldable pub same_network : Placed → Placed → Bool
same_network t u =
    same_by t.said.address u.said.address t.said.four u.said.four
    || same_by t.said.address u.said.address t.said.six u.said.six

-- whether a term offends against a rule: the record's terms, those before it, the term
unfoldable pub offends : ℕ → List Placed → List Placed → Placed → Bool
offends rule ts before t =
    cond (eqb rule 1) (is_named (bytes "ptr") t)
    (cond (eqb rule 2) (has_p t.said.argument)
    (cond (eqb rule 3) (any is_all before && is_all t)
    (cond (eqb rule 4) (any is_all ts && redirects t)
    (cond (eqb rule 5) (any is_all before && is_mechanism t)
    (cond (eqb rule 6) (any modifies before && not (modifies t))
    (cond (eqb rule 7) (is_plus_all t)
    (cond (eqb rule 8) (is_short t)
    (cond (eqb rule 9) (any (same_network t) before)
    false))))))))

-- a breach, if there is one
unfoldable pub entry_if : Bool → ℕ → ℕ → List Entry
entry_if found rule place = cond found (entry rule place ∷ []) []

-- the breaches of a term against n rules from one on
unfoldable pub offences_from : ℕ → ℕ → (ℕ → Bool) → ℕ → List Entry
offences_from zero rule test place = []
offences_from (suc n) rule test place = entry_if (test rule) rule place ++ offences_from n (suc rule) test place

-- those against the first nine
unfoldable pub offences : (ℕ → Bool) → ℕ → List Entry
offences test place = offences_from 9 1 test place

-- those of one term after the other
unfoldable pub offences_of : List Placed → List Placed → List Placed → List Entry
offences_of ts before [] = []
offences_of ts before (t ∷ rest) = offences (λ rule. offends rule ts before t) t.place ++ offences_of ts (before ++ (t ∷ [])) rest

-- those at the record's length
unfoldable pub end_offences : Bool → ℕ → ℕ → List Entry
end_offences ended size name = entry_if (not ended) 3 size ++ entry_if (leb too_many_bytes (name + size)) 10 size

-- all of them
unfoldable pub found : List Placed → ℕ → ℕ → List Entry
found ts size name = offences_of ts [] ts ++ end_offences (any is_all ts || any redirects ts) size name

-- those of a rule, and of n rules from one on
unfoldable pub of_rule : ℕ → List Entry → List Entry
of_rule rule [] = []
of_rule rule (e ∷ es) = cond (eqb e.rule rule) (e ∷ []) [] ++ of_rule rule es

unfoldable pub by_rule : ℕ → ℕ → List Entry → List Entry
by_rule zero rule es = []
by_rule (suc n) rule es = of_rule rule es ++ by_rule n (suc rule) es

-- by rule
unfoldable pub ordered : List Entry → List Entry
ordered es = by_rule 10 1 es

-- what has been seen in terms
unfoldable pub seen_of : List Placed → Seen
seen_of ts = record { all = any is_all ts; redirect = any redirects ts; modifier = any modifies ts; networks = length (network_rows ts) }

abbrev pub none_seen : Seen
none_seen = record { all = false; redirect = false; modifier = false; networks = 0 }

unfoldable pub short_network : Address → ℕ → Bool
short_network (IPv4 v) n = ltb n least_4
short_network (IPv6 h l) n = ltb n least_6

-- a mechanism that is no `all`, and a modifier
abbrev pub mechanism_facts : Bool → Bool → Bool → Facts
mechanism_facts ptr short network =
    record { all = false; plus = false; ptr = ptr; mechanism = true; redirect = false; modifier = false; short = short; network = network }

abbrev pub modifier_facts : Bool → Bool → Facts
modifier_facts redirect known =
    record { all = false; plus = false; ptr = false; mechanism = false; redirect = redirect; modifier = known; short = false; network = false }

-- what a term is, as the rules ask
unfoldable pub facts_of : Term → Facts
facts_of (Term.All sign) =
    record { all = true; plus = eqb sign sign_plus; ptr = false; mechanism = true; redirect = false; modifier = false; short = false; network = false }
facts_of (Term.Include sign from to) = mechanism_facts false false false
facts_of (Term.A sign from to n m) = mechanism_facts false (ltb n least_4 || ltb m least_6) false
facts_of (Term.Mx sign from to n m) = mechanism_facts false (ltb n least_4 || ltb m least_6) false
facts_of (Term.Ptr sign from to) = mechanism_facts true false false
facts_of (Term.Network sign from to x n) = mechanism_facts false (short_network x n) true
facts_of (Term.Exists sign from to) = mechanism_facts false false false
facts_of (Term.Redirect from to) = modifier_facts true true
facts_of (Term.Explanation from to) = modifier_facts false true
facts_of (Term.Unknown name to) = modifier_facts false false

-- what has stood after one more term; no record has more networks than rows are kept for
unfoldable pub count_after : ℕ → Bool → ℕ
count_after n network = cond (network && ltb n most_rows) (n + 1) n

unfoldable pub seen_after : Seen → Facts → Seen
seen_after x f =
    record {
      all = x.all || f.all;
      redirect = x.redirect || f.redirect;
      modifier = x.modifier || f.modifier;
      networks = count_after x.networks f.network;
    }

-- whether a term of these facts offends against a rule, by whether the record has an `all`, what has stood before, whether it has a p macro, and
-- whether its network is marked
unfoldable pub breaks_by : Bool → Seen → Facts → Bool → Bool → ℕ → Bool
breaks_by whole seen f p marked rule =
    cond (eqb rule 1) f.ptr
    (cond (eqb rule 2) p
    (cond (eqb rule 3) (seen.all && f.all)
    (cond (eqb rule 4) (whole && f.redirect)
    (cond (eqb rule 5) (seen.all && f.mechanism)
    (cond (eqb rule 6) (seen.modifier && not f.modifier)
    (cond (eqb rule 7) f.plus
    (cond (eqb rule 8) f.short
    (cond (eqb rule 9) (f.network && marked)
    false))))))))

-- what the functions promise, of the terms that the record has from a place on: what stands there, with its networks in a table; all breaches
pub record Surveys (s : List ℕ) (first : ℕ) (before after : List Row) (r : Seen) : Type 0 where
  pub kept : length after ≡ length before
  pub few : r.networks ≤ most_rows
  pub by : (ts : List Placed) → Reads s first ts → (r ≡ seen_of ts) × (Holds after (network_rows ts) × (length (network_rows ts) ≤ most_rows))

-- entries were written
abbrev pub WroteEntries : List Entry → Writer → Writer → Type 0
WroteEntries es before after = Wrote (encoded es) before.out.now before.at after.out.now after.at

pub record PutsOffences (s : List ℕ) (first : ℕ) (whole : Bool) (marks : List ℕ) (before after : Writer) : Type 0 where
  pub same : after.out.ghost_name ≡ before.out.ghost_name
  pub by : (ts : List Placed) → Reads s first ts → whole ≡ any is_all ts → Marked s first marks → WroteEntries (offences_of ts [] ts) before after

pub record PutsFound (s : List ℕ) (first name : ℕ) (before after : Writer) : Type 0 where
  pub same : after.out.ghost_name ≡ before.out.ghost_name
  pub by : (ts : List Placed) → Reads s first ts → WroteEntries (found ts (length s) name) before after

-- what writing found breaches in order promises: those of a rule; all
pub record PutsRule (buffer : List ℕ) (rule : ℕ) (before after : Writer) : Type 0 where
  pub same : after.out.ghost_name ≡ before.out.ghost_name
  pub by : (es : List Entry) → buffer ≡ encoded es → WroteEntries (of_rule rule es) before after

pub record PutsOrdered (buffer before after : List ℕ) : Type 0 where
  pub by : (es : List Entry) → buffer ≡ encoded es → after ≡ overwritten (encoded (ordered es)) before

-- entries written into a list, or too many
pub data Lists (es : List Entry) (before after : List ℕ) : Result ℕ HouseError → Type 0 where
  no_room : NoRoom es before → after ≡ before → Lists es before after (Err TooMany)
  listed : length es ≤ most_breaches → breach_bytes * length es ≤ length before → after ≡ encoded es ++ drop (breach_bytes * length es) before
      → Lists es before after (Ok (length es))

pub record ListsBreaches (s : List ℕ) (first name : ℕ) (before after : List ℕ) (r : Result ℕ HouseError) : Type 0 where
  pub by : (ts : List Placed) → Reads s first ts → Lists (ordered (found ts (length s) name)) before after r
