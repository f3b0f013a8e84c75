-- Record lookup, terms, include, redirect and the explanation, in the words and order of the house rules.
use Rattle.std.specs.Prelude.{ℕ, zero, suc, List, [], ◌∷◌, cond, ◌&&◌, length, leb, eqb, Ok, Err, Result as Either}
use Rattle.text.specs.Bytes.{is_printable}
use Rattle.text.specs.Lists.{all, same}
use Rattle.text.specs.Texts.{bytes}
use Rattle.address.specs.declared.Address.{Address}
use Rattle.address.specs.declared.Address.TheVariants.{IPv4, IPv6}
use Rattle.address.specs.Matching.{matches_at}
use Rattle.domain.specs.Names.{label_count}
use Rattle.domain.specs.Normal.{Naming, name, malformed, normal}
use Rattle.macros.specs.declared.Form.{Form}
use Rattle.macros.specs.Reader.{is_macro_string}
use Rattle.answer_table.specs.Layout.{kind_txt}
use Rattle.records.specs.Grammar.{sign_plus, sign_minus, sign_tilde, sign_question}
use Rattle.records.specs.Readings.{Optional, absent, present, Said, Placed}
use Rattle.records.specs.Reader.{read_record, has_version, read_term}
use Rattle.records.specs.Numbers.{TermReport, term, term_report, end, refused}
use Rattle.records.specs.declared.Refusal.{Refusal}
use Rattle.rules.specs.declared.Counts.{Counts}
use Rattle.rules.specs.Results.{result_none, result_neutral, result_pass, result_fail, result_softfail, result_temperror, result_permerror}
use Rattle.rules.specs.Tree.{Reply, failed, items, Check, give, ask, bind}
use Rattle.rules.specs.Mechanisms.{Mail, Match, yes, no, stop, Step, step, matched, target, expanded, counting, a_step, exists_step, mx_step, ptr_step}

-- the record that failed: its domain, and its exp where it has one
pub record Failing : Type 0 where
  pub domain : List ℕ
  pub exp : Optional (List ℕ)

-- the result by its number; both counts; for a fail, the record that failed
pub record Result : Type 0 where
  pub value : ℕ
  pub counts : Counts
  pub failing : Optional Failing

abbrev pub ended : ℕ → Counts → Check Result
ended v c = give (record { value = v; counts = c; failing = absent })

-- the check of another domain, one level down
abbrev pub Sub : Type 0
Sub = Naming → Counts → Check Result

-- include: "Pass matches; fail, softfail, neutral don't; temperror stays; permerror and none give permerror"
unfoldable pub include_match : ℕ → Match
include_match v =
    cond (eqb v result_pass) yes
    (cond (eqb v result_temperror) (stop result_temperror)
    (cond (eqb v result_permerror) (stop result_permerror)
    (cond (eqb v result_none) (stop result_permerror) no)))

-- the check of the target that a domain-spec makes
unfoldable pub check_target : Mail → Sub → List ℕ → List ℕ → Counts → Check Result
check_target mail sub d spec c = bind (target mail d spec c) (λ t. sub t c)

-- "include .. and a used redirect count one each when begun; the eleventh in the whole check isn't begun and gives permerror"
unfoldable pub begun_check : Mail → Sub → List ℕ → List ℕ → Counts → Check Result
begun_check mail sub d spec c = counting (ended result_permerror) (check_target mail sub d spec) c

-- the record that failed is dropped: a fail through an include fetches no exp
unfoldable pub include_of : Result → Check Step
include_of r = step (include_match r.value) r.counts

-- "include runs the whole check afresh on another domain, sharing the counts"
unfoldable pub include_step : Mail → Sub → List ℕ → List ℕ → Counts → Check Step
include_step mail sub d spec c = bind (begun_check mail sub d spec c) include_of

-- a part that a mechanism has in every reading; a term without it, which the grammar doesn't make, doesn't match
unfoldable pub having : {A : Type 0} → Optional A → (A → Check Step) → Counts → Check Step
having absent go c = step no c
having (present a) go c = go a

-- a and mx, "Addresses match if the stated number of high-order bits agree": the length of the client's family
unfoldable pub length_for : Address → Said → Optional ℕ
length_for (IPv4 v) x = x.four
length_for (IPv6 h l) x = x.six

-- ip4 and ip6: the address and its family's length; "families never match each other"
unfoldable pub network_step : Mail → Optional Address → Optional ℕ → Counts → Check Step
network_step mail address n c = having address (λ a. having n (λ k. matched (matches_at mail.client a k) c) c) c

-- a mechanism other than include, by its name; the grammar has no name besides these
unfoldable pub plain_step : Mail → List ℕ → Said → Counts → Check Step
plain_step mail d x c =
    cond (same x.name (bytes "all")) (step yes c)
    (cond (same x.name (bytes "a")) (having (length_for mail.client x) (λ n. a_step mail d x.argument n c) c)
    (cond (same x.name (bytes "mx")) (having (length_for mail.client x) (λ n. mx_step mail d x.argument n c) c)
    (cond (same x.name (bytes "ptr")) (ptr_step mail d x.argument c)
    (cond (same x.name (bytes "exists")) (having x.argument (λ spec. exists_step mail d spec c) c)
    (cond (same x.name (bytes "ip4")) (network_step mail x.address x.four c)
    (cond (same x.name (bytes "ip6")) (network_step mail x.address x.six c)
    (step no c)))))))

-- a mechanism
unfoldable pub mechanism_step : Mail → Sub → List ℕ → Said → Counts → Check Step
mechanism_step mail sub d x c =
    cond (same x.name (bytes "include")) (having x.argument (λ spec. include_step mail sub d spec c) c) (plain_step mail d x c)

-- a modifier is no mechanism and is passed over; an "unknown modifier" is "ignored"
unfoldable pub term_step : Mail → Sub → List ℕ → Said → Optional ℕ → Counts → Check Step
term_step mail sub d x absent c = step no c
term_step mail sub d x (present sign) c = mechanism_step mail sub d x c

-- the result of a mechanism's sign: + pass, - fail, ~ softfail, ? neutral; there is no other sign, and a modifier has none
unfoldable pub sign_result : Optional ℕ → Optional ℕ
sign_result absent = absent
sign_result (present sign) =
    cond (eqb sign sign_plus) (present result_pass)
    (cond (eqb sign sign_minus) (present result_fail)
    (cond (eqb sign sign_tilde) (present result_softfail)
    (cond (eqb sign sign_question) (present result_neutral) absent)))

-- the modifier of a name among the terms
unfoldable pub modifier_of : List ℕ → List Placed → Optional (List ℕ)
modifier_of wanted [] = absent
modifier_of wanted (t ∷ ts) = cond (same t.said.name wanted) t.said.argument (modifier_of wanted ts)

-- this record as the one that failed: "exp of the failing record"
abbrev pub failing_at : List ℕ → Optional (List ℕ) → Failing
failing_at d exp = record { domain = d; exp = exp }

-- a result of this record. W-203 amends the house rules: every fail names "the failing record's domain", with or without an exp
unfoldable pub signed : List ℕ → List Placed → ℕ → Counts → Check Result
signed d all_terms v c = give (record { value = v; counts = c; failing = cond (eqb v result_fail) (present (failing_at d (modifier_of (bytes "exp") all_terms))) absent })

-- redirect: "runs the check on its target with its result, none becoming permerror"
unfoldable pub none_is_permerror : Result → Result
none_is_permerror r = cond (eqb r.value result_none) (record { value = result_permerror; counts = r.counts; failing = absent }) r

unfoldable pub redirect_of : Result → Check Result
redirect_of r = give (none_is_permerror r)

-- "No match: redirect ..; without it, neutral."
unfoldable pub no_match : Mail → Sub → List ℕ → Optional (List ℕ) → Counts → Check Result
no_match mail sub d absent c = ended result_neutral c
no_match mail sub d (present spec) c = bind (begun_check mail sub d spec c) redirect_of

-- "the first match gives its sign's result"; a match without one, which no reading has, would decide nothing
unfoldable pub match_result : List ℕ → List Placed → Optional ℕ → Counts → (Counts → Check Result) → Check Result
match_result d all_terms absent c rest = rest c
match_result d all_terms (present v) c rest = signed d all_terms v c

-- what the step of a term with this sign makes of the check
unfoldable pub after_step : List ℕ → List Placed → Optional ℕ → Match → Counts → (Counts → Check Result) → Check Result
after_step d all_terms sign yes c rest = match_result d all_terms (sign_result sign) c rest
after_step d all_terms sign no c rest = rest c
after_step d all_terms sign (stop v) c rest = ended v c

-- "Terms run left to right"
unfoldable pub try_terms : Mail → Sub → List ℕ → List Placed → List Placed → Counts → Check Result
try_terms mail sub d all_terms [] c = no_match mail sub d (modifier_of (bytes "redirect") all_terms) c
try_terms mail sub d all_terms (t ∷ ts) c =
    bind (term_step mail sub d t.said t.said.sign c)
    (λ s. after_step d all_terms t.said.sign s.match s.counts (try_terms mail sub d all_terms ts))

-- the reading of a record, term after term; at most f terms
unfoldable pub terms_after : TermReport → (ℕ → List Placed) → List Placed
terms_after end rest = []
terms_after (refused number at) rest = []
terms_after (term next t) rest = t ∷ rest next

unfoldable pub terms_from : ℕ → List ℕ → ℕ → List Placed
terms_from zero s i = []
terms_from (suc f) s i = terms_after (term_report s (read_term s i)) (terms_from f s)

-- all terms of a record from a place on
unfoldable pub terms_of : List ℕ → ℕ → List Placed
terms_of s i = terms_from (suc (length s)) s i

-- "The whole record is read before any term is tried; outside the grammar gives permerror."
unfoldable pub read_outcome : Mail → Sub → List ℕ → List ℕ → Either ℕ Refusal → Counts → Check Result
read_outcome mail sub d s (Ok next) c = try_terms mail sub d (terms_of s next) (terms_of s next) c
read_outcome mail sub d s (Err e) c = ended result_permerror c

-- "Of the texts with a version section"
unfoldable pub versioned : List (List ℕ) → List (List ℕ)
versioned [] = []
versioned (s ∷ ss) = cond (has_version s) (s ∷ versioned ss) (versioned ss)

-- what record lookup comes to: a result, or the record that is selected
pub data Selection : Type 0 where
  ends : ℕ → Selection
  one : List ℕ → Selection

-- "none gives none, several permerror, a single one is selected"
unfoldable pub selection : List (List ℕ) → Selection
selection [] = ends result_none
selection (s ∷ []) = one s
selection (s ∷ u ∷ r) = ends result_permerror

-- "Failed gives temperror."
unfoldable pub text_reply : Reply → Check Selection
text_reply failed = give (ends result_temperror)
text_reply (items ss) = give (selection (versioned ss))

-- W-207 amends the house rules: "Record lookup now uses TXT alone"; entries of kind 99 are "ignored"
unfoldable pub record_lookup : List ℕ → Counts → Check Selection
record_lookup d c = ask kind_txt d c text_reply

unfoldable pub after_lookup : Mail → Sub → List ℕ → Counts → Selection → Check Result
after_lookup mail sub d c (ends v) = ended v c
after_lookup mail sub d c (one s) = read_outcome mail sub d s (read_record s) c

-- "A malformed or single-label domain gives none."
unfoldable pub check_name : Mail → Sub → Naming → Counts → Check Result
check_name mail sub malformed c = ended result_none c
check_name mail sub (name d) c = cond (leb (label_count d) 1) (ended result_none c) (bind (record_lookup d c) (after_lookup mail sub d c))

-- the check of a domain, with at most n checks below one another
unfoldable pub check : ℕ → Mail → Sub
check zero mail d c = ended result_permerror c
check (suc n) mail d c = check_name mail (check n mail) d c

-- the check of a domain: each check below another takes one of the ten lookups, so eleven are enough and the number decides nothing (`whole_unfolds`,
-- proofs/Laws/Enough.antt)
abbrev pub whole : Mail → Sub
whole mail = check 11 mail

abbrev pub no_counts : Counts
no_counts = record { lookups = 0; voids = 0 }

-- the evaluation of a domain as it was given; "In a check `d` shows its domain lowered and without the trailing dot (house choice)"
unfoldable pub evaluation : Mail → List ℕ → Check Result
evaluation mail domain = whole mail (normal domain) no_counts

-- "over 500 bytes: empty text"
abbrev pub most_text : ℕ
most_text = 500

-- "a byte outside 32 to 126, or over 500 bytes: empty text"
unfoldable pub shown : List ℕ → List ℕ
shown s = cond (leb (length s) most_text && all is_printable s) s []

unfoldable pub gives_shown : List ℕ → Check (List ℕ)
gives_shown s = give (shown s)

-- "one TXT text, expanded. A failed, void, doubled or malformed case ..: empty text."
unfoldable pub explained : Mail → List ℕ → Counts → List (List ℕ) → Check (List ℕ)
explained mail d c [] = give []
explained mail d c (s ∷ []) = cond (is_macro_string Form.Explanation s) (bind (expanded mail d Form.Explanation s c) gives_shown) (give [])
explained mail d c (s ∷ u ∷ r) = give []

unfoldable pub explain_reply : Mail → List ℕ → Counts → Reply → Check (List ℕ)
explain_reply mail d c failed = give []
explain_reply mail d c (items ss) = explained mail d c ss

unfoldable pub explain_name : Mail → List ℕ → Counts → Naming → Check (List ℕ)
explain_name mail d c malformed = give []
explain_name mail d c (name n) = ask kind_txt n c (explain_reply mail d c)

-- the text that the exp of the domain d's record makes; without an exp none. "It counts nothing, but a missing entry gives 7."
unfoldable pub explanation : Mail → List ℕ → Optional (List ℕ) → Counts → Check (List ℕ)
explanation mail d absent c = give []
explanation mail d (present exp) c = bind (target mail d exp c) (explain_name mail d c)

-- "Fail at the outermost check, or through redirects only, fetches exp of the failing record"
unfoldable pub explanation_of : Mail → Optional Failing → Counts → Check (List ℕ)
explanation_of mail absent c = give []
explanation_of mail (present f) c = explanation mail f.domain f.exp c

-- The whole answer of an evaluation: the result, both counts, and the text of a fail. W-203 amends the house rules: "Split evaluation"; the first call
-- gives what `evaluation` comes to, the second what `explanation` does, and "Together they give what one gave", which is this.
pub record Verdict : Type 0 where
  pub value : ℕ
  pub counts : Counts
  pub text : List ℕ

unfoldable pub verdict : Mail → List ℕ → Check Verdict
verdict mail domain =
    bind (evaluation mail domain)
    (λ r. bind (explanation_of mail r.failing r.counts) (λ x. give (record { value = r.value; counts = r.counts; text = x })))
