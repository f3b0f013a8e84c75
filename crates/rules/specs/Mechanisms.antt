-- What each mechanism asks and whether it matches, in the words and order of the house rules.
use Rattle.std.specs.Prelude.{ℕ, ◌+◌, List, [], ◌∷◌, ◌++◌, Bool, false, cond, ◌&&◌, ◌||◌, length, take, drop, ltb, leb, eqb, None, Option, Some}
use Rattle.text.specs.Lists.{same}
use Rattle.text.specs.Texts.{bytes}
use Rattle.address.specs.declared.Address.{Address}
use Rattle.address.specs.declared.Address.TheVariants.{IPv4, IPv6}
use Rattle.address.specs.Octets.{from_octets}
use Rattle.address.specs.Matching.{matches_at}
use Rattle.domain.specs.Names.{at_or_below}
use Rattle.domain.specs.Normal.{Naming, name, malformed}
use Rattle.address_text.specs.Forms.{reversed_name}
use Rattle.answer_table.specs.Reader.{number}
use Rattle.macros.specs.declared.Form.{Form}
use Rattle.macros.specs.Reader.{pieces, uses_p}
use Rattle.macros.specs.Expansion.{given, letters_of, text_of}
use Rattle.macros.specs.Question.{question_name}
use Rattle.answer_table.specs.Layout.{kind_a, kind_ptr, kind_mx, kind_aaaa}
use Rattle.records.specs.Readings.{Optional, absent, present}
use Rattle.rules.specs.declared.Counts.{Counts}
use Rattle.rules.specs.Results.{result_temperror, result_permerror}
use Rattle.rules.specs.Tree.{Reply, failed, items, Check, give, ask, bind}

-- what a check is given besides its domain; the client is already as it counts: "IPv4-mapped clients count as IPv4"
pub record Mail : Type 0 where
  pub client : Address
  pub sender : List ℕ
  pub helo : List ℕ
  pub receiver : List ℕ
  pub seconds : ℕ

-- whether a term matches: yes, no, or the check ends with a result
pub data Match : Type 0 where
  yes : Match
  no : Match
  stop : ℕ → Match

pub record Step : Type 0 where
  pub match : Match
  pub counts : Counts

abbrev pub step : Match → Counts → Check Step
step m c = give (record { match = m; counts = c })

-- "the address question of the client's family"
unfoldable pub address_kind : Address → ℕ
address_kind (IPv4 v) = kind_a
address_kind (IPv6 h l) = kind_aaaa

-- whether an item of an address answer matches the client at a prefix length
unfoldable pub item_matches : Address → ℕ → Option Address → Bool
item_matches client n (Some a) = matches_at client a n
item_matches client n None = false

unfoldable pub any_matches : Address → ℕ → List (List ℕ) → Bool
any_matches client n [] = false
any_matches client n (d ∷ ds) = item_matches client n (from_octets d) || any_matches client n ds

-- the whole width of an address
unfoldable pub width : Address → ℕ
width (IPv4 v) = 32
width (IPv6 h l) = 128

-- "its addresses include the client"
unfoldable pub includes_client : Address → Reply → Bool
includes_client client failed = false
includes_client client (items ds) = any_matches client (width client) ds

-- the names validated so far, after another one's addresses; "a failed address question skips its name"
unfoldable pub with_valid : Address → List ℕ → List (List ℕ) → Reply → List (List ℕ)
with_valid client n found r = cond (includes_client client r) (found ++ (n ∷ [])) found

-- p: "all of the first 10 names are asked in order"; those validated, in that order
unfoldable pub validated : Address → Counts → List (List ℕ) → List (List ℕ) → Check (List (List ℕ))
validated client c [] found = give found
validated client c (n ∷ ns) found = ask (address_kind client) n c (λ r. validated client c ns (with_valid client n found r))

-- "the first 10 names"
abbrev pub most_names : ℕ
most_names = 10

-- "A failed PTR question yields no names"
unfoldable pub names_of : Reply → List (List ℕ)
names_of failed = []
names_of (items ds) = take most_names ds

unfoldable pub holds_name : List ℕ → List (List ℕ) → Bool
holds_name d [] = false
holds_name d (n ∷ ns) = same n d || holds_name d ns

-- the first name below a domain, or the other text; the domain itself is not among them where this is used
unfoldable pub first_below : List ℕ → List (List ℕ) → List ℕ → List ℕ
first_below d [] other = other
first_below d (n ∷ ns) other = cond (at_or_below n d) n (first_below d ns other)

unfoldable pub first_or : List (List ℕ) → List ℕ → List ℕ
first_or [] other = other
first_or (n ∷ ns) other = n

-- "among those validated (see ptr), the current domain if there, else the first below it, else the first, else `unknown`"
unfoldable pub chosen : List ℕ → List (List ℕ) → List ℕ
chosen d ns = cond (holds_name d ns) d (first_below d ns (first_or ns (bytes "unknown")))

unfoldable pub gives_chosen : List ℕ → List (List ℕ) → Check (List ℕ)
gives_chosen d ns = give (chosen d ns)

-- the value of p for a current domain, once its names are known
unfoldable pub p_reply : Address → List ℕ → Counts → Reply → Check (List ℕ)
p_reply client d c r = bind (validated client c (names_of r) []) (gives_chosen d)

-- the value of p for a current domain
unfoldable pub p_value : Address → List ℕ → Counts → Check (List ℕ)
p_value client d c = ask kind_ptr (reversed_name client) c (p_reply client d c)

-- the expansion of a text of the grammar, with a value of p
unfoldable pub expansion : Mail → List ℕ → Form → List ℕ → List ℕ → List ℕ
expansion mail d form text p =
    text_of (letters_of (given mail.sender mail.helo mail.receiver d p mail.client mail.seconds)) (pieces form text).list

unfoldable pub gives_expansion : Mail → List ℕ → Form → List ℕ → List ℕ → Check (List ℕ)
gives_expansion mail d form text p = give (expansion mail d form text p)

-- p "is asked for only where the string uses p"; "p's questions .. come after the term's count and before all else"
unfoldable pub expanded : Mail → List ℕ → Form → List ℕ → Counts → Check (List ℕ)
expanded mail d form text c =
    cond (uses_p form text) (bind (p_value mail.client d c) (gives_expansion mail d form text)) (gives_expansion mail d form text [])

unfoldable pub gives_name : List ℕ → Check Naming
gives_name s = give (question_name s)

-- the question name that a domain-spec makes
unfoldable pub target : Mail → List ℕ → List ℕ → Counts → Check Naming
target mail d spec c = bind (expanded mail d Form.DomainSpec spec c) gives_name

-- the target of a, mx or ptr: the current domain where there is no domain-spec
unfoldable pub target_or : Mail → List ℕ → Optional (List ℕ) → Counts → Check Naming
target_or mail d absent c = give (name d)
target_or mail d (present spec) c = target mail d spec c

-- "the eleventh in the whole check isn't begun", "the third gives permerror at once"
abbrev pub most_lookups : ℕ
most_lookups = 10

abbrev pub most_voids : ℕ
most_voids = 2

abbrev pub begun : Counts → Counts
begun c = record { lookups = c.lookups + 1; voids = c.voids }

abbrev pub voided : Counts → Counts
voided c = record { lookups = c.lookups; voids = c.voids + 1 }

-- "include, a, mx, ptr, exists and a used redirect count one each when begun; the eleventh in the whole check isn't begun and gives permerror"
unfoldable pub counting : {A : Type 0} → (Counts → Check A) → (Counts → Check A) → Counts → Check A
counting refused go c = cond (ltb c.lookups most_lookups) (go (begun c)) (refused c)

-- "A malformed target of a, mx, ptr or exists doesn't match, counts its term and asks nothing of its own"
unfoldable pub at_target : (List ℕ → Check Step) → Counts → Naming → Check Step
at_target go c malformed = step no c
at_target go c (name n) = go n

-- a, mx, ptr or exists once it is counted: its target (p's questions come "before all else"), then its own questions
unfoldable pub target_step : Mail → List ℕ → Optional (List ℕ) → (Counts → List ℕ → Check Step) → Counts → Check Step
target_step mail d spec go c = bind (target_or mail d spec c) (at_target (go c) c)

-- .. and before that its count
unfoldable pub counted_step : Mail → List ℕ → Optional (List ℕ) → (Counts → List ℕ → Check Step) → Counts → Check Step
counted_step mail d spec go c = counting (step (stop result_permerror)) (target_step mail d spec go) c

-- "A void answer is status 3, or 0 without items" (an entry of status 3 has none); it counts, "and the third gives permerror at once"
unfoldable pub void_step : Counts → Check Step
void_step c = cond (ltb c.voids most_voids) (step no (voided c)) (step (stop result_permerror) (voided c))

-- A question of a, mx, ptr or exists: what a failed answer gives, a void answer, and what becomes of the items otherwise. "each a, mx, ptr or exists counts
-- the void answer to its own first question, none of p's". W-204 amends the house rules: "Address questions of mx and ptr now count as well, in the order
-- asked; p's don't. The third still gives permerror at once, ptr included."
unfoldable pub own_reply : Match → Counts → (List (List ℕ) → Check Step) → Reply → Check Step
own_reply m c rest failed = step m c
own_reply m c rest (items []) = void_step c
own_reply m c rest (items (d ∷ ds)) = rest (d ∷ ds)

abbrev pub own_question : Match → Counts → ℕ → List ℕ → (List (List ℕ) → Check Step) → Check Step
own_question m c kind n rest = ask kind n c (own_reply m c rest)

abbrev pub matched : Bool → Counts → Check Step
matched t c = cond t (step yes c) (step no c)

-- what comes after a step: the rest where it doesn't match, from the counts that it left
unfoldable pub on_match : (Counts → Check Step) → Match → Counts → Check Step
on_match rest yes c = step yes c
on_match rest no c = rest c
on_match rest (stop v) c = step (stop v) c

abbrev pub if_no_match : (Counts → Check Step) → Step → Check Step
if_no_match rest s = on_match rest s.match s.counts

-- candidates one after the other, each from the counts that the last one left, "until one matches" or ends the check
unfoldable pub until_match : {A : Type 0} → (A → Counts → Check Step) → List A → Counts → Check Step
until_match f [] c = step no c
until_match f (x ∷ xs) c = bind (f x c) (if_no_match (until_match f xs))

-- a: "the address question of the client's family"; "A failed question gives temperror."
abbrev pub ask_a : Address → ℕ → Counts → List ℕ → Check Step
ask_a client n c m = own_question (stop result_temperror) c (address_kind client) m (λ ds. matched (any_matches client n ds) c)

unfoldable pub a_step : Mail → List ℕ → Optional (List ℕ) → ℕ → Counts → Check Step
a_step mail d spec n c = counted_step mail d spec (ask_a mail.client n) c

-- exists: "always A, matched by any item"
abbrev pub ask_exists : Counts → List ℕ → Check Step
ask_exists c m = own_question (stop result_temperror) c kind_a m (λ ds. step yes c)

unfoldable pub exists_step : Mail → List ℕ → List ℕ → Counts → Check Step
exists_step mail d spec c = counted_step mail d (present spec) ask_exists c

-- mx: the hosts "by preference .., ties in item order" (`Ordered`, specs/Preferences.antt; theorem `by_preference_lem`): an item stands before the first of
-- an equal or greater preference, and the last is placed first
unfoldable pub insert_host : List ℕ → List (List ℕ) → List (List ℕ)
insert_host d [] = d ∷ []
insert_host d (e ∷ es) = cond (leb (number d) (number e)) (d ∷ e ∷ es) (e ∷ insert_host d es)

unfoldable pub by_preference : List (List ℕ) → List (List ℕ)
by_preference [] = []
by_preference (d ∷ ds) = insert_host d (by_preference ds)

-- "a nameless item asks nothing"; any other one's addresses are asked as a asks them, so that W-204's void answers are counted there
unfoldable pub ask_host : Address → ℕ → List ℕ → Counts → Check Step
ask_host client n d c = cond (eqb (length d) 2) (step no c) (ask_a client n c (drop 2 d))

-- "addresses are asked by preference until one matches"
abbrev pub ask_hosts : Address → ℕ → List (List ℕ) → Counts → Check Step
ask_hosts client n ds c = until_match (ask_host client n) ds c

-- "over 10 items gives permerror"
abbrev pub most_hosts : ℕ
most_hosts = 10

unfoldable pub mx_items : Address → ℕ → Counts → List (List ℕ) → Check Step
mx_items client n c ds = cond (leb (length ds) most_hosts) (ask_hosts client n (by_preference ds) c) (step (stop result_permerror) c)

abbrev pub ask_mx : Address → ℕ → Counts → List ℕ → Check Step
ask_mx client n c m = own_question (stop result_temperror) c kind_mx m (mx_items client n c)

unfoldable pub mx_step : Mail → List ℕ → Optional (List ℕ) → ℕ → Counts → Check Step
mx_step mail d spec n c = counted_step mail d spec (ask_mx mail.client n) c

-- ptr: "one is validated if its addresses include the client, and a validated name matches if it is the target or below it"; "a failed address
-- question skips its name". The name n and the target m.
abbrev pub ask_name : Address → List ℕ → List ℕ → Counts → Check Step
ask_name client m n c = own_question no c (address_kind client) n (λ ds. matched (includes_client client (items ds) && at_or_below n m) c)

-- "the first 10 names, asked in order until one matches"
abbrev pub ask_names : Address → List ℕ → List (List ℕ) → Counts → Check Step
ask_names client m ns c = until_match (ask_name client m) ns c

-- "the reversed name in `in-addr.arpa` or `ip6.arpa`"; "A failed PTR question yields no names", and is no void answer
abbrev pub ask_ptr : Address → Counts → List ℕ → Check Step
ask_ptr client c m = own_question no c kind_ptr (reversed_name client) (λ ds. ask_names client m (take most_names ds) c)

unfoldable pub ptr_step : Mail → List ℕ → Optional (List ℕ) → Counts → Check Step
ptr_step mail d spec c = counted_step mail d spec (ask_ptr mail.client) c
