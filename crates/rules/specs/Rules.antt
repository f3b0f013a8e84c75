-- The sentences on evaluation, one computed example for each: a zone, and what example.com's evaluation answers for a client. Examples.antt computes them.
use Rattle.std.specs.Prelude.{ℕ, ◌≡◌, List, [], ◌∷◌, ◌++◌, replicate, None, Option}
use Rattle.text.specs.Texts.{bytes}
use Rattle.rules.specs.Tree.{run}
use Rattle.rules.specs.Evaluation.{verdict}
use Rattle.records.specs.Readings.{absent, present}
use Rattle.rules.specs.Zones.{Row, zone, aside, lasting, txt, row, broken, spf, included, mail, here, elsewhere, here6, elsewhere6, answer, answer6, lifetime, decided, fails, wants, result, failed_in}

-- record lookup
pub record LookupRules : Type 0 where
  -- "A malformed or single-label domain gives none."
  pub malformed_domain : aside (run (zone []) None (verdict mail (bytes "example..com"))) ≡ decided 0 0 0
  pub single_label : aside (run (zone []) None (verdict mail (bytes "localhost."))) ≡ decided 0 0 0
  -- "Failed gives temperror."
  pub lookup_failed : answer (broken 16 "example.com" ∷ []) ≡ decided 5 0 0
  -- "none gives none, several permerror, a single one is selected"
  pub no_record : answer (row 16 "example.com" (bytes "v=spf2 -all" ∷ []) ∷ []) ≡ decided 0 0 0
  pub several_records : answer (row 16 "example.com" (bytes "v=spf1 -all" ∷ bytes "v=spf1 -all" ∷ []) ∷ []) ≡ decided 6 0 0
  pub single_record : answer (row 16 "example.com" (bytes "hello" ∷ bytes "v=spf1 -all" ∷ []) ∷ []) ≡ decided 3 0 0
  -- W-207 amends the house rules: "Record lookup now uses TXT alone"; entries of kind 99 are "ignored: a lookup with only such an entry gives 7"
  pub spf_beside : answer (spf "v=spf1 -all" ∷ row 99 "example.com" (bytes "v=spf1 +all" ∷ []) ∷ []) ≡ decided 3 0 0
  pub spf_beside_void : answer (row 16 "example.com" [] ∷ row 99 "example.com" (bytes "v=spf1 +all" ∷ []) ∷ []) ≡ decided 0 0 0
  pub spf_beside_failed : answer (broken 16 "example.com" ∷ row 99 "example.com" (bytes "v=spf1 +all" ∷ []) ∷ []) ≡ decided 5 0 0
  pub spf_alone : answer (row 99 "example.com" (bytes "v=spf1 +all" ∷ []) ∷ []) ≡ wants 16 "example.com" 0
  pub spf_included : answer (spf "v=spf1 include:b.example -all" ∷ row 99 "b.example" (bytes "v=spf1 +all" ∷ []) ∷ []) ≡ wants 16 "b.example" 1

-- "the first match gives its sign's result"; "No match: ..; without it, neutral"
pub record SignRules : Type 0 where
  pub plus : answer (spf "v=spf1 +all -all" ∷ []) ≡ decided 2 0 0
  pub unwritten : answer (spf "v=spf1 all -all" ∷ []) ≡ decided 2 0 0
  pub minus : answer (spf "v=spf1 -all +all" ∷ []) ≡ decided 3 0 0
  pub tilde : answer (spf "v=spf1 ~all -all" ∷ []) ≡ decided 4 0 0
  pub question_mark : answer (spf "v=spf1 ?all -all" ∷ []) ≡ decided 1 0 0
  pub no_match_lem : answer (spf "v=spf1 ip4:192.0.2.128/32" ∷ []) ≡ decided 1 0 0

-- "Pass matches; fail, softfail, neutral don't; temperror stays; permerror and none give permerror."
pub record IncludeRules : Type 0 where
  pub pass : answer (spf "v=spf1 -include:b.example ?all" ∷ included "v=spf1 +all" ∷ []) ≡ decided 3 1 0
  pub softfail : answer (spf "v=spf1 -include:b.example +all" ∷ included "v=spf1 ~all" ∷ []) ≡ decided 2 1 0
  pub neutral : answer (spf "v=spf1 -include:b.example +all" ∷ included "v=spf1" ∷ []) ≡ decided 2 1 0
  pub temperror : answer (spf "v=spf1 -include:b.example +all" ∷ broken 16 "b.example" ∷ []) ≡ decided 5 1 0
  pub permerror : answer (spf "v=spf1 -include:b.example +all" ∷ included "v=spf1 moo" ∷ []) ≡ decided 6 1 0
  pub none : answer (spf "v=spf1 -include:b.example +all" ∷ row 16 "b.example" [] ∷ []) ≡ decided 6 1 0

-- a: "the address question of the client's family", at the length of that family
pub record ARules : Type 0 where
  pub four_matches : answer (spf "v=spf1 a/24//128 -all" ∷ row 1 "example.com" (elsewhere ∷ []) ∷ []) ≡ decided 2 1 0
  pub four_differs : answer (spf "v=spf1 a/25//64 -all" ∷ row 1 "example.com" (elsewhere ∷ []) ∷ []) ≡ decided 3 1 0
  pub six_matches : answer6 (spf "v=spf1 a/32//64 -all" ∷ row 28 "example.com" (elsewhere6 ∷ []) ∷ []) ≡ decided 2 1 0
  pub six_differs : answer6 (spf "v=spf1 a/0//127 -all" ∷ row 28 "example.com" (elsewhere6 ∷ []) ∷ []) ≡ decided 3 1 0
  pub six_asks : answer6 (spf "v=spf1 a:b.example -all" ∷ []) ≡ wants 28 "b.example" 1
  -- "A failed question gives temperror."
  pub failed : answer (spf "v=spf1 a +all" ∷ broken 1 "example.com" ∷ []) ≡ decided 5 1 0
  -- exists: "always A, matched by any item"
  pub exists_asks_a : answer6 (spf "v=spf1 exists:b.example -all" ∷ row 1 "b.example" (elsewhere ∷ []) ∷ []) ≡ decided 2 1 0
  -- "families never match each other, and a length over the width matches nothing"
  pub other_family : answer6 (spf "v=spf1 ip4:0.0.0.0/0 -all" ∷ []) ≡ decided 3 0 0

-- an MX item of a preference below 256; without a name
abbrev pub host : ℕ → List ℕ → List ℕ
host preference name = preference ∷ 0 ∷ name

abbrev pub nameless : List ℕ
nameless = host 0 []

-- mx: "over 10 items gives permerror; otherwise addresses are asked by preference until one matches, ties in item order; a nameless item asks nothing"
pub record MxRules : Type 0 where
  pub ten_items : answer (spf "v=spf1 mx -all" ∷ row 15 "example.com" (replicate 9 nameless ++ (host 9 (bytes "m.example") ∷ [])) ∷ row 1 "m.example" (here ∷ []) ∷ [])
      ≡ decided 2 1 0
  pub eleven_items : answer (spf "v=spf1 mx -all" ∷ row 15 "example.com" (replicate 10 nameless ++ (host 9 (bytes "m.example") ∷ [])) ∷ row 1 "m.example" (here ∷ []) ∷ [])
      ≡ decided 6 1 0
  pub by_preference_lem : answer (spf "v=spf1 mx -all" ∷ row 15 "example.com" (host 20 (bytes "m.example") ∷ host 10 (bytes "n.example") ∷ []) ∷ row 1 "m.example" (here ∷ []) ∷ [])
      ≡ wants 1 "n.example" 1
  pub ties_in_order : answer (spf "v=spf1 mx -all" ∷ row 15 "example.com" (host 10 (bytes "n.example") ∷ host 10 (bytes "m.example") ∷ []) ∷ row 1 "m.example" (here ∷ []) ∷ [])
      ≡ wants 1 "n.example" 1
  pub until_one_matches : answer (spf "v=spf1 mx -all" ∷ row 15 "example.com" (host 10 (bytes "m.example") ∷ host 10 (bytes "n.example") ∷ []) ∷ row 1 "m.example" (here ∷ []) ∷ [])
      ≡ decided 2 1 0
  pub nameless_item : answer (spf "v=spf1 mx -all" ∷ row 15 "example.com" (nameless ∷ []) ∷ []) ≡ decided 3 1 0
  -- "A failed question gives temperror."
  pub failed_host : answer (spf "v=spf1 mx -all" ∷ row 15 "example.com" (host 10 (bytes "n.example") ∷ host 20 (bytes "m.example") ∷ [])
      ∷ broken 1 "n.example" ∷ row 1 "m.example" (here ∷ []) ∷ []) ≡ decided 5 1 0
  pub at_its_length : answer (spf "v=spf1 mx/24 -all" ∷ row 15 "example.com" (host 10 (bytes "m.example") ∷ []) ∷ row 1 "m.example" (elsewhere ∷ []) ∷ [])
      ≡ decided 2 1 0

-- the PTR entries of the two clients
abbrev pub pointers : List (List ℕ) → Row
pointers ns = row 12 "129.2.0.192.in-addr.arpa" ns

abbrev pub pointers6 : List (List ℕ) → Row
pointers6 ns = row 12 "1.0.0.0.0.0.0.0.0.0.0.0.0.0.0.0.0.0.0.0.0.0.0.0.8.b.d.0.1.0.0.2.ip6.arpa" ns

-- ptr: "the first 10 names, asked in order until one matches; one is validated if its addresses include the client, and a validated name matches if it is
-- the target or below it"
pub record PtrRules : Type 0 where
  pub target_itself : answer (spf "v=spf1 ptr -all" ∷ pointers (bytes "example.com" ∷ []) ∷ row 1 "example.com" (elsewhere ∷ here ∷ []) ∷ []) ≡ decided 2 1 0
  pub below_target : answer (spf "v=spf1 ptr -all" ∷ pointers (bytes "m.example.com" ∷ []) ∷ row 1 "m.example.com" (here ∷ []) ∷ []) ≡ decided 2 1 0
  pub by_whole_labels : answer (spf "v=spf1 ptr -all" ∷ pointers (bytes "anexample.com" ∷ []) ∷ row 1 "anexample.com" (here ∷ []) ∷ []) ≡ decided 3 1 0
  pub not_validated : answer (spf "v=spf1 ptr -all" ∷ pointers (bytes "example.com" ∷ []) ∷ row 1 "example.com" (elsewhere ∷ []) ∷ []) ≡ decided 3 1 0
  pub ten_names : answer (spf "v=spf1 ptr -all" ∷ pointers (replicate 9 (bytes "n.example") ++ (bytes "example.com" ∷ []))
      ∷ row 1 "n.example" (elsewhere ∷ []) ∷ row 1 "example.com" (here ∷ []) ∷ []) ≡ decided 2 1 0
  pub eleventh_name : answer (spf "v=spf1 ptr -all" ∷ pointers (replicate 10 (bytes "n.example") ++ (bytes "example.com" ∷ []))
      ∷ row 1 "n.example" (elsewhere ∷ []) ∷ row 1 "example.com" (here ∷ []) ∷ []) ≡ decided 3 1 0
  -- "A failed PTR question yields no names; a failed address question skips its name."
  pub failed_question : answer (spf "v=spf1 ptr -all" ∷ broken 12 "129.2.0.192.in-addr.arpa" ∷ []) ≡ decided 3 1 0
  pub failed_name : answer (spf "v=spf1 ptr -all" ∷ pointers (bytes "n.example" ∷ bytes "example.com" ∷ []) ∷ broken 1 "n.example" ∷ row 1 "example.com" (here ∷ []) ∷ [])
      ≡ decided 2 1 0
  -- "A void answer is status 3, or 0 without items"
  pub void_question : answer (spf "v=spf1 ptr -all" ∷ pointers [] ∷ []) ≡ decided 3 1 1
  -- the whole IPv6 address decides, not its upper 64 bits
  pub six_validated : answer6 (spf "v=spf1 ptr -all" ∷ pointers6 (bytes "example.com" ∷ []) ∷ row 28 "example.com" (here6 ∷ []) ∷ []) ≡ decided 2 1 0
  pub six_not_validated : answer6 (spf "v=spf1 ptr -all" ∷ pointers6 (bytes "example.com" ∷ []) ∷ row 28 "example.com" (elsewhere6 ∷ []) ∷ []) ≡ decided 3 1 0

-- p: "among those validated .., the current domain if there, else the first below it, else the first, else `unknown`"
pub record PRules : Type 0 where
  pub current_domain : answer (spf "v=spf1 exists:%{p}.t -all" ∷ pointers (bytes "o.example" ∷ bytes "m.example.com" ∷ bytes "example.com" ∷ [])
      ∷ row 1 "o.example" (here ∷ []) ∷ row 1 "m.example.com" (here ∷ []) ∷ row 1 "example.com" (here ∷ []) ∷ []) ≡ wants 1 "example.com.t" 1
  pub after_current_domain : answer (spf "v=spf1 exists:%{p}.t -all" ∷ pointers (bytes "example.com" ∷ bytes "m.example.com" ∷ [])
      ∷ row 1 "m.example.com" (here ∷ []) ∷ row 1 "example.com" (here ∷ []) ∷ []) ≡ wants 1 "example.com.t" 1
  pub first_below_lem : answer (spf "v=spf1 exists:%{p}.t -all" ∷ pointers (bytes "o.example" ∷ bytes "m.example.com" ∷ bytes "n.example.com" ∷ [])
      ∷ row 1 "o.example" (here ∷ []) ∷ row 1 "m.example.com" (here ∷ []) ∷ row 1 "n.example.com" (here ∷ []) ∷ []) ≡ wants 1 "m.example.com.t" 1
  pub first : answer (spf "v=spf1 exists:%{p}.t -all" ∷ pointers (bytes "example.com" ∷ bytes "o.example" ∷ bytes "n.example" ∷ [])
      ∷ row 1 "example.com" (elsewhere ∷ []) ∷ row 1 "o.example" (here ∷ []) ∷ row 1 "n.example" (here ∷ []) ∷ []) ≡ wants 1 "o.example.t" 1
  pub unknown : answer (spf "v=spf1 exists:%{p}.t -all" ∷ broken 12 "129.2.0.192.in-addr.arpa" ∷ []) ≡ wants 1 "unknown.t" 1
  -- "all of the first 10 names are asked in order"
  pub all_are_asked : answer (spf "v=spf1 exists:%{p}.t -all" ∷ pointers (bytes "example.com" ∷ bytes "n.example" ∷ []) ∷ row 1 "example.com" (here ∷ []) ∷ [])
      ≡ wants 1 "n.example" 1

-- "Fail at the outermost check, or through redirects only, fetches exp of the failing record: one TXT text, expanded. A failed, void, doubled or malformed
-- case, a byte outside 32 to 126, or over 500 bytes: empty text. It counts nothing, but a missing entry gives 7."
pub record ExplanationRules : Type 0 where
  pub missing : answer (spf "v=spf1 -all exp=e.example" ∷ []) ≡ wants 16 "e.example" 0
  pub through_redirect : answer (spf "v=spf1 redirect=b.example exp=f.example" ∷ included "v=spf1 -all exp=e.example" ∷ txt (bytes "e.example") (bytes "%{d}") ∷ [])
      ≡ fails 1 (bytes "b.example")
  pub through_include : answer (spf "v=spf1 include:b.example -all" ∷ included "v=spf1 -all exp=e.example" ∷ []) ≡ decided 3 1 0
  pub lookup_failed : answer (spf "v=spf1 -all exp=e.example" ∷ broken 16 "e.example" ∷ []) ≡ decided 3 0 0
  pub void : answer (spf "v=spf1 -all exp=e.example" ∷ row 16 "e.example" [] ∷ []) ≡ decided 3 0 0
  pub doubled : answer (spf "v=spf1 -all exp=e.example" ∷ row 16 "e.example" (bytes "no" ∷ bytes "no" ∷ []) ∷ []) ≡ decided 3 0 0
  pub malformed_text : answer (spf "v=spf1 -all exp=e.example" ∷ txt (bytes "e.example") (bytes "no %{x}") ∷ []) ≡ decided 3 0 0
  pub malformed_name : answer (spf "v=spf1 -all exp=%{l}..%{d}" ∷ []) ≡ decided 3 0 0
  pub unprintable : answer (spf "v=spf1 -all exp=e.example" ∷ txt (bytes "e.example") (110 ∷ 111 ∷ 127 ∷ []) ∷ []) ≡ decided 3 0 0
  pub of_500_bytes : answer (spf "v=spf1 -all exp=e.example" ∷ txt (bytes "e.example") (replicate 500 120) ∷ []) ≡ fails 0 (replicate 500 120)
  pub of_501_bytes : answer (spf "v=spf1 -all exp=e.example" ∷ txt (bytes "e.example") (replicate 501 120) ∷ []) ≡ decided 3 0 0

-- W-204 amends the house rules: "Address questions of mx and ptr now count as well, in the order asked; p's don't. The third still gives permerror at
-- once, ptr included."
pub record VoidRules : Type 0 where
  pub one_host : answer (spf "v=spf1 mx -all" ∷ row 15 "example.com" (host 10 (bytes "g.example") ∷ []) ∷ row 1 "g.example" [] ∷ []) ≡ decided 3 1 1
  pub one_host_of_six : answer6 (spf "v=spf1 mx -all" ∷ row 15 "example.com" (host 10 (bytes "g.example") ∷ []) ∷ row 28 "g.example" [] ∷ []) ≡ decided 3 1 1
  -- a host that is asked again counts again
  pub same_host_thrice : answer (spf "v=spf1 mx -all" ∷ row 15 "example.com" (replicate 3 (host 10 (bytes "g.example"))) ∷ row 1 "g.example" [] ∷ []) ≡ decided 6 1 3
  -- ten hosts, nine of them gone: "at once" is before the tenth, which is the client or has no entry
  pub third_before_match : answer (spf "v=spf1 mx -all" ∷ row 15 "example.com" (replicate 9 (host 10 (bytes "g.example")) ++ (host 20 (bytes "m.example") ∷ []))
      ∷ row 1 "g.example" [] ∷ row 1 "m.example" (here ∷ []) ∷ []) ≡ decided 6 1 3
  pub third_before_missing : answer (spf "v=spf1 mx -all" ∷ row 15 "example.com" (replicate 9 (host 10 (bytes "g.example")) ++ (host 20 (bytes "m.example") ∷ []))
      ∷ row 1 "g.example" [] ∷ []) ≡ decided 6 1 3
  -- "limits the whole check's void answers": those of earlier terms count
  pub third_of_check : answer (spf "v=spf1 a:g.example mx -all" ∷ row 15 "example.com" (replicate 2 (host 10 (bytes "g.example"))) ∷ row 1 "g.example" [] ∷ []) ≡ decided 6 2 3
  pub after_mx : answer (spf "v=spf1 mx exists:g.example -all" ∷ row 15 "example.com" (replicate 2 (host 10 (bytes "g.example"))) ∷ row 1 "g.example" [] ∷ []) ≡ decided 6 2 3
  -- a failed answer is no void answer
  pub failed_host : answer (spf "v=spf1 mx -all" ∷ row 15 "example.com" (replicate 2 (host 10 (bytes "g.example")) ++ (host 10 (bytes "f.example") ∷ host 10 (bytes "g.example") ∷ []))
      ∷ row 1 "g.example" [] ∷ broken 1 "f.example" ∷ []) ≡ decided 5 1 2
  pub failed_names : answer (spf "v=spf1 ptr -all" ∷ pointers (replicate 3 (bytes "f.example")) ∷ broken 1 "f.example" ∷ []) ≡ decided 3 1 0
  -- "ptr included", also for names that could never match
  pub two_names : answer (spf "v=spf1 ptr -all" ∷ pointers (replicate 2 (bytes "g.example")) ∷ row 1 "g.example" [] ∷ []) ≡ decided 3 1 2
  pub third_name : answer (spf "v=spf1 ptr -all" ∷ pointers (replicate 3 (bytes "g.example") ++ (bytes "example.com" ∷ []))
      ∷ row 1 "g.example" [] ∷ row 1 "example.com" (here ∷ []) ∷ []) ≡ decided 6 1 3
  -- "p's don't"; the same entries asked by ptr do
  pub p_not_counted : answer (spf "v=spf1 exists:%{p}.t -all" ∷ pointers (replicate 3 (bytes "g.example")) ∷ row 1 "g.example" [] ∷ row 1 "unknown.t" [] ∷ []) ≡ decided 3 1 1
  pub p_before_ptr : answer (spf "v=spf1 ptr:%{p}.t -all" ∷ pointers (replicate 3 (bytes "g.example")) ∷ row 1 "g.example" [] ∷ []) ≡ decided 6 1 3
  -- nor does the TXT question of an include
  pub include_not_counted : answer (spf "v=spf1 ?include:b.example -all" ∷ row 16 "b.example" [] ∷ []) ≡ decided 6 1 0

-- W-203 amends the house rules: "for fail, the failing record's domain .. and .. its exp argument"; "The first never asks for an explanation's TXT"
pub record FailingRules : Type 0 where
  pub without_exp : result (spf "v=spf1 -all" ∷ []) ≡ failed_in 0 "example.com" absent
  pub not_asked : result (spf "v=spf1 -all exp=e.example" ∷ []) ≡ failed_in 0 "example.com" (present (bytes "e.example"))
  -- through redirects the last record's, lowered
  pub through_redirect : result (spf "v=spf1 redirect=B.example exp=f.example" ∷ included "v=spf1 -all exp=e.example" ∷ [])
      ≡ failed_in 1 "b.example" (present (bytes "e.example"))
  -- for an include that matched, that of the record which has the include
  pub by_include : result (spf "v=spf1 -include:b.example exp=f.example" ∷ included "v=spf1 +all exp=e.example" ∷ [])
      ≡ failed_in 1 "example.com" (present (bytes "f.example"))
  -- nor p's questions for its target, and the argument is handed out as it stands
  pub p_not_asked : result (spf "v=spf1 -all exp=%{p}.x" ∷ []) ≡ failed_in 0 "example.com" (present (bytes "%{p}.x"))
  pub malformed_target : result (spf "v=spf1 -all exp=a..b" ∷ []) ≡ failed_in 0 "example.com" (present (bytes "a..b"))

-- W-209 amends the house rules: "the smallest among the entries it consulted, or 0 if none"
pub record LifetimeRules : Type 0 where
  -- "consulted": every entry that a question found, a void answer's and a failed one's too
  pub void_answer_lem : lifetime (lasting 50 (spf "v=spf1 a:g.x ?all") ∷ lasting 7 (row 1 "g.x" []) ∷ []) ≡ 7
  pub failed_answer : lifetime (lasting 50 (spf "v=spf1 a:g.x ?all") ∷ lasting 7 (broken 1 "g.x") ∷ []) ≡ 7
  pub record_first : lifetime (lasting 5 (spf "v=spf1 a:g.x ?all") ∷ lasting 7 (row 1 "g.x" []) ∷ []) ≡ 5
  -- "7 included": the missing question has no entry and adds nothing; "0 if none"
  pub missing : lifetime (lasting 50 (spf "v=spf1 a:g.x ?all") ∷ []) ≡ 50
  pub empty_table : lifetime [] ≡ 0
  -- the largest lifetime is one, and 0 is one too
  pub largest : lifetime (lasting 4294967295 (spf "v=spf1 -all") ∷ []) ≡ 4294967295
  pub of_zero : lifetime (lasting 50 (spf "v=spf1 a:g.x ?all") ∷ lasting 0 (row 1 "g.x" []) ∷ []) ≡ 0
  -- entries passed over: of kind 99, of the other family, a host behind a match, an entry that no term asks for
  pub kind_99 : lifetime (lasting 50 (spf "v=spf1 -all") ∷ lasting 1 (row 99 "example.com" (bytes "v=spf1 -all" ∷ [])) ∷ []) ≡ 50
  pub other_family : lifetime (lasting 50 (spf "v=spf1 a:g.x -all") ∷ lasting 60 (row 1 "g.x" (elsewhere ∷ [])) ∷ lasting 1 (row 28 "g.x" (here6 ∷ [])) ∷ []) ≡ 50
  pub behind_match : lifetime (lasting 50 (spf "v=spf1 mx -all") ∷ lasting 60 (row 15 "example.com" ((0 ∷ 1 ∷ bytes "ok.x") ∷ (0 ∷ 2 ∷ bytes "h.x") ∷ []))
      ∷ lasting 70 (row 1 "ok.x" (here ∷ [])) ∷ lasting 1 (row 1 "h.x" []) ∷ []) ≡ 50
  pub unasked : lifetime (lasting 50 (spf "v=spf1 ip4:192.0.2.129 a:g.x -all") ∷ lasting 1 (row 1 "g.x" []) ∷ []) ≡ 50
  -- p: "all of the first 10 names are asked", also after the current domain was found
  pub of_p : lifetime (lasting 50 (spf "v=spf1 exists:%{p}.x -all") ∷ lasting 60 (row 12 "129.2.0.192.in-addr.arpa" (bytes "example.com" ∷ bytes "h.x" ∷ []))
      ∷ lasting 60 (row 1 "example.com" (here ∷ [])) ∷ lasting 9 (row 1 "h.x" []) ∷ lasting 60 (row 1 "example.com.x" []) ∷ []) ≡ 9
  -- "the first call's result": the explanation's entries never count
  pub explanation : lifetime (lasting 50 (spf "v=spf1 -all exp=e.x") ∷ lasting 7 (row 16 "e.x" (bytes "no" ∷ [])) ∷ []) ≡ 50

pub record Rules : Type 0 where
  pub lookup : LookupRules
  pub signs : SignRules
  pub include : IncludeRules
  pub a : ARules
  pub mx : MxRules
  pub ptr : PtrRules
  pub p : PRules
  pub voids : VoidRules
  pub explanation : ExplanationRules
  pub failing : FailingRules
  pub lifetimes : LifetimeRules
