-- What each call answers, by the productions. It names no reader.
use Rattle.std.specs.Prelude.{ℕ, ◌+◌, ◌≤◌, ◌<◌, ◌≡◌, ◌⊎◌, List, [], ◌∷◌, ◌++◌, true, length, take, drop}
use Rattle.text.specs.Bytes.{at, part, is_space, is_not_space}
use Rattle.text.specs.Lists.{all}
use Rattle.text.specs.Texts.{bytes}
use Rattle.records.specs.Readings.{Said, Placed, argument_bytes}
use Rattle.records.specs.Grammar.{Literal, TermText, Terms, Once, Record}
use Rattle.records.specs.Numbers.{RecordReport, accepted, refused, record_report, said_of, TermReport, end, term, term_report, TermAnswer, RecordAnswer}
use Rattle.records.specs.declared.Term.{Term}

-- 30 "record over 4,096 bytes"
abbrev pub most_bytes : ℕ
most_bytes = 4096

-- the end or a space
abbrev pub Boundary : List ℕ → Type 0
Boundary rest = (rest ≡ []) ⊎ (at rest 0 ≡ 32)

-- "A term is a longest run of non-spaces": w, with the end or a space after it
pub record Run (w rest : List ℕ) : Type 0 where
  pub some : 0 < length w
  pub solid : all is_not_space w ≡ true
  pub ends : Boundary rest

-- no term of the grammar
abbrev pub NoTerm : List ℕ → Type 0
NoTerm w = (x : Said) → TermText w x → ⊥

-- some grammatical term, of any length, begins with p
abbrev pub Begun : List ℕ → Type 0
Begun p = (rest : List ℕ) × ((x : Said) × TermText (p ++ rest) x)

-- the first n bytes of w are its longest beginning with which some grammatical term begins
pub record Longest (w : List ℕ) (n : ℕ) : Type 0 where
  pub inside : n ≤ length w
  pub begins : Begun (take n w)
  pub most : (m : ℕ) → m ≤ length w → Begun (take m w) → m ≤ n

-- "Version is `v=spf1` in either letter case, then a space or the end."
pub record Version (s v rest : List ℕ) : Type 0 where
  pub whole : s ≡ v ++ rest
  pub version : Literal (bytes "v=spf1") v
  pub ends : Boundary rest

-- The terms of the grammar at the front of a record, and then, after one space or more, a run of non-spaces. In `v=spf1 mx  moo -all`, whose `moo` is
-- no term: v is `v=spf1`, front is ` mx`, ts the one term mx at 7, gap the second of the two spaces, w is `moo`, rest is ` -all`, and place is 11.
pub record Front (s : List ℕ) (ts : List Placed) (w : List ℕ) (place : ℕ) : Type 0 where
  pub v : List ℕ
  pub front : List ℕ
  pub gap : List ℕ
  pub rest : List ℕ
  pub version : Version s v (front ++ ((bytes " " ++ gap) ++ (w ++ rest)))
  pub terms : Terms (length v) front ts
  pub spaces : all is_space gap ≡ true
  pub run : Run w rest
  pub place_is : place ≡ length v + (length front + length (bytes " " ++ gap))

-- reading a record: "30, 31, then the earlier of 32 and 33 (32 if equal)", by the term's first byte: that of the first term outside the grammar or of
-- the second redirect or exp. W-201 amends 32's place, which is "just after the longest beginning of the term with which some grammatical term begins";
-- 33's stays the first byte.
pub data RecordAnswers (s : List ℕ) : RecordReport → Type 0 where
  too_long : most_bytes < length s → RecordAnswers s (refused 30 0)
  no_version : length s ≤ most_bytes → ((v rest : List ℕ) → Version s v rest → ⊥) → RecordAnswers s (refused 31 0)
  outside : {ts : List Placed} {w : List ℕ} {p n : ℕ} → length s ≤ most_bytes → Front s ts w p → Once ts → NoTerm w → Longest w n
      → RecordAnswers s (refused 32 (p + n))
  repeated : {ts : List Placed} {w : List ℕ} {p : ℕ} {x : Said} → length s ≤ most_bytes → Front s ts w p → Once ts → TermText w x
      → (Once (ts ++ (record { place = p; said = x } ∷ [])) → ⊥) → RecordAnswers s (refused 33 p)
  produced : {v rest : List ℕ} {ts : List Placed} → length s ≤ most_bytes → Version s v rest → Record s ts → RecordAnswers s (accepted (length v))

-- reading one term: "30, 34, then 32"; "skips spaces and answers the end, refusal 32, or the term with the next place, just after its last byte". 32's
-- place is as W-201 amends it.
pub data TermAnswers (s : List ℕ) (i : ℕ) : TermReport → Type 0 where
  too_long : most_bytes < length s → TermAnswers s i (refused 30 0)
  beyond : length s ≤ most_bytes → length s < i → TermAnswers s i (refused 34 i)
  only_spaces : length s ≤ most_bytes → i ≤ length s → all is_space (drop i s) ≡ true → TermAnswers s i end
  outside : (u w rest : List ℕ) {n : ℕ} → length s ≤ most_bytes → i ≤ length s → drop i s ≡ u ++ (w ++ rest) → all is_space u ≡ true → Run w rest
      → NoTerm w → Longest w n → TermAnswers s i (refused 32 (i + length u + n))
  produced : (u w rest : List ℕ) {x : Said} → length s ≤ most_bytes → i ≤ length s → drop i s ≡ u ++ (w ++ rest) → all is_space u ≡ true → Run w rest
      → TermText w x → TermAnswers s i (term (i + (length u + length w)) (record { place = i + length u; said = x }))

-- what `read_record` promises of its answer
abbrev pub ReadsRecord : List ℕ → RecordAnswer → Type 0
ReadsRecord s r = RecordAnswers s (record_report r)

-- what `read_term` promises of its answer at a place
abbrev pub ReadsTerm : List ℕ → ℕ → TermAnswer → Type 0
ReadsTerm s i r = TermAnswers s i (term_report s r)

-- what `argument` promises: the bytes of what the term's own reading has as argument, none where it has none
abbrev pub ReadsArgument : List ℕ → ℕ → ℕ → Term → List ℕ → Type 0
ReadsArgument s at next x bytes = bytes ≡ argument_bytes (said_of (part s at next) x)
