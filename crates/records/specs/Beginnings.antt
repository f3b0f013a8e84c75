-- The longest beginning of a run of non-spaces with which some term begins, as the code finds it: an end of one of a few terms is put after a front, and if
-- that is a term, some term begins with the front. `Beginnings` says that no other ends are needed. The places of W-201 stand on it.
use Rattle.records.specs.Numbers.{TermAnswer, RecordAnswer, refusal}
use Rattle.std.specs.Prelude.{◌≡◌, ℕ, zero, suc, ◌+◌, List, ◌++◌, Bool, true, false, cond, ◌||◌, ◌↔◌, length, take, None, Option, Some, Ok, Err}
use Rattle.text.specs.Bytes.{part}
use Rattle.text.specs.Texts.{bytes}
use Rattle.text.specs.Runs.{is_in, run_end}
use Rattle.text.specs.declared.bytes.Class.TheVariants.{NotSpace}
use Rattle.records.specs.Answers.{Begun, Longest}
use Rattle.records.specs.Reader.{token_of, read_term, read_record}
use Rattle.records.specs.declared.Term.{Term}
use Rattle.records.specs.declared.Reason.{Reason}
use Rattle.records.specs.declared.Refusal.{Refusal}

-- terms whose ends complete whatever a term begins with
abbrev pub models : List ℕ
models = bytes "x=.a a//0 ip4:0.0.0.0 ip6::: exists:%{d01} all mx ptr include:%%"

-- room for the longest run and for any end of the models after it
abbrev pub room_bytes : ℕ
room_bytes = 4160

-- the end of a term among some, from a place in it on; nothing where a space stands
unfoldable pub ending : List ℕ → ℕ → List ℕ
ending terms i = part terms i (run_end (is_in NotSpace) terms i)

unfoldable pub is_term : Option Term → Bool
is_term (Some x) = true
is_term None = false

-- whether a test holds at a place up to n
unfoldable pub some_up_to : (ℕ → Bool) → ℕ → Bool
some_up_to test zero = test zero
some_up_to test (suc n) = test (suc n) || some_up_to test n

-- whether some term begins with p: an end of a model makes one of it
unfoldable pub begins_term : List ℕ → Bool
begins_term p = some_up_to (λ i. is_term (token_of (p ++ ending models i))) (length models)

-- the longest front of w, of at most n bytes, with which some term begins
unfoldable pub longest_up_to : List ℕ → ℕ → ℕ
longest_up_to w zero = zero
longest_up_to w (suc n) = cond (begins_term (take (suc n) w)) (suc n) (longest_up_to w n)

abbrev pub longest : List ℕ → ℕ
longest w = longest_up_to w (length w)

-- the place of a refusal that was found at a place: that of a run outside the grammar is just after the longest beginning of the run, every other stays
unfoldable pub pointed : List ℕ → Reason → ℕ → ℕ
pointed s Reason.Outside p = p + longest (part s p (run_end (is_in NotSpace) s p))
pointed s Reason.TooLong p = p
pointed s Reason.NoVersion p = p
pointed s Reason.Repeated p = p
pointed s Reason.Beyond p = p

-- refusing, reading a term and reading a record with these places
abbrev pub point_refusal : List ℕ → Refusal → Refusal
point_refusal s x = refusal x.reason (pointed s x.reason x.at)

unfoldable pub point_term : List ℕ → TermAnswer → TermAnswer
point_term s (Ok x) = Ok x
point_term s (Err x) = Err (point_refusal s x)

unfoldable pub point_record : List ℕ → RecordAnswer → RecordAnswer
point_record s (Ok next) = Ok next
point_record s (Err x) = Err (point_refusal s x)

abbrev pub pointed_term : List ℕ → ℕ → TermAnswer
pointed_term s i = point_term s (read_term s i)

abbrev pub pointed_record : List ℕ → RecordAnswer
pointed_record s = point_record s (read_record s)

pub record Beginnings : Type 0 where
  -- what begins a beginning begins a term too
  pub downward : (p q : List ℕ) → Begun (p ++ q) → Begun p
  -- the ends decide whether some term begins with p
  pub decided : (p : List ℕ) → (begins_term p ≡ true) ↔ Begun p
  -- of any run, the length that is found is begun and none longer is
  pub found : (w : List ℕ) → Longest w (longest w)
