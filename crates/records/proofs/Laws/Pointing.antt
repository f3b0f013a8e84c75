-- The ways out of the functions that find where 32 points, each with a rule whose premises are what the code knows there. From the laws of Longest, of
-- writing, and of what Terms and Records say of the answers.
use Rattle.records.specs.declared.Reason.{Reason}
use Rattle.records.specs.Numbers.{TermAnswer, RecordAnswer, refusal}
use Rattle.std.proofs.Common.{Option, Result, Ok, Err}
use Prim.Native.Nat.{ℕ, ◌+◌, ◌-◌, ◌/◌, ◌≤◌, ◌<◌}
use mathlib.Core.Path.{◌≡◌, refl, sym, ap, subst, ◌∙◌}
use mathlib.Core.Logic.{⊎_elim}
use mathlib.Core.List.{List, ◌++◌}
use mathlib.Core.Bool.{Bool, true, false}
use native.Mathlib.Omega.{arith}
use lib.ListN.{length, take, length-take, length-drop}
use mir.Syntax.{w64}
use mir.Val.{Fits}
use Rattle.address.specs.declared.Address.{Address}
use Rattle.text.specs.Bytes.{part}
use Rattle.text.specs.Runs.{is_in, run_end}
use Rattle.text.specs.Writing.{Wrote, Writes}
use Rattle.text.specs.declared.writing.Writer.{Writer}
use Rattle.text.specs.declared.bytes.Class.TheVariants.{NotSpace}
use Rattle.text.proofs.Laws.Tests.{test_fails, true_false}
use Rattle.text.proofs.Laws.Orders.{le_or_lt}
use Rattle.text.proofs.Laws.Spans.{front_part, part_length}
use Rattle.text.proofs.Laws.Writing.{after_place, after_taken, after_front, value_taken, length_wrote}
use Rattle.records.specs.Answers.{most_bytes, Longest, ReadsTerm, ReadsRecord}
use Rattle.records.specs.Reader.{token_of, read_term, after_version}
use Rattle.records.specs.Beginnings.{models, room_bytes, ending, is_term, begins_term, longest, pointed, point_refusal, point_term, point_record, pointed_term, pointed_record}
use Rattle.records.specs.Opening.{answer_of, OpeningOf}
use Rattle.records.specs.declared.Refusal.{Refusal}
use Rattle.records.specs.declared.ReadTerm.{ReadTerm}
use Rattle.records.specs.declared.opening.Reading.{Reading}
use Rattle.records.proofs.Laws.Longest.{none_begins, some_begins, shorter_begins, empty_begins, longest_found, longest_halved}
use Rattle.records.proofs.Laws.Terms.{read_long, term_answers}
use Rattle.records.proofs.Laws.Records.{read_record_long, record_answers}
use Rattle.records.specs.declared.Term.{Term}

-- `completes`
module _ (terms room : List ℕ) (from n : ℕ) (fits : n + length terms ≤ length room) (to : ℕ) (to_is : to ≡ run_end (is_in NotSpace) terms from)
    (c : List ℕ) (c_is : c ≡ part terms from to) (b : List ℕ) (end : ℕ) (v : Wrote c room n b end) (after : List ℕ) (after_is : after ≡ b) where
  w : Wrote c room n after end
  w = rw after_is v

  room_left : n + length c ≤ length room
  room_left = omega (arith, ap length c_is, part_length terms from to)

  end_is : c ≡ ending terms from
  unfolding ending
  end_is = c_is ∙ ap (part terms from) to_is

  pub completed : (p : List ℕ) → p ≡ part after 0 end → (token : Option Term) → token ≡ token_of p → (r : Bool) → r ≡ is_term token
      → r ≡ is_term (token_of (take n room ++ ending terms from))
  completed p p_is token token-is r h =
      let q : p ≡ take n room ++ c = p_is ∙ front_part after end ∙ after_taken c room after n end w room_left in
      let z : p ≡ take n room ++ ending terms from = q ∙ ap (λ (d : List ℕ). take n room ++ d) end_is in
      h ∙ ap is_term token-is ∙ ap (λ (x : List ℕ). is_term (token_of x)) z

  pub front_kept : take n after ≡ take n room
  front_kept = after_front c room after n end w room_left

-- `begins_term`: the front stands in the buffer, and no end before a place completes it
pub record Trying (w : List ℕ) (n : ℕ) (terms : List ℕ) (end : ℕ) (room : List ℕ) (from : ℕ) : Type 0 where
  pub are : terms ≡ models
  pub size : length room ≡ room_bytes
  pub small : end ≤ most_bytes
  pub front : take end room ≡ take n w
  pub untried : (i : ℕ) → i < from → is_term (token_of (take n w ++ ending models i)) ≡ false

module _ (w : List ℕ) (n : ℕ) (room : List ℕ) (q : (n ≤ most_bytes) × (length room ≡ room_bytes)) where
  pub trying_start : (terms : List ℕ) → terms ≡ models → (p : List ℕ) → p ≡ part w 0 n → (a b : Writer) → a.out.now ≡ room → a.at ≡ 0 → Writes p a b
      → (after : List ℕ) → after ≡ b.out.now → Trying w n terms b.at after 0
  trying_start terms m p p_is a b h z u after k =
      let end = b.at in
      let v : Wrote p room 0 after end = rw (h, z, ← k) at u.wrote in
      let e : p ≡ take n w = p_is ∙ front_part w n in
      let l : length p ≤ n = rw e (simp length-take (omega arith)) in
      record {
        are = m;
        size = length_wrote room 0 p after end v ∙ q.1;
        small = omega (arith, after_place p room after 0 end v (omega (arith, q.0, q.1)), q.0);
        front = value_taken p room after end v (omega (arith, q.0, q.1)) ∙ e;
        untried = λ i h. absurd (omega arith);
      }

module _ (w : List ℕ) (n : ℕ) (terms : List ℕ) (end : ℕ) (room : List ℕ) (from : ℕ) (t : Trying w n terms end room from) where
  pub trying_room : end + length terms ≤ length room
  trying_room = omega (arith, ap length t.are, t.small, t.size)

  tried : is_term (token_of (take end room ++ ending terms from)) ≡ is_term (token_of (take n w ++ ending models from))
  tried = rw (t.front, t.are) refl

  module _ (r : Bool) (h : r ≡ is_term (token_of (take end room ++ ending terms from))) where
    pub trying_found : from ≤ length terms → r ≡ true → true ≡ begins_term (take n w)
    trying_found l e = sym (some_begins (take n w) from (omega (arith, ap length t.are)) (sym tried ∙ sym h ∙ e))

    pub trying_next : r ≡ false → (after : List ℕ) → length after ≡ length room → take end after ≡ take end room → Trying w n terms end after (from + 1)
    trying_next e after s q = record {
      are = t.are;
      size = s ∙ t.size;
      small = t.small;
      front = q ∙ t.front;
      untried = λ i k. ⊎_elim
          (λ (g : from ≤ i). let j : from ≡ i = omega arith in subst (λ (x : ℕ). is_term (token_of (take n w ++ ending models x)) ≡ false) j (sym tried ∙ sym h ∙ e))
          (λ (g : i < from). t.untried i g)
          (le_or_lt from i);
    }

  pub trying_none : length terms < from → false ≡ begins_term (take n w)
  trying_none l = sym (none_begins (take n w) (λ i h. t.untried i (omega (arith, ap length t.are))))

-- `longest_beginning`: the front up to one place begins a term, and none does from the other on
pub record Halving (w room : List ℕ) (begun beyond : ℕ) : Type 0 where
  pub size : length room ≡ room_bytes
  pub apart : begun < beyond
  pub inside : beyond ≤ length w + 1
  pub begins : begins_term (take begun w) ≡ true
  pub fails : (m : ℕ) → beyond ≤ m → m ≤ length w → begins_term (take m w) ≡ false

pub halving_start : (w room : List ℕ) → length room ≡ room_bytes → Halving w room 0 (length w + 1)
halving_start w room s = record { size = s; apart = omega arith; inside = omega arith; begins = empty_begins; fails = λ m h k. absurd (omega arith) }

module _ (w room : List ℕ) (begun beyond : ℕ) (t : Halving w room begun beyond) where
  pub halving_apart : begun ≤ beyond
  halving_apart = omega (arith, t.apart)

  pub halving_next : length w ≤ most_bytes → Fits w64 (begun + 1)
  halving_next l = omega (arith, t.apart, t.inside)

  pub halving_middle : length w ≤ most_bytes → Fits w64 (begun + (beyond - begun) / 2)
  halving_middle l = omega (arith, t.apart, t.inside)

  pub halving_asks : length w ≤ most_bytes → begun + 1 < beyond → begun + (beyond - begun) / 2 ≤ most_bytes
  halving_asks l more = omega (arith, t.inside)

  pub halving_end : beyond ≤ begun + 1 → begun ≡ longest w
  halving_end h = longest_halved w begun beyond (omega (arith, t.apart, t.inside)) t.begins (omega arith) t.fails

  module _ (more : begun + 1 < beyond) (r : Bool) (after : List ℕ) (s : length after ≡ length room) (h : r ≡ begins_term (take (begun + (beyond - begun) / 2) w)) where
    pub less_up : beyond - (begun + (beyond - begun) / 2) < beyond - begun
    less_up = omega arith

    pub less_down : begun + (beyond - begun) / 2 - begun < beyond - begun
    less_down = omega arith

    pub halving_up : r ≡ true → Halving w after (begun + (beyond - begun) / 2) beyond
    halving_up e = record { size = s ∙ t.size; apart = omega arith; inside = t.inside; begins = sym h ∙ e; fails = t.fails }

    pub halving_down : r ≡ false → Halving w after begun (begun + (beyond - begun) / 2)
    halving_down e = record {
      size = s ∙ t.size;
      apart = omega arith;
      inside = omega (arith, t.inside);
      begins = t.begins;
      fails = λ m k l. test_fails (begins_term (take m w)) (λ b.
          true_false (begins_term (take (begun + (beyond - begun) / 2) w)) (shorter_begins (begun + (beyond - begun) / 2) m w k b) (sym h ∙ e));
    }

-- both promises of a length that is the longest
pub longest_answered : (w : List ℕ) (n : ℕ) → n ≡ longest w → (n ≡ longest w) × Longest w n
longest_answered w n e = (e, subst (Longest w) (sym e) (longest_found w))

-- `point`
module _ (s : List ℕ) (p e : ℕ) (w : List ℕ) (w_is : w ≡ part s p e) where
  pub point_small : length s ≤ most_bytes → length w ≤ most_bytes
  point_small h = omega (arith, ap length w_is, part_length s p e)

  pub point_fits : Fits w64 p → Fits w64 (length s) → (n : ℕ) → Longest w n → Fits w64 (p + n)
  point_fits a b n l = let h : length w ≤ length s - p = rw w_is (simp (length-take, length-drop) (omega arith)) in omega (arith, l.inside)

pub point_outside : (s : List ℕ) (reason : Reason) (p : ℕ) → reason ≡ Reason.Outside → (e : ℕ) → e ≡ run_end (is_in NotSpace) s p → (w : List ℕ) → w ≡ part s p e
    → (n : ℕ) → n ≡ longest w → refusal reason (p + n) ≡ point_refusal s (refusal reason p)
unfolding pointed
point_outside s reason p k e e-is w w_is n h = rw k (ap (λ (x : ℕ). refusal Reason.Outside (p + x)) (h ∙ ap longest (w_is ∙ ap (part s p) e-is)))

other_place : (s : List ℕ) (reason : Reason) (p : ℕ) → (reason ≡ Reason.Outside → ⊥) → p ≡ pointed s reason p
unfolding pointed
other_place s Reason.Outside p k = absurd (k refl)
other_place s Reason.TooLong p k = refl
other_place s Reason.NoVersion p k = refl
other_place s Reason.Repeated p k = refl
other_place s Reason.Beyond p k = refl

pub point_other : (s : List ℕ) (x : Refusal) → (x.reason ≡ Reason.Outside → ⊥) → x ≡ point_refusal s x
point_other s x k = ap (refusal x.reason) (other_place s x.reason x.at k)

-- a text over the limit is refused as such, so that a refusal for another reason is of a text within it
short_of : (s : List ℕ) (x : Refusal) → (most_bytes < length s → x ≡ refusal Reason.TooLong 0) → x.reason ≡ Reason.Outside → length s ≤ most_bytes
short_of s x f k = ⊎_elim (λ (h : length s ≤ most_bytes). h)
    (λ (h : most_bytes < length s).
    let e : Reason.Outside ≡ Reason.TooLong = sym k ∙ ap (λ (y : Refusal). y.reason) (f h) in
    let z : ◌≡◌ {A = ℕ} 0 1 = cc in
    absurd (omega arith))
    (le_or_lt (length s) most_bytes)

-- `read_term`
pub term_answered : (s : List ℕ) (i : ℕ) (r : TermAnswer) → r ≡ pointed_term s i → (r ≡ pointed_term s i) × ReadsTerm s i r
term_answered s i r e = (e, subst (ReadsTerm s i) (sym e) (term_answers s i))

module _ (s : List ℕ) (i : ℕ) (a : TermAnswer) (e : a ≡ read_term s i) where
  pub term_kept : (x : Option ReadTerm) → a ≡ Ok x → Ok x ≡ pointed_term s i
  unfolding point_term
  term_kept x q = ap (point_term s) (sym q ∙ e)

  module _ (x : Refusal) (q : a ≡ Err x) where
    pub term_short : x.reason ≡ Reason.Outside → length s ≤ most_bytes
    term_short = short_of s x (λ h. let g : Err x ≡ Err (refusal Reason.TooLong 0) = sym q ∙ e ∙ read_long s i h in cc)

    pub term_pointed : (y : Refusal) → y ≡ point_refusal s x → Err y ≡ pointed_term s i
    unfolding point_term
    term_pointed y h = ap Err h ∙ ap (point_term s) (sym q ∙ e)

-- `read_record`
pub record_answered : (s : List ℕ) (r : RecordAnswer) → r ≡ pointed_record s → (r ≡ pointed_record s) × ReadsRecord s r
record_answered s r e = (e, subst (ReadsRecord s) (sym e) (record_answers s))

module _ (client : Address) (s : List ℕ) (a : Result Reading Refusal) (g : OpeningOf client s a) where
  pub record_opened : (r : Reading) → a ≡ Ok r → Ok after_version ≡ pointed_record s
  unfolding point_record answer_of
  record_opened r e = ap (λ (x : Result Reading Refusal). point_record s (answer_of x)) (sym e) ∙ ap (point_record s) g.answer

  module _ (x : Refusal) (q : a ≡ Err x) where
    pub record_short : x.reason ≡ Reason.Outside → length s ≤ most_bytes
    unfolding answer_of
    record_short = short_of s x (λ h. let d : ◌≡◌ {A = RecordAnswer} (Err x) (Err (refusal Reason.TooLong 0)) = ap answer_of (sym q) ∙ g.answer ∙ read_record_long s h in cc)

    pub record_pointed : (y : Refusal) → y ≡ point_refusal s x → Err y ≡ pointed_record s
    unfolding point_record answer_of
    record_pointed y h = ap Err h ∙ ap (λ (x : Result Reading Refusal). point_record s (answer_of x)) (sym q) ∙ ap (point_record s) g.answer
