-- What the call promises determines its answer and its list (`answers_one`). From the one list of the breaches (Listings), and that records' promise
-- determines its answer and a record has one reading.
use Rattle.std.proofs.Common.{Result, Ok, Err, cond}
use lib.Dec.{eqb}
use Prim.Native.Nat.{ℕ, ◌*◌, ◌≤◌}
use mathlib.Core.Path.{◌≡◌, refl, sym, ap, subst, ◌∙◌}
use mathlib.Core.Logic.{inl, inr}
use mathlib.Core.List.{List, ◌++◌}
use native.Mathlib.Omega.{arith}
use lib.ListN.{length, drop}
use Rattle.records.specs.Readings.{Placed}
use Rattle.records.specs.Grammar.{Record}
use Rattle.records.specs.Numbers.{RecordReport, accepted, refused, record_report, number_of}
use Rattle.records.specs.declared.Reason.{Reason}
use Rattle.records.specs.Answers.{most_bytes, RecordAnswers}
use Rattle.records.specs.Reader.{after_version}
use Rattle.records.proofs.Laws.Records.{record_accepted, one_reading, record_answers_is}
use Rattle.publishing.specs.declared.HouseError.{HouseError}
use Rattle.publishing.specs.declared.HouseError.TheVariants.{Record as Unread}
use Rattle.publishing.specs.Listing.{Entry, encoded, breach_bytes, most_breaches, NoRoom, Listing, HouseAnswers, long_name, unread, no_room, listed}
use Rattle.publishing.proofs.Laws.Listings.{one_listing}

-- a record that is produced isn't refused
pub not_both : {s : List ℕ} {ts : List Placed} {number at : ℕ} → RecordAnswers s (refused number at) → Record s ts → length s ≤ most_bytes → ⊥
not_both {s} {ts} {number} {at} a d h =
    let e : ◌≡◌ {A = RecordReport} (refused number at) (accepted after_version) = record_answers_is s (refused number at) a ∙ ap record_report (record_accepted d h) in
    let z : ◌≡◌ {A = ℕ} 0 1 = cc in
    omega arith

-- one list of a record
pub same_list : {s : List ℕ} {ts us : List Placed} {name : ℕ} {es fs : List Entry} → length s ≤ most_bytes → Record s ts → Record s us
    → Listing ts (length s) name es → Listing us (length s) name fs → es ≡ fs
same_list {s} {ts} {us} {name} {es} {fs} h d c l m =
    one_listing l (subst (λ (vs : List Placed). Listing vs (length s) name fs) (sym (one_reading h d c)) m)

both_fit : {es fs : List Entry} (list : List ℕ) → es ≡ fs → NoRoom es list → length fs ≤ most_breaches → breach_bytes * length fs ≤ length list → ⊥
both_fit list e (inl a) h k = omega (arith, ap length e)
both_fit list e (inr a) h k = omega (arith, ap length e)

-- a number is that of one reason
reason_of : ℕ → Reason
reason_of n =
    cond (eqb n 30) Reason.TooLong (cond (eqb n 31) Reason.NoVersion (cond (eqb n 32) Reason.Outside (cond (eqb n 33) Reason.Repeated Reason.Beyond)))

reason_back : (r : Reason) → reason_of (number_of r) ≡ r
unfolding reason_of
reason_back Reason.TooLong = refl
reason_back Reason.NoVersion = refl
reason_back Reason.Outside = refl
reason_back Reason.Repeated = refl
reason_back Reason.Beyond = refl

same_reason : (r q : Reason) → number_of r ≡ number_of q → r ≡ q
same_reason r q e = sym (reason_back r) ∙ ap reason_of e ∙ reason_back q

abbrev answered : ℕ → Result ℕ HouseError
answered n = Ok n

-- the same answer and the same list
abbrev Same : List ℕ → List ℕ → Result ℕ HouseError → Result ℕ HouseError → Type 0
Same x y r q = (r ≡ q) × (x ≡ y)

module _ (domain s before x y : List ℕ) where
  pub answers_one : {r q : Result ℕ HouseError} → HouseAnswers domain s before x r → HouseAnswers domain s before y q → Same x y r q
  answers_one (long_name h e) (long_name k f) = (refl, e ∙ sym f)
  answers_one (long_name h e) (unread k a f) = absurd (omega arith)
  answers_one (long_name h e) (no_room k l d m n f) = absurd (omega arith)
  answers_one (long_name h e) (listed k l d m n o f) = absurd (omega arith)
  answers_one (unread h a e) (long_name k f) = absurd (omega arith)
  answers_one (unread {x = v} h a e) (unread {x = w} k b f) =
      let g : ◌≡◌ {A = RecordReport} (refused (number_of v.reason) v.at) (refused (number_of w.reason) w.at) =
      record_answers_is s (refused (number_of v.reason) v.at) a ∙ sym (record_answers_is s (refused (number_of w.reason) w.at) b) in
      let n : number_of v.reason ≡ number_of w.reason = cc in
      let p : v.at ≡ w.at = cc in
      let q = same_reason v.reason w.reason n in
      ((λ t. Err (Unread (record { reason = q t; at = p t }))), e ∙ sym f)
  answers_one (unread h a e) (no_room k l d m n f) = absurd (not_both a d l)
  answers_one (unread h a e) (listed k l d m n o f) = absurd (not_both a d l)
  answers_one (no_room h i c j n e) (long_name k f) = absurd (omega arith)
  answers_one (no_room h i c j n e) (unread k a f) = absurd (not_both a c i)
  answers_one (no_room h i c j n e) (no_room k l d m o f) = (refl, e ∙ sym f)
  answers_one (no_room h i c j n e) (listed k l d m o p f) = absurd (both_fit before (same_list i c d j m) n o p)
  answers_one (listed h i c j n o e) (long_name k f) = absurd (omega arith)
  answers_one (listed h i c j n o e) (unread k a f) = absurd (not_both a c i)
  answers_one (listed h i c j n o e) (no_room k l d m p f) = absurd (both_fit before (same_list i d c m j) p n o)
  answers_one (listed {es = es} h i c j n o e) (listed {es = fs} k l d m p q f) =
      let g = same_list i c d j m in
      (ap (λ (us : List Entry). answered (length us)) g, e ∙ ap (λ (us : List Entry). encoded us ++ drop (breach_bytes * length us) before) g ∙ sym f)
