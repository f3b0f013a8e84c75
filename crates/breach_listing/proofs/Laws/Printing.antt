-- What is printed of a name and a record is one text (`prints_one`), and of an input no more than 4,354 bytes matter (`long_input`). From the one list of
-- the breaches (`same_list` of `publishing`), that a record that is produced isn't refused (`not_both`), and the claim of `records`.
use Prim.Native.Nat.{ℕ, zero, suc, ◌+◌, ◌-◌, ◌≤◌, ◌<◌, min}
use mathlib.Core.Path.{◌≡◌, refl, sym, ap, subst, ◌∙◌}
use mathlib.Core.Logic.{◌↔◌, ⊎_elim}
use mathlib.Core.List.{List, [], ◌∷◌}
use mathlib.Core.Bool.{Bool, true, false, cond}
use native.Mathlib.Omega.{arith}
use lib.ListN.{length, take, drop, length-take}
use lib.Seq.{take-take, take_all, take-add, drop_at, length-take-le}
use Rattle.text.specs.Runs.{run}
use Rattle.text.specs.Fields.{is_not, first_field, after_field, after_fields, field}
use Rattle.text.proofs.Laws.Orders.{le_or_lt}
use Rattle.text.proofs.Laws.Runs.{run_le}
use Rattle.records.specs.Numbers.{RecordReport, refused}
use Rattle.records.specs.Answers.{RecordAnswers}
use Rattle.records.proofs.Laws.Records.{record_answers_is}
use Rattle.record_listing.specs.Lines.{without_newline}
use Rattle.record_listing.proofs.Laws.Printing.{newline_length}
use Rattle.publishing.proofs.Laws.Deciding.{not_both, same_list}
use Rattle.breach_listing.specs.Lines.{list_text, Prints, long_name, unread, many, lists, domain_of, record_of}

-- one text
module _ {domain s : List ℕ} where
  pub prints_one : {x y : List ℕ} → Prints domain s x → Prints domain s y → x ≡ y
  prints_one (long_name h) (long_name k) = refl
  prints_one (long_name h) (unread k a) = absurd (omega arith)
  prints_one (long_name h) (many k l d m n) = absurd (omega arith)
  prints_one (long_name h) (lists k l d m n) = absurd (omega arith)
  prints_one (unread h a) (long_name k) = absurd (omega arith)
  prints_one (unread {number} {place} h a) (unread {number = number'} {place = place'} k b) =
      let e : ◌≡◌ {A = RecordReport} (refused number place) (refused number' place') =
      record_answers_is s (refused number place) a ∙ sym (record_answers_is s (refused number' place') b) in
      let f : number ≡ number' = cc in
      let g : place ≡ place' = cc in
      rw (f, g)
  prints_one (unread h a) (many k l d m n) = absurd (not_both a d l)
  prints_one (unread h a) (lists k l d m n) = absurd (not_both a d l)
  prints_one (many h i c j n) (long_name k) = absurd (omega arith)
  prints_one (many h i c j n) (unread k a) = absurd (not_both a c i)
  prints_one (many h i c j n) (many k l d m o) = refl
  prints_one (many h i c j n) (lists k l d m o) = absurd (omega (arith, ap length (same_list i c d j m)))
  prints_one (lists h i c j n) (long_name k) = absurd (omega arith)
  prints_one (lists h i c j n) (unread k a) = absurd (not_both a c i)
  prints_one (lists h i c j n) (many k l d m o) = absurd (omega (arith, ap length (same_list i c d j m)))
  prints_one (lists h i c j n) (lists k l d m o) = ap (list_text s) (same_list i c d j m)

-- two names and records of which one text is known
same_printed : {d s e t x : List ℕ} → Prints d s x → Prints e t x → (y : List ℕ) → Prints d s y ↔ Prints e t y
same_printed p q y = ((λ r. subst (Prints _ _) (prints_one p r) q), (λ r. subst (Prints _ _) (prints_one q r) p))

-- how much of an input decides what is printed: a name of 255 bytes, a record of 4,096, their newlines, and one byte more
abbrev pub enough : ℕ
enough = 4354

run_take : (p : ℕ → Bool) (n : ℕ) (s : List ℕ) → run p (take n s) ≡ min n (run p s)
unfolding run
run_take p zero s = omega arith
run_take p (suc n) [] = omega arith
run_take p (suc n) (x ∷ xs) = by (p x) (run_take p n xs)
  where
    by : (b : Bool) → run p (take n xs) ≡ min n (run p xs) → cond b (suc (run p (take n xs))) 0 ≡ min (suc n) (cond b (suc (run p xs)) 0)
    by true e = omega arith
    by false e = omega arith

module _ (input : List ℕ) where
  abbrev Same : List ℕ → Type 0
  Same text = Prints (domain_of input) (record_of input) text ↔ Prints (domain_of (take enough input)) (record_of (take enough input)) text

  abbrev stop : ℕ
  stop = run (is_not 10) input

  abbrev rest : List ℕ
  rest = drop (suc stop) input

  abbrev kept : List ℕ
  kept = take (enough - suc stop) rest

  domain_is : domain_of input ≡ take stop input
  unfolding domain_of field first_field after_fields
  domain_is = refl

  record_is : record_of input ≡ without_newline rest
  unfolding record_of after_fields after_field
  record_is = refl

  domain_front : domain_of (take enough input) ≡ take (min enough stop) (take enough input)
  unfolding domain_of field first_field after_fields
  domain_front = ap (λ (n : ℕ). take n (take enough input)) (run_take (is_not 10) enough input)

  record_front : record_of (take enough input) ≡ without_newline (drop (suc (min enough stop)) (take enough input))
  unfolding record_of after_fields after_field
  record_front = ap (λ (n : ℕ). without_newline (drop (suc n) (take enough input))) (run_take (is_not 10) enough input)

  -- a name that is too long stays so
  long_domain : 255 < stop → (text : List ℕ) → Same text
  long_domain h =
      let l = run_le (is_not 10) input in
      let d : 255 < length (domain_of input) = rw (domain_is, length-take) (omega arith) in
      let f : 255 < length (domain_of (take enough input)) = rw (domain_front, length-take, length-take) (omega arith) in
      same_printed (long_name d) (long_name f)

  module _ (h : stop ≤ 255) (long : enough < length input) where
    here_stop : min enough stop ≡ stop
    here_stop = omega arith

    same_domain : domain_of (take enough input) ≡ domain_of input
    same_domain = domain_front ∙ ap (λ (n : ℕ). take n (take enough input)) here_stop ∙ take-take stop enough input (omega arith) ∙ sym domain_is

    kept_is : drop (suc stop) (take enough input) ≡ kept
    kept_is =
        let n : suc stop + (enough - suc stop) ≡ enough = omega arith in
        ap (λ (k : ℕ). drop (suc stop) (take k input)) (sym n) ∙ ap (drop (suc stop)) (take-add (suc stop) (enough - suc stop) input)
        ∙ drop_at (take (suc stop) input) kept (suc stop) (length-take-le (suc stop) input (omega arith))

    kept_record : record_of (take enough input) ≡ without_newline kept
    kept_record = record_front ∙ ap (λ (n : ℕ). without_newline (drop (suc n) (take enough input))) here_stop ∙ ap without_newline kept_is

    -- of a record that is read whole nothing is cut, and one that is cut is too long
    same_record : length rest ≤ enough - suc stop → (text : List ℕ) → Same text
    same_record k text =
        let e : record_of (take enough input) ≡ record_of input = kept_record ∙ ap without_newline (take_all (enough - suc stop) rest k) ∙ sym record_is in
        rw (same_domain, e) ((λ p. p), (λ p. p))

    long_record : enough - suc stop < length rest → (text : List ℕ) → Same text
    long_record k =
        let d : length (domain_of input) ≤ 255 = rw (domain_is, length-take) (omega arith) in
        let f : length (domain_of (take enough input)) ≤ 255 = rw same_domain d in
        let l : length kept ≡ enough - suc stop = length-take-le (enough - suc stop) rest (omega arith) in
        let a : 4096 < length (record_of input) = rw record_is (omega (arith, newline_length rest)) in
        let b : 4096 < length (record_of (take enough input)) = rw kept_record (omega (arith, newline_length kept)) in
        same_printed (unread d (RecordAnswers.too_long a)) (unread f (RecordAnswers.too_long b))

pub long_input : (input text : List ℕ) → Prints (domain_of input) (record_of input) text
    ↔ Prints (domain_of (take enough input)) (record_of (take enough input)) text
long_input input text = ⊎_elim
    (λ (h : length input ≤ enough). rw (take_all enough input h) ((λ p. p), (λ p. p)))
    (λ (h : enough < length input). ⊎_elim
    (λ (k : stop input ≤ 255). ⊎_elim
    (λ (l : length (rest input) ≤ enough - suc (stop input)). same_record input k h l text)
    (λ (l : enough - suc (stop input) < length (rest input)). long_record input k h l text)
    (le_or_lt (length (rest input)) (enough - suc (stop input))))
    (λ (k : 255 < stop input). long_domain input k text)
    (le_or_lt (stop input) 255))
    (le_or_lt (length input) enough)
