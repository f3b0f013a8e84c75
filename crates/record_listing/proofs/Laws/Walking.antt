-- The lines of a record's terms, written one after the other: one rule for each way out of `put_terms`, `put_term`, `put_refusal`, `list_record` and
-- the functions for cases. From the definitions of Lines, the laws of `records` on the terms that are left, and
-- the laws on writing of `text`.
use lib.Seq.{take-append_seam, get_or-append_seam}
use Rattle.std.proofs.Common.{None, Ok, Err, Option, Some}
use Prim.Native.Nat.{ℕ, ◌-◌, ◌^◌, ◌≤◌, ◌<◌}
use mathlib.Core.Path.{◌≡◌, refl, sym, ap, subst, ◌∙◌}
use mathlib.Core.List.{List, [], ◌∷◌, ◌++◌, append-nil, append_assoc}
use native.Mathlib.Omega.{arith}
use lib.ListN.{length, get_or, take, length-append}
use borrow.Author.Tests.{ne_eqb}
use Rattle.text.specs.Bytes.{part}
use Rattle.text.specs.Texts.{bytes}
use Rattle.text.specs.Writing.{Wrote, Writes}
use Rattle.text.specs.declared.writing.Writer.{Writer}
use Rattle.records.specs.declared.ReadTerm.{ReadTerm}
use Rattle.records.specs.declared.Refusal.{Refusal}
use Rattle.records.proofs.Laws.Arguments.{stands}
use Rattle.record_listing.proofs.Laws.Columns.{writes_then}
use Rattle.text.proofs.Laws.Writing.{wrote_none, wrote_then, wrote_over, wrote_length}
use Rattle.address_text.specs.Digits.{in_decimal}
use Rattle.records.specs.Readings.{Said, Placed}
use Rattle.records.specs.Numbers.{record_report, term_report, said_of, TermAnswer, RecordAnswer, number_of}
use Rattle.records.specs.Answers.{RecordAnswers}
use Rattle.records.specs.Reader.{read_term, Reads}
use Rattle.records.specs.Beginnings.{pointed_record}
use Rattle.records.proofs.Laws.Records.{record_complete, record_answers, accepting}
use Rattle.records.proofs.Laws.Remaining.{placed, reads_next, reads_out}
use Rattle.record_listing.proofs.Laws.Room.{prints_length}
use Rattle.record_listing.specs.Lines.{said_line, line_of, lines_of, listing_of, refusal_line, lists, refuses, Listed, room, without_newline, reading_line, term_line, Shown}

-- the lines of the terms that were passed, and those that are left
pub record Walked (s : List ℕ) (a : Writer) (ts : List Placed) (i : ℕ) (b : Writer) : Type 0 where
  pub done : List Placed
  pub left : List Placed
  pub whole : lines_of ts ≡ lines_of done ++ lines_of left
  pub reads : Reads s i left
  pub writes : Writes (lines_of done) a b

-- `put_terms`: for each reading from the first place on
abbrev pub Walking : List ℕ → ℕ → Writer → ℕ → Writer → Type 0
Walking s start a i b = (ts : List Placed) → Reads s start ts → Walked s a ts i b

pub walking_start : (s : List ℕ) (start : ℕ) (a : Writer) → a.at < 2 ^ 64 → length a.out.now < 2 ^ 64 → Walking s start a start a
unfolding lines_of
walking_start s start a h k ts r = record {
  done = [];
  left = ts;
  whole = refl;
  reads = r;
  writes = record { wrote = wrote_none a.out.now a.at (omega arith) (omega arith); same = refl };
}

lines_append : (xs ys : List Placed) → lines_of (xs ++ ys) ≡ lines_of xs ++ lines_of ys
unfolding lines_of
lines_append [] ys = refl
lines_append (x ∷ xs) ys = rw (lines_append xs ys, append_assoc)

one_line : (t : Placed) → lines_of (t ∷ []) ≡ line_of t
unfolding lines_of
one_line t = append-nil (line_of t)

moved : (done left : List Placed) (y : Placed) → lines_of done ++ lines_of (y ∷ left) ≡ lines_of (done ++ (y ∷ [])) ++ lines_of left
moved done left y = rw (lines_append done (y ∷ []), append_assoc, ← lines_append (y ∷ []) left)

module _ (s : List ℕ) (start : ℕ) (a : Writer) (i : ℕ) (b : Writer) (w : Walking s start a i b) (x : TermAnswer) (p : x ≡ read_term s i) where
  -- no term is left
  ended : ((t : ReadTerm) → x ≡ Ok (Some t) → ⊥) → (ts : List Placed) → Reads s start ts → Writes (lines_of ts) a b
  unfolding lines_of
  ended h ts r = let v = w ts r in rw (v.whole, reads_out v.reads x p (λ at next t e. h _ e), append-nil) v.writes

  pub walked_out : (y : Option ReadTerm) → x ≡ Ok y → y ≡ None → (ts : List Placed) → Reads s start ts → Writes (lines_of ts) a b
  walked_out y e h = ended (λ t f. by x y e h f)
    where
      by : (r : TermAnswer) (y : Option ReadTerm) → r ≡ Ok y → y ≡ None → {t : ReadTerm} → r ≡ Ok (Some t) → ⊥
      by r y e h f = let z : ◌≡◌ {A = ℕ} 0 1 = cc in omega arith

  pub walked_refused : (f : Refusal) → x ≡ Err f → (ts : List Placed) → Reads s start ts → Writes (lines_of ts) a b
  walked_refused f e = ended (λ t g. by x e g)
    where
      by : (r : TermAnswer) → r ≡ Err f → {t : ReadTerm} → r ≡ Ok (Some t) → ⊥
      by r e g = let z : ◌≡◌ {A = ℕ} 0 1 = cc in omega arith

  -- one more term
  module _ (y : Option ReadTerm) (e : x ≡ Ok y) (t : ReadTerm) (taken : y ≡ Some t) where
    q : x ≡ Ok (Some t)
    q = e ∙ ap Ok taken

    abbrev found : Placed
    found = placed s t.at t.next t.term

    pub walked_less : length s - t.next < length s - i
    walked_less = let k = stands s i t.at t.next t.term (sym p ∙ q) in omega (arith, k.after, k.some, k.inside)

    pub walked_on : (c : Writer) → Writes (line_of found) b c → Walking s start a t.next c
    walked_on c u ts r =
        let v = w ts r in
        let l = reads_next v.reads t.at t.next t.term (sym p ∙ q) in
        record {
          done = v.done ++ (found ∷ []);
          left = l.more;
          whole = v.whole ∙ ap (λ (us : List Placed). lines_of v.done ++ lines_of us) l.whole ∙ moved v.done l.more found;
          reads = l.reads;
          writes = rw (lines_append v.done (found ∷ []), one_line found) (writes_then (lines_of v.done) (line_of found) a b c v.writes u);
        }

-- pieces that are written one after the other
module _ (a b c : Writer) where
  pub place_written : (place : ℕ) → Writes (in_decimal place) a b → Writes (32 ∷ []) b c → Writes (in_decimal place ++ bytes " ") a c
  place_written place u v = writes_then (in_decimal place) (32 ∷ []) a b c u v

  pub term_written : (place : ℕ) (x : Said) → Writes (in_decimal place ++ bytes " ") a b → (l : List ℕ) → l ≡ said_line x → Writes l b c
      → Writes (line_of (record { place = place; said = x })) a c
  unfolding line_of
  term_written place x u l e v = writes_then (in_decimal place ++ bytes " ") (said_line x) a b c u (rw e at v)

  pub refusal_written : (number place : ℕ) (d e f : Writer) → Writes (bytes "refused ") a b → Writes (in_decimal number) b c → Writes (bytes " at ") c d
      → Writes (in_decimal place) d e → Writes (10 ∷ []) e f → Writes (refusal_line number place) a f
  unfolding refusal_line
  refusal_written number place d e f u v w x y = writes_then _ _ a e f (writes_then _ _ a d e (writes_then _ _ a c d (writes_then _ _ a b c u v) w) x) y

  -- `put_record_answer` of a record that is accepted
  pub accepted_written : (s : List ℕ) (x : RecordAnswer) → x ≡ pointed_record s → (next : ℕ) → x ≡ Ok next → (d : Writer) → Writes (bytes "accepted ") a b
      → Writes (in_decimal next) b c → Writes (10 ∷ []) c d → Writes (reading_line (record_report (pointed_record s))) a d
  unfolding reading_line
  accepted_written s x p next q d u v w = rw (← p, q) (writes_then _ _ a c d (writes_then _ _ a b c u v) w)

  -- `put_answer` of a term
  pub answer_written : (s : List ℕ) (x : TermAnswer) (y : Option ReadTerm) → x ≡ Ok y → (t : ReadTerm) → y ≡ Some t → (d : Writer)
      → Writes (in_decimal t.at ++ bytes " ") a b → Writes (in_decimal t.next ++ bytes " ") b c
      → (l : List ℕ) → l ≡ said_line (said_of (part s t.at t.next) t.term) → Writes l c d → Writes (term_line (term_report s x)) a d
  unfolding term_line
  answer_written s x y e t f d u v l g w =
      rw (e, f, append_assoc (in_decimal t.at ++ bytes " ") (in_decimal t.next) (bytes " "))
      (writes_then _ _ a c d (writes_then _ _ a b c u v) (rw g at w))

-- what is written in one piece
module _ (s : List ℕ) (a b : Writer) where
  pub refused_written : (x : RecordAnswer) → x ≡ pointed_record s → (f : Refusal) → x ≡ Err f → Writes (refusal_line (number_of f.reason) f.at) a b
      → Writes (reading_line (record_report (pointed_record s))) a b
  unfolding reading_line
  refused_written x p f q w = rw (← p, q) w

  module _ (x : TermAnswer) where
    pub end_written : (y : Option ReadTerm) → x ≡ Ok y → y ≡ None → Writes (bytes "end\n") a b → Writes (term_line (term_report s x)) a b
    unfolding term_line
    end_written y e f w = rw (e, f) w

    pub no_term_written : (f : Refusal) → x ≡ Err f → Writes (refusal_line (number_of f.reason) f.at) a b → Writes (term_line (term_report s x)) a b
    unfolding term_line
    no_term_written f e w = rw e w

-- `put_listing`
module _ (s : List ℕ) (a : Writer) (x : RecordAnswer) (p : x ≡ pointed_record s) where
  pub refusal_shown : (b : Writer) (f : Refusal) → x ≡ Err f → Writes (refusal_line (number_of f.reason) f.at) a b → Shown s a b
  refusal_shown b f q w = record {
    text = refusal_line (number_of f.reason) f.at;
    prints = refuses (subst (RecordAnswers s) (ap record_report (sym p ∙ q)) (record_answers s));
    wrote = w.wrote;
  }

  pub terms_shown : (b c : Writer) (next : ℕ) → x ≡ Ok next → Writes (bytes "at term sign arg four six\n") a b
      → ((ts : List Placed) → Reads s next ts → Wrote (lines_of ts) b.out.now b.at c.out.now c.at) → Shown s a c
  unfolding listing_of
  terms_shown b c next q u f =
      let r = accepting s next (subst (RecordAnswers s) (ap record_report (sym p ∙ q)) (record_answers s)) in
      let t = subst (λ (j : ℕ). Reads s j r.terms) (sym r.first) (record_complete r.reading r.short).walk in
      record { text = listing_of r.terms; prints = lists r.short r.reading; wrote = wrote_then a.out.now a.at _ _ b.out.now c.out.now b.at c.at u.wrote (f r.terms t) }

-- `list_record`
pub shown_listed : (s before : List ℕ) (a b : Writer) → room ≤ length before → a.out.now ≡ before → a.at ≡ 0 → Shown s a b
    → (after : List ℕ) → after ≡ b.out.now → Listed s before after b.at
shown_listed s before a b h q z v after e =
    let l = prints_length v.prints in
    let w : Wrote v.text before 0 after b.at = rw (q, z, ← e) at v.wrote in
    record {
      text = v.text;
      prints = v.prints;
      size = wrote_length v.text before after b.at w (omega arith);
      buffer = wrote_over v.text before after b.at w;
    }

-- `without_newline` and `list_input`
pub newline_empty : (s : List ℕ) → length s ≡ 0 → s ≡ without_newline s
unfolding without_newline
newline_empty [] h = refl
newline_empty (b ∷ s) h = absurd (omega arith)

module _ (s front : List ℕ) (last : ℕ) (split : s ≡ front ++ (last ∷ [])) where
  last_at : length s - 1 ≡ length front
  last_at = rw split (simp length-append (omega arith))

  last_is : get_or s (length s - 1) 0 ≡ last
  last_is = rw last_at (rw split (get_or-append_seam front last [] 0))

  pub newline_other : (last ≡ 10 → ⊥) → s ≡ without_newline s
  unfolding without_newline
  newline_other h = rw (last_is, ne_eqb last 10 h)

  pub newline_dropped : last ≡ 10 → front ≡ without_newline s
  unfolding without_newline
  newline_dropped h = rw (last_is, h, last_at) (sym (ap (take (length front)) split ∙ take-append_seam front (last ∷ [])))

pub input_listed : (input : List ℕ) (n : ℕ) (x s out o : List ℕ) (r : ℕ) → x ≡ part input 0 n → s ≡ without_newline x → Listed s out o r
    → Listed (without_newline (part input 0 n)) out o r
input_listed input n x s out o r p e l = subst (λ (y : List ℕ). Listed y out o r) (e ∙ ap without_newline p) l
