-- The breaches of a list, read from its bytes and written one after the other: one rule for each way out of `put_breaches` and `put_list`. From the
-- definitions of Lines and Writing and the laws on writing of `text`.
use Prim.Native.Nat.{ℕ, ◌+◌, ◌*◌, ◌/◌, ◌%◌, ◌<◌, ◌^◌}
use mathlib.Core.Path.{◌≡◌, refl, sym, ap, ◌∙◌}
use mathlib.Core.List.{List, [], ◌∷◌, ◌++◌, append_assoc, append-nil}
use native.Mathlib.Omega.{arith}
use lib.ListN.{length, take, drop, length-append}
use lib.Seq.{take_at, drop_at}
use lib.Dec.{eqb}
use mathlib.Core.Bool.{true, false}
use borrow.Author.Tests.{eqb-true, eqb-false}
use Rattle.text.specs.Bytes.{at}
use Rattle.text.specs.Texts.{bytes}
use Rattle.text.specs.Writing.{Wrote, Writes}
use Rattle.text.specs.declared.writing.Writer.{Writer}
use Rattle.text.proofs.Laws.Writing.{wrote_none, wrote_then}
use Rattle.publishing.specs.House.{here, later}
use Rattle.publishing.specs.Listing.{Entry, entry, entry_bytes, Member, encoded}
use Rattle.breach_listing.specs.Lines.{breach_text, breach_texts, list_text}
use Rattle.breach_listing.specs.Writing.{Holds, PutsBreaches, PutsList}

-- breaches one after the other
texts_append : (s : List ℕ) (es fs : List Entry) → breach_texts s (es ++ fs) ≡ breach_texts s es ++ breach_texts s fs
unfolding breach_texts
texts_append s [] fs = refl
texts_append s (e ∷ es) fs = rw (texts_append s es fs, append_assoc)

one_text : (s : List ℕ) (e : Entry) → breach_texts s (e ∷ []) ≡ breach_text s e
unfolding breach_texts
one_text s e = append-nil (breach_text s e)

same_entry : (e : Entry) (rule place : ℕ) → rule ≡ e.rule → place ≡ e.place → e ≡ entry rule place
same_entry e rule place p q = rw (p, q)

-- `put_breaches`: the entries passed, whose texts are written, and those that are left
record Passed (s : List ℕ) (before : Writer) (es : List Entry) (rest : List ℕ) (now : Writer) : Type 0 where
  done : List Entry
  left : List Entry
  split : es ≡ done ++ left
  rest_is : rest ≡ encoded left
  small : (e : Entry) → Member e left → e.place < 65536
  wrote : Wrote (breach_texts s done) before.out.now before.at now.out.now now.at

pub record Walked (s list : List ℕ) (before : Writer) (rest : List ℕ) (now : Writer) : Type 0 where
  pub same : now.out.ghost_name ≡ before.out.ghost_name
  by : (es : List Entry) → Holds list es → Passed s before es rest now

module _ (s list : List ℕ) (before : Writer) where
  pub walked_start : (rest : List ℕ) → rest ≡ list → before.at < 2 ^ 64 → length before.out.now < 2 ^ 64
      → Walked s list before rest before
  unfolding breach_texts
  walked_start rest e l h =
      record {
        same = refl;
        by = λ es d.
            record {
              done = [];
              left = es;
              split = refl;
              rest_is = e ∙ d.whole;
              small = d.small;
              wrote = wrote_none before.out.now before.at (omega arith) (omega arith);
            };
      }

  module _ (rest : List ℕ) (now : Writer) (w : Walked s list before rest now) where
    -- a chunk is an entry's bytes
    pub walked_on : (x more : List ℕ) → rest ≡ x ++ more → length x ≡ 3 → (rule place : ℕ) → rule ≡ at x 0 → place ≡ at x 1 + 256 * at x 2 → (after : Writer)
        → Writes (breach_text s (entry rule place)) now after → Walked s list before more after
    unfolding encoded
    walked_on x more cut size rule place p q after u =
        record { same = u.same ∙ w.same; by = λ es d. let v = w.by es d in by es v.done v.left v.split v.rest_is v.small v.wrote }
      where
        by : (es done left : List Entry) → es ≡ done ++ left → rest ≡ encoded left → ((e : Entry) → Member e left → e.place < 65536)
            → Wrote (breach_texts s done) before.out.now before.at now.out.now now.at → Passed s before es more after
        by es done [] r f m v = absurd (omega (arith, ap length cut, length-append x more, ap length f))
        by es done (e ∷ left) r f m v =
            let both : x ++ more ≡ entry_bytes e ++ encoded left = sym cut ∙ f in
            let one : x ≡ entry_bytes e = sym (take_at x more 3 size) ∙ ap (take 3) both in
            let a : rule ≡ e.rule = p ∙ ap (λ (l : List ℕ). at l 0) one in
            let b : place ≡ e.place % 256 + 256 * (e.place / 256 % 256) = q ∙ ap (λ (l : List ℕ). at l 1 + 256 * at l 2) one in
            let small : e.place < 65536 = m e (here refl) in
            let c : place ≡ e.place = omega arith in
            let t : breach_texts s (done ++ (e ∷ [])) ≡ breach_texts s done ++ breach_text s (entry rule place) =
            texts_append s done (e ∷ []) ∙ ap (λ (l : List ℕ). breach_texts s done ++ l) (one_text s e ∙ ap (breach_text s) (same_entry e rule place a c)) in
            record {
              done = done ++ (e ∷ []);
              left = left;
              split = r ∙ sym (append_assoc done (e ∷ []) left);
              rest_is = sym (drop_at x more 3 size) ∙ ap (drop 3) both;
              small = λ y z. m y (later z);
              wrote = rw t (wrote_then before.out.now before.at (breach_texts s done) (breach_text s (entry rule place)) now.out.now after.out.now now.at after.at v u.wrote);
            }

    pub walked_end : length rest < 3 → PutsBreaches s list before now
    unfolding encoded
    walked_end h = record { same = w.same; by = λ es d. let v = w.by es d in last es v.done v.left v.split v.rest_is v.wrote }
      where
        last : (es done left : List Entry) → es ≡ done ++ left → rest ≡ encoded left → Wrote (breach_texts s done) before.out.now before.at now.out.now now.at
            → Wrote (breach_texts s es) before.out.now before.at now.out.now now.at
        last es done [] r f v = rw (r, append-nil) v
        last es done (e ∷ left) r f v = absurd (omega (arith, ap length f))

-- `put_list`
module _ (s list : List ℕ) (a b : Writer) where
  pub none_listed : eqb (length list) 0 ≡ true → Writes (bytes "ok\n") a b → PutsList s list a b
  unfolding list_text encoded
  none_listed h w = record { same = w.same; by = λ es d. by es d.whole }
    where
      by : (es : List Entry) → list ≡ encoded es → Wrote (list_text s es) a.out.now a.at b.out.now b.at
      by [] e = w.wrote
      by (x ∷ es) e = absurd (omega (arith, ap length e, eqb-true (length list) 0 h))

  pub some_listed : eqb (length list) 0 ≡ false → PutsBreaches s list a b → PutsList s list a b
  unfolding list_text encoded
  some_listed h w = record { same = w.same; by = λ es d. by es d.whole (w.by es d) }
    where
      by : (es : List Entry) → list ≡ encoded es → Wrote (breach_texts s es) a.out.now a.at b.out.now b.at → Wrote (list_text s es) a.out.now a.at b.out.now b.at
      by [] e v = absurd (eqb-false (length list) 0 h (ap length e))
      by (x ∷ es) e v = v
