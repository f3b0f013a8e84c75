-- One rule for each way out of `lint`, and that of `answer_input`: what is written is what is printed. From what `house_rules` promises, the laws of Room and
-- the laws on writing of `text`.
use Rattle.std.proofs.Common.{Result, Ok, Err}
use Prim.Native.Nat.{ℕ, ◌*◌, ◌≤◌, ◌<◌}
use mathlib.Core.Path.{◌≡◌, ap, subst, ◌∙◌}
use mathlib.Core.Logic.{⊎_elim}
use mathlib.Core.List.{List}
use native.Mathlib.Omega.{arith}
use lib.ListN.{length, take, drop}
use lib.Seq.{take_at}
use Rattle.text.specs.Fields.{after_fields, field}
use Rattle.text.specs.Writing.{Wrote, Writes}
use Rattle.text.specs.declared.writing.Writer.{Writer}
use Rattle.text.proofs.Laws.Writing.{wrote_over, wrote_length}
use Rattle.record_listing.specs.Lines.{refusal_line, without_newline}
use Rattle.publishing.specs.declared.HouseError.{HouseError}
use Rattle.publishing.specs.declared.HouseError.TheVariants.{Name, TooMany, Record as Unread}
use Rattle.publishing.specs.Listing.{Entry, breach_bytes, most_breaches, most_list, NoRoom, encoded, number_of, place_of, HouseAnswers}
use Rattle.publishing.proofs.Laws.Ordering.{length_encoded}
use Rattle.breach_listing.specs.Lines.{list_text, Prints, long_name, unread, many, lists, domain_of, record_of, Printed}
use Rattle.breach_listing.specs.Writing.{PutsList, Lints}
use Rattle.breach_listing.proofs.Laws.Room.{listed_below, prints_length}

-- in a list of 768 bytes there is room for 256
no_more : (es : List Entry) (list : List ℕ) → length list ≡ most_list → NoRoom es list → most_breaches < length es
no_more es list h n = ⊎_elim (λ (a : most_breaches < length es). a) (λ (a : length list < breach_bytes * length es). omega arith) n

-- `lint`
module _ (domain s before after : List ℕ) (r : Result ℕ HouseError) (a : HouseAnswers domain s before after r) where
  pub listed_few : (n : ℕ) → r ≡ Ok n → n ≤ most_breaches
  listed_few n e = by a e
    where
      by : {q : Result ℕ HouseError} → HouseAnswers domain s before after q → q ≡ Ok n → n ≤ most_breaches
      by (HouseAnswers.long_name h f) q = let z : ◌≡◌ {A = ℕ} 0 1 = cc in absurd (omega arith)
      by (HouseAnswers.unread h b f) q = let z : ◌≡◌ {A = ℕ} 0 1 = cc in absurd (omega arith)
      by (HouseAnswers.no_room h k d l m f) q = let z : ◌≡◌ {A = ℕ} 0 1 = cc in absurd (omega arith)
      by (HouseAnswers.listed {es = es} h k d l i j f) q = let m : length es ≡ n = cc in omega arith

  module _ (out o : Writer) where
    pub list_linted : (n : ℕ) → r ≡ Ok n → PutsList s (take (3 * n) after) out o → Lints domain s out o
    list_linted n e w = by a e
      where
        by : {q : Result ℕ HouseError} → HouseAnswers domain s before after q → q ≡ Ok n → Lints domain s out o
        by (HouseAnswers.long_name h f) q = let z : ◌≡◌ {A = ℕ} 0 1 = cc in absurd (omega arith)
        by (HouseAnswers.unread h b f) q = let z : ◌≡◌ {A = ℕ} 0 1 = cc in absurd (omega arith)
        by (HouseAnswers.no_room h k d l i f) q = let z : ◌≡◌ {A = ℕ} 0 1 = cc in absurd (omega arith)
        by (HouseAnswers.listed {es = es} h k d l i j f) q =
            let c : n ≡ length es = cc in
            record {
              text = list_text s es;
              prints = lists h k d l i;
              writes = record {
                wrote = w.by es
                    (record {
                      whole = ap (take (3 * n)) f ∙ take_at (encoded es) (drop (breach_bytes * length es) before) (3 * n) (omega (arith, length_encoded es, c));
                      small = λ x y. let b = listed_below k d l x y in omega arith;
                    });
                same = w.same;
              };
            }

    pub refusal_linted : length before ≡ most_list → (x : HouseError) → r ≡ Err x → (number place : ℕ) → number ≡ number_of x → place ≡ place_of x
        → Writes (refusal_line number place) out o → Lints domain s out o
    refusal_linted z x e number place p q w = by a e
      where
        given : (y : HouseError) → y ≡ x → Prints domain s (refusal_line (number_of y) (place_of y)) → Lints domain s out o
        given y i t =
            record {
              text = refusal_line number place;
              prints = rw (p, q) (subst (λ (v : HouseError). Prints domain s (refusal_line (number_of v) (place_of v))) i t);
              writes = w;
            }

        by : {q : Result ℕ HouseError} → HouseAnswers domain s before after q → q ≡ Err x → Lints domain s out o
        by (HouseAnswers.long_name h f) q = let i : Name ≡ x = cc in given Name i (long_name h)
        by (HouseAnswers.unread {x = v} h b f) q = let i : Unread v ≡ x = cc in given (Unread v) i (unread h b)
        by (HouseAnswers.no_room {es = es} h k d l n f) q = let i : TooMany ≡ x = cc in given TooMany i (many h k d l (no_more es before z n))
        by (HouseAnswers.listed h k d l i j f) q = let y : ◌≡◌ {A = ℕ} 0 1 = cc in absurd (omega arith)

-- `answer_input`
pub input_printed : (input domain rest s out after : List ℕ) (a o : Writer) → domain ≡ field 10 0 input → rest ≡ after_fields 10 1 input → s ≡ without_newline rest
    → a.at ≡ 0 → a.out.now ≡ out → after ≡ o.out.now → Lints domain s a o → Printed input out after o.at
unfolding domain_of record_of
input_printed input domain rest s out after a o d e f z b c l =
    let w : Wrote l.text out 0 after o.at = rw (c, ← b, ← z) l.writes.wrote in
    record {
      text = l.text;
      prints = rw (← d, ← e, ← f) l.prints;
      size = wrote_length l.text out after o.at w (let k = prints_length l.prints in omega arith);
      buffer = wrote_over l.text out after o.at w;
    }
