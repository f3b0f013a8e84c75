-- What the calls answer. One rule for each way out of `is_long`, `put_end`, `put_found`, `list_breaches` and `house_rules`. From the walk (Walking), the
-- list of breaches (Findings), the rows of networks (Tables) and records' laws.
use Rattle.std.proofs.Common.{None, Some, Result, Ok, Err}
use Rattle.std.specs.Result.{IsErrAnd}
use Prim.Native.Nat.{ℕ, ◌+◌, ◌*◌, ◌/◌, ◌≤◌, ◌<◌, min}
use mathlib.Core.Path.{◌≡◌, refl, sym, ap, subst, ◌∙◌}
use mathlib.Core.Logic.{inl, inr, ⊎_elim}
use mathlib.Core.List.{List, [], ◌∷◌, ◌++◌}
use mathlib.Core.Bool.{Bool, not, ◌||◌}
use native.Mathlib.Omega.{arith}
use lib.Dec.{leb}
use lib.ListN.{length, take, drop, length-append}
use borrow.Author.Tests.{le-leb, lt-leb}
use Rattle.text.specs.Bytes.{part}
use Rattle.text.specs.Writing.{Wrote, Writes}
use Rattle.text.specs.declared.writing.Writer.{Writer}
use Rattle.text.proofs.Laws.Orders.{le_or_lt}
use Rattle.text.proofs.Laws.Writing.{over_fits, value_taken}
use Rattle.duplicates.specs.declared.Row.{Row}
use Rattle.duplicates.specs.Rows.{Marks, most_rows}
use Rattle.records.specs.Readings.{Placed}
use Rattle.records.specs.Numbers.{term, term_report, record_report, TermAnswer, RecordAnswer}
use Rattle.records.specs.Grammar.{Record}
use Rattle.records.specs.Answers.{most_bytes, RecordAnswers}
use Rattle.records.specs.Reader.{after_version, read_term, Reads, stop, step}
use Rattle.records.specs.declared.Refusal.{Refusal}
use Rattle.records.proofs.Laws.Arguments.{stands}
use Rattle.records.proofs.Laws.Records.{record_complete, accepting}
use Rattle.records.proofs.Laws.Remaining.{placed}
use Rattle.records.proofs.Laws.Versions.{version_length}
use Rattle.publishing.specs.declared.offences.Seen.{Seen}
use Rattle.publishing.specs.declared.HouseError.{HouseError}
use Rattle.publishing.specs.declared.HouseError.TheVariants.{Name, TooMany, Record as Unread}
use Rattle.publishing.specs.House.{too_many_bytes}
use Rattle.publishing.specs.Listing.{Entry, encoded, most_name, most_list, most_breaches, Listing, HouseAnswers}
use Rattle.publishing.specs.Rows.{network_rows, Marked}
use Rattle.publishing.specs.Finding.{any, is_all, redirects, entry_if, offences_of, end_offences, found, ordered, seen_of, WroteEntries, Surveys, PutsOffences, PutsFound, PutsOrdered, Lists, ListsBreaches}
use Rattle.publishing.proofs.Laws.Findings.{Ascending, ascending_none, ascending_more, found_listing, length_ordered}
use Rattle.publishing.proofs.Laws.Ordering.{length_encoded, entries_more}
use Rattle.publishing.proofs.Laws.Networks.{Fits, term_fits}
use Rattle.publishing.proofs.Laws.Rows.{AllFit}
use Rattle.publishing.proofs.Laws.Tables.{marks_marked}

-- `is_long`
pub long_both : (name size sum : ℕ) → sum ≡ min (name + size) 18446744073709551615 → leb too_many_bytes sum ≡ leb too_many_bytes (name + size)
long_both name size sum e = ⊎_elim
    (λ (k : too_many_bytes ≤ name + size). le-leb too_many_bytes sum (omega arith) ∙ sym (le-leb too_many_bytes (name + size) k))
    (λ (k : name + size < too_many_bytes). lt-leb too_many_bytes sum (omega arith) ∙ sym (lt-leb too_many_bytes (name + size) k))
    (le_or_lt too_many_bytes (name + size))

-- `put_end`
pub end_wrote : (ended : Bool) (size name : ℕ) (out o₁ o₂ : Writer) → Writes (encoded (entry_if (not ended) 3 size)) out o₁
    → (x : Bool) → x ≡ leb too_many_bytes (name + size) → Writes (encoded (entry_if x 10 size)) o₁ o₂ → Writes (encoded (end_offences ended size name)) out o₂
unfolding end_offences
end_wrote ended size name out o₁ o₂ u x e v =
    let w = subst (λ (y : Bool). WroteEntries (entry_if y 10 size) o₁ o₂) e v.wrote in
    record {
      wrote = entries_more (entry_if (not ended) 3 size) (entry_if (leb too_many_bytes (name + size)) 10 size) out o₁ o₂ u.wrote w;
      same = v.same ∙ u.same;
    }

-- the terms of a record: their places rise, and their networks fit
low : {lo hi j : ℕ} {ts : List Placed} → Ascending lo ts hi → j ≤ lo → Ascending j ts hi
low {lo} {hi} {j} (ascending_none h) k = ascending_none {lo = j} {hi = hi} (omega arith)
low {lo} {hi} {j} (ascending_more {t = t} h a) k = ascending_more {lo = j} {t = t} (omega arith) a

record Terms (s : List ℕ) (i : ℕ) (ts : List Placed) : Type 0 where
  rise : i ≤ length s → Ascending i ts (length s)
  fit : AllFit ts

terms : {s : List ℕ} {i : ℕ} {ts : List Placed} → Reads s i ts → Terms s i ts
terms (stop h) = record { rise = λ k. ascending_none k; fit = AllFit.none }
terms {s} {i} (step {next = next} {t = u} {ts = ts} h r) = by (read_term s i) refl h (terms r)
  where
    by : (x : TermAnswer) → read_term s i ≡ x → term_report s x ≡ term next u → Terms s next ts → Terms s i (u ∷ ts)
    by (Ok None) q g f = let z : ◌≡◌ {A = ℕ} 0 1 = cc in absurd (omega arith)
    by (Err x) q g f = let z : ◌≡◌ {A = ℕ} 0 1 = cc in absurd (omega arith)
    by (Ok (Some x)) q g f =
        let b = x.at in
        let e = x.next in
        let t = x.term in
        let m : placed s b e t ≡ u = cc in
        let n : e ≡ next = cc in
        let p : b ≡ u.place = ap (λ (x : Placed). x.place) m in
        let c = stands s i b e t q in
        record {
          rise = λ k. ascending_more {lo = i} {t = u} (omega (arith, c.after, p)) (low (f.rise (omega (arith, c.inside, n))) (omega (arith, c.some, n, p)));
          fit = AllFit.more (subst Fits m (term_fits (part s b e) b t c.token)) f.fit;
        }

-- `put_found`
module _ (s : List ℕ) (first name : ℕ) (table₀ table : List Row) (whole : Seen) (v : Surveys s first table₀ table whole) (size : length table₀ ≡ most_rows)
    (marks : List ℕ) (m : Marks (take whole.networks table) marks) where
  all_marked : Marked s first marks
  unfolding seen_of
  all_marked =
      record {
        by = λ ts d.
            let k = v.by ts d in
            let e : whole.networks ≡ length (network_rows ts) = ap (λ (x : Seen). x.networks) k.0 in
            marks_marked ts table marks k.1.0 (omega (arith, v.kept, k.1.1)) (terms d).fit (subst (λ (n : ℕ). Marks (take n table) marks) e m);
      }

  pub found_wrote : (out o₁ o₂ : Writer) → PutsOffences s first whole.all marks out o₁ → (ended : Bool) → ended ≡ (whole.all || whole.redirect)
      → Writes (encoded (end_offences ended (length s) name)) o₁ o₂ → PutsFound s first name out o₂
  unfolding found seen_of
  found_wrote out o₁ o₂ u ended e x =
      record {
        same = x.same ∙ u.same;
        by = λ ts d.
            let k = (v.by ts d).0 in
            let g : ended ≡ (any is_all ts || any redirects ts) = e ∙ ap (λ (y : Seen). y.all || y.redirect) k in
            entries_more (offences_of ts [] ts) (end_offences (any is_all ts || any redirects ts) (length s) name) out o₁ o₂
            (u.by ts d (ap (λ (y : Seen). y.all) k) all_marked)
            (subst (λ (y : Bool). WroteEntries (end_offences y (length s) name) o₁ o₂) g x.wrote);
      }

-- `list_breaches`
module _ (s : List ℕ) (first name : ℕ) (before : List ℕ) (w o : Writer) (start : w.at ≡ 0) (m : PutsFound s first name w o) where
  size_is : (ts : List Placed) → Reads s first ts → o.at ≡ min (3 * length (ordered (found ts (length s) name))) 18446744073709551615
  size_is ts d = omega (arith, (m.by ts d).next_place, start, length_encoded (found ts (length s) name), length_ordered ts (length s) name)

  pub too_many : (limit : ℕ) → limit ≡ min most_list (length before) → limit < o.at → ListsBreaches s first name before before (Err TooMany)
  too_many limit e h =
      record {
        by = λ ts d.
            Lists.no_room (⊎_elim
            (λ (k : length (ordered (found ts (length s) name)) ≤ most_breaches). inr (omega (arith, size_is ts d)))
            (λ (k : most_breaches < length (ordered (found ts (length s) name))). inl k)
            (le_or_lt (length (ordered (found ts (length s) name))) most_breaches)) refl;
      }

  pub all_listed : (limit : ℕ) → limit ≡ min most_list (length before) → o.at ≤ limit → length w.out.now ≡ most_list → (buffer : List ℕ) → buffer ≡ o.out.now
      → (after : List ℕ) → PutsOrdered (take o.at buffer) before after → ListsBreaches s first name before after (Ok (o.at / 3))
  all_listed limit j h b buffer same after f =
      record {
        by = λ ts d.
            let all = found ts (length s) name in
            let es = ordered all in
            let p = m.by ts d in
            let l = length_encoded all in
            let g = length_ordered ts (length s) name in
            let c : o.at ≡ 3 * length es = omega (arith, size_is ts d) in
            let q : o.at / 3 ≡ length es = omega arith in
            let p₀ : Wrote (encoded all) w.out.now 0 o.out.now o.at = rw start at p in
            let z = f.by all (ap (take o.at) same ∙ value_taken (encoded all) w.out.now o.out.now o.at p₀ (omega (arith, l, g, c))) in
            let t : after ≡ encoded es ++ drop (3 * length es) before =
            z ∙ over_fits (encoded es) before (omega (arith, c, length_encoded es))
            ∙ ap (λ (i : ℕ). encoded es ++ drop i before) (length_encoded es) in
            subst (λ (i : ℕ). Lists es before after (Ok i)) (sym q) (Lists.listed (omega (arith, c)) (omega (arith, c)) t);
      }

-- `house_rules`
long_enough : {s : List ℕ} {ts : List Placed} → Record s ts → after_version ≤ length s
long_enough (Record.spf1 {v = v} {rest = rest} l t o) = omega (arith, version_length v l, length-append v rest)

pub terms_rise : {s : List ℕ} {ts : List Placed} → Record s ts → length s ≤ most_bytes → Ascending after_version ts (length s)
terms_rise d h = (terms (record_complete d h).walk).rise (long_enough d)

module _ (domain s before after : List ℕ) where
  pub name_refused : most_name < length domain → HouseAnswers domain s before before (Err Name)
  name_refused h = HouseAnswers.long_name h refl

  from_lists : {ts : List Placed} {es : List Entry} {x : Result ℕ HouseError} → length domain ≤ most_name → length s ≤ most_bytes → Record s ts
      → Listing ts (length s) (length domain) es → Lists es before after x → HouseAnswers domain s before after x
  from_lists h k d l (Lists.no_room e g) = HouseAnswers.no_room h k d l e g
  from_lists h k d l (Lists.listed e g i) = HouseAnswers.listed h k d l e g i

  module _ (h : length domain ≤ most_name) (r : RecordAnswer) (a : RecordAnswers s (record_report r)) where
    pub record_refused : (x : Refusal) → r ≡ Err x → (y : Result ℕ HouseError) → IsErrAnd y (λ e. e ≡ Unread x) → HouseAnswers domain s before before y
    record_refused x q (Ok n) e = absurd e
    record_refused x q (Err z) e =
        subst (λ (v : HouseError). HouseAnswers domain s before before (Err v)) (sym e)
        (HouseAnswers.unread h (subst (λ (z : RecordAnswer). RecordAnswers s (record_report z)) q a) refl)

    pub record_read : (first : ℕ) → r ≡ Ok first → (x : Result ℕ HouseError) → ListsBreaches s first (length domain) before after x
        → HouseAnswers domain s before after x
    record_read first q x f =
        let c = accepting s first (subst (λ (y : RecordAnswer). RecordAnswers s (record_report y)) q a) in
        let d = (record_complete c.reading c.short).walk in
        let l = found_listing c.terms (length s) (length domain) after_version (terms_rise c.reading c.short) in
        from_lists h c.short c.reading l (f.by c.terms (subst (λ (i : ℕ). Reads s i c.terms) (sym c.first) d))
