-- A record read term after term: what has stood, how many networks, and the breaches that were written. One rule for each way out of `count_after`,
-- `seen_after`, `survey`, `breaks`, `put_term` and `put_offences`. From the terms that are left (records' Remaining), what terms are (Kinds), the rows of
-- networks (Networks, Tables) and text's laws of writing.
use Rattle.std.proofs.Common.{None, Ok, Err}
use Prim.Native.Nat.{ℕ, zero, suc, ◌+◌, ◌-◌, ◌*◌, ◌≤◌, ◌<◌, ◌^◌}
use mathlib.Core.Path.{◌≡◌, refl, sym, ap, subst, ◌∙◌}
use mathlib.Core.List.{List, [], ◌∷◌, ◌++◌, append_assoc, append-nil}
use mathlib.Core.Bool.{Bool, true, false, cond, not, ◌&&◌, ◌||◌}
use native.Mathlib.Omega.{arith}
use native.Mathlib.Numerals.{add-one}
use lib.Dec.{ltb, eqb}
use lib.ListN.{length, length-append}
use borrow.Author.Tests.{lt-ltb, le-ltb, ltb-true, ne_eqb, eqb-true, eq-eqb}
use Rattle.text.specs.Bytes.{at, part}
use Rattle.text.specs.Writing.{Writes}
use Rattle.text.specs.declared.writing.Writer.{Writer}
use Rattle.text.proofs.Laws.Writing.{wrote_none}
use Rattle.text.proofs.Laws.Tests.{and_right, same_tests}
use Rattle.records.specs.Readings.{Placed, absent}
use Rattle.records.specs.Numbers.{said_of, TermAnswer, term_at}
use Rattle.records.specs.Reader.{read_term, Reads}
use Rattle.records.specs.declared.Refusal.{Refusal}
use Rattle.records.specs.declared.Term.{Term}
use Rattle.records.proofs.Laws.Arguments.{stands}
use Rattle.records.proofs.Laws.Remaining.{placed, reads_next, reads_out}
use Rattle.duplicates.specs.declared.Row.{Row}
use Rattle.duplicates.specs.Rows.{most_rows}
use Rattle.publishing.specs.declared.offences.Facts.{Facts}
use Rattle.publishing.specs.declared.offences.Seen.{Seen}
use Rattle.publishing.specs.House.{Among}
use Rattle.publishing.specs.Listing.{Entry, encoded}
use Rattle.publishing.specs.Rows.{rows_of, network_rows, term_rows, Holds, PutsRow, Marked}
use Rattle.publishing.specs.Finding.{any, is_all, redirects, modifies, has_p, same_by, same_network, offends, entry_if, offences_from, offences, offences_of, none_seen, seen_of, seen_after, count_after, facts_of, breaks_by, WroteEntries, Surveys, PutsOffences}
use Rattle.publishing.proofs.Laws.Tests.{same_test}
use Rattle.publishing.proofs.Laws.Ordering.{entries_more}
use Rattle.publishing.proofs.Laws.Kinds.{Right, facts_right}
use Rattle.publishing.proofs.Laws.Networks.{term_rows_lem, network_size}
use Rattle.publishing.proofs.Laws.Tables.{network_rows_lem}

-- `count_after`
module _ (n : ℕ) (network : Bool) where
  pub count_more : network ≡ true → n < most_rows → n + 1 ≡ count_after n network
  unfolding count_after
  count_more h k = rw (h, lt-ltb n most_rows k)

  pub count_other : network ≡ false → n ≡ count_after n network
  unfolding count_after
  count_other h = rw h

  pub count_full : network ≡ true → most_rows ≤ n → n ≡ count_after n network
  unfolding count_after
  count_full h k = rw (h, le-ltb n most_rows k)

count_few : (n : ℕ) (network : Bool) → n ≤ most_rows → count_after n network ≤ most_rows
unfolding count_after
count_few n network h = by (network && ltb n most_rows) refl
  where
    by : (b : Bool) → (network && ltb n most_rows) ≡ b → cond b (n + 1) n ≤ most_rows
    by true e = let k : n < most_rows = ltb-true n most_rows (and_right network (ltb n most_rows) e) in omega arith
    by false e = h

-- "or" of two that the code has tested one after the other
pub or_holds : (a b r : Bool) → a ≡ true → r ≡ a → r ≡ (a || b)
or_holds a b r h e = e ∙ h ∙ sym (ap (λ (t : Bool). t || b) h)

pub or_rest : (a b r : Bool) → a ≡ false → r ≡ b → r ≡ (a || b)
or_rest a b r h e = e ∙ sym (ap (λ (t : Bool). t || b) h)

-- `Seen::after`
pub after_is : (x : Seen) (f : Facts) (a b c : Bool) (n : ℕ) → a ≡ (x.all || f.all) → b ≡ (x.redirect || f.redirect) → c ≡ (x.modifier || f.modifier)
    → n ≡ count_after x.networks f.network → record { all = a; redirect = b; modifier = c; networks = n } ≡ seen_after x f
unfolding seen_after
after_is x f a b c n d e g h = cc

any_more : {A : Type 0} (p : A → Bool) (xs : List A) (x : A) → any p (xs ++ (x ∷ [])) ≡ (any p xs || p x)
unfolding any
any_more p [] x = or_no (p x)
  where
    or_no : (b : Bool) → (b || false) ≡ b
    or_no true = refl
    or_no false = refl
any_more p (y ∷ xs) x = by (p y) (any p (xs ++ (x ∷ []))) (any p xs) (p x) (any_more p xs x)
  where
    by : (b u v w : Bool) → u ≡ (v || w) → (b || u) ≡ ((b || v) || w)
    by true u v w e = refl
    by false u v w e = e

rows_more : (ts : List Placed) (t : Placed) → network_rows (ts ++ (t ∷ [])) ≡ network_rows ts ++ rows_of t
unfolding network_rows
rows_more ts t = network_rows_lem ts (t ∷ []) ∙ ap (λ (rs : List Row). network_rows ts ++ rs) (append-nil (rows_of t))

count_rows : (ts : List Placed) (t : Placed) (network : Bool) → length (rows_of t) ≡ cond network 1 0 → length (network_rows ts) + length (rows_of t) ≤ most_rows
    → count_after (length (network_rows ts)) network ≡ length (network_rows (ts ++ (t ∷ [])))
unfolding count_after
count_rows ts t true e h =
    let a : length (network_rows (ts ++ (t ∷ []))) ≡ length (network_rows ts) + length (rows_of t) =
    ap length (rows_more ts t) ∙ length-append (network_rows ts) (rows_of t) in
    rw (lt-ltb (length (network_rows ts)) most_rows (omega (arith, e))) (omega (arith, a, e))
count_rows ts t false e h =
    let a : length (network_rows (ts ++ (t ∷ []))) ≡ length (network_rows ts) + length (rows_of t) =
    ap length (rows_more ts t) ∙ length-append (network_rows ts) (rows_of t) in
    omega (arith, a, e)

seen_more : (ts : List Placed) (t : Placed) (f : Facts) → Right t f → length (network_rows ts) + length (rows_of t) ≤ most_rows
    → seen_after (seen_of ts) f ≡ seen_of (ts ++ (t ∷ []))
unfolding seen_of seen_after
seen_more ts t f r h =
    let n = count_rows ts t f.network r.network h in
    rw (any_more is_all ts t, any_more redirects ts t, any_more modifies ts t, r.all, r.redirect, r.modifier, ← n)

-- a record read up to a place
pub record Way (s : List ℕ) (ts : List Placed) (i : ℕ) (seen : Seen) : Type 0 where
  pub before : List Placed
  pub rest : List Placed
  pub split : ts ≡ before ++ rest
  pub reads : Reads s i rest
  pub seen_is : seen ≡ seen_of before
  -- a network has at least six bytes
  pub bytes : 6 * length (network_rows before) ≤ i
  pub count : length (network_rows before) ≤ most_rows

way_start : (s : List ℕ) (first : ℕ) (ts : List Placed) → Reads s first ts → Way s ts first none_seen
unfolding seen_of any network_rows
way_start s first ts r = record { before = []; rest = ts; split = refl; reads = r; seen_is = refl; bytes = omega arith; count = omega arith }

module _ (s : List ℕ) (i : ℕ) (seen : Seen) (b e : ℕ) (t : Term) (q : read_term s i ≡ term_at b e t) where
  here_right : (f : Facts) → f ≡ facts_of t → Right (placed s b e t) f
  here_right f g = subst (Right (placed s b e t)) (sym g) (facts_right (part s b e) b t (stands s i b e t q).token)

  -- the rows with one more term
  room : (ts : List Placed) (w : Way s ts i seen) → 6 * (length (network_rows w.before) + length (rows_of (placed s b e t))) ≤ e
  room ts w =
      let k = stands s i b e t q in
      let n = network_size (part s b e) t k.token in
      let l : length (rows_of (placed s b e t)) ≡ length (term_rows t) = ap length (term_rows_lem (part s b e) b t) in
      omega (arith, w.bytes, k.after, k.some, k.size, n, l)

  fits : (ts : List Placed) (w : Way s ts i seen) → length (network_rows w.before) + length (rows_of (placed s b e t)) ≤ most_rows
  fits ts w = let k = stands s i b e t q in omega (arith, room ts w, k.inside, k.short)

  way_next : (f : Facts) → f ≡ facts_of t → (seen' : Seen) → seen' ≡ seen_after seen f → (ts : List Placed) → Way s ts i seen → Way s ts e seen'
  way_next f g seen' h ts w =
      let n = reads_next w.reads b e t q in
      let l : length (network_rows (w.before ++ (placed s b e t ∷ []))) ≡ length (network_rows w.before) + length (rows_of (placed s b e t)) =
      ap length (rows_more w.before (placed s b e t)) ∙ length-append (network_rows w.before) (rows_of (placed s b e t)) in
      record {
        before = w.before ++ (placed s b e t ∷ []);
        rest = n.more;
        split = w.split ∙ ap (λ (x : List Placed). w.before ++ x) n.whole ∙ sym (append_assoc w.before (placed s b e t ∷ []) n.more);
        reads = n.reads;
        seen_is = h ∙ ap (λ (x : Seen). seen_after x f) w.seen_is ∙ seen_more w.before (placed s b e t) f (here_right f g) (fits ts w);
        bytes = omega (arith, room ts w, l);
        count = omega (arith, fits ts w, l);
      }

way_end : {s : List ℕ} {ts : List Placed} {i : ℕ} {seen : Seen} (w : Way s ts i seen) → w.rest ≡ [] → ts ≡ w.before
way_end w e = w.split ∙ ap (λ (x : List Placed). w.before ++ x) e ∙ append-nil w.before

-- a turn leaves less of the record
pub turn_less : (s : List ℕ) (i : ℕ) (r : TermAnswer) → r ≡ read_term s i → (b e : ℕ) (t : Term) → r ≡ term_at b e t → length s - e < length s - i
turn_less s i r p b e t q = let k = stands s i b e t (sym p ∙ q) in omega (arith, k.after, k.some, k.inside)

-- where there is no term
pub at_end : (r : TermAnswer) → r ≡ Ok None → (b e : ℕ) (t : Term) → r ≡ term_at b e t → ⊥
at_end r q b e t h = let z : ◌≡◌ {A = ℕ} 0 1 = cc in omega arith

pub at_refusal : (r : TermAnswer) (x : Refusal) → r ≡ Err x → (b e : ℕ) (t : Term) → r ≡ term_at b e t → ⊥
at_refusal r x q b e t h = let z : ◌≡◌ {A = ℕ} 0 1 = cc in omega arith

-- what has been seen at first
pub nothing_seen : (x : Seen) → (x.all ≡ false) × ((x.redirect ≡ false) × ((x.modifier ≡ false) × (x.networks ≡ 0))) → x ≡ none_seen
nothing_seen x h = λ t. record { all = h.0 t; redirect = h.1.0 t; modifier = h.1.1.0 t; networks = h.1.1.1 t }

-- `survey`
record Surveying (s : List ℕ) (ts : List Placed) (i : ℕ) (seen : Seen) (table : List Row) : Type 0 where
  way : Way s ts i seen
  holds : Holds table (network_rows way.before)

pub record Surveyed (s : List ℕ) (first : ℕ) (before : List Row) (i : ℕ) (seen : Seen) (table : List Row) : Type 0 where
  pub kept : length table ≡ length before
  pub few : seen.networks ≤ most_rows
  by : (ts : List Placed) → Reads s first ts → Surveying s ts i seen table

pub survey_start : (s : List ℕ) (first : ℕ) (table : List Row) (seen : Seen) → seen ≡ none_seen → Surveyed s first table first seen table
unfolding way_start network_rows
survey_start s first table seen e =
    rw e (record {
      kept = refl;
      few = omega arith;
      by = λ ts r. record { way = way_start s first ts r; holds = record { each = λ i h. absurd (omega arith) } };
    })

module _ (s : List ℕ) (first : ℕ) (table₀ : List Row) (i : ℕ) (seen : Seen) (table : List Row) (w : Surveyed s first table₀ i seen table) where
  survey_all : ((rest : List Placed) → Reads s i rest → rest ≡ []) → Surveys s first table₀ table seen
  survey_all h =
      record {
        kept = w.kept;
        few = w.few;
        by = λ ts r.
            let v = w.by ts r in
            let e = way_end v.way (h v.way.rest v.way.reads) in (
              v.way.seen_is ∙ ap seen_of (sym e),
              (
                subst (λ (us : List Placed). Holds table (network_rows us)) (sym e) v.holds,
                subst (λ (us : List Placed). length (network_rows us) ≤ most_rows) (sym e) v.way.count,
              ),
            );
      }

  module _ (r : TermAnswer) (p : r ≡ read_term s i) where
    pub survey_out : ((b e : ℕ) (t : Term) → r ≡ term_at b e t → ⊥) → Surveys s first table₀ table seen
    survey_out h = survey_all (λ rest d. reads_out d r p h)

    pub survey_next : (b e : ℕ) (t : Term) → r ≡ term_at b e t → (table' : List Row) → PutsRow t seen.networks table table'
        → (f : Facts) → f ≡ facts_of t → (seen' : Seen) → seen' ≡ seen_after seen f → Surveyed s first table₀ e seen' table'
    unfolding way_next seen_of seen_after
    survey_next b e t q table' u f g seen' h =
        record {
          kept = u.kept ∙ w.kept;
          few = subst (λ (x : Seen). x.networks ≤ most_rows) (sym h) (count_few seen.networks f.network w.few);
          by = λ ts d.
              let v = w.by ts d in
              let k = sym p ∙ q in
              let rows = network_rows v.way.before in
              let l : length (rows ++ term_rows t) ≡ length rows + length (rows_of (placed s b e t)) =
              length-append rows (term_rows t) ∙ ap (λ (x : List Row). length rows + length x) (sym (term_rows_lem (part s b e) b t)) in
              let m : seen.networks ≡ length rows = ap (λ (x : Seen). x.networks) v.way.seen_is in
              record {
                way = way_next s i seen b e t k f g seen' h ts v.way;
                holds = subst (Holds table')
                    (ap (λ (x : List Row). rows ++ x) (sym (term_rows_lem (part s b e) b t)) ∙ sym (rows_more v.way.before (placed s b e t)))
                    (u.by rows m (omega (arith, l, fits s i seen b e t k ts v.way)) v.holds);
              };
        }

-- `breaks`
module _ (whole : Bool) (seen : Seen) (f : Facts) (p marked : Bool) (rule : ℕ) where
  abbrev pub Says : Bool → Type 0
  Says r = r ≡ breaks_by whole seen f p marked rule

  pub breaks_1 : rule ≡ 1 → Says f.ptr
  unfolding breaks_by
  breaks_1 h = rw h

  pub breaks_2 : rule ≡ 2 → Says p
  unfolding breaks_by
  breaks_2 h = rw h

  pub breaks_3 : rule ≡ 3 → seen.all ≡ true → Says f.all
  unfolding breaks_by
  breaks_3 h e = rw (h, e)

  pub keeps_3 : rule ≡ 3 → seen.all ≡ false → Says seen.all
  unfolding breaks_by
  keeps_3 h e = rw (h, e)

  pub breaks_4 : rule ≡ 4 → whole ≡ true → Says f.redirect
  unfolding breaks_by
  breaks_4 h e = rw (h, e)

  pub keeps_4 : rule ≡ 4 → whole ≡ false → Says whole
  unfolding breaks_by
  keeps_4 h e = rw (h, e)

  pub breaks_5 : rule ≡ 5 → seen.all ≡ true → Says f.mechanism
  unfolding breaks_by
  breaks_5 h e = rw (h, e)

  pub keeps_5 : rule ≡ 5 → seen.all ≡ false → Says seen.all
  unfolding breaks_by
  keeps_5 h e = rw (h, e)

  pub breaks_6 : rule ≡ 6 → seen.modifier ≡ true → Says (not f.modifier)
  unfolding breaks_by
  breaks_6 h e = rw (h, e)

  pub keeps_6 : rule ≡ 6 → seen.modifier ≡ false → Says seen.modifier
  unfolding breaks_by
  keeps_6 h e = rw (h, e)

  pub breaks_7 : rule ≡ 7 → Says f.plus
  unfolding breaks_by
  breaks_7 h = rw h

  pub breaks_8 : rule ≡ 8 → Says f.short
  unfolding breaks_by
  breaks_8 h = rw h

  pub breaks_9 : rule ≡ 9 → f.network ≡ true → Says marked
  unfolding breaks_by
  breaks_9 h e = rw (h, e)

  pub keeps_9 : rule ≡ 9 → f.network ≡ false → Says f.network
  unfolding breaks_by
  keeps_9 h e = rw (h, e)

  pub breaks_other : (rule ≡ 1 → ⊥) → (rule ≡ 2 → ⊥) → (rule ≡ 3 → ⊥) → (rule ≡ 4 → ⊥) → (rule ≡ 5 → ⊥) → (rule ≡ 6 → ⊥) → (rule ≡ 7 → ⊥) → (rule ≡ 8 → ⊥)
      → (rule ≡ 9 → ⊥) → Says false
  unfolding breaks_by
  breaks_other a b c d e g h i j =
      rw (ne_eqb rule 1 a, ne_eqb rule 2 b, ne_eqb rule 3 c, ne_eqb rule 4 d, ne_eqb rule 5 e, ne_eqb rule 6 g, ne_eqb rule 7 h, ne_eqb rule 8 i, ne_eqb rule 9 j)

pub ruleset broken = (breaks_1, breaks_2, breaks_3, keeps_3, breaks_4, keeps_4, breaks_5, keeps_5, breaks_6, keeps_6, breaks_7, breaks_8, breaks_9, keeps_9, breaks_other)

-- `Tested::put`
pub record Ruling (test : ℕ → Bool) (place : ℕ) (before now : Writer) (rule : ℕ) : Type 0 where
  pub same : now.out.ghost_name ≡ before.out.ghost_name
  done : List Entry
  left : ℕ
  turns : rule + left ≡ 10
  all : done ++ offences_from left rule test place ≡ offences test place
  wrote : WroteEntries done before now

pub ruling_start : (test : ℕ → Bool) (place : ℕ) (out : Writer) → out.at < 2 ^ 64 → length out.out.now < 2 ^ 64 → Ruling test place out out 1
unfolding encoded offences
ruling_start test place out h k =
    record { same = refl; done = []; left = 9; turns = refl; all = refl; wrote = wrote_none out.out.now out.at (omega arith) (omega arith) }

module _ (test : ℕ → Bool) (place : ℕ) (before now : Writer) (rule : ℕ) (w : Ruling test place before now rule) where
  pub ruling_end : 10 ≤ rule → Writes (encoded (offences test place)) before now
  unfolding offences_from
  ruling_end h =
      let z : w.left ≡ 0 = omega (arith, w.turns) in
      let e : w.done ≡ offences test place = sym (append-nil w.done) ∙ ap (λ (k : ℕ). w.done ++ offences_from k rule test place) (sym z) ∙ w.all in
      record { wrote = subst (λ (x : List Entry). WroteEntries x before now) e w.wrote; same = w.same }

  ruling_turn : rule < 10 → (after : Writer) → Writes (encoded (entry_if (test rule) rule place)) now after
      → (left : ℕ) → rule + left ≡ 10 → w.done ++ offences_from left rule test place ≡ offences test place → Ruling test place before after (rule + 1)
  unfolding offences_from
  ruling_turn h after u zero t a = absurd (omega arith)
  ruling_turn h after u (suc left) t a =
      record {
        same = u.same ∙ w.same;
        done = w.done ++ entry_if (test rule) rule place;
        left = left;
        turns = omega arith;
        all = rw add-one (append_assoc w.done (entry_if (test rule) rule place) (offences_from left (suc rule) test place) ∙ a);
        wrote = entries_more w.done (entry_if (test rule) rule place) before now after w.wrote u.wrote;
      }

  pub ruling_next : rule < 10 → (found : Bool) → found ≡ test rule → (after : Writer) → Writes (encoded (entry_if found rule place)) now after
      → Ruling test place before after (rule + 1)
  ruling_next h found e after u =
      ruling_turn h after (subst (λ (x : Bool). Writes (encoded (entry_if x rule place)) now after) e u) w.left w.turns w.all

-- the tests of a term's facts are those of the term
no_first : (t u : Placed) → t.said.address ≡ absent → same_network t u ≡ false
unfolding same_network same_by
no_first t u e = rw e

no_same : (t : Placed) → t.said.address ≡ absent → (us : List Placed) → any (same_network t) us ≡ false
unfolding any
no_same t e [] = refl
no_same t e (u ∷ us) = rw (no_first t u e) (no_same t e us)

module _ (s : List ℕ) (first : ℕ) (marks : List ℕ) (m : Marked s first marks) (ts : List Placed) (d : Reads s first ts) (before : List Placed) (t : Placed)
    (a : Among ts before t) (f : Facts) (r : Right t f) (marked : Bool) (e : marked ≡ eqb (at marks (length (network_rows before))) 1) where
  marked_is : (f.network && marked) ≡ any (same_network t) before
  marked_is = by f.network refl
    where
      by : (b : Bool) → f.network ≡ b → (b && marked) ≡ any (same_network t) before
      by true k =
          let l : length (rows_of t) ≡ 1 = r.network ∙ ap (λ (x : Bool). cond x 1 0) k in
          let v = m.by ts d before t a (omega arith) in
          let y = same_test t before in
          same_tests marked (any (same_network t) before)
          (λ h. y.1 (v.0 (eqb-true (at marks (length (network_rows before))) 1 (sym e ∙ h))))
          (λ h. e ∙ eq-eqb (at marks (length (network_rows before))) 1 (v.1 (y.0 h)))
      by false k = sym (no_same t (r.other k) before)

  term_tests : (whole : Bool) → whole ≡ any is_all ts → (seen : Seen) → seen ≡ seen_of before → (p : Bool) → p ≡ has_p t.said.argument
      → (rule : ℕ) → breaks_by whole seen f p marked rule ≡ offends rule ts before t
  unfolding breaks_by offends seen_of
  term_tests whole h seen k p l rule =
      rw (h, k, l, marked_is, ← r.all, ← r.plus, ← r.ptr, ← r.mechanism, ← r.redirect, ← r.modifier, ← r.short)

same_offences : (test other : ℕ → Bool) (place : ℕ) → ((rule : ℕ) → test rule ≡ other rule) → (n rule : ℕ) → offences_from n rule test place ≡ offences_from n rule other place
unfolding offences_from
same_offences test other place h zero rule = refl
same_offences test other place h (suc n) rule = rw (h rule, same_offences test other place h n (suc rule))

-- `put_offences`
record Offending (s : List ℕ) (before : Writer) (ts : List Placed) (i : ℕ) (seen : Seen) (now : Writer) : Type 0 where
  way : Way s ts i seen
  done : List Entry
  all : done ++ offences_of ts way.before way.rest ≡ offences_of ts [] ts
  wrote : WroteEntries done before now

pub record Offended (s : List ℕ) (first : ℕ) (whole : Bool) (marks : List ℕ) (before : Writer) (i : ℕ) (seen : Seen) (now : Writer) : Type 0 where
  pub same : now.out.ghost_name ≡ before.out.ghost_name
  by : (ts : List Placed) → Reads s first ts → whole ≡ any is_all ts → Marked s first marks → Offending s before ts i seen now

pub offences_start : (s : List ℕ) (first : ℕ) (whole : Bool) (marks : List ℕ) (out : Writer) (seen : Seen) → seen ≡ none_seen → out.at < 2 ^ 64
    → length out.out.now < 2 ^ 64 → Offended s first whole marks out first seen out
unfolding way_start encoded
offences_start s first whole marks out seen e l h =
    rw e (record {
      same = refl;
      by = λ ts d a m.
          record { way = way_start s first ts d; done = []; all = refl; wrote = wrote_none out.out.now out.at (omega arith) (omega arith) };
    })

module _ (s : List ℕ) (first : ℕ) (whole : Bool) (marks : List ℕ) (before : Writer) (i : ℕ) (seen : Seen) (now : Writer)
    (w : Offended s first whole marks before i seen now) (r : TermAnswer) (p : r ≡ read_term s i) where
  pub offences_out : ((b e : ℕ) (t : Term) → r ≡ term_at b e t → ⊥) → PutsOffences s first whole marks before now
  unfolding offences_of
  offences_out h =
      record {
        same = w.same;
        by = λ ts d a m.
            let v = w.by ts d a m in
            let e : offences_of ts v.way.before v.way.rest ≡ [] = ap (offences_of ts v.way.before) (reads_out v.way.reads r p h) in
            let f : v.done ≡ offences_of ts [] ts = sym (append-nil v.done) ∙ ap (λ (l : List Entry). v.done ++ l) (sym e) ∙ v.all in
            subst (λ (l : List Entry). WroteEntries l before now) f v.wrote;
      }

  pub offences_next : (b e : ℕ) (t : Term) → r ≡ term_at b e t → (f : Facts) → f ≡ facts_of t
      → (x : Bool) → x ≡ has_p (said_of (part s b e) t).argument → (byte : ℕ) → byte ≡ at marks seen.networks
      → (after : Writer) → Writes (encoded (offences (breaks_by whole seen f x (eqb byte 1)) b)) now after
      → (seen' : Seen) → seen' ≡ seen_after seen f → Offended s first whole marks before e seen' after
  unfolding offences_of offences way_next seen_of
  offences_next b e t q f g x y byte z after u seen' h =
      record {
        same = u.same ∙ w.same;
        by = λ ts d a m.
            let v = w.by ts d a m in
            let here = placed s b e t in
            let l = reads_next v.way.reads b e t (sym p ∙ q) in
            let among : Among ts v.way.before here =
            record { after = l.more; split = v.way.split ∙ ap (λ (us : List Placed). v.way.before ++ us) l.whole } in
            let c : byte ≡ at marks (length (network_rows v.way.before)) = z ∙ ap (λ (j : Seen). at marks j.networks) v.way.seen_is in
            let tests = term_tests s first marks m ts d v.way.before here among f (here_right s i seen b e t (sym p ∙ q) f g)
            (eqb byte 1) (ap (λ (j : ℕ). eqb j 1) c) whole a seen v.way.seen_is x y in
            let same : offences_from 9 1 (breaks_by whole seen f x (eqb byte 1)) b ≡ offences_from 9 1 (λ rule. offends rule ts v.way.before here) b =
            same_offences (breaks_by whole seen f x (eqb byte 1)) (λ rule. offends rule ts v.way.before here) b tests 9 1 in
            let new = offences_from 9 1 (λ rule. offends rule ts v.way.before here) b in
            record {
              way = way_next s i seen b e t (sym p ∙ q) f g seen' h ts v.way;
              done = v.done ++ new;
              all = append_assoc v.done new (offences_of ts (v.way.before ++ (here ∷ [])) l.more)
                  ∙ ap (λ (us : List Placed). v.done ++ offences_of ts v.way.before us) (sym l.whole) ∙ v.all;
              wrote = entries_more v.done new before now after v.wrote (subst (λ (es : List Entry). WroteEntries es now after) same u.wrote);
            };
      }
