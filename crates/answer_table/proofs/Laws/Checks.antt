-- The check of a table against the productions: its answer is the one that the productions give (sound), and they give no other (complete),
-- so number, place and count of an answer are determined. From the laws of one entry (Encoding), of entries and of finding.
use Rattle.std.proofs.Common.{is_some, None, Option, Some, Result, Ok, Err}
use Prim.Native.Nat.{ℕ, zero, suc, ◌+◌, ◌≤◌, ◌<◌}
use mathlib.Core.Path.{◌≡◌, refl, sym, ap, subst, ◌∙◌}
use mathlib.Core.List.{List, [], ◌∷◌, ◌++◌, append-nil, append_assoc}
use mathlib.Core.Bool.{Bool, true, false, cond}
use mathlib.Core.Logic.{◌⊎◌, inl, inr}
use native.Mathlib.Omega.{arith}
use native.Mathlib.Decide.{dec_lt}
use native.Mathlib.Nat.{add-zero, zero-add}
use lib.ListN.{length, take, drop, length-append, length-drop, take-append-drop}
use lib.Seq.{length-take-le, take_all, take-add, take-append_seam, drop-append_seam, append_snoc}
use lib.Dec.{ltb, eqb}
use borrow.Author.Tests.{ltb-true, ltb-false, eqb-true, eqb-false, lt-ltb, le-ltb, eq-eqb, ne_eqb}
use Rattle.text.proofs.Laws.Tests.{cond-elim}
use Rattle.answer_table.specs.Layout.{Entry, EncodesIn, EntriesIn, none, more, distinct}
use Rattle.answer_table.specs.Numbers.{Report, accepted, refused, byte, reported}
use Rattle.answer_table.specs.Answers.{most_entries, EncodedIn, NoEntryIn, TableAnswersIn, too_long, malformed, repeated, whole}
use Rattle.answer_table.specs.Reader.{header_of, is_well, name_of, entry_of, find_in, step_after, step_at, check_after, check_from, check_in}
use Rattle.answer_table.specs.declared.Layout.{Layout}
use Rattle.answer_table.specs.declared.entries.Header.{Header}
use Rattle.answer_table.specs.declared.TableError.{TableError}
use Rattle.answer_table.specs.declared.TableError.TheVariants.{TooLong, Malformed, Repeated}
use Rattle.answer_table.proofs.Laws.Encoding.{header_facts, head_of, well_sound, well_complete}
use Rattle.answer_table.proofs.Laws.Entries.{entries_snoc, distinct_snoc, distinct_before}
use Rattle.answer_table.proofs.Laws.Finding.{found_iff}

-- a well-formed entry at a place, and whether its pair is found before it
record Stands (lay : Layout) (t : List ℕ) (i size : ℕ) (seen : Bool) : Type 0 where
  it : Entry
  encodes : EncodesIn lay (take size (drop i t)) it
  inside : size ≤ length (drop i t)
  some : 6 ≤ size
  before : is_some (find_in lay (take i t) it.kind it.name) ≡ seen

-- what each answer at a place says
abbrev StepRight : Layout → List ℕ → ℕ → Result ℕ TableError → Type 0
StepRight lay t i (Ok next) = (size : ℕ) × (next ≡ i + size) × Stands lay t i size false
StepRight lay t i (Err TooLong) = ⊥
StepRight lay t i (Err (Malformed p)) = (p ≡ i) × NoEntryIn lay (drop i t)
StepRight lay t i (Err (Repeated p)) = (size : ℕ) × (p ≡ i) × Stands lay t i size true

step_right : (lay : Layout) (t : List ℕ) (i : ℕ) → StepRight lay t i (step_at lay t i)
unfolding step_at step_after entry_of
step_right lay t i = by (header_of lay (drop i t)) refl
  where
    by : (x : Option Header) → header_of lay (drop i t) ≡ x → StepRight lay t i (step_after lay t i x)
    by None q = (refl, λ w after e s p. let r = well_complete p after in let z : ◌≡◌ {A = ℕ} 0 1 = cc r.header in omega arith)
    by (Some h) q =
        let f = header_facts lay (drop i t) h q in
        cond-elim (StepRight lay t i) (is_well lay (drop i t) h)
        (λ a. let p = well_sound (drop i t) h q a in
        cond-elim (StepRight lay t i) (is_some (find_in lay (take i t) h.kind (name_of lay (drop i t) h)))
        (λ b. (h.size, refl, record { it = entry_of lay (drop i t) h; encodes = p; inside = f.1; some = omega (arith, f.0); before = b }))
        (λ b. (h.size, refl, record { it = entry_of lay (drop i t) h; encodes = p; inside = f.1; some = omega (arith, f.0); before = b })))
        (λ a. (refl, λ w after e s p. let r = well_complete p after in let z : ◌≡◌ {A = ℕ} 0 1 = cc (r.header, r.well) in omega arith))

-- one turn of the check, by what it meets
module _ (lay : Layout) (f : ℕ) (t : List ℕ) (i count : ℕ) where
  pub check_end : length t ≤ i → check_from lay f t i count ≡ Ok count
  unfolding check_from
  check_end h = by f
    where
      by : (f : ℕ) → check_from lay f t i count ≡ Ok count
      by zero = refl
      by (suc f) = simp (le-ltb i (length t) h)

  module _ (here : i < length t) where
    pub check_full : count ≡ 512 → check_from lay (suc f) t i count ≡ Err (Malformed i)
    unfolding check_from
    check_full h = simp (lt-ltb i (length t) here, eq-eqb count 512 h)

    module _ (few : count ≡ 512 → ⊥) where
      check_step : (s : Result ℕ TableError) → step_at lay t i ≡ s → check_from lay (suc f) t i count ≡ check_after count s (check_from lay f t)
      unfolding check_from
      check_step s h = simp (lt-ltb i (length t) here, ne_eqb count 512 few, h)

      pub check_next : (next : ℕ) → step_at lay t i ≡ Ok next → check_from lay (suc f) t i count ≡ check_from lay f t next (count + 1)
      unfolding check_after
      check_next next h = check_step (Ok next) h

      pub check_bad : (e : TableError) → step_at lay t i ≡ Err e → check_from lay (suc f) t i count ≡ Err e
      unfolding check_after
      check_bad e h = check_step (Err e) h

-- one entry more before the place
encoded_next : {lay : Layout} (t : List ℕ) (i size : ℕ) {es : List Entry} (s : Stands lay t i size false) → EncodedIn lay (take i t) es → length es < 512
    → EncodedIn lay (take (i + size) t) (es ++ (s.it ∷ []))
encoded_next t i size {es} s p l = record {
  entries = rw take-add (entries_snoc p.entries s.encodes);
  few = omega (arith, length-append es (s.it ∷ []));
  once = distinct_snoc es s.it p.once (sym (found_iff p.entries s.it.kind s.it.name) ∙ s.before);
}

-- sound: after entries that are well-formed, few and of different pairs
module _ (lay : Layout) (t : List ℕ) (short : length t ≤ 65535) where
  sound_from : (f i count : ℕ) (es : List Entry) → i ≤ length t → length t < f + i → EncodedIn lay (take i t) es → length es ≡ count
      → TableAnswersIn lay t (reported (check_from lay f t i count))
  unfolding check_from check_after
  sound_from zero i count es h l p n = absurd (omega arith)
  sound_from (suc f) i count es h l p n =
      cond-elim (λ (a : Result ℕ TableError). TableAnswersIn lay t (reported a)) (ltb i (length t))
      (λ a. cond-elim (λ (a : Result ℕ TableError). TableAnswersIn lay t (reported a)) (eqb count 512)
      (λ b. at_place (malformed (take i t) (drop i t) short cut p (rest a) (inl (n ∙ eqb-true count 512 b))))
      (λ b. by (sound_from f) a (eqb-false count 512 b) (step_at lay t i) refl))
      (λ a. subst (λ (k : ℕ). TableAnswersIn lay t (accepted k)) n
      (whole short (subst (λ (u : List ℕ). EncodedIn lay u es) (take_all i t (ltb-false i (length t) a)) p)))
    where
      cut : t ≡ take i t ++ drop i t
      cut = sym (take-append-drop i t)

      place : length (take i t) ≡ i
      place = length-take-le i t h

      at_place : TableAnswersIn lay t (refused 25 (byte (length (take i t)))) → TableAnswersIn lay t (refused 25 (byte i))
      at_place = subst (λ (k : ℕ). TableAnswersIn lay t (refused 25 (byte k))) place

      rest : ltb i (length t) ≡ true → 0 < length (drop i t)
      rest a = let b = ltb-true i (length t) a in omega (arith, length-drop i t)

      by : ((j m : ℕ) (fs : List Entry) → j ≤ length t → length t < f + j → EncodedIn lay (take j t) fs → length fs ≡ m
          → TableAnswersIn lay t (reported (check_from lay f t j m)))
          → ltb i (length t) ≡ true → (count ≡ 512 → ⊥) → (s : Result ℕ TableError) → step_at lay t i ≡ s
          → TableAnswersIn lay t (reported (check_after count s (check_from lay f t)))
      by ih a b (Ok next) q =
          let r : StepRight lay t i (Ok next) = subst (StepRight lay t i) q (step_right lay t i) in
          let k = p.few in
          let e = encoded_next t i r.0 r.2 p (omega arith) in
          ih next (count + 1) (es ++ (r.2.it ∷ [])) (omega (arith, r.1, r.2.inside, length-drop i t)) (omega (arith, r.1, r.2.some))
          (subst (λ (j : ℕ). EncodedIn lay (take j t) (es ++ (r.2.it ∷ []))) (sym r.1) e)
          (omega (arith, length-append es (r.2.it ∷ [])))
      by ih a b (Err TooLong) q = let r : StepRight lay t i (Err TooLong) = subst (StepRight lay t i) q (step_right lay t i) in absurd r
      by ih a b (Err (Malformed j)) q =
          let r : StepRight lay t i (Err (Malformed j)) = subst (StepRight lay t i) q (step_right lay t i) in
          rw r.0 (at_place (malformed (take i t) (drop i t) short cut p (rest a) (inr r.1)))
      by ih a b (Err (Repeated j)) q =
          let r : StepRight lay t i (Err (Repeated j)) = subst (StepRight lay t i) q (step_right lay t i) in
          let k = p.few in
          rw r.1 (subst (λ (k : ℕ). TableAnswersIn lay t (refused 26 (byte k))) place
          (repeated (take i t) (take r.0 (drop i t)) (drop r.0 (drop i t)) short
          (cut ∙ ap (λ (u : List ℕ). take i t ++ u) (sym (take-append-drop r.0 (drop i t)))) p (omega arith) r.2.encodes
          (sym (found_iff p.entries r.2.it.kind r.2.it.name) ∙ r.2.before)))

-- the check's answer is the one that the productions give
pub table_answers : {lay : Layout} (t : List ℕ) → TableAnswersIn lay t (reported (check_in lay t))
unfolding check_in distinct
table_answers {lay} t =
    cond-elim (λ (a : Result ℕ TableError). TableAnswersIn lay t (reported a)) (ltb 65535 (length t)) (λ a. too_long (ltb-true 65535 (length t) a))
    (λ a. sound_from lay t (ltb-false 65535 (length t) a) (suc (length t)) 0 0 [] (omega arith) (omega arith)
    (record { entries = none; few = omega arith; once = refl }) refl)

-- a well-formed entry is read where it stands
module _ {lay : Layout} {w : List ℕ} {e : Entry} (p : EncodesIn lay w e) (front rest : List ℕ) where
  step_complete : step_at lay (front ++ (w ++ rest)) (length front)
      ≡ cond (is_some (find_in lay front e.kind e.name)) (Err (Repeated (length front))) (Ok (length front + length w))
  unfolding step_at step_after entry_of
  step_complete =
      let r = well_complete p rest in
      let n : name_of lay (w ++ rest) (head_of e (length w)) ≡ e.name = ap (λ (x : Entry). x.name) r.holds in
      simp (drop-append_seam, take-append_seam, r.header, r.well, n)

  step_new : is_some (find_in lay front e.kind e.name) ≡ false → step_at lay (front ++ (w ++ rest)) (length front) ≡ Ok (length front + length w)
  step_new h = step_complete ∙ simp h

  step_old : is_some (find_in lay front e.kind e.name) ≡ true → step_at lay (front ++ (w ++ rest)) (length front) ≡ Err (Repeated (length front))
  step_old h = step_complete ∙ simp h

-- the check comes to a place after some entries, with turns left
record Comes (lay : Layout) (t : List ℕ) (f i count j total : ℕ) : Type 0 where
  left : ℕ
  enough : length t < left + j
  goes : check_from lay f t i count ≡ check_from lay left t j total

walk : {lay : Layout} {u : List ℕ} {es : List Entry} → EntriesIn lay u es → (t front : List ℕ) (ds : List Entry) (rest : List ℕ)
    → t ≡ front ++ (u ++ rest) → EntriesIn lay front ds
    → distinct (ds ++ es) ≡ true → (f i count : ℕ) → i ≡ length front → count ≡ length ds → count + length es ≤ 512 → length t < f + i
    → Comes lay t f i count (i + length u) (count + length es)
walk none t front ds rest q d o f i count a b m l = record { left = f; enough = omega arith; goes = simp add-zero }
walk (more {w = w} {rest = u} {e = e} {es = es} p v) t front ds rest q d o zero i count a b m l =
    absurd (omega (arith, ap length q, length-append front ((w ++ u) ++ rest)))
walk {lay} (more {w = w} {rest = u} {e = e} {es = es} p v) t front ds rest q d o (suc f) i count a b m l =
    let s = (well_complete p (u ++ rest)).some in
    let q₀ : t ≡ front ++ (w ++ (u ++ rest)) = q ∙ ap (λ (x : List ℕ). front ++ x) (append_assoc w u rest) in
    let q₁ : t ≡ (front ++ w) ++ (u ++ rest) = q₀ ∙ sym (append_assoc front w (u ++ rest)) in
    let n = length-append front w in
    let k = length-append ds (e ∷ []) in
    let g = step_new p front (u ++ rest) (found_iff d e.kind e.name ∙ distinct_before ds e es o) in
    let g₁ : step_at lay t i ≡ Ok (i + length w) = cc in
    let h = check_next lay f t i count (omega (arith, ap length q₁, length-append (front ++ w) (u ++ rest))) (omega arith) (i + length w) g₁ in
    let r = walk v t (front ++ w) (ds ++ (e ∷ [])) rest q₁ (entries_snoc d p) (simp append_snoc o) f (i + length w) (count + 1) (omega arith) (omega arith)
    (omega arith) (omega arith) in
    let x : (i + length w) + length u ≡ i + length (w ++ u) = omega (arith, length-append w u) in
    let y : (count + 1) + length es ≡ count + suc (length es) = omega arith in
    record { left = r.left; enough = omega (arith, r.enough); goes = h ∙ r.goes ∙ rw (x, y) }

-- the check comes to the end of any entries that a table begins with
comes_to_lem : {lay : Layout} {front : List ℕ} {es : List Entry} → EncodedIn lay front es → (t rest : List ℕ) → t ≡ front ++ rest → length t ≤ 65535
    → (f : ℕ) × (check_in lay t ≡ check_from lay (suc f) t (length front) (length es))
unfolding check_in
comes_to_lem {lay} {front} {es} p t rest q short =
    let c = walk p.entries t [] [] rest q none p.once (suc (length t)) 0 0 refl refl (omega (arith, p.few)) (omega arith) in
    turn c.left c.enough (simp (le-ltb 65535 (length t) short) (c.goes ∙ simp zero-add))
  where
    turn : (f : ℕ) → length t < f + (0 + length front) → check_in lay t ≡ check_from lay f t (length front) (length es)
        → (f : ℕ) × (check_in lay t ≡ check_from lay (suc f) t (length front) (length es))
    turn zero l e = absurd (omega (arith, ap length q, length-append front rest))
    turn (suc f) l e = (f, e)

-- where no well-formed entry begins, the step says so
ill_step : (lay : Layout) (t : List ℕ) (i : ℕ) → NoEntryIn lay (drop i t) → step_at lay t i ≡ Err (Malformed i)
ill_step lay t i ill = by (step_at lay t i) (step_right lay t i)
  where
    never : (size : ℕ) (seen : Bool) → Stands lay t i size seen → ⊥
    never size seen s = ill (take size (drop i t)) (drop size (drop i t)) s.it (sym (take-append-drop size (drop i t))) s.encodes

    by : (s : Result ℕ TableError) → StepRight lay t i s → s ≡ Err (Malformed i)
    by (Ok next) r = absurd (never r.0 false r.2)
    by (Err TooLong) r = absurd r
    by (Err (Malformed p)) r = rw r.0
    by (Err (Repeated p)) r = absurd (never r.0 true r.2)

-- the productions give no other answer: they determine it
pub table_answers_is : {lay : Layout} {t : List ℕ} {a : Report} → TableAnswersIn lay t a → a ≡ reported (check_in lay t)
unfolding check_in
table_answers_is {t = t} (too_long h) = simp (lt-ltb 65535 (length t) h)
table_answers_is {lay} {t} (malformed front rest {es = es} short q p some o) =
    let c = comes_to_lem p t rest q short in
    let here : length front < length t = omega (arith, ap length q, length-append front rest) in
    let at_front : drop (length front) t ≡ rest = ap (drop (length front)) q ∙ drop-append_seam front rest in
    let bad : (length es ≡ 512 → ⊥) → NoEntryIn lay rest → check_from lay (suc c.0) t (length front) (length es) ≡ Err (Malformed (length front)) =
    λ few ill. check_bad lay c.0 t (length front) (length es) here few (Malformed (length front)) (ill_step lay t (length front) (subst (NoEntryIn lay) (sym at_front) ill)) in
    ap reported (sym (c.1 ∙ by c.0 here bad o (dec_lt (length es) 512)))
  where
    by : (f : ℕ) → length front < length t
        → ((length es ≡ 512 → ⊥) → NoEntryIn lay rest → check_from lay (suc f) t (length front) (length es) ≡ Err (Malformed (length front)))
        → (length es ≡ most_entries) ⊎ NoEntryIn lay rest → Dec (length es < 512)
        → check_from lay (suc f) t (length front) (length es) ≡ Err (Malformed (length front))
    by f here bad o (no l) = check_full lay f t (length front) (length es) here (omega (arith, p.few))
    by f here bad (inl n) (yes l) = absurd (omega arith)
    by f here bad (inr ill) (yes l) = bad (λ n. omega arith) ill
table_answers_is {lay} {t} (repeated front w rest {es = es} {e = e} short q p few x h) =
    let c = comes_to_lem p t (w ++ rest) q short in
    let s = (well_complete x rest).some in
    let here : length front < length t = omega (arith, ap length q, length-append front (w ++ rest), length-append w rest) in
    let old = step_old x front rest (found_iff p.entries e.kind e.name ∙ h) in
    let o : step_at lay t (length front) ≡ Err (Repeated (length front)) = ap (λ (u : List ℕ). step_at lay u (length front)) q ∙ old in
    ap reported (sym (c.1 ∙ check_bad lay c.0 t (length front) (length es) here (omega arith) (Repeated (length front)) o))
table_answers_is {lay} {t} (whole {es = es} short p) =
    let c = comes_to_lem p t [] (sym (append-nil t)) short in
    ap reported (sym (c.1 ∙ check_end lay (suc c.0) t (length t) (length es) (omega arith)))

-- what a whole entry leaves to go on with
pub step_next : (lay : Layout) (t : List ℕ) (i next : ℕ) → step_at lay t i ≡ Ok next → (i < next) × (next ≤ length t)
step_next lay t i next e =
    let r : StepRight lay t i (Ok next) = subst (StepRight lay t i) e (step_right lay t i) in
    (omega (arith, r.1, r.2.some), omega (arith, r.1, r.2.some, r.2.inside, length-drop i t))
