-- One rule for each way out of the functions of src/lib.rt: its premises are what the code knows there. From the laws of Entries and those on writing
-- of `text`.
use Rattle.std.proofs.Common.{Result, Ok, Err}
use Prim.Native.Nat.{ℕ, ◌+◌, ◌-◌, ◌*◌, ◌/◌, ◌%◌, ◌≤◌, ◌<◌, ◌^◌}
use mathlib.Core.Path.{◌≡◌, refl, sym, ap, ◌∙◌}
use mathlib.Core.Logic.{inl, inr}
use mathlib.Core.List.{List, [], ◌∷◌, ◌++◌, append_assoc, append-nil}
use native.Mathlib.Omega.{arith}
use lib.ListN.{length, take, drop, length-append, length-drop, drop_of_length-le}
use lib.Seq.{take_at, drop-drop, drop-append_seam}
use mir.Syntax.{w64}
use mir.Val.{Fits}
use Rattle.text.specs.Bytes.{part}
use Rattle.text.specs.Writing.{Wrote, Writes}
use Rattle.text.specs.declared.writing.Writer.{Writer}
use Rattle.text.proofs.Laws.Spans.{rest_part}
use Rattle.text.proofs.Laws.Writing.{wrote_none, wrote_then, wrote_front, wrote_length}
use Rattle.answer_table.specs.Layout.{Two, two, body}
use Rattle.answer_table.specs.Numbers.{nowhere, accepted, reported}
use Rattle.answer_table.specs.Answers.{most_bytes, TableAnswersIn}
use Rattle.answer_table.specs.Reader.{number}
use Rattle.answer_table.specs.declared.Layout.TheVariants.{Old}
use Rattle.answer_table.specs.declared.TableError.{TableError}
use Rattle.answer_table.specs.declared.TableError.TheVariants.{TooLong, Malformed, Repeated}
use Rattle.old_layout.specs.Numbers.{outcome_of}
use Rattle.answer_table.proofs.Laws.Items.{two_front}
use Rattle.answer_entry.specs.Encoding.{two_bytes, four_bytes, low_bytes}
use Rattle.answer_entry.proofs.Laws.Fitting.{accepted_encoded}
use Rattle.old_layout.specs.Rewriting.{zeros, new_entry, Rewritten, none, more, written, refused, Rewrites, no_table, no_room, fits}
use Rattle.old_layout.specs.Writing.{lengthened, PutsTable}
use Rattle.old_layout.proofs.Laws.Entries.{entry_longer, rewritten_one, rewritten_some}

-- `put_entry`
pub entry_put : (s : List ℕ) (n : ℕ) → n ≡ number s → (u v : List ℕ) → u ≡ part s 2 5 → v ≡ part s 5 (2 + n) → (a b c d e : Writer)
    → Writes (low_bytes (n + 4)) a b → Writes u b c → Writes (four_bytes 0) c d → Writes v d e → Writes (lengthened s) a e
unfolding lengthened
entry_put s n e u v p q a b c d f wa wb wc wd =
    let x = low_bytes (n + 4) in
    let y = four_bytes 0 in
    let out = a.out.now in
    record {
      wrote =
          rw (← e, ← p)
          (rw q at
          (wrote_then out a.at (x ++ u ++ y) v d.out.now f.out.now d.at f.at
          (wrote_then out a.at (x ++ u) y c.out.now d.out.now c.at d.at
          (wrote_then out a.at x u b.out.now c.out.now b.at c.at wa.wrote wb.wrote) wc.wrote) wd.wrote));
      same = wd.same ∙ wc.same ∙ wb.same ∙ wa.same;
    }

-- what is written of an entry that is laid out is the new one
laid_bytes : {l k : List ℕ} {m kind : ℕ} → Two l m → Two k kind → (status : ℕ) (b rest : List ℕ) → m ≡ 3 + length b
    → (part (l ++ (k ++ (status ∷ (b ++ rest)))) 2 5 ≡ k ++ (status ∷ [])) × (part (l ++ (k ++ (status ∷ (b ++ rest)))) 5 (2 + m) ≡ b)
laid_bytes {m = m} two two status b rest e = (refl, take_at b rest (2 + m - 5) (omega arith))

module _ {l k : List ℕ} {kind : ℕ} (status : ℕ) (name i : List ℕ) (tl : Two l (length (body k status [] name i))) (tk : Two k kind) (rest : List ℕ) where
  abbrev whole_list : List ℕ
  whole_list = l ++ body k status [] name i ++ rest

  number_is : number whole_list ≡ length (body k status [] name i)
  number_is = rw append_assoc (two_front tl (body k status [] name i ++ rest)).value

  size_is : 2 + number whole_list ≡ length (l ++ body k status [] name i)
  size_is = omega (arith, number_is, length-append l (body k status [] name i), (two_front tl []).size)

  after_it : drop (2 + number whole_list) whole_list ≡ rest
  after_it = rw size_is (drop-append_seam (l ++ body k status [] name i) rest)

  -- all that follows the status
  abbrev tail : List ℕ
  tail = length name ∷ (name ++ i)

  laid : whole_list ≡ l ++ (k ++ (status ∷ (tail ++ rest)))
  unfolding body
  laid = simp append_assoc

  tail_length : length (body k status [] name i) ≡ 3 + length tail
  unfolding body
  tail_length = simp length-append (omega (arith, (two_front tk []).size))

  size_bytes : length (new_entry k status name i) ≤ most_bytes → low_bytes (number whole_list + 4) ≡ two_bytes (length (body k status zeros name i))
  unfolding low_bytes two_bytes new_entry body
  size_bytes h =
      let n : length (body k status zeros name i) ≡ number whole_list + 4 =
      simp length-append (omega (arith, number_is, tail_length, (two_front tk []).size, length-append name i)) in
      let z : (number whole_list + 4) / 256 % 256 ≡ (number whole_list + 4) / 256 = omega (arith, entry_longer tl tk status name i, size_is) in
      rw (n, z)

  lengthened_is : length (new_entry k status name i) ≤ most_bytes → lengthened whole_list ≡ new_entry k status name i
  unfolding lengthened new_entry four_bytes body
  lengthened_is h =
      let y = laid_bytes tl tk status tail rest tail_length in
      let p : part whole_list 2 5 ≡ k ++ (status ∷ []) = rw laid y.0 in
      let q : part whole_list 5 (2 + number whole_list) ≡ tail = rw (number_is, laid) y.1 in
      rw (size_bytes h, p, q) (simp append_assoc)

-- the first entry of a table
pub first_entry : {s new : List ℕ} → Rewritten s new → 0 < length s → length new ≤ most_bytes
    → (rest : List ℕ) × (new ≡ lengthened s ++ rest) × Rewritten (drop (2 + number s) s) rest
first_entry none h k = absurd (omega arith)
first_entry (more {k = k} {rest = rest} {new = new} status name i tl tk r) h l =
    let e = lengthened_is status name i tl tk rest (omega (arith, length-append (new_entry k status name i) new)) in
    (new, ap (λ (x : List ℕ). x ++ new) (sym e), rw (after_it status name i tl tk rest) r)

-- `put_table`: what was written of a table, and what is left of it
pub record Passed (old : List ℕ) (i : ℕ) (before out : Writer) (new : List ℕ) : Type 0 where
  pub done : List ℕ
  pub left : List ℕ
  pub all : new ≡ done ++ left
  pub wrote : Wrote done before.out.now before.at out.out.now out.at
  pub rest : Rewritten (drop i old) left

pub record Passing (old : List ℕ) (before out : Writer) (i : ℕ) : Type 0 where
  pub same : out.out.ghost_name ≡ before.out.ghost_name
  pub by : before.at ≡ 0 → (new : List ℕ) → Rewritten old new → length new ≤ most_bytes → Passed old i before out new

module _ (old : List ℕ) (before : Writer) where
  pub passing_start : length before.out.now < 2 ^ 64 → Passing old before before 0
  passing_start h = record {
    same = refl;
    by = λ z new r l. record { done = []; left = new; all = refl; wrote = wrote_none before.out.now before.at (omega arith) (omega arith); rest = r };
  }

  module _ (out : Writer) (i : ℕ) (p : Passing old before out i) where
    pub passing_end : length old ≤ i → PutsTable old before out
    passing_end h = record {
      by = λ z new r l.
          let q = p.by z new r l in
          let e : q.left ≡ [] = rewritten_one (rw (drop_of_length-le old {i = i} h) at q.rest) none in
          record { wrote = rw (q.all, e, append-nil) q.wrote; same = p.same };
      same = p.same;
    }

    pub passing_on : i < length old → (o : Writer) → Writes (lengthened (take (length old - i) (drop i old))) out o
        → (m : ℕ) → m ≡ number (take (length old - i) (drop i old)) → Passing old before o (i + (2 + m))
    passing_on h o w m e = record {
      same = w.same ∙ p.same;
      by = λ z new r l.
          let q = p.by z new r l in
          let a = first_entry q.rest (omega (arith, length-drop i old)) (omega (arith, ap length q.all, length-append q.done q.left)) in
          let f : m ≡ number (drop i old) = rw rest_part at e in
          let v : Wrote (lengthened (drop i old)) out.out.now out.at o.out.now o.at = rw rest_part at w.wrote in
          record {
            done = q.done ++ lengthened (drop i old);
            left = a.0;
            all = q.all ∙ ap (λ (x : List ℕ). q.done ++ x) a.1 ∙ sym (append_assoc q.done (lengthened (drop i old)) a.0);
            wrote = wrote_then before.out.now before.at q.done (lengthened (drop i old)) out.out.now o.out.now out.at o.at q.wrote v;
            rest = rw (f, ← (drop-drop (2 + number (drop i old)) i old)) a.2;
          };
    }

-- `add_lifetimes`
module _ (old buffer : List ℕ) (x : Result ℕ TableError) (t : TableAnswersIn Old old (reported x)) where
  pub old_refused : (e : TableError) → x ≡ Err e → Rewrites old buffer (outcome_of (Err e)) buffer
  old_refused e q = by e (rw q at t)
    where
      by : (e : TableError) → TableAnswersIn Old old (reported (Err e)) → Rewrites old buffer (outcome_of (Err e)) buffer
      by TooLong t = no_table t
      by (Malformed p) t = no_table t
      by (Repeated p) t = no_table t

  module _ (count : ℕ) (e : x ≡ Ok count) where
    accepts : TableAnswersIn Old old (accepted count)
    accepts = rw e at t

    pub count_fits : Fits w64 (4 * count)
    count_fits = let a = accepted_encoded accepts in record { fits = omega (arith, a.1.few, a.2) }

    pub end_fits : Fits w64 (length old + 4 * count)
    end_fits = let a = accepted_encoded accepts in record { fits = omega (arith, a.1.few, a.2, a.3) }

    -- the new table and its length
    its_new : (new : List ℕ) × Rewritten old new × (length new ≡ length old + 4 * count)
    its_new = let a = accepted_encoded accepts in let s = rewritten_some a.1.entries in (s.0, s.1, omega (arith, s.2, a.2))

    pub new_too_long : most_bytes < length old + 4 * count → Rewrites old buffer (refused 24 nowhere) buffer
    new_too_long h = let s = its_new in no_room accepts s.1 (inl (omega (arith, s.2)))

    pub no_room_left : length buffer < length old + 4 * count → Rewrites old buffer (refused 24 nowhere) buffer
    no_room_left h = let s = its_new in no_room accepts s.1 (inr (omega (arith, s.2)))

    pub table_written : length old + 4 * count ≤ most_bytes → length old + 4 * count ≤ length buffer → (before after : Writer)
        → before.out.now ≡ buffer → before.at ≡ 0 → PutsTable old before after → (last : List ℕ) → last ≡ after.out.now
        → Rewrites old buffer (written after.at) last
    table_written h k before after b a p last q =
        let s = its_new in
        let l : length s.0 ≤ most_bytes = omega (arith, s.2) in
        let m : length s.0 ≤ length buffer = omega (arith, s.2) in
        let w : Wrote s.0 buffer 0 after.out.now after.at = rw (b, a) at (p.by a s.0 s.1 l).wrote in
        rw (q, wrote_length s.0 buffer after.out.now after.at w (omega arith), wrote_front s.0 buffer after.out.now after.at w m) (fits accepts s.1 l m)
