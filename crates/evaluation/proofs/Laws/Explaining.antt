-- The second call: one rule for each way out of its functions, and that what is lent determines what is handed back. From the definitions of Second, the
-- laws of the exp argument, and what an explanation comes to.
use Rattle.std.proofs.Common.{None, Option, Some, Ok, Err, Result as Either}
use Prim.Native.Nat.{ℕ, ◌+◌, ◌-◌, ◌≤◌, ◌<◌}
use mathlib.Core.Path.{◌≡◌, refl, sym, ap, subst, ◌∙◌}
use mathlib.Core.List.{List, []}
use mathlib.Core.Bool.{Bool, true, false, ◌&&◌}
use native.Mathlib.Omega.{arith}
use lib.Dec.{leb}
use lib.ListN.{length, take}
use borrow.Author.Tests.{lt-leb, le-leb}
use Rattle.text.specs.Bytes.{part}
use Rattle.text.specs.declared.spans.Span.{Span}
use Rattle.text.proofs.Laws.Spans.{front_part}
use Rattle.text.proofs.Laws.Writing.{over_fits}
use Rattle.address.specs.declared.Address.{Address}
use Rattle.address.specs.Octets.{as_client}
use Rattle.domain.specs.Normal.{Naming, malformed, normal, name_answer, name_buffer}
use Rattle.answer_table.specs.Layout.{Entry}
use Rattle.answer_table.specs.declared.TableError.{TableError}
use Rattle.answer_table.specs.Numbers.{accepted}
use Rattle.answer_table.specs.Answers.{TableAnswers, Encoded, whole as whole-table}
use Rattle.answer_table.specs.Reader.{check_table}
use Rattle.answer_table.proofs.Laws.Entries.{entries_one}
use Rattle.records.specs.Readings.{present}
use Rattle.rules.specs.Tree.{Settled, settled, wanting, run}
use Rattle.rules.specs.Tables.{table_in, table_of}
use Rattle.rules.specs.Mechanisms.{Mail}
use Rattle.rules.specs.Evaluation.{no_counts, explanation}
use Rattle.rules.specs.Exp.{ExpAt}
use Rattle.rules.specs.Outcomes.{mail_of, wanted_buffer, ExpStands, Explained, ExplainedIs, text_buffer, SaysText}
use Rattle.rules.proofs.Laws.Exp.{exp_one, exp_beyond}
use Rattle.evaluation.specs.declared.explaining.Explanation.{Explanation}
use Rattle.evaluation.specs.declared.Refusal.{Refusal}
use Rattle.evaluation.specs.Checks.{FindsExp}
use Rattle.evaluation.specs.Evaluating.{has_room, no_room, refusal_of}
use Rattle.evaluation.specs.Second.{Lent, lent, Handed, handed, Fit, Outcome, refused, shows, answer_of, name_after, text_after, Says, comes_to, Judges, none, argument, no_argument, Answers, refuses, bad_table, explains, Explains, Makes, answer_for}
use Rattle.evaluation.proofs.Laws.Refusing.{refused_by_lem, fits_by, refuses_fits, refuses_one, table_accepted, table_refused_one, table_said}
use Rattle.evaluation.proofs.Laws.Deciding.{table_is, malformed_is, written}

-- an outcome has one answer, and leaves both buffers in one way
pub said_one : {o : Outcome} {b u : List ℕ} (h g : Handed) → Says o h.answer b h.name u h.text → Says o g.answer b g.name u g.text → h ≡ g
said_one h g s r =
    ap (λ (x : Either Explanation Refusal). handed x h.name h.text) (s.answer ∙ sym r.answer)
    ∙ ap (λ (x : List ℕ). handed g.answer x h.text) (s.name_buffer_lem ∙ sym r.name_buffer_lem)
    ∙ ap (λ (x : List ℕ). handed g.answer g.name x) (s.text_buffer_lem ∙ sym r.text_buffer_lem)

refused_says : (e : Refusal) (b u : List ℕ) → Says (refused e) (Err e) b b u u
unfolding answer_of name_after text_after
refused_says e b u = record { answer = refl; name_buffer_lem = refl; text_buffer_lem = refl }

-- what an explanation comes to
comes_says : (x : Settled (List ℕ)) (r : Explained) (u u' b b' : List ℕ) → SaysText no_counts x r u u' b b' → (q : Explanation) → q ≡ answer_for r
    → Says (comes_to x) (Ok q) b b' u u'
unfolding comes_to answer_for ExplainedIs text_buffer wanted_buffer answer_of name_after text_after
comes_says (settled s l) r u u' b b' w q e = record { answer = ap Ok (e ∙ rw w.explained); name_buffer_lem = w.buffer; text_buffer_lem = w.text_buffer_lem }
comes_says (wanting kind n c l) r u u' b b' w q e = record { answer = ap Ok (e ∙ rw w.explained.0); name_buffer_lem = w.buffer; text_buffer_lem = w.text_buffer_lem }

-- `explain_name`
pub part_order : (t d : List ℕ) (m : Option Span) → FindsExp t d m → (x : Span) → m ≡ Some x → x.from ≤ x.to
unfolding FindsExp ExpStands
part_order t d m f x e = let p = subst (FindsExp t d) e f in omega (arith, p.1)

module _ (t : List ℕ) (mail : Mail) (d : List ℕ) (place size : ℕ) (some : place ≡ 0 → size ≡ 0 → ⊥) (m : Option Span) (f : FindsExp t d m) (b u : List ℕ) where
  -- 28
  other : ((es : List Entry) → Encoded t es → (x : List ℕ) → ExpAt t d place x → length x ≡ size → ⊥)
      → Makes t mail (Naming.name d) place size (Err Refusal.Exp) b b u u
  other h = record {
    outcome = refused Refusal.Exp;
    judges = λ es c. no_argument some (λ d' x e a l. h es c x (subst (λ (y : List ℕ). ExpAt t y place x) (sym (name_is d d' e)) a) l);
    says = refused_says Refusal.Exp b u;
  }
    where
      name_is : (a z : List ℕ) → Naming.name a ≡ Naming.name z → a ≡ z
      name_is a z e = cc

  pub name_none : m ≡ None → Makes t mail (Naming.name d) place size (Err Refusal.Exp) b b u u
  unfolding FindsExp
  name_none e = other (λ es c x a l. subst (FindsExp t d) e f place x a)

  module _ (x : Span) (e : m ≡ Some x) where
    stands : ExpStands t d (Some x)
    unfolding FindsExp
    stands = subst (FindsExp t d) e f

    at_part : (x.to ≤ length t) × (x.from + length (part t x.from x.to) ≡ x.to) × ((es : List Entry) → Encoded t es → ExpAt t d x.from (part t x.from x.to))
    unfolding ExpStands
    at_part = stands

    pub name_elsewhere : (x.from ≡ place → ⊥) → Makes t mail (Naming.name d) place size (Err Refusal.Exp) b b u u
    name_elsewhere h = other (λ es c y a l. h (exp_one (at_part.2 es c) a).0)

    pub name_longer : (x.to - x.from ≡ size → ⊥) → Makes t mail (Naming.name d) place size (Err Refusal.Exp) b b u u
    name_longer h = other (λ es c y a l. h (omega (arith, at_part.1, ap length (exp_one (at_part.2 es c) a).1, (exp_one (at_part.2 es c) a).0, l)))

    pub name_made : x.from ≡ place → x.to - x.from ≡ size → (spec : List ℕ) → spec ≡ part t x.from x.to → (r : Explained) (u' b' : List ℕ)
        → SaysText no_counts (run (table_in t) None (explanation mail d (present spec) no_counts)) r u u' b b' → (q : Explanation) → q ≡ answer_for r
        → Makes t mail (Naming.name d) place size (Ok q) b b' u u'
    name_made i j spec k r u' b' w q e' = record {
      outcome = comes_to (run (table_in t) None (explanation mail d (present spec) no_counts));
      judges = λ es c. rw (table_is c.entries) (argument {x = spec} refl (rw (← i, k) (at_part.2 es c)) (omega (arith, at_part.1, ap length k, j)));
      says = comes_says (run (table_in t) None (explanation mail d (present spec) no_counts)) r u u' b b' w q e';
    }

-- `explain_given`
module _ (domain : List ℕ) (r : Option ℕ) (p : r ≡ name_answer (normal domain)) (t : List ℕ) (mail : Mail) (place size : ℕ) (some : place ≡ 0 → size ≡ 0 → ⊥) where
  pub given_nothing : r ≡ None → (b u : List ℕ) → Makes t mail (normal domain) place size (Err Refusal.Exp) b b u u
  given_nothing e b u =
      let i : normal domain ≡ malformed = malformed_is domain r p (normal domain) p e in
      record {
        outcome = refused Refusal.Exp;
        judges = λ es c. no_argument some (λ d x q a l. let g : malformed ≡ Naming.name d = sym i ∙ q in let z : ◌≡◌ {A = ℕ} 0 1 = cc in omega arith);
        says = refused_says Refusal.Exp b u;
      }

  pub given_made : (n : ℕ) → r ≡ Some n → (z to : List ℕ) → to ≡ name_buffer (normal domain) z → 253 ≤ length z → (d : List ℕ) → d ≡ part to 0 n
      → (q : Either Explanation Refusal) (b b' u u' : List ℕ) → Makes t mail (Naming.name d) place size q b b' u u' → Makes t mail (normal domain) place size q b b' u u'
  given_made n e z to w room d i q b b' u u' m =
      let j : d ≡ take n to = i ∙ front_part to n in
      rw ((written domain r p n e z to w room).0, ← j) m

-- `explain_accepted`
pub zero_none : (place size : ℕ) → place ≡ 0 → size ≡ 0 → (t : List ℕ) (mail : Mail) (x : Naming) (b u : List ℕ) → Makes t mail x place size (Ok (Explanation.Text 0)) b b u u
unfolding answer_of name_after text_after
zero_none place size h k t mail x b u = record {
  outcome = shows [];
  judges = λ es c. none h k;
  says = record { answer = refl; name_buffer_lem = refl; text_buffer_lem = sym (over_fits [] u (omega arith)) };
}

-- `explain`
module _ (client : Address) (domain sender helo receiver : List ℕ) (seconds : ℕ) (table : List ℕ) (place size : ℕ) (name text : List ℕ) (r : Either Unit Refusal)
    (e : r ≡ refusal_of domain sender helo receiver (length name)) where
  pub explained_refused : (x : Refusal) → r ≡ Err x → Explains (lent client domain sender helo receiver seconds table place size name text) (handed (Err x) name text)
  unfolding has_room
  explained_refused x h = record {
    outcome = refused x;
    answers = refuses (refused_by_lem domain sender helo receiver (length name) r e (has_room name text) x h (λ q. rw q));
    says = refused_says x name text;
  }

  module _ (z : Unit {0}) (h : r ≡ Ok z) where
    room_without : length text < 500 → has_room name text ≡ false
    unfolding has_room
    room_without l = by (leb 253 (length name)) (lt-leb 500 (length text) l)
      where
        by : (x : Bool) → leb 500 (length text) ≡ false → (x && leb 500 (length text)) ≡ false
        by true g = g
        by false g = refl

    pub explained_short : length text < 500 → Explains (lent client domain sender helo receiver seconds table place size name text) (handed (Err Refusal.Room) name text)
    explained_short l =
        let f = fits_by domain sender helo receiver (length name) r e true z h (λ q. refl) in
        record {
          outcome = refused Refusal.Room;
          answers = refuses (no_room f.sender_fits f.hosts_fit f.domain_fits (room_without l));
          says = refused_says Refusal.Room name text;
        }

    module _ (l : 500 ≤ length text) where
      fit : Fit (lent client domain sender helo receiver seconds table place size name text)
      unfolding has_room
      fit = fits_by domain sender helo receiver (length name) r e (has_room name text) z h (λ q. rw (q, le-leb 500 (length text) l))

      module _ (a : Either ℕ TableError) (q : a ≡ check_table table) where
        pub explained_bad : (x : TableError) → a ≡ Err x → Explains (lent client domain sender helo receiver seconds table place size name text) (handed (Err (Refusal.Table x)) name text)
        explained_bad x k = record { outcome = refused (Refusal.Table x); answers = bad_table fit (table_said q (Err x) k); says = refused_says (Refusal.Table x) name text }

        pub explained_made : (m : ℕ) → a ≡ Ok m → (c : Address) → c ≡ as_client client → (x : Either Explanation Refusal) (name' text' : List ℕ)
            → Makes table (mail_of c sender helo receiver seconds) (normal domain) place size x name name' text text'
            → Explains (lent client domain sender helo receiver seconds table place size name text) (handed x name' text')
        explained_made m k c i x name' text' s = by (table_said q (Ok m) k)
          where
            by : {j : ℕ} → TableAnswers table (accepted j) → Explains (lent client domain sender helo receiver seconds table place size name text) (handed x name' text')
            by (whole-table {es = es} v w) = record { outcome = s.outcome; answers = explains fit v w (rw i at (s.judges es w)); says = s.says }

-- what is lent determines the outcome
judges_one : {t : List ℕ} {es : List Entry} {mail : Mail} {domain : Naming} {place size : ℕ} {o u : Outcome}
    → Judges t es mail domain place size o → Judges t es mail domain place size u → o ≡ u
judges_one (none p s) (none p' s') = refl
judges_one (none p s) (argument e a l) = absurd (omega (arith, p, exp_beyond a))
judges_one (none p s) (no_argument h g) = absurd (h p s)
judges_one (argument e a l) (none p s) = absurd (omega (arith, p, exp_beyond a))
judges_one {t} {es} {mail} {domain} {place} (argument {d = d} {x = x} e a l) (argument {d = c} {x = y} i b k) =
    let j : d ≡ c = name_is d c (sym e ∙ i) in
    let m : x ≡ y = (exp_one (subst (λ (z : List ℕ). ExpAt t z place x) j a) b).1 in
    ap (λ (z : List ℕ). comes_to (run (table_of es) None (explanation mail z (present x) no_counts))) j
    ∙ ap (λ (z : List ℕ). comes_to (run (table_of es) None (explanation mail c (present z) no_counts))) m
  where
    name_is : (a z : List ℕ) → Naming.name a ≡ Naming.name z → a ≡ z
    name_is a z e = cc
judges_one (argument {d = d} {x = x} e a l) (no_argument h g) = absurd (g d x e a l)
judges_one (no_argument h g) (none p s) = absurd (h p s)
judges_one (no_argument h g) (argument {d = d} {x = x} e a l) = absurd (g d x e a l)
judges_one (no_argument h g) (no_argument k i) = refl

pub answers_one : (a : Lent) {o u : Outcome} → Answers a o → Answers a u → o ≡ u
answers_one a (refuses r) (refuses s) = ap refused (refuses_one r s)
answers_one a (refuses r) (bad_table f c) = absurd (refuses_fits r f)
answers_one a (refuses r) (explains f h e c) = absurd (refuses_fits r f)
answers_one a (bad_table f c) (refuses r) = absurd (refuses_fits r f)
answers_one a (bad_table {e = x} f c) (bad_table {e = y} g d) = ap (λ (x : TableError). refused (Refusal.Table x)) (table_refused_one x y c d)
answers_one a (bad_table {e = x} f c) (explains g h e d) = absurd (table_accepted x h e c)
answers_one a (explains f h e c) (refuses r) = absurd (refuses_fits r f)
answers_one a (explains f h e c) (bad_table {e = x} g d) = absurd (table_accepted x h e d)
answers_one a (explains f h e c) (explains g k d b) = judges_one c (rw (entries_one d.entries e.entries) at b)

pub second_one : (a : Lent) (h g : Handed) → Explains a h → Explains a g → h ≡ g
second_one a h g e d =
    said_one h g e.says (subst (λ (o : Outcome). Says o g.answer a.name g.name a.text g.text) (answers_one a d.answers e.answers) d.says)
