-- Both calls give together what one call gave, and the second never gives 28 for what the first handed out. From what the calls promise, the laws of the
-- exp argument, and that an explanation comes to the same from any counts (`recounts` of `rules`) and any lifetime (`run_any`).
use Rattle.std.proofs.Common.{None, Option, Ok, Err, Result as Either}
use Prim.Native.Nat.{ℕ, ◌≤◌}
use mathlib.Core.Path.{◌≡◌, refl, sym, ap, subst, ◌∙◌}
use mathlib.Core.List.{List}
use mathlib.Core.Bool.{true}
use native.Mathlib.Omega.{arith}
use lib.Dec.{leb}
use lib.ListN.{length, take}
use borrow.Author.Tests.{leb-true, le-leb, ne_eqb}
use Rattle.text.specs.Bytes.{is_not_upper}
use Rattle.text.specs.Lists.{all}
use Rattle.text.specs.Writing.{overwritten}
use Rattle.text.proofs.Laws.Tests.{and_left, and_right}
use Rattle.domain.specs.Names.{is_name, is_table_name}
use Rattle.domain.specs.Normal.{Naming, normal}
use Rattle.answer_table.specs.Layout.{Entry}
use Rattle.answer_table.specs.Answers.{TableAnswers, Encoded, most_bytes, whole}
use Rattle.answer_table.specs.Numbers.{accepted, reported as table-reported}
use Rattle.answer_table.specs.declared.TableError.{TableError}
use Rattle.answer_table.specs.declared.TableError.TheVariants.{TooLong, Malformed, Repeated}
use Rattle.answer_table.specs.Reader.{check_table}
use Rattle.answer_table.proofs.Laws.Checks.{table_answers_is}
use Rattle.answer_table.proofs.Laws.Entries.{entries_one}
use Rattle.macros.specs.Expansion.{is_short}
use Rattle.records.specs.Readings.{Optional, absent, present}
use Rattle.rules.specs.declared.Counts.{Counts}
use Rattle.rules.specs.Tree.{Table, give, Settled, settled, wanting, bind, then, run, run_bind}
use Rattle.rules.specs.Lifetimes.{life_of, seconds}
use Rattle.rules.specs.Tables.{table_of, table_in}
use Rattle.rules.specs.Mechanisms.{Mail}
use Rattle.rules.specs.Evaluation.{Failing, Result, no_counts, evaluation, explanation, explanation_of, Verdict, verdict}
use Rattle.rules.specs.Exp.{ExpAt, ExpOf, without, with_exp}
use Rattle.rules.proofs.Laws.Alike.{Holds}
use Rattle.rules.proofs.Laws.Askable.{Fitting, entries_fit}
use Rattle.rules.proofs.Laws.Runs.{bind_is, bind_wants, Same, decided, lacking, run_any}
use Rattle.rules.proofs.Laws.Recounting.{recounted, recounts}
use Rattle.rules.proofs.Laws.Verdicts.{AskedFacts, ResultFacts, evaluation_facts, explanation_facts}
use Rattle.rules.proofs.Laws.Exp.{exp_one, exp_beyond, table_normal}
use Rattle.target_name.proofs.Laws.Naming.{name_short}
use Rattle.evaluation.specs.declared.Answer.{Answer}
use Rattle.evaluation.specs.declared.Refusal.{Refusal}
use Rattle.evaluation.specs.Numbers.{Outcome, refused, refused_at, settles, report_of, bytes_of}
use Rattle.evaluation.specs.Evaluating.{number_of, place_of, has_name_room, has_room, Refuses, no_sender, no_host, long_domain, no_room, after_table, lifetime_of, evaluated}
use Rattle.evaluation.specs.First as first
use Rattle.evaluation.specs.Second as second
use Rattle.evaluation.specs.Together.{Given, one_gave, given, refused_by, following, after_fail, BothGive, Together, Made, Never28}
use Rattle.evaluation.proofs.Laws.Refusing.{refuses_fits, not_accepted, reported_one, table_accepted}
use Rattle.evaluation.proofs.Laws.Deciding.{over_front, table_is}

table_short : (n : List ℕ) → is_table_name n ≡ true → length n ≤ 253
unfolding is_table_name
table_short n h = name_short n (and_left (is_name n) (all is_not_upper n) h)

-- a buffer for names and one for texts
name_room : (name text : List ℕ) → has_room name text ≡ true → 253 ≤ length name
unfolding has_room
name_room name text h = leb-true 253 (length name) (and_left (leb 253 (length name)) (leb 500 (length text)) h)

text_room : (name text : List ℕ) → has_room name text ≡ true → leb 500 (length text) ≡ true
unfolding has_room
text_room name text h = and_right (leb 253 (length name)) (leb 500 (length text)) h

-- one call, with the first's arguments and a text buffer that has room
unfoldable refused_one : TableError → Outcome
refused_one TooLong = refused 24
refused_one (Malformed p) = refused_at 25 p
refused_one (Repeated p) = refused_at 26 p

by_refusal : (e : TableError) (x : Either ℕ TableError) (y : Settled Verdict) (life : ℕ) → table-reported (Err e) ≡ table-reported x
    → after_table x y life ≡ refused_one e
unfolding after_table refused_one
by_refusal e (Ok n) y life i = absurd (not_accepted e n i)
by_refusal e (Err x) y life i = rw (reported_one e x i) (by x)
  where
    by : (x : TableError) → after_table (Err x) y life ≡ refused_one x
    by TooLong = refl
    by (Malformed p) = refl
    by (Repeated p) = refl

by_acceptance : (n : ℕ) (x : Either ℕ TableError) (y : Settled Verdict) (life : ℕ) → accepted n ≡ table-reported x → after_table x y life ≡ settles y life
unfolding after_table
by_acceptance n (Ok m) y life e = refl
by_acceptance n (Err x) y life e = absurd (not_accepted x n (sym e))

module _ (a : first.Lent) (text : List ℕ) (room : leb 500 (length text) ≡ true) where
  abbrev one : Outcome
  one = evaluated a.client a.domain a.sender a.helo a.receiver a.seconds a.table a.name text

  one_refused : {e : Refusal} → Refuses a.domain a.sender a.helo a.receiver (has_name_room a.name) e → one ≡ refused (number_of e)
  unfolding evaluated has_room has_name_room number_of
  one_refused (no_sender s) = rw s
  one_refused (no_host s h) = rw (s, h)
  one_refused (long_domain s h d) = rw (s, h, d)
  one_refused (no_room s h d r) = rw (s, h, d, r)

  one_after : first.Fit a → one ≡ after_table (check_table a.table) (run (table_in a.table) None (verdict (first.mail_in a) a.domain))
      (lifetime_of (table_in a.table) (first.mail_in a) a.domain)
  unfolding evaluated has_room has_name_room
  one_after f = rw (f.sender_fits, f.hosts_fit, f.domain_fits, f.has_room_lem, room)

  one_bad : first.Fit a → (e : TableError) → TableAnswers a.table (table-reported (Err e)) → one ≡ refused_one e
  one_bad f e c = one_after f ∙ by_refusal e (check_table a.table) _ _ (table_answers_is c)

  one_settles : first.Fit a → {es : List Entry} → length a.table ≤ most_bytes → Encoded a.table es → one ≡ settles (run (table_of es) None (verdict (first.mail_in a) a.domain)) (lifetime_of (table_of es) (first.mail_in a) a.domain)
  one_settles f {es} h e =
      one_after f ∙ by_acceptance (length es) (check_table a.table) _ _ (table_answers_is (whole h e))
      ∙ ap (λ (t : Table). settles (run t None (verdict (first.mail_in a) a.domain)) (lifetime_of t (first.mail_in a) a.domain)) (table_is e.entries)

-- what both give, by the first's answer
module _ (a : first.Lent) (h : first.Handed) (name text : List ℕ) where
  abbrev Gives : Either Answer Refusal → Given → Type 0
  Gives (Ok (Answer.Decided value c life)) g = g ≡ given value absent c life absent
  Gives (Ok (Answer.Fail c life n place size)) g = (k : second.Handed) × second.Explains (following a h n place size name text) k × (g ≡ after_fail c life k k.answer)
  Gives (Ok (Answer.Wanting q c life)) g = g ≡ given 7 (present q.kind) c life (present (take q.length h.name))
  Gives (Err e) g = g ≡ refused_by e

  gives : {g : Given} → BothGive a h name text g → Gives h.answer g
  gives (BothGive.decided e) = rw e refl
  gives (BothGive.wanting e) = rw e refl
  gives (BothGive.refused e) = rw e refl
  gives (BothGive.failed {k = k} e x) = rw e (k, x, refl)

-- an explanation comes to the same from any lifetime
comes_same : {x y : Settled (List ℕ)} → Same x y → second.comes_to x ≡ second.comes_to y
unfolding second.comes_to
comes_same decided = refl
comes_same lacking = refl

-- what place and size come to for the domain d, if they are where its exp stands
judged : {t : List ℕ} {es : List Entry} {mail : Mail} {x : Naming} {place size : ℕ} {o : second.Outcome} (d : List ℕ) → x ≡ Naming.name d
    → second.Judges t es mail x place size o → {exp : Optional (List ℕ)} → ExpOf t d exp place size
    → o ≡ second.comes_to (run (table_of es) None (explanation mail d exp no_counts))
unfolding second.comes_to run explanation
judged d n (second.none p s) without = refl
judged d n (second.none p s) (with_exp x) = absurd (omega (arith, p, exp_beyond x))
judged d n (second.argument i x l) without = absurd (omega (arith, exp_beyond x))
judged {t} {place = place} d n (second.argument {d = c} {x = y} i x l) (with_exp {x = z} w) =
    let j : c ≡ d = cc in
    let k : y ≡ z = (exp_one (subst (λ (d : List ℕ). ExpAt t d place y) j x) w).1 in
    rw (j, k)
judged d n (second.no_argument s g) without = absurd (s refl refl)
judged d n (second.no_argument s g) (with_exp {x = z} w) = absurd (g d z n w refl)

-- a result over the entries of an accepted table
module _ (a : first.Lent) (es : List Entry) (fit : first.Fit a) (small : length a.table ≤ most_bytes) (enc : Encoded a.table es) where
  abbrev table : Table
  table = table_of es

  abbrev mail : Mail
  mail = first.mail_in a

  fitting : Fitting table
  fitting = subst Fitting (table_is enc.entries) (entries_fit enc.entries)

  facts : (x : Settled Result) → run table None (evaluation mail a.domain) ≡ x → Holds (AskedFacts table) (ResultFacts table) x
  facts x e = subst (Holds (AskedFacts table) (ResultFacts table)) e (evaluation_facts table mail a.domain None)

  -- a fail
  module _ (r : Result) (l : Option ℕ) (e : run table None (evaluation mail a.domain) ≡ settled r l) (f : Failing) (q : r.failing ≡ present f) where
    fails : ResultFacts table r
    unfolding Holds
    fails = facts (settled r l) e

    named : is_table_name f.domain ≡ true
    named = fails.whose f q fitting

    -- the second call's outcome
    module _ (place size : ℕ) (at : ExpOf a.table f.domain f.exp place size) (name text : List ℕ) (room : has_room name text ≡ true) where
      abbrev lent : second.Lent
      lent = second.lent a.client f.domain a.sender a.helo a.receiver a.seconds a.table place size name text

      second_fit : second.Fit lent
      unfolding is_short
      second_fit = record {
        sender_fits = fit.sender_fits;
        hosts_fit = fit.hosts_fit;
        domain_fits = le-leb (length f.domain) 255 (omega (arith, table_short f.domain named));
        has_room_lem = room;
      }

      second_is : {o : second.Outcome} → second.Answers lent o → o ≡ second.comes_to (run table l (explanation mail f.domain f.exp no_counts))
      second_is (second.refuses r) = absurd (refuses_fits r second_fit)
      second_is (second.bad_table {e = x} g c) = absurd (table_accepted x small enc c)
      second_is (second.explains {es = ds} {o = o} g n d j) =
          judged f.domain (table_normal f.domain named)
          (subst (λ (x : List Entry). second.Judges a.table x mail (normal f.domain) place size o) (entries_one d.entries enc.entries) j) at
          ∙ comes_same (run_any table None l (explanation mail f.domain f.exp no_counts))

    -- one call's answer, by what the explanation comes to
    one_text : (y : Settled (List ℕ)) → run table l (explanation mail f.domain f.exp no_counts) ≡ y
        → run table None (verdict mail a.domain) ≡ then (recounted r.counts y) (λ x j. settled (record { value = r.value; counts = r.counts; text = x }) j)
    unfolding verdict explanation_of run
    one_text y i =
        bind_is table None (evaluation mail a.domain) _ r l e
        ∙ ap (λ (o : Optional Failing). run table l (bind (explanation_of mail o r.counts) (λ x. give (record { value = r.value; counts = r.counts; text = x })))) q
        ∙ run_bind table l (explanation mail f.domain f.exp r.counts) (λ x. give (record { value = r.value; counts = r.counts; text = x }))
        ∙ ap (λ (s : Settled (List ℕ)). then s (λ x j. settled (record { value = r.value; counts = r.counts; text = x }) j))
        (recounts table l mail f.domain f.exp r.counts no_counts ∙ ap (recounted r.counts) i)

    -- both give the same
    module _ (place size : ℕ) (at : ExpOf a.table f.domain f.exp place size) (name text : List ℕ) (room : has_room name text ≡ true) (k : second.Handed)
        (x : second.Explains (lent place size at name text room) k) where
      same_text : (y : Settled (List ℕ)) → run table l (explanation mail f.domain f.exp no_counts) ≡ y
          → after_fail r.counts (seconds l) k (second.answer_of (second.comes_to y))
          ≡ one_gave (settles (then (recounted r.counts y) (λ x j. settled (record { value = r.value; counts = r.counts; text = x }) j)) (seconds l))
      unfolding second.comes_to second.answer_of recounted then report_of bytes_of second.name_after second.text_after Holds
      same_text (settled s j) i =
          let m : length s ≤ 500 = subst (Holds (AskedFacts table) (λ x. length x ≤ 500)) i (explanation_facts table mail f.domain f.exp l) in
          let t : k.text ≡ overwritten s text = x.says.text_buffer_lem ∙ ap (λ (o : second.Outcome). second.text_after o text) (second_is place size at name text room x.answers ∙ ap second.comes_to i) in
          rw (t, over_front s text (omega (arith, m, leb-true 500 (length text) (text_room name text room))), fails.fails f q)
      same_text (wanting kind n c j) i =
          let w : AskedFacts table kind n c = subst (Holds (AskedFacts table) (λ x. length x ≤ 500)) i (explanation_facts table mail f.domain f.exp l) in
          let t : k.name ≡ overwritten n name = x.says.name_buffer_lem ∙ ap (λ (o : second.Outcome). second.name_after o name) (second_is place size at name text room x.answers ∙ ap second.comes_to i) in
          rw (t, over_front n name (omega (arith, table_short n (w.table_name fitting), name_room name text room)))

      failed_same : after_fail r.counts (seconds l) k k.answer ≡ one_gave (settles (run table None (verdict mail a.domain)) (seconds l))
      failed_same =
          let y = run table l (explanation mail f.domain f.exp no_counts) in
          ap (after_fail r.counts (seconds l) k) (x.says.answer ∙ ap second.answer_of (second_is place size at name text room x.answers))
          ∙ same_text y refl ∙ ap (λ (z : Settled Verdict). one_gave (settles z (seconds l))) (sym (one_text y refl))

      made : Made k.answer
      unfolding second.answer_of second.comes_to
      made = subst Made (sym (x.says.answer ∙ ap second.answer_of (second_is place size at name text room x.answers))) (by (run table l (explanation mail f.domain f.exp no_counts)))
        where
          by : (y : Settled (List ℕ)) → Made (second.answer_of (second.comes_to y))
          by (settled s j) = Made.text
          by (wanting kind n c j) = Made.question

-- the first's outcome over the entries, and then both
module _ (a : first.Lent) (h : first.Handed) (name text : List ℕ) (room : has_room name text ≡ true) where
  -- the second call, lent the domain itself
  lent_domain : (d : List ℕ) → length d ≤ length a.name → h.name ≡ overwritten d a.name → (place size : ℕ) (k : second.Handed)
      → second.Explains (following a h (length d) place size name text) k
      → second.Explains (second.lent a.client d a.sender a.helo a.receiver a.seconds a.table place size name text) k
  lent_domain d l e place size k x =
      let i : take (length d) h.name ≡ d = ap (take (length d)) e ∙ over_front d a.name l in
      subst (λ (y : List ℕ). second.Explains (second.lent a.client y a.sender a.helo a.receiver a.seconds a.table place size name text) k) i x

  module _ (es : List Entry) (fit : first.Fit a) (small : length a.table ≤ most_bytes) (enc : Encoded a.table es) where
    roomy : 253 ≤ length a.name
    unfolding has_name_room
    roomy = leb-true 253 (length a.name) fit.has_room_lem

    -- the lifetime of what is settled
    life_is : (x : Settled Result) → run (table_of es) None (evaluation (first.mail_in a) a.domain) ≡ x → lifetime_of (table_of es) (first.mail_in a) a.domain ≡ seconds (life_of x)
    unfolding lifetime_of
    life_is x e = ap (λ (y : Settled Result). seconds (life_of y)) e

    came : (x : Settled Result) → run (table_of es) None (evaluation (first.mail_in a) a.domain) ≡ x → {o : first.Outcome} → first.Comes a.table x o
        → first.Says o h.answer a.name h.name → (g : Given) → Gives a h name text (first.answer_of o) g
        → g ≡ one_gave (settles (run (table_of es) None (verdict (first.mail_in a) a.domain)) (seconds (life_of x)))
    unfolding first.answer_of first.name_after verdict explanation_of run report_of bytes_of Holds bind life_of
    came x e (first.decides {r = r} {l = l} q) says g w =
        let f : ResultFacts (table_of es) r = facts a es fit small enc (settled r l) e in
        w ∙ sym (rw (bind_is (table_of es) None (evaluation (first.mail_in a) a.domain) _ r l e, q, ne_eqb r.value 3 (f.named q)))
    came x e (first.lacks {kind = kind} {n = n} {c = c} {l = l}) says g w =
        let f : AskedFacts (table_of es) kind n c = facts a es fit small enc (wanting kind n c l) e in
        let i : take (length n) h.name ≡ n = ap (take (length n)) says.name_buffer_lem
        ∙ over_front n a.name (omega (arith, roomy, table_short n (f.table_name (fitting a es fit small enc)))) in
        w ∙ ap (λ (y : List ℕ). given 7 (present kind) c (seconds l) (present y)) i
        ∙ ap (λ (z : Settled Verdict). one_gave (settles z (seconds l))) (sym (bind_wants (table_of es) None (evaluation (first.mail_in a) a.domain) _ kind n c l e))
    came x e (first.fails {r = r} {f = f} {l = l} {place = place} {size = size} q at) says g (k, y, w) =
        let n = table_short f.domain (named a es fit small enc r l e f q) in
        w ∙ failed_same a es fit small enc r l e f q place size at name text room k
        (lent_domain f.domain (omega (arith, roomy, n)) says.name_buffer_lem place size k y)

  -- a refusal
  gave_first : {e : Refusal} → Refuses a.domain a.sender a.helo a.receiver (has_name_room a.name) e → refused_by e ≡ one_gave (refused (number_of e))
  unfolding number_of place_of report_of bytes_of
  gave_first (no_sender s) = refl
  gave_first (no_host s h) = refl
  gave_first (long_domain s h d) = refl
  gave_first (no_room s h d r) = refl

  gave_table : (e : TableError) → refused_by (Refusal.Table e) ≡ one_gave (refused_one e)
  unfolding number_of place_of report_of bytes_of refused_one
  gave_table TooLong = refl
  gave_table (Malformed p) = refl
  gave_table (Repeated p) = refl

  gave : {o : first.Outcome} → first.Answers a o → first.Says o h.answer a.name h.name → (g : Given) → Gives a h name text (first.answer_of o) g
      → g ≡ one_gave (one a text (text_room name text room))
  unfolding first.answer_of
  gave (first.refuses r) says g w = w ∙ gave_first r ∙ ap one_gave (sym (one_refused a text (text_room name text room) r))
  gave (first.bad_table {e = e} f c) says g w = w ∙ gave_table e ∙ ap one_gave (sym (one_bad a text (text_room name text room) f e c))
  gave (first.evaluates {es = es} f l e c) says g w =
      came es f l e _ refl c says g w
      ∙ ap (λ (n : ℕ). one_gave (settles (run (table_of es) None (verdict (first.mail_in a) a.domain)) n)) (sym (life_is es f l e _ refl))
      ∙ ap one_gave (sym (one_settles a text (text_room name text room) f l e))

-- "Together they give what one gave"
pub together : Together
together a h e name text room g b =
    gave a h name text room e.answers e.says g (subst (λ (r : Either Answer Refusal). Gives a h name text r g) e.says.answer (gives a h name text b))

-- after the first, the second gives no 28
module _ (a : first.Lent) (h : first.Handed) (c : Counts) (life n place size : ℕ) (q : h.answer ≡ Ok (Answer.Fail c life n place size)) (name text : List ℕ) (room : has_room name text ≡ true)
    (k : second.Handed) (x : second.Explains (following a h n place size name text) k) where
  made_by : (es : List Entry) → first.Fit a → length a.table ≤ most_bytes → Encoded a.table es → (y : Settled Result)
      → run (table_of es) None (evaluation (first.mail_in a) a.domain) ≡ y → {o : first.Outcome} → first.Comes a.table y o → first.Says o h.answer a.name h.name → Made k.answer
  unfolding first.answer_of first.name_after
  made_by es f l e y i (first.decides p) says = let j = sym q ∙ says.answer in let z : ◌≡◌ {A = ℕ} 0 1 = cc in absurd (omega arith)
  made_by es f l e y i first.lacks says = let j = sym q ∙ says.answer in let z : ◌≡◌ {A = ℕ} 0 1 = cc in absurd (omega arith)
  made_by es f l e y i (first.fails {r = r} {f = w} {l = v} {place = p} {size = s} p' at) says =
      let j : ◌≡◌ {A = Either Answer Refusal} (Ok (Answer.Fail c life n place size)) (Ok (Answer.Fail r.counts (seconds v) (length w.domain) p s)) = sym q ∙ says.answer in
      let jn : n ≡ length w.domain = cc in let jp : place ≡ p = cc in let js : size ≡ s = cc in
      let d = table_short w.domain (named a es f l e r v i w p') in
      made a es f l e r v i w p' p s at name text room k
      (lent_domain a h name text room w.domain (omega (arith, roomy a h name text room es f l e, d)) says.name_buffer_lem p s k (rw (jn, jp, js) at x))

  made_after : {o : first.Outcome} → first.Answers a o → first.Says o h.answer a.name h.name → Made k.answer
  unfolding first.answer_of
  made_after (first.refuses r) says = let j = sym q ∙ says.answer in let z : ◌≡◌ {A = ℕ} 0 1 = cc in absurd (omega arith)
  made_after (first.bad_table f t) says = let j = sym q ∙ says.answer in let z : ◌≡◌ {A = ℕ} 0 1 = cc in absurd (omega arith)
  made_after (first.evaluates {es = es} f l e y) says = made_by es f l e _ refl y says

pub never_28 : Never28
never_28 a h e c life n place size q name text room k x = made_after a h c life n place size q name text room k x e.answers e.says

-- over two accepted tables that settle the same, one call gives the same
pub evaluated_same : (a : first.Lent) (text : List ℕ) {t u : List ℕ} {es fs : List Entry} → length t ≤ most_bytes → Encoded t es → length u ≤ most_bytes → Encoded u fs
    → run (table_of es) None (verdict (first.mail_in a) a.domain) ≡ run (table_of fs) None (verdict (first.mail_in a) a.domain)
    → run (table_of es) None (evaluation (first.mail_in a) a.domain) ≡ run (table_of fs) None (evaluation (first.mail_in a) a.domain)
    → evaluated a.client a.domain a.sender a.helo a.receiver a.seconds t a.name text
    ≡ evaluated a.client a.domain a.sender a.helo a.receiver a.seconds u a.name text
unfolding evaluated lifetime_of
evaluated_same a text {t} {u} {es} {fs} l p m q e f =
    let i = by_acceptance (length es) (check_table t) (run (table_in t) None (verdict (first.mail_in a) a.domain)) (lifetime_of (table_in t) (first.mail_in a) a.domain) (table_answers_is (whole l p)) in
    let j = by_acceptance (length fs) (check_table u) (run (table_in u) None (verdict (first.mail_in a) a.domain)) (lifetime_of (table_in u) (first.mail_in a) a.domain) (table_answers_is (whole m q)) in
    rw (i, j, table_is p.entries, table_is q.entries, e, f)
