-- The ways out of the calls, each with a rule whose premises are what the code knows there. From what the called functions promise.
use Rattle.std.proofs.Common.{None, Option, Some, Result, Ok, Err}
use Prim.Native.Nat.{ℕ, ◌-◌, ◌≤◌}
use mathlib.Core.Path.{◌≡◌, refl, sym, ap, ◌∙◌}
use mathlib.Core.Logic.{◌↔◌}
use mathlib.Core.List.{List, [], ◌∷◌}
use mathlib.Core.Bool.{Bool, true, false, cond}
use native.Mathlib.Omega.{arith}
use lib.ListN.{length}
use Rattle.text.specs.Writing.{overwritten}
use Rattle.text.proofs.Laws.Tests.{true_false}
use Rattle.address.specs.declared.Address.{Address}
use Rattle.address.specs.Octets.{octets}
use Rattle.address.specs.Matching.{matches_at, Matches}
use Rattle.networks.specs.Reader6.{read_address}
use Rattle.networks.specs.Answers.{NetworkAnswer, AddressText}
use Rattle.answer_table.specs.declared.TableError.{TableError}
use Rattle.answer_table.specs.Numbers.{reported as table-reported}
use Rattle.answer_table.specs.Reader.{check_table}
use Rattle.answer_table.specs.Answers.{TableAnswers}
use Rattle.macros.specs.declared.Form.{Form}
use Rattle.macros.specs.declared.ExpandError.{ExpandError}
use Rattle.macros.specs.Expansion.{Given}
use Rattle.macros.specs.Numbers.{Outcome as Expansion, outcome, Says as Expanding}
use Rattle.macros.specs.Answers.{Answered as Expansion-answered}
use Rattle.records.specs.Numbers.{RecordAnswer, TermAnswer, number_of, term_at, record_report, term_report}
use Rattle.records.specs.Answers.{RecordAnswers, TermAnswers}
use Rattle.records.specs.Reader.{read_term}
use Rattle.records.specs.Beginnings.{pointed_term, pointed_record}
use Rattle.records.specs.declared.Term.{Term}
use Rattle.records.specs.declared.Refusal.{Refusal as RecordRefusal}
use Rattle.records.specs.declared.ReadTerm.{ReadTerm}
use Rattle.records.proofs.Laws.Terms.{term_unpointed}
use Rattle.received.specs.Answers.{Given as LineGiven, WritesLine, UnquotesPart}
use Rattle.received.specs.declared.Identity.{Identity}
use Rattle.received.specs.declared.LineError.{LineError}
use Rattle.old_layout.specs.Numbers.{outcome_of as addedOutcome}
use Rattle.old_layout.specs.Rewriting.{Rewrites}
use Rattle.evaluation.specs.declared.Answer.{Answer}
use Rattle.evaluation.specs.declared.Refusal.{Refusal}
use Rattle.evaluation.specs.declared.explaining.Explanation.{Explanation}
use Rattle.evaluation.specs.First as first
use Rattle.evaluation.specs.Second as second
use Rattle.talavorn.specs.Numbers.{encoded, encoded_explanation, record_numbers, table_numbers, expanded_numbers, written_numbers, match_number, address_octets, shape_of, Inside, network_of, term_row, term_numbers, term_octets}
use Rattle.talavorn.specs.Calls.{EvaluateAnswers, ExplainAnswers, RecordSays, ArgumentStands, TermSays, ExpandSays, ExpandAnswers, WriteAnswers, UnquoteAnswers, MatchSays, TableSays, AddSays, AddressSays}
use Rattle.talavorn.proofs.Laws.Rows.{nothing_written, added_row}
use Rattle.talavorn.proofs.Laws.Inside.{term_inside, argument_stands}

-- `talavorn_evaluate`
module _ (client x : Option Address) (p : x ≡ client) (domain sender helo receiver : List ℕ) (seconds : ℕ) (table name : List ℕ) where
  pub evaluate_no_client : x ≡ None
      → EvaluateAnswers client domain sender helo receiver seconds table (90 ∷ 0 ∷ 0 ∷ 0 ∷ 0 ∷ 0 ∷ 0 ∷ 0 ∷ []) name name
  evaluate_no_client e = EvaluateAnswers.no_client (sym p ∙ e) refl refl

  pub evaluate_for_client : (a : Address) → x ≡ Some a → (r : Result Answer Refusal) (name' : List ℕ)
      → first.Evaluates (first.lent a domain sender helo receiver seconds table name) (first.handed r name')
      → (numbers : List ℕ) → numbers ≡ encoded r → EvaluateAnswers client domain sender helo receiver seconds table numbers name name'
  evaluate_for_client a e r name' h numbers n = EvaluateAnswers.for_client (sym p ∙ e) h.answers
      (record { answer = n ∙ ap encoded h.says.answer; name_buffer_lem = h.says.name_buffer_lem })

-- `talavorn_explain`
module _ (client x : Option Address) (p : x ≡ client) (domain sender helo receiver : List ℕ) (seconds : ℕ) (table : List ℕ) (place size : ℕ)
    (name text : List ℕ) where
  pub explain_no_client : x ≡ None
      → ExplainAnswers client domain sender helo receiver seconds table place size (90 ∷ 0 ∷ 0 ∷ []) name name text text
  explain_no_client e = ExplainAnswers.no_client (sym p ∙ e) refl refl refl

  pub explain_for_client : (a : Address) → x ≡ Some a → (r : Result Explanation Refusal) (name' text' : List ℕ)
      → second.Explains (second.lent a domain sender helo receiver seconds table place size name text) (second.handed r name' text')
      → (numbers : List ℕ) → numbers ≡ encoded_explanation r
      → ExplainAnswers client domain sender helo receiver seconds table place size numbers name name' text text'
  explain_for_client a e r name' text' h numbers n = ExplainAnswers.for_client (sym p ∙ e) h.answers
      (record { answer = n ∙ ap encoded_explanation h.says.answer; name_buffer_lem = h.says.name_buffer_lem; text_buffer_lem = h.says.text_buffer_lem })

-- `talavorn_read_record`
module _ (s : List ℕ) (x : RecordAnswer) (p : x ≡ pointed_record s) (h : RecordAnswers s (record_report x)) where
  pub record_says : (numbers : List ℕ) → numbers ≡ record_numbers (record_report x) → RecordSays s numbers
  record_says numbers n = record { answer = n ∙ rw p; produced = rw p at h }

  pub record_accepted : (next : ℕ) → x ≡ Ok next → RecordSays s (0 ∷ next ∷ [])
  unfolding record_numbers
  record_accepted next e = record_says (0 ∷ next ∷ []) (rw e)

  pub record_refused : (r : RecordRefusal) → x ≡ Err r → (number : ℕ) → number ≡ number_of r.reason → RecordSays s (number ∷ r.at ∷ [])
  unfolding record_numbers
  record_refused r e number n = record_says (number ∷ r.at ∷ []) (rw (e, n))

-- `talavorn_matches`
module _ (c n : Option Address) (bits : ℕ) (x : Option Address) (p : x ≡ c) where
  pub match_no_client : x ≡ None → MatchSays c n bits 90
  unfolding match_number
  match_no_client e =
      let q : c ≡ None = sym p ∙ e in
      record { answer = rw q; matches = λ a b k l. let z : ◌≡◌ {A = ℕ} 0 1 = cc in absurd (omega arith) }

  pub match_no_network : (a : Address) → x ≡ Some a → (y : Option Address) → y ≡ n → y ≡ None → MatchSays c n bits 90
  unfolding match_number
  match_no_network a e y p' e' =
      let q : c ≡ Some a = sym p ∙ e in
      let q' : n ≡ None = sym p' ∙ e' in
      record { answer = rw (q, q'); matches = λ a b k l. let z : ◌≡◌ {A = ℕ} 0 1 = cc in absurd (omega arith) }

  module _ (a : Address) (e : x ≡ Some a) (y : Option Address) (p' : y ≡ n) (b : Address) (e' : y ≡ Some b) (t : Bool)
      (h : (t ≡ matches_at a b bits) × ((t ≡ true) ↔ Matches a b bits)) where
    -- the addresses are those that were read
    match_is : (a' b' : Address) → c ≡ Some a' → n ≡ Some b' → (t ≡ true) ↔ Matches a' b' bits
    match_is a' b' k l =
        let i : a ≡ a' = cc in
        let j : b ≡ b' = cc in
        rw (← i, ← j) h.1

    match_says : (r : ℕ) → r ≡ cond t 1 0 → ((r ≡ 1) ↔ (t ≡ true)) → MatchSays c n bits r
    unfolding match_number
    match_says r m i =
        let q : c ≡ Some a = sym p ∙ e in
        let q' : n ≡ Some b = sym p' ∙ e' in
        record {
          answer = rw (q, q', ← h.0) m;
          matches = λ a' b' u v. let w = match_is a' b' u v in ((λ x. w.0 (i.0 x)), (λ x. i.1 (w.1 x)));
        }

    pub match_yes : t ≡ true → MatchSays c n bits 1
    match_yes k = match_says 1 (rw k) ((λ _. k), (λ _. refl))

    pub match_no : t ≡ false → MatchSays c n bits 0
    match_no k = match_says 0 (rw k) ((λ x. absurd (omega (arith, x))), (λ x. absurd (true_false t x k)))

-- `talavorn_check_table`
pub table_says : (t : List ℕ) (x : Result ℕ TableError) → x ≡ check_table t → TableAnswers t (table-reported x)
    → (numbers : List ℕ) → numbers ≡ table_numbers (table-reported x) → TableSays t numbers
table_says t x p h numbers n = record { answer = n ∙ rw p; checked = rw p at h }

-- `talavorn_add_lifetimes`
pub add_says : (old before after : List ℕ) (x : Result ℕ TableError) → Rewrites old before (addedOutcome x) after
    → (numbers : List ℕ) → numbers ≡ table_numbers (table-reported x) → AddSays old numbers before after
add_says old before after x h numbers n = record { outcome = addedOutcome x; rewrites = h; answer = n ∙ added_row x }

-- `talavorn_read_address`
module _ (s : List ℕ) (x : Option Address) (p : x ≡ read_address s) (h : NetworkAnswer (AddressText s) x) (b : List ℕ) where
  pub address_none : x ≡ None → AddressSays s 0 b b
  unfolding address_octets
  address_none e = let q : read_address s ≡ None = sym p ∙ e in record { answer = rw q; buffer = rw q (nothing_written b); produced = rw p at h }

  pub address_read : (a : Address) → x ≡ Some a → (r : ℕ) (d : List ℕ) → (r ≡ length (octets a)) × (d ≡ overwritten (octets a) b) → AddressSays s r b d
  unfolding address_octets
  address_read a e r d w = let q : read_address s ≡ Some a = sym p ∙ e in record { answer = rw q w.0; buffer = rw q w.1; produced = rw p at h }

-- `talavorn_expand`
module _ (form : Option Form) (f : Option Form) (pf : f ≡ form) (client : Option Address) (text : List ℕ) (g : Address → Given) (b : List ℕ) where
  -- what the call comes to
  abbrev expansion_for : Form → Address → Expansion
  expansion_for k a = outcome k text (g a) (length b)

  pub expand_no_form : f ≡ None → ExpandSays form client expansion_for (91 ∷ 0 ∷ []) b b × ExpandAnswers form client text g (91 ∷ 0 ∷ []) b b
  expand_no_form e =
      let q : form ≡ None = sym pf ∙ e in
      (rw q (record { answer = refl; buffer = refl }), ExpandAnswers.no_kind q (record { answer = refl; buffer = refl }))

  module _ (k : Form) (e : f ≡ Some k) (x : Option Address) (px : x ≡ client) where
    pub expand_no_client : x ≡ None → ExpandSays form client expansion_for (90 ∷ 0 ∷ []) b b × ExpandAnswers form client text g (90 ∷ 0 ∷ []) b b
    expand_no_client e' =
        let q : form ≡ Some k = sym pf ∙ e in
        let q' : client ≡ None = sym px ∙ e' in
        (rw (q, q') (record { answer = refl; buffer = refl }), ExpandAnswers.no_client q q' (record { answer = refl; buffer = refl }))

    pub expand_for_client : (a : Address) → x ≡ Some a → (r : Result ℕ ExpandError) (d : List ℕ) → Expanding (expansion_for k a) r b d
        → Expansion-answered k text (g a) r b d → (numbers : List ℕ) → numbers ≡ expanded_numbers r
        → ExpandSays form client expansion_for numbers b d × ExpandAnswers form client text g numbers b d
    expand_for_client a e' r d s h numbers n =
        let q : form ≡ Some k = sym pf ∙ e in
        let q' : client ≡ Some a = sym px ∙ e' in (
          rw (q, q') (record { answer = n ∙ ap expanded_numbers s.answer; buffer = s.buffer }),
          ExpandAnswers.for_client q q' h.expands (record { answer = n ∙ ap expanded_numbers h.says.answer; buffer = h.says.buffer }),
        )

-- `talavorn_write_line`
module _ (identity i : Option Identity) (pi : i ≡ identity) (client : Option Address) (g : Address → Identity → LineGiven) (b : List ℕ) where
  pub write_no_identity : i ≡ None → WriteAnswers identity client g (92 ∷ 0 ∷ []) b b
  write_no_identity e = WriteAnswers.no_kind (sym pi ∙ e) (record { answer = refl; buffer = refl })

  module _ (k : Identity) (e : i ≡ Some k) (x : Option Address) (px : x ≡ client) where
    pub write_no_client : x ≡ None → WriteAnswers identity client g (90 ∷ 0 ∷ []) b b
    write_no_client e' = WriteAnswers.no_client (sym pi ∙ e) (sym px ∙ e') (record { answer = refl; buffer = refl })

    pub write_for_client : (a : Address) → x ≡ Some a → (r : Result ℕ LineError) (d : List ℕ) → WritesLine (g a k) r b d
        → (numbers : List ℕ) → numbers ≡ written_numbers r → WriteAnswers identity client g numbers b d
    write_for_client a e' r d h numbers n = WriteAnswers.for_client (sym pi ∙ e) (sym px ∙ e') h.writes
        (record { answer = n ∙ ap written_numbers h.says.answer; buffer = h.says.buffer })

-- `talavorn_unquote`
pub part_unquoted : (s b : List ℕ) (r : Result ℕ LineError) (d : List ℕ) → UnquotesPart s r b d
    → (numbers : List ℕ) → numbers ≡ written_numbers r → UnquoteAnswers s numbers b d
part_unquoted s b r d h numbers n = record {
  outcome = h.outcome;
  answers = h.unquotes;
  says = record { answer = n ∙ ap written_numbers h.says.answer; buffer = h.says.buffer };
}

-- `talavorn_read_term`
module _ (s : List ℕ) (i : ℕ) (x : TermAnswer) (p : x ≡ pointed_term s i) (y : Option ReadTerm) (e : x ≡ Ok y) (t : ReadTerm) (q : y ≡ Some t) where
  term_was : read_term s i ≡ term_at t.at t.next t.term
  term_was =
      let k : x ≡ Ok (Some t) = rw q at e in
      term_unpointed s (read_term s i) t.at t.next t.term (sym p ∙ k)

  pub term_fits : (t.at ≤ t.next) × Inside (t.next - t.at) t.term
  term_fits = term_inside s i t.at t.next t.term term_was

module _ (s : List ℕ) (i : ℕ) (x : TermAnswer) (p : x ≡ pointed_term s i) (h : TermAnswers s i (term_report s x)) (b : List ℕ) where
  term_says : (y : TermAnswer) → x ≡ y → ArgumentStands s y → (numbers d : List ℕ) → numbers ≡ term_numbers y → d ≡ overwritten (term_octets y) b → TermSays s i numbers b d
  term_says y e a numbers d n o =
      let q : pointed_term s i ≡ y = sym p ∙ e in
      record { answer = rw q n; network = rw q o; argument = rw q a; produced = rw p at h }

  pub term_refused : (f : RecordRefusal) → x ≡ Err f → (n : ℕ) → n ≡ number_of f.reason → TermSays s i (n ∷ f.at ∷ 0 ∷ 0 ∷ 0 ∷ 0 ∷ 0 ∷ 0 ∷ 0 ∷ []) b b
  unfolding term_numbers term_octets
  term_refused f e n h = term_says (Err f) e tt _ b (rw h) (nothing_written b)

  module _ (y : Option ReadTerm) (e : x ≡ Ok y) where
    pub term_end : y ≡ None → TermSays s i (0 ∷ 0 ∷ 0 ∷ 0 ∷ 0 ∷ 0 ∷ 0 ∷ 0 ∷ 0 ∷ []) b b
    unfolding term_numbers term_octets
    term_end q = term_says (Ok None) (rw q at e) tt _ b refl (nothing_written b)

    pub term_read : (t : ReadTerm) → y ≡ Some t → (row d : List ℕ) → row ≡ term_row t.at t.next (shape_of (t.next - t.at) t.term)
        → d ≡ overwritten (network_of t.term) b → TermSays s i (1 ∷ row) b d
    unfolding term_numbers term_octets
    term_read t q row d n o =
        term_says (Ok (Some t)) (rw q at e) (argument_stands s i t.at t.next t.term (term_was s i x p y e t q)) (1 ∷ row) d (ap (λ (l : List ℕ). 1 ∷ l) n) o
