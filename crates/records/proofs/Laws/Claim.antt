-- Reading a record, its terms and their arguments, as one claim of any answers that meet the three promises, and that there are such answers. From
-- what the promises determine (Records, Terms), completeness and the one walk (Records).
use Rattle.std.proofs.Common.{None, Ok, Err, Some}
use Prim.Native.Nat.{ℕ}
use mathlib.Core.Path.{◌≡◌, refl, sym, ap, subst, ◌∙◌}
use mathlib.Core.List.{List, [], ◌∷◌}
use mathlib.Core.Logic.{◌↔◌}
use native.Mathlib.Omega.{arith}
use Rattle.text.specs.Bytes.{part}
use Rattle.records.specs.Readings.{Placed, argument_bytes}
use Rattle.records.specs.Grammar.{Record}
use Rattle.records.specs.Numbers.{accepted, record_report, said_of, end, term, term_report, TermAnswer, RecordAnswer, term_at}
use Rattle.records.specs.Answers.{ReadsRecord}
use Rattle.records.specs.Reader.{read_term, Reads, after_version}
use Rattle.records.specs.Beginnings.{pointed_term, pointed_record}
use Rattle.records.specs.Claim.{Calls, Told, Walks, told, Claim}
use Rattle.records.specs.declared.Term.{Term}
use Rattle.records.proofs.Laws.Terms.{term_answers, term_answers_is, point_kept, no_refusal}
use Rattle.records.proofs.Laws.Records.{record_complete, record_accepted, reads_one, one_reading, record_answers, Accepting, accepting, record_answers_is}

-- answers by what is reported of them
accepted_of : (r : RecordAnswer) (n : ℕ) → record_report r ≡ accepted n → r ≡ Ok n
accepted_of (Ok m) n e = cc
accepted_of (Err x) n e = let z : ◌≡◌ {A = ℕ} 0 1 = cc in absurd (omega arith)

end_of : (s : List ℕ) (r : TermAnswer) → term_report s r ≡ end → r ≡ Ok None
end_of s (Ok None) e = refl
end_of s (Err x) e = let z : ◌≡◌ {A = ℕ} 0 1 = cc in absurd (omega arith)
end_of s (Ok (Some x)) e = let z : ◌≡◌ {A = ℕ} 0 1 = cc in absurd (omega arith)

record TermOf (s : List ℕ) (r : TermAnswer) (next : ℕ) (t : Placed) : Type 0 where
  at : ℕ
  found : Term
  is : r ≡ term_at at next found
  says : t ≡ record { place = at; said = said_of (part s at next) found }

term_of : (s : List ℕ) (r : TermAnswer) (next : ℕ) (t : Placed) → term_report s r ≡ term next t → TermOf s r next t
term_of s (Ok None) next t e = let z : ◌≡◌ {A = ℕ} 0 1 = cc in absurd (omega arith)
term_of s (Err x) next t e = let z : ◌≡◌ {A = ℕ} 0 1 = cc in absurd (omega arith)
term_of s (Ok (Some x)) next t q =
    let n : x.next ≡ next = cc in
    let p : t ≡ record { place = x.at; said = said_of (part s x.at x.next) x.term } = cc in
    record {
      at = x.at;
      found = x.term;
      is = ap (λ (k : ℕ). term_at x.at k x.term) n;
      says = p ∙ ap (λ (k : ℕ). record { place = x.at; said = said_of (part s x.at k) x.term }) n;
    }

module _ {s : List ℕ} (calls : Calls s) where
  -- a term's report, and the end, are the reader's
  report_is : (i : ℕ) → term_report s (calls.term_answer i) ≡ term_report s (pointed_term s i)
  report_is i = term_answers_is s i _ (calls.terms_promised i)

  end_is : (i : ℕ) → (term_report s (pointed_term s i) ≡ end) ↔ (term_report s (read_term s i) ≡ end)
  end_is i = point_kept s (read_term s i) end (λ number p e. let z : ◌≡◌ {A = ℕ} 0 1 = cc in omega arith)

  term_is : (i next : ℕ) (t : Placed) → (term_report s (pointed_term s i) ≡ term next t) ↔ (term_report s (read_term s i) ≡ term next t)
  term_is i next t = point_kept s (read_term s i) (term next t) (no_refusal next t)

  -- a walk of the calls is one of the reader, with the arguments
  walks_reads : {i : ℕ} {us : List Told} → Walks calls i us → (ts : List Placed) × (Reads s i ts × (us ≡ told ts))
  walks_reads {i} (Walks.stop e) = ([], (Reads.stop ((end_is i).0 (sym (report_is i) ∙ ap (term_report s) e)), refl))
  walks_reads {i} (Walks.step {at = at} {next = next} {x = x} {ts = us} e w) =
      let t : Placed = record { place = at; said = said_of (part s at next) x } in
      let r = walks_reads w in (
        t ∷ r.0,
        (
          Reads.step ((term_is i next t).0 (sym (report_is i) ∙ ap (term_report s) e)) r.1.0,
          ap (λ (bytes : List ℕ). record { term = t; argument = bytes } ∷ us) (calls.arguments_promised at next x)
              ∙ ap (λ (vs : List Told). record { term = t; argument = argument_bytes t.said } ∷ vs) r.1.1,
        ),
      )

  reads_walks : {i : ℕ} {ts : List Placed} → Reads s i ts → Walks calls i (told ts)
  reads_walks {i} (Reads.stop e) = Walks.stop (end_of s (calls.term_answer i) (report_is i ∙ (end_is i).1 e))
  reads_walks {i} (Reads.step {next = next} {t = t} {ts = ts} e r) =
      let o = term_of s (calls.term_answer i) next t (report_is i ∙ (term_is i next t).1 e) in
      let a = calls.arguments_promised o.at next o.found in
      subst (λ (u : Told). Walks calls i (u ∷ told ts))
      (ap (λ (bytes : List ℕ). record { term = record { place = o.at; said = said_of (part s o.at next) o.found }; argument = bytes }) a
      ∙ ap (λ (y : Placed). record { term = y; argument = argument_bytes y.said }) (sym o.says))
      (Walks.step o.is (reads_walks r))

  accepted_by : (first : ℕ) → calls.record_answer ≡ Ok first → Accepting s first
  accepted_by first e = accepting s first (subst (ReadsRecord s) e calls.record_promised)

  walks_of : (first : ℕ) → calls.record_answer ≡ Ok first → (ts : List Placed) → Record s ts → Reads s first ts
  walks_of first e ts d =
      let p = accepted_by first e in
      subst (λ (i : ℕ). Reads s i ts) (sym p.first) (record_complete d p.short).walk

pub claim : (s : List ℕ) (calls : Calls s) → Claim s calls
claim s calls = record {
  accepts = (
    (λ a. let p = accepted_by calls a.0 a.1 in (p.short, (p.terms, p.reading))),
    (λ d. (after_version, accepted_of calls.record_answer after_version (record_answers_is s _ calls.record_promised ∙ ap record_report (record_accepted d.1.1 d.0)))),
  );
  one = λ h ts us d e. one_reading h d e;
  walks = λ first a ts d us.
      let r = walks_of calls first a ts d in (
        (λ w. let x = walks_reads calls w in x.1.1 ∙ ap told (reads_one x.1.0 r)),
        (λ e. subst (Walks calls first) (sym e) (reads_walks calls r)),
      );
}

-- there are such answers: the reader's
pub calls_of : (s : List ℕ) → Calls s
calls_of s = record {
  record_answer = pointed_record s;
  record_promised = record_answers s;
  term_answer = pointed_term s;
  terms_promised = term_answers s;
  argument_answer = λ at next x. argument_bytes (said_of (part s at next) x);
  arguments_promised = λ at next x. refl;
}
