-- The readers that the rules use against the productions: the text that a check selects, the terms that it tries and the expansions that it makes are those that
-- the productions make, and a text outside them is permerror. From the laws of `records` and `macros`. And a verdict's text has at most 500 bytes.
use Rattle.std.proofs.Common.{None, Option, Ok, Err, Result as Either}
use Prim.Native.Nat.{ℕ, zero, suc, ◌≤◌, ◌<◌}
use mathlib.Core.Path.{◌≡◌, refl, ap, subst, ◌∙◌}
use mathlib.Core.Logic.{◌↔◌, ⊎_elim}
use mathlib.Core.List.{List, [], ◌∷◌, ◌++◌}
use mathlib.Core.Bool.{false}
use native.Mathlib.Omega.{arith}
use lib.ListN.{length, take, drop, length-append}
use borrow.Author.Tests.{lt-ltb, lt-leb}
use Rattle.text.proofs.Laws.Orders.{le_or_lt}
use Rattle.text.proofs.Laws.Tests.{cond-elim, true_false, test_fails}
use Rattle.domain.specs.Names.{label_count}
use Rattle.domain.specs.Normal.{name}
use Rattle.macros.specs.declared.Form.{Form}
use Rattle.macros.specs.Grammar.{Piece, Produces}
use Rattle.macros.specs.Reader.{any_p, uses_p}
use Rattle.macros.specs.Expansion.{given, letters_of, text_of}
use Rattle.macros.proofs.Laws.Completeness.{complete}
use Rattle.records.specs.Readings.{Optional, absent, present, Placed}
use Rattle.records.specs.Grammar.{Terms, done, term as term_made, Record, spf1}
use Rattle.records.specs.Answers.{most_bytes}
use Rattle.records.specs.Reader.{read_record, has_version, Reads, stop as reads-stop, step as reads-step}
use Rattle.records.specs.declared.Refusal.{Refusal}
use Rattle.records.specs.declared.Reason.TheVariants.{TooLong}
use Rattle.records.proofs.Laws.Records.{record_complete, record_sound}
use Rattle.records.proofs.Laws.Versions.{has_version_lem, version_of}
use Rattle.rules.specs.declared.Counts.{Counts}
use Rattle.rules.specs.Tree.{Reply, failed, items, Answer, Table, settled, wanting, answered, sooner, run, SettlesTo}
use Rattle.rules.proofs.Laws.Runs.{bind_is}
use Rattle.rules.proofs.Laws.Alike.{Holds}
use Rattle.rules.specs.Mechanisms.{Mail, expansion}
use Rattle.rules.specs.Evaluation.{Sub, try_terms, terms_after, terms_from, terms_of, read_outcome, versioned, one, selection, text_reply, record_lookup, after_lookup, check_name, whole, verdict, most_text, Verdict}
use Rattle.rules.proofs.Laws.Enough.{whole_unfolds}
use Rattle.rules.proofs.Laws.Verdicts.{AskedFacts, VerdictFacts, verdict_facts}
use Rattle.rules.specs.Reached.{Texts, WithVersion, NoneWithVersion, none, besides, Single, first, later, Selects, only, Outside, too_long, unproduced}

-- the texts with a version section, by the production and as record lookup keeps them
no_version : (s : List ℕ) → (WithVersion s → ⊥) → has_version s ≡ false
no_version s n = test_fails (has_version s) (λ q. n (take 6 s, drop 6 s, version_of s q))

without_version : (s : List ℕ) → has_version s ≡ false → WithVersion s → ⊥
without_version s e w = true_false (has_version s) (has_version_lem w.2) e

none_kept : {ss : List (List ℕ)} → NoneWithVersion ss → versioned ss ≡ []
unfolding versioned
none_kept none = refl
none_kept (besides {u = u} n r) = rw (no_version u n) (none_kept r)

kept_none : (ss : List (List ℕ)) → versioned ss ≡ [] → NoneWithVersion ss
unfolding versioned
kept_none [] e = none
kept_none (u ∷ ss) e =
    cond-elim (λ (us : List (List ℕ)). us ≡ [] → NoneWithVersion (u ∷ ss)) (has_version u)
    (λ h q. let z : ◌≡◌ {A = ℕ} 0 1 = cc in absurd (omega arith))
    (λ h q. besides (without_version u h) (kept_none ss q)) e

single_kept : {ss : List (List ℕ)} {s : List ℕ} → Single ss s → versioned ss ≡ s ∷ []
unfolding versioned
single_kept (first {s = s} w n) = rw (has_version_lem w.2) (ap (λ (us : List (List ℕ)). s ∷ us) (none_kept n))
single_kept (later {u = u} n r) = rw (no_version u n) (single_kept r)

kept_single : (ss : List (List ℕ)) (s : List ℕ) → versioned ss ≡ s ∷ [] → Single ss s
unfolding versioned
kept_single [] s e = let z : ◌≡◌ {A = ℕ} 0 1 = cc in absurd (omega arith)
kept_single (u ∷ ss) s e =
    cond-elim (λ (us : List (List ℕ)). us ≡ s ∷ [] → Single (u ∷ ss) s) (has_version u)
    (λ h q. let i : u ≡ s = cc in let j : versioned ss ≡ [] = cc in
    subst (Single (u ∷ ss)) i (first (take 6 u, drop 6 u, version_of u h) (kept_none ss j)))
    (λ h q. later (without_version u h) (kept_single ss s q)) e

-- `Single` is what record lookup keeps
pub single_is : (ss : List (List ℕ)) (s : List ℕ) → (versioned ss ≡ s ∷ []) ↔ Single ss s
single_is ss s = (kept_single ss s, single_kept)

-- what record lookup comes to, by the texts of a domain
module _ (t : Table) (d : List ℕ) (c : Counts) where
  texts_are : (ss : List (List ℕ)) → Texts t d ss → SettlesTo t (record_lookup d c) (selection (versioned ss))
  unfolding record_lookup text_reply answered run
  texts_are ss e l = (sooner l e.0, rw e.1)

  selects_one : (s : List ℕ) → Selects t d s → SettlesTo t (record_lookup d c) (one s)
  unfolding selection
  selects_one s (only h x v) l = let p = texts_are _ x l in (p.0, p.1 ∙ rw (single_kept v))

  one_selects : (s : List ℕ) → 1 < label_count d → (l j : Option ℕ) → run t l (record_lookup d c) ≡ settled (one s) j → Selects t d s
  unfolding record_lookup text_reply selection answered run
  one_selects s h l j e = by (t 16 d) refl e
    where
      single : (ss : List (List ℕ)) {i : Option ℕ} → settled (selection ss) i ≡ settled (one s) j → ss ≡ s ∷ []
      single [] q = let z : ◌≡◌ {A = ℕ} 0 1 = cc in absurd (omega arith)
      single (u ∷ []) q = let z : u ≡ s = cc in rw z
      single (u ∷ v ∷ r) q = let z : ◌≡◌ {A = ℕ} 0 1 = cc in absurd (omega arith)

      of : (r : Reply) (n : ℕ) → t 16 d ≡ present (record { reply = r; lifetime = n }) → run t (sooner l n) (text_reply r) ≡ settled (one s) j → Selects t d s
      of failed n g q = let z : ◌≡◌ {A = ℕ} 0 1 = cc in absurd (omega arith)
      of (items ss) n g q = only h (n, g) (kept_single ss s (single (versioned ss) q))

      by : (x : Optional Answer) → t 16 d ≡ x → answered x (wanting 16 d c l) (λ y. run t (sooner l y.lifetime) (text_reply y.reply)) ≡ settled (one s) j → Selects t d s
      by absent g q = let z : ◌≡◌ {A = ℕ} 0 1 = cc in absurd (omega arith)
      by (present y) g q = of y.reply y.lifetime g q

-- `Selects` is what record lookup does: a domain of more than one label selects a text exactly if record lookup comes to it
pub selects_is : (t : Table) (d s : List ℕ) (c : Counts) → 1 < label_count d → Selects t d s ↔ SettlesTo t (record_lookup d c) (one s)
selects_is t d s c h = (selects_one t d c s, λ p. one_selects t d c s h None (p None).0 (p None).1)

-- a check by the record that it selects
select_is : (t : Table) (l : Option ℕ) (mail : Mail) (sub : Sub) (d s : List ℕ) (c : Counts) → Selects t d s
    → (j : Option ℕ) × (run t l (check_name mail sub (name d) c) ≡ run t j (read_outcome mail sub d s (read_record s) c))
unfolding check_name after_lookup
select_is t l mail sub d s c (only h x v) =
    let p = selects_one t d c s (only h x v) l in
    (p.0, rw (lt-leb _ _ h) (bind_is t l (record_lookup d c) (after_lookup mail sub d c) (one s) p.0 p.1))

-- the terms that are tried are those of the reading that the productions make
terms_length : {p : ℕ} {w : List ℕ} {ts : List Placed} → Terms p w ts → length ts ≤ length w
terms_length (done m) = omega arith
terms_length (term_made u w {rest = rest} m d r) = omega (arith, terms_length r, length-append (32 ∷ u) (w ++ rest), length-append w rest)

record_length : {s : List ℕ} {ts : List Placed} → Record s ts → length ts ≤ length s
record_length (spf1 {v = v} {rest = rest} l t o) = omega (arith, terms_length t, length-append v rest)

reads_terms : {s : List ℕ} {i : ℕ} {ts : List Placed} (f : ℕ) → length ts ≤ f → Reads s i ts → terms_from (suc f) s i ≡ ts
unfolding terms_from terms_after
reads_terms f h (reads-stop p) = rw p
reads_terms zero h (reads-step p r) = absurd (omega arith)
reads_terms (suc f) h (reads-step {t = t} p r) = rw p (ap (λ (us : List Placed). t ∷ us) (reads_terms f (omega arith) r))

read_is : (t : Table) (j : Option ℕ) (mail : Mail) (sub : Sub) (d s : List ℕ) (c : Counts) {ts : List Placed} → length s ≤ most_bytes → Record s ts
    → run t j (read_outcome mail sub d s (read_record s) c) ≡ run t j (try_terms mail sub d ts ts c)
unfolding read_outcome terms_of
read_is t j mail sub d s c {ts} h r =
    let a = record_complete r h in
    rw (a.accepted, reads_terms (length s) (record_length r) a.walk)

-- a text outside the grammar is refused
outside_refused : (s : List ℕ) → Outside s → (e : Refusal) × (read_record s ≡ Err e)
unfolding read_record
outside_refused s (too_long h) = (record { reason = TooLong; at = 0 }, rw (lt-ltb most_bytes (length s) h))
outside_refused s (unproduced u) = by (read_record s) refl
  where
    by : (r : Either ℕ Refusal) → read_record s ≡ r → (e : Refusal) × (read_record s ≡ Err e)
    by (Ok n) e = let d = record_sound s n e in absurd (u d.0 d.1)
    by (Err x) e = (x, e)

-- `Outside` leaves nothing out: what is accepted has at most 4,096 bytes, and the terms that are read of it are a reading that the productions make
pub accepted_reading : (s : List ℕ) (n : ℕ) → read_record s ≡ Ok n → (length s ≤ most_bytes) × Record s (terms_from (suc (length s)) s n)
unfolding read_record
accepted_reading s n e = ⊎_elim
    (λ (h : length s ≤ most_bytes). (h, made h))
    (λ (h : most_bytes < length s). absurd (let q : read_record s ≡ Err (record { reason = TooLong; at = 0 }) = rw (lt-ltb most_bytes (length s) h) in let z : ◌≡◌ {A = ℕ} 0 1 = cc in omega arith))
    (le_or_lt (length s) most_bytes)
  where
    made : length s ≤ most_bytes → Record s (terms_from (suc (length s)) s n)
    made h =
        let d = record_sound s n e in
        let a = record_complete d.1 h in
        let i : n ≡ 6 = cc in
        rw (i, reads_terms (length s) (record_length d.1) a.walk) d.1

-- A check that selects a text that the productions make tries the terms of its one reading, with the check itself for include and redirect, from the
-- lifetime that record lookup leaves.
pub produced_runs : (t : Table) (l : Option ℕ) (mail : Mail) (d s : List ℕ) (ts : List Placed) (c : Counts)
    → c.lookups ≤ 10 → Selects t d s → length s ≤ most_bytes → Record s ts
    → (j : Option ℕ) × (run t l (whole mail (name d) c) ≡ run t j (try_terms mail (whole mail) d ts ts c))
produced_runs t l mail d s ts c k p h r =
    let i = select_is t l mail (whole mail) d s c p in
    (i.0, whole_unfolds t l mail (name d) c k ∙ i.1 ∙ read_is t i.0 mail (whole mail) d s c h r)

-- A check that selects a text outside the grammar is permerror with the counts it had.
pub outside_permerror : (t : Table) (mail : Mail) (d s : List ℕ) (c : Counts) → c.lookups ≤ 10 → Selects t d s → Outside s
    → SettlesTo t (whole mail (name d) c) (record { value = 6; counts = c; failing = absent })
unfolding read_outcome run
outside_permerror t mail d s c k p o l =
    let i = select_is t l mail (whole mail) d s c p in
    (i.0, whole_unfolds t l mail (name d) c k ∙ i.1 ∙ rw (outside_refused s o).1)

-- The expansion of a macro string is the text of the pieces that the productions make, and p is asked for exactly if one of them is a p macro.
pub produced_expands : (mail : Mail) (d : List ℕ) (form : Form) (text : List ℕ) (ps : List Piece) → Produces form text ps
    → ((p : List ℕ) → expansion mail d form text p ≡ text_of (letters_of (given mail.sender mail.helo mail.receiver d p mail.client mail.seconds)) ps)
    × (uses_p form text ≡ any_p ps)
unfolding expansion uses_p
produced_expands mail d form text ps r = let e = (complete form text ps r).1 in ((λ p. rw e), rw e)

-- "over 500 bytes: empty text"
pub text_short : (t : Table) (l j : Option ℕ) (mail : Mail) (domain : List ℕ) (v : Verdict) → run t l (verdict mail domain) ≡ settled v j → length v.text ≤ most_text
unfolding Holds
text_short t l j mail domain v e = (subst (Holds (AskedFacts t) VerdictFacts) e (verdict_facts t mail domain l)).short
