-- What is printed has at most 2,200,000 bytes: each of at most 256 breaches has a line of at most 100, the record, and at most as many spaces as the record
-- has bytes. From the definitions of Lines and that a breach's place is at most the record's length (`breach_below` of `publishing`).
use Prim.Native.Nat.{ℕ, ◌*◌, ◌≤◌}
use mathlib.Core.Path.{refl}
use mathlib.Core.List.{List, [], ◌∷◌}
use native.Mathlib.Omega.{arith}
use lib.ListN.{length, length-append, length-replicate}
use lib.Dec.{eqb}
use Rattle.text.proofs.Laws.Tests.{cond-elim}
use Rattle.address_text.proofs.Laws.Lengths.{length_decimal}
use Rattle.records.specs.Readings.{Placed}
use Rattle.records.specs.Grammar.{Record}
use Rattle.records.specs.Answers.{most_bytes}
use Rattle.record_listing.proofs.Laws.Room.{refusal_length}
use Rattle.publishing.specs.House.{here, later}
use Rattle.publishing.specs.Listing.{Entry, Member, Listing}
use Rattle.publishing.proofs.Laws.Tests.{source}
use Rattle.publishing.proofs.Laws.Answers.{terms_rise}
use Rattle.publishing.proofs.Laws.Desk.{breach_below}
use Rattle.breach_listing.specs.Lines.{caret_text, head_text, rule_text, breach_text, breach_texts, list_text, Prints, long_name, unread, many, lists, room}

-- a listed place is at most the record's length
abbrev pub Below : ℕ → List Entry → Type 0
Below size es = (e : Entry) → Member e es → e.place ≤ size

pub listed_below : {s : List ℕ} {ts : List Placed} {name : ℕ} {es : List Entry} → length s ≤ most_bytes → Record s ts
    → Listing ts (length s) name es → Below (length s) es
listed_below h d l e m = breach_below (terms_rise d h) (source ((l.lists e).0 m))

-- a rule in a few words
abbrev Fits : List ℕ → Type 0
Fits x = length x ≤ 53

rule_length : (rule : ℕ) → length (rule_text rule) ≤ 53
unfolding rule_text
rule_length rule =
    cond-elim Fits (eqb rule 1) (λ _. omega arith)
    (λ _. cond-elim Fits (eqb rule 2) (λ _. omega arith)
    (λ _. cond-elim Fits (eqb rule 3) (λ _. omega arith)
    (λ _. cond-elim Fits (eqb rule 4) (λ _. omega arith)
    (λ _. cond-elim Fits (eqb rule 5) (λ _. omega arith)
    (λ _. cond-elim Fits (eqb rule 6) (λ _. omega arith)
    (λ _. cond-elim Fits (eqb rule 7) (λ _. omega arith)
    (λ _. cond-elim Fits (eqb rule 8) (λ _. omega arith)
    (λ _. cond-elim Fits (eqb rule 9) (λ _. omega arith)
    (λ _. omega arith)))))))))

-- a breach, and all of them
breach_length : (s : List ℕ) (e : Entry) → length s ≤ 4096 → e.place ≤ length s → length (breach_text s e) ≤ 8300
unfolding breach_text head_text caret_text
breach_length s e h k =
    simp (length-append, length-replicate) (omega (arith, length_decimal e.rule, length_decimal e.place, rule_length e.rule))

texts_length : (s : List ℕ) (es : List Entry) → length s ≤ 4096 → Below (length s) es → length (breach_texts s es) ≤ 8300 * length es
unfolding breach_texts
texts_length s [] h b = omega arith
texts_length s (e ∷ es) h b =
    let k = breach_length s e h (b e (here refl)) in
    let l = texts_length s es h (λ f m. b f (later m)) in
    simp length-append (omega arith)

list_length : (s : List ℕ) (es : List Entry) → length s ≤ 4096 → Below (length s) es → length es ≤ 256 → length (list_text s es) ≤ room
unfolding list_text
list_length s [] h b k = omega arith
list_length s (e ∷ es) h b k = omega (arith, texts_length s (e ∷ es) h b)

pub prints_length : {domain s text : List ℕ} → Prints domain s text → length text ≤ room
prints_length (long_name h) = omega (arith, refusal_length 22 0)
prints_length (unread {number} {place} h a) = omega (arith, refusal_length number place)
prints_length (many h k d l m) = omega (arith, refusal_length 70 0)
prints_length {s = s} (lists {es = es} h k d l m) = list_length s es k (listed_below k d l) m
