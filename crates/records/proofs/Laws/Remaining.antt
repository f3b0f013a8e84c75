-- The terms that are left after one was read from a place on: one less after a term; none where no term is read, or past the record's end. From where
-- terms stand (Arguments).
use Rattle.std.proofs.Common.{None, Ok, Err, Some}
use Prim.Native.Nat.{ℕ, ◌≤◌}
use mathlib.Core.Path.{◌≡◌, refl, sym, ap, subst, ◌∙◌}
use mathlib.Core.List.{List, [], ◌∷◌}
use native.Mathlib.Omega.{arith}
use lib.ListN.{length}
use Rattle.text.specs.Bytes.{part}
use Rattle.records.specs.Readings.{Placed}
use Rattle.records.specs.Numbers.{end, term, term_report, said_of, TermAnswer, term_at}
use Rattle.records.specs.Reader.{read_term, Reads, stop, step}
use Rattle.records.specs.declared.Term.{Term}
use Rattle.records.proofs.Laws.Arguments.{stands}

-- a term that was read
abbrev pub placed : List ℕ → ℕ → ℕ → Term → Placed
placed s b e t = record { place = b; said = said_of (part s b e) t }

-- what is left after it
pub record Next (s : List ℕ) (rest : List Placed) (b e : ℕ) (t : Term) : Type 0 where
  pub more : List Placed
  pub whole : rest ≡ placed s b e t ∷ more
  pub reads : Reads s e more

pub reads_next : {s : List ℕ} {i : ℕ} {rest : List Placed} → Reads s i rest → (b e : ℕ) (t : Term) → read_term s i ≡ term_at b e t → Next s rest b e t
reads_next {s} {i} (stop h) b e t q =
    let g : term e (placed s b e t) ≡ end = sym (ap (term_report s) q) ∙ h in let z : ◌≡◌ {A = ℕ} 0 1 = cc in absurd (omega arith)
reads_next {s} {i} (step {next = next} {t = u} {ts = ts} h r) b e t q =
    let g : term e (placed s b e t) ≡ term next u = sym (ap (term_report s) q) ∙ h in
    let n : next ≡ e = cc in
    let p : u ≡ placed s b e t = cc in
    record { more = ts; whole = ap (λ (x : Placed). x ∷ ts) p; reads = subst (λ (j : ℕ). Reads s j ts) n r }

-- where there is no term
ended : {s : List ℕ} {i : ℕ} {rest : List Placed} (x : TermAnswer) → read_term s i ≡ x → ((b e : ℕ) (t : Term) → x ≡ term_at b e t → ⊥) → Reads s i rest
    → rest ≡ []
ended x q n (stop h) = refl
ended {s} (Ok None) q n (step {next = next} {t = u} h r) =
    let g : end ≡ term next u = sym (ap (term_report s) q) ∙ h in let z : ◌≡◌ {A = ℕ} 0 1 = cc in absurd (omega arith)
ended {s} (Err x) q n (step {next = next} {t = u} h r) =
    let g : term_report s (Err x) ≡ term next u = sym (ap (term_report s) q) ∙ h in let z : ◌≡◌ {A = ℕ} 0 1 = cc in absurd (omega arith)
ended (Ok (Some x)) q n (step h r) = absurd (n x.at x.next x.term refl)

pub reads_out : {s : List ℕ} {i : ℕ} {rest : List Placed} → Reads s i rest → (r : TermAnswer) → r ≡ read_term s i
    → ((b e : ℕ) (t : Term) → r ≡ term_at b e t → ⊥) → rest ≡ []
reads_out d r p h = ended r (sym p) h d

pub reads_end : {s : List ℕ} {i : ℕ} {rest : List Placed} → Reads s i rest → length s ≤ i → rest ≡ []
reads_end {s} {i} d h = ended (read_term s i) refl (λ b e t q. let k = stands s i b e t q in omega (arith, k.after, k.some, k.inside)) d
