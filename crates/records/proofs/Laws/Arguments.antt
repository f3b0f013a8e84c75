-- Where a term that was read stands in its record, and where the argument of a redirect or an exp stands: just after its name and "=", up to the
-- term's end. From the laws of terms, of mechanisms and of modifiers.
use Rattle.std.proofs.Common.{None, Option, Some, Ok, Err}
use Prim.Native.Nat.{ℕ, ◌+◌, ◌-◌, ◌≤◌, ◌<◌}
use mathlib.Core.Path.{◌≡◌, refl, subst}
use mathlib.Core.List.{List, ◌++◌}
use mathlib.Core.Bool.{true}
use native.Mathlib.Omega.{arith}
use lib.Dec.{ltb}
use lib.ListN.{length, length-append}
use borrow.Author.Tests.{ltb-false}
use Rattle.text.specs.Bytes.{at, part}
use Rattle.text.specs.Lists.{same_word}
use Rattle.text.specs.Texts.{bytes}
use Rattle.text.specs.Runs.{is_in, run_end}
use Rattle.text.specs.declared.bytes.Class.TheVariants.{Space, NameByte}
use Rattle.text.proofs.Laws.Tests.{cond-elim}
use Rattle.text.proofs.Laws.Classes.{nonzero_inside}
use Rattle.text.proofs.Laws.Spans.{Span, span_part, span_join, span_cut, span_to_end}
use Rattle.records.specs.Readings.{present, Said}
use Rattle.records.specs.Grammar.{Mechanism}
use Rattle.records.specs.Numbers.{said_of, TermAnswer, term_at}
use Rattle.records.specs.Answers.{most_bytes}
use Rattle.records.specs.Reader.{mechanism_of, modifier_of, token_of, term_from, read_term}
use Rattle.records.specs.declared.Term.{Term}
use Rattle.records.proofs.Laws.Names.{literal_length, literal_of}
use Rattle.records.proofs.Laws.Mechanisms.{MechanismRight, mechanism_sound}
use Rattle.records.proofs.Laws.Modifiers.{modifier_elim}
use Rattle.records.proofs.Laws.Tokens.{token_elim}
use Rattle.records.proofs.Laws.NextRuns.{View, only_spaces, outside, is, term_view, run_forward}

-- a term that was read: it stands after the place, up to its next place, and was a token of the text there
pub record Stands (s : List ℕ) (i p e : ℕ) (t : Term) : Type 0 where
  pub short : length s ≤ most_bytes
  pub after : i ≤ p
  pub some : p < e
  pub inside : e ≤ length s
  pub token : token_of (part s p e) ≡ Some t
  pub size : length (part s p e) ≡ e - p

abbrev StandsRight : List ℕ → ℕ → TermAnswer → Type 0
StandsRight s i (Ok (Some x)) = Stands s i x.at x.next x.term
StandsRight s i (Ok None) = Unit {0}
StandsRight s i (Err x) = Unit {0}

view_stands : {s : List ℕ} {i : ℕ} {x : TermAnswer} → length s ≤ most_bytes → View s i x → StandsRight s i x
view_stands h (only_spaces m) = tt
view_stands h (outside n q) = tt
view_stands h (is n q) =
    let f = run_forward n in
    record { short = h; after = f.0; some = f.1; inside = f.2; token = q; size = omega (arith, n.word.size) }

read_stands : (s : List ℕ) (i : ℕ) → StandsRight s i (read_term s i)
unfolding read_term
read_stands s i =
    cond-elim (StandsRight s i) (ltb most_bytes (length s)) (λ _. tt)
    (λ a. cond-elim (StandsRight s i) (ltb (length s) i) (λ _. tt)
    (λ b.
    let e : read_term s i ≡ term_from s (run_end (is_in Space) s i) = simp (a, b) in
    let h = ltb-false most_bytes (length s) a in
    subst (StandsRight s i) e (view_stands h (term_view s i h (ltb-false (length s) i b)))))

pub stands : (s : List ℕ) (i : ℕ) (p e : ℕ) (t : Term) → read_term s i ≡ term_at p e t → Stands s i p e t
stands s i p e t q = subst (StandsRight s i) q (read_stands s i)

-- a mechanism has a sign
signed : {sign : ℕ} {w : List ℕ} {x : Said} → Mechanism sign w x → x.sign ≡ present sign
signed (Mechanism.all_term l) = refl
signed (Mechanism.include l d) = refl
signed (Mechanism.a l u d) = refl
signed (Mechanism.mx l u d) = refl
signed (Mechanism.ptr l u) = refl
signed (Mechanism.ip4 l n d) = refl
signed (Mechanism.ip6 l n d) = refl
signed (Mechanism.exists l d) = refl

-- the argument of a redirect or an exp begins after its name and "=", and ends where the term ends
pub record Ended (name w : List ℕ) (from to : ℕ) : Type 0 where
  pub first : from ≡ length (name ++ bytes "=")
  pub order : from ≤ to
  pub last : to ≡ length w

abbrev Ends : List ℕ → Term → Type 0
Ends w (Term.Redirect from to) = Ended (bytes "redirect") w from to
Ends w (Term.Explanation from to) = Ended (bytes "exp") w from to
Ends w (Term.All sign) = Unit {0}
Ends w (Term.Include sign from to) = Unit {0}
Ends w (Term.A sign from to n m) = Unit {0}
Ends w (Term.Mx sign from to n m) = Unit {0}
Ends w (Term.Ptr sign from to) = Unit {0}
Ends w (Term.Network sign from to x n) = Unit {0}
Ends w (Term.Exists sign from to) = Unit {0}
Ends w (Term.Unknown name to) = Unit {0}

abbrev EndsRight : List ℕ → Option Term → Type 0
EndsRight w (Some t) = Ends w t
EndsRight w None = Unit {0}

mechanism_ends : (w : List ℕ) (i sign : ℕ) (x : Option Term) → MechanismRight w i sign x → EndsRight w x
unfolding said_of
mechanism_ends w i sign (Some (Term.Redirect from to)) m = let n = signed m.made in let z : ◌≡◌ {A = ℕ} 0 1 = cc in absurd (omega arith)
mechanism_ends w i sign (Some (Term.Explanation from to)) m = let n = signed m.made in let z : ◌≡◌ {A = ℕ} 0 1 = cc in absurd (omega arith)
mechanism_ends w i sign (Some (Term.All s)) m = tt
mechanism_ends w i sign (Some (Term.Include s from to)) m = tt
mechanism_ends w i sign (Some (Term.A s from to k l)) m = tt
mechanism_ends w i sign (Some (Term.Mx s from to k l)) m = tt
mechanism_ends w i sign (Some (Term.Ptr s from to)) m = tt
mechanism_ends w i sign (Some (Term.Network s from to x n)) m = tt
mechanism_ends w i sign (Some (Term.Exists s from to)) m = tt
mechanism_ends w i sign (Some (Term.Unknown name to)) m = tt
mechanism_ends w i sign None m = tt

-- a name in either case of its letters is as long
name_length : (name u : List ℕ) → same_word u name ≡ true → length u ≡ length name
name_length name u h = literal_length (literal_of name u h)

modifier_ended : (name w : List ℕ) (k : ℕ) → k < length w → same_word (part w 0 k) name ≡ true → Ended name w (k + 1) (length w)
modifier_ended name w k h n =
    let p = span_part w 0 k (omega arith) (omega arith) in
    record { first = omega (arith, p.size, name_length name (part w 0 k) n, length-append name (bytes "=")); order = omega arith; last = refl }

modifier_ends : (w : List ℕ) (k : ℕ) → k < length w → EndsRight w (modifier_of k w)
modifier_ends w k h =
    modifier_elim k w (EndsRight w) (λ n _. modifier_ended (bytes "redirect") w k h n) (λ n _. modifier_ended (bytes "exp") w k h n) (λ _ _ _. tt) tt

token_ends : (w : List ℕ) → EndsRight w (token_of w)
token_ends w = token_elim w (EndsRight w)
    (λ _ i. mechanism_ends w 1 (at w 0) (mechanism_of (at w 0) 1 w) (mechanism_sound (at w 0) 1 w i))
    (λ q. modifier_ends w (run_end (is_in NameByte) w 0) (nonzero_inside w (run_end (is_in NameByte) w 0) (λ z. omega (arith, q, z))))
    (mechanism_ends w 0 43 (mechanism_of 43 0 w) (mechanism_sound 43 0 w (omega arith)))

-- where such an argument stands in the record
pub record Argument (s name : List ℕ) (p e from to : ℕ) : Type 0 where
  pub first : from ≡ length (name ++ bytes "=")
  pub order : from ≤ to
  pub inside : p + to ≤ length s
  pub fits : p + to ≤ most_bytes
  pub text : Span s (p + from) (p + to) (part (part s p e) from to)

argument_of : (s name : List ℕ) (i p e : ℕ) (t : Term) → Stands s i p e t → (from to : ℕ) → Ended name (part s p e) from to → Argument s name p e from to
argument_of s name i p e t k from to n =
    let w = part s p e in
    let a = span_part w 0 from (omega arith) (omega (arith, n.order, n.last)) in
    let b : w ≡ part w 0 from ++ part w from to = span_to_end to n.last (span_join a (span_part w from to n.order (omega (arith, n.last)))) in
    let c : Span s p e (part w 0 from ++ part w from to) = subst (Span s p e) b (span_part s p e (omega (arith, k.some)) k.inside) in
    let f : p + length (part w 0 from) ≡ p + from = omega (arith, a.size) in
    let g : e ≡ p + to = omega (arith, n.last, k.size, k.some) in
    record {
      first = n.first;
      order = n.order;
      inside = omega (arith, k.inside, g);
      fits = omega (arith, k.inside, k.short);
      text = subst (λ (j : ℕ). Span s (p + from) j (part w from to)) g (subst (λ (j : ℕ). Span s j e (part w from to)) f (span_cut (part w 0 from) (part w from to) c).1);
    }

module _ (s : List ℕ) (i p e from to : ℕ) where
  pub redirect_argument : read_term s i ≡ term_at p e (Term.Redirect from to) → Argument s (bytes "redirect") p e from to
  redirect_argument q =
      let k = stands s i p e (Term.Redirect from to) q in
      argument_of s (bytes "redirect") i p e (Term.Redirect from to) k from to (subst (EndsRight (part s p e)) k.token (token_ends (part s p e)))

  pub explanation_argument : read_term s i ≡ term_at p e (Term.Explanation from to) → Argument s (bytes "exp") p e from to
  explanation_argument q =
      let k = stands s i p e (Term.Explanation from to) q in
      argument_of s (bytes "exp") i p e (Term.Explanation from to) k from to (subst (EndsRight (part s p e)) k.token (token_ends (part s p e)))
