-- The domain-spec and the prefix lengths of `a` and `mx`: the lengths begin at the first slash of the trailing run of digits and slashes, since a
-- domain-spec ends in at most digits after another byte. From the laws of domain-specs, of runs and of lengths.
use Rattle.std.proofs.Common.{None, Option, Some}
use Prim.Native.Nat.{ℕ, suc, ◌+◌, ◌≤◌}
use mathlib.Core.Path.{◌≡◌, refl, sym, ap, subst, ◌∙◌}
use mathlib.Core.Logic.{◌⊎◌, inl, inr, ⊎_elim}
use mathlib.Core.List.{List, [], ◌∷◌, ◌++◌, append_assoc}
use mathlib.Core.Bool.{Bool, true, false}
use native.Mathlib.Omega.{arith}
use lib.ListN.{length, length-append, length-drop}
use lib.Seq.{drop-append_seam}
use borrow.Author.Tests.{eq-eqb}
use Rattle.text.specs.Bytes.{at, part, within, is_digit, is_length_byte}
use Rattle.text.specs.Lists.{all}
use Rattle.text.specs.Runs.{is_in, run, run_end, trailing_start}
use Rattle.text.specs.declared.bytes.Class.TheVariants.{Digit, LengthByte}
use Rattle.text.proofs.Laws.Classes.{class_test, class_tests}
use Rattle.text.proofs.Laws.Spans.{Span, span_join, span_cut, span_word, rest_part, span_part}
use Rattle.text.proofs.Laws.Runs.{run_zero, all_run, span_run, run_end_inside, trailing_le, trailing_first}
use Rattle.text.proofs.Laws.Parts.{all_none, all_join, all_inside, one_fails}
use Rattle.networks.specs.Grammar.{DualCidrLength}
use Rattle.networks.specs.Reader.{lengths, read_dual}
use Rattle.networks.specs.declared.Lengths.{Lengths}
use Rattle.networks.proofs.Laws.Lengths.{dual_sound, dual_complete}
use Rattle.networks.proofs.Laws.Plain.{LengthText, dual_text, digit_length}
use Rattle.records.specs.Readings.{Optional}
use Rattle.records.specs.Grammar.{OptionalSpec, without, has_spec}
use Rattle.records.specs.Numbers.{optional}
use Rattle.records.specs.Reader.{spec_at, after_dual, after_hosts, cut_of, hosts_cut, hosts_at, hosts_of}
use Rattle.records.specs.declared.terms.Hosts.{Hosts}
use Rattle.records.proofs.Laws.Specs.{Ending, ending_after, spec_ending, spec_right, Optionally, argument_given, argument_absent, spec_absent, spec_given, spec-elim}

-- a domain-spec with its colon ends as a domain-spec does
optional_ending : {u : List ℕ} {arg : Optional (List ℕ)} → OptionalSpec u arg → (u ≡ []) ⊎ Ending u
optional_ending without = inl refl
optional_ending (has_spec {d = d} s) = inr (ending_after (58 ∷ []) d (spec_ending s))

-- where the trailing run begins
trailing_at : (p : ℕ → Bool) (v : List ℕ) (b : ℕ) (w : List ℕ) → p b ≡ false → all p w ≡ true → trailing_start p (v ++ (b ∷ w)) ≡ suc (length v)
unfolding trailing_start
trailing_at p [] b w n h = simp (one_fails p [] b w n) (ap suc (let z = trailing_first p w 0 h in omega arith))
trailing_at p (x ∷ v) b w n h = simp (one_fails p (x ∷ v) b w n) (ap suc (trailing_at p v b w n h))

-- what follows the digits is no digit
length_bytes : {l : List ℕ} → LengthText l → all (is_in LengthByte) l ≡ true
length_bytes {l} t = class_tests LengthByte l ∙ t.bytes

lengths_all : (w : List ℕ) → all is_digit w ≡ true → all (is_in LengthByte) w ≡ true
lengths_all w h = class_tests LengthByte w ∙ all_inside is_digit is_length_byte digit_length w h

length_begins : {l : List ℕ} → LengthText l → is_in Digit (at l 0) ≡ false
unfolding is_in is_digit within
length_begins t = ⊎_elim (λ e. ap (λ (x : List ℕ). is_in Digit (at x 0)) e) (λ e. ap (is_in Digit) e) t.begins

-- where the lengths begin
cut_nothing : {l : List ℕ} → LengthText l → cut_of l ≡ 0
unfolding cut_of
cut_nothing {l} t =
    let z : trailing_start (is_in LengthByte) l ≡ 0 = let k = trailing_first (is_in LengthByte) l 0 (length_bytes t) in omega arith in
    ap (run_end (is_in Digit) l) z ∙ span_run (is_in Digit) {u = []} (record { split = refl; size = refl }) (all_none (is_in Digit)) (length_begins t)

digits_end : (v w l : List ℕ) → all is_digit w ≡ true → is_in Digit (at l 0) ≡ false → run_end (is_in Digit) (v ++ (w ++ l)) (length v) ≡ length v + length w
unfolding run_end
digits_end v w l h n =
    ap (λ (x : List ℕ). length v + run (is_in Digit) x) (drop-append_seam v (w ++ l))
    ∙ ap (λ (k : ℕ). length v + k) (all_run (is_in Digit) w l (class_tests Digit w ∙ h) (run_zero (is_in Digit) l n))

cut_ending : {u l : List ℕ} → Ending u → LengthText l → cut_of (u ++ l) ≡ length u
unfolding cut_of
cut_ending {u} {l} e t =
    let v = e.front ++ (e.byte ∷ []) in
    let n : suc (length e.front) ≡ length v = omega (arith, length-append e.front (e.byte ∷ [])) in
    let parts : u ++ l ≡ e.front ++ (e.byte ∷ (e.digits ++ l)) = ap (λ (x : List ℕ). x ++ l) e.parts ∙ append_assoc e.front (e.byte ∷ e.digits) l in
    let whole : u ++ l ≡ v ++ (e.digits ++ l) = parts ∙ sym (append_assoc e.front (e.byte ∷ []) (e.digits ++ l)) in
    let start : trailing_start (is_in LengthByte) (u ++ l) ≡ length v =
    ap (trailing_start (is_in LengthByte)) parts
    ∙ trailing_at (is_in LengthByte) e.front e.byte (e.digits ++ l) (class_test LengthByte e.byte ∙ e.outside)
    (all_join (is_in LengthByte) e.digits l (lengths_all e.digits e.inside) (length_bytes t))
    ∙ n in
    ap (run_end (is_in Digit) (u ++ l)) start
    ∙ ap (λ (x : List ℕ). run_end (is_in Digit) x (length v)) whole
    ∙ digits_end v e.digits l e.inside (length_begins t)
    ∙ omega (arith, n, ap length e.parts, length-append e.front (e.byte ∷ e.digits))

pub cut_is : {u l : List ℕ} {arg : Optional (List ℕ)} → OptionalSpec u arg → LengthText l → cut_of (u ++ l) ≡ length u
cut_is {u} {l} s t = ⊎_elim
    (λ (e : u ≡ []). ap (λ (x : List ℕ). cut_of (x ++ l)) e ∙ cut_nothing t ∙ sym (ap length e))
    (λ (e : Ending u). cut_ending e t)
    (optional_ending s)

pub cut_inside : (t : List ℕ) → cut_of t ≤ length t
unfolding cut_of
cut_inside t = run_end_inside (is_in Digit) t (trailing_start (is_in LengthByte) t) (trailing_le (is_in LengthByte) t)

pub cut_after : (w : List ℕ) (k : ℕ) → k ≤ length w → k + cut_of (part w k (length w)) ≤ length w
cut_after w k h = omega (arith, cut_inside (part w k (length w)), ap length (rest_part w k), length-drop k w)

-- the ways out of the lengths, and of both together
pub dual-elim {κ} : {A : Type 0} (P : A → Type κ) (x : Option Lengths) (f : ℕ → ℕ → A) (z : A)
    → ((n m : ℕ) → x ≡ Some (lengths n m) → P (f n m)) → (x ≡ None → P z) → P (after_dual x f z)
dual-elim P (Some d) f z g h = g d.four d.six refl
dual-elim P None f z g h = h refl

pub hosts-elim {κ} : {A : Type 0} (P : A → Type κ) (x : Option Hosts) (f : ℕ → ℕ → ℕ → ℕ → A) (z : A)
    → ((from to n m : ℕ) → x ≡ Some (hosts_of from to n m) → P (f from to n m)) → (x ≡ None → P z) → P (after_hosts x f z)
hosts-elim P (Some x) f z g h = g x.domain.from x.domain.to x.lengths.four x.lengths.six refl
hosts-elim P None f z g h = h refl

-- what is read is a domain-spec, or none, and the lengths
pub record HostsMade (w : List ℕ) (k from to n m : ℕ) : Type 0 where
  pub argument : List ℕ
  pub lengths : List ℕ
  pub span : Span w k (length w) (argument ++ lengths)
  pub made : OptionalSpec argument (optional w from to)
  pub sized : DualCidrLength lengths n m

abbrev pub HostsRight : List ℕ → ℕ → Option Hosts → Type 0
HostsRight w k (Some x) = HostsMade w k x.domain.from x.domain.to x.lengths.four x.lengths.six
HostsRight w k None = Unit {0}

module _ (w : List ℕ) (k cut : ℕ) (after : k ≤ cut) (inside : cut ≤ length w) where
  hosts_made : (from to n m : ℕ) → Optionally w k cut from to → read_dual (part w cut (length w)) ≡ Some (lengths n m) → HostsMade w k from to n m
  hosts_made from to n m a d = record {
    argument = a.word;
    lengths = part w cut (length w);
    span = span_join a.span (span_part w cut (length w) inside (omega arith));
    made = a.made;
    sized = dual_sound (part w cut (length w)) n m d;
  }

  hosts_cut_sound : HostsRight w k (hosts_cut w k cut)
  unfolding hosts_cut
  hosts_cut_sound =
      dual-elim (HostsRight w k) (read_dual (part w cut (length w))) _ None
      (λ n m d. spec-elim (HostsRight w k) (spec_at w k cut) (λ from. Some (hosts_of from cut n m)) (Some (hosts_of cut cut n m)) None
      (λ from e. hosts_made from cut n m (argument_given w k cut from (spec_right w k cut after inside e)) d)
      (λ e. hosts_made cut cut n m (argument_absent w k cut (spec_right w k cut after inside e)) d)
      (λ _. tt))
      (λ _. tt)

pub hosts_sound : (w : List ℕ) (k : ℕ) → k ≤ length w → HostsRight w k (hosts_at w k)
unfolding hosts_at
hosts_sound w k h = hosts_cut_sound w k (k + cut_of (part w k (length w))) (omega arith) (cut_after w k h)

pub hosts_right : (w : List ℕ) (k : ℕ) → k ≤ length w → {x : Option Hosts} → hosts_at w k ≡ x → HostsRight w k x
hosts_right w k h e = subst (HostsRight w k) e (hosts_sound w k h)

-- what is produced is read
pub record HostsRead (w : List ℕ) (k : ℕ) (arg : Optional (List ℕ)) (n m : ℕ) : Type 0 where
  pub from : ℕ
  pub to : ℕ
  pub read : hosts_at w k ≡ Some (hosts_of from to n m)
  pub says : optional w from to ≡ arg

cut_complete : {u l : List ℕ} {arg : Optional (List ℕ)} {n m : ℕ} → OptionalSpec u arg → DualCidrLength l n m → (w : List ℕ) (k cut : ℕ)
    → Span w k cut u → Span w cut (length w) l → hosts_at w k ≡ hosts_cut w k cut → HostsRead w k arg n m
unfolding hosts_cut
cut_complete {l = l} {n = n} {m = m} without d w k cut p q e = record {
  from = cut;
  to = cut;
  read = e ∙ simp (span_word q, dual_complete l n m d, spec_absent p);
  says = simp (eq-eqb cut cut refl);
}
cut_complete {l = l} {n = n} {m = m} (has_spec s) d w k cut p q e =
    let g = spec_given s p in
    record {
      from = k + 1;
      to = cut;
      read = e ∙ simp (span_word q, dual_complete l n m d, g.read);
      says = simp (g.some, g.says);
    }

pub hosts_complete : {u l : List ℕ} {arg : Optional (List ℕ)} {n m : ℕ} → OptionalSpec u arg → DualCidrLength l n m → (w : List ℕ) (k : ℕ)
    → Span w k (length w) (u ++ l) → HostsRead w k arg n m
unfolding hosts_at
hosts_complete {u} {l} s d w k p =
    let c = span_cut u l p in
    let e : cut_of (part w k (length w)) ≡ length u = ap cut_of (span_word p) ∙ cut_is s (dual_text d) in
    cut_complete s d w k (k + length u) c.0 c.1 (ap (λ (n : ℕ). hosts_cut w k (k + n)) e)
