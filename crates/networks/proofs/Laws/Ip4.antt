-- An ip4-network's text is exactly what is read as one. From the laws of Numbers, Spans and Runs.
use Rattle.std.proofs.Common.{None, Option, Some}
use Prim.Native.Nat.{ℕ, ◌+◌, ◌≤◌}
use mathlib.Core.Path.{◌≡◌, refl, sym, subst, ◌∙◌}
use mathlib.Core.List.{List, [], ◌∷◌, ◌++◌}
use mathlib.Core.Bool.{true, false}
use native.Mathlib.Omega.{arith}
use lib.ListN.{length}
use lib.Dec.{eqb}
use borrow.Author.Tests.{eq-eqb, eqb-true}
use Rattle.text.specs.Bytes.{at, part, is_digit, within}
use Rattle.text.specs.Lists.{all}
use Rattle.text.specs.Decimal.{read_number}
use Rattle.text.specs.Runs.{is_in, run_end}
use Rattle.text.specs.declared.bytes.Class.TheVariants.{Digit}
use Rattle.text.proofs.Laws.Tests.{cond-elim}
use Rattle.text.proofs.Laws.Classes.{past_end, class_tests}
use Rattle.text.proofs.Laws.Spans.{Span, span_join, span_cut, span_byte, span_at, span_word, span_all, span_to_end}
use Rattle.text.proofs.Laws.Runs.{run_span, span_run}
use Rattle.address.specs.Octets.{value_of}
use Rattle.address.specs.declared.Address.{Address}
use Rattle.address.specs.declared.Address.TheVariants.{IPv4}
use Rattle.networks.specs.Grammar.{Qnum, Ip4Network, octets, Network4, of_octets}
use Rattle.networks.specs.Answers.{NetworkAnswer}
use Rattle.networks.specs.Reader.{octet_at, dot_octet_at, read_ip4}
use Rattle.networks.proofs.Laws.Readings.{number-elim, octet-elim, network_answer}
use Rattle.networks.proofs.Laws.Numbers.{number_digits, number_limit, number_read, number_made, qnum_number, number_qnum}

-- a qnum's digits and its bound
qnum_digits : {w : List ℕ} {v : ℕ} → Qnum w v → all (is_in Digit) w ≡ true
qnum_digits {w} q = class_tests Digit w ∙ number_digits (qnum_number q)

pub qnum_small : {w : List ℕ} {v : ℕ} → Qnum w v → v ≤ 255
qnum_small q = number_limit (qnum_number q)

-- what was read as an octet
record Found (s : List ℕ) (i o j : ℕ) : Type 0 where
  qnum : Qnum (part s i j) o
  span : Span s i j (part s i j)

abbrev OctetRight : List ℕ → ℕ → Option (ℕ × ℕ) → Type 0
OctetRight s i (Some x) = Found s i x.0 x.1
OctetRight s i None = Unit {0}

octet_right : (s : List ℕ) (i : ℕ) → OctetRight s i (octet_at s i)
unfolding octet_at
octet_right s i =
    number-elim (OctetRight s i) (read_number 255 (part s i (run_end (is_in Digit) s i))) (λ o. Some (o, run_end (is_in Digit) s i)) None
    (λ o e. record { qnum = number_qnum (number_made 255 (part s i (run_end (is_in Digit) s i)) o e); span = run_span (is_in Digit) s i })
    (λ _. tt)

octet_found : (s : List ℕ) (i o j : ℕ) → octet_at s i ≡ Some (o, j) → Found s i o j
octet_found s i o j e = subst (OctetRight s i) e (octet_right s i)

-- what was read as a dot and an octet
record DotFound (s : List ℕ) (i o j : ℕ) : Type 0 where
  qnum : Qnum (part s (i + 1) j) o
  span : Span s i j (46 ∷ part s (i + 1) j)

abbrev DotRight : List ℕ → ℕ → Option (ℕ × ℕ) → Type 0
DotRight s i (Some x) = DotFound s i x.0 x.1
DotRight s i None = Unit {0}

dot_found : (s : List ℕ) (i o j : ℕ) → dot_octet_at s i ≡ Some (o, j) → DotFound s i o j
unfolding dot_octet_at
dot_found s i o j e = subst (DotRight s i) e
    (cond-elim (DotRight s i) (eqb (at s i) 46) {x = octet_at s (i + 1)} {y = None} (λ h. after (octet_at s (i + 1)) refl (eqb-true (at s i) 46 h)) (λ _. tt))
  where
    after : (x : Option (ℕ × ℕ)) → octet_at s (i + 1) ≡ x → at s i ≡ 46 → DotRight s i x
    after (Some x) q h =
        let f = octet_found s (i + 1) x.0 x.1 q in
        record { qnum = f.qnum; span = span_join (span_byte s i 45 h) f.span }
    after None q h = tt

-- what was read as an ip4-network: four octets, and the address that they write; the bounds are those that an IPv6 tail's groups need
pub record Ip4Made (s : List ℕ) (address : Address) : Type 0 where
  pub first : ℕ
  pub second : ℕ
  pub third : ℕ
  pub fourth : ℕ
  pub written : Ip4Network s (first ∷ second ∷ third ∷ fourth ∷ [])
  pub value : address ≡ IPv4 (value_of (first ∷ second ∷ third ∷ fourth ∷ []))
  pub third_small : third ≤ 255
  pub fourth_small : fourth ≤ 255

abbrev Ip4Right : List ℕ → Option Address → Type 0
Ip4Right s (Some x) = Ip4Made s x
Ip4Right s None = Unit {0}

four_found : (s : List ℕ) (a b c d i j k l : ℕ) → Found s 0 a i → DotFound s i b j → DotFound s j c k → DotFound s k d l → l ≡ length s
    → Ip4Made s (IPv4 (value_of (a ∷ b ∷ c ∷ d ∷ [])))
four_found s a b c d i j k l p q r t e =
    let w = span_join p.span (span_join q.span (span_join r.span t.span)) in
    let whole = span_to_end l e w in
    record {
      first = a;
      second = b;
      third = c;
      fourth = d;
      written = subst (λ (u : List ℕ). Ip4Network u (a ∷ b ∷ c ∷ d ∷ [])) (sym whole) (octets p.qnum q.qnum r.qnum t.qnum);
      value = refl;
      third_small = qnum_small r.qnum;
      fourth_small = qnum_small t.qnum;
    }

ip4_right : (s : List ℕ) → Ip4Right s (read_ip4 s)
unfolding read_ip4
ip4_right s =
    octet-elim (Ip4Right s) (octet_at s 0) _ None
    (λ a i p. octet-elim (Ip4Right s) (dot_octet_at s i) _ None
    (λ b j q. octet-elim (Ip4Right s) (dot_octet_at s j) _ None
    (λ c k r. octet-elim (Ip4Right s) (dot_octet_at s k) _ None
    (λ d l t. cond-elim (Ip4Right s) (eqb l (length s))
    (λ e. four_found s a b c d i j k l (octet_found s 0 a i p) (dot_found s i b j q) (dot_found s j c k r) (dot_found s k d l t) (eqb-true l (length s) e))
    (λ _. tt))
    (λ _. tt)) (λ _. tt)) (λ _. tt)) (λ _. tt)

pub ip4_made : (s : List ℕ) (a : Address) → read_ip4 s ≡ Some a → Ip4Made s a
ip4_made s a e = subst (Ip4Right s) e (ip4_right s)

pub ip4_sound : (s : List ℕ) (a : Address) → read_ip4 s ≡ Some a → Network4 s a
ip4_sound s a e = let m = ip4_made s a e in subst (Network4 s) (sym m.value) (of_octets m.written)

-- what the grammar makes is read
module _ {s : List ℕ} {i j : ℕ} {w : List ℕ} {o : ℕ} (q : Qnum w o) (stops : is_in Digit (at s j) ≡ false) where
  octet_complete : Span s i j w → octet_at s i ≡ Some (o, j)
  unfolding octet_at
  octet_complete p = simp (span_run (is_in Digit) p (qnum_digits q) stops, span_word p, number_read (qnum_number q))

module _ {s : List ℕ} {i j : ℕ} {w : List ℕ} {o : ℕ} (q : Qnum w o) (stops : is_in Digit (at s j) ≡ false) where
  dot_complete : Span s i j (46 ∷ w) → dot_octet_at s i ≡ Some (o, j)
  unfolding dot_octet_at
  dot_complete p = simp (eq-eqb (at s i) 46 (span_at p), octet_complete q stops (span_cut (46 ∷ []) w p).1)

-- no digit follows before a dot and at the end
dot_stops : {s : List ℕ} {i j : ℕ} {w : List ℕ} → Span s i j (46 ∷ w) → is_in Digit (at s i) ≡ false
unfolding is_in is_digit within
dot_stops p = simp (span_at p)

end_stops : (s : List ℕ) → is_in Digit (at s (length s)) ≡ false
unfolding is_in is_digit within
end_stops s = simp (sym (past_end s (length s) (omega arith)))

pub ip4_octets : {w os : List ℕ} → Ip4Network w os → read_ip4 w ≡ Some (IPv4 (value_of os))
unfolding read_ip4
ip4_octets (octets {p = p} {q = q} {r = r} {s = t} {a = a} {b = b} {c = c} {d = d} qa qb qc qd) =
    let s = p ++ (46 ∷ (q ++ (46 ∷ (r ++ (46 ∷ t))))) in
    let c1 = span_cut p (46 ∷ (q ++ (46 ∷ (r ++ (46 ∷ t))))) (span_all s) in
    let c2 = span_cut (46 ∷ q) (46 ∷ (r ++ (46 ∷ t))) c1.1 in
    let c3 = span_cut (46 ∷ r) (46 ∷ t) c2.1 in
    simp (
      octet_complete qa (dot_stops c1.1) c1.0,
      dot_complete qb (dot_stops c2.1) c2.0,
      dot_complete qc (dot_stops c3.1) c3.0,
      dot_complete qd (end_stops s) c3.1,
      eq-eqb (length s) (length s) refl,
    )

pub ip4_complete : (s : List ℕ) (a : Address) → Network4 s a → read_ip4 s ≡ Some a
ip4_complete s a (of_octets n) = ip4_octets n

-- the answer of `read_ip4`
pub ip4_answer : (s : List ℕ) (r : Option Address) → r ≡ read_ip4 s → (r ≡ read_ip4 s) × NetworkAnswer (Network4 s) r
ip4_answer s r e = (e, subst (NetworkAnswer (Network4 s)) (sym e) (network_answer (Network4 s) (read_ip4 s) (ip4_sound s) (ip4_complete s)))
