-- The argument of `ip4` and `ip6`: a network up to the first slash, and a prefix length from there on, since a network holds no slash and a length
-- begins with one. Said once for both families; from the laws of networks, of lengths and of runs.
use Rattle.std.proofs.Common.{None, Option, Some}
use Prim.Native.Nat.{ℕ, ◌+◌}
use mathlib.Core.Path.{◌≡◌, refl, sym, ap, subst, ◌∙◌}
use mathlib.Core.Logic.{⊎_elim}
use mathlib.Core.List.{List, [], ◌∷◌, ◌++◌, append-nil}
use mathlib.Core.Bool.{true, false}
use native.Mathlib.Omega.{arith}
use lib.ListN.{length}
use lib.Dec.{eqb}
use borrow.Author.Tests.{eq-eqb, eqb-true}
use Rattle.address.specs.declared.Address.{Address}
use Rattle.text.specs.Bytes.{at, part, is_not_slash}
use Rattle.text.specs.Lists.{all}
use Rattle.text.specs.Texts.{bytes}
use Rattle.text.specs.Runs.{is_in, run_end}
use Rattle.text.specs.declared.bytes.Class.TheVariants.{NotSlash}
use Rattle.text.proofs.Laws.Tests.{cond-elim}
use Rattle.text.proofs.Laws.Classes.{nonzero_inside, class_tests}
use Rattle.text.proofs.Laws.Spans.{Span, span_join, span_cut, span_byte, span_at, span_word, span_part}
use Rattle.text.proofs.Laws.Runs.{span_run, span_run_end, run_end_from, run_end_inside}
use Rattle.networks.specs.Grammar.{Network4, Network6, Length4, Length6}
use Rattle.networks.specs.Reader.{read_ip4, read_length4, read_length6}
use Rattle.networks.specs.Reader6.{read_ip6}
use Rattle.networks.proofs.Laws.Readings.{length-elim}
use Rattle.networks.proofs.Laws.Ip4.{ip4_sound, ip4_complete}
use Rattle.networks.proofs.Laws.Ip6.{ip6_sound, ip6_complete}
use Rattle.networks.proofs.Laws.Lengths.{length4_sound, length4_complete, length6_sound, length6_complete}
use Rattle.networks.proofs.Laws.Plain.{Plain, LengthText, network4_plain, network6_plain, network4_family, network6_family, length_text_lem}
use Rattle.records.specs.Readings.{Said, network4, network6}
use Rattle.records.specs.Grammar.{Literal, Mechanism}
use Rattle.records.specs.Numbers.{network_said}
use Rattle.records.specs.Reader.{after_network, network_term, network_cut, network_by}
use Rattle.records.specs.declared.Term.{Term}
use Rattle.records.proofs.Laws.Names.{last_at}

-- the ways out of a network
pub network-elim {κ} : {A : Type 0} (P : A → Type κ) (x : Option Address) (f : Address → A) (z : A)
    → ((a : Address) → x ≡ Some a → P (f a)) → P z → P (after_network x f z)
network-elim P (Some a) f z g h = g a refl
network-elim P None f z g h = h

-- a family: its mechanism's name, what such a term says, its networks and lengths as productions, and their readers
pub record Family : Type 1 where
  pub name : List ℕ
  pub shape : ℕ → List ℕ → Address → ℕ → Said
  pub Net : List ℕ → Address → Type 0
  pub Size : List ℕ → ℕ → Type 0
  pub read : List ℕ → Option Address
  pub size : List ℕ → Option ℕ
  pub sound : (s : List ℕ) (x : Address) → read s ≡ Some x → Net s x
  pub complete : (s : List ℕ) (x : Address) → Net s x → read s ≡ Some x
  pub size_sound : (s : List ℕ) (n : ℕ) → size s ≡ Some n → Size s n
  pub size_complete : (s : List ℕ) (n : ℕ) → Size s n → size s ≡ Some n
  pub plain : {w : List ℕ} {x : Address} → Net w x → Plain w
  pub text : {l : List ℕ} {n : ℕ} → Size l n → LengthText l
  pub said : (sign : ℕ) (t : List ℕ) (x : Address) (n : ℕ) → Net t x → network_said sign t x n ≡ shape sign t x n
  pub made : {sign : ℕ} {w t l : List ℕ} {x : Address} {n : ℕ} → Literal name w → Net t x → Size l n
      → Mechanism sign (w ++ (58 ∷ (t ++ l))) (shape sign t x n)

-- what a network says, by the family of its address
pub said4 : (sign : ℕ) (t : List ℕ) (x : Address) (n : ℕ) → Network4 t x → network_said sign t x n ≡ network4 (bytes "ip4") sign t x n
said4 sign t x n d =
    let f = network4_family d in
    subst (λ (y : Address). network_said sign t y n ≡ network4 (bytes "ip4") sign t y n) (sym f.1) refl

pub said6 : (sign : ℕ) (t : List ℕ) (x : Address) (n : ℕ) → Network6 t x → network_said sign t x n ≡ network6 (bytes "ip6") sign t x n
said6 sign t x n d =
    let f = network6_family d in
    subst (λ (y : Address). network_said sign t y n ≡ network6 (bytes "ip6") sign t y n) (sym f.2) refl

abbrev pub four : Family
four = record {
  name = bytes "ip4";
  shape = network4 (bytes "ip4");
  Net = Network4;
  Size = Length4;
  read = read_ip4;
  size = read_length4;
  sound = ip4_sound;
  complete = ip4_complete;
  size_sound = length4_sound;
  size_complete = length4_complete;
  plain = λ d. network4_plain d;
  text = λ d. length_text_lem d;
  said = said4;
  made = λ l d e. Mechanism.ip4 l d e;
}

abbrev pub six : Family
six = record {
  name = bytes "ip6";
  shape = network6 (bytes "ip6");
  Net = Network6;
  Size = Length6;
  read = read_ip6;
  size = read_length6;
  sound = ip6_sound;
  complete = ip6_complete;
  size_sound = length6_sound;
  size_complete = length6_complete;
  plain = λ d. network6_plain d;
  text = λ d. length_text_lem d;
  said = said6;
  made = λ l d e. Mechanism.ip6 l d e;
}

-- what is read is a network and a length
pub record NetworkMade (f : Family) (w : List ℕ) (k from to : ℕ) (x : Address) (n : ℕ) : Type 0 where
  pub lengths : List ℕ
  pub span : Span w k (length w) (58 ∷ (part w from to ++ lengths))
  pub made : f.Net (part w from to) x
  pub sized : f.Size lengths n

pub network_sound : (f : Family) (P : Option Term → Type 0) (sign k : ℕ) (w : List ℕ)
    → ((from to : ℕ) (x : Address) (n : ℕ) → NetworkMade f w k from to x n → P (Some (Term.Network sign from to x n))) → P None
    → P (network_by f.read f.size sign k w)
unfolding network_by network_cut network_term
network_sound f P sign k w g z =
    let slash = run_end (is_in NotSlash) w (k + 1) in
    cond-elim P (eqb (at w k) 58) {x = network_cut f.read f.size sign (k + 1) w slash} {y = None}
    (λ c.
    let b = eqb-true (at w k) 58 c in
    let i = nonzero_inside w k (λ e. omega (arith, b, e)) in
    let h = run_end_inside (is_in NotSlash) w (k + 1) (omega arith) in
    network-elim P (f.read (part w (k + 1) slash)) _ None
    (λ x d. length-elim P (f.size (part w slash (length w))) (λ n. Some (Term.Network sign (k + 1) slash x n)) None
    (λ n e. g (k + 1) slash x n (record {
      lengths = part w slash (length w);
      span = span_join (span_byte w k 57 b)
          (span_join (span_part w (k + 1) slash (run_end_from (is_in NotSlash) w (k + 1)) h) (span_part w slash (length w) h (omega arith)));
      made = f.sound (part w (k + 1) slash) x d;
      sized = f.size_sound (part w slash (length w)) n e;
    }))
    (λ _. z))
    z)
    (λ _. z)

-- what is produced is read
pub record NetworkRead (token : Option Term) (sign : ℕ) (w t : List ℕ) (x : Address) (n : ℕ) : Type 0 where
  pub from : ℕ
  pub to : ℕ
  pub read : token ≡ Some (Term.Network sign from to x n)
  pub says : part w from to ≡ t

pub slash_stops : is_in NotSlash 47 ≡ false
unfolding is_in is_not_slash
slash_stops = refl

-- the first slash is where the length begins
slash_end : (t l : List ℕ) {w : List ℕ} {i : ℕ} → all is_not_slash t ≡ true → LengthText l → Span w i (length w) (t ++ l) → run_end (is_in NotSlash) w i ≡ i + length t
slash_end t l {w} {i} h k p =
    let c = span_cut t l p in
    ⊎_elim
    (λ (e : l ≡ []).
    let q : Span w i (length w) t = subst (λ (x : List ℕ). Span w i (length w) x) (ap (λ (x : List ℕ). t ++ x) e ∙ append-nil t) p in
    span_run_end (is_in NotSlash) q (class_tests NotSlash t ∙ h) ∙ q.size)
    (λ (e : at l 0 ≡ 47). span_run (is_in NotSlash) c.0 (class_tests NotSlash t ∙ h) (ap (is_in NotSlash) (last_at l c.1 ∙ e) ∙ slash_stops))
    k.begins

pub network_complete : (f : Family) (sign : ℕ) {w t l : List ℕ} {k : ℕ} {x : Address} {n : ℕ} → f.Net t x → f.Size l n
    → Span w k (length w) (58 ∷ (t ++ l)) → NetworkRead (network_by f.read f.size sign k w) sign w t x n
unfolding network_by network_cut network_term
network_complete f sign {w} {t} {l} {k} {x} {n} d e p =
    let q = (span_cut (58 ∷ []) (t ++ l) p).1 in
    let c = span_cut t l q in
    record {
      from = k + 1;
      to = k + 1 + length t;
      read = simp (
        eq-eqb (at w k) 58 (span_at p),
        slash_end t l (f.plain d).no_slash (f.text e) q,
        span_word c.0,
        span_word c.1,
        f.complete t x d,
        f.size_complete l n e,
      );
      says = span_word c.0;
    }
