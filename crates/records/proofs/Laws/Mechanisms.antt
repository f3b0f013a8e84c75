-- One mechanism after its qualifier: what is read is produced, what is produced is read, and it holds no space. From the laws of names, of
-- domain-specs, of hosts and of networks.
use Rattle.std.proofs.Common.{None, Option, Some}
use Prim.Native.Nat.{ℕ, ◌+◌, ◌≤◌}
use mathlib.Core.Path.{◌≡◌, refl, sym, ap, subst, ◌∙◌}
use mathlib.Core.Logic.{⊎_elim}
use mathlib.Core.List.{List, [], ◌∷◌, ◌++◌, append-nil}
use mathlib.Core.Bool.{true, false}
use native.Mathlib.Omega.{arith}
use lib.ListN.{length}
use lib.Dec.{eqb}
use borrow.Author.Tests.{eq-eqb, eqb-true}
use Rattle.address.specs.declared.Address.{Address}
use Rattle.text.specs.Bytes.{at, part, within, is_upper, is_alpha, is_digit, is_alphanumeric, is_name_byte, is_length_byte, is_not_space}
use Rattle.text.specs.Lists.{all}
use Rattle.text.specs.Texts.{bytes}
use Rattle.text.specs.Runs.{is_in, run_end}
use Rattle.text.specs.declared.bytes.Class.TheVariants.{NameByte}
use Rattle.text.proofs.Laws.Tests.{cond-elim}
use Rattle.text.proofs.Laws.Spans.{Span, span_join, span_word}
use Rattle.text.proofs.Laws.Runs.{run_span, run_end_inside}
use Rattle.text.proofs.Laws.Parts.{all_none, all_join}
use Rattle.macros.specs.Grammar.{Piece, DomainSpec}
use Rattle.networks.proofs.Laws.Plain.{LengthText, dual_text}
use Rattle.records.specs.Readings.{Optional, absent, present, Said, mechanism, hosts}
use Rattle.records.specs.Grammar.{Literal, OptionalSpec, without, has_spec, Mechanism}
use Rattle.records.specs.Numbers.{optional, said_of}
use Rattle.records.specs.Reader.{kind_of, spec_at, hosts_at, all_of, with_spec, ptr_of, with_hosts, network_by, mechanism_by, mechanism_of}
use Rattle.records.specs.declared.terms.Kind.{Kind}
use Rattle.records.specs.declared.Term.{Term}
use Rattle.records.proofs.Laws.Names.{Word, literal_word, KindRight, kind_sound, Known, all_known, include_known, a_known, mx_known, ptr_known, ip4_known, ip6_known, exists_known, name_at, Unreserved}
use Rattle.records.proofs.Laws.Specs.{solid_one, solid_bytes, solid_spec, Argument, spec_right, Optionally, argument_given, argument_absent, spec_absent, spec_given, spec-elim}
use Rattle.records.proofs.Laws.Hosts.{hosts-elim, HostsMade, hosts_right, HostsRead, hosts_complete}
use Rattle.records.proofs.Laws.Networks.{Family, four, six, network_sound, network_complete}

-- what is read from i on is a mechanism
pub record MechanismMade (w : List ℕ) (i sign : ℕ) (t : Term) : Type 0 where
  pub word : List ℕ
  pub span : Span w i (length w) word
  pub made : Mechanism sign word (said_of w t)
  pub other : Unreserved w t

abbrev pub MechanismRight : List ℕ → ℕ → ℕ → Option Term → Type 0
MechanismRight w i sign (Some t) = MechanismMade w i sign t
MechanismRight w i sign None = Unit {0}

-- each mechanism, with its name from i up to k
module _ (w : List ℕ) (i k sign : ℕ) (p : Span w i k (part w i k)) (inside : k ≤ length w) where
  all_sound : Literal (bytes "all") (part w i k) → MechanismRight w i sign (all_of sign k w)
  unfolding all_of said_of
  all_sound l = cond-elim (MechanismRight w i sign) (eqb k (length w)) {x = Some (Term.All sign)} {y = None}
      (λ e. record {
        word = part w i k;
        span = subst (λ (n : ℕ). Span w i n (part w i k)) (eqb-true k (length w) e) p;
        made = Mechanism.all_term l;
        other = tt;
      })
      (λ _. tt)

  -- `include` and `exists`: a domain-spec, by the mechanism's production
  spec_sound : (term : ℕ → ℕ → Term) → ((from to : ℕ) → Unreserved w (term from to))
      → ((from : ℕ) → Argument w k (length w) from → Mechanism sign (part w i k ++ (58 ∷ part w from (length w))) (said_of w (term from (length w))))
      → MechanismRight w i sign (with_spec term k w)
  unfolding with_spec
  spec_sound term other made =
      spec-elim (MechanismRight w i sign) (spec_at w k (length w)) (λ from. Some (term from (length w))) None None
      (λ from e.
      let a = spec_right w k (length w) inside (omega arith) e in
      record {
        word = part w i k ++ (58 ∷ part w from (length w));
        span = span_join p a.span;
        made = made from a;
        other = other from (length w);
      })
      (λ _. tt) (λ _. tt)

  ptr_made : Literal (bytes "ptr") (part w i k) → (from : ℕ) → Optionally w k (length w) from (length w) → MechanismMade w i sign (Term.Ptr sign from (length w))
  unfolding said_of
  ptr_made l from a = record {
    word = part w i k ++ a.word;
    span = span_join p a.span;
    made = Mechanism.ptr {w = part w i k} l a.made;
    other = tt;
  }

  ptr_sound : Literal (bytes "ptr") (part w i k) → MechanismRight w i sign (ptr_of sign k w)
  unfolding ptr_of
  ptr_sound l =
      spec-elim (MechanismRight w i sign) (spec_at w k (length w)) (λ from. Some (Term.Ptr sign from (length w)))
      (Some (Term.Ptr sign (length w) (length w))) None
      (λ from e. ptr_made l from (argument_given w k (length w) from (spec_right w k (length w) inside (omega arith) e)))
      (λ e. ptr_made l (length w) (argument_absent w k (length w) (spec_right w k (length w) inside (omega arith) e)))
      (λ _. tt)

  -- `a` and `mx`: a domain-spec or none, and both lengths
  hosts_sound : (term : ℕ → ℕ → ℕ → ℕ → Term) → ((from to n m : ℕ) → Unreserved w (term from to n m))
      → ((from to n m : ℕ) (h : HostsMade w k from to n m) → Mechanism sign (part w i k ++ (h.argument ++ h.lengths)) (said_of w (term from to n m)))
      → MechanismRight w i sign (with_hosts term k w)
  unfolding with_hosts
  hosts_sound term other made =
      hosts-elim (MechanismRight w i sign) (hosts_at w k) (λ from to n m. Some (term from to n m)) None
      (λ from to n m e.
      let h = hosts_right w k inside e in
      record {
        word = part w i k ++ (h.argument ++ h.lengths);
        span = span_join p h.span;
        made = made from to n m h;
        other = other from to n m;
      })
      (λ _. tt)

  -- `ip4` and `ip6`: a network and its length
  address_sound : (f : Family) → Literal f.name (part w i k) → MechanismRight w i sign (network_by f.read f.size sign k w)
  unfolding said_of
  address_sound f l = network_sound f (MechanismRight w i sign) sign k w
      (λ from to x n d. record {
        word = part w i k ++ (58 ∷ (part w from to ++ d.lengths));
        span = span_join p d.span;
        made = rw (f.said sign (part w from to) x n d.made) (f.made {w = part w i k} l d.made d.sized);
        other = tt;
      })
      tt

  by_kind : (kind : Option Kind) → KindRight (part w i k) kind → MechanismRight w i sign (mechanism_by kind sign k w)
  unfolding mechanism_by said_of
  by_kind (Some Kind.All) l = all_sound l
  by_kind (Some Kind.Include) l = spec_sound (Term.Include sign) (λ from to. tt) (λ from a. Mechanism.include {w = part w i k} l a.made)
  by_kind (Some Kind.A) l = hosts_sound (Term.A sign) (λ from to n m. tt) (λ from to n m h. Mechanism.a {w = part w i k} l h.made h.sized)
  by_kind (Some Kind.Mx) l = hosts_sound (Term.Mx sign) (λ from to n m. tt) (λ from to n m h. Mechanism.mx {w = part w i k} l h.made h.sized)
  by_kind (Some Kind.Ptr) l = ptr_sound l
  by_kind (Some Kind.Ip4) l = address_sound four l
  by_kind (Some Kind.Ip6) l = address_sound six l
  by_kind (Some Kind.Exists) l = spec_sound (Term.Exists sign) (λ from to. tt) (λ from a. Mechanism.exists {w = part w i k} l a.made)
  by_kind None l = tt

pub mechanism_sound : (sign i : ℕ) (w : List ℕ) → i ≤ length w → MechanismRight w i sign (mechanism_of sign i w)
unfolding mechanism_of
mechanism_sound sign i w h =
    let k = run_end (is_in NameByte) w i in
    by_kind w i k sign (run_span (is_in NameByte) w i) (run_end_inside (is_in NameByte) w i h) (kind_of (part w i k)) (kind_sound (part w i k))

-- what follows the name of a mechanism: no byte of a name, and no `=`
record Stops (b : ℕ) : Type 0 where
  no_name : is_name_byte b ≡ false
  no_equals : eqb b 61 ≡ false

end_stops : Stops 0
unfolding is_name_byte is_alphanumeric is_alpha is_upper is_digit within
end_stops = record { no_name = refl; no_equals = refl }

colon_stops : Stops 58
unfolding is_name_byte is_alphanumeric is_alpha is_upper is_digit within
colon_stops = record { no_name = refl; no_equals = refl }

slash_stops : Stops 47
unfolding is_name_byte is_alphanumeric is_alpha is_upper is_digit within
slash_stops = record { no_name = refl; no_equals = refl }

length_stops : {l : List ℕ} → LengthText l → Stops (at l 0)
length_stops t = ⊎_elim
    (λ e. subst (λ (x : List ℕ). Stops (at x 0)) (sym e) end_stops)
    (λ e. subst Stops (sym e) slash_stops)
    t.begins

optional_stops : {u : List ℕ} {arg : Optional (List ℕ)} → OptionalSpec u arg → (l : List ℕ) → Stops (at l 0) → Stops (at (u ++ l) 0)
optional_stops without l h = h
optional_stops (has_spec s) l h = colon_stops

-- what is produced is read, and the reader takes it for a mechanism
pub record MechanismRead (w : List ℕ) (i sign : ℕ) (x : Said) : Type 0 where
  pub term : Term
  pub read : mechanism_of sign i w ≡ Some term
  pub says : said_of w term ≡ x
  pub letter : is_alpha (at w i) ≡ true
  pub plain : eqb (at w (run_end (is_in NameByte) w i)) 61 ≡ false

-- from what its kind reads after its name
record After (token : Option Term) (w : List ℕ) (x : Said) : Type 0 where
  term : Term
  read : token ≡ Some term
  says : said_of w term ≡ x

module _ {w name u rest : List ℕ} {i sign : ℕ} {x : Said} {kind : Option Kind} (known : Known name kind) (l : Literal name u) (stops : Stops (at rest 0))
    (p : Span w i (length w) (u ++ rest)) where
  read_by : ((k : ℕ) → Span w k (length w) rest → After (mechanism_by kind sign k w) w x) → MechanismRead w i sign x
  unfolding mechanism_of
  read_by f =
      let r = name_at (literal_word known.word l) p stops.no_name in
      let a = f (i + length u) r.after in
      record {
        term = a.term;
        read = simp (r.ends, span_word r.front, known.is u l) a.read;
        says = a.says;
        letter = r.first;
        plain = simp (r.ends, r.follows) stops.no_equals;
      }

span_nothing : {w : List ℕ} {i j : ℕ} {u : List ℕ} → Span w i j u → Span w i j (u ++ [])
span_nothing {w} {i} {j} {u} p = subst (λ (t : List ℕ). Span w i j t) (sym (append-nil u)) p

all_after : {w : List ℕ} {k : ℕ} (sign : ℕ) → Span w k (length w) [] → After (all_of sign k w) w (mechanism (bytes "all") sign absent)
unfolding all_of said_of
all_after {w} {k} sign p = record { term = Term.All sign; read = simp (eq-eqb k (length w) (omega (arith, p.size))); says = refl }

spec_after : {w d : List ℕ} {k : ℕ} {ps : List Piece} (term : ℕ → ℕ → Term) (say : List ℕ → Said)
    → said_of w (term (k + 1) (length w)) ≡ say (part w (k + 1) (length w)) → DomainSpec d ps → Span w k (length w) (58 ∷ d)
    → After (with_spec term k w) w (say d)
unfolding with_spec
spec_after {w} {d} {k} term say e s p =
    let g = spec_given s p in
    record { term = term (k + 1) (length w); read = simp g.read; says = e ∙ ap say g.says }

ptr_after : {w u : List ℕ} {k : ℕ} {arg : Optional (List ℕ)} (sign : ℕ) → OptionalSpec u arg → Span w k (length w) u
    → After (ptr_of sign k w) w (mechanism (bytes "ptr") sign arg)
unfolding ptr_of said_of
ptr_after {w} {k = k} sign without p =
    record { term = Term.Ptr sign (length w) (length w); read = simp (spec_absent p); says = simp (eq-eqb (length w) (length w) refl) }
ptr_after {w} {k = k} sign (has_spec s) p =
    let g = spec_given s p in
    record { term = Term.Ptr sign (k + 1) (length w); read = simp g.read; says = simp (g.some, g.says) }

hosts_after : {w : List ℕ} {k n m : ℕ} {arg : Optional (List ℕ)} (term : ℕ → ℕ → ℕ → ℕ → Term) (say : Optional (List ℕ) → Said)
    → ((from to : ℕ) → said_of w (term from to n m) ≡ say (optional w from to)) → HostsRead w k arg n m → After (with_hosts term k w) w (say arg)
unfolding with_hosts
hosts_after {n = n} {m = m} term say e h =
    record { term = term h.from h.to n m; read = simp h.read; says = e h.from h.to ∙ ap say h.says }

address_after : (f : Family) {w t l : List ℕ} {k : ℕ} {x : Address} {n : ℕ} (sign : ℕ) → f.Net t x → f.Size l n → Span w k (length w) (58 ∷ (t ++ l))
    → After (network_by f.read f.size sign k w) w (f.shape sign t x n)
unfolding said_of
address_after f {t = t} {x = x} {n = n} sign d e p =
    let r = network_complete f sign d e p in
    record { term = Term.Network sign r.from r.to x n; read = r.read; says = rw r.says (f.said sign t x n d) }

pub mechanism_complete : {sign : ℕ} {u : List ℕ} {x : Said} → Mechanism sign u x → (w : List ℕ) (i : ℕ) → Span w i (length w) u → MechanismRead w i sign x
unfolding mechanism_by said_of
mechanism_complete {sign} (Mechanism.all_term l) w i p = read_by all_known l end_stops (span_nothing p) (λ k q. all_after sign q)
mechanism_complete {sign} (Mechanism.include l s) w i p =
    read_by include_known l colon_stops p (λ k q. spec_after (Term.Include sign) (λ d. mechanism (bytes "include") sign (present d)) refl s q)
mechanism_complete {sign} (Mechanism.a {l = z} {n = n} {m = m} l s d) w i p =
    read_by a_known l (optional_stops s z (length_stops (dual_text d))) p
    (λ k q. hosts_after (Term.A sign) (λ arg. hosts (bytes "a") sign arg n m) (λ from to. refl) (hosts_complete s d w k q))
mechanism_complete {sign} (Mechanism.mx {l = z} {n = n} {m = m} l s d) w i p =
    read_by mx_known l (optional_stops s z (length_stops (dual_text d))) p
    (λ k q. hosts_after (Term.Mx sign) (λ arg. hosts (bytes "mx") sign arg n m) (λ from to. refl) (hosts_complete s d w k q))
mechanism_complete {sign} (Mechanism.ptr {u = u} l s) w i p =
    read_by ptr_known l (subst (λ (t : List ℕ). Stops (at t 0)) (append-nil u) (optional_stops s [] end_stops)) p (λ k q. ptr_after sign s q)
mechanism_complete {sign} (Mechanism.ip4 l d e) w i p = read_by ip4_known l colon_stops p (λ k q. address_after four sign d e q)
mechanism_complete {sign} (Mechanism.ip6 l d e) w i p = read_by ip6_known l colon_stops p (λ k q. address_after six sign d e q)
mechanism_complete {sign} (Mechanism.exists l s) w i p =
    read_by exists_known l colon_stops p (λ k q. spec_after (Term.Exists sign) (λ d. mechanism (bytes "exists") sign (present d)) refl s q)

-- a mechanism holds no space
solid_name : {u : List ℕ} → Word u → all is_not_space u ≡ true
unfolding is_name_byte is_alphanumeric is_alpha is_upper is_digit within
solid_name {u} k = solid_bytes is_name_byte refl u k.names

solid_length : {l : List ℕ} → LengthText l → all is_not_space l ≡ true
unfolding is_length_byte within
solid_length {l} t = solid_bytes is_length_byte refl l t.bytes

solid_optional : {u : List ℕ} {arg : Optional (List ℕ)} → OptionalSpec u arg → all is_not_space u ≡ true
solid_optional without = all_none is_not_space
solid_optional (has_spec {d = d} s) = solid_one 58 d refl (solid_spec s)

solid_hosts : {w u l : List ℕ} {arg : Optional (List ℕ)} → Word w → OptionalSpec u arg → LengthText l → all is_not_space (w ++ (u ++ l)) ≡ true
solid_hosts {w} {u} {l} k s t = all_join is_not_space w (u ++ l) (solid_name k) (all_join is_not_space u l (solid_optional s) (solid_length t))

pub solid_after : {w : List ℕ} → Word w → (b : ℕ) (u : List ℕ) → eqb b 32 ≡ false → all is_not_space u ≡ true → all is_not_space (w ++ (b ∷ u)) ≡ true
solid_after {w} k b u n h = all_join is_not_space w (b ∷ u) (solid_name k) (solid_one b u n h)

solid_address : (f : Family) {w t l : List ℕ} {x : Address} {n : ℕ} → Word w → f.Net t x → f.Size l n → all is_not_space (w ++ (58 ∷ (t ++ l))) ≡ true
solid_address f {t = t} {l = l} k d e = solid_after k 58 (t ++ l) refl (all_join is_not_space t l (f.plain d).no_space (solid_length (f.text e)))

pub solid_mechanism : {sign : ℕ} {w : List ℕ} {x : Said} → Mechanism sign w x → all is_not_space w ≡ true
solid_mechanism (Mechanism.all_term l) = solid_name (literal_word all_known.word l)
solid_mechanism (Mechanism.include {d = d} l s) = solid_after (literal_word include_known.word l) 58 d refl (solid_spec s)
solid_mechanism (Mechanism.a l s d) = solid_hosts (literal_word a_known.word l) s (dual_text d)
solid_mechanism (Mechanism.mx l s d) = solid_hosts (literal_word mx_known.word l) s (dual_text d)
solid_mechanism (Mechanism.ptr {w = w} {u = u} l s) = all_join is_not_space w u (solid_name (literal_word ptr_known.word l)) (solid_optional s)
solid_mechanism (Mechanism.ip4 l d e) = solid_address four (literal_word ip4_known.word l) d e
solid_mechanism (Mechanism.ip6 l d e) = solid_address six (literal_word ip6_known.word l) d e
solid_mechanism (Mechanism.exists {d = d} l s) = solid_after (literal_word exists_known.word l) 58 d refl (solid_spec s)
