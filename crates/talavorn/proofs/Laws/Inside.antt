-- The argument of a term that was read stands within the term, so that it is a part of the record. From the reader's definitions, the laws of runs,
-- and where a term stands in its record.
use Rattle.std.proofs.Common.{None, Option, Some, Ok}
use Prim.Native.Nat.{ℕ, ◌+◌, ◌-◌, ◌≤◌, ◌<◌}
use mathlib.Core.Path.{◌≡◌, refl, sym, subst, ◌∙◌}
use mathlib.Core.List.{List}
use native.Mathlib.Omega.{arith}
use native.Mathlib.Nat.{sub_self}
use lib.Dec.{eqb}
use lib.ListN.{length}
use borrow.Author.Tests.{eqb-true, eqb-false}
use Rattle.text.specs.Bytes.{at, part}
use Rattle.text.specs.Runs.{is_in, run_end}
use Rattle.text.specs.declared.bytes.Class.TheVariants.{NameByte, NotSlash}
use Rattle.text.proofs.Laws.Tests.{cond-elim}
use Rattle.text.proofs.Laws.Runs.{run_end_from, run_end_inside}
use Rattle.text.proofs.Laws.Classes.{nonzero_inside}
use Rattle.answer_table.proofs.Laws.Places.{part_inside}
use Rattle.address.specs.declared.Address.{Address}
use Rattle.address.specs.declared.Address.TheVariants.{IPv4, IPv6}
use Rattle.networks.specs.Reader.{on_length, read_ip4, read_length4, read_length6, read_dual}
use Rattle.networks.specs.Reader6.{read_ip6}
use Rattle.networks.proofs.Laws.Readings.{length-elim}
use Rattle.macros.specs.declared.Form.TheVariants.{DomainSpec}
use Rattle.macros.specs.Reader.{is_macro_string}
use Rattle.records.specs.Readings.{argument_bytes}
use Rattle.records.specs.Numbers.{said_of, term_at}
use Rattle.records.specs.Reader.{kind_of, spec_at, hosts_of, after_network, all_of, with_spec, ptr_of, cut_of, hosts_cut, hosts_at, with_hosts, network_term, network_cut, network_by, mechanism_by, mechanism_of, modifier_of, token_of, read_term}
use Rattle.records.specs.declared.terms.Kind.{Kind}
use Rattle.records.specs.declared.terms.Hosts.{Hosts}
use Rattle.records.specs.declared.Term.{Term}
use Rattle.records.proofs.Laws.Specs.{spec-elim}
use Rattle.records.proofs.Laws.Hosts.{cut_after, dual-elim, hosts-elim}
use Rattle.records.proofs.Laws.Networks.{network-elim}
use Rattle.records.proofs.Laws.Modifiers.{modifier_elim}
use Rattle.records.proofs.Laws.Tokens.{token_elim}
use Rattle.records.proofs.Laws.Checking.{optional_bytes}
use Rattle.records.proofs.Laws.Arguments.{stands}
use Rattle.talavorn.specs.Numbers.{network_shape, shape_of, Inside}
use Rattle.talavorn.specs.Calls.{ArgumentStands}

abbrev Within : List ℕ → Option Term → Type 0
Within w (Some t) = Inside (length w) t
Within w None = Unit {0}

-- a domain-spec after its colon
abbrev SpecWithin : ℕ → Option (Option ℕ) → Type 0
SpecWithin to (Some (Some from)) = from ≤ to
SpecWithin to (Some None) = Unit {0}
SpecWithin to None = Unit {0}

spec_within : (w : List ℕ) (k to : ℕ) → k ≤ to → SpecWithin to (spec_at w k to)
unfolding spec_at
spec_within w k to h =
    cond-elim (SpecWithin to) (eqb k to) {x = Some None} (λ _. tt)
    (λ n. cond-elim (SpecWithin to) (eqb (at w k) 58)
    (λ _. cond-elim (SpecWithin to) (is_macro_string DomainSpec (part w (k + 1) to)) {x = Some (Some (k + 1))} {y = None}
    (λ _. let z = eqb-false k to n in omega arith) (λ _. tt))
    (λ _. tt))

spec_at_lem : (w : List ℕ) (k to : ℕ) → k ≤ to → {x : Option (Option ℕ)} → spec_at w k to ≡ x → SpecWithin to x
spec_at_lem w k to h e = subst (SpecWithin to) e (spec_within w k to h)

-- a and mx
abbrev HostsWithin : List ℕ → Option Hosts → Type 0
HostsWithin w (Some h) = (h.domain.from ≤ h.domain.to) × (h.domain.to ≤ length w)
HostsWithin w None = Unit {0}

cut_within : (w : List ℕ) (k cut : ℕ) → k ≤ cut → cut ≤ length w → HostsWithin w (hosts_cut w k cut)
unfolding hosts_cut
cut_within w k cut h l =
    dual-elim (HostsWithin w) (read_dual (part w cut (length w))) _ None
    (λ n m _. spec-elim (HostsWithin w) (spec_at w k cut) (λ from. Some (hosts_of from cut n m)) (Some (hosts_of cut cut n m)) None
    (λ from e. (spec_at_lem w k cut h e, l)) (λ _. (omega arith, l)) (λ _. tt))
    (λ _. tt)

hosts_within : (w : List ℕ) (k : ℕ) → k ≤ length w → HostsWithin w (hosts_at w k)
unfolding hosts_at
hosts_within w k h =
    cut_within w k (k + cut_of (part w k (length w))) (omega arith) (cut_after w k h)

hosts_at_lem : (w : List ℕ) (k : ℕ) → k ≤ length w → {x : Option Hosts} → hosts_at w k ≡ x → HostsWithin w x
hosts_at_lem w k h e = subst (HostsWithin w) e (hosts_within w k h)

-- a network, of either family
network_inside : (size sign from to : ℕ) (a : Address) (n : ℕ) → from ≤ to → to ≤ size → Inside size (Term.Network sign from to a n)
unfolding shape_of network_shape
network_inside size sign from to (IPv4 v) n h l = (h, l)
network_inside size sign from to (IPv6 x y) n h l = (h, l)

network_within : (w : List ℕ) (sign k : ℕ) (x : Option Address) (y : Option ℕ) → at w k ≡ 58 → Within w
    (after_network x (λ a. on_length y (λ n. Some (Term.Network sign (k + 1) (run_end (is_in NotSlash) w (k + 1)) a n)) None) None)
network_within w sign k x y b =
    let i = nonzero_inside w k (λ e. omega (arith, b, e)) in
    let slash = run_end (is_in NotSlash) w (k + 1) in
    network-elim (Within w) x _ None
    (λ a _. length-elim (Within w) y (λ n. Some (Term.Network sign (k + 1) slash a n)) None
    (λ n _. network_inside (length w) sign (k + 1) slash a n (run_end_from (is_in NotSlash) w (k + 1)) (run_end_inside (is_in NotSlash) w (k + 1) (omega arith)))
    (λ _. tt))
    tt

-- each mechanism, with its name up to k
module _ (w : List ℕ) (sign k : ℕ) (inside : k ≤ length w) where
  by_kind : (kind : Option Kind) → Within w (mechanism_by kind sign k w)
  unfolding mechanism_by all_of with_spec ptr_of with_hosts network_term network_cut network_by shape_of
  by_kind (Some Kind.All) = cond-elim (Within w) (eqb k (length w)) {x = Some (Term.All sign)} {y = None} (λ _. (omega arith, omega arith)) (λ _. tt)
  by_kind (Some Kind.Include) = spec-elim (Within w) (spec_at w k (length w)) (λ from. Some (Term.Include sign from (length w))) None None
      (λ from e. (spec_at_lem w k (length w) inside e, omega arith)) (λ _. tt) (λ _. tt)
  by_kind (Some Kind.Exists) = spec-elim (Within w) (spec_at w k (length w)) (λ from. Some (Term.Exists sign from (length w))) None None
      (λ from e. (spec_at_lem w k (length w) inside e, omega arith)) (λ _. tt) (λ _. tt)
  by_kind (Some Kind.Ptr) = spec-elim (Within w) (spec_at w k (length w)) (λ from. Some (Term.Ptr sign from (length w))) (Some (Term.Ptr sign (length w) (length w)))
      None (λ from e. (spec_at_lem w k (length w) inside e, omega arith)) (λ _. (omega arith, omega arith)) (λ _. tt)
  by_kind (Some Kind.A) = hosts-elim (Within w) (hosts_at w k) (λ from to n m. Some (Term.A sign from to n m)) None (λ from to n m e. hosts_at_lem w k inside e) (λ _. tt)
  by_kind (Some Kind.Mx) = hosts-elim (Within w) (hosts_at w k) (λ from to n m. Some (Term.Mx sign from to n m)) None (λ from to n m e. hosts_at_lem w k inside e) (λ _. tt)
  by_kind (Some Kind.Ip4) = cond-elim (Within w) (eqb (at w k) 58) {y = None}
      (λ c. network_within w sign k (read_ip4 (part w (k + 1) (run_end (is_in NotSlash) w (k + 1)))) (read_length4 (part w (run_end (is_in NotSlash) w (k + 1)) (length w))) (eqb-true (at w k) 58 c))
      (λ _. tt)
  by_kind (Some Kind.Ip6) = cond-elim (Within w) (eqb (at w k) 58) {y = None}
      (λ c. network_within w sign k (read_ip6 (part w (k + 1) (run_end (is_in NotSlash) w (k + 1)))) (read_length6 (part w (run_end (is_in NotSlash) w (k + 1)) (length w))) (eqb-true (at w k) 58 c))
      (λ _. tt)
  by_kind None = tt

mechanism_within : (sign i : ℕ) (w : List ℕ) → i ≤ length w → Within w (mechanism_of sign i w)
unfolding mechanism_of
mechanism_within sign i w h =
    let k = run_end (is_in NameByte) w i in by_kind w sign k (run_end_inside (is_in NameByte) w i h) (kind_of (part w i k))

-- a modifier
modifier_within : (w : List ℕ) (k : ℕ) → k < length w → Within w (modifier_of k w)
unfolding shape_of
modifier_within w k h = modifier_elim k w (Within w)
    (λ _ _. (omega arith, omega arith)) (λ _ _. (omega arith, omega arith)) (λ _ _ _. (omega arith, omega arith)) tt

token_within : (w : List ℕ) → Within w (token_of w)
token_within w = token_elim w (Within w)
    (λ _ i. mechanism_within (at w 0) 1 w i)
    (λ q. modifier_within w (run_end (is_in NameByte) w 0) (nonzero_inside w (run_end (is_in NameByte) w 0) (λ z. omega (arith, q, z))))
    (mechanism_within 43 0 w (omega arith))

-- the argument's bytes by its shape
argument_shape : (w : List ℕ) (t : Term) → part w (shape_of (length w) t).from (shape_of (length w) t).to ≡ argument_bytes (said_of w t)
unfolding shape_of network_shape said_of
argument_shape w (Term.All sign) = rw (sub_self (length w))
argument_shape w (Term.Include sign from to) = refl
argument_shape w (Term.A sign from to n m) = sym (optional_bytes w from to)
argument_shape w (Term.Mx sign from to n m) = sym (optional_bytes w from to)
argument_shape w (Term.Ptr sign from to) = sym (optional_bytes w from to)
argument_shape w (Term.Network sign from to (IPv4 v) n) = refl
argument_shape w (Term.Network sign from to (IPv6 h l) n) = refl
argument_shape w (Term.Exists sign from to) = refl
argument_shape w (Term.Redirect from to) = refl
argument_shape w (Term.Explanation from to) = refl
argument_shape w (Term.Unknown name to) = refl

-- a term that was read: it goes forward, and its argument is a part of the record
module _ (s : List ℕ) (i p e : ℕ) (t : Term) (q : read_term s i ≡ term_at p e t) where
  pub term_inside : (p ≤ e) × Inside (e - p) t
  term_inside =
      let k = stands s i p e t q in
      let x : Inside (length (part s p e)) t = subst (Within (part s p e)) k.token (token_within (part s p e)) in
      (omega (arith, k.some), rw k.size at x)

  pub argument_stands : ArgumentStands s (term_at p e t)
  argument_stands =
      let k = stands s i p e t q in
      let x = term_inside in
      let a = argument_shape (part s p e) t in
      let b = part_inside s p e (shape_of (e - p) t).from (shape_of (e - p) t).to (omega (arith, x.1.1, k.size)) in
      sym b ∙ (rw k.size at a)
