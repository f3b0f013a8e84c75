-- The ways out of the functions that read one term: a rule for each way, whose premises are what the code knows there. From the definitions of
-- Reader and the laws of runs.
use mathlib.Core.Logic.{◌⊎◌, inl, inr}
use Rattle.records.proofs.Laws.Steps.{some_if}
use Rattle.std.specs.Bool.{then_some}
use Rattle.std.proofs.Common.{None, Option, Some, unwrap_or}
use Prim.Native.Nat.{ℕ, ◌+◌, ◌≤◌, ◌<◌, ◌^◌}
use mathlib.Core.Path.{◌≡◌, refl, sym, ap, ◌∙◌}
use mathlib.Core.List.{List}
use mathlib.Core.Bool.{Bool, true, false, cond, ◌&&◌}
use native.Mathlib.Omega.{arith}
use lib.ListN.{length}
use lib.Dec.{eqb}
use borrow.Author.Tests.{eq-eqb, ne_eqb, eqb-true}
use Rattle.text.proofs.Laws.Tests.{and_left, and_right}
use Rattle.address.specs.declared.Address.{Address}
use Rattle.text.specs.Bytes.{at, part, is_alpha}
use Rattle.text.specs.Lists.{same_word}
use Rattle.text.specs.Texts.{bytes}
use Rattle.text.specs.Runs.{is_in, run_end, trailing_start}
use Rattle.text.specs.declared.bytes.Class.TheVariants.{NotSlash, Alpha, Digit, LengthByte, NameByte}
use Rattle.text.proofs.Laws.Classes.{nonzero_inside, class_inside}
use Rattle.text.proofs.Laws.Runs.{run_end_from, run_end_inside}
use Rattle.records.proofs.Laws.Names.{qualifier_zero}
use Rattle.records.proofs.Laws.Hosts.{cut_after}
use Rattle.macros.specs.declared.Form.TheVariants.{DomainSpec, ModifierValue}
use Rattle.macros.specs.Reader.{is_macro_string}
use Rattle.networks.specs.Reader.{read_dual}
use Rattle.networks.specs.declared.Lengths.{Lengths}
use Rattle.records.specs.Grammar.{is_qualifier}
use Rattle.records.specs.declared.Term.{Term}
use Rattle.records.specs.declared.terms.Kind.{Kind}
use Rattle.records.specs.declared.terms.Hosts.{Hosts}
use Rattle.records.specs.Reader.{kind_of, spec_at, cut_of, hosts_cut, hosts_at, network_term, network_cut, network_by, mechanism_by, mechanism_of, modifier_of, sign_by, name_by, token_of, with_spec, ptr_of, with_hosts}

-- the end of a run that the code has found
module _ (p : ℕ → Bool) (w : List ℕ) (i e : ℕ) (q : e ≡ run_end p w i) where
  pub end_after : i ≤ e
  end_after = omega (arith, run_end_from p w i, q)

  pub end_inside : i ≤ length w → e ≤ length w
  end_inside h = omega (arith, run_end_inside p w i h, q)

-- `read_spec`
module _ (w : List ℕ) (k to : ℕ) (some : k ≡ to → ⊥) (b : ℕ) (p : b ≡ at w k) (colon : b ≡ 58) where
  module _ (m : Bool) (e : m ≡ is_macro_string DomainSpec (part w (k + 1) to)) where
    spec : spec_at w k to ≡ cond m (Some (Some (k + 1))) None
    unfolding spec_at
    spec = simp (ne_eqb k to some, eq-eqb (at w k) 58 (sym p ∙ colon), sym e)

    pub spec_from : (r : Option (Option ℕ)) → r ≡ then_some m (Some (k + 1)) → r ≡ spec_at w k to
    spec_from r h = h ∙ some_if m (Some (k + 1)) ∙ sym spec

-- `lengths_start`
pub cut_found : (t : List ℕ) (i r : ℕ) → i ≡ trailing_start (is_in LengthByte) t → r ≡ run_end (is_in Digit) t i → r ≡ cut_of t
unfolding cut_of
cut_found t i r p q = q ∙ ap (run_end (is_in Digit) t) p

-- `read_hosts_cut`
module _ (w : List ℕ) (k cut : ℕ) (d : Option Lengths) (q : d ≡ read_dual (part w cut (length w))) where
  pub hosts_no_lengths : d ≡ None → None ≡ hosts_cut w k cut
  unfolding hosts_cut
  hosts_no_lengths h = sym (simp (sym q ∙ h))

  module _ (x : Lengths) (h : d ≡ Some x) (s : Option (Option ℕ)) (e : s ≡ spec_at w k cut) where
    pub hosts_bad : s ≡ None → None ≡ hosts_cut w k cut
    unfolding hosts_cut
    hosts_bad g = sym (simp (sym q ∙ h, sym e ∙ g))

    pub hosts_from : (y : Option ℕ) → s ≡ Some y → (from : ℕ) → from ≡ unwrap_or y cut
        → Some (record { domain = record { from = from; to = cut }; lengths = x }) ≡ hosts_cut w k cut
    unfolding hosts_cut
    hosts_from (Some n) g from r = sym (simp (sym q ∙ h, sym e ∙ g, r))
    hosts_from None g from r = sym (simp (sym q ∙ h, sym e ∙ g, r))

-- `read_hosts`
module _ (w : List ℕ) (k n : ℕ) (q : n ≡ cut_of (part w k (length w))) where
  pub hosts_inside : k ≤ length w → k + n ≤ length w
  hosts_inside h = omega (arith, cut_after w k h, q)

  pub hosts_room : k ≤ length w → length w < 2 ^ 64 → k + n < 2 ^ 64
  hosts_room h g = omega (arith, hosts_inside h)

  pub hosts_found : (r : Option Hosts) → r ≡ hosts_cut w k (k + n) → r ≡ hosts_at w k
  unfolding hosts_at
  hosts_found r e = e ∙ ap (λ (i : ℕ). hosts_cut w k (k + i)) q

-- `network_term`
module _ (sign from to : ℕ) (network : Option Address) (size : Option ℕ) where
  pub no_network : network ≡ None → None ≡ network_term sign from to network size
  unfolding network_term
  no_network h = sym (simp h)

  module _ (x : Address) (h : network ≡ Some x) where
    pub no_length : size ≡ None → None ≡ network_term sign from to network size
    unfolding network_term
    no_length e = sym (simp (h, e))

    pub network_is : (n : ℕ) → size ≡ Some n → Some (Term.Network sign from to x n) ≡ network_term sign from to network size
    unfolding network_term
    network_is n e = sym (simp (h, e))

-- `read_ip4`, `read_ip6`: after a colon lies inside, and so does the first slash from there on
module _ (w : List ℕ) (k b : ℕ) (p : b ≡ at w k) (colon : b ≡ 58) where
  pub after_colon : k + 1 ≤ length w
  after_colon = omega (arith, nonzero_inside w k (omega arith))

  pub colon_room : length w < 2 ^ 64 → k + 1 < 2 ^ 64
  colon_room h = omega (arith, after_colon)

  pub slash_inside : (slash : ℕ) → slash ≡ run_end (is_in NotSlash) w (k + 1) → slash ≤ length w
  slash_inside slash q = end_inside (is_in NotSlash) w (k + 1) slash q after_colon

pub network_found : (read : List ℕ → Option Address) (size : List ℕ → Option ℕ) (sign k : ℕ) (w : List ℕ) (b : ℕ) → b ≡ at w k → b ≡ 58
    → (slash : ℕ) → slash ≡ run_end (is_in NotSlash) w (k + 1) → (x : Option Address) → x ≡ read (part w (k + 1) slash)
    → (n : Option ℕ) → n ≡ size (part w slash (length w))
    → (r : Option Term) → r ≡ network_term sign (k + 1) slash x n → r ≡ network_by read size sign k w
unfolding network_by network_cut
network_found read size sign k w b p colon slash q x ex n en r e = e ∙ simp (eq-eqb (at w k) 58 (sym p ∙ colon), ex, en, q)

-- `read_mechanism_by`
pub by_kind : (kind x : Kind) (sign k : ℕ) (w : List ℕ) (r : Option Term) → kind ≡ x → r ≡ mechanism_by (Some x) sign k w → r ≡ mechanism_by (Some kind) sign k w
by_kind kind x sign k w r e h = h ∙ ap (λ (y : Kind). mechanism_by (Some y) sign k w) (sym e)

module _ (k : ℕ) (w : List ℕ) (s : Option (Option ℕ)) (e : s ≡ spec_at w k (length w)) where
  module _ (term : ℕ → ℕ → Term) where
    pub with_none : s ≡ None → None ≡ with_spec term k w
    unfolding with_spec
    with_none h = sym (simp (sym e ∙ h))

    module _ (y : Option ℕ) (h : s ≡ Some y) where
      pub with_absent : y ≡ None → None ≡ with_spec term k w
      unfolding with_spec
      with_absent g = sym (simp (sym e ∙ h, g))

      pub with_from : (from : ℕ) → y ≡ Some from → Some (term from (length w)) ≡ with_spec term k w
      unfolding with_spec
      with_from from g = sym (simp (sym e ∙ h, g))

  module _ (sign : ℕ) where
    pub ptr_none : s ≡ None → None ≡ ptr_of sign k w
    unfolding ptr_of
    ptr_none h = sym (simp (sym e ∙ h))

    pub ptr_from : (y : Option ℕ) → s ≡ Some y → (from : ℕ) → from ≡ unwrap_or y (length w) → Some (Term.Ptr sign from (length w)) ≡ ptr_of sign k w
    unfolding ptr_of
    ptr_from (Some n) h from g = sym (simp (sym e ∙ h, g))
    ptr_from None h from g = sym (simp (sym e ∙ h, g))

module _ (k : ℕ) (w : List ℕ) (h : Option Hosts) (e : h ≡ hosts_at w k) (term : ℕ → ℕ → ℕ → ℕ → Term) where
  pub with_no_hosts : h ≡ None → None ≡ with_hosts term k w
  unfolding with_hosts
  with_no_hosts q = sym (simp (sym e ∙ q))

  pub with_some_hosts : (x : Hosts) → h ≡ Some x → Some (term x.domain.from x.domain.to x.lengths.four x.lengths.six) ≡ with_hosts term k w
  unfolding with_hosts
  with_some_hosts x q = sym (simp (sym e ∙ q))

-- `read_modifier`
module _ (k : ℕ) (w : List ℕ) (b : ℕ) (p : b ≡ at w 0) (a : Bool) (q : a ≡ is_in Alpha b) where
  alpha : is_alpha (at w 0) ≡ a
  unfolding is_in
  alpha = ap is_alpha (sym p) ∙ sym q

  pub modifier_first : a ≡ false → None ≡ modifier_of k w
  unfolding modifier_of
  modifier_first h = sym (simp (alpha ∙ h))

  module _ (h : a ≡ true) (x : Bool) (name : List ℕ) (e : x ≡ same_word name (bytes "redirect")) (n : name ≡ part w 0 k) where
    redirect : same_word (part w 0 k) (bytes "redirect") ≡ x
    redirect = ap (λ (u : List ℕ). same_word u (bytes "redirect")) (sym n) ∙ sym e

    module _ (t : List ℕ) (v : t ≡ part w (k + 1) (length w)) where
      module _ (m : Bool) (g : m ≡ is_macro_string DomainSpec t) where
        domain : is_macro_string DomainSpec (part w (k + 1) (length w)) ≡ m
        domain = ap (is_macro_string DomainSpec) (sym v) ∙ sym g

        pub modifier_redirect : x ≡ true → (r : Option Term) → r ≡ then_some m (Term.Redirect (k + 1) (length w)) → r ≡ modifier_of k w
        unfolding modifier_of
        modifier_redirect f r d = d ∙ some_if m _ ∙ sym (simp (alpha ∙ h, redirect ∙ f, domain))

      module _ (f : x ≡ false) (y : Bool) (l : y ≡ same_word name (bytes "exp")) where
        exp : same_word (part w 0 k) (bytes "exp") ≡ y
        exp = ap (λ (u : List ℕ). same_word u (bytes "exp")) (sym n) ∙ sym l

        module _ (m : Bool) (g : m ≡ is_macro_string DomainSpec t) where
          pub modifier_explanation : y ≡ true → (r : Option Term) → r ≡ then_some m (Term.Explanation (k + 1) (length w)) → r ≡ modifier_of k w
          unfolding modifier_of
          modifier_explanation c r d = d ∙ some_if m _ ∙ sym (simp (alpha ∙ h, redirect ∙ f, exp ∙ c, domain m g))

        module _ (m : Bool) (g : m ≡ is_macro_string ModifierValue t) where
          value : is_macro_string ModifierValue (part w (k + 1) (length w)) ≡ m
          value = ap (is_macro_string ModifierValue) (sym v) ∙ sym g

          pub modifier_unknown : y ≡ false → (r : Option Term) → r ≡ then_some m (Term.Unknown k (length w)) → r ≡ modifier_of k w
          unfolding modifier_of
          modifier_unknown c r d = d ∙ some_if m _ ∙ sym (simp (alpha ∙ h, redirect ∙ f, exp ∙ c, value))

-- `is_qualifier`
pub qualifier_is : (b : ℕ) → (b ≡ 43) ⊎ ((b ≡ 45) ⊎ ((b ≡ 63) ⊎ (b ≡ 126))) → true ≡ is_qualifier b
unfolding is_qualifier
qualifier_is b (inl e) = rw e
qualifier_is b (inr (inl e)) = rw e
qualifier_is b (inr (inr (inl e))) = rw e
qualifier_is b (inr (inr (inr e))) = rw e

pub qualifier_not : (b : ℕ) → ((b ≡ 43) ⊎ ((b ≡ 45) ⊎ ((b ≡ 63) ⊎ (b ≡ 126))) → ⊥) → false ≡ is_qualifier b
unfolding is_qualifier
qualifier_not b n = sym (simp (ne_eqb b 43 (λ e. n (inl e)), ne_eqb b 45 (λ e. n (inr (inl e))), ne_eqb b 63 (λ e. n (inr (inr (inl e)))), ne_eqb b 126 (λ e. n (inr (inr (inr e))))))

-- `is_modifier`
pub and_eq : (m n : ℕ) (u z : Bool) → m ≡ n → z ≡ u → z ≡ (eqb m n && u)
and_eq m n u z p h = h ∙ ap (λ (b : Bool). b && u) (sym (eq-eqb m n p))

pub and_ne : (m n : ℕ) (u : Bool) → (m ≡ n → ⊥) → eqb m n ≡ (eqb m n && u)
and_ne m n u p = rw (ne_eqb m n p)

-- `read_token`
module _ (w : List ℕ) (a : ℕ) (p : a ≡ at w 0) (i : ℕ) (ei : i ≡ name_by a) where
  start : (t : Bool) → is_qualifier (at w 0) ≡ t → i ≡ cond t 1 0
  unfolding name_by
  start t e = ei ∙ ap (λ (z : Bool). cond z 1 0) (ap is_qualifier p ∙ e)

  start_inside : i ≤ length w
  start_inside = by (is_qualifier (at w 0)) refl
    where
      by : (t : Bool) → is_qualifier (at w 0) ≡ t → i ≤ length w
      by true e = let f : i ≡ 1 = start true e in let l = class_inside is_qualifier qualifier_zero w 0 e in omega arith
      by false e = let f : i ≡ 0 = start false e in omega arith

  module _ (k : ℕ) (ek : k ≡ run_end (is_in NameByte) w i) where
    pub name_inside : k ≤ length w
    name_inside = end_inside (is_in NameByte) w i k ek start_inside

    module _ (b : ℕ) (g : b ≡ at w k) (x : Bool) (q : x ≡ (eqb i 0 && eqb b 61)) where
      pub equals_inside : x ≡ true → k < length w
      equals_inside h = let f = eqb-true b 61 (and_right (eqb i 0) (eqb b 61) (sym q ∙ h)) in nonzero_inside w k (omega arith)

      pub token_modifier : x ≡ true → (r : Option Term) → r ≡ modifier_of k w → r ≡ token_of w
      unfolding token_of
      token_modifier h r c = by (is_qualifier (at w 0)) refl
        where
          zero : i ≡ 0
          zero = eqb-true i 0 (and_left (eqb i 0) (eqb b 61) (sym q ∙ h))

          by : (t : Bool) → is_qualifier (at w 0) ≡ t → r ≡ token_of w
          by true e = let f : i ≡ 1 = start true e in absurd (omega (arith, zero))
          by false e =
              let n : k ≡ run_end (is_in NameByte) w 0 = ek ∙ ap (run_end (is_in NameByte) w) zero in
              let d = and_right (eqb i 0) (eqb b 61) (sym q ∙ h) in
              c ∙ sym (simp (e, sym n, sym g, d))

      token_mechanism : x ≡ false → (kind : Option Kind) → kind ≡ kind_of (part w i k) → (sign : ℕ) → sign ≡ sign_by a
          → (r : Option Term) → r ≡ mechanism_by kind sign k w → r ≡ token_of w
      unfolding token_of mechanism_of sign_by
      token_mechanism h kind et sign es r c = by (is_qualifier (at w 0)) refl
        where
          by : (t : Bool) → is_qualifier (at w 0) ≡ t → r ≡ token_of w
          by true e =
              let n : k ≡ run_end (is_in NameByte) w 1 = ek ∙ ap (run_end (is_in NameByte) w) (start true e) in
              let m : kind ≡ kind_of (part w 1 k) = et ∙ ap (λ (j : ℕ). kind_of (part w j k)) (start true e) in
              let s : sign ≡ at w 0 = es ∙ simp (p, e) in
              let t : token_of w ≡ mechanism_of (at w 0) 1 w = simp e in
              let u : mechanism_of (at w 0) 1 w ≡ mechanism_by kind sign k w = simp (sym n, sym m, sym s) in
              c ∙ sym (t ∙ u)
          by false e =
              let z : i ≡ 0 = start false e in
              let n : k ≡ run_end (is_in NameByte) w 0 = ek ∙ ap (run_end (is_in NameByte) w) z in
              let m : kind ≡ kind_of (part w 0 k) = et ∙ ap (λ (j : ℕ). kind_of (part w j k)) z in
              let s : sign ≡ 43 = es ∙ simp (p, e) in
              let d : eqb b 61 ≡ false = ap (λ (t : Bool). t && eqb b 61) (sym (eq-eqb i 0 z)) ∙ sym q ∙ h in
              c ∙ sym (simp (e, sym n, sym g, d, sym m, sym s))

      pub token_no_kind : x ≡ false → (kind : Option Kind) → kind ≡ kind_of (part w i k) → kind ≡ None → None ≡ token_of w
      unfolding mechanism_by
      token_no_kind h kind et n = token_mechanism h kind et _ refl None (sym (ap (λ (t : Option Kind). mechanism_by t (sign_by a) k w) n))

      pub token_by_kind : x ≡ false → (kind : Option Kind) → kind ≡ kind_of (part w i k) → (t : Kind) → kind ≡ Some t → (sign : ℕ) → sign ≡ sign_by a
          → (r : Option Term) → r ≡ mechanism_by (Some t) sign k w → r ≡ token_of w
      token_by_kind h kind et t n sign es r c = token_mechanism h kind et sign es r (c ∙ ap (λ (u : Option Kind). mechanism_by u sign k w) (sym n))
