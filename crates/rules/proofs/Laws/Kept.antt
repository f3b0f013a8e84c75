-- What every check keeps, whatever the table: no count falls or passes its bound, only a fail has an explanation, and each question is of one of five
-- kinds and has a name as the table has it, where this is so of the domain and the table's items are of their kinds. And two checks settle the same if
-- those that they begin one level down do. One walk over the definitions of the mechanisms and of the evaluation, by induction on the terms and the
-- depth; from the laws of Alike and the names that can be asked (Askable).
use Rattle.std.proofs.Common.{Ok, Err, Result as Either}
use Prim.Native.Nat.{ℕ, zero, suc, ◌≤◌, ◌<◌}
use native.Mathlib.Nat.{le_refl}
use native.Mathlib.Omega.{arith}
use mathlib.Core.Path.{◌≡◌, refl}
use mathlib.Core.List.{List, [], ◌∷◌}
use mathlib.Core.Bool.{Bool, true, cond, ◌&&◌}
use lib.ListN.{length, drop}
use lib.Dec.{ltb, leb, eqb}
use borrow.Author.Tests.{ltb-true, leb-true, eqb-true, eqb-false}
use Rattle.text.specs.Bytes.{is_printable}
use Rattle.text.specs.Lists.{all, same}
use Rattle.text.specs.Texts.{bytes}
use Rattle.text.proofs.Laws.Parts.{all_first, all_rest}
use Rattle.text.proofs.Laws.Tests.{cond-elim, and_left}
use Rattle.address.specs.declared.Address.{Address}
use Rattle.address.specs.declared.Address.TheVariants.{IPv4, IPv6}
use Rattle.address.specs.Matching.{matches_at}
use Rattle.domain.specs.Names.{is_table_name, at_or_below, label_count}
use Rattle.domain.specs.Normal.{Naming, name, malformed}
use Rattle.answer_table.specs.Layout.{kind_a, kind_ptr, kind_mx, kind_txt, kind_aaaa, is_item}
use Rattle.macros.specs.declared.Form.{Form}
use Rattle.macros.specs.Reader.{is_macro_string, uses_p}
use Rattle.records.specs.Readings.{Optional, absent, present, Said, Placed}
use Rattle.records.specs.Reader.{read_record}
use Rattle.records.specs.declared.Refusal.{Refusal}
use Rattle.rules.specs.declared.Counts.{Counts}
use Rattle.rules.specs.Tree.{Reply, failed, items, Table, Has, Check}
use Rattle.rules.proofs.Laws.Alike.{Alike, alike_give, alike_ask, alike_cond, alike_bind, alike_weaken}
use Rattle.rules.proofs.Laws.Reversed.{reversed_ok}
use Rattle.rules.proofs.Laws.Askable.{NamingOk, question_ok, Fitting, names_ok, host_ok, hosts_ok}
use Rattle.rules.specs.Mechanisms.{Mail, Match, yes, no, stop, Step, step, matched, address_kind, includes_client, any_matches, with_valid, validated, names_of, gives_chosen, p_reply, p_value, gives_expansion, expanded, gives_name, target, target_or, most_lookups, most_voids, most_hosts, begun, voided, counting, at_target, target_step, counted_step, void_step, own_reply, own_question, on_match, until_match, ask_a, a_step, ask_exists, exists_step, by_preference, ask_host, mx_items, ask_mx, mx_step, ask_name, ask_ptr, ptr_step}
use Rattle.rules.specs.Evaluation.{Failing, Result, ended, Sub, include_match, check_target, begun_check, include_of, include_step, having, length_for, network_step, plain_step, mechanism_step, term_step, sign_result, modifier_of, failing_at, signed, none_is_permerror, redirect_of, no_match, match_result, after_step, try_terms, terms_of, read_outcome, Selection, ends, one, selection, versioned, text_reply, record_lookup, after_lookup, check_name, check, gives_shown, explained, explain_reply, explain_name, explanation, explanation_of, most_text, shown}

-- the counts k of a question, or of a term that lets the check go on, after the counts c: none falls, and none that was within its bound passes it
pub record Bounded (c k : Counts) : Type 0 where
  pub lookups_grow : c.lookups ≤ k.lookups
  pub lookups_small : c.lookups ≤ 10 → k.lookups ≤ 10
  pub voids_grow : c.voids ≤ k.voids
  pub voids_small : c.voids ≤ 2 → k.voids ≤ 2

-- the counts that come with a result: a third void answer is permerror
pub data Reported (c : Counts) : ℕ → Counts → Type 0 where
  within : {v : ℕ} {k : Counts} → Bounded c k → Reported c v k
  third : {k : Counts} → Bounded c k → Reported c 6 (voided k)

-- a result that a sign doesn't give is no fail
abbrev NoFail : ℕ → Type 0
NoFail v = v ≡ 3 → ⊥

-- the counts after a term: one that stops the check ends it, and not in a fail
unfoldable pub MatchKept : Counts → Match → Counts → Type 0
MatchKept c yes k = Bounded c k
MatchKept c no k = Bounded c k
MatchKept c (stop v) k = Reported c v k × NoFail v

abbrev StopsWithout : Match → Type 0
StopsWithout yes = Unit {0}
StopsWithout no = Unit {0}
StopsWithout (stop v) = NoFail v

abbrev EndsWithout : Selection → Type 0
EndsWithout (ends v) = NoFail v
EndsWithout (one s) = Unit {0}

abbrev pub StepKept : Counts → Step → Type 0
StepKept c s = MatchKept c s.match s.counts

-- a result: its counts, and that a fail and nothing else names the record that failed, by its domain as the table has it, under an assumption
pub record ResultKept (Sound : Type 0) (c : Counts) (r : Result) : Type 0 where
  pub reported : Reported c r.value r.counts
  pub fails : (f : Failing) → r.failing ≡ present f → r.value ≡ 3
  pub named : r.failing ≡ absent → NoFail r.value
  pub whose : (f : Failing) → r.failing ≡ present f → Sound → is_table_name f.domain ≡ true

module _ {c : Counts} where
  bounded_begun : {k : Counts} → Bounded c k → k.lookups < most_lookups → Bounded c (begun k)
  bounded_begun b h = record { lookups_grow = omega (arith, b.lookups_grow); lookups_small = λ _. omega (arith, h); voids_grow = b.voids_grow; voids_small = b.voids_small }

  bounded_voided : {k : Counts} → Bounded c k → k.voids < most_voids → Bounded c (voided k)
  bounded_voided b h = record { lookups_grow = b.lookups_grow; lookups_small = b.lookups_small; voids_grow = omega (arith, b.voids_grow); voids_small = λ _. omega (arith, h) }

  -- a check goes on after another that gave no permerror, and any value may become permerror
  pub resumes : {v : ℕ} {k : Counts} → Reported c v k → (v ≡ 6 → ⊥) → Bounded c k
  resumes (within b) n = b
  resumes (third b) n = absurd (n refl)

  errs : {v : ℕ} {k : Counts} → Reported c v k → Reported c 6 k
  errs (within b) = within b
  errs (third b) = third b

  include_match_kept : (v : ℕ) (k : Counts) → Reported c v k → MatchKept c (include_match v) k
  unfolding include_match MatchKept
  include_match_kept v k r =
      cond-elim P (eqb v 2) (λ e. resumes r (λ s. omega (arith, s, eqb-true v 2 e)))
      (λ _. cond-elim P (eqb v 5) (λ e. (within (resumes r (λ s. omega (arith, s, eqb-true v 5 e))), λ z. omega (arith, z)))
      (λ _. cond-elim P (eqb v 6) (λ e. (errs r, λ z. omega (arith, z)))
      (λ e. cond-elim P (eqb v 0) (λ _. (errs r, λ z. omega (arith, z))) (λ _. resumes r (eqb-false _ _ e)))))
    where
      P : Match → Type 0
      P m = MatchKept c m k

  plain : {Sound : Type 0} (v : ℕ) (k : Counts) → Reported c v k → NoFail v → ResultKept Sound c (record { value = v; counts = k; failing = absent })
  plain v k r n = record {
    reported = r;
    fails = λ f e. absurd (let z : ◌≡◌ {A = ℕ} 0 1 = cc in omega arith);
    named = λ _. n;
    whose = λ f e. absurd (let z : ◌≡◌ {A = ℕ} 0 1 = cc in omega arith);
  }

  signed_kept : {Sound : Type 0} (d : List ℕ) → (Sound → is_table_name d ≡ true) → (ts : List Placed) (v : ℕ) (k : Counts) → Bounded c k
      → ResultKept Sound c (record { value = v; counts = k; failing = cond (eqb v 3) (present (failing_at d (modifier_of (bytes "exp") ts))) absent })
  signed_kept {Sound} d h ts v k b =
      cond-elim (λ (o : Optional Failing). ResultKept Sound c (record { value = v; counts = k; failing = o })) (eqb v 3)
      (λ e. record {
        reported = within b;
        fails = λ f _. eqb-true v 3 e;
        named = λ h. absurd (let z : ◌≡◌ {A = ℕ} 0 1 = cc in omega arith);
        whose = λ f i s. let j : f.domain ≡ d = cc in rw j (h s);
      })
      (λ e. plain v k (within b) (eqb-false v 3 e))

  redirect_kept : {Sound : Type 0} (r : Result) → ResultKept Sound c r → ResultKept Sound c (none_is_permerror r)
  unfolding none_is_permerror
  redirect_kept {Sound} r h =
      cond-elim (ResultKept Sound c) (eqb r.value 0)
      (λ e. plain _ r.counts (within (resumes h.reported (λ s. omega (arith, s, eqb-true r.value 0 e)))) (λ z. omega (arith, z))) (λ _. h)

-- a fail's text: empty without an explanation, and of at most 500 bytes
pub record TextKept (f : Optional Failing) (x : List ℕ) : Type 0 where
  pub unexplained : f ≡ absent → x ≡ []
  pub short : length x ≤ most_text

shown_short : (s : List ℕ) → length (shown s) ≤ most_text
unfolding shown
shown_short s =
    cond-elim (λ (x : List ℕ). length x ≤ most_text) (leb (length s) most_text && all is_printable s)
    (λ e. leb-true (length s) most_text (and_left (leb (length s) most_text) (all is_printable s) e)) (λ _. omega arith)

-- the kinds of questions. W-207 amends the house rules: "Record lookup now uses TXT alone", so that SPF is none of them
pub data AskedKind : ℕ → Type 0 where
  of_a : AskedKind kind_a
  of_ptr : AskedKind kind_ptr
  of_mx : AskedKind kind_mx
  of_txt : AskedKind kind_txt
  of_aaaa : AskedKind kind_aaaa

of_address : (client : Address) → AskedKind (address_kind client)
unfolding address_kind
of_address (IPv4 v) = of_a
of_address (IPv6 h l) = of_aaaa

-- a question: its kind, its counts, and its name under an assumption
pub record Asked (Sound : Type 0) (c : Counts) (kind : ℕ) (n : List ℕ) (k : Counts) : Type 0 where
  pub asked_kind : AskedKind kind
  pub bounded : Bounded c k
  pub table_name : Sound → is_table_name n ≡ true

pub bounded_self : (c : Counts) → Bounded c c
bounded_self c = record { lookups_grow = le_refl _; lookups_small = λ h. h; voids_grow = le_refl _; voids_small = λ h. h }

-- From the counts c on, with the table t. Names are followed under the assumption Sound; where nothing is to be assumed it is ⊥.
module _ (t : Table) (Sound : Type 0) (fits : Sound → Fitting t) (c : Counts) where
  abbrev pub FineBoth : {A : Type 0} → (A → Type 0) → Check A → Check A → Type 0
  FineBoth P m m' = Alike t (Asked Sound c) P m m'

  abbrev pub Fine : {A : Type 0} → (A → Type 0) → Check A → Type 0
  Fine P m = FineBoth P m m

  abbrev Any : {A : Type 0} → A → Type 0
  Any a = Unit {0}

  abbrev Askable : List ℕ → Type 0
  Askable n = Sound → is_table_name n ≡ true

  abbrev pub NameFits : Naming → Type 0
  NameFits x = Sound → NamingOk x

  -- candidates one after the other
  on_match_fine : (rest : Counts → Check Step) → ((k : Counts) → Bounded c k → Fine (StepKept c) (rest k)) → (m : Match) (k : Counts) → MatchKept c m k
      → Fine (StepKept c) (on_match rest m k)
  unfolding on_match MatchKept
  on_match_fine rest f yes k q = alike_give q
  on_match_fine rest f no k q = f k q
  on_match_fine rest f (stop v) k q = alike_give q

  until_match_fine : {A : Type 0} (p : A → Bool) (f : A → Counts → Check Step)
      → ((x : A) → (Sound → p x ≡ true) → (k : Counts) → Bounded c k → Fine (StepKept c) (f x k))
      → (xs : List A) → (Sound → all p xs ≡ true) → (k : Counts) → Bounded c k → Fine (StepKept c) (until_match f xs k)
  unfolding until_match MatchKept
  until_match_fine p f g [] h k b = alike_give b
  until_match_fine p f g (x ∷ xs) h k b =
      alike_bind (g x (λ s. all_first p x xs (h s)) k b)
      (λ s q. on_match_fine (until_match f xs) (until_match_fine p f g xs (λ z. all_rest p x xs (h z))) s.match s.counts q)

  module _ (k : Counts) (b : Bounded c k) where
    asked : {kind : ℕ} {n : List ℕ} → AskedKind kind → Askable n → Asked Sound c kind n k
    asked q h = record { asked_kind = q; bounded = b; table_name = h }

    -- p's questions
    validated_fine : (client : Address) (ns found : List (List ℕ)) → (Sound → all is_table_name ns ≡ true) → Fine Any (validated client k ns found)
    unfolding validated
    validated_fine client [] found h = alike_give tt
    validated_fine client (n ∷ ns) found h =
        alike_ask (asked (of_address client) (λ s. all_first is_table_name n ns (h s)))
        (λ r _. validated_fine client ns (with_valid client n found r) (λ s. all_rest is_table_name n ns (h s)))

    p_fine : (client : Address) (d : List ℕ) → Fine Any (p_value client d k)
    unfolding p_value p_reply gives_chosen
    p_fine client d =
        alike_ask (asked of_ptr (λ _. reversed_ok client))
        (λ r e. alike_bind (validated_fine client (names_of r) [] (λ s. names_ok r (fits s 12 _ r e))) (λ ns _. alike_give tt))

    expanded_fine : (mail : Mail) (d : List ℕ) (form : Form) (text : List ℕ) → Fine Any (expanded mail d form text k)
    unfolding expanded gives_expansion
    expanded_fine mail d form text = alike_cond (uses_p form text) (λ _. alike_bind (p_fine mail.client d) (λ p _. alike_give tt)) (λ _. alike_give tt)

    target_fine : (mail : Mail) (d spec : List ℕ) → Fine NameFits (target mail d spec k)
    unfolding target gives_name
    target_fine mail d spec = alike_bind (expanded_fine mail d Form.DomainSpec spec) (λ s _. alike_give (λ _. question_ok s))

    target_or_fine : (mail : Mail) (d : List ℕ) → Askable d → (spec : Optional (List ℕ)) → Fine NameFits (target_or mail d spec k)
    unfolding target_or NamingOk
    target_or_fine mail d h absent = alike_give h
    target_or_fine mail d h (present spec) = target_fine mail d spec

    -- what a mechanism gives
    step_fine : (m : Match) → StopsWithout m → Fine (StepKept c) (step m k)
    unfolding MatchKept
    step_fine yes n = alike_give b
    step_fine no n = alike_give b
    step_fine (stop v) n = alike_give (within b, n)

    no_fine : Fine (StepKept c) (step no k)
    no_fine = step_fine no tt

    yes_fine : Fine (StepKept c) (step yes k)
    yes_fine = step_fine yes tt

    matched_fine : (found : Bool) → Fine (StepKept c) (matched found k)
    matched_fine found = alike_cond found (λ _. yes_fine) (λ _. no_fine)

    -- a question of a, mx, ptr or exists
    void_fine : Fine (StepKept c) (void_step k)
    unfolding void_step MatchKept
    void_fine = alike_cond (ltb k.voids most_voids) (λ e. alike_give (bounded_voided b (ltb-true k.voids most_voids e))) (λ _. alike_give (third b, λ z. omega (arith, z)))

    own_fine : {kind : ℕ} {n : List ℕ} → AskedKind kind → Askable n → (m : Match) → StopsWithout m → {rest : List (List ℕ) → Check Step}
        → ((ds : List (List ℕ)) → Has t kind n (items ds) → Fine (StepKept c) (rest ds)) → Fine (StepKept c) (own_question m k kind n rest)
    unfolding own_reply
    own_fine {kind} {n} q h m w {rest} f = alike_ask (asked q h) reply
      where
        reply : (r : Reply) → Has t kind n r → Fine (StepKept c) (own_reply m k rest r)
        reply failed e = step_fine m w
        reply (items []) e = void_fine
        reply (items (d ∷ ds)) e = f (d ∷ ds) e

    -- what a asks of a name, a host of mx and a name of ptr
    module _ (client : Address) where
      ask_a_fine : (n : ℕ) (m : List ℕ) → Askable m → Fine (StepKept c) (ask_a client n k m)
      ask_a_fine n m h = own_fine (of_address client) h (stop 5) (λ z. omega (arith, z)) (λ ds _. matched_fine (any_matches client n ds))

      pub host_fine : (n : ℕ) (d : List ℕ) → (Sound → is_item 15 d ≡ true) → Fine (StepKept c) (ask_host client n d k)
      unfolding ask_host
      host_fine n d h = alike_cond (eqb (length d) 2) (λ _. no_fine) (λ e. ask_a_fine n (drop 2 d) (λ s. host_ok d (h s) e))

      pub name_fine : (m n : List ℕ) → Askable n → Fine (StepKept c) (ask_name client m n k)
      name_fine m n h = own_fine (of_address client) h no tt (λ ds _. matched_fine (includes_client client (items ds) && at_or_below n m))

  -- the hosts of mx and the names of ptr
  pub hosts_fine : (client : Address) (n : ℕ) (ds : List (List ℕ)) → (Sound → all (is_item 15) ds ≡ true)
      → (k : Counts) → Bounded c k → Fine (StepKept c) (until_match (ask_host client n) ds k)
  hosts_fine client n ds h = until_match_fine (is_item 15) (ask_host client n) (λ d q k b. host_fine k b client n d q) ds h

  names_fine : (client : Address) (m : List ℕ) (ns : List (List ℕ)) → (Sound → all is_table_name ns ≡ true)
      → (k : Counts) → Bounded c k → Fine (StepKept c) (until_match (ask_name client m) ns k)
  names_fine client m ns h = until_match_fine is_table_name (ask_name client m) (λ n q k b. name_fine k b client m n q) ns h

  module _ (k : Counts) (b : Bounded c k) where
    -- what exists, mx and ptr ask of a name m
    module _ (client : Address) (m : List ℕ) (h : Askable m) where
      ask_exists_fine : Fine (StepKept c) (ask_exists k m)
      ask_exists_fine = own_fine k b of_a h (stop 5) (λ z. omega (arith, z)) (λ ds _. yes_fine k b)

      ask_mx_fine : (n : ℕ) → Fine (StepKept c) (ask_mx client n k m)
      unfolding mx_items
      ask_mx_fine n =
          own_fine k b of_mx h (stop 5) (λ z. omega (arith, z))
          (λ ds e. alike_cond (leb (length ds) most_hosts)
          (λ _. hosts_fine client n (by_preference ds) (λ s. hosts_ok ds (fits s 15 m (items ds) e)) k b) (λ _. step_fine k b (stop 6) (λ z. omega (arith, z))))

      ask_ptr_fine : Fine (StepKept c) (ask_ptr client k m)
      unfolding names_of
      ask_ptr_fine =
          own_fine k b of_ptr (λ _. reversed_ok client) no tt
          (λ ds e. names_fine client m (names_of (items ds)) (λ s. names_ok (items ds) (fits s 12 _ (items ds) e)) k b)

    having_fine : {A : Type 0} (x : Optional A) {go : A → Check Step} → ((a : A) → Fine (StepKept c) (go a)) → Fine (StepKept c) (having x go k)
    unfolding having
    having_fine absent f = no_fine k b
    having_fine (present a) f = f a

    network_fine : (mail : Mail) (a : Optional Address) (n : Optional ℕ) → Fine (StepKept c) (network_step mail a n k)
    unfolding network_step
    network_fine mail a n = having_fine a (λ x. having_fine n (λ l. matched_fine k b (matches_at mail.client x l)))

    -- a result without an explanation
    ended_fine : (v : ℕ) → NoFail v → Fine (ResultKept Sound c) (ended v k)
    ended_fine v n = alike_give (plain v k (within b) n)

    -- record lookup
    selection_ends : (ss : List (List ℕ)) → EndsWithout (selection ss)
    unfolding selection
    selection_ends [] = λ z. omega (arith, z)
    selection_ends (s ∷ []) = tt
    selection_ends (s ∷ u ∷ ss) = λ z. omega (arith, z)

    lookup_fine : (d : List ℕ) → Askable d → Fine EndsWithout (record_lookup d k)
    unfolding record_lookup text_reply
    lookup_fine d h = alike_ask (asked k b of_txt h) (λ r _. reply r)
      where
        reply : (r : Reply) → Fine EndsWithout (text_reply r)
        reply failed = alike_give (λ z. omega (arith, z))
        reply (items ss) = alike_give (selection_ends (versioned ss))

  -- what counts as a lookup
  counting_fine : {A : Type 0} {P : A → Type 0} (refused go go' : Counts → Check A) (k : Counts) → Bounded c k → FineBoth P (refused k) (refused k)
      → (Bounded c (begun k) → FineBoth P (go (begun k)) (go' (begun k))) → FineBoth P (counting refused go k) (counting refused go' k)
  unfolding counting
  counting_fine refused go go' k b r g = alike_cond (ltb k.lookups most_lookups) (λ e. g (bounded_begun b (ltb-true k.lookups most_lookups e))) (λ _. r)

  -- a mechanism that makes its name and asks
  counted_fine : (mail : Mail) (d : List ℕ) → Askable d → (spec : Optional (List ℕ)) (go : Counts → List ℕ → Check Step)
      → ((k : Counts) → Bounded c k → (m : List ℕ) → Askable m → Fine (StepKept c) (go k m))
      → (k : Counts) → Bounded c k → Fine (StepKept c) (counted_step mail d spec go k)
  unfolding counted_step target_step at_target NamingOk
  counted_fine mail d h spec go f k b = counting_fine _ _ _ k b (step_fine k b (stop 6) (λ z. omega (arith, z))) (λ l. alike_bind (target_or_fine (begun k) l mail d h spec) (with l))
    where
      with : Bounded c (begun k) → (x : Naming) → NameFits x → Fine (StepKept c) (at_target (go (begun k)) (begun k) x)
      with l malformed q = no_fine (begun k) l
      with l (name m) q = f (begun k) l m q

  -- a mechanism other than include
  plain_fine : (mail : Mail) (d : List ℕ) → Askable d → (x : Said) (k : Counts) → Bounded c k → Fine (StepKept c) (plain_step mail d x k)
  unfolding plain_step a_step mx_step ptr_step exists_step
  plain_fine mail d h x k b =
      alike_cond (same x.name (bytes "all")) (λ _. yes_fine k b)
      (λ _. alike_cond (same x.name (bytes "a")) (λ _. having_fine k b (length_for client x) (λ n. asks x.argument (λ k b m q. ask_a_fine k b client n m q)))
      (λ _. alike_cond (same x.name (bytes "mx")) (λ _. having_fine k b (length_for client x) (λ n. asks x.argument (λ k b m q. ask_mx_fine k b client m q n)))
      (λ _. alike_cond (same x.name (bytes "ptr")) (λ _. asks x.argument (λ k b m q. ask_ptr_fine k b client m q))
      (λ _. alike_cond (same x.name (bytes "exists")) (λ _. having_fine k b x.argument (λ spec. asks (present spec) (λ k b m q. ask_exists_fine k b client m q)))
      (λ _. alike_cond (same x.name (bytes "ip4")) (λ _. network_fine k b mail x.address x.four)
      (λ _. alike_cond (same x.name (bytes "ip6")) (λ _. network_fine k b mail x.address x.six)
      (λ _. no_fine k b)))))))
    where
      client : Address
      client = mail.client

      asks : (spec : Optional (List ℕ)) {go : Counts → List ℕ → Check Step} → ((k : Counts) → Bounded c k → (m : List ℕ) → Askable m → Fine (StepKept c) (go k m))
          → Fine (StepKept c) (counted_step mail d spec go k)
      asks spec f = counted_fine mail d h spec _ f k b

  -- with two checks one level down that settle the same and are fine
  module _ (mail : Mail) (sub sub' : Sub)
      (below : (x : Naming) (k : Counts) → Bounded c k → c.lookups < k.lookups → NameFits x → FineBoth (ResultKept Sound c) (sub x k) (sub' x k)) where
    begun_check_fine : (d spec : List ℕ) (k : Counts) → Bounded c k → FineBoth (ResultKept Sound c) (begun_check mail sub d spec k) (begun_check mail sub' d spec k)
    unfolding begun_check check_target
    begun_check_fine d spec k b =
        counting_fine _ _ _ k b (ended_fine k b 6 (λ z. omega (arith, z)))
        (λ l. alike_bind (target_fine (begun k) l mail d spec) (λ x h. below x (begun k) l (omega (arith, b.lookups_grow)) h))

    include_fine : (d spec : List ℕ) (k : Counts) → Bounded c k → FineBoth (StepKept c) (include_step mail sub d spec k) (include_step mail sub' d spec k)
    unfolding include_step include_of
    include_fine d spec k b = alike_bind (begun_check_fine d spec k b) (λ r h. alike_give (include_match_kept r.value r.counts h.reported))

    no_match_fine : (d : List ℕ) (spec : Optional (List ℕ)) (k : Counts) → Bounded c k → FineBoth (ResultKept Sound c) (no_match mail sub d spec k) (no_match mail sub' d spec k)
    unfolding no_match redirect_of
    no_match_fine d absent k b = ended_fine k b 1 (λ z. omega (arith, z))
    no_match_fine d (present spec) k b = alike_bind (begun_check_fine d spec k b) (λ r h. alike_give (redirect_kept r h))

    after_step_fine : (d : List ℕ) → Askable d → (ts : List Placed) (sign : Optional ℕ) (m : Match) (k : Counts) (rest rest' : Counts → Check Result) → MatchKept c m k
        → ((k : Counts) → Bounded c k → FineBoth (ResultKept Sound c) (rest k) (rest' k)) → FineBoth (ResultKept Sound c) (after_step d ts sign m k rest) (after_step d ts sign m k rest')
    unfolding after_step match_result signed MatchKept
    after_step_fine d h ts sign yes k rest rest' b f = by (sign_result sign)
      where
        by : (v : Optional ℕ) → FineBoth (ResultKept Sound c) (match_result d ts v k rest) (match_result d ts v k rest')
        by absent = f k b
        by (present v) = alike_give (signed_kept d h ts v k b)
    after_step_fine d h ts sign no k rest rest' b f = f k b
    after_step_fine d h ts sign (stop v) k rest rest' r f = alike_give (plain v k r.0 r.1)

    -- a domain whose name is followed
    module _ (d : List ℕ) (h : Askable d) where
      mechanism_fine : (x : Said) (k : Counts) → Bounded c k → FineBoth (StepKept c) (mechanism_step mail sub d x k) (mechanism_step mail sub' d x k)
      unfolding mechanism_step having
      mechanism_fine x k b = alike_cond (same x.name (bytes "include")) (λ _. include x.argument) (λ _. plain_fine mail d h x k b)
        where
          include : (spec : Optional (List ℕ))
              → FineBoth (StepKept c) (having spec (λ s. include_step mail sub d s k) k) (having spec (λ s. include_step mail sub' d s k) k)
          include absent = no_fine k b
          include (present s) = include_fine d s k b

      pub term_fine : (x : Said) (sign : Optional ℕ) (k : Counts) → Bounded c k → FineBoth (StepKept c) (term_step mail sub d x sign k) (term_step mail sub' d x sign k)
      unfolding term_step
      term_fine x absent k b = no_fine k b
      term_fine x (present sign) k b = mechanism_fine x k b

      terms_fine : (all_terms ts : List Placed) (k : Counts) → Bounded c k → FineBoth (ResultKept Sound c) (try_terms mail sub d all_terms ts k) (try_terms mail sub' d all_terms ts k)
      unfolding try_terms
      terms_fine all_terms [] k b = no_match_fine d (modifier_of (bytes "redirect") all_terms) k b
      terms_fine all_terms (x ∷ ts) k b =
          alike_bind (term_fine x.said x.said.sign k b)
          (λ s q. after_step_fine d h all_terms x.said.sign s.match s.counts _ _ q (terms_fine all_terms ts))

      after_lookup_fine : (k : Counts) → Bounded c k → (x : Selection) → EndsWithout x → FineBoth (ResultKept Sound c) (after_lookup mail sub d k x) (after_lookup mail sub' d k x)
      unfolding after_lookup read_outcome
      after_lookup_fine k b (ends v) n = ended_fine k b v n
      after_lookup_fine k b (one s) n = read (read_record s)
        where
          read : (a : Either ℕ Refusal) → FineBoth (ResultKept Sound c) (read_outcome mail sub d s a k) (read_outcome mail sub' d s a k)
          read (Ok next) = terms_fine (terms_of s next) (terms_of s next) k b
          read (Err e) = ended_fine k b 6 (λ z. omega (arith, z))

    pub check_name_fine : (x : Naming) (k : Counts) → Bounded c k → NameFits x → FineBoth (ResultKept Sound c) (check_name mail sub x k) (check_name mail sub' x k)
    unfolding check_name NamingOk
    check_name_fine malformed k b h = ended_fine k b 0 (λ z. omega (arith, z))
    check_name_fine (name d) k b h =
        alike_cond (leb (label_count d) 1) (λ _. ended_fine k b 0 (λ z. omega (arith, z))) (λ _. alike_bind (lookup_fine k b d h) (λ x n. after_lookup_fine d h k b x n))

  pub check_fine : (n : ℕ) (mail : Mail) (x : Naming) (k : Counts) → Bounded c k → NameFits x → Fine (ResultKept Sound c) (check n mail x k)
  unfolding check
  check_fine zero mail x k b h = ended_fine k b 6 (λ z. omega (arith, z))
  check_fine (suc n) mail x k b h = check_name_fine mail (check n mail) (check n mail) (λ x k b _ h. check_fine n mail x k b h) x k b h

  -- the explanation
  module _ (mail : Mail) (k : Counts) (b : Bounded c k) {P : List ℕ → Type 0} (empty : P []) (said : (s : List ℕ) → P (shown s)) (d : List ℕ) where
    explained_fine : (ss : List (List ℕ)) → Fine P (explained mail d k ss)
    unfolding explained gives_shown
    explained_fine [] = alike_give empty
    explained_fine (s ∷ []) =
        alike_cond (is_macro_string Form.Explanation s) (λ _. alike_bind (expanded_fine k b mail d Form.Explanation s) (λ x _. alike_give (said x)))
        (λ _. alike_give empty)
    explained_fine (s ∷ u ∷ r) = alike_give empty

    explain_reply_fine : (r : Reply) → Fine P (explain_reply mail d k r)
    unfolding explain_reply
    explain_reply_fine failed = alike_give empty
    explain_reply_fine (items ss) = explained_fine ss

    explain_name_fine : (x : Naming) → NameFits x → Fine P (explain_name mail d k x)
    unfolding explain_name NamingOk
    explain_name_fine malformed h = alike_give empty
    explain_name_fine (name n) h = alike_ask (asked k b of_txt h) (λ r _. explain_reply_fine r)

  pub explanation_fine : (mail : Mail) (d : List ℕ) (exp : Optional (List ℕ)) (k : Counts) → Bounded c k → Fine (λ x. length x ≤ most_text) (explanation mail d exp k)
  unfolding explanation
  explanation_fine mail d absent k b = alike_give (omega arith)
  explanation_fine mail d (present exp) k b = alike_bind (target_fine k b mail d exp) (explain_name_fine mail k b (omega arith) shown_short d)

  pub explanation_of_fine : (mail : Mail) (f : Optional Failing) (k : Counts) → ((x : Failing) → f ≡ present x → Bounded c k)
      → Fine (TextKept f) (explanation_of mail f k)
  unfolding explanation_of
  explanation_of_fine mail absent k h = alike_give (record { unexplained = λ _. refl; short = omega arith })
  explanation_of_fine mail (present f) k h =
      alike_weaken (λ x l. record { unexplained = λ e. absurd (let z : ◌≡◌ {A = ℕ} 0 1 = cc in omega arith); short = l }) (explanation_fine mail f.domain f.exp k (h f refl))
