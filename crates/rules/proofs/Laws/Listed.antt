-- No check is left out: a check that `Begins` doesn't list has no part in what the terms of a record come to, and one that `Reaches` doesn't list none
-- in what an evaluation comes to. By induction on the terms and on the lookups left, from what a table settles of one check after another (Runs) and
-- the unfolding of a check (Enough).
use Rattle.std.proofs.Common.{Option, Ok, Err, Result as Either}
use Prim.Native.Nat.{ℕ, zero, suc, ◌+◌, ◌≤◌, ◌<◌}
use native.Mathlib.Omega.{arith}
use mathlib.Core.Path.{◌≡◌, refl, sym, ap, ◌∙◌}
use mathlib.Core.List.{List, [], ◌∷◌}
use mathlib.Core.Bool.{Bool, true, false, cond}
use lib.ListN.{length}
use lib.Dec.{ltb, leb}
use borrow.Author.Tests.{ltb-true, leb-false}
use Rattle.text.specs.Lists.{same}
use Rattle.text.specs.Texts.{bytes}
use Rattle.text.proofs.Laws.Words.{same_true}
use Rattle.domain.specs.Names.{label_count}
use Rattle.domain.specs.Normal.{Naming, name, malformed}
use Rattle.records.specs.Readings.{Optional, absent, present, Said, Placed}
use Rattle.records.specs.Grammar.{Record}
use Rattle.records.specs.Answers.{most_bytes}
use Rattle.records.specs.Reader.{read_record}
use Rattle.records.specs.declared.Refusal.{Refusal}
use Rattle.rules.specs.declared.Counts.{Counts}
use Rattle.rules.specs.Tree.{Table, Check, settled, run, SettlesTo}
use Rattle.rules.proofs.Laws.Runs.{bind_same, bind_first, settles_to}
use Rattle.rules.specs.Mechanisms.{Mail, Match, yes, no, stop, Step, target, most_lookups, begun, counting}
use Rattle.rules.specs.Evaluation.{Result, ended, Sub, check_target, begun_check, include_of, include_step, having, mechanism_step, term_step, modifier_of, redirect_of, no_match, sign_result, match_result, after_step, try_terms, terms_of, read_outcome, Selection, ends, one, record_lookup, after_lookup, check_name, check, whole}
use Rattle.rules.specs.Reached.{Selects, Begins, past_term, by_include, by_redirect, Reaches, here, below}
use Rattle.rules.proofs.Laws.Enough.{whole_unfolds}
use Rattle.rules.proofs.Laws.Signs.{Signed, AllSigned, more, reading_signed, sign_result_lem}
use Rattle.rules.proofs.Laws.Produced.{selects_is, accepted_reading}
use Rattle.rules.proofs.Laws.Reached.{begins_grows}

cond_same : {A : Type 0} (t : Table) (l : Option ℕ) (b : Bool) (x x' y y' : Check A) → (b ≡ true → run t l x ≡ run t l x') → (b ≡ false → run t l y ≡ run t l y')
    → run t l (cond b x y) ≡ run t l (cond b x' y')
cond_same t l true x x' y y' f g = f refl
cond_same t l false x x' y y' f g = g refl

-- two checks that settle the same from any lifetime
abbrev pub Equal : {A : Type 0} → Table → Check A → Check A → Type 0
Equal t m m' = (l : Option ℕ) → run t l m ≡ run t l m'

-- no match is no match
clash : no ≡ yes → ⊥
clash e = let z : ◌≡◌ {A = ℕ} 0 1 = cc in omega arith

module _ (t : Table) (mail : Mail) (sub sub' : Sub) (nothing : (k : Counts) → Equal t (sub malformed k) (sub' malformed k)) (d : List ℕ) where
  -- a check that is begun, by its target
  begun_listed : (spec : List ℕ) (c : Counts)
      → ((e : List ℕ) → c.lookups < most_lookups → SettlesTo t (target mail d spec (begun c)) (name e)
      → Equal t (sub (name e) (begun c)) (sub' (name e) (begun c)))
      → Equal t (begun_check mail sub d spec c) (begun_check mail sub' d spec c)
  unfolding begun_check counting check_target
  begun_listed spec c h l =
      cond_same t l (ltb c.lookups most_lookups) _ _ _ _
      (λ e. bind_same t l (target mail d spec (begun c)) _ _ (by (ltb-true c.lookups most_lookups e))) (λ _. refl)
    where
      by : c.lookups < most_lookups → (x : Naming) (j : Option ℕ) → run t l (target mail d spec (begun c)) ≡ settled x j → run t j (sub x (begun c)) ≡ run t j (sub' x (begun c))
      by n (name e) j g = h e n (settles_to t (target mail d spec (begun c)) (name e) l j g) j
      by n malformed j g = nothing (begun c) j

  module _ (all_terms : List Placed) where
    -- the two agree on each check that trying some terms begins
    abbrev Agree : List Placed → Counts → Type 0
    Agree ts c = (e : List ℕ) (k : Counts) → Begins t mail sub d all_terms ts c e k → Equal t (sub (name e) k) (sub' (name e) k)

    redirect_listed : (c : Counts) → Agree [] c → (spec : Optional (List ℕ)) → modifier_of (bytes "redirect") all_terms ≡ spec
        → Equal t (no_match mail sub d spec c) (no_match mail sub' d spec c)
    unfolding no_match
    redirect_listed c a absent q l = refl
    redirect_listed c a (present spec) q l =
        bind_first t l (begun_check mail sub d spec c) (begun_check mail sub' d spec c) redirect_of
        (begun_listed spec c (λ e h g. a e (begun c) (by_redirect q h g)) l)

    -- one term
    module _ (x : Placed) (ts : List Placed) (c : Counts) (a : Agree (x ∷ ts) c) where
      include_listed : (sign : ℕ) → x.said.name ≡ bytes "include" → x.said.sign ≡ present sign → (spec : Optional (List ℕ)) → x.said.argument ≡ spec
          → Equal t (having spec (λ y. include_step mail sub d y c) c) (having spec (λ y. include_step mail sub' d y c) c)
      unfolding include_step having
      include_listed sign n s absent q l = refl
      include_listed sign n s (present spec) q l =
          bind_first t l (begun_check mail sub d spec c) (begun_check mail sub' d spec c) include_of
          (begun_listed spec c (λ e h g. a e (begun c) (by_include n s q h g)) l)

      term_listed : (sign : Optional ℕ) → x.said.sign ≡ sign → Equal t (term_step mail sub d x.said sign c) (term_step mail sub' d x.said sign c)
      unfolding term_step mechanism_step
      term_listed absent s l = refl
      term_listed (present sign) s l =
          cond_same t l (same x.said.name (bytes "include")) _ _ _ _
          (λ e. include_listed sign (same_true x.said.name (bytes "include") e) s x.said.argument refl l) (λ _. refl)

    -- what follows a term, whose sign has a result where it matches
    after_listed : (sign : Optional ℕ) (m : Match) (k : Counts) (rest rest' : Counts → Check Result) → (m ≡ yes → (v : ℕ) × (sign_result sign ≡ present v))
        → (m ≡ no → Equal t (rest k) (rest' k)) → Equal t (after_step d all_terms sign m k rest) (after_step d all_terms sign m k rest')
    unfolding after_step match_result
    after_listed sign yes k rest rest' f h l = rw (f refl).1
    after_listed sign no k rest rest' f h l = h refl l
    after_listed sign (stop v) k rest rest' f h l = refl

    signed_match : (x : Said) (sign : Optional ℕ) → Signed sign → (c : Counts) (s : Step) (l j : Option ℕ) → run t l (term_step mail sub d x sign c) ≡ settled s j → s.match ≡ yes
        → (v : ℕ) × (sign_result sign ≡ present v)
    unfolding term_step run
    signed_match x absent g c s l j e m = let q : record { match = no; counts = c } ≡ s = cc in let z : no ≡ yes = ap (λ (y : Step). y.match) q ∙ m in absurd (clash z)
    signed_match x (present q) (Signed.sign h) c s l j e m = sign_result_lem q h

    all_terms_listed : (ts : List Placed) → AllSigned ts → (c : Counts) → Agree ts c → Equal t (try_terms mail sub d all_terms ts c) (try_terms mail sub' d all_terms ts c)
    unfolding try_terms
    all_terms_listed [] g c a l = redirect_listed c a (modifier_of (bytes "redirect") all_terms) refl l
    all_terms_listed (x ∷ ts) (more g gs) c a l =
        bind_same t l (term_step mail sub d x.said x.said.sign c) _ _
        (λ s j e. after_listed x.said.sign s.match s.counts _ _ (signed_match x.said x.said.sign g c s l j e)
        (λ q. all_terms_listed ts gs s.counts
        (λ f k b. a f k (past_term (settles_to t (term_step mail sub d x.said x.said.sign c) (record { match = no; counts = s.counts }) l j
        (e ∙ ap (λ (m : Match). settled (record { match = m; counts = s.counts }) j) q)) b))) j)
        ∙ bind_first t l (term_step mail sub d x.said x.said.sign c) (term_step mail sub' d x.said x.said.sign c) _
        (term_listed x ts c a x.said.sign refl l)

-- Of the terms of a record, the whole of them or the rest: two ways to check other domains that agree on every check that `Begins` lists, and on targets
-- that aren't names, make the terms come to the same.
pub terms_listed : (t : Table) (mail : Mail) (sub sub' : Sub) (d : List ℕ) (all_terms ts : List Placed) (c : Counts) → AllSigned ts
    → ((e : List ℕ) (k : Counts) → Begins t mail sub d all_terms ts c e k → Equal t (sub (name e) k) (sub' (name e) k))
    → ((k : Counts) → Equal t (sub malformed k) (sub' malformed k))
    → Equal t (try_terms mail sub d all_terms ts c) (try_terms mail sub' d all_terms ts c)
terms_listed t mail sub sub' d all_terms ts c g a nothing = all_terms_listed t mail sub sub' nothing d all_terms ts g c a

-- Of the check of a domain: the same, if they agree on every check that `Begins` lists for the record that the domain selects. Without a record, or with
-- one outside the grammar, they needn't agree on any name.
pub check_listed : (t : Table) (mail : Mail) (sub sub' : Sub) (d : List ℕ) (c : Counts)
    → ((s : List ℕ) (ts : List Placed) → Selects t d s → length s ≤ most_bytes → Record s ts
    → (e : List ℕ) (k : Counts) → Begins t mail sub d ts ts c e k → Equal t (sub (name e) k) (sub' (name e) k))
    → ((k : Counts) → Equal t (sub malformed k) (sub' malformed k))
    → Equal t (check_name mail sub (name d) c) (check_name mail sub' (name d) c)
unfolding check_name after_lookup read_outcome terms_of
check_listed t mail sub sub' d c a nothing l =
    cond_same t l (leb (label_count d) 1) _ _ _ _ (λ _. refl) (λ h. bind_same t l (record_lookup d c) _ _ (looked_up (leb-false (label_count d) 1 h)))
  where
    outcome : (s : List ℕ) → Selects t d s → (r : Either ℕ Refusal) → read_record s ≡ r
        → Equal t (read_outcome mail sub d s r c) (read_outcome mail sub' d s r c)
    outcome s p (Ok n) q j =
        let r = accepted_reading s n q in
        terms_listed t mail sub sub' d (terms_of s n) (terms_of s n) c (reading_signed r.1) (a s (terms_of s n) p r.0 r.1) nothing j
    outcome s p (Err e) q j = refl

    looked_up : 1 < label_count d → (x : Selection) (j : Option ℕ) → run t l (record_lookup d c) ≡ settled x j
        → run t j (after_lookup mail sub d c x) ≡ run t j (after_lookup mail sub' d c x)
    looked_up h (ends v) j e = refl
    looked_up h (one s) j e = outcome s ((selects_is t d s c h).1 (settles_to t (record_lookup d c) (one s) l j e)) (read_record s) refl j

malformed_is : (t : Table) (mail : Mail) (k : Counts) → Equal t (whole mail malformed k) (ended 0 k)
unfolding check check_name
malformed_is t mail k l = refl

module _ (t : Table) (mail : Mail) (sub : Sub) (nothing : (k : Counts) → Equal t (sub malformed k) (ended 0 k)) where
  -- by the lookups left
  listed_from : (n : ℕ) (d : List ℕ) (c : Counts) → 10 < n + c.lookups → c.lookups ≤ 10
      → ((e : List ℕ) (k : Counts) → Reaches t mail (name d) c e k → Equal t (sub (name e) k) (check_name mail sub (name e) k))
      → Equal t (sub (name d) c) (whole mail (name d) c)
  listed_from zero d c h l a j = absurd (omega arith)
  listed_from (suc n) d c h l a j =
      a d c here j
      ∙ sym (check_listed t mail (whole mail) sub d c
      (λ s ts p q r e k b i. let g = begins_grows t mail d ts b in sym (listed_from n e k (omega (arith, g.0)) g.1 (λ f m w. a f m (below p q r b w)) i))
      (λ k i. malformed_is t mail k i ∙ sym (nothing k i)) j)
      ∙ sym (whole_unfolds t j mail (name d) c l)

-- Of an evaluation, at any depth: a way to check domains that is the check's own equation at every check that `Reaches` lists comes to what the
-- check comes to. So whatever is done at checks that aren't listed, the evaluation is the same.
pub all_listed : (t : Table) (mail : Mail) (sub : Sub) (d : List ℕ) (c : Counts)
    → ((e : List ℕ) (k : Counts) → Reaches t mail (name d) c e k → Equal t (sub (name e) k) (check_name mail sub (name e) k))
    → ((k : Counts) → Equal t (sub malformed k) (ended 0 k))
    → c.lookups ≤ 10 → Equal t (sub (name d) c) (whole mail (name d) c)
all_listed t mail sub d c a nothing l = listed_from t mail sub nothing 11 d c (omega arith) l a
