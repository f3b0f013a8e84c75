-- What a term of each case comes to, whatever the check one level down. One rule for each way out of `try_plain`. From the terms' names in a reading.
use Rattle.std.proofs.Common.{true, false, Option, Some, None, Ok, Err, Bor}
use Prim.Native.Nat.{ℕ}
use mathlib.Core.Path.{◌≡◌, refl, ◌∙◌}
use mathlib.Core.List.{List}
use mathlib.Core.Bool.{Bool, cond}
use lib.Dec.{eqb}
use borrow.Author.Tests.{eq-eqb, ne_eqb}
use Rattle.text.specs.Bytes.{part}
use Rattle.text.specs.Lists.{same}
use Rattle.text.specs.Texts.{bytes}
use Rattle.address.specs.declared.Address.{Address}
use Rattle.address.specs.declared.Address.TheVariants.{IPv4, IPv6}
use Rattle.address.specs.Matching.{matches_at}
use Rattle.records.specs.Readings.{Optional, absent, present, hosts}
use Rattle.records.specs.Numbers.{optional, said_of}
use Rattle.records.specs.declared.Term.{Term}
use Rattle.rules.specs.declared.Progress.{Progress}
use Rattle.rules.specs.declared.Ending.{Ending}
use Rattle.rules.specs.Tables.{table_in}
use Rattle.rules.specs.Mechanisms.{Mail, matched, counted_step, a_step, mx_step, ptr_step, exists_step}
use Rattle.rules.specs.Evaluation.{Sub, having, length_for, network_step, plain_step, mechanism_step, term_step}
use Rattle.rules.specs.Outcomes.{Matched, Unchanged, Steps}
use Rattle.mechanism_lookups.proofs.Laws.Replies.{match_says}
use Rattle.target_name.specs.Choosing.{spec_of}
use Rattle.mechanisms.specs.declared.Question.{Question}
use Rattle.mechanisms.specs.declared.Tried.{Tried}
use Rattle.mechanisms.specs.Terms.{asker, length_of, given_at, TriedIs}

-- a term that asks nothing
module _ (t : List ℕ) (mail : Mail) (d w : List ℕ) (x : Term) (p : Progress) (b : List ℕ) where
  pub tried_all : (sign : ℕ) → x ≡ Term.All sign → TriedIs t mail d w x p p (Ok (Tried.Matches true)) b b
  unfolding TriedIs term_step mechanism_step plain_step said_of same
  tried_all sign e sub = rw e (match_says (table_in t) true p.counts p.life b)

  pub tried_redirect : (from to : ℕ) → x ≡ Term.Redirect from to → TriedIs t mail d w x p p (Ok (Tried.Matches false)) b b
  unfolding TriedIs term_step said_of
  tried_redirect from to e sub = rw e (match_says (table_in t) false p.counts p.life b)

  pub tried_explanation : (from to : ℕ) → x ≡ Term.Explanation from to → TriedIs t mail d w x p p (Ok (Tried.Matches false)) b b
  unfolding TriedIs term_step said_of
  tried_explanation from to e sub = rw e (match_says (table_in t) false p.counts p.life b)

  pub tried_unknown : (n to : ℕ) → x ≡ Term.Unknown n to → TriedIs t mail d w x p p (Ok (Tried.Matches false)) b b
  unfolding TriedIs term_step said_of
  tried_unknown n to e sub = rw e (match_says (table_in t) false p.counts p.life b)

  network_says : (sign from to n : ℕ) (a : Address) (sub : Sub)
      → Steps t (term_step mail sub d (said_of w (Term.Network sign from to a n)) (said_of w (Term.Network sign from to a n)).sign p.counts) p p (Ok (matches_at mail.client a n)) b b
  unfolding term_step mechanism_step plain_step network_step having said_of same
  network_says sign from to n (IPv4 v) sub = match_says (table_in t) (matches_at mail.client (IPv4 v) n) p.counts p.life b
  network_says sign from to n (IPv6 g k) sub = match_says (table_in t) (matches_at mail.client (IPv6 g k) n) p.counts p.life b

  pub tried_network : (sign from to n : ℕ) (a : Address) → x ≡ Term.Network sign from to a n → (m : Bool) → m ≡ matches_at mail.client a n
      → TriedIs t mail d w x p p (Ok (Tried.Matches m)) b b
  unfolding TriedIs
  tried_network sign from to n a e m i sub = rw (e, i) (network_says sign from to n a sub)

  pub tried_include : (sign from to : ℕ) → x ≡ Term.Include sign from to → TriedIs t mail d w x p p (Ok (Tried.Include (record { from = from; to = to }))) b b
  unfolding TriedIs term_step mechanism_step having said_of same
  tried_include sign from to e = (record { counts_kept = refl; life_kept = refl; name_kept = refl }, λ sub. rw e)

-- those that ask for a name
length_is : (client : Address) (w name : List ℕ) (sign from to four six : ℕ) → length_for client (hosts name sign (optional w from to) four six) ≡ present (length_of client four six)
unfolding length_for length_of
length_is (IPv4 v) w name sign from to four six = refl
length_is (IPv6 h l) w name sign from to four six = refl

-- whatever the check one level down
abbrev pub Tries : (t : List ℕ) → Mail → List ℕ → List ℕ → Term → (p q : Progress) → Matched → (before after : List ℕ) → Type 0
Tries t mail d w x p q r b a = (sub : Sub) → Steps t (term_step mail sub d (said_of w x) (said_of w x).sign p.counts) p q r b a

module _ (t : List ℕ) (mail : Mail) (d w : List ℕ) (x : Term) (p q : Progress) (b a : List ℕ) where
  pub tried_asked : (m : Bool) → Tries t mail d w x p q (Ok m) b a → TriedIs t mail d w x p q (Ok (Tried.Matches m)) b a
  unfolding TriedIs
  tried_asked m f = f

  pub tried_ended : (e : Ending) → Tries t mail d w x p q (Err e) b a → TriedIs t mail d w x p q (Err e) b a
  unfolding TriedIs
  tried_ended e f = f

  module _ (r : Matched) (sign from to four six : ℕ) (y : Optional (List ℕ)) (j : y ≡ given_at w from to) (n : ℕ) (k : n ≡ length_of mail.client four six) where
    pub tries_a : x ≡ Term.A sign from to four six → Steps t (counted_step mail d y (asker Question.A mail.client n) p.counts) p q r b a → Tries t mail d w x p q r b a
    unfolding term_step mechanism_step plain_step having said_of same a_step asker
    tries_a e s sub = rw (e, length_is mail.client w (bytes "a") sign from to four six, ← j, ← k) s

    pub tries_mx : x ≡ Term.Mx sign from to four six → Steps t (counted_step mail d y (asker Question.Mx mail.client n) p.counts) p q r b a → Tries t mail d w x p q r b a
    unfolding term_step mechanism_step plain_step having said_of same mx_step asker
    tries_mx e s sub = rw (e, length_is mail.client w (bytes "mx") sign from to four six, ← j, ← k) s

  module _ (r : Matched) (sign from to n : ℕ) where
    pub tries_ptr : x ≡ Term.Ptr sign from to → (y : Optional (List ℕ)) → y ≡ given_at w from to
        → Steps t (counted_step mail d y (asker Question.Ptr mail.client n) p.counts) p q r b a → Tries t mail d w x p q r b a
    unfolding term_step mechanism_step plain_step said_of same ptr_step asker
    tries_ptr e y j s sub = rw (e, ← j) s

    pub tries_exists : x ≡ Term.Exists sign from to → (y : Optional (List ℕ)) → y ≡ present (part w from to)
        → Steps t (counted_step mail d y (asker Question.Exists mail.client n) p.counts) p q r b a → Tries t mail d w x p q r b a
    unfolding term_step mechanism_step plain_step having said_of same exists_step asker
    tries_exists e y j s sub = rw (e, ← j) s

-- `given`, and the domain-spec of exists
module _ (w : List ℕ) (from to : ℕ) where
  pub given_none : from ≡ to → spec_of None ≡ given_at w from to
  unfolding spec_of
  given_none h = rw (eq-eqb from to h)

  module _ (s : Bor (List ℕ)) (e : s.now ≡ part w from to) where
    pub given_some : (from ≡ to → ⊥) → spec_of (Some s) ≡ given_at w from to
    unfolding spec_of
    given_some h = rw (ne_eqb from to h, e)

    pub given_always : spec_of (Some s) ≡ present (part w from to)
    unfolding spec_of
    given_always = rw e
