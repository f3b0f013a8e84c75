-- The tests that both calls begin with: what the code's refusal says, that the first test that fails is the only one, and that a table is either refused
-- or accepted. From the definitions of Evaluating and answer_table's laws of the check.
use Rattle.std.proofs.Common.{true, false, Ok, Err, Result as Either}
use Prim.Native.Nat.{ℕ, ◌≤◌}
use mathlib.Core.Path.{◌≡◌, refl, sym, ap, subst, ◌∙◌}
use mathlib.Core.List.{List}
use mathlib.Core.Bool.{Bool, cond, ◌&&◌}
use native.Mathlib.Omega.{arith}
use lib.Dec.{eqb, leb}
use lib.ListN.{length}
use Rattle.text.proofs.Laws.Tests.{true_false}
use Rattle.answer_table.specs.Layout.{Entry}
use Rattle.answer_table.specs.declared.TableError.{TableError}
use Rattle.answer_table.specs.declared.TableError.TheVariants.{TooLong, Malformed, Repeated}
use Rattle.answer_table.specs.Numbers.{nowhere, byte, Report, accepted, refused, reported}
use Rattle.answer_table.specs.Answers.{TableAnswers, Encoded, most_bytes, whole}
use Rattle.answer_table.specs.Reader.{check_table}
use Rattle.answer_table.proofs.Laws.Checks.{table_answers, table_answers_is}
use Rattle.macros.specs.Expansion.{is_sender, is_host, is_short}
use Rattle.macros.proofs.Laws.Senders.{sender_bound}
use Rattle.evaluation.specs.declared.Refusal.{Refusal}
use Rattle.evaluation.specs.Evaluating.{Refuses, no_sender, no_host, long_domain, no_room, Fits, refusal_of}

module _ (domain sender helo receiver : List ℕ) (m : ℕ) (r : Either Unit Refusal) (e : r ≡ refusal_of domain sender helo receiver m) (room : Bool) where
  -- a refusal
  pub refused_by_lem : (x : Refusal) → r ≡ Err x → (leb 253 m ≡ false → room ≡ false) → Refuses domain sender helo receiver room x
  unfolding refusal_of
  refused_by_lem x k f = by (is_sender sender) (is_host helo && is_host receiver) (is_short domain) (leb 253 m) refl refl refl refl (sym k ∙ e)
    where
      by : (s h d r : Bool) → is_sender sender ≡ s → (is_host helo && is_host receiver) ≡ h → is_short domain ≡ d → leb 253 m ≡ r
          → Err x ≡ cond s (cond h (cond d (cond r (Ok (tt {0})) (Err Refusal.Room)) (Err Refusal.Domain)) (Err Refusal.Host)) (Err Refusal.Sender)
          → Refuses domain sender helo receiver room x
      by false h d r es eh ed er q = let i : x ≡ Refusal.Sender = cc in rw i (no_sender es)
      by true false d r es eh ed er q = let i : x ≡ Refusal.Host = cc in rw i (no_host es eh)
      by true true false r es eh ed er q = let i : x ≡ Refusal.Domain = cc in rw i (long_domain es eh ed)
      by true true true false es eh ed er q = let i : x ≡ Refusal.Room = cc in rw i (no_room es eh ed (f er))
      by true true true true es eh ed er q = let z : ◌≡◌ {A = ℕ} 0 1 = cc in absurd (omega arith)

  -- none
  pub fits_by : (z : Unit {0}) → r ≡ Ok z → (leb 253 m ≡ true → room ≡ true) → Fits domain sender helo receiver room
  unfolding refusal_of
  fits_by z k f = by (is_sender sender) (is_host helo && is_host receiver) (is_short domain) (leb 253 m) refl refl refl refl (sym k ∙ e)
    where
      by : (s h d r : Bool) → is_sender sender ≡ s → (is_host helo && is_host receiver) ≡ h → is_short domain ≡ d → leb 253 m ≡ r
          → Ok z ≡ cond s (cond h (cond d (cond r (Ok (tt {0})) (Err Refusal.Room)) (Err Refusal.Domain)) (Err Refusal.Host)) (Err Refusal.Sender)
          → Fits domain sender helo receiver room
      by false h d r es eh ed er q = let i : ◌≡◌ {A = ℕ} 0 1 = cc in absurd (omega arith)
      by true false d r es eh ed er q = let i : ◌≡◌ {A = ℕ} 0 1 = cc in absurd (omega arith)
      by true true false r es eh ed er q = let i : ◌≡◌ {A = ℕ} 0 1 = cc in absurd (omega arith)
      by true true true false es eh ed er q = let i : ◌≡◌ {A = ℕ} 0 1 = cc in absurd (omega arith)
      by true true true true es eh ed er q = record { sender_fits = es; hosts_fit = eh; domain_fits = ed; has_room_lem = f er }

-- a sender that fits
pub sender_small : (domain sender helo receiver : List ℕ) (m : ℕ) (r : Either Unit Refusal) → r ≡ refusal_of domain sender helo receiver m → (z : Unit {0}) → r ≡ Ok z
    → length sender ≤ 320
sender_small domain sender helo receiver m r e z h =
    sender_bound sender (is_sender sender) refl (fits_by domain sender helo receiver m r e true z h (λ q. refl)).sender_fits

module _ {domain sender helo receiver : List ℕ} {room : Bool} where
  -- one test fails first, or none does
  pub refuses_fits : {e : Refusal} → Refuses domain sender helo receiver room e → Fits domain sender helo receiver room → ⊥
  refuses_fits (no_sender s) f = true_false _ f.sender_fits s
  refuses_fits (no_host s h) f = true_false _ f.hosts_fit h
  refuses_fits (long_domain s h d) f = true_false _ f.domain_fits d
  refuses_fits (no_room s h d r) f = true_false _ f.has_room_lem r

  pub refuses_one : {e i : Refusal} → Refuses domain sender helo receiver room e → Refuses domain sender helo receiver room i → e ≡ i
  refuses_one (no_sender s) (no_sender s') = refl
  refuses_one (no_sender s) (no_host s' h') = absurd (true_false _ s' s)
  refuses_one (no_sender s) (long_domain s' h' d') = absurd (true_false _ s' s)
  refuses_one (no_sender s) (no_room s' h' d' r') = absurd (true_false _ s' s)
  refuses_one (no_host s h) (no_sender s') = absurd (true_false _ s s')
  refuses_one (no_host s h) (no_host s' h') = refl
  refuses_one (no_host s h) (long_domain s' h' d') = absurd (true_false _ h' h)
  refuses_one (no_host s h) (no_room s' h' d' r') = absurd (true_false _ h' h)
  refuses_one (long_domain s h d) (no_sender s') = absurd (true_false _ s s')
  refuses_one (long_domain s h d) (no_host s' h') = absurd (true_false _ h h')
  refuses_one (long_domain s h d) (long_domain s' h' d') = refl
  refuses_one (long_domain s h d) (no_room s' h' d' r') = absurd (true_false _ d' d)
  refuses_one (no_room s h d r) (no_sender s') = absurd (true_false _ s s')
  refuses_one (no_room s h d r) (no_host s' h') = absurd (true_false _ h h')
  refuses_one (no_room s h d r) (long_domain s' h' d') = absurd (true_false _ d d')
  refuses_one (no_room s h d r) (no_room s' h' d' r') = refl

-- a table that is refused is not accepted, and is refused in one way
error_of : Report → TableError
error_of (accepted n) = TooLong
error_of (refused n nowhere) = TooLong
error_of (refused n (byte p)) = cond (eqb n 25) (Malformed p) (Repeated p)

error_is : (e : TableError) → error_of (reported (Err e)) ≡ e
unfolding error_of
error_is TooLong = refl
error_is (Malformed p) = refl
error_is (Repeated p) = refl

pub not_accepted : (e : TableError) (n : ℕ) → reported (Err e) ≡ accepted n → ⊥
not_accepted TooLong n i = let z : ◌≡◌ {A = ℕ} 0 1 = cc in omega arith
not_accepted (Malformed p) n i = let z : ◌≡◌ {A = ℕ} 0 1 = cc in omega arith
not_accepted (Repeated p) n i = let z : ◌≡◌ {A = ℕ} 0 1 = cc in omega arith

pub reported_one : (x y : TableError) → reported (Err x) ≡ reported (Err y) → x ≡ y
reported_one x y i = sym (error_is x) ∙ ap error_of i ∙ error_is y

pub table_accepted : {t : List ℕ} {es : List Entry} (x : TableError) → length t ≤ most_bytes → Encoded t es → TableAnswers t (reported (Err x)) → ⊥
table_accepted {es = es} x h e c = not_accepted x (length es) (table_answers_is c ∙ sym (table_answers_is (whole h e)))

pub table_refused_one : {t : List ℕ} (x y : TableError) → TableAnswers t (reported (Err x)) → TableAnswers t (reported (Err y)) → x ≡ y
table_refused_one x y c d = reported_one x y (table_answers_is c ∙ sym (table_answers_is d))

-- what the check of a table answered
pub table_said : {t : List ℕ} {a : Either ℕ TableError} → a ≡ check_table t → (y : Either ℕ TableError) → a ≡ y → TableAnswers t (reported y)
table_said {t} q y k = subst (λ (z : Either ℕ TableError). TableAnswers t (reported z)) (sym q ∙ k) (table_answers t)
