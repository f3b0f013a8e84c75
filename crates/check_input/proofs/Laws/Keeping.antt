-- The answer depends on no byte that isn't kept, whatever follows: `kept_same`. Line by line, the input and what is kept of it have the same rest
-- after a part of which only a front is kept; and such a line is refused alike or is the same. From the definitions of Keeping and Input and the laws
-- of Addresses and Times.
use Rattle.std.proofs.Common.{None, Option, Some, Err}
use Prim.Native.Nat.{ℕ, suc, ◌+◌, ◌≤◌, ◌<◌}
use mathlib.Core.Path.{◌≡◌, refl, sym, ap, ◌∙◌}
use mathlib.Core.Logic.{◌⊎◌, inl, inr, ⊎_elim}
use mathlib.Core.List.{List, [], ◌∷◌, ◌++◌, append-nil, append_assoc}
use mathlib.Core.Bool.{Bool, true, false, ◌&&◌, and_comm}
use native.Mathlib.Omega.{arith}
use native.Mathlib.Nat.{add-suc, suc-add, zero-add}
use lib.ListN.{length, take, length-append, length-take, drop_of_length-le}
use lib.Seq.{take_all, take-nil, split_at, take-append-add, drop-append-add}
use lib.Dec.{leb, ltb, eqb}
use borrow.Author.Tests.{leb-true, lt-ltb, le-ltb, eqb-true, not-false}
use Rattle.text.specs.Bytes.{at, within, is_printable, is_visible}
use Rattle.text.specs.Lists.{all}
use Rattle.text.specs.Runs.{run}
use Rattle.text.specs.Decimal.{read_decimal}
use Rattle.text.proofs.Laws.Classes.{within_range}
use Rattle.text.proofs.Laws.Orders.{le_or_lt}
use Rattle.text.proofs.Laws.Parts.{all_rest, all_first}
use Rattle.text.proofs.Laws.Fronts.{all_take}
use Rattle.text.proofs.Laws.Runs.{run_all, run_stops, run_cons}
use Rattle.text.proofs.Laws.Tests.{and_left, cond-elim, test_fails}
use Rattle.address.specs.declared.Address.{Address}
use Rattle.networks.specs.Reader6.{read_address}
use Rattle.answer_table.specs.declared.TableError.TheVariants.{TooLong}
use Rattle.answer_table.specs.Reader.{check_in, check_table}
use Rattle.macros.specs.Expansion.{is_sender, is_host, is_short}
use Rattle.evaluation.specs.Numbers.{Outcome}
use Rattle.evaluation.specs.Evaluating.{after_table, evaluated}
use Rattle.text.specs.Fields.{is_not, first_field, after_field, after_fields, field}
use Rattle.check_input.specs.Input.{evaluates, on_client_and_time, checked_lines, checked_input}
use Rattle.check_input.specs.Keeping.{line_end, without_zeros, time_front, kept_by, fronts, kept}
use Rattle.check_input.proofs.Laws.Addresses.{long_none}
use Rattle.check_input.proofs.Laws.Times.{time_same}

-- the first line of a text that begins with bytes of a line
run_over : (p : ℕ → Bool) (u y : List ℕ) → all p u ≡ true → run p (u ++ y) ≡ length u + run p y
run_over p [] y h = sym (zero-add (run p y))
run_over p (b ∷ u) y h = run_cons p b (u ++ y) (all_first p b u h) ∙ ap suc (run_over p u y (all_rest p b u h)) ∙ sym (suc-add (length u) (run p y))

module _ (u y : List ℕ) (h : all (is_not 10) u ≡ true) where
  first_open : first_field 10 (u ++ y) ≡ u ++ first_field 10 y
  unfolding first_field
  first_open = rw (run_over (is_not 10) u y h) (take-append-add u y (run (is_not 10) y))

  after_open : after_field 10 (u ++ y) ≡ after_field 10 y
  unfolding after_field
  after_open = rw (run_over (is_not 10) u y h, ← add-suc) (drop-append-add u y (suc (run (is_not 10) y)))

module _ (r : List ℕ) where
  first_none : first_field 10 (10 ∷ r) ≡ []
  unfolding first_field run is_not
  first_none = refl

  after_none : after_field 10 (10 ∷ r) ≡ r
  unfolding after_field run is_not
  after_none = refl

-- a front of a line: nothing of nothing, and with no line end in it
record Cuts (front : List ℕ → List ℕ) : Type 0 where
  nothing : front [] ≡ []
  unended : (s : List ℕ) → all (is_not 10) s ≡ true → all (is_not 10) (front s) ≡ true

data AllCut : List (List ℕ → List ℕ) → Type 0 where
  none : AllCut []
  more : {f : List ℕ → List ℕ} {fs : List (List ℕ → List ℕ)} → Cuts f → AllCut fs → AllCut (f ∷ fs)

-- a is b with only a front of some first part
record Fronted (front : List ℕ → List ℕ) (a b : List ℕ) : Type 0 where
  first : List ℕ
  rest : List ℕ
  short : a ≡ front first ++ rest
  whole : b ≡ first ++ rest

-- line by line
data Agree : List (List ℕ → List ℕ) → (a b : List ℕ) → Type 0 where
  table : {a b : List ℕ} → Fronted (take 65536) a b → Agree [] a b
  line : {f : List ℕ → List ℕ} {fs : List (List ℕ → List ℕ)} {a b : List ℕ} → Fronted f (first_field 10 a) (first_field 10 b)
      → Agree fs (after_field 10 a) (after_field 10 b) → Agree (f ∷ fs) a b

agree_self : {fs : List (List ℕ → List ℕ)} → AllCut fs → (y : List ℕ) → Agree fs y y
agree_self none y = table (record { first = []; rest = y; short = refl; whole = refl })
agree_self (more {f = f} {fs = fs} c cs) y =
    line {f = f} {fs = fs} {a = y} {b = y} (record { first = []; rest = first_field 10 y; short = rw c.nothing; whole = refl })
    (agree_self cs (after_field 10 y))

kept_nil : {fs : List (List ℕ → List ℕ)} → AllCut fs → kept_by fs [] ≡ []
unfolding kept_by first_field line_end after_field run
kept_nil none = refl
kept_nil (more c cs) = rw (c.nothing, kept_nil cs)

module _ (f : List ℕ → List ℕ) (fs : List (List ℕ → List ℕ)) (c : Cuts f) (cs : AllCut fs) (x y : List ℕ) where
  -- the line isn't ended
  module _ (h : length x ≤ run (is_not 10) x) where
    whole_line : first_field 10 x ≡ x
    unfolding first_field
    whole_line = take_all (run (is_not 10) x) x h

    no_end : line_end x ≡ []
    unfolding line_end
    no_end = rw (le-ltb (run (is_not 10) x) (length x) h)

    no_rest : after_field 10 x ≡ []
    unfolding after_field
    no_rest = drop_of_length-le x {i = suc (run (is_not 10) x)} (omega arith)

    all_open : all (is_not 10) x ≡ true
    all_open = rw (take_all (run (is_not 10) x) x h) at (run_all (is_not 10) x)

    kept_open : kept_by (f ∷ fs) x ≡ f x
    unfolding kept_by
    kept_open = rw (whole_line, no_end, no_rest, kept_nil cs, append-nil, append-nil)

    step_open : Agree (f ∷ fs) (kept_by (f ∷ fs) x ++ y) (x ++ y)
    step_open = rw kept_open
        (line {f = f} {fs = fs} {a = f x ++ y} {b = x ++ y}
        (record { first = x; rest = first_field 10 y; short = first_open (f x) y (c.unended x all_open); whole = first_open x y all_open })
        (rw (after_open (f x) y (c.unended x all_open), after_open x y all_open) (agree_self cs (after_field 10 y))))

  -- the line is ended
  module _ (h : run (is_not 10) x < length x) where
    abbrev u : List ℕ
    u = first_field 10 x

    abbrev v : List ℕ
    v = after_field 10 x

    u_open : all (is_not 10) u ≡ true
    unfolding first_field
    u_open = run_all (is_not 10) x

    stops_at : at x (run (is_not 10) x) ≡ 10
    unfolding is_not
    stops_at = eqb-true (at x (run (is_not 10) x)) 10 (not-false (eqb (at x (run (is_not 10) x)) 10) (run_stops (is_not 10) x h))

    splits : x ≡ u ++ (10 ∷ v)
    unfolding first_field after_field
    splits = rw stops_at at (split_at x (run (is_not 10) x) 0 h)

    ended : line_end x ≡ 10 ∷ []
    unfolding line_end
    ended = rw (lt-ltb (run (is_not 10) x) (length x) h)

    kept_ended : kept_by (f ∷ fs) x ++ y ≡ f u ++ (10 ∷ (kept_by fs v ++ y))
    unfolding kept_by
    kept_ended = rw (ended, append_assoc, append_assoc)

    split_more : x ++ y ≡ u ++ (10 ∷ (v ++ y))
    split_more = ap (λ (l : List ℕ). l ++ y) splits ∙ append_assoc u (10 ∷ v) y

    first_kept : first_field 10 (kept_by (f ∷ fs) x ++ y) ≡ f u
    first_kept =
        ap (first_field 10) kept_ended ∙ first_open (f u) (10 ∷ (kept_by fs v ++ y)) (c.unended u u_open)
        ∙ rw (first_none (kept_by fs v ++ y)) (append-nil (f u))

    after_kept : after_field 10 (kept_by (f ∷ fs) x ++ y) ≡ kept_by fs v ++ y
    after_kept = ap (after_field 10) kept_ended ∙ after_open (f u) (10 ∷ (kept_by fs v ++ y)) (c.unended u u_open) ∙ after_none (kept_by fs v ++ y)

    first_whole : first_field 10 (x ++ y) ≡ u
    first_whole = ap (first_field 10) split_more ∙ first_open u (10 ∷ (v ++ y)) u_open ∙ rw (first_none (v ++ y)) (append-nil u)

    after_whole : after_field 10 (x ++ y) ≡ v ++ y
    after_whole = ap (after_field 10) split_more ∙ after_open u (10 ∷ (v ++ y)) u_open ∙ after_none (v ++ y)

    step_ended : Agree fs (kept_by fs v ++ y) (v ++ y) → Agree (f ∷ fs) (kept_by (f ∷ fs) x ++ y) (x ++ y)
    step_ended a =
        line {f = f} {fs = fs} {a = kept_by (f ∷ fs) x ++ y} {b = x ++ y}
        (record { first = u; rest = []; short = first_kept ∙ sym (append-nil (f u)); whole = first_whole ∙ sym (append-nil u) })
        (rw (after_kept, after_whole) a)

agree : {fs : List (List ℕ → List ℕ)} → AllCut fs → (x y : List ℕ) → Agree fs (kept_by fs x ++ y) (x ++ y)
unfolding kept_by
agree none x y = table (record { first = x; rest = y; short = refl; whole = refl })
agree (more {f = f} {fs = fs} c cs) x y = ⊎_elim
    (λ (h : length x ≤ run (is_not 10) x). step_open f fs c cs x y h)
    (λ (h : run (is_not 10) x < length x). step_ended f fs c cs x y h (agree cs (after_field 10 x) y))
    (le_or_lt (length x) (run (is_not 10) x))

-- the fronts that are kept
take_cuts : (n : ℕ) → Cuts (take n)
take_cuts n = record { nothing = take-nil n; unended = λ s h. all_take (is_not 10) n s h }

zeros_open : (s : List ℕ) → all (is_not 10) s ≡ true → all (is_not 10) (without_zeros s) ≡ true
unfolding without_zeros
zeros_open [] h = h
zeros_open (b ∷ s) h = cond-elim (λ (w : List ℕ). all (is_not 10) w ≡ true) (eqb b 48 && ltb 0 (length s))
    (λ _. zeros_open s (all_rest (is_not 10) b s h)) (λ _. h)

time_cuts : Cuts time_front
unfolding time_front without_zeros
time_cuts = record { nothing = refl; unended = λ s h. (take_cuts 21).unended (without_zeros s) (zeros_open s h) }

fronts_cut : AllCut fronts
fronts_cut = more (take_cuts 46) (more (take_cuts 256) (more (take_cuts 321) (more (take_cuts 256) (more (take_cuts 256) (more time_cuts none)))))

-- two texts that are the same, or for which a test fails alike
abbrev Kin : (List ℕ → Bool) → (a b : List ℕ) → Type 0
Kin p a b = (a ≡ b) ⊎ ((p a ≡ false) × (p b ≡ false))

module _ (m : ℕ) (a b : List ℕ) (f : Fronted (take m) a b) where
  same_or_long : (a ≡ b) ⊎ ((m ≤ length a) × (m ≤ length b))
  same_or_long = ⊎_elim
      (λ (h : length f.first ≤ m). inl (f.short ∙ rw (take_all m f.first h) (sym f.whole)))
      (λ (h : m < length f.first). inr (rw (f.short, length-append, length-take) (omega arith), rw (f.whole, length-append) (omega arith)))
      (le_or_lt (length f.first) m)

  kin : (p : List ℕ → Bool) → ((s : List ℕ) → p s ≡ true → length s < m) → Kin p a b
  kin p bound = ⊎_elim
      (λ (e : a ≡ b). inl e)
      (λ (q : (m ≤ length a) × (m ≤ length b)).
      inr (test_fails (p a) (λ e. omega (arith, bound a e, q.0)), test_fails (p b) (λ e. omega (arith, bound b e, q.1))))
      same_or_long

sender_bound : (s : List ℕ) → is_sender s ≡ true → length s < 321
unfolding is_sender
sender_bound s h = omega (arith, (within_range 1 320 (length s) (and_left (within 1 320 (length s)) (all is_printable s) h)).1)

host_bound : (s : List ℕ) → is_host s ≡ true → length s < 256
unfolding is_host
host_bound s h = omega (arith, leb-true (length s) 255 (and_left (leb (length s) 255) (all is_visible s) h))

short_bound : (s : List ℕ) → is_short s ≡ true → length s < 256
unfolding is_short
short_bound s h = omega (arith, leb-true (length s) 255 h)

long_table : (t : List ℕ) → 65536 ≤ length t → check_table t ≡ Err TooLong
unfolding check_in
long_table t h = rw (lt-ltb 65535 (length t) (omega arith))

client_same : (a b : List ℕ) → Fronted (take 46) a b → read_address a ≡ read_address b
client_same a b f = ⊎_elim
    (λ (e : a ≡ b). ap read_address e)
    (λ (q : (46 ≤ length a) × (46 ≤ length b)). long_none a (omega (arith, q.0)) ∙ sym (long_none b (omega (arith, q.1))))
    (same_or_long 46 a b f)

seconds_same : (a b : List ℕ) → Fronted time_front a b → read_decimal 18446744073709551615 a ≡ read_decimal 18446744073709551615 b
seconds_same a b f = rw (f.short, f.whole) (time_same f.rest f.first)

-- an evaluation of such texts
module _ (client : Address) (seconds : ℕ) (name text : List ℕ) where
  sender_kin : (d s s' h v t : List ℕ) → Kin is_sender s s'
      → evaluated client d s h v seconds t name text ≡ evaluated client d s' h v seconds t name text
  unfolding evaluated
  sender_kin d s s' h v t k = ⊎_elim (λ (e : s ≡ s'). rw e) (λ (q : (is_sender s ≡ false) × (is_sender s' ≡ false)). rw (q.0, q.1)) k

  helo_kin : (d s h h' v t : List ℕ) → Kin is_host h h' → evaluated client d s h v seconds t name text ≡ evaluated client d s h' v seconds t name text
  unfolding evaluated
  helo_kin d s h h' v t k = ⊎_elim (λ (e : h ≡ h'). rw e) (λ (q : (is_host h ≡ false) × (is_host h' ≡ false)). rw (q.0, q.1)) k

  receiver_kin : (d s h v v' t : List ℕ) → Kin is_host v v'
      → evaluated client d s h v seconds t name text ≡ evaluated client d s h v' seconds t name text
  unfolding evaluated
  receiver_kin d s h v v' t k = ⊎_elim (λ (e : v ≡ v'). rw e)
      (λ (q : (is_host v ≡ false) × (is_host v' ≡ false)). rw (and_comm (is_host h) (is_host v), and_comm (is_host h) (is_host v'), q.0, q.1)) k

  domain_kin : (d d' s h v t : List ℕ) → Kin is_short d d' → evaluated client d s h v seconds t name text ≡ evaluated client d' s h v seconds t name text
  unfolding evaluated
  domain_kin d d' s h v t k = ⊎_elim (λ (e : d ≡ d'). rw e) (λ (q : (is_short d ≡ false) × (is_short d' ≡ false)). rw (q.0, q.1)) k

  table_kin : (d s h v t t' : List ℕ) → Fronted (take 65536) t t'
      → evaluated client d s h v seconds t name text ≡ evaluated client d s h v seconds t' name text
  unfolding evaluated after_table
  table_kin d s h v t t' f = ⊎_elim (λ (e : t ≡ t'). rw e)
      (λ (q : (65536 ≤ length t) × (65536 ≤ length t')). rw (long_table t q.0, long_table t' q.1))
      (same_or_long 65536 t t' f)

on_same : (x : Option Address) (y : Option ℕ) (f g : Address → ℕ → Outcome) → ((a : Address) (t : ℕ) → f a t ≡ g a t)
    → on_client_and_time x y f ≡ on_client_and_time x y g
unfolding on_client_and_time
on_same None y f g h = refl
on_same (Some a) None f g h = refl
on_same (Some a) (Some t) f g h = ap evaluates (h a t)

same_outcome : (name text a b : List ℕ) → Agree fronts a b → checked_input a name text ≡ checked_input b name text
unfolding checked_input checked_lines field after_fields
same_outcome name text a b (line c (line d (line s (line h (line v (line t (table e))))))) =
    rw (client_same _ _ c, seconds_same _ _ t)
    (on_same _ _ _ _
    (λ client seconds.
    domain_kin client seconds name text _ _ _ _ _ _ (kin 256 _ _ d is_short short_bound)
    ∙ sender_kin client seconds name text _ _ _ _ _ _ (kin 321 _ _ s is_sender sender_bound)
    ∙ helo_kin client seconds name text _ _ _ _ _ _ (kin 256 _ _ h is_host host_bound)
    ∙ receiver_kin client seconds name text _ _ _ _ _ _ (kin 256 _ _ v is_host host_bound)
    ∙ table_kin client seconds name text _ _ _ _ _ _ e))

-- the answer depends on no byte that isn't kept, whatever comes after
pub kept_same : (x y name text : List ℕ) → checked_input (kept x ++ y) name text ≡ checked_input (x ++ y) name text
unfolding kept
kept_same x y name text = same_outcome name text (kept x ++ y) (x ++ y) (agree fronts_cut x y)
