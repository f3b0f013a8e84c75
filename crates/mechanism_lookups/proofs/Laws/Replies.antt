-- What a question of a, mx, ptr or exists comes to, by what the table has for it, and each use of it by what `ask` answers: a rule for each way out. From
-- client_match's laws of questions, the definitions of the mechanisms, and Inversions.
use Rattle.std.proofs.Common.{Option, Ok, Err, Bor, Result as Outcome}
use Prim.Native.Nat.{ℕ, ◌≤◌, ◌<◌}
use mathlib.Core.Path.{◌≡◌, refl, sym, ap, subst, ◌∙◌}
use mathlib.Core.List.{List, []}
use mathlib.Core.Bool.{Bool, true, false, cond, ◌&&◌, and_comm}
use native.Mathlib.Omega.{arith}
use lib.ListN.{length, take, drop, drop_of_length-le}
use lib.Dec.{ltb}
use borrow.Author.Tests.{lt-ltb, le-ltb, eq-eqb, ne_eqb, le-leb, lt-leb}
use Rattle.text.specs.Bytes.{part}
use Rattle.text.specs.Writing.{Wrote, overwritten}
use Rattle.text.proofs.Laws.Writing.{value_taken, value_inside, value_whole}
use Rattle.address.specs.declared.Address.{Address}
use Rattle.domain.specs.Names.{at_or_below}
use Rattle.address_text.specs.Forms.{reversed_name}
use Rattle.address_text.proofs.Laws.Lengths.{length_reversed}
use Rattle.answer_table.specs.declared.Found.{Found}
use Rattle.answer_table.specs.Reader.{items_of}
use Rattle.answer_table.proofs.Laws.Items.{of_more, of_none}
use Rattle.rules.specs.declared.Counts.{Counts}
use Rattle.rules.specs.declared.Progress.{Progress}
use Rattle.rules.specs.declared.Wanted.{Wanted}
use Rattle.rules.specs.declared.Ending.{Ending}
use Rattle.rules.specs.Tree.{items, Table, Check, run}
use Rattle.rules.specs.Tables.{table_in}
use Rattle.rules.specs.Mechanisms.{Match, yes, no, stop, Step, step, address_kind, any_matches, width, includes_client, most_voids, voided, void_step, own_reply, own_question, matched, ask_a, ask_exists, ask_mx, by_preference, ask_host, ask_hosts, most_hosts, mx_items, ask_name, ask_names, most_names, ask_ptr}
use Rattle.rules.specs.Outcomes.{After, Matched, matched_of, SaysStep, Steps, FindsEntry, FindsNone}
use Rattle.rules.proofs.Laws.Inversions.{step_give, step_wanted}
use Rattle.client_match.proofs.Laws.Asked.{found_none, found_failed, found_items}
use Rattle.mechanism_lookups.specs.Steps.{CountsVoid, Kept, AskedIs}
use Rattle.mechanism_lookups.specs.declared.replies.Asked.{Asked}

-- `count_void`
module _ (c : Counts) where
  pub void_few : c.voids < 2 → CountsVoid c (voided c) (Ok tt)
  void_few h = record { counted = refl; third = rw (lt-ltb c.voids most_voids h) }

  pub void_third : 2 ≤ c.voids → CountsVoid c (voided c) (Err (Ending.Result 6))
  void_third h = record { counted = refl; third = rw (le-ltb c.voids most_voids h) }

-- no items, or some
void_items : (s : List ℕ) → length s ≡ 0 → items_of s ≡ []
void_items s h = ap items_of (drop_of_length-le s {i = 0} (omega arith)) ∙ of_none

some_items : (s : List ℕ) → (length s ≡ 0 → ⊥) → (m : Match) (c : Counts) (rest : List (List ℕ) → Check Step) → own_reply m c rest (items (items_of s)) ≡ rest (items_of s)
unfolding own_reply
some_items s h m c rest = let p : 0 < length s = omega arith in rw (of_more s p)

-- what a void answer says of a check
tests_void : (t : Table) (u : Bool) (c : Counts) (l : Option ℕ) (b : List ℕ)
    → SaysStep (run t l (cond u (step no c) (step (stop 6) c))) (record { answer = cond u (Ok false) (Err (Ending.Result 6)); counts = c; life = l }) b b
unfolding matched_of
tests_void t true c l b = step_give t l no c b
tests_void t false c l b = step_give t l (stop 6) c b

void_says : (t : Table) (c : Counts) (l : Option ℕ) (b : List ℕ)
    → SaysStep (run t l (void_step c)) (record { answer = cond (ltb c.voids most_voids) (Ok false) (Err (Ending.Result 6)); counts = voided c; life = l }) b b
unfolding void_step
void_says t c l b = tests_void t (ltb c.voids most_voids) (voided c) l b

void_goes : (u : Bool) (r : Outcome (Unit {0}) Ending) → r ≡ cond u (Ok tt) (Err (Ending.Result 6)) → r ≡ Ok tt → cond u (Ok false) (Err (Ending.Result 6)) ≡ matched_of no
unfolding matched_of
void_goes true r i h = refl
void_goes false r i h = let z : ◌≡◌ {A = ℕ} 0 1 = cc in absurd (omega arith)

void_ends : (u : Bool) (r : Outcome (Unit {0}) Ending) (e : Ending) → r ≡ cond u (Ok tt) (Err (Ending.Result 6)) → r ≡ Err e → cond u (matched_of no) (Err (Ending.Result 6)) ≡ Err e
void_ends true r e i h = let z : ◌≡◌ {A = ℕ} 0 1 = cc in absurd (omega arith)
void_ends false r e i h = let k : Ending.Result 6 ≡ e = cc in ap Err k

pub match_says : (t : Table) (u : Bool) (c : Counts) (l : Option ℕ) (b : List ℕ) → SaysStep (run t l (matched u c)) (record { answer = Ok u; counts = c; life = l }) b b
unfolding matched_of
match_says t true c l b = step_give t l yes c b
match_says t false c l b = step_give t l no c b

-- `ask`: by what was found
module _ (t : List ℕ) (kind : ℕ) (d : List ℕ) (p q : Progress) (b a : List ℕ) where
  pub ask_missing : (w : Wanted) → FindsNone t kind d p q w b a → AskedIs t kind d p q (Err (Ending.Wanting w)) b a
  unfolding AskedIs
  ask_missing w n m rest = rw (n.counts_kept, n.life_kept) (step_wanted _ w p.counts p.life b a (found_none t kind d p q b a w n p.counts (own_reply m p.counts rest)))

  module _ (x : Found) (w : FindsEntry t kind d p q x b a) where
    kept : Kept p q b a
    kept = record { counts_kept = w.counts_kept; name_kept = w.name_kept }

    pub found_few : p.counts.voids ≤ 2 → q.counts.voids ≤ 2
    found_few h = rw w.counts_kept h

    pub ask_failed : x.status ≡ 2 → AskedIs t kind d p q (Ok Asked.Failed) b a
    unfolding AskedIs own_reply run
    ask_failed h = (kept, λ m rest. found_failed t kind d p q b a x w p.counts (own_reply m p.counts rest) h)

    module _ (h : x.status ≡ 2 → ⊥) (s : Bor (List ℕ)) (at : s.now ≡ part t x.start x.end) where
      with_items : (m : Match) (rest : List (List ℕ) → Check Step)
          → run (table_in t) p.life (own_question m p.counts kind d rest) ≡ run (table_in t) q.life (own_reply m p.counts rest (items (items_of s.now)))
      with_items m rest = found_items t kind d p q b a x w p.counts (own_reply m p.counts rest) h ∙ rw at

      void_asked : length s.now ≡ 0 → (m : Match) (rest : List (List ℕ) → Check Step)
          → SaysStep (run (table_in t) p.life (own_question m p.counts kind d rest))
          (record { answer = cond (ltb p.counts.voids most_voids) (Ok false) (Err (Ending.Result 6)); counts = voided p.counts; life = q.life }) b b
      unfolding own_reply
      void_asked k m rest = rw (with_items m rest, void_items s.now k) (void_says (table_in t) p.counts q.life b)

      module _ (k : length s.now ≡ 0) (c : Counts) where
        pub ask_void : CountsVoid q.counts c (Ok tt) → AskedIs t kind d p (record { counts = c; life = q.life }) (Ok Asked.Void) b a
        unfolding AskedIs matched_of
        ask_void v m rest =
            let e = void_goes (ltb p.counts.voids most_voids) (Ok tt) (rw w.counts_kept at v.third) refl in
            rw (w.name_kept, v.counted, w.counts_kept, ← e) (void_asked k m rest)

        pub ask_third : (e : Ending) → CountsVoid q.counts c (Err e) → AskedIs t kind d p (record { counts = c; life = q.life }) (Err e) b a
        unfolding AskedIs matched_of
        ask_third e v m rest =
            let i = void_ends (ltb p.counts.voids most_voids) (Err e) e (rw w.counts_kept at v.third) refl in
            rw (w.name_kept, v.counted, w.counts_kept, ← i) (void_asked k m rest)

      pub ask_items : (length s.now ≡ 0 → ⊥) → AskedIs t kind d p q (Ok (Asked.Items s)) b a
      unfolding AskedIs
      ask_items k = (kept, λ m rest. with_items m rest ∙ ap (run (table_in t) q.life) (some_items s.now k m p.counts rest))

-- a question by what `ask` answers, for any use of it
module _ (t : List ℕ) (kind : ℕ) (d : List ℕ) (p q : Progress) (b a : List ℕ) (k : ℕ) (e : kind ≡ k) (rest : List (List ℕ) → Check Step) where
  pub own_ended : (m : Match) (x : Ending) → AskedIs t kind d p q (Err x) b a → Steps t (own_question m p.counts k d rest) p q (Err x) b a
  unfolding AskedIs
  own_ended m x w = rw (← e) (w m rest)

  module _ (x : Asked) (w : AskedIs t kind d p q (Ok x) b a) where
    pub own_void : (m : Match) → x ≡ Asked.Void → Steps t (own_question m p.counts k d rest) p q (Ok false) b a
    unfolding AskedIs
    own_void m i = rw (← e) ((rw i at w) m rest)

    own_failed : (m : Match) → x ≡ Asked.Failed → Steps t (own_question m p.counts k d rest) p q (matched_of m) b a
    unfolding AskedIs run
    own_failed m i = let y = rw i at w in let v = y.0 in rw (← e, y.1 m rest, v.counts_kept, v.name_kept) (step_give (table_in t) q.life m p.counts b)

    pub own_temperror : x ≡ Asked.Failed → Steps t (own_question (stop 5) p.counts k d rest) p q (Err (Ending.Result 5)) b a
    unfolding matched_of
    own_temperror i = own_failed (stop 5) i

    pub own_skipped : x ≡ Asked.Failed → Steps t (own_question no p.counts k d rest) p q (Ok false) b a
    unfolding matched_of
    own_skipped i = own_failed no i

    -- its items, and what becomes of them
    pub own_items : (m : Match) (s : Bor (List ℕ)) → x ≡ Asked.Items s → (z : Progress) (r : Matched) (o : List ℕ) → Steps t (rest (items_of s.now)) q z r a o
        → Steps t (own_question m p.counts k d rest) p z r b o
    unfolding AskedIs
    own_items m s i z r o f = let y = rw i at w in let v = y.0 in rw (← e, y.1 m rest, ← v.name_kept) f

-- its items leave the counts
pub items_counts : (t : List ℕ) (kind : ℕ) (d : List ℕ) (p q : Progress) (b a : List ℕ) (x : Asked) → AskedIs t kind d p q (Ok x) b a → (s : Bor (List ℕ)) → x ≡ Asked.Items s → q.counts ≡ p.counts
unfolding AskedIs
items_counts t kind d p q b a x w s i = let y = rw i at w in let v = y.0 in v.counts_kept

-- its items are addresses
module _ (t : List ℕ) (kind : ℕ) (d : List ℕ) (p q : Progress) (b a : List ℕ) (client : Address) (e : kind ≡ address_kind client) (x : Asked)
    (w : AskedIs t kind d p q (Ok x) b a) (s : Bor (List ℕ)) (i : x ≡ Asked.Items s) where
  pub a_items : (n : ℕ) (r : Bool) → r ≡ any_matches client n (items_of s.now) → Steps t (ask_a client n p.counts d) p q (Ok r) b a
  a_items n r h =
      own_items t kind d p q b a (address_kind client) e _ x w (stop 5) s i q (Ok r) a
      (rw (h, ← items_counts t kind d p q b a x w s i) (match_says (table_in t) (any_matches client n (items_of s.now)) q.counts q.life a))

  module _ (m : List ℕ) (v : Bool) (ev : v ≡ at_or_below d m) where
    name_items : (r : Bool) → r ≡ (v && any_matches client (width client) (items_of s.now)) → Steps t (ask_name client m d p.counts) p q (Ok r) b a
    unfolding includes_client
    name_items r h =
        own_items t kind d p q b a (address_kind client) e _ x w no s i q (Ok r) a
        (rw (and_comm (any_matches client (width client) (items_of s.now)) (at_or_below d m), ← ev, ← h, ← items_counts t kind d p q b a x w s i)
        (match_says (table_in t) r q.counts q.life a))

    pub name_below : v ≡ true → (n : ℕ) → n ≡ width client → (r : Bool) → r ≡ any_matches client n (items_of s.now) → Steps t (ask_name client m d p.counts) p q (Ok r) b a
    name_below h n en r f = name_items r (rw (h, ← en) f)

    pub name_elsewhere : v ≡ false → Steps t (ask_name client m d p.counts) p q (Ok false) b a
    name_elsewhere h = name_items false (rw h refl)

-- `ask_mx` and `ask_pointers`: what becomes of its items
module _ (t : List ℕ) (d : List ℕ) (p q : Progress) (b a : List ℕ) (x : Asked) (s : Bor (List ℕ)) (i : x ≡ Asked.Items s) where
  pub items_few_voids : (kind : ℕ) → AskedIs t kind d p q (Ok x) b a → p.counts.voids ≤ 2 → q.counts.voids ≤ 2
  items_few_voids kind w h = rw (items_counts t kind d p q b a x w s i) h

  pub mx_found : AskedIs t 15 d p q (Ok x) b a → (client : Address) (n : ℕ) (z : Progress) (r : Matched) (o : List ℕ) → Steps t (mx_items client n q.counts (items_of s.now)) q z r a o
      → Steps t (ask_mx client n p.counts d) p z r b o
  mx_found w client n z r o f =
      own_items t 15 d p q b a 15 refl (mx_items client n p.counts) x w (stop 5) s i z r o
      (subst (λ (c : Counts). Steps t (mx_items client n c (items_of s.now)) q z r a o) (items_counts t 15 d p q b a x w s i) f)

  pub pointers_found : AskedIs t 12 d p q (Ok x) b a → (client : Address) (m : List ℕ) (z : Progress) (r : Matched) (o : List ℕ)
      → Steps t (ask_names client m (take most_names (items_of s.now)) q.counts) q z r a o
      → Steps t (own_question no p.counts 12 d (λ ds. ask_names client m (take most_names ds) p.counts)) p z r b o
  pointers_found w client m z r o f =
      own_items t 12 d p q b a 12 refl (λ ds. ask_names client m (take most_names ds) p.counts) x w no s i z r o
      (subst (λ (c : Counts). Steps t (ask_names client m (take most_names (items_of s.now)) c) q z r a o) (items_counts t 12 d p q b a x w s i) f)

-- `ask_exists`
pub exists_items : (t d : List ℕ) (p q : Progress) (b a : List ℕ) (x : Asked) → AskedIs t 1 d p q (Ok x) b a → (s : Bor (List ℕ)) → x ≡ Asked.Items s
    → Steps t (ask_exists p.counts d) p q (Ok true) b a
unfolding matched_of
exists_items t d p q b a x w s i =
    own_items t 1 d p q b a 1 refl _ x w (stop 5) s i q (Ok true) a (rw (← items_counts t 1 d p q b a x w s i) (step_give (table_in t) q.life yes q.counts a))

-- `ask_items`: too many, or not
module _ (client : Address) (n : ℕ) (t s : List ℕ) (p : Progress) (b : List ℕ) (many : ℕ) (e : many ≡ length (items_of s)) where
  pub items_many : 10 < many → Steps t (mx_items client n p.counts (items_of s)) p p (Err (Ending.Result 6)) b b
  unfolding mx_items matched_of
  items_many h = let j : most_hosts < length (items_of s) = omega arith in rw (lt-leb (length (items_of s)) most_hosts j) (step_give (table_in t) p.life (stop 6) p.counts b)

  pub items_few : many ≤ 10 → (q : Progress) (r : Matched) (a : List ℕ) → Steps t (ask_hosts client n (by_preference (items_of s)) p.counts) p q r b a
      → Steps t (mx_items client n p.counts (items_of s)) p q r b a
  unfolding mx_items
  items_few h q r a w = let j : length (items_of s) ≤ most_hosts = omega arith in rw (le-leb (length (items_of s)) most_hosts j) w

-- `ask_host`
module _ (client : Address) (n : ℕ) (t d : List ℕ) (p : Progress) (b : List ℕ) where
  pub host_nameless : length d ≡ 2 → Steps t (ask_host client n d p.counts) p p (Ok false) b b
  unfolding ask_host matched_of
  host_nameless k = rw (eq-eqb (length d) 2 k) (step_give (table_in t) p.life no p.counts b)

  pub host_named : (length d ≡ 2 → ⊥) → (m : List ℕ) → m ≡ drop 2 d → (q : Progress) (r : Matched) (a : List ℕ) → Steps t (ask_a client n p.counts m) p q r b a
      → Steps t (ask_host client n d p.counts) p q r b a
  unfolding ask_host
  host_named k m em q r a w = rw (ne_eqb (length d) 2 k, ← em) w

-- `ask_ptr`: the reversed name in its array
pub reversed_fits : (client : Address) (z : List ℕ) → length z ≡ 72 → length (reversed_name client) ≤ length z
reversed_fits client z e = let h = length_reversed client in omega arith

-- the array z that a writer wrote the name into, and the array f afterwards
module _ (client : Address) (z o v f : List ℕ) (at n : ℕ) (e : o ≡ z) (i : at ≡ 0) (w : Wrote (reversed_name client) o at v n) (size : length z ≡ 72) where
  front : Wrote (reversed_name client) o 0 v n
  front = rw i at w

  fits : length (reversed_name client) ≤ length o
  fits = rw e (reversed_fits client z size)

  pub name_inside : f ≡ v → n ≤ length f
  name_inside h = rw h (value_inside (reversed_name client) o v n front fits)

  pub name_whole : f ≡ v → n ≡ length (take n f)
  name_whole h = rw h (value_whole (reversed_name client) o v n front fits)

  pub ptr_says : (t m : List ℕ) (p q : Progress) (r : Matched) (b a : List ℕ) → Steps t (own_question no p.counts 12 (take n f) (λ ds. ask_names client m (take most_names ds) p.counts)) p q r b a
      → f ≡ v → Steps t (ask_ptr client p.counts m) p q r b a
  ptr_says t m p q r b a y h = rw (← value_taken (reversed_name client) o v n front fits, ← h) y
