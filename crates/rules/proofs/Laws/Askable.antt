-- Names that can be asked: a name that an evaluation makes is a name as the table has it, 1 to 253 bytes in labels of 1 to 63, with no A to Z; and so
-- are the names in a table's items, if these are of their kinds, as an accepted table's are. From the definitions of names, items and the table.
use Prim.Native.Nat.{ℕ, zero, suc, ◌+◌, ◌≤◌}
use mathlib.Core.Path.{◌≡◌, sym, subst, ◌∙◌}
use mathlib.Core.List.{List, [], ◌∷◌, map}
use mathlib.Core.Bool.{Bool, true, false, ◌&&◌}
use native.Mathlib.Omega.{arith}
use lib.Dec.{leb, eqb}
use lib.ListN.{length, take, drop}
use borrow.Author.Tests.{eqb-true, leb-true, lt-ltb}
use Rattle.text.specs.Bytes.{lower, is_upper, is_not_upper, within}
use Rattle.text.specs.Lists.{all, same}
use Rattle.text.proofs.Laws.Classes.{not_upper_high}
use Rattle.text.proofs.Laws.Parts.{all_none, all_cons, all_first, all_rest, all_inside}
use Rattle.text.proofs.Laws.Tests.{cond-elim, and_left, and_right, and_both}
use Rattle.domain.specs.Names.{is_name, is_table_name}
use Rattle.domain.specs.Normal.{Naming, name, malformed, without_dot, lowered, normal}
use Rattle.domain.specs.Shortening.{shortened}
use Rattle.answer_table.specs.Layout.{Entry, Entries, none, more, Encodes, entry, is_item, is_mail_exchange, is_pair}
use Rattle.answer_table.specs.Lookup.{Lookup, lookup}
use Rattle.answer_table.specs.Reader.{number}
use Rattle.answer_table.proofs.Laws.Items.{items_each}
use Rattle.answer_table.proofs.Laws.Entries.{entries_complete}
use Rattle.macros.specs.Question.{question_name}
use Rattle.records.specs.Readings.{Optional, absent, present}
use Rattle.rules.specs.Tree.{Reply, failed, items, Answer, Table, Has}
use Rattle.rules.specs.Tables.{reply_by, answer_of, table_in}
use Rattle.rules.specs.Mechanisms.{most_names, names_of, insert_host, by_preference}

-- a name, if it is one, is a name as the table has it
unfoldable pub NamingOk : Naming → Type 0
NamingOk (name d) = is_table_name d ≡ true
NamingOk malformed = Unit {0}

lower_not_upper : (b : ℕ) → is_not_upper (lower b) ≡ true
unfolding lower is_not_upper is_upper within
lower_not_upper b =
    cond-elim (λ (x : ℕ). is_not_upper x ≡ true) (is_upper b)
    (λ e. let h : 65 ≤ b = leb-true 65 b (and_left (leb 65 b) (leb b 90) e) in sym (not_upper_high (b + 32) (omega arith)) ∙ lt-ltb 90 (b + 32) (omega arith))
    (λ e. rw e)

lowered_not_upper : (s : List ℕ) → all is_not_upper (map lower s) ≡ true
lowered_not_upper [] = all_none is_not_upper
lowered_not_upper (b ∷ s) = all_cons is_not_upper (lower b) (map lower s) (lower_not_upper b) (lowered_not_upper s)

lowered_ok : (s : List ℕ) → NamingOk (lowered s)
unfolding lowered NamingOk is_table_name
lowered_ok s = cond-elim NamingOk (is_name (map lower s)) (λ e. and_both (is_name (map lower s)) (all is_not_upper (map lower s)) e (lowered_not_upper s)) (λ _. tt)

pub normal_ok : (s : List ℕ) → NamingOk (normal s)
unfolding normal
normal_ok s = lowered_ok (without_dot s)

pub question_ok : (s : List ℕ) → NamingOk (question_name s)
unfolding question_name NamingOk
question_ok s = cond-elim NamingOk (leb (length s) 4096) (λ _. lowered_ok (shortened (without_dot s))) (λ _. tt)

-- an answer's items are of the question's kind
unfoldable pub ReplyFits : ℕ → Reply → Type 0
ReplyFits kind failed = Unit {0}
ReplyFits kind (items ds) = all (is_item kind) ds ≡ true

abbrev pub Fitting : Table → Type 0
Fitting t = (kind : ℕ) (d : List ℕ) (r : Reply) → Has t kind d r → ReplyFits kind r

-- PTR items are names
all_take : (p : List ℕ → Bool) (n : ℕ) (ds : List (List ℕ)) → all p ds ≡ true → all p (take n ds) ≡ true
all_take p zero ds h = all_none p
all_take p (suc n) [] h = all_none p
all_take p (suc n) (d ∷ ds) h = all_cons p d (take n ds) (all_first p d ds h) (all_take p n ds (all_rest p d ds h))

pub names_ok : (r : Reply) → ReplyFits 12 r → all is_table_name (names_of r) ≡ true
unfolding names_of ReplyFits is_item
names_ok failed h = all_none is_table_name
names_ok (items ds) h = all_take is_table_name most_names ds (all_inside (is_item 12) is_table_name (λ d e. e) ds h)

-- MX items with a name have one, in the order of their preferences too
pub host_ok : (d : List ℕ) → is_item 15 d ≡ true → eqb (length d) 2 ≡ false → is_table_name (drop 2 d) ≡ true
unfolding is_item is_mail_exchange
host_ok d h e = and_right (leb 2 (length d)) (is_table_name (drop 2 d)) (rw e at h)

module _ (p : List ℕ → Bool) where
  insert_ok : (d : List ℕ) (ds : List (List ℕ)) → p d ≡ true → all p ds ≡ true → all p (insert_host d ds) ≡ true
  unfolding insert_host
  insert_ok d [] h k = all_cons p d [] h k
  insert_ok d (e ∷ es) h k =
      cond-elim (λ (xs : List (List ℕ)). all p xs ≡ true) (leb (number d) (number e)) (λ _. all_cons p d (e ∷ es) h k)
      (λ _. all_cons p e (insert_host d es) (all_first p e es k) (insert_ok d es h (all_rest p e es k)))

  preference_ok : (ds : List (List ℕ)) → all p ds ≡ true → all p (by_preference ds) ≡ true
  unfolding by_preference
  preference_ok [] h = h
  preference_ok (d ∷ ds) h = insert_ok d (by_preference ds) (all_first p d ds h) (preference_ok ds (all_rest p d ds h))

pub hosts_ok : (ds : List (List ℕ)) → ReplyFits 15 (items ds) → all (is_item 15) (by_preference ds) ≡ true
unfolding ReplyFits
hosts_ok ds h = preference_ok (is_item 15) ds h

-- an accepted table's items are of their kinds
reply_fits : (kind status : ℕ) (ds : List (List ℕ)) → all (is_item kind) ds ≡ true → ReplyFits kind (reply_by status ds)
unfolding reply_by ReplyFits
reply_fits kind status ds h = cond-elim (ReplyFits kind) (eqb status 2) (λ _. tt) (λ _. h)

encoded_items : {w : List ℕ} {e : Entry} → Encodes w e → all (is_item e.kind) e.items ≡ true
encoded_items (entry l k life kd st nm is hold) = items_each is

-- what a reply is, if there is one
unfoldable OptionalFits : ℕ → Optional Answer → Type 0
OptionalFits kind absent = Unit {0}
OptionalFits kind (present x) = ReplyFits kind x.reply

lookup_fits : {t : List ℕ} {es : List Entry} → Entries t es → (kind : ℕ) (d : List ℕ) → OptionalFits kind (answer_of (lookup kind d es))
unfolding lookup answer_of OptionalFits is_pair
lookup_fits none kind d = tt
lookup_fits (more {e = e} {es = es} w p) kind d =
    cond-elim (λ (l : Lookup). OptionalFits kind (answer_of l)) (eqb e.kind kind && same e.name d)
    (λ h. let i : e.kind ≡ kind = eqb-true e.kind kind (and_left (eqb e.kind kind) (same e.name d) h) in
    subst (λ (k : ℕ). ReplyFits k (reply_by e.status e.items)) i (reply_fits e.kind e.status e.items (encoded_items w)))
    (λ _. lookup_fits p kind d)

pub entries_fit : {t : List ℕ} {es : List Entry} → Entries t es → Fitting (table_in t)
unfolding table_in OptionalFits
entries_fit p kind d r e = subst (OptionalFits kind) (rw (entries_complete p) at e.1) (lookup_fits p kind d)
