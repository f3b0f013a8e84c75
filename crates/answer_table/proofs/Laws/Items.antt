-- Items end to end: what the reader takes for items of a kind is such, and each encoding of items is read as them; one item after the
-- other by places. From the reader and the productions of specs/.
use Prim.Native.Nat.{ℕ, zero, suc, ◌+◌, ◌-◌, ◌≤◌, ◌<◌}
use mathlib.Core.Path.{◌≡◌, refl, sym, ap, subst, ◌∙◌}
use mathlib.Core.List.{List, [], ◌∷◌, ◌++◌, append-nil, append_assoc}
use mathlib.Core.Bool.{Bool, true, false, cond}
use mathlib.Core.Logic.{◌⊎◌, inl, inr, ⊎_elim}
use native.Mathlib.Omega.{arith}
use lib.Dec.{ltb, eqb}
use lib.ListN.{length, take, drop, length-append, length-drop, take-append-drop, drop_of_length-le}
use lib.Seq.{take_at, drop_at, drop-drop, length-take-le}
use borrow.Author.Tests.{ltb-false, le-ltb, ne_eqb}
use Rattle.text.specs.Bytes.{at}
use Rattle.text.specs.Lists.{all}
use Rattle.text.proofs.Laws.Tests.{cond-elim, and_both}
use Rattle.text.proofs.Laws.Spans.{drop_min}
use Rattle.answer_table.specs.Layout.{is_item, Two, two, Items, none, more}
use Rattle.answer_table.specs.Reader.{number, first_item, other_items, items_from, items_of, next_item, items_fit_from, items_fit}

-- a list of at least two bytes
pub front_two : (s : List ℕ) → 2 ≤ length s → s ≡ at s 0 ∷ at s 1 ∷ drop 2 s
front_two [] h = absurd (omega arith)
front_two (x ∷ []) h = absurd (omega arith)
front_two (x ∷ y ∷ s) h = refl

-- the number at the front, and what follows it
pub record Front (n : List ℕ) (m : ℕ) (rest : List ℕ) : Type 0 where
  pub value : number (n ++ rest) ≡ m
  pub after : drop 2 (n ++ rest) ≡ rest
  pub size : length n ≡ 2

pub two_front : {n : List ℕ} {m : ℕ} → Two n m → (rest : List ℕ) → Front n m rest
unfolding number
two_front two rest = record { value = refl; after = refl; size = refl }

-- enough fuel is enough
module _ (s : List ℕ) (h : 0 < length s) where
  some_test : eqb (length s) 0 ≡ false
  some_test = ne_eqb (length s) 0 (λ e. omega arith)

  other_less : (n : ℕ) → length s ≤ suc n → length (other_items s) ≤ n
  unfolding other_items
  other_less n l = simp length-drop (omega arith)

  from_more : (n : ℕ) → items_from (suc n) s ≡ first_item s ∷ items_from n (other_items s)
  unfolding items_from
  from_more n = simp some_test

  fit_more : (n kind : ℕ)
      → items_fit_from (suc n) kind s ≡ cond (ltb (length s) (2 + number s)) false (cond (is_item kind (first_item s)) (items_fit_from n kind (other_items s)) false)
  unfolding items_fit_from
  fit_more n kind = simp some_test

from_none : (n : ℕ) → items_from n [] ≡ []
unfolding items_from
from_none zero = refl
from_none (suc n) = refl

fit_none : (n kind : ℕ) → items_fit_from n kind [] ≡ true
unfolding items_fit_from
fit_none zero kind = refl
fit_none (suc n) kind = refl

none_or_some : (s : List ℕ) → (s ≡ []) ⊎ (0 < length s)
none_or_some [] = inl refl
none_or_some (x ∷ xs) = inr (omega arith)

empty : (s : List ℕ) → length s ≤ 0 → s ≡ []
empty s h = drop_of_length-le s {i = 0} h

from_enough : (n m : ℕ) (s : List ℕ) → length s ≤ n → length s ≤ m → items_from n s ≡ items_from m s
from_enough zero m s h k = rw (empty s h, from_none m) (from_none 0)
from_enough (suc n) zero s h k = rw (empty s k, from_none (suc n)) (sym (from_none 0))
from_enough (suc n) (suc m) s h k = ⊎_elim
    (λ (e : s ≡ []). rw (e, from_none (suc n)) (sym (from_none (suc m))))
    (λ (p : 0 < length s). from_more s p n
    ∙ ap (λ (ds : List (List ℕ)). first_item s ∷ ds) (from_enough n m (other_items s) (other_less s p n h) (other_less s p m k))
    ∙ sym (from_more s p m))
    (none_or_some s)

fit_enough : (n m kind : ℕ) (s : List ℕ) → length s ≤ n → length s ≤ m → items_fit_from n kind s ≡ items_fit_from m kind s
fit_enough zero m kind s h k = rw (empty s h, fit_none m kind) (fit_none 0 kind)
fit_enough (suc n) zero kind s h k = rw (empty s k, fit_none (suc n) kind) (sym (fit_none 0 kind))
fit_enough (suc n) (suc m) kind s h k = ⊎_elim
    (λ (e : s ≡ []). rw (e, fit_none (suc n) kind) (sym (fit_none (suc m) kind)))
    (λ (p : 0 < length s). fit_more s p n kind
    ∙ ap (λ (b : Bool). cond (ltb (length s) (2 + number s)) false (cond (is_item kind (first_item s)) b false))
    (fit_enough n m kind (other_items s) (other_less s p n h) (other_less s p m k))
    ∙ sym (fit_more s p m kind))
    (none_or_some s)

-- the first item and the others
pub of_more : (s : List ℕ) → 0 < length s → items_of s ≡ first_item s ∷ items_of (other_items s)
unfolding items_of
of_more s h =
    let n = length s - 1 in
    let e : length s ≡ suc n = omega arith in
    ap (λ (f : ℕ). items_from f s) e ∙ from_more s h n
    ∙ ap (λ (ds : List (List ℕ)). first_item s ∷ ds) (from_enough n (length (other_items s)) (other_items s) (other_less s h n (omega arith)) (omega arith))

-- no more items than bytes
from_few : (n : ℕ) (s : List ℕ) → length (items_from n s) ≤ n
unfolding items_from
from_few zero s = omega arith
from_few (suc n) s =
    let h = from_few n (other_items s) in
    cond-elim (λ (ds : List (List ℕ)). length ds ≤ suc n) (eqb (length s) 0) {x = []} {y = first_item s ∷ items_from n (other_items s)}
    (λ _. omega arith) (λ _. omega arith)

pub of_few : (s : List ℕ) → length (items_of s) ≤ length s
unfolding items_of
of_few s = from_few (length s) s

pub of_none : items_of [] ≡ []
unfolding items_of
of_none = from_none 0

pub fit_of : (kind : ℕ) (s : List ℕ) → 0 < length s
    → items_fit kind s ≡ cond (ltb (length s) (2 + number s)) false (cond (is_item kind (first_item s)) (items_fit kind (other_items s)) false)
unfolding items_fit
fit_of kind s h =
    let n = length s - 1 in
    let e : length s ≡ suc n = omega arith in
    ap (λ (f : ℕ). items_fit_from f kind s) e ∙ fit_more s h n kind
    ∙ ap (λ (b : Bool). cond (ltb (length s) (2 + number s)) false (cond (is_item kind (first_item s)) b false))
    (fit_enough n (length (other_items s)) kind (other_items s) (other_less s h n (omega arith)) (omega arith))

pub fit_empty : (kind : ℕ) → items_fit kind [] ≡ true
unfolding items_fit
fit_empty kind = fit_none 0 kind

-- what a test of items shows of the first
pub record First (kind : ℕ) (s : List ℕ) : Type 0 where
  pub within : 2 + number s ≤ length s
  pub item : is_item kind (first_item s) ≡ true
  pub others : items_fit kind (other_items s) ≡ true

pub fit_first : (kind : ℕ) (s : List ℕ) → 0 < length s → items_fit kind s ≡ true → First kind s
fit_first kind s h e =
    cond-elim (λ (b : Bool). b ≡ true → First kind s) (ltb (length s) (2 + number s))
    {x = false}
    {y = cond (is_item kind (first_item s)) (items_fit kind (other_items s)) false}
    (λ _ z. absurd (let y : ◌≡◌ {A = ℕ} 0 1 = cc in omega arith))
    (λ p. cond-elim (λ (b : Bool). b ≡ true → First kind s) (is_item kind (first_item s)) {x = items_fit kind (other_items s)} {y = false}
    (λ q z. record { within = ltb-false (length s) (2 + number s) p; item = q; others = z })
    (λ q z. absurd (let y : ◌≡◌ {A = ℕ} 0 1 = cc in omega arith)))
    (sym (fit_of kind s h) ∙ e)

-- the first item's bytes in the list
module _ (s : List ℕ) (h : 2 + number s ≤ length s) where
  pub first_length : length (first_item s) ≡ number s
  unfolding first_item
  first_length = length-take-le (number s) (drop 2 s) (simp length-drop (omega arith))

  pub first_split : s ≡ (at s 0 ∷ at s 1 ∷ []) ++ (first_item s ++ other_items s)
  unfolding first_item other_items
  first_split =
      front_two s (omega arith)
      ∙ ap (λ (t : List ℕ). at s 0 ∷ at s 1 ∷ t)
      (sym (take-append-drop (number s) (drop 2 s)) ∙ ap (λ (t : List ℕ). take (number s) (drop 2 s) ++ t) (drop-drop (number s) 2 s))

  pub first_two : Two (at s 0 ∷ at s 1 ∷ []) (length (first_item s))
  unfolding number
  first_two = subst (λ (m : ℕ). Two (at s 0 ∷ at s 1 ∷ []) m) (sym first_length) two

sound_none : (kind : ℕ) (s : List ℕ) → s ≡ [] → Items kind s (items_of s)
sound_none kind s e = rw (e, of_none) none

sound_from : (n kind : ℕ) (s : List ℕ) → length s ≤ n → items_fit kind s ≡ true → Items kind s (items_of s)
sound_from zero kind s h e = sound_none kind s (empty s h)
sound_from (suc n) kind s h e = ⊎_elim (sound_none kind s)
    (λ (p : 0 < length s).
    let f = fit_first kind s p e in
    let r = sound_from n kind (other_items s) (other_less s p n h) f.others in
    subst (λ (t : List ℕ). Items kind t (items_of s)) (sym (first_split s f.within))
    (subst (λ (ds : List (List ℕ)). Items kind ((at s 0 ∷ at s 1 ∷ []) ++ (first_item s ++ other_items s)) ds) (sym (of_more s p))
    (more {n = at s 0 ∷ at s 1 ∷ []} {d = first_item s} {rest = other_items s} (first_two s f.within) f.item r)))
    (none_or_some s)

pub items_sound : (kind : ℕ) (s : List ℕ) → items_fit kind s ≡ true → Items kind s (items_of s)
items_sound kind s e = sound_from (length s) kind s (omega arith) e

-- an encoded item, read
module _ (n d rest : List ℕ) (t : Two n (length d)) where
  pub read_number_lem : number (n ++ (d ++ rest)) ≡ length d
  read_number_lem = (two_front t (d ++ rest)).value

  pub read_length_lem : length (n ++ (d ++ rest)) ≡ 2 + length d + length rest
  read_length_lem = simp length-append (omega (arith, (two_front t []).size))

  pub read_first : first_item (n ++ (d ++ rest)) ≡ d
  unfolding first_item
  read_first =
      ap (λ (m : ℕ). take m (drop 2 (n ++ (d ++ rest)))) read_number_lem ∙ ap (take (length d)) (two_front t (d ++ rest)).after
      ∙ take_at d rest (length d) refl

  read_others : other_items (n ++ (d ++ rest)) ≡ rest
  unfolding other_items
  read_others =
      ap (λ (m : ℕ). drop (2 + m) (n ++ (d ++ rest))) read_number_lem ∙ sym (drop-drop (length d) 2 (n ++ (d ++ rest)))
      ∙ ap (drop (length d)) (two_front t (d ++ rest)).after ∙ drop_at d rest (length d) refl

  pub read_items : items_of (n ++ (d ++ rest)) ≡ d ∷ items_of rest
  read_items = of_more (n ++ (d ++ rest)) (omega (arith, read_length_lem)) ∙ simp (read_first, read_others)

pub items_complete : {kind : ℕ} {s : List ℕ} {ds : List (List ℕ)} → Items kind s ds → (items_fit kind s ≡ true) × (items_of s ≡ ds)
items_complete {kind} none = (fit_empty kind, of_none)
items_complete {kind} (more {n = n} {d = d} {rest = rest} {ds = ds} t i r) =
    let s = n ++ (d ++ rest) in
    let l : length s ≡ 2 + length d + length rest = read_length_lem n d rest t in
    let p : 0 < length s = omega arith in
    let w : ltb (length s) (2 + number s) ≡ false = le-ltb (length s) (2 + number s) (omega (arith, read_number_lem n d rest t)) in
    let q = items_complete r in (
      fit_of kind s p ∙ simp (w, read_first n d rest t, i, read_others n d rest t) q.0,
      read_items n d rest t ∙ ap (λ (gs : List (List ℕ)). d ∷ gs) q.1,
    )

-- items at the front are the first of the items
pub items_append : {kind : ℕ} {u : List ℕ} {ds : List (List ℕ)} → Items kind u ds → (v : List ℕ) → items_of (u ++ v) ≡ ds ++ items_of v
items_append none v = refl
items_append (more {n = n} {d = d} {rest = rest} t x r) v =
    simp append_assoc (read_items n d (rest ++ v) t ∙ ap (λ (gs : List (List ℕ)). d ∷ gs) (items_append r v))

-- one more item at the end
pub items_snoc : {kind : ℕ} {u n : List ℕ} {ds : List (List ℕ)} → Items kind u ds → (d : List ℕ) → Two n (length d) → is_item kind d ≡ true
    → Items kind (u ++ (n ++ d)) (ds ++ (d ∷ []))
items_snoc {kind} {n = n} none d t h = subst (λ (x : List ℕ). Items kind (n ++ x) (d ∷ [])) (append-nil d) (more t h none)
items_snoc (more {n = m} {d = e} x y p) d t h = rw (append_assoc, append_assoc) (more {n = m} {d = e} x y (items_snoc p d t h))

-- each of them is an item of the kind
pub items_each : {kind : ℕ} {s : List ℕ} {ds : List (List ℕ)} → Items kind s ds → all (is_item kind) ds ≡ true
unfolding all
items_each none = refl
items_each {kind} (more {d = d} {ds = ds} t i r) = and_both (is_item kind d) (all (is_item kind) ds) i (items_each r)

-- one item after the other, by places
pub items_step : (s : List ℕ) (i : ℕ) → i < length s → items_of (drop i s) ≡ first_item (drop i s) ∷ items_of (drop (next_item s i) s)
unfolding next_item other_items
items_step s i h =
    of_more (drop i s) (simp length-drop (omega arith))
    ∙ ap (λ (t : List ℕ). first_item (drop i s) ∷ items_of t)
    (drop-drop (2 + number (drop i s)) i s ∙ sym (drop_min (i + (2 + number (drop i s))) s))

pub items_end : (s : List ℕ) (i : ℕ) → length s ≤ i → items_of (drop i s) ≡ []
items_end s i h = ap items_of (drop_of_length-le s {i = i} h) ∙ of_none

pub next_further : (s : List ℕ) (i : ℕ) → i < length s → (i < next_item s i) × (next_item s i ≤ length s)
unfolding next_item
next_further s i h = (omega arith, omega arith)

-- a walk over items by their places ends
pub next_less : (s : List ℕ) (i r : ℕ) → i < length s → r ≡ next_item s i → length s - r < length s - i
next_less s i r h e = let f = next_further s i h in omega arith
