-- What the call means for those who publish (`desk`): a record without a breach is what the plain sentences say, and the other way round; the list holds
-- the breaches that there are. From the definitions of House and Desk, the one list (Deciding) and its bytes (Ordering).
use Prim.Native.Nat.{ℕ, suc, ◌+◌, ◌*◌, ◌≤◌, ◌<◌}
use mathlib.Core.Path.{◌≡◌, refl, sym, ap, subst, ◌∙◌}
use mathlib.Core.Logic.{◌⊎◌, inl, inr, ⊎_elim}
use mathlib.Core.List.{List, [], ◌∷◌, ◌++◌, append_assoc}
use mathlib.Core.Bool.{Bool, true, false, ◌||◌}
use native.Mathlib.Omega.{arith}
use lib.ListN.{length, take, drop, get_or}
use lib.Seq.{split_at, length-take-le}
use Rattle.text.proofs.Laws.Orders.{le_or_lt}
use Rattle.text.proofs.Laws.Tests.{true_false}
use Rattle.records.specs.Readings.{Placed}
use Rattle.records.specs.Grammar.{Record}
use Rattle.records.specs.Answers.{most_bytes}
use Rattle.records.proofs.Laws.Records.{one_reading}
use Rattle.publishing.specs.declared.HouseError.{HouseError}
use Rattle.std.proofs.Common.{Result, Ok}
use Rattle.publishing.specs.House.{Some, here, later, Among, Mechanism, Ptr, All, Redirect, RedirectOrExp, WithP, PlusAll, Short, missing, again, too_many_bytes, Breach}
use Rattle.publishing.specs.Listing.{Entry, entry, Member, none, Listing, encoded, breach_bytes, most_name, HouseAnswers}
use Rattle.publishing.specs.Desk.{OneEnd, by_all, by_redirect, Publishable, rule_at, place_at, Desk}
use Rattle.publishing.specs.Finding.{any, is_all, redirects, modifies}
use Rattle.publishing.proofs.Laws.Listings.{some_left, some_right, nobody}
use Rattle.publishing.proofs.Laws.Tests.{any_some, some_any, alls, all_any, named_is, redirect_is, is_redirect_lem, modifier_is, is_modifier, Source, source}
use Rattle.publishing.proofs.Laws.Findings.{Ascending, ascending_none, ascending_more}
use Rattle.publishing.proofs.Laws.Ordering.{encoded_at}
use Rattle.publishing.proofs.Laws.Answers.{terms_rise}

-- one of a list is a term of it, with those before it
record Found (P : Placed → Type 0) (ts : List Placed) : Type 0 where
  before : List Placed
  t : Placed
  among : Among ts before t
  is : P t

some_among : (P : Placed → Type 0) {ts : List Placed} → Some P ts → Found P ts
some_among P (here {x} {xs} h) = record { before = []; t = x; among = record { after = xs; split = refl }; is = h }
some_among P (later {x} {xs} h) =
    let f = some_among P h in
    record { before = x ∷ f.before; t = f.t; among = record { after = f.among.after; split = ap (λ (us : List Placed). x ∷ us) f.among.split }; is = f.is }

among_some : (P : Placed → Type 0) {ts before : List Placed} {t : Placed} → Among ts before t → P t → Some P ts
among_some P {ts} {before} {t} a p = subst (Some P) (sym a.split) (some_right P before (here p))

-- the first of which a test holds
record First (test : Placed → Bool) (ts : List Placed) : Type 0 where
  before : List Placed
  t : Placed
  after : List Placed
  split : ts ≡ before ++ (t ∷ after)
  holds : test t ≡ true
  fresh : any test before ≡ false

first_of : (test : Placed → Bool) (ts : List Placed) → any test ts ≡ true → First test ts
unfolding any
first_of test [] h = let z : ◌≡◌ {A = ℕ} 0 1 = cc in absurd (omega arith)
first_of test (t ∷ ts) h = by (test t) refl h (first_of test ts)
  where
    by : (b : Bool) → test t ≡ b → (test t || any test ts) ≡ true → (any test ts ≡ true → First test ts) → First test (t ∷ ts)
    by true e k f = record { before = []; t = t; after = ts; split = refl; holds = e; fresh = refl }
    by false e k f =
        let g = f (rw e at k) in
        record {
          before = t ∷ g.before;
          t = g.t;
          after = g.after;
          split = ap (λ (us : List Placed). t ∷ us) g.split;
          holds = g.holds;
          fresh = rw e g.fresh;
        }

-- two places of one list: the second isn't after the first, or it is among those after it
two_places : (xs : List Placed) (u : Placed) (ys zs : List Placed) (t : Placed) (ws : List Placed) → xs ++ (u ∷ ys) ≡ zs ++ (t ∷ ws)
    → ((mid : List Placed) × (xs ≡ zs ++ mid)) ⊎ Some (λ (v : Placed). v ≡ t) ys
two_places xs u ys [] t ws e = inl (xs, refl)
two_places [] u ys (z ∷ zs) t ws e = let g : ys ≡ zs ++ (t ∷ ws) = cc in inr (rw g (some_right (λ (v : Placed). v ≡ t) zs (here refl)))
two_places (x ∷ xs) u ys (z ∷ zs) t ws e =
    let g : xs ++ (u ∷ ys) ≡ zs ++ (t ∷ ws) = cc in
    let h : x ≡ z = cc in
    ⊎_elim (λ (k : (mid : List Placed) × (xs ≡ zs ++ mid)). inl (k.0, rw (h, k.1))) (λ (k : Some (λ (v : Placed). v ≡ t) ys). inr k) (two_places xs u ys zs t ws g)

-- without a breach
module _ (ts : List Placed) (size name : ℕ) where
  abbrev NoBreach : Type 0
  NoBreach = (rule place : ℕ) → Breach ts size name rule place → ⊥

  module _ (n : NoBreach) where
    no_term : (P : Placed → Type 0) (rule : ℕ) → ((before : List Placed) (t : Placed) → Among ts before t → P t → Breach ts size name rule t.place) → Some P ts → ⊥
    no_term P rule f s = let g = some_among P s in n rule g.t.place (f g.before g.t g.among g.is)

    end_all : any is_all ts ≡ true → OneEnd ts
    end_all h =
        let g = first_of is_all ts h in
        let a = named_is _ g.t g.holds in
        by_all g.split a (λ s. true_false (any is_all g.before) (all_any s) g.fresh)
        (λ s.
        let f = some_among Mechanism s in
        n 5 f.t.place (Breach.after_all {before = g.before ++ (g.t ∷ f.before)}
        (record {
          after = f.among.after;
          split = g.split ∙ ap (λ (us : List Placed). g.before ++ (g.t ∷ us)) f.among.split ∙ sym (append_assoc g.before (g.t ∷ f.before) (f.t ∷ f.among.after));
        })
        f.is (some_right All g.before (here a))))
        (no_term Redirect 4 (λ us u k r. Breach.beside_all k r (alls ts h)))

    end_other : any is_all ts ≡ false → (b : Bool) → any redirects ts ≡ b → OneEnd ts
    end_other h true e = by_redirect (λ s. true_false (any is_all ts) (all_any s) h) (any_some Redirect redirects redirect_is ts e)
    end_other h false e =
        absurd (n 3 size (Breach.wrong_end (missing (λ s. true_false (any is_all ts) (all_any s) h)
        (λ s. true_false (any redirects ts) (some_any Redirect redirects is_redirect_lem s) e))))

    one_end_by : (b : Bool) → any is_all ts ≡ b → OneEnd ts
    one_end_by true e = end_all e
    one_end_by false e = end_other e (any redirects ts) refl

    last_modifier : {before : List Placed} {t : Placed} → Among ts before t → Some RedirectOrExp before → (b : Bool) → modifies t ≡ b → RedirectOrExp t
    last_modifier {before} {t} a s true e = modifier_is t e
    last_modifier {before} {t} a s false e = absurd (n 6 t.place (Breach.after_modifier a (λ m. true_false (modifies t) (is_modifier t m) e) s))

    publishable : Publishable ts size name
    publishable =
        record {
          no_ptr = no_term Ptr 1 (λ us u a p. Breach.ptr a p);
          no_p = no_term WithP 2 (λ us u a p. Breach.p_macro a p);
          one_end = one_end_by (any is_all ts) refl;
          modifiers_last = λ {before} {t} a s. last_modifier a s (modifies t) refl;
          no_plus_all = no_term PlusAll 7 (λ us u a p. Breach.plus_all a p);
          no_short = no_term Short 8 (λ us u a p. Breach.short a p);
          networks_differ = λ {before} {t} a s. n 9 t.place (Breach.equal_network a s);
          fits = ⊎_elim (λ (h : too_many_bytes ≤ name + size). absurd (n 10 size (Breach.long h))) (λ (h : name + size < too_many_bytes). h)
              (le_or_lt too_many_bytes (name + size));
        }

  -- and the other way round
  second_all : OneEnd ts → {before : List Placed} {t : Placed} → Among ts before t → Mechanism t → Some All before → ⊥
  second_all (by_all {before = xs} {after = ys} {t = u} e a f m r) {before} {t} k h s = ⊎_elim
      (λ (w : (mid : List Placed) × (xs ≡ before ++ mid)). f (rw w.1 (some_left All w.0 s)))
      (λ (w : Some (λ (v : Placed). v ≡ t) ys). m (moved w))
      (two_places xs u ys before t k.after (sym e ∙ k.split))
    where
      moved : {vs : List Placed} → Some (λ (v : Placed). v ≡ t) vs → Some Mechanism vs
      moved (here q) = here (subst Mechanism (sym q) h)
      moved (later q) = later (moved q)
  second_all (by_redirect f r) {before} {t} k h s = f (rw k.split (some_left All (t ∷ k.after) s))

  no_breach : Publishable ts size name → {rule place : ℕ} → Breach ts size name rule place → ⊥
  no_breach p (Breach.ptr a h) = p.no_ptr (among_some Ptr a h)
  no_breach p (Breach.p_macro a h) = p.no_p (among_some WithP a h)
  no_breach p (Breach.wrong_end (missing f g)) = ends p.one_end
    where
      ends : OneEnd ts → ⊥
      ends (by_all {before = xs} {t = u} e a b m r) = f (rw e (some_right All xs (here a)))
      ends (by_redirect a r) = g r
  no_breach p (Breach.wrong_end (again a h s)) = second_all p.one_end a h.mechanism s
  no_breach p (Breach.beside_all a h s) = ends p.one_end
    where
      ends : OneEnd ts → ⊥
      ends (by_all e b f m r) = r (among_some Redirect a h)
      ends (by_redirect f r) = f s
  no_breach p (Breach.after_all a h s) = second_all p.one_end a h s
  no_breach p (Breach.after_modifier a h s) = h (p.modifiers_last a s)
  no_breach p (Breach.plus_all a h) = p.no_plus_all (among_some PlusAll a h)
  no_breach p (Breach.short a h) = p.no_short (among_some Short a h)
  no_breach p (Breach.equal_network a s) = p.networks_differ a s
  no_breach p (Breach.long h) = omega (arith, p.fits)

-- a record that may be published has the empty list, and only such a one
pub listed_nothing : (ts : List Placed) (size name : ℕ) → Publishable ts size name → Listing ts size name []
listed_nothing ts size name p =
    record {
      sorted = none;
      lists = λ e. ((λ m. absurd (nobody (λ (x : Entry). x ≡ e) m refl)), (λ b. absurd (no_breach ts size name p b)));
    }

pub nothing_listed : (ts : List Placed) (size name : ℕ) → Listing ts size name [] → Publishable ts size name
nothing_listed ts size name l =
    publishable ts size name (λ rule place b. nobody (λ (x : Entry). x ≡ entry rule place) ((l.lists (entry rule place)).1 b) refl)

-- a place of a breach is at most the record's length
among_below : {lo hi : ℕ} {ts : List Placed} → Ascending lo ts hi → (before : List Placed) (t : Placed) (after : List Placed) → ts ≡ before ++ (t ∷ after) → t.place < hi
among_below (ascending_none h) [] t after e = let z : ◌≡◌ {A = ℕ} 0 1 = cc in absurd (omega arith)
among_below (ascending_none h) (u ∷ before) t after e = let z : ◌≡◌ {A = ℕ} 0 1 = cc in absurd (omega arith)
among_below {hi = hi} (ascending_more {t = u} {ts = ts} h a) [] t after e =
    let g : u ≡ t = cc in subst (λ (v : Placed). v.place < hi) g (lower a)
  where
    lower : {lo hi : ℕ} {us : List Placed} → Ascending lo us hi → lo ≤ hi
    lower (ascending_none k) = k
    lower {lo} {hi} (ascending_more {t = v} k b) = let m : suc v.place ≤ hi = lower b in omega arith
among_below (ascending_more {t = u} {ts = ts} h a) (v ∷ before) t after e = let g : ts ≡ before ++ (t ∷ after) = cc in among_below a before t after g

pub breach_below : {lo : ℕ} {ts : List Placed} {size name rule place : ℕ} → Ascending lo ts size → Source ts size name rule place → place ≤ size
breach_below {ts = ts} {size = size} a (Source.of_term {before} {t} l k m h) = let b = among_below a before t m.after m.split in omega arith
breach_below a (Source.of_end l k h) = omega arith

-- a member of a list, at its place
record At (e : Entry) (es : List Entry) : Type 0 where
  us : List Entry
  vs : List Entry
  split : es ≡ us ++ (e ∷ vs)
  inside : length us < length es

member_at : {e : Entry} {es : List Entry} → Member e es → At e es
member_at (here {x} {xs} h) = record { us = []; vs = xs; split = ap (λ (y : Entry). y ∷ xs) h; inside = omega arith }
member_at (later {x} {xs} h) =
    let f = member_at h in
    record { us = x ∷ f.us; vs = f.vs; split = ap (λ (ys : List Entry). x ∷ ys) f.split; inside = omega (arith, f.inside) }

at_member : (e : Entry) (es us vs : List Entry) → es ≡ us ++ (e ∷ vs) → Member e es
at_member e es us vs h = rw h (some_right (λ (x : Entry). x ≡ e) us (here refl))

-- the list and its bytes
module _ (domain s before after : List ℕ) (n : ℕ) (ts : List Placed) (d : Record s ts) where
  record Read : Type 0 where
    es : List Entry
    short : length s ≤ most_bytes
    listing : Listing ts (length s) (length domain) es
    rest : List ℕ
    bytes : after ≡ encoded es ++ rest
    count : n ≡ length es

  read : HouseAnswers domain s before after (Ok n) → Read
  read a = by a refl
    where
      by : {r : Result ℕ HouseError} → HouseAnswers domain s before after r → r ≡ Ok n → Read
      by (HouseAnswers.long_name h e) q = let z : ◌≡◌ {A = ℕ} 0 1 = cc in absurd (omega arith)
      by (HouseAnswers.unread h b e) q = let z : ◌≡◌ {A = ℕ} 0 1 = cc in absurd (omega arith)
      by (HouseAnswers.no_room h k c l m e) q = let z : ◌≡◌ {A = ℕ} 0 1 = cc in absurd (omega arith)
      by (HouseAnswers.listed {ts = us} {es = es} h k c l i j e) q =
          let m : length es ≡ n = cc in
          record {
            es = es;
            short = k;
            listing = subst (λ (vs : List Placed). Listing vs (length s) (length domain) es) (one_reading k c d) l;
            rest = drop (breach_bytes * length es) before;
            bytes = e;
            count = sym m;
          }

  small : (r : Read) {rule place : ℕ} → Breach ts (length s) (length domain) rule place → place < 65536
  small r b = let k = breach_below (terms_rise d r.short) (source b) in omega (arith, r.short)

  listed_at : (r : Read) (us : List Entry) (e : Entry) (vs : List Entry) → r.es ≡ us ++ (e ∷ vs)
      → (rule_at after (length us) ≡ e.rule) × (place_at after (length us) ≡ e.place)
  listed_at r us e vs h =
      subst (λ (x : List ℕ). (rule_at x (length us) ≡ e.rule) × (place_at x (length us) ≡ e.place)) (sym r.bytes)
      (encoded_at r.es r.rest us e vs h (small r ((r.listing.lists e).0 (at_member e r.es us vs h))))

  really_is : HouseAnswers domain s before after (Ok n) → (k : ℕ) → k < n → Breach ts (length s) (length domain) (rule_at after k) (place_at after k)
  really_is a k h =
      let r = read a in
      let no = entry 0 0 in
      let inside : k < length r.es = omega (arith, r.count) in
      let e = get_or r.es k no in
      let q = split_at r.es k no inside in
      let l : length (take k r.es) ≡ k = length-take-le k r.es (omega arith) in
      let o = listed_at r (take k r.es) e (drop (suc k) r.es) q in
      let rule : rule_at after k ≡ e.rule = ap (rule_at after) (sym l) ∙ o.0 in
      let place : place_at after k ≡ e.place = ap (place_at after) (sym l) ∙ o.1 in
      rw (rule, place) ((r.listing.lists e).0 (at_member e r.es (take k r.es) (drop (suc k) r.es) q))

  every_is : HouseAnswers domain s before after (Ok n) → (rule place : ℕ) → Breach ts (length s) (length domain) rule place
      → (k : ℕ) × ((k < n) × ((rule_at after k ≡ rule) × (place_at after k ≡ place)))
  every_is a rule place b =
      let r = read a in
      let m = member_at ((r.listing.lists (entry rule place)).1 b) in
      let o = listed_at r m.us (entry rule place) m.vs m.split in
      (length m.us, (omega (arith, m.inside, r.count), (o.0, o.1)))

clean_is : {domain s before after : List ℕ} → HouseAnswers domain s before after (Ok 0) → (ts : List Placed) → Record s ts
    → Publishable ts (length s) (length domain)
clean_is {domain} {s} {before} {after} a ts d =
    publishable ts (length s) (length domain) (λ rule place b. let k = every_is domain s before after 0 ts d a rule place b in omega (arith, k.1.0))

none_listed_is : {domain s before : List ℕ} → length domain ≤ most_name → (ts : List Placed) → Record s ts
    → Publishable ts (length s) (length domain) → HouseAnswers domain s before before (Ok 0)
unfolding encoded
none_listed_is {domain} {s} {before} h ts d p =
    HouseAnswers.listed {es = []} h (omega (arith, p.fits)) d (listed_nothing ts (length s) (length domain) p) (omega arith) (omega arith) refl

pub desk : (domain s before after : List ℕ) → Desk domain s before after
desk domain s before after =
    record {
      clean = λ a ts d. clean_is a ts d;
      none_listed = λ h ts d p. none_listed_is h ts d p;
      really = λ n a ts d k h. really_is domain s before after n ts d a k h;
      every = λ n a ts d rule place b. every_is domain s before after n ts d a rule place b;
    }
