-- p's questions, name after name: a rule for each way out. From the laws of questions in client_match, of the choice, and Inversions.
use Rattle.std.proofs.Common.{Option, Ok, Err, Bor}
use Prim.Native.Nat.{ℕ, zero, suc, ◌+◌, ◌≤◌, ◌<◌}
use mathlib.Core.Path.{◌≡◌, refl, sym, ◌∙◌}
use mathlib.Core.List.{List, [], ◌∷◌, ◌++◌}
use mathlib.Core.Bool.{Bool, true, false, cond}
use native.Mathlib.Omega.{arith}
use lib.ListN.{length, take}
use lib.Seq.{take-nil}
use Rattle.text.specs.Bytes.{part}
use Rattle.text.specs.Texts.{bytes}
use Rattle.text.specs.Writing.{Wrote}
use Rattle.text.proofs.Laws.Writing.{value_taken, value_inside, value_whole}
use Rattle.address.specs.declared.Address.{Address}
use Rattle.answer_table.specs.declared.Found.{Found}
use Rattle.answer_table.specs.Reader.{items_of}
use Rattle.address_text.specs.Forms.{reversed_name}
use Rattle.address_text.proofs.Laws.Lengths.{length_reversed}
use Rattle.rules.specs.declared.Counts.{Counts}
use Rattle.rules.specs.declared.Progress.{Progress}
use Rattle.rules.specs.declared.Wanted.{Wanted}
use Rattle.rules.specs.Tree.{failed, items, Table, ask, bind, run}
use Rattle.rules.specs.Tables.{reply_by, table_in}
use Rattle.rules.specs.Mechanisms.{address_kind, includes_client, with_valid, validated, names_of, chosen, holds_name, first_below, first_or, gives_chosen, p_reply, p_value}
use Rattle.rules.specs.Outcomes.{Gives, Wants, LooksUp, PFound, FindsP}
use Rattle.rules.proofs.Laws.Runs.{bind_is}
use Rattle.rules.proofs.Laws.Inversions.{gives_give, gives_bind, wants_bind, p_gives, p_wanted}
use Rattle.client_match.proofs.Laws.Asked.{found_none, found_entry, found_failed, found_items}
use Rattle.target_name.specs.declared.Choice.{Choice}
use Rattle.target_name.specs.declared.Choice.TheVariants.{Nobody}
use Rattle.target_name.specs.Choosing.{choice_with, choice_value, gives_valid, valid, ValidIs, FindsValid}
use Rattle.target_name.proofs.Laws.Choosing.{Picks, picks_none, picks_more, picks_value}

-- `validate`
module _ (client : Address) (t n : List ℕ) (kind : ℕ) (k : kind ≡ address_kind client) (p q : Progress) (b a : List ℕ) where
  valid_is : valid client p.counts n ≡ ask kind n p.counts (gives_valid client)
  unfolding valid
  valid_is = rw k

  pub valid_wanted : (w : Wanted) → LooksUp t kind n p q (Err w) b a → FindsValid t (valid client p.counts n) p q (Err w) b a
  unfolding LooksUp ValidIs
  valid_wanted w f = record { counts_kept = f.counts_kept; valid = rw (valid_is, f.life_kept) (found_none t kind n p q b a w f p.counts (gives_valid client)) }

  pub valid_found : (x : Found) → LooksUp t kind n p q (Ok x) b a → (s : List ℕ) → s ≡ part t x.start x.end → (r : Bool) → r ≡ includes_client client (reply_by x.status (items_of s))
      → FindsValid t (valid client p.counts n) p q (Ok r) b a
  unfolding LooksUp ValidIs gives_valid
  valid_found x f s h r i =
      record {
        counts_kept = f.counts_kept;
        valid = rw (valid_is, found_entry t kind n p q b a x f p.counts (gives_valid client), f.name_kept, i, h) (gives_give (table_in t) q.life _ b);
      }

-- what is validated of a name and those after it, by the name
module _ (t : Table) (client : Address) (c : Counts) (l j : Option ℕ) (n : List ℕ) (ns found : List (List ℕ)) where
  validated_is : validated client c (n ∷ ns) found ≡ bind (valid client c n) (λ b. validated client c ns (cond b (found ++ (n ∷ [])) found))
  unfolding validated with_valid valid gives_valid bind
  validated_is = refl

  validated_by : (v : Bool) (b a : List ℕ) → Gives (run t l (valid client c n)) v j b a
      → run t l (validated client c (n ∷ ns) found) ≡ run t j (validated client c ns (cond v (found ++ (n ∷ [])) found))
  validated_by v b a g = rw validated_is (bind_is t l (valid client c n) _ v j g.is)

  validated_wants : (kind size : ℕ) (b a : List ℕ) → Wants (run t l (valid client c n)) kind size c j b a → Wants (run t l (validated client c (n ∷ ns) found)) kind size c j b a
  validated_wants kind size b a w = rw validated_is (wants_bind t l (valid client c n) _ kind size c j b a w)

-- the names that are left of the first ten, where the walk has an end and where it has a name
none_left : (n : ℕ) (xs ys : List (List ℕ)) → (0 < n → (xs ≡ []) × (ys ≡ [])) → take n xs ≡ []
none_left zero xs ys h = refl
none_left (suc n) xs ys h = rw (h (omega arith)).0 (take-nil (suc n))

first_left : (n m : ℕ) (x : List ℕ) (xs ys : List (List ℕ)) → xs ≡ x ∷ ys → m + 1 ≡ n → take n xs ≡ x ∷ take m ys
first_left n m x xs ys e h = let z : n ≡ suc m = omega arith in rw (z, e) refl

-- `choose_name`: the names that are left, with the choice among those validated before them and the lifetime after those, come to what all names come to
module _ (client : Address) (t d : List ℕ) (names : List (List ℕ)) (p₀ : Progress) (b : List ℕ) where
  pub record Chosen (choice : Choice) (n : ℕ) (xs : List (List ℕ)) (p : Progress) (a : List ℕ) : Type 0 where
    pub kept : a ≡ b
    pub counts_kept : p.counts ≡ p₀.counts
    pub found : List (List ℕ)
    pub picks : Picks d choice found
    pub rest : run (table_in t) p.life (validated client p₀.counts (take n xs) found) ≡ run (table_in t) p₀.life (validated client p₀.counts (take 10 names) [])

  pub chosen_start : (n : ℕ) → n ≡ 10 → (xs : List (List ℕ)) → xs ≡ names → Chosen Nobody n xs p₀ b
  chosen_start n k xs e = record { kept = refl; counts_kept = refl; found = []; picks = picks_none d; rest = rw (k, e) refl }

  module _ (choice : Choice) (n : ℕ) (xs : List (List ℕ)) (p : Progress) (a : List ℕ) (w : Chosen choice n xs p a) where
    pub chosen_end : (ys : List (List ℕ)) → (0 < n → (xs ≡ []) × (ys ≡ [])) → (v : Bor (List ℕ)) → v.now ≡ choice_value choice d
        → FindsP t (p_reply client d p₀.counts (items names)) p₀ p (Ok v) b a
    unfolding p_reply names_of gives_chosen validated
    chosen_end ys h v e =
        let z : Gives (run (table_in t) p₀.life (validated client p₀.counts (take 10 names) [])) w.found p.life b a =
        rw (w.kept, ← w.rest, none_left n xs ys h) (gives_give (table_in t) p.life w.found b)
        in
        rw w.counts_kept
        (p_gives p₀.counts _ p.life v b a
        (rw (e ∙ picks_value d choice w.found w.picks)
        (gives_bind (table_in t) p₀.life (validated client p₀.counts (take 10 names) []) (gives_chosen d) w.found (chosen d w.found) p.life b a z refl)))

    module _ (x : Bor (List ℕ)) (m : ℕ) (ys : List (List ℕ)) (e : xs ≡ x.now ∷ ys) (h : m + 1 ≡ n) (q : Progress) (a' : List ℕ) where
      rest_is : run (table_in t) p.life (validated client p₀.counts (x.now ∷ take m ys) w.found) ≡ run (table_in t) p₀.life (validated client p₀.counts (take 10 names) [])
      rest_is = rw (first_left n m x.now xs ys e h) at w.rest

      valid_of : (r : Bool) → FindsValid t (valid client p.counts x.now) p q (Ok r) a a' → Gives (run (table_in t) p.life (valid client p₀.counts x.now)) r q.life a a'
      unfolding ValidIs
      valid_of r v = rw w.counts_kept at v.valid

      pub chosen_valid : (r : Bool) → FindsValid t (valid client p.counts x.now) p q (Ok r) a a' → r ≡ true → (y : Choice) → y ≡ choice_with choice d x → Chosen y m ys q a'
      chosen_valid r v i y k =
          let g : Gives (run (table_in t) p.life (valid client p₀.counts x.now)) true q.life a a' = rw i at (valid_of r v) in
          record {
            kept = g.kept ∙ w.kept;
            counts_kept = v.counts_kept ∙ w.counts_kept;
            found = w.found ++ (x.now ∷ []);
            picks = rw k (picks_more d x choice w.found w.picks);
            rest = sym (validated_by (table_in t) client p₀.counts p.life q.life x.now (take m ys) w.found true a a' g) ∙ rest_is;
          }

      pub chosen_invalid : (r : Bool) → FindsValid t (valid client p.counts x.now) p q (Ok r) a a' → r ≡ false → Chosen choice m ys q a'
      chosen_invalid r v i =
          let g : Gives (run (table_in t) p.life (valid client p₀.counts x.now)) false q.life a a' = rw i at (valid_of r v) in
          record {
            kept = g.kept ∙ w.kept;
            counts_kept = v.counts_kept ∙ w.counts_kept;
            found = w.found;
            picks = w.picks;
            rest = sym (validated_by (table_in t) client p₀.counts p.life q.life x.now (take m ys) w.found false a a' g) ∙ rest_is;
          }

      pub chosen_wanted : (u : Wanted) → FindsValid t (valid client p.counts x.now) p q (Err u) a a' → FindsP t (p_reply client d p₀.counts (items names)) p₀ q (Err u) b a'
      unfolding ValidIs p_reply names_of
      chosen_wanted u v =
          let y : Wants (run (table_in t) p.life (valid client p₀.counts x.now)) u.kind u.length p₀.counts q.life a a' = rw w.counts_kept at v.valid in
          let z = validated_wants (table_in t) client p₀.counts p.life q.life x.now (take m ys) w.found u.kind u.length a a' y in
          let i : Wants (run (table_in t) p₀.life (validated client p₀.counts (take 10 names) [])) u.kind u.length p₀.counts q.life b a' = rw (← rest_is, ← w.kept) z in
          rw (v.counts_kept, w.counts_kept)
          (p_wanted p₀.counts _ u q.life b a' (wants_bind (table_in t) p₀.life (validated client p₀.counts (take 10 names) []) (gives_chosen d) u.kind u.length p₀.counts q.life b a' i))

-- `ask_names`
module _ (client : Address) (t d n : List ℕ) (p q : Progress) (b a : List ℕ) where
  pub names_wanted : (w : Wanted) → LooksUp t 12 n p q (Err w) b a → FindsP t (ask 12 n p.counts (p_reply client d p.counts)) p q (Err w) b a
  unfolding LooksUp
  names_wanted w f = rw (f.counts_kept, f.life_kept) (p_wanted p.counts _ w p.life b a (found_none t 12 n p q b a w f p.counts (p_reply client d p.counts)))

  module _ (x : Found) (f : LooksUp t 12 n p q (Ok x) b a) where
    none_found : Gives (run (table_in t) q.life (p_reply client d p.counts failed)) (bytes "unknown") q.life b b
    unfolding p_reply names_of validated gives_chosen chosen holds_name first_below first_or bind
    none_found = gives_give (table_in t) q.life (bytes "unknown") b

    pub names_failed : x.status ≡ 2 → (v : Bor (List ℕ)) → v.now ≡ bytes "unknown" → FindsP t (ask 12 n p.counts (p_reply client d p.counts)) p q (Ok v) b a
    unfolding LooksUp
    names_failed h v e =
        rw (f.counts_kept, f.name_kept, found_failed t 12 n p q b a x f p.counts (p_reply client d p.counts) h) (p_gives p.counts _ q.life v b b (rw e none_found))

    pub names_items : (x.status ≡ 2 → ⊥) → (s : List ℕ) → s ≡ part t x.start x.end → (r : PFound) (q' : Progress) (a' : List ℕ)
        → FindsP t (p_reply client d q.counts (items (items_of s))) q q' r a a' → FindsP t (ask 12 n p.counts (p_reply client d p.counts)) p q' r b a'
    unfolding LooksUp
    names_items h s e r q' a' w =
        rw (found_items t 12 n p q b a x f p.counts (p_reply client d p.counts) h, ← e, ← f.counts_kept, ← f.name_kept) w

-- `find_p`: the reversed name in its array
module _ (client : Address) (z v f : List ℕ) (a n : ℕ) (start : a ≡ 0) (size : length z ≡ 72) (w : Wrote (reversed_name client) z a v n) (e : f ≡ v) where
  reversed_fits : length (reversed_name client) ≤ length z
  reversed_fits = let h = length_reversed client in omega arith

  from_front : Wrote (reversed_name client) z 0 f n
  from_front = rw e (rw start at w)

  pub reversed_inside : n ≤ length f
  reversed_inside = value_inside (reversed_name client) z f n from_front reversed_fits

  pub reversed_whole : n ≡ length (take n f)
  reversed_whole = value_whole (reversed_name client) z f n from_front reversed_fits

  pub reversed_taken : take n f ≡ reversed_name client
  reversed_taken = value_taken (reversed_name client) z f n from_front reversed_fits

pub p_asked : (client : Address) (s : List ℕ) → s ≡ reversed_name client → (t d : List ℕ) (p q : Progress) (r : PFound) (b a : List ℕ)
    → FindsP t (ask 12 s p.counts (p_reply client d p.counts)) p q r b a → FindsP t (p_value client d p.counts) p q r b a
unfolding p_value
p_asked client s e t d p q r b a w = rw (← e) w
