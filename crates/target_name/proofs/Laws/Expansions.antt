-- What an expansion that was written into an array tells of its text, and what goes on with an expansion once p's questions are answered. Targets and
-- explanations stand on these. From the contract of macros' `write_expansion`, and from Inversions.
use Rattle.std.proofs.Common.{Result, Ok, Err, Bor}
use Prim.Native.Nat.{ℕ, ◌≤◌, ◌<◌}
use mathlib.Core.Path.{◌≡◌, refl, sym, ap, subst, ◌∙◌}
use mathlib.Core.List.{List, [], ◌++◌}
use mathlib.Core.Bool.{Bool, true, false, cond}
use native.Mathlib.Omega.{arith}
use lib.Dec.{leb}
use lib.ListN.{length, take, drop, length-append}
use lib.Seq.{take_at}
use borrow.Author.Tests.{leb-true, leb-false}
use Rattle.text.proofs.Laws.Writing.{over_fits}
use Rattle.address.specs.declared.Address.{Address}
use Rattle.macros.specs.declared.Form.{Form}
use Rattle.macros.specs.declared.ExpandError.{ExpandError}
use Rattle.macros.specs.declared.ExpandError.TheVariants.{NoRoom}
use Rattle.macros.specs.Reader.{pieces, uses_p}
use Rattle.macros.specs.Expansion.{Given, given, letters_of, text_of}
use Rattle.macros.specs.Numbers.{fitted, answer_of, buffer_of, Says}
use Rattle.rules.specs.declared.Counts.{Counts}
use Rattle.rules.specs.declared.Progress.{Progress}
use Rattle.rules.specs.declared.Wanted.{Wanted}
use Rattle.rules.specs.Tree.{Check, give, bind, run}
use Rattle.rules.specs.Tables.{table_in}
use Rattle.rules.specs.Outcomes.{Gives, Wants, PFound, FindsP}
use Rattle.rules.specs.Mechanisms.{Mail, p_value, expansion, gives_expansion, expanded}
use Rattle.rules.proofs.Laws.Inversions.{gives_give, gives_bind, wants_bind, p_gives, p_found, p_wants}
use Rattle.target_name.specs.Choosing.{p_for}

-- the text xs in an array that held z and holds v
unfoldable TextIs : (xs z : List ℕ) → Result ℕ ExpandError → List ℕ → Type 0
TextIs xs z (Ok n) v = (n ≡ length xs) × (n ≤ length z) × (v ≡ xs ++ drop (length xs) z)
TextIs xs z (Err k) v = length z < length xs

text_is : (xs z v : List ℕ) (x : Result ℕ ExpandError) → Says (fitted xs (length z)) x z v → TextIs xs z x v
unfolding fitted TextIs
text_is xs z v x says = by (leb (length xs) (length z)) refl says.answer says.buffer
  where
    by : (b : Bool) → leb (length xs) (length z) ≡ b → x ≡ answer_of (cond b (Ok xs) (Err NoRoom)) → v ≡ buffer_of (cond b (Ok xs) (Err NoRoom)) z → TextIs xs z x v
    by true e a u = let l = leb-true (length xs) (length z) e in rw a (refl, l, u ∙ over_fits xs z l)
    by false e a u = let l = leb-false (length xs) (length z) e in rw a l

module _ (xs z v : List ℕ) (x : Result ℕ ExpandError) (says : Says (fitted xs (length z)) x z v) where
  by_case : (y : Result ℕ ExpandError) → x ≡ y → TextIs xs z y v
  by_case y e = subst (λ (w : Result ℕ ExpandError). TextIs xs z w v) e (text_is xs z v x says)

  pub text_taken : (n : ℕ) → x ≡ Ok n → take n v ≡ xs
  unfolding TextIs
  text_taken n e = let w = by_case (Ok n) e in rw w.2 (take_at xs (drop (length xs) z) n (sym w.0))

  pub text_inside : (n : ℕ) → x ≡ Ok n → n ≤ length v
  unfolding TextIs
  text_inside n e = let w = by_case (Ok n) e in rw (w.2, length-append) (omega (arith, w.0))

  pub text_whole : (n : ℕ) → x ≡ Ok n → n ≡ length (take n v)
  unfolding TextIs
  text_whole n e = (by_case (Ok n) e).0 ∙ sym (ap length (text_taken n e))

  pub text_fits : (n : ℕ) → x ≡ Ok n → length xs ≤ length z
  unfolding TextIs
  text_fits n e = let w = by_case (Ok n) e in omega (arith, w.0, w.1)

  pub text_over : (k : ExpandError) → x ≡ Err k → length z < length xs
  unfolding TextIs
  text_over k e = by_case (Err k) e

-- the text is an expansion
pub expansion_says : (mail : Mail) (d : List ℕ) (form : Form) (s p z v : List ℕ) (x : Result ℕ ExpandError) (g : Given)
    → g ≡ given mail.sender mail.helo mail.receiver d p mail.client mail.seconds → Says (fitted (text_of (letters_of g) (pieces form s).list) (length z)) x z v
    → Says (fitted (expansion mail d form s p) (length z)) x z v
unfolding expansion
expansion_says mail d form s p z v x g e says = rw e at says

-- `find_p_for`
module _ (client : Address) (t d : List ℕ) (form : Form) (s : List ℕ) (u : Bool) (e : u ≡ uses_p form s) (p : Progress) where
  pub p_used : u ≡ true → (q : Progress) (r : PFound) (b a : List ℕ) → FindsP t (p_value client d p.counts) p q r b a → FindsP t (p_for client d form s p.counts) p q r b a
  unfolding p_for
  p_used h q r b a w = rw (← e, h) w

  pub p_unused : u ≡ false → (v : Bor (List ℕ)) → v.now ≡ [] → (b : List ℕ) → FindsP t (p_for client d form s p.counts) p p (Ok v) b b
  unfolding p_for
  p_unused h v k b = p_gives p.counts _ p.life v b b (rw (← e, h, k) (gives_give (table_in t) p.life [] b))

-- a text that is expanded with the value of p that was found
module _ (mail : Mail) (d : List ℕ) (form : Form) (s : List ℕ) where
  expanded_for : (c : Counts) → expanded mail d form s c ≡ bind (p_for mail.client d form s c) (gives_expansion mail d form s)
  unfolding expanded p_for bind
  expanded_for c = by (uses_p form s)
    where
      by : (u : Bool) → cond u (bind (p_value mail.client d c) (gives_expansion mail d form s)) (gives_expansion mail d form s [])
          ≡ bind (cond u (p_value mail.client d c) (give [])) (gives_expansion mail d form s)
      by true = refl
      by false = refl

  module _ {A : Type 0} (go : List ℕ → Check A) (t : List ℕ) (p q : Progress) (b a : List ℕ) where
    pub expansion_given : (f : List ℕ → A) → ((x : List ℕ) → go x ≡ give (f x)) → (v : Bor (List ℕ)) → FindsP t (p_for mail.client d form s p.counts) p q (Ok v) b a
        → Gives (run (table_in t) p.life (bind (expanded mail d form s p.counts) go)) (f (expansion mail d form s v.now)) q.life b a × (q.counts ≡ p.counts)
    unfolding gives_expansion
    expansion_given f gives v w =
        let g = p_found p.counts _ _ b a w v refl in (
          rw (expanded_for p.counts)
              (gives_bind (table_in t) p.life (bind (p_for mail.client d form s p.counts) (gives_expansion mail d form s)) go (expansion mail d form s v.now) (f (expansion mail d form s v.now)) q.life b a
              (gives_bind (table_in t) p.life (p_for mail.client d form s p.counts) (gives_expansion mail d form s) v.now (expansion mail d form s v.now) q.life b a g.0 refl)
              (gives (expansion mail d form s v.now))),
          g.1,
        )

    pub expansion_wanted : (w : Wanted) → FindsP t (p_for mail.client d form s p.counts) p q (Err w) b a
        → Wants (run (table_in t) p.life (bind (expanded mail d form s p.counts) go)) w.kind w.length p.counts q.life b a × (q.counts ≡ p.counts)
    expansion_wanted w y =
        let g = p_wants p.counts _ _ b a y w refl in (
          rw (expanded_for p.counts)
              (wants_bind (table_in t) p.life (bind (p_for mail.client d form s p.counts) (gives_expansion mail d form s)) go w.kind w.length p.counts q.life b a
              (wants_bind (table_in t) p.life (p_for mail.client d form s p.counts) (gives_expansion mail d form s) w.kind w.length p.counts q.life b a g.0)),
          g.1,
        )
