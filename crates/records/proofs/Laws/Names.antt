-- Names: a word in either case of its letters, the name of a term as the longest run of name bytes, and which mechanism a name is. From the
-- definitions of Grammar and Reader and the laws of runs.
use Rattle.std.proofs.Common.{None, Option, Some}
use Prim.Native.Nat.{ℕ, ◌+◌}
use mathlib.Core.Path.{◌≡◌, refl, sym, ap, ◌∙◌}
use mathlib.Core.List.{List, [], ◌∷◌, ◌++◌, map, append-nil}
use mathlib.Core.Bool.{true, false}
use native.Mathlib.Omega.{arith}
use native.Mathlib.Nat.{add-zero}
use lib.ListN.{length, length-map}
use lib.Seq.{drop-length, get_or-drop}
use Rattle.text.specs.Bytes.{at, part, lower, within, is_upper, is_alpha, is_digit, is_alphanumeric, is_name_byte}
use Rattle.text.specs.Lists.{all, same, same_word}
use Rattle.text.specs.Texts.{bytes}
use Rattle.text.specs.Runs.{is_in, run_end}
use Rattle.text.specs.declared.bytes.Class.TheVariants.{NameByte}
use Rattle.text.proofs.Laws.Tests.{cond-elim, true_false, or_left}
use Rattle.text.proofs.Laws.Classes.{apart, class_test, class_tests}
use Rattle.text.proofs.Laws.Words.{same_true, true_same, at_lowered}
use Rattle.text.proofs.Laws.Spans.{Span, span_cut}
use Rattle.text.proofs.Laws.Runs.{span_run}
use Rattle.text.proofs.Laws.Parts.{all_none, all_cons, all_first, all_rest}
use Rattle.macros.proofs.Laws.Bytes.{alpha_alphanumeric}
use Rattle.records.specs.Grammar.{Literal, is_qualifier, is_reserved}
use Rattle.records.specs.Reader.{kind_of, later_kind}
use Rattle.records.specs.declared.Term.{Term}
use Rattle.records.specs.declared.terms.Kind.{Kind}

-- bytes and their lower case
pub alpha_name : (b : ℕ) → is_alpha b ≡ true → is_name_byte b ≡ true
unfolding is_name_byte
alpha_name b h = or_left (is_alphanumeric b) _ (alpha_alphanumeric b h)

upper_alpha : (b : ℕ) → is_upper b ≡ true → is_alpha b ≡ true
unfolding is_alpha
upper_alpha b h = or_left (is_upper b) (within 97 122 b) h

lowered_alpha : (b c : ℕ) → lower b ≡ c → is_alpha c ≡ true → is_alpha b ≡ true
unfolding lower
lowered_alpha b c e h = cond-elim (λ (n : ℕ). n ≡ c → is_alpha b ≡ true) (is_upper b) {x = b + 32} {y = b} (λ u _. upper_alpha b u) (λ _ q. ap is_alpha q ∙ h) e

lowered_name : (b c : ℕ) → lower b ≡ c → is_name_byte c ≡ true → is_name_byte b ≡ true
unfolding lower
lowered_name b c e h =
    cond-elim (λ (n : ℕ). n ≡ c → is_name_byte b ≡ true) (is_upper b) {x = b + 32} {y = b} (λ u _. alpha_name b (upper_alpha b u)) (λ _ q. ap is_name_byte q ∙ h) e

-- a word that a name may be: name bytes, the first a letter
pub record Word (word : List ℕ) : Type 0 where
  pub letter : is_alpha (at word 0) ≡ true
  pub names : all is_name_byte word ≡ true

lowered_names : (word w : List ℕ) → all is_name_byte word ≡ true → map lower w ≡ word → all is_name_byte w ≡ true
lowered_names word [] h e = all_none is_name_byte
lowered_names [] (b ∷ w) h e = let z : ◌≡◌ {A = ℕ} 0 1 = cc in absurd (omega arith)
lowered_names (c ∷ word) (b ∷ w) h e =
    let a : lower b ≡ c = cc in
    let t : map lower w ≡ word = cc in
    all_cons is_name_byte b w (lowered_name b c a (all_first is_name_byte c word h)) (lowered_names word w (all_rest is_name_byte c word h) t)

-- in either case it is one too
pub literal_word : {word w : List ℕ} → Word word → Literal word w → Word w
literal_word {word} {w} k l = record {
  letter = lowered_alpha (at w 0) (at word 0) (sym (at_lowered w 0) ∙ ap (λ (t : List ℕ). at t 0) l.lowered) k.letter;
  names = lowered_names word w k.names l.lowered;
}

pub literal_length : {word w : List ℕ} → Literal word w → length w ≡ length word
literal_length {word} {w} l = sym (length-map w lower) ∙ ap length l.lowered

-- the names of the known modifiers
pub redirect_word : Word (bytes "redirect")
unfolding all is_name_byte is_alphanumeric is_alpha is_upper is_digit within
redirect_word = record { letter = refl; names = refl }

pub exp_word : Word (bytes "exp")
unfolding all is_name_byte is_alphanumeric is_alpha is_upper is_digit within
exp_word = record { letter = refl; names = refl }

-- the test of a word against the equation
pub literal_of : (word w : List ℕ) → same_word w word ≡ true → Literal word w
unfolding same_word
literal_of word w h = record { lowered = same_true (map lower w) word h }

pub literal_same : (word w : List ℕ) → Literal word w → same_word w word ≡ true
unfolding same_word
literal_same word w l = true_same (map lower w) word l.lowered

-- which mechanism a name is
abbrev pub KindRight : List ℕ → Option Kind → Type 0
KindRight w (Some Kind.All) = Literal (bytes "all") w
KindRight w (Some Kind.Include) = Literal (bytes "include") w
KindRight w (Some Kind.A) = Literal (bytes "a") w
KindRight w (Some Kind.Mx) = Literal (bytes "mx") w
KindRight w (Some Kind.Ptr) = Literal (bytes "ptr") w
KindRight w (Some Kind.Ip4) = Literal (bytes "ip4") w
KindRight w (Some Kind.Ip6) = Literal (bytes "ip6") w
KindRight w (Some Kind.Exists) = Literal (bytes "exists") w
KindRight w None = Unit {0}

later_sound : (w : List ℕ) → KindRight w (later_kind w)
unfolding later_kind
later_sound w =
    cond-elim (KindRight w) (same_word w (bytes "ip4")) (literal_of (bytes "ip4") w)
    (λ _. cond-elim (KindRight w) (same_word w (bytes "ip6")) (literal_of (bytes "ip6") w)
    (λ _. cond-elim (KindRight w) (same_word w (bytes "exists")) (literal_of (bytes "exists") w) (λ _. tt)))

pub kind_sound : (w : List ℕ) → KindRight w (kind_of w)
unfolding kind_of
kind_sound w =
    cond-elim (KindRight w) (same_word w (bytes "all")) (literal_of (bytes "all") w)
    (λ _. cond-elim (KindRight w) (same_word w (bytes "include")) (literal_of (bytes "include") w)
    (λ _. cond-elim (KindRight w) (same_word w (bytes "a")) (literal_of (bytes "a") w)
    (λ _. cond-elim (KindRight w) (same_word w (bytes "mx")) (literal_of (bytes "mx") w)
    (λ _. cond-elim (KindRight w) (same_word w (bytes "ptr")) (literal_of (bytes "ptr") w) (λ _. later_sound w)))))

-- the name of a mechanism: in either case of its letters it is of the kind
pub record Known (name : List ℕ) (kind : Option Kind) : Type 0 where
  pub word : Word name
  pub is : (w : List ℕ) → Literal name w → kind_of w ≡ kind

pub all_known : Known (bytes "all") (Some Kind.All)
unfolding kind_of later_kind same_word same all is_name_byte is_alphanumeric is_alpha is_upper is_digit within
all_known = record { word = record { letter = refl; names = refl }; is = λ w l. rw l.lowered }

pub include_known : Known (bytes "include") (Some Kind.Include)
unfolding kind_of later_kind same_word same all is_name_byte is_alphanumeric is_alpha is_upper is_digit within
include_known = record { word = record { letter = refl; names = refl }; is = λ w l. rw l.lowered }

pub a_known : Known (bytes "a") (Some Kind.A)
unfolding kind_of later_kind same_word same all is_name_byte is_alphanumeric is_alpha is_upper is_digit within
a_known = record { word = record { letter = refl; names = refl }; is = λ w l. rw l.lowered }

pub mx_known : Known (bytes "mx") (Some Kind.Mx)
unfolding kind_of later_kind same_word same all is_name_byte is_alphanumeric is_alpha is_upper is_digit within
mx_known = record { word = record { letter = refl; names = refl }; is = λ w l. rw l.lowered }

pub ptr_known : Known (bytes "ptr") (Some Kind.Ptr)
unfolding kind_of later_kind same_word same all is_name_byte is_alphanumeric is_alpha is_upper is_digit within
ptr_known = record { word = record { letter = refl; names = refl }; is = λ w l. rw l.lowered }

pub ip4_known : Known (bytes "ip4") (Some Kind.Ip4)
unfolding kind_of later_kind same_word same all is_name_byte is_alphanumeric is_alpha is_upper is_digit within
ip4_known = record { word = record { letter = refl; names = refl }; is = λ w l. rw l.lowered }

pub ip6_known : Known (bytes "ip6") (Some Kind.Ip6)
unfolding kind_of later_kind same_word same all is_name_byte is_alphanumeric is_alpha is_upper is_digit within
ip6_known = record { word = record { letter = refl; names = refl }; is = λ w l. rw l.lowered }

pub exists_known : Known (bytes "exists") (Some Kind.Exists)
unfolding kind_of later_kind same_word same all is_name_byte is_alphanumeric is_alpha is_upper is_digit within
exists_known = record { word = record { letter = refl; names = refl }; is = λ w l. rw l.lowered }

-- a name that begins at i and ends before k, and what stands from there on
pub record NameAt (w : List ℕ) (i k : ℕ) (name rest : List ℕ) : Type 0 where
  pub front : Span w i k name
  pub after : Span w k (length w) rest
  pub ends : run_end (is_in NameByte) w i ≡ k
  pub follows : at w k ≡ at rest 0
  pub first : is_alpha (at w i) ≡ true

-- the byte where a last word begins
pub last_at : {w : List ℕ} {k : ℕ} (rest : List ℕ) → Span w k (length w) rest → at w k ≡ at rest 0
last_at {w} {k} rest p =
    sym (simp add-zero at (get_or-drop k w 0 0)) ∙ ap (λ (t : List ℕ). at t 0) (p.split ∙ ap (λ (t : List ℕ). rest ++ t) (drop-length w) ∙ append-nil rest)

alpha_zero : is_alpha 0 ≡ false
unfolding is_alpha is_upper within
alpha_zero = refl

first_at : (u rest : List ℕ) → is_alpha (at u 0) ≡ true → is_alpha (at (u ++ rest) 0) ≡ true
first_at [] rest h = absurd (true_false (is_alpha 0) h alpha_zero)
first_at (b ∷ u) rest h = h

pub name_at : {w u rest : List ℕ} {i : ℕ} → Word u → Span w i (length w) (u ++ rest) → is_name_byte (at rest 0) ≡ false → NameAt w i (i + length u) u rest
name_at {w} {u} {rest} {i} k p n =
    let c = span_cut u rest p in
    let f = last_at rest c.1 in
    record {
      front = c.0;
      after = c.1;
      ends = span_run (is_in NameByte) c.0 (class_tests NameByte u ∙ k.names) (class_test NameByte (at w (i + length u)) ∙ ap is_name_byte f ∙ n);
      follows = f;
      first = ap is_alpha (last_at (u ++ rest) p) ∙ first_at u rest k.letter;
    }

-- the name of an unknown modifier is none of the two that are reserved
abbrev pub Unreserved : List ℕ → Term → Type 0
Unreserved w (Term.All sign) = Unit {0}
Unreserved w (Term.Include sign from to) = Unit {0}
Unreserved w (Term.A sign from to n m) = Unit {0}
Unreserved w (Term.Mx sign from to n m) = Unit {0}
Unreserved w (Term.Ptr sign from to) = Unit {0}
Unreserved w (Term.Network sign from to x n) = Unit {0}
Unreserved w (Term.Exists sign from to) = Unit {0}
Unreserved w (Term.Redirect from to) = Unit {0}
Unreserved w (Term.Explanation from to) = Unit {0}
Unreserved w (Term.Unknown name to) = is_reserved (part w 0 name) ≡ false

-- a letter is no qualifier, and past the end stands none
pub alpha_unsigned : (b : ℕ) → is_alpha b ≡ true → is_qualifier b ≡ false
unfolding is_qualifier is_alpha is_upper within
alpha_unsigned b h = simp (apart is_alpha b 43 h refl, apart is_alpha b 45 h refl, apart is_alpha b 63 h refl, apart is_alpha b 126 h refl)

pub qualifier_zero : is_qualifier 0 ≡ false
unfolding is_qualifier
qualifier_zero = refl
