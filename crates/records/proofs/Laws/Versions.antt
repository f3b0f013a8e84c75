-- The version section: the reader's test against the productions. From the laws of words.
use Prim.Native.Nat.{ℕ, ◌≤◌}
use mathlib.Core.Path.{◌≡◌, sym, ap, subst, ◌∙◌}
use mathlib.Core.Logic.{inl, inr, ⊎_elim}
use mathlib.Core.List.{List, [], map}
use mathlib.Core.Bool.{true, ◌||◌}
use native.Mathlib.Omega.{arith}
use lib.ListN.{length, take, drop, length-append, take-append-drop, drop_of_length-le}
use lib.Seq.{get_or-drop, drop-append_seam, take-append_seam}
use lib.Dec.{eqb}
use borrow.Author.Tests.{eq-eqb, eqb-true}
use Rattle.text.specs.Bytes.{at, part, lower}
use Rattle.text.specs.Lists.{same_word}
use Rattle.text.specs.Texts.{bytes}
use Rattle.text.proofs.Laws.Tests.{and_left, and_right, and_both, or_elim, or_right}
use Rattle.text.proofs.Laws.Words.{same_true, true_same}
use Rattle.records.specs.Grammar.{Literal}
use Rattle.records.specs.Answers.{Version}
use Rattle.records.specs.Reader.{has_version, after_version}
use Rattle.records.proofs.Laws.Names.{literal_length}

pub version_length : (v : List ℕ) → Literal (bytes "v=spf1") v → length v ≡ after_version
version_length v l = literal_length l

module _ {s v rest : List ℕ} (d : Version s v rest) where
  pub version_size : length v ≡ after_version
  version_size = version_length v d.version

  pub version_rest : drop after_version s ≡ rest
  version_rest = subst (λ (n : ℕ). drop n s ≡ rest) version_size (ap (drop (length v)) d.whole ∙ drop-append_seam v rest)

  front_is : take after_version s ≡ v
  front_is = subst (λ (n : ℕ). take n s ≡ v) version_size (ap (take (length v)) d.whole ∙ take-append_seam v rest)

  version_ends : (eqb (length s) after_version || eqb (at s after_version) 32) ≡ true
  version_ends = ⊎_elim
      (λ (h : rest ≡ []).
      let l : length s ≡ after_version = omega (arith, simp length-append at (ap length d.whole), ap length h, version_size) in
      simp (eq-eqb (length s) after_version l))
      (λ (h : at rest 0 ≡ 32).
      or_right (eqb (length s) after_version) (eqb (at s after_version) 32) (eq-eqb (at s after_version) 32 (sym (get_or-drop after_version s 0 0) ∙ ap (λ (t : List ℕ). at t 0) version_rest ∙ h)))
      d.ends

  pub has_version_lem : has_version s ≡ true
  unfolding has_version same_word
  has_version_lem = and_both (same_word (part s 0 after_version) (bytes "v=spf1")) (eqb (length s) after_version || eqb (at s after_version) 32)
      (true_same (map lower (take after_version s)) (bytes "v=spf1") (ap (map lower) front_is ∙ d.version.lowered)) version_ends

pub version_of : (s : List ℕ) → has_version s ≡ true → Version s (take after_version s) (drop after_version s)
unfolding has_version same_word
version_of s h = record {
  whole = sym (take-append-drop after_version s);
  version = record { lowered = same_true (map lower (take after_version s)) (bytes "v=spf1") (and_left (same_word (part s 0 after_version) (bytes "v=spf1")) (eqb (length s) after_version || eqb (at s after_version) 32) h) };
  ends = or_elim (eqb (length s) after_version) (eqb (at s after_version) 32) (and_right (same_word (part s 0 after_version) (bytes "v=spf1")) (eqb (length s) after_version || eqb (at s after_version) 32) h)
      (λ (q : eqb (length s) after_version ≡ true). let l = eqb-true (length s) after_version q in inl (drop_of_length-le s {i = after_version} (omega arith)))
      (λ (q : eqb (at s after_version) 32 ≡ true). inr (get_or-drop after_version s 0 0 ∙ eqb-true (at s after_version) 32 q));
}

pub version_inside : {s v rest : List ℕ} → Version s v rest → after_version ≤ length s
version_inside {s} {v} {rest} d = omega (arith, simp length-append at (ap length d.whole), version_size d)
