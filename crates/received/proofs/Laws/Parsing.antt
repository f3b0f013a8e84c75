-- The parts of a written line: where the reader looks for them, they are. From the laws of quoting and of lines.
use Prim.Native.Nat.{ℕ, suc, ◌+◌, ◌≤◌, ◌<◌}
use mathlib.Core.Path.{◌≡◌, refl, sym, ap, subst, ◌∙◌}
use mathlib.Core.List.{List, [], ◌∷◌, ◌++◌, append_assoc}
use mathlib.Core.Bool.{Bool, true, false, cond}
use native.Mathlib.Omega.{arith}
use native.Mathlib.Nat.{add-sub_cancel_left}
use lib.ListN.{length, take, drop, length-append, length-drop}
use lib.Seq.{take_at, drop-drop, drop-append_seam}
use lib.Dec.{eqb}
use borrow.Author.Tests.{eq-eqb, eqb-true}
use Rattle.text.specs.Bytes.{at, part, within, is_upper, is_alpha, is_digit, is_alphanumeric, is_not_space}
use Rattle.text.specs.Lists.{all, same, contains}
use Rattle.text.specs.Runs.{run, run_end, is_in}
use Rattle.text.specs.Texts.{bytes}
use Rattle.text.specs.declared.bytes.Class.TheVariants.{NotSpace}
use Rattle.text.proofs.Laws.Tests.{or_false_left, or_false_right, cond-elim}
use Rattle.text.proofs.Laws.Words.{same_true}
use Rattle.text.proofs.Laws.Classes.{apart, below}
use Rattle.text.proofs.Laws.Parts.{all_first}
use Rattle.text.proofs.Laws.Runs.{all_run, run_zero}
use Rattle.received.specs.Atoms.{is_atext, DotAtomText, last, dotted}
use Rattle.received.specs.Quoting.{quote, is_marked, escaped_byte, escaped, quoted}
use Rattle.received.specs.Line.{Word, none, neutral, pass, fail, softfail, temperror, permerror, crlf}
use Rattle.received.specs.States.{is_dot_atom_text, is_plain, skip, closing}
use Rattle.received.specs.Texts.{word_of, formed, shown, line_text, place₀, place₁, place₂, place₃, place₄, line_parts}
use Rattle.received.specs.Reader.{number_of, plus, closing_at, after, part_at, part_after, word_end, receiver_part, client_part, sender_part, helo_part, identity_part, parts_of, bytes_of}
use Rattle.text.specs.declared.spans.Span.{Span as Part}
use Rattle.received.proofs.Laws.Atoms.{dot_sound, dot_plain}
use Rattle.received.proofs.Laws.Quoting.{at_drop, byte_marked, byte_plain, plain_part}
use Rattle.received.proofs.Laws.Reading.{closing_step}
use Rattle.received.proofs.Laws.Lines.{line_flat}

-- the quote that ends a value is found
closing_marked : (b : ℕ) (t : List ℕ) → closing (92 ∷ b ∷ t) ≡ suc (suc (closing t))
unfolding closing
closing_marked b t = refl

closing_plain : (b : ℕ) (t : List ℕ) → is_marked b ≡ false → closing (b ∷ t) ≡ suc (closing t)
unfolding is_marked skip
closing_plain b t h = closing_step (b ∷ t) (omega arith) (or_false_left (eqb b 34) (eqb b 92) h) ∙ rw (or_false_right (eqb b 34) (eqb b 92) h) (omega arith)

closing_quote : (t : List ℕ) → closing (34 ∷ t) ≡ 0
unfolding closing
closing_quote [] = refl
closing_quote (c ∷ t) = refl

pub closing_escaped : (v rest : List ℕ) → closing (escaped v ++ (34 ∷ rest)) ≡ length (escaped v)
unfolding escaped
closing_escaped [] rest = closing_quote rest
closing_escaped (b ∷ v) rest = by (is_marked b) refl (closing_escaped v rest)
  where
    by : (t : Bool) → is_marked b ≡ t → closing (escaped v ++ (34 ∷ rest)) ≡ length (escaped v)
        → closing ((escaped_byte b ++ escaped v) ++ (34 ∷ rest)) ≡ length (escaped_byte b ++ escaped v)
    by true e ih = rw (byte_marked b e) (closing_marked b (escaped v ++ (34 ∷ rest)) ∙ ap (λ (n : ℕ). suc (suc n)) ih)
    by false e ih = rw (byte_plain b e) (closing_plain b (escaped v ++ (34 ∷ rest)) e ∙ ap suc ih)

-- a list from a place on
module _ (s : List ℕ) (p : ℕ) (x : List ℕ) (e : drop p s ≡ x) where
  at_here : at s p ≡ at x 0
  at_here = sym (at_drop s p) ∙ ap (λ (t : List ℕ). at t 0) e

  drop_of : (k : ℕ) → drop (p + k) s ≡ drop k x
  drop_of k = sym (drop-drop k p s) ∙ ap (drop k) e

  part_of : (u w : List ℕ) → x ≡ u ++ w → part s p (p + length u) ≡ u
  part_of u w f = rw (add-sub_cancel_left p (length u)) (ap (take (length u)) (e ∙ f) ∙ take_at u w (length u) refl)

  inside_of : 1 ≤ length x → p + length x ≤ length s
  inside_of h = let k = length-drop p s in let l = ap length e in omega arith

plain_first : {v : List ℕ} (rest : List ℕ) → DotAtomText v → is_plain (at (v ++ rest) 0) ≡ true
plain_first {v} rest d = by v (dot_plain d) (some d)
  where
    some : {v : List ℕ} → DotAtomText v → 1 ≤ length v
    some (last a) = a.some
    some (dotted {u} {w} a d) = omega (arith, length-append u (46 ∷ w), a.some)

    by : (v : List ℕ) → all is_plain v ≡ true → 1 ≤ length v → is_plain (at (v ++ rest) 0) ≡ true
    by [] h k = absurd (omega arith)
    by (b ∷ v) h k = all_first is_plain b v h

no_quote : is_plain 34 ≡ false
unfolding is_plain is_atext is_alphanumeric is_alpha is_upper is_digit within contains
no_quote = refl

-- the part that the reader finds where a value stands from a place on
pub record Found (s : List ℕ) (p : ℕ) (v rest : List ℕ) (q : Part) : Type 0 where
  pub stands : q ≡ shown p v
  pub bytes_are : bytes_of s q ≡ escaped v
  pub ends : after s q.to ≡ p + length (formed v)
  pub follows : drop (p + length (formed v)) s ≡ rest

after_other : (s : List ℕ) (to : ℕ) → eqb (at s to) quote ≡ false → after s to ≡ to
unfolding after
after_other s to h = rw h

module _ (s : List ℕ) (small : length s < 18446744073709551615) (p : ℕ) (v rest : List ℕ) (end : is_plain (at rest 0) ≡ false) (end' : eqb (at rest 0) quote ≡ false) where
  found_plain : is_dot_atom_text v ≡ true → drop p s ≡ v ++ rest → Found s p v rest (part_at s p)
  unfolding part_at run_end formed shown
  found_plain t e =
      let d = dot_sound v t in
      let q : eqb (at s p) quote ≡ false = apart is_plain (at s p) quote (ap is_plain (at_here s p (v ++ rest) e) ∙ plain_first rest d) no_quote in
      let r : run is_plain (drop p s) ≡ length v = ap (run is_plain) e ∙ all_run is_plain v rest (dot_plain d) (run_zero is_plain rest end) in
      let w : drop (p + length v) s ≡ rest = drop_of s p (v ++ rest) e (length v) ∙ drop-append_seam v rest in
      let a : eqb (at s (p + length v)) quote ≡ false = ap (λ (b : ℕ). eqb b quote) (at_here s (p + length v) rest w) ∙ end' in
      rw (q, r) (record {
        stands = rw t;
        bytes_are = part_of s p (v ++ rest) e v rest refl ∙ sym (plain_part v (dot_plain d));
        ends = rw t (after_other s (p + length v) a);
        follows = rw t w;
      })

  found_quoted : is_dot_atom_text v ≡ false → drop p s ≡ quote ∷ (escaped v ++ (quote ∷ rest)) → Found s p v rest (part_at s p)
  unfolding part_at closing_at after formed shown
  found_quoted t e =
      let q : eqb (at s p) quote ≡ true = eq-eqb (at s p) quote (at_here s p (quote ∷ (escaped v ++ (quote ∷ rest))) e) in
      let l = inside_of s p (quote ∷ (escaped v ++ (quote ∷ rest))) e (omega arith) in
      let m = length-append (escaped v) (quote ∷ rest) in
      let m' = length-append (escaped v) (quote ∷ []) in
      let i : plus p 1 ≡ p + 1 = omega arith in
      let f : drop (p + 1) s ≡ escaped v ++ (quote ∷ rest) = drop_of s p (quote ∷ (escaped v ++ (quote ∷ rest))) e 1 in
      let c : closing (drop (p + 1) s) ≡ length (escaped v) = ap closing f ∙ closing_escaped v rest in
      let w : drop (p + 1 + length (escaped v)) s ≡ quote ∷ rest = drop_of s (p + 1) (escaped v ++ (quote ∷ rest)) f (length (escaped v)) ∙ drop-append_seam (escaped v) (quote ∷ rest) in
      let a : eqb (at s (p + 1 + length (escaped v))) quote ≡ true = eq-eqb (at s (p + 1 + length (escaped v))) quote (at_here s (p + 1 + length (escaped v)) (quote ∷ rest) w) in
      let n : plus (p + 1 + length (escaped v)) 1 ≡ p + length (quoted v) = omega arith in
      let o : p + 1 + length (escaped v) + 1 ≡ p + length (quoted v) = omega arith in
      rw (q, i, c) (record {
        stands = rw t;
        bytes_are = part_of s (p + 1) (escaped v ++ (quote ∷ rest)) f (escaped v) (quote ∷ rest) refl;
        ends = rw (t, a) n;
        follows = rw t (ap (λ (k : ℕ). drop k s) (sym o) ∙ drop_of s (p + 1 + length (escaped v)) (quote ∷ rest) w 1);
      })

  pub found : drop p s ≡ formed v ++ rest → Found s p v rest (part_at s p)
  unfolding formed
  found e = by (is_dot_atom_text v) refl e
    where
      by : (t : Bool) → is_dot_atom_text v ≡ t → drop p s ≡ cond t v (quoted v) ++ rest → Found s p v rest (part_at s p)
      by true t e = found_plain t e
      by false t e = found_quoted t (e ∙ ap (λ (x : List ℕ). quote ∷ x) (append_assoc (escaped v) (quote ∷ []) rest))

-- the part of a pair that begins at a place, where another part ends
pub record FoundPair (s : List ℕ) (p : ℕ) (key v rest : List ℕ) (q : Part) : Type 0 where
  pub stands : q ≡ shown (p + length key) v
  pub bytes_are : bytes_of s q ≡ escaped v
  pub ends : after s q.to ≡ p + length (key ++ formed v)
  pub follows : drop (p + length (key ++ formed v)) s ≡ rest

pub found_after : (s : List ℕ) → length s < 18446744073709551615 → (p : ℕ) (key v rest : List ℕ) → 1 ≤ length key
    → is_plain (at rest 0) ≡ false → eqb (at rest 0) quote ≡ false → (to : ℕ) → after s to ≡ p → drop p s ≡ (key ++ formed v) ++ rest
    → FoundPair s p key v rest (part_after s to (length key))
unfolding part_after
found_after s small p key v rest h end end' to a e =
    let l = inside_of s p ((key ++ formed v) ++ rest) e (omega (arith, length-append (key ++ formed v) rest, length-append key (formed v))) in
    let m = length-append (key ++ formed v) rest in
    let n = length-append key (formed v) in
    let i : plus (after s to) (length key) ≡ p + length key = omega (arith, a) in
    let d : drop (p + length key) s ≡ formed v ++ rest = drop_of s p ((key ++ formed v) ++ rest) e (length key) ∙ ap (drop (length key)) (append_assoc key (formed v) rest) ∙ drop-append_seam key (formed v ++ rest) in
    let f = found s small (p + length key) v rest end end' d in
    let o : p + length key + length (formed v) ≡ p + length (key ++ formed v) = omega arith in
    rw i (record { stands = f.stands; bytes_are = f.bytes_are; ends = f.ends ∙ o; follows = ap (λ (k : ℕ). drop k s) (sym o) ∙ f.follows })

-- words
pub word_whole : (n : ℕ) → n < 7 → all (is_in NotSpace) (word_of n) ≡ true
unfolding word_of all is_in is_not_space
word_whole n h = below 7 (λ n. all (is_in NotSpace) (word_of n)) refl n h

pub word_number : (n : ℕ) → n < 7 → number_of (word_of n) ≡ n
unfolding word_of number_of same
word_number n h = eqb-true (number_of (word_of n)) n (below 7 (λ n. eqb (number_of (word_of n)) n) refl n h)

-- the number of a word below 7 is the word's
word_same : (w : List ℕ) {n : ℕ} {word : List ℕ} → Word n word → same w word ≡ true → n < 7 → Word n w
word_same w {n} {word} x t h = subst (Word n) (sym (same_true w word t)) x

pub number_word : (w : List ℕ) → number_of w < 7 → Word (number_of w) w
unfolding number_of
number_word w =
    cond-elim Is (same w (bytes "none")) (word_same w none)
    (λ _. cond-elim Is (same w (bytes "neutral")) (word_same w neutral)
    (λ _. cond-elim Is (same w (bytes "pass")) (word_same w pass)
    (λ _. cond-elim Is (same w (bytes "fail")) (word_same w fail)
    (λ _. cond-elim Is (same w (bytes "softfail")) (word_same w softfail)
    (λ _. cond-elim Is (same w (bytes "temperror")) (word_same w temperror)
    (λ _. cond-elim Is (same w (bytes "permerror")) (word_same w permerror) (λ _ h. absurd (omega arith))))))))
  where
    Is : ℕ → Type 0
    Is n = n < 7 → Word n w

no_semicolon : is_plain 59 ≡ false
unfolding is_plain is_atext is_alphanumeric is_alpha is_upper is_digit within contains
no_semicolon = refl

no_return : is_plain 13 ≡ false
unfolding is_plain is_atext is_alphanumeric is_alpha is_upper is_digit within contains
no_return = refl

no_space : is_in NotSpace 32 ≡ false
unfolding is_in is_not_space
no_space = refl

-- the parts of a written line
module _ (s : List ℕ) (small : length s < 18446744073709551615) (n : ℕ) (k : n < 7) (r c e h i : List ℕ) (is : s ≡ line_text n r c e h i) where
  abbrev end₄ : List ℕ
  end₄ = (bytes "; identity=" ++ formed i) ++ crlf

  abbrev end₃ : List ℕ
  end₃ = (bytes "; helo=" ++ formed h) ++ end₄

  abbrev end₂ : List ℕ
  end₂ = (bytes "; envelope-from=" ++ formed e) ++ end₃

  abbrev end₁ : List ℕ
  end₁ = (bytes "; client-ip=" ++ formed c) ++ end₂

  abbrev end₀ : List ℕ
  end₀ = (bytes " receiver=" ++ formed r) ++ end₁

  word_at : drop 14 s ≡ word_of n ++ end₀
  word_at = ap (drop 14) (is ∙ line_flat n r c e h i)

  word_end_lem : word_end s ≡ place₀ n
  unfolding word_end run_end
  word_end_lem = ap (λ (x : ℕ). 14 + x) (ap (run (is_in NotSpace)) word_at ∙ all_run (is_in NotSpace) (word_of n) end₀ (word_whole n k) (run_zero (is_in NotSpace) end₀ no_space))

  word_follows : drop (place₀ n) s ≡ end₀
  word_follows = drop_of s 14 (word_of n ++ end₀) word_at (length (word_of n)) ∙ drop-append_seam (word_of n) end₀

  word_after : after s (word_end s) ≡ place₀ n
  word_after =
      let a : eqb (at s (place₀ n)) quote ≡ false = ap (λ (b : ℕ). eqb b quote) (at_here s (place₀ n) end₀ word_follows) in
      ap (after s) word_end_lem ∙ after_other s (place₀ n) a

  pub receiver_found : FoundPair s (place₀ n) (bytes " receiver=") r end₁ (receiver_part s)
  unfolding receiver_part
  receiver_found = found_after s small (place₀ n) (bytes " receiver=") r end₁ (omega arith) no_semicolon refl (word_end s) word_after word_follows

  pub client_found : FoundPair s (place₁ n r) (bytes "; client-ip=") c end₂ (client_part s)
  unfolding client_part
  client_found = found_after s small (place₁ n r) (bytes "; client-ip=") c end₂ (omega arith) no_semicolon refl (receiver_part s).to receiver_found.ends receiver_found.follows

  pub sender_found : FoundPair s (place₂ n r c) (bytes "; envelope-from=") e end₃ (sender_part s)
  unfolding sender_part
  sender_found = found_after s small (place₂ n r c) (bytes "; envelope-from=") e end₃ (omega arith) no_semicolon refl (client_part s).to client_found.ends client_found.follows

  pub helo_found : FoundPair s (place₃ n r c e) (bytes "; helo=") h end₄ (helo_part s)
  unfolding helo_part
  helo_found = found_after s small (place₃ n r c e) (bytes "; helo=") h end₄ (omega arith) no_semicolon refl (sender_part s).to sender_found.ends sender_found.follows

  pub identity_found : FoundPair s (place₄ n r c e h) (bytes "; identity=") i crlf (identity_part s)
  unfolding identity_part
  identity_found = found_after s small (place₄ n r c e h) (bytes "; identity=") i crlf (omega arith) no_return refl (helo_part s).to helo_found.ends helo_found.follows

  pub result_found : number_of (part s 14 (word_end s)) ≡ n
  result_found = ap number_of (ap (part s 14) word_end_lem ∙ part_of s 14 (word_of n ++ end₀) word_at (word_of n) end₀ refl) ∙ word_number n k

  -- all of them
  pub parts_found : parts_of s ≡ line_parts n r c e h i
  unfolding parts_of line_parts
  parts_found = rw (result_found, receiver_found.stands, client_found.stands, sender_found.stands, helo_found.stands, identity_found.stands)
