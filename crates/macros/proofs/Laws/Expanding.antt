-- The values of the letters in arrays, and the answers of an expansion: a rule for each way out. From the definitions of Expansion and Numbers
-- and the laws of writing.
use Rattle.std.proofs.Common.{None, Option, Ok, Err, Result}
use Prim.Native.Nat.{ℕ, ◌+◌, ◌*◌, ◌≤◌, ◌<◌, ◌^◌}
use mathlib.Core.Path.{◌≡◌, refl, sym, ap, subst, ◌∙◌}
use mathlib.Core.List.{List, [], ◌∷◌, ◌++◌}
use mathlib.Core.Bool.{Bool, true, false, ◌&&◌}
use native.Mathlib.Omega.{arith}
use native.Mathlib.Nat.{zero-add}
use lib.ListN.{length, drop, length-append}
use borrow.Author.Tests.{le-leb, lt-leb}
use Rattle.text.specs.Writing.{Wrote}
use Rattle.text.specs.Bytes.{part}
use Rattle.text.proofs.Laws.Spans.{Span, span_join, span_cut, span_between, span_word}
use Rattle.text.proofs.Laws.Writing.{wrote_then, wrote_front, wrote_over}
use Rattle.address.specs.declared.Address.{Address}
use Rattle.address.specs.Octets.{as_client}
use Rattle.domain.specs.Normal.{Naming, malformed, without_dot, lowered, name_answer, name_buffer}
use Rattle.domain.specs.Shortening.{shortened}
use Rattle.address_text.specs.Digits.{in_decimal}
use Rattle.address_text.specs.Forms.{dotted, readable, family}
use Rattle.address_text.proofs.Laws.Lengths.{length_dotted, length_readable, length_family, length_decimal}
use Rattle.macros.specs.Grammar.{Piece}
use Rattle.macros.specs.Reader.{pieces, is_macro_string}
use Rattle.macros.specs.Expansion.{Given, letters, sender_domain, local_part, receiver_name, letters_of, text_of, is_sender, is_host, is_short}
use Rattle.macros.specs.Numbers.{fitted, outcome, Says}
use Rattle.macros.specs.Question.{question_name}
use Rattle.macros.specs.declared.Form.{Form}
use Rattle.macros.specs.declared.ExpandError.{ExpandError}
use Rattle.macros.specs.declared.ExpandError.TheVariants.{Sender, Host, TooLong, NoMacroString, NoRoom}
use Rattle.macros.proofs.Laws.Senders.{sender_length}

-- `write_fitting`: measured in an array of no use, and written where it fits
module _ (xs z o : List ℕ) (k n : ℕ) (ek : k ≡ 0) (w : Wrote xs z k o n) (out : List ℕ) (small : length out * 1 < 2 ^ 63) where
  pub fits_not : length out < n → Says (fitted xs (length out)) (Err NoRoom) out out
  unfolding fitted
  fits_not h =
      let l : length out < length xs = omega (arith, w.next_place) in
      rw (lt-leb (length xs) (length out) l) (record { answer = refl; buffer = refl })

  pub fits : n ≤ length out → (b c after : List ℕ) → b ≡ out → after ≡ c → (j m : ℕ) → j ≡ 0 → Wrote xs b j c m → Says (fitted xs (length out)) (Ok m) out after
  unfolding fitted
  fits h b c after eb ec j m ej v =
      let l : length xs ≤ length out = omega (arith, w.next_place) in
      let e : m ≡ length xs = omega (arith, v.next_place) in
      rw (le-leb (length xs) (length out) l) (record { answer = ap (λ (k : ℕ). Ok k) e; buffer = ec ∙ wrote_over xs out c m (rw (eb, ej) at v) })

-- `write_expansion`: the values that aren't given stand one after the other in an array
module _ (g : Given) (bound : length g.sender ≤ 320) (a : Address) (f : a ≡ as_client g.client) (o : List ℕ) (e : o ≡ sender_domain g.sender)
    (z₀ z₁ z₂ z₃ z₄ z₅ z₆ z₇ : List ℕ) (n₀ n₁ n₂ n₃ n₄ n₅ n₆ n₇ : ℕ) (start : n₀ ≡ 0) (size : length z₀ ≡ 460)
    (w₁ : Wrote (local_part g.sender) z₀ n₀ z₁ n₁) (w₂ : Wrote (64 ∷ []) z₁ n₁ z₂ n₂) (w₃ : Wrote o z₂ n₂ z₃ n₃) (w₄ : Wrote (dotted a) z₃ n₃ z₄ n₄)
    (w₅ : Wrote (family a) z₄ n₄ z₅ n₅) (w₆ : Wrote (readable a) z₅ n₅ z₆ n₆) (w₇ : Wrote (in_decimal g.seconds) z₆ n₆ z₇ n₇) where
  texts : List ℕ
  texts = local_part g.sender ++ ((64 ∷ []) ++ (o ++ (dotted a ++ (family a ++ (readable a ++ in_decimal g.seconds)))))

  texts_length : length texts ≤ 460
  unfolding texts
  texts_length =
      let s = simp length-append at (sender_length g.sender bound) in
      simp (length-append, e) (omega (arith, s, length_dotted a, length_family a, length_readable a, length_decimal g.seconds))

  all_wrote : Wrote texts z₀ 0 z₇ n₇
  unfolding texts
  all_wrote =
      rw start at (wrote_then z₀ n₀ (local_part g.sender) _ z₁ z₇ n₁ n₇ w₁ (wrote_then z₁ n₁ (64 ∷ []) _ z₂ z₇ n₂ n₇ w₂
      (wrote_then z₂ n₂ o _ z₃ z₇ n₃ n₇ w₃ (wrote_then z₃ n₃ (dotted a) _ z₄ z₇ n₄ n₇ w₄ (wrote_then z₄ n₄ (family a) _ z₅ z₇ n₅ n₇ w₅
      (wrote_then z₅ n₅ (readable a) (in_decimal g.seconds) z₆ z₇ n₆ n₇ w₆ w₇))))))

  all_span : Span z₇ 0 (length texts) texts
  all_span =
      subst (λ (z : List ℕ). Span z 0 (length texts) texts) (sym (wrote_front texts z₀ z₇ n₇ all_wrote (omega (arith, texts_length))))
      (rw zero-add at (span_between [] texts (drop (length texts) z₀)))

  all_letters : (z : List ℕ) → z ≡ z₇ → (s l i v c t r : List ℕ) → s ≡ part z 0 n₃ → l ≡ part z 0 n₁ → i ≡ part z n₃ n₄ → v ≡ part z n₄ n₅ → c ≡ part z n₅ n₆ → t ≡ part z n₆ n₇
      → r ≡ receiver_name g.receiver → letters s l o g.domain i g.p v g.helo c r t ≡ letters_of g
  unfolding letters_of texts
  all_letters z ez s l i v c t r es el ei ev ec et er =
      let k = simp length-append at texts_length in
      let a₁ = span_cut (local_part g.sender) _ all_span in
      let a₂ = span_cut (64 ∷ []) _ a₁.1 in
      let a₃ = span_cut o _ a₂.1 in
      let a₄ = span_cut (dotted a) _ a₃.1 in
      let a₅ = span_cut (family a) _ a₄.1 in
      let a₆ = span_cut (readable a) (in_decimal g.seconds) a₅.1 in
      let m₁ : n₁ ≡ 0 + length (local_part g.sender) = omega (arith, k, w₁.next_place) in
      let m₂ : n₂ ≡ 0 + length (local_part g.sender) + 1 = omega (arith, k, m₁, w₂.next_place) in
      let m₃ : n₃ ≡ 0 + length (local_part g.sender) + 1 + length o = omega (arith, k, m₂, w₃.next_place) in
      let m₄ : n₄ ≡ 0 + length (local_part g.sender) + 1 + length o + length (dotted a) = omega (arith, k, m₃, w₄.next_place) in
      let m₅ : n₅ ≡ 0 + length (local_part g.sender) + 1 + length o + length (dotted a) + length (family a) = omega (arith, k, m₄, w₅.next_place) in
      let m₆ : n₆ ≡ 0 + length (local_part g.sender) + 1 + length o + length (dotted a) + length (family a) + length (readable a) = omega (arith, k, m₅, w₆.next_place) in
      let m₇ : n₇ ≡ length texts = simp length-append (omega (arith, k, m₆, w₇.next_place)) in
      rw (es, el, ei, ev, ec, et, er, ez, ← f, ← e, m₁, m₃, m₄, m₅, m₆, m₇, span_word (span_join a₁.0 (span_join a₂.0 a₃.0)), span_word a₁.0, span_word a₄.0, span_word a₅.0, span_word a₆.0, span_word a₆.1) refl

  pub all_said : (z : List ℕ) → z ≡ z₇ → (s l i v c t r : List ℕ) → s ≡ part z 0 n₃ → l ≡ part z 0 n₁ → i ≡ part z n₃ n₄ → v ≡ part z n₄ n₅ → c ≡ part z n₅ n₆ → t ≡ part z n₆ n₇
      → r ≡ receiver_name g.receiver → (ps : List Piece) (room : ℕ) (x : Result ℕ ExpandError) (before after : List ℕ)
      → Says (fitted (text_of (letters s l o g.domain i g.p v g.helo c r t) ps) room) x before after → Says (fitted (text_of (letters_of g) ps) room) x before after
  all_said z ez s l i v c t r es el ei ev ec et er ps room x before after w = rw (all_letters z ez s l i v c t r es el ei ev ec et er) at w

-- `expand`: the tests in their order
module _ (form : Form) (text : List ℕ) (g : Given) (out : List ℕ) (a : Bool) (ea : a ≡ is_sender g.sender) where
  pub refused_sender : a ≡ false → Says (outcome form text g (length out)) (Err Sender) out out
  unfolding outcome
  refused_sender h = rw (← ea, h) (record { answer = refl; buffer = refl })

  module _ (ha : a ≡ true) (b : Bool) (eb : b ≡ (is_host g.helo && is_host g.receiver)) where
    pub refused_host : b ≡ false → Says (outcome form text g (length out)) (Err Host) out out
    unfolding outcome
    refused_host h = rw (← ea, ha, ← eb, h) (record { answer = refl; buffer = refl })

    module _ (hb : b ≡ true) (c : Bool) (ec : c ≡ (is_short g.domain && is_short g.p)) where
      pub refused_long : c ≡ false → Says (outcome form text g (length out)) (Err TooLong) out out
      unfolding outcome
      refused_long h = rw (← ea, ha, ← eb, hb, ← ec, h) (record { answer = refl; buffer = refl })

      module _ (hc : c ≡ true) (d : Bool) (ed : d ≡ is_macro_string form text) where
        pub refused_text : d ≡ false → Says (outcome form text g (length out)) (Err NoMacroString) out out
        unfolding outcome
        refused_text h = rw (← ea, ha, ← eb, hb, ← ec, hc, ← ed, h) (record { answer = refl; buffer = refl })

        pub tests_passed : d ≡ true → (r : Result ℕ ExpandError) (after : List ℕ)
            → Says (fitted (text_of (letters_of g) (pieces form text).list) (length out)) r out after
            → Says (outcome form text g (length out)) r out after
        unfolding outcome
        tests_passed h r after w = rw (← ea, ha, ← eb, hb, ← ec, hc, ← ed, h) w

-- `question_name`
module _ (text : List ℕ) where
  pub question_long : 4096 < length text → question_name text ≡ malformed
  unfolding question_name
  question_long h = rw (lt-leb (length text) 4096 h)

  pub long_answer : 4096 < length text → None ≡ name_answer (question_name text)
  long_answer h = sym (ap name_answer (question_long h))

  pub long_buffer : (before : List ℕ) → 4096 < length text → before ≡ name_buffer (question_name text) before
  long_buffer before h = sym (ap (λ (x : Naming). name_buffer x before) (question_long h))

  module _ (h : length text ≤ 4096) (u : List ℕ) (eu : u ≡ without_dot text) (v : List ℕ) (ev : v ≡ shortened u) where
    question_short : question_name text ≡ lowered v
    unfolding question_name
    question_short = rw (le-leb (length text) 4096 h) (ap lowered (ap shortened (sym eu) ∙ sym ev))

    pub short_answer : (r : Option ℕ) → r ≡ name_answer (lowered v) → r ≡ name_answer (question_name text)
    short_answer r w = w ∙ sym (ap name_answer question_short)

    pub short_buffer : (before after : List ℕ) → after ≡ name_buffer (lowered v) before → after ≡ name_buffer (question_name text) before
    short_buffer before after w = w ∙ sym (ap (λ (x : Naming). name_buffer x before) question_short)
