-- The reader's ways out. From the definitions of States and Reader.
use Rattle.std.proofs.Common.{Result, Ok, Err}
use Prim.Native.Nat.{ℕ, zero, suc, ◌+◌, ◌-◌, ◌*◌, ◌%◌, ◌≤◌, ◌<◌, ◌^◌, min}
use mathlib.Core.Path.{◌≡◌, refl, sym, ap, ◌∙◌}
use mathlib.Core.Logic.{◌⊎◌, inl, inr, ⊎_elim}
use mathlib.Core.List.{List, [], ◌∷◌, ◌++◌}
use mathlib.Core.Bool.{Bool, true, false, cond, ◌&&◌}
use native.Mathlib.Omega.{arith}
use native.Mathlib.Nat.{mul-le-mul_right}
use lib.ListN.{length, take, drop, length-take, length-drop, drop_of_length-le}
use lib.Seq.{take_at, drop-drop}
use lib.Dec.{eqb, ltb}
use borrow.Author.Tests.{eq-eqb, ne_eqb, lt-ltb, le-ltb, lt-leb, le-leb}
use Rattle.text.specs.Bytes.{at, part}
use Rattle.text.specs.Lists.{same, contains}
use Rattle.text.specs.Runs.{run_end, is_in}
use Rattle.text.specs.Writing.{Wrote, overwritten}
use Rattle.text.specs.declared.bytes.Class.TheVariants.{NotSpace}
use Rattle.text.proofs.Laws.Spans.{front_part}
use Rattle.text.proofs.Laws.Orders.{le_or_lt}
use Rattle.text.proofs.Laws.Writing.{wrote_over, length_wrote}
use Rattle.address.specs.declared.Address.{Address}
use Rattle.address.specs.declared.Address.TheVariants.{IPv4, IPv6}
use Rattle.received.specs.Quoting.{unescaped}
use Rattle.received.specs.Numbers.{Outcome, answer_of, buffer_of, Says}
use Rattle.received.specs.States.{fold, is_plain, skip, place, Placed, closing}
use Rattle.received.specs.Answers.{Given, given, most_line}
use Rattle.received.specs.Texts.{word_of, outcome}
use Rattle.received.specs.Reader.{digit_value, Digit, octet_on, high_on, low_on, push_byte, nothing, total, address_of, number_of, identity_of, plus, closing_at, after, part_at, part_after, word_end, receiver_part, client_part, sender_part, helo_part, identity_part, parts_of, bytes_of, value_of, is_written, is_line_of, is_line, line_answer, Held}
use Rattle.received.specs.declared.clients.Sum.{Sum}
use Rattle.received.specs.declared.Identity.{Identity}
use Rattle.text.specs.declared.spans.Span.{Span as Part}
use Rattle.received.specs.declared.Parts.{Parts}
use Rattle.received.specs.declared.LineError.{LineError}
use Rattle.received.specs.declared.LineError.TheVariants.{NoLine}
use Rattle.received.proofs.Laws.Folding.{fold_end}
use Rattle.received.proofs.Laws.Quoting.{at_drop}

-- `digit_value`
module _ (b : ℕ) where
  pub digit_low : b < 58 → b < 256 → (x : ℕ) → x ≡ b - 48 → Digit b x
  unfolding digit_value
  digit_low h l x e = record { value = rw (lt-ltb b 58 h) e; small = omega arith }

  pub digit_high : 58 ≤ b → b < 256 → (x : ℕ) → x ≡ b - 87 → Digit b x
  unfolding digit_value
  digit_high h l x e = record { value = rw (le-ltb b 58 h) e; small = omega arith }

pub octet_is : (x : Sum) → ((x.low % 16777216) * 256 + x.group % 256 ≡ octet_on x) × ((x.low % 16777216) * 256 + x.group % 256 < 4294967296)
unfolding octet_on
octet_is x = (refl, omega arith)

pub base_fits : (base g : ℕ) → base ≤ 16 → g < 65536 → base * g ≤ 1048576
base_fits base g h k = let a : base * g ≤ 16 * g = mul-le-mul_right g h in omega arith

pub group_fits : (base g : ℕ) → base ≤ 16 → base * (g % 65536) < 2 ^ 64
group_fits base g h = let a = base_fits base (g % 65536) h (omega arith) in omega arith

pub sum_fits : (base g d b : ℕ) → base ≤ 16 → Digit b d → base * (g % 65536) + d < 2 ^ 64
sum_fits base g d b h p = let k = p.small in let a = base_fits base (g % 65536) h (omega arith) in omega arith

-- `push_byte`
module _ (base : ℕ) (x : Sum) (b : ℕ) where
  pub push_dot : b ≡ 46 → (n : ℕ) → (n ≡ octet_on x) × (n < 4294967296) → record { high = x.high; low = n; group = 0 } ≡ push_byte base x b
  unfolding push_byte
  push_dot e n p = rw (eq-eqb b 46 e, ← p.0)

  pub push_colon : (b ≡ 46 → ⊥) → b ≡ 58 → (m n : ℕ) → m ≡ high_on x → n ≡ low_on x → record { high = m; low = n; group = 0 } ≡ push_byte base x b
  unfolding push_byte
  push_colon h e m n p q = rw (ne_eqb b 46 h, eq-eqb b 58 e, ← p, ← q)

  pub push_digit : (b ≡ 46 → ⊥) → (b ≡ 58 → ⊥) → (d : ℕ) → Digit b d
      → record { high = x.high; low = x.low; group = (base * (x.group % 65536) + d) % 65536 } ≡ push_byte base x b
  unfolding push_byte
  push_digit h k d p = rw (ne_eqb b 46 h, ne_eqb b 58 k, ← p.value)

-- `sum_of`
pub sum_end : (base : ℕ) (s : List ℕ) (i : ℕ) (x : Sum) → fold (push_byte base) x (drop i s) ≡ fold (push_byte base) nothing s → length s ≤ i → x ≡ total base s
unfolding total
sum_end base s i x inv h = fold_end (push_byte base) s i x (fold (push_byte base) nothing s) inv h

-- `address_of`
module _ (s : List ℕ) (r : Bool) (e : r ≡ contains s 58) where
  pub address_six : r ≡ true → (x : Sum) → x ≡ total 16 s → (m n : ℕ) → m ≡ high_on x → n ≡ low_on x → IPv6 m n ≡ address_of s
  unfolding address_of
  address_six h x p m n q k = rw (← e, h, ← p, ← q, ← k)

  pub address_four : r ≡ false → (x : Sum) → x ≡ total 10 s → (n : ℕ) → (n ≡ octet_on x) × (n < 4294967296) → IPv4 n ≡ address_of s
  unfolding address_of
  address_four h x p n q = rw (← e, h, ← p, ← q.0)

-- `number_of`
pub number_is : (w : List ℕ) (n : ℕ) → ((k : ℕ) → k < n → same w (word_of k) ≡ false) → n < 7 → same w (word_of n) ≡ true → n ≡ number_of w
unfolding number_of word_of
number_is w zero h l e = rw e
number_is w (suc zero) h l e = rw (h 0 (omega arith), e)
number_is w (suc (suc zero)) h l e = rw (h 0 (omega arith), h 1 (omega arith), e)
number_is w (suc (suc (suc zero))) h l e = rw (h 0 (omega arith), h 1 (omega arith), h 2 (omega arith), e)
number_is w (suc (suc (suc (suc zero)))) h l e = rw (h 0 (omega arith), h 1 (omega arith), h 2 (omega arith), h 3 (omega arith), e)
number_is w (suc (suc (suc (suc (suc zero))))) h l e = rw (h 0 (omega arith), h 1 (omega arith), h 2 (omega arith), h 3 (omega arith), h 4 (omega arith), e)
number_is w (suc (suc (suc (suc (suc (suc zero)))))) h l e =
    rw (h 0 (omega arith), h 1 (omega arith), h 2 (omega arith), h 3 (omega arith), h 4 (omega arith), h 5 (omega arith), e)
number_is w (suc (suc (suc (suc (suc (suc (suc n))))))) h l e = absurd (omega arith)

pub number_none : (w : List ℕ) → ((k : ℕ) → k < 7 → same w (word_of k) ≡ false) → 7 ≡ number_of w
unfolding number_of word_of
number_none w h = rw (h 0 (omega arith), h 1 (omega arith), h 2 (omega arith), h 3 (omega arith), h 4 (omega arith), h 5 (omega arith), h 6 (omega arith))

-- a word more that differs
pub differs : (w : List ℕ) (n : ℕ) → ((k : ℕ) → k < n → same w (word_of k) ≡ false) → (t : Bool) → t ≡ same w (word_of n) → t ≡ false
    → (k : ℕ) → k < n + 1 → same w (word_of k) ≡ false
differs w n h t e f k l = ⊎_elim (λ (p : k < n). h k p) (λ (q : k ≡ n). rw q (sym e ∙ f)) (last l)
  where
    last : k < n + 1 → (k < n) ⊎ (k ≡ n)
    last l = ⊎_elim (λ (p : n ≤ k). inr (omega arith)) (λ (q : k < n). inl q) (le_or_lt n k)

-- `closing_at`
pub closing_step : (t : List ℕ) → 0 < length t → eqb (at t 0) 34 ≡ false → closing t ≡ suc (skip t) + closing (drop (suc (skip t)) t)
unfolding closing skip
closing_step [] h n = absurd (omega arith)
closing_step (b ∷ []) h n = rw n (by (eqb b 92))
  where
    by : (t : Bool) → 1 ≡ suc (cond (t && ltb 1 1) 1 0) + closing (drop (suc (cond (t && ltb 1 1) 1 0)) (b ∷ []))
    by true = refl
    by false = refl
closing_step (b ∷ c ∷ s) h n = rw (n, lt-ltb 1 (suc (suc (length s))) (omega arith)) (by (eqb b 92))
  where
    by : (t : Bool) → cond t (suc (suc (closing s))) (suc (closing (c ∷ s))) ≡ suc (cond (t && true) 1 0) + closing (drop (suc (cond (t && true) 1 0)) (b ∷ c ∷ s))
    by true = omega arith
    by false = omega arith

closing_none : closing [] ≡ 0
unfolding closing
closing_none = refl

closing_first : (t : List ℕ) → eqb (at t 0) 34 ≡ true → closing t ≡ 0
unfolding closing
closing_first [] h = refl
closing_first (b ∷ []) h = rw h
closing_first (b ∷ c ∷ s) h = rw h

module _ (s : List ℕ) (i q : ℕ) (inv : closing_at s q ≡ closing_at s i) where
  pub closing_here : at s q ≡ 34 → q ≡ closing_at s i
  unfolding closing_at
  closing_here e = let z = closing_first (drop q s) (rw (at_drop s q) (eq-eqb (at s q) 34 e)) in omega (arith, inv)

  pub closing_out : length s ≤ q → q ≡ closing_at s i
  unfolding closing_at
  closing_out h = let z : closing (drop q s) ≡ 0 = ap closing (drop_of_length-le s h) ∙ closing_none in omega (arith, inv)

  pub closing_next : q < length s → (at s q ≡ 34 → ⊥) → (j : ℕ) → Placed s q j → closing_at s (j + 1) ≡ closing_at s i
  unfolding closing_at place
  closing_next h n j p =
      let z = closing_step (drop q s) (simp length-drop (omega arith)) (rw (at_drop s q) (ne_eqb (at s q) 34 n)) in
      let d : drop (suc (skip (drop q s))) (drop q s) ≡ drop (j + 1) s = drop-drop (suc (skip (drop q s))) q s ∙ ap (λ (k : ℕ). drop k s) (moved j p) in
      let c : closing (drop (suc (skip (drop q s))) (drop q s)) ≡ closing (drop (j + 1) s) = ap closing d in
      omega (arith, inv, p.is_place)
    where
      moved : (j : ℕ) → Placed s q j → q + suc (skip (drop q s)) ≡ j + 1
      moved j p = omega (arith, p.is_place)

-- `part_at`
module _ (s : List ℕ) (p b : ℕ) (e : b ≡ at s p) where
  pub part_quoted : b ≡ 34 → (m n : ℕ) → m ≡ plus p 1 → n ≡ closing_at s m → record { from = m; to = n } ≡ part_at s p
  unfolding part_at
  part_quoted h m n x y = rw (eq-eqb (at s p) 34 (sym e ∙ h), ← x, ← y)

  pub part_plain : (b ≡ 34 → ⊥) → (n : ℕ) → n ≡ run_end is_plain s p → record { from = p; to = n } ≡ part_at s p
  unfolding part_at
  part_plain h n x = rw (ne_eqb (at s p) 34 (λ z. h (e ∙ z)), ← x)

-- `part_after`
pub after_part : (s : List ℕ) (to n a p : ℕ) → a ≡ after s to → p ≡ plus a n → (r : Part) → r ≡ part_at s p → r ≡ part_after s to n
unfolding part_after
after_part s to n a p x y r z = rw (← x, ← y) z

-- `parts_of`
module _ (s : List ℕ) (end : ℕ) (ee : end ≡ run_end (is_in NotSpace) s 14) (w : List ℕ) (ew : w ≡ part s 14 end) (n : ℕ) (en : n ≡ number_of w)
    (r : Part) (er : r ≡ part_after s end 10) (c : Part) (ec : c ≡ part_after s r.to 12) (e : Part) (es : e ≡ part_after s c.to 16)
    (h : Part) (eh : h ≡ part_after s e.to 7) (i : Part) (ei : i ≡ part_after s h.to 11) where
  pub parts_are : record { result = n; receiver = r; client = c; sender = e; helo = h; identity = i } ≡ parts_of s
  unfolding parts_of word_end receiver_part client_part sender_part helo_part identity_part
  parts_are = rw (← ee, ← ew, ← en, ← er, ← ec, ← es, ← eh, ← ei)

-- `value_of`
pub value_held : (s : List ℕ) (p : Part) (t : List ℕ) → t ≡ bytes_of s p → (before u o : List ℕ) (k n : ℕ) → u ≡ before → k ≡ 0 → Wrote (unescaped t) u k o n
    → (y : List ℕ) → y ≡ o → (r : ℕ) → r ≡ min n (length before) → length before * 1 < 2 ^ 63 → Held (unescaped (bytes_of s p)) before y r
unfolding overwritten
value_held s p t et before u o k n eu ek w y ea r er small =
    let v = rw (eu, ek, et) at w in
    let x = unescaped (bytes_of s p) in
    let z : length o ≡ length before = length_wrote before 0 x o n v in
    let m : r ≡ min (length x) (length before) = omega (arith, v.next_place) in
    record {
      taken = rw (ea, m) (ap (take (min (length x) (length before))) (wrote_over x before o n v) ∙ taken x before);
      size = ap length ea ∙ z;
    }
  where
    taken : (x before : List ℕ) → take (min (length x) (length before)) (take (length before) x ++ drop (length x) before) ≡ take (length before) x
    taken x before =
        let l : length (take (length before) x) ≡ min (length x) (length before) = simp length-take (omega arith) in
        take_at (take (length before) x) (drop (length x) before) (min (length x) (length before)) l

-- `is_written`
written_refused : (m : LineError) (s : List ℕ) → false ≡ is_written (Err m) s
unfolding is_written
written_refused m s = refl

written_is : (xs s : List ℕ) → same xs s ≡ is_written (Ok xs) s
unfolding is_written
written_is xs s = refl

none_of : (o : Outcome) (e : LineError) (s : List ℕ) → Err e ≡ answer_of o → false ≡ is_written o s
none_of (Err m) e s q = written_refused m s
none_of (Ok xs) e s q = cc

same_of : (o : Outcome) (n : ℕ) (z after s : List ℕ) → Ok n ≡ answer_of o → after ≡ buffer_of o z → same (take n after) s ≡ is_written o s
same_of (Err m) n z after s e b = cc
same_of (Ok xs) n z after s e b =
    let k : n ≡ length xs = cc in
    ap (λ (u : List ℕ). same u s) (ap (take n) b ∙ take_at xs (drop (length xs) z) n (sym k)) ∙ written_is xs s

module _ (g : Given) (z after s : List ℕ) (size : length z ≡ 1500) (w : Result ℕ LineError) (x : Says (outcome g (length z)) w z after) where
  pub written_none : (e : LineError) → w ≡ Err e → false ≡ is_written (outcome g 1500) s
  written_none e q = none_of (outcome g 1500) e s (sym q ∙ x.answer ∙ ap (λ (k : ℕ). answer_of (outcome g k)) size)

  pub written_same : (n : ℕ) → w ≡ Ok n → (t : List ℕ) → t ≡ part after 0 n → (r : Bool) → r ≡ same t s → r ≡ is_written (outcome g 1500) s
  written_same n e t et r er = er ∙ ap (λ (u : List ℕ). same u s) (et ∙ front_part after n)
      ∙ same_of (outcome g 1500) n z after s (sym e ∙ x.answer ∙ ap (λ (k : ℕ). answer_of (outcome g k)) size) (x.buffer ∙ ap (λ (k : ℕ). buffer_of (outcome g k) z) size)

-- a value in an array
held_value : (k : ℕ) (s : List ℕ) (p : Part) (z v : List ℕ) (n : ℕ) → Held (unescaped (bytes_of s p)) z v n → length z ≡ k → (x : List ℕ) → x ≡ part v 0 n → x ≡ value_of k s p
held_value k s p z v n h size x e = e ∙ front_part v n ∙ h.taken ∙ ap (λ (k : ℕ). take k (unescaped (bytes_of s p))) size

-- `is_line`
module _ (s : List ℕ) (f : Parts)
    (z₁ v₁ : List ℕ) (n₁ : ℕ) (h₁ : Held (unescaped (bytes_of s f.client)) z₁ v₁ n₁) (size₁ : length z₁ ≡ 39)
    (z₂ v₂ : List ℕ) (n₂ : ℕ) (h₂ : Held (unescaped (bytes_of s f.sender)) z₂ v₂ n₂) (size₂ : length z₂ ≡ 320)
    (z₃ v₃ : List ℕ) (n₃ : ℕ) (h₃ : Held (unescaped (bytes_of s f.helo)) z₃ v₃ n₃) (size₃ : length z₃ ≡ 255)
    (z₄ v₄ : List ℕ) (n₄ : ℕ) (h₄ : Held (unescaped (bytes_of s f.receiver)) z₄ v₄ n₄) (size₄ : length z₄ ≡ 255) where
  pub line_or_not : (t : List ℕ) → t ≡ part v₁ 0 n₁ → (a : Address) → a ≡ address_of t → (x₂ x₃ x₄ : List ℕ) → x₂ ≡ part v₂ 0 n₂ → x₃ ≡ part v₃ 0 n₃ → x₄ ≡ part v₄ 0 n₄
      → (u : List ℕ) → u ≡ bytes_of s f.identity → (i : Identity) → i ≡ identity_of u
      → (r : Bool) → r ≡ is_written (outcome (given f.result a x₂ x₃ x₄ i) 1500) s → r ≡ is_line s f
  unfolding is_line is_line_of
  line_or_not t p₁ a ea x₂ x₃ x₄ p₂ p₃ p₄ u eu i ei r e =
      rw (
        ← held_value 39 s f.client z₁ v₁ n₁ h₁ size₁ t p₁,
        ← held_value 320 s f.sender z₂ v₂ n₂ h₂ size₂ x₂ p₂,
        ← held_value 255 s f.helo z₃ v₃ n₃ h₃ size₃ x₃ p₃,
        ← held_value 255 s f.receiver z₄ v₄ n₄ h₄ size₄ x₄ p₄,
        ← ea,
        ← eu,
        ← ei,
      ) e

-- `read_line`
pub too_long : (s : List ℕ) → most_line < length s → Err NoLine ≡ line_answer s
unfolding line_answer
too_long s h = rw (lt-leb (length s) most_line h)

module _ (s : List ℕ) (short : length s ≤ most_line) (f : Parts) (e : f ≡ parts_of s) (r : Bool) (q : r ≡ is_line s f) where
  pub line_read : r ≡ true → Ok f ≡ line_answer s
  unfolding line_answer
  line_read h = rw (le-leb (length s) most_line short, ← e, ← q, h)

  pub line_refused : r ≡ false → Err NoLine ≡ line_answer s
  unfolding line_answer
  line_refused h = rw (le-leb (length s) most_line short, ← e, ← q, h)
