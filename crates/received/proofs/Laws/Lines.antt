-- The line piece by piece as the code writes it, against its production; and the answers of writing. From the definitions of Line, Texts and Answers.
use Rattle.std.proofs.Common.{Result, Ok, Err}
use Prim.Native.Nat.{ℕ, zero, suc, ◌+◌, ◌≤◌, ◌<◌, min}
use mathlib.Core.Path.{◌≡◌, refl, sym, ap, subst, ◌∙◌}
use mathlib.Core.Logic.{inl, inr}
use mathlib.Core.List.{List, ◌++◌}
use mathlib.Core.Bool.{Bool, true, false, cond, ◌&&◌}
use native.Mathlib.Omega.{arith}
use lib.ListN.{length}
use lib.Dec.{leb, ltb}
use borrow.Author.Tests.{ne_eqb, le-leb, lt-leb, lt-ltb, le-ltb, leb-true, leb-false, ltb-true, ltb-false}
use Rattle.text.specs.Bytes.{part}
use Rattle.text.specs.Texts.{bytes}
use Rattle.text.specs.Writing.{Wrote}
use Rattle.text.proofs.Laws.Writing.{wrote_then, wrote_front}
use Rattle.text.proofs.Laws.Tests.{true_false, test_fails, cond-elim}
use Rattle.address.specs.declared.Address.{Address}
use Rattle.address.specs.Octets.{as_client}
use Rattle.address_text.specs.Forms.{readable}
use Rattle.macros.specs.Expansion.{is_sender, is_host}
use Rattle.address_text.proofs.Laws.Lengths.{length_readable}
use Rattle.received.specs.Quoting.{quoted, escaped}
use Rattle.received.specs.Line.{Word, none, neutral, pass, fail, softfail, temperror, permerror, crlf, part_from, Pair, as_it_stands, in_quotes, Values, Line, line}
use Rattle.received.specs.Numbers.{Outcome, Says}
use Rattle.received.specs.Answers.{Given, identity_text, values_of, most_line, Writes, no_sender, no_host, no_result, no_room, fits, WritesLine}
use Rattle.received.specs.States.{is_dot_atom_text}
use Rattle.received.specs.Texts.{word_of, formed, shown, line_text, place₀, place₁, place₂, place₃, place₄, line_parts, fitted, text_of, outcome}
use Rattle.text.specs.declared.spans.Span.{Span as Part}
use Rattle.received.specs.declared.Parts.{Parts}
use Rattle.received.specs.declared.LineError.{LineError}
use Rattle.received.specs.declared.LineError.TheVariants.{Sender, Host, NoRoom, NoResult}
use Rattle.received.proofs.Laws.Atoms.{dot_sound, dot_complete}
use Rattle.received.proofs.Laws.Quoting.{read_back}

-- `word_of`: none of the numbers tested for
pub other_word : (n : ℕ) → (n ≡ 0 → ⊥) → (n ≡ 1 → ⊥) → (n ≡ 2 → ⊥) → (n ≡ 3 → ⊥) → (n ≡ 4 → ⊥) → (n ≡ 5 → ⊥) → bytes "permerror" ≡ word_of n
unfolding word_of
other_word n h₀ h₁ h₂ h₃ h₄ h₅ = simp (ne_eqb n 0 h₀, ne_eqb n 1 h₁, ne_eqb n 2 h₂, ne_eqb n 3 h₃, ne_eqb n 4 h₄, ne_eqb n 5 h₅)

-- `put_line`
module _ (out : List ℕ) (at : ℕ) (o₁ o₂ o₃ o₄ o₅ o₆ o₇ o₈ : List ℕ) (n₁ n₂ n₃ n₄ n₅ n₆ n₇ n₈ : ℕ) (result : ℕ) (receiver client sender helo identity : List ℕ) where
  pub line_row : Wrote (bytes "Received-SPF: ") out at o₁ n₁ → Wrote (word_of result) o₁ n₁ o₂ n₂ → Wrote (bytes " receiver=" ++ formed receiver) o₂ n₂ o₃ n₃
      → Wrote (bytes "; client-ip=" ++ formed client) o₃ n₃ o₄ n₄ → Wrote (bytes "; envelope-from=" ++ formed sender) o₄ n₄ o₅ n₅
      → Wrote (bytes "; helo=" ++ formed helo) o₅ n₅ o₆ n₆ → Wrote (bytes "; identity=" ++ formed identity) o₆ n₆ o₇ n₇ → Wrote crlf o₇ n₇ o₈ n₈
      → Wrote (line_text result receiver client sender helo identity) out at o₈ n₈
  unfolding line_text
  line_row a b c d e f g h =
      wrote_then out at (bytes "Received-SPF: ") _ o₁ o₈ n₁ n₈ a (wrote_then o₁ n₁ (word_of result) _ o₂ o₈ n₂ n₈ b
      (wrote_then o₂ n₂ (bytes " receiver=" ++ formed receiver) _ o₃ o₈ n₃ n₈ c (wrote_then o₃ n₃ (bytes "; client-ip=" ++ formed client) _ o₄ o₈ n₄ n₈ d
      (wrote_then o₄ n₄ (bytes "; envelope-from=" ++ formed sender) _ o₅ o₈ n₅ n₈ e (wrote_then o₅ n₅ (bytes "; helo=" ++ formed helo) _ o₆ o₈ n₆ n₈ f
      (wrote_then o₆ n₆ (bytes "; identity=" ++ formed identity) crlf o₇ o₈ n₇ n₈ g h))))))

-- `write_fitting`: measured in an array of no use, and written where it fits
module _ (xs z o : List ℕ) (k n : ℕ) (ek : k ≡ 0) (w : Wrote xs z k o n) (out : List ℕ) where
  pub line_over : (r : ℕ) → r ≡ min most_line (length out) → r < n → Says (fitted xs (length out)) (Err NoRoom) out out
  unfolding fitted
  line_over r er h = cond-elim (λ (x : Outcome). Says x (Err NoRoom) out out) (leb (length xs) most_line)
      (λ q. let l = leb-true (length xs) most_line q in rw (lt-leb (length xs) (length out) (omega (arith, w.next_place))) (record { answer = refl; buffer = refl }))
      (λ _. record { answer = refl; buffer = refl })

  pub line_fits : (r : ℕ) → r ≡ min most_line (length out) → n ≤ r → (b c after : List ℕ) → b ≡ out → after ≡ c → (j m : ℕ) → j ≡ 0 → Wrote xs b j c m → Says (fitted xs (length out)) (Ok m) out after
  unfolding fitted
  line_fits r er h b c after eb ec j m ej v =
      let e : m ≡ length xs = omega (arith, w.next_place, v.next_place) in
      let f : length xs ≤ length out = omega (arith, w.next_place) in
      rw (le-leb (length xs) most_line (omega arith), le-leb (length xs) (length out) f) (record { answer = ap (λ (k : ℕ). Ok k) e; buffer = ec ∙ wrote_front xs out c m (rw (eb, ej) at v) f })

-- `write_tested`
pub client_text : (g : Given) (a : Address) → a ≡ as_client g.client → (z o y t : List ℕ) (k n : ℕ) → k ≡ 0 → Wrote (readable a) z k o n → y ≡ o → length z ≡ 39 → t ≡ part y 0 n
    → (room : ℕ) (r : Result ℕ LineError) (before after : List ℕ) → Says (fitted (line_text g.result g.receiver t g.sender g.helo (identity_text g.identity)) room) r before after
    → Says (fitted (text_of g) room) r before after
client_text g a f z o y t k n ek w ey size et room r before after x =
    let e : t ≡ readable (as_client g.client) = read_back (readable a) z o y t k n ek w ey (let l = length_readable a in omega arith) et ∙ ap readable f in
    rw e at x

-- the line as its production has it
pub word_of_lem : (n : ℕ) → n < 7 → Word n (word_of n)
unfolding word_of
word_of_lem zero h = none
word_of_lem (suc zero) h = neutral
word_of_lem (suc (suc zero)) h = pass
word_of_lem (suc (suc (suc zero))) h = fail
word_of_lem (suc (suc (suc (suc zero)))) h = softfail
word_of_lem (suc (suc (suc (suc (suc zero))))) h = temperror
word_of_lem (suc (suc (suc (suc (suc (suc zero)))))) h = permerror
word_of_lem (suc (suc (suc (suc (suc (suc (suc n))))))) h = absurd (omega arith)

-- a pair as the code writes it, and where its part stands; there is no other
pub pair_is : (key v : List ℕ) (p : ℕ) → Pair key v p (key ++ formed v) (shown (p + length key) v)
unfolding formed shown
pair_is key v p = by (is_dot_atom_text v) refl
  where
    by : (t : Bool) → is_dot_atom_text v ≡ t
        → Pair key v p (key ++ cond t v (quoted v)) (cond t (part_from (p + length key) v) (part_from (p + length key + 1) (escaped v)))
    by true e = as_it_stands (dot_sound v e)
    by false e = in_quotes (λ d. true_false (is_dot_atom_text v) (dot_complete d) e)

pub record OnePair (key v : List ℕ) (p : ℕ) (t : List ℕ) (q : Part) : Type 0 where
  pub text : t ≡ key ++ formed v
  pub place : q ≡ shown (p + length key) v

pub pair_one : {key v : List ℕ} {p : ℕ} {t : List ℕ} {q : Part} → Pair key v p t q → OnePair key v p t q
unfolding formed shown
pair_one {v = v} (as_it_stands d) = record { text = rw (dot_complete d); place = rw (dot_complete d) }
pair_one {v = v} (in_quotes n) =
    let e = test_fails (is_dot_atom_text v) (λ h. n (dot_sound v h)) in
    record { text = rw e; place = rw e }

pub line_flat : (result : ℕ) (receiver client sender helo identity : List ℕ) → line_text result receiver client sender helo identity
    ≡ bytes "Received-SPF: " ++ (word_of result ++ ((bytes " receiver=" ++ formed receiver) ++ ((bytes "; client-ip=" ++ formed client)
    ++ ((bytes "; envelope-from=" ++ formed sender) ++ ((bytes "; helo=" ++ formed helo) ++ ((bytes "; identity=" ++ formed identity) ++ crlf))))))
unfolding line_text
line_flat result receiver client sender helo identity = refl

pub line_is : (n : ℕ) (v : Values) → n < 7
    → Line n v (line_text n v.receiver v.client v.sender v.helo v.identity) (line_parts n v.receiver v.client v.sender v.helo v.identity)
unfolding line_parts
line_is n v h =
    let r = v.receiver in
    let c = v.client in
    let e = v.sender in
    let l = v.helo in
    let i = v.identity in
    subst (λ (t : List ℕ). Line n v t (line_parts n r c e l i)) (sym (line_flat n r c e l i))
    (line (word_of_lem n h) (pair_is (bytes " receiver=") r (place₀ n)) (pair_is (bytes "; client-ip=") c (place₁ n r))
    (pair_is (bytes "; envelope-from=") e (place₂ n r c)) (pair_is (bytes "; helo=") l (place₃ n r c e)) (pair_is (bytes "; identity=") i (place₄ n r c e l)))

-- a word, and a line, of given values is only one, and so are the places of its parts
pub word_one : {n : ℕ} {w : List ℕ} → Word n w → w ≡ word_of n
unfolding word_of
word_one none = refl
word_one neutral = refl
word_one pass = refl
word_one fail = refl
word_one softfail = refl
word_one temperror = refl
word_one permerror = refl

pub record OneLine (n : ℕ) (v : Values) (xs : List ℕ) (f : Parts) : Type 0 where
  pub text : xs ≡ line_text n v.receiver v.client v.sender v.helo v.identity
  pub parts : f ≡ line_parts n v.receiver v.client v.sender v.helo v.identity

pub line_one : {n : ℕ} {v : Values} {xs : List ℕ} {f : Parts} → Line n v xs f → OneLine n v xs f
unfolding line_parts
line_one {n} {v} (line w a b c d e) =
    let wo = word_one w in
    let oa = pair_one a in
    let ob = pair_one b in
    let oc = pair_one c in
    let od = pair_one d in
    let oe = pair_one e in
    record {
      text = rw (wo, oa.text, ob.text, oc.text, od.text, oe.text) (sym (line_flat n v.receiver v.client v.sender v.helo v.identity));
      parts = rw (oa.place, ob.place, oc.place, od.place, oe.place, oa.text, ob.text, oc.text, od.text, wo);
    }

-- the number of a word is below 7, and so is a line's result
pub word_small : {n : ℕ} {w : List ℕ} → Word n w → n < 7
word_small none = omega arith
word_small neutral = omega arith
word_small pass = omega arith
word_small fail = omega arith
word_small softfail = omega arith
word_small temperror = omega arith
word_small permerror = omega arith

pub line_result : {n : ℕ} {v : Values} {xs : List ℕ} {f : Parts} → Line n v xs f → n < 7
line_result (line w a b c d e) = word_small w

-- `write_line`: the tests in their order
pub writes : (g : Given) (room : ℕ) → Writes g room (outcome g room)
unfolding outcome fitted
writes g room = by (is_sender g.sender) refl (is_host g.helo && is_host g.receiver) refl (ltb g.result 7) refl (leb (length (text_of g)) most_line) refl (leb (length (text_of g)) room) refl
  where
    by : (a : Bool) → is_sender g.sender ≡ a → (b : Bool) → (is_host g.helo && is_host g.receiver) ≡ b → (c : Bool) → ltb g.result 7 ≡ c
        → (d : Bool) → leb (length (text_of g)) most_line ≡ d → (e : Bool) → leb (length (text_of g)) room ≡ e
        → Writes g room (cond a (cond b (cond c (cond d (cond e (Ok (text_of g)) (Err NoRoom)) (Err NoRoom)) (Err NoResult)) (Err Host)) (Err Sender))
    by false ea b eb c ec d ed e ee = no_sender ea
    by true ea false eb c ec d ed e ee = no_host ea eb
    by true ea true eb false ec d ed e ee = no_result ea eb (ltb-false g.result 7 ec)
    by true ea true eb true ec false ed e ee = no_room (record { sender = ea; hosts = eb; result = ltb-true g.result 7 ec }) (line_is g.result (values_of g) (ltb-true g.result 7 ec)) (inl (leb-false (length (text_of g)) most_line ed))
    by true ea true eb true ec true ed false ee = no_room (record { sender = ea; hosts = eb; result = ltb-true g.result 7 ec }) (line_is g.result (values_of g) (ltb-true g.result 7 ec)) (inr (leb-false (length (text_of g)) room ee))
    by true ea true eb true ec true ed true ee = fits (record { sender = ea; hosts = eb; result = ltb-true g.result 7 ec }) (line_is g.result (values_of g) (ltb-true g.result 7 ec)) (leb-true (length (text_of g)) most_line ed) (leb-true (length (text_of g)) room ee)

pub answered : (g : Given) (r : Result ℕ LineError) (before after : List ℕ) → Says (outcome g (length before)) r before after → WritesLine g r before after
answered g r before after x = record { outcome = outcome g (length before); writes = writes g (length before); says = x }

module _ (g : Given) (out : List ℕ) (a : Bool) (ea : a ≡ is_sender g.sender) where
  pub refused_sender : a ≡ false → Says (outcome g (length out)) (Err Sender) out out
  unfolding outcome
  refused_sender h = rw (← ea, h) (record { answer = refl; buffer = refl })

  module _ (ha : a ≡ true) (b : Bool) (eb : b ≡ (is_host g.helo && is_host g.receiver)) where
    pub refused_host : b ≡ false → Says (outcome g (length out)) (Err Host) out out
    unfolding outcome
    refused_host h = rw (← ea, ha, ← eb, h) (record { answer = refl; buffer = refl })

    module _ (hb : b ≡ true) where
      pub refused_result : 7 ≤ g.result → Says (outcome g (length out)) (Err NoResult) out out
      unfolding outcome
      refused_result h = rw (← ea, ha, ← eb, hb, le-ltb g.result 7 h) (record { answer = refl; buffer = refl })

      pub tests_passed : g.result < 7 → (r : Result ℕ LineError) (after : List ℕ) → Says (fitted (text_of g) (length out)) r out after → Says (outcome g (length out)) r out after
      unfolding outcome
      tests_passed h r after w = rw (← ea, ha, ← eb, hb, lt-ltb g.result 7 h) w

pub ruleset writing = (refused_sender, refused_host, refused_result, tests_passed)
