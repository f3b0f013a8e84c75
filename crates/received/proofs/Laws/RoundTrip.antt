-- The three calls together: what is written is read back to the same result and values, and what is read was written. From the laws of deciding and
-- inverse.
use Rattle.std.proofs.Common.{Result, Ok, Err}
use Prim.Native.Nat.{ℕ, ◌+◌, ◌*◌, ◌≤◌}
use mathlib.Core.Path.{◌≡◌, refl, sym, ap, subst, ◌∙◌}
use mathlib.Core.List.{List, [], ◌∷◌, ◌++◌}
use mathlib.Core.Bool.{true}
use native.Mathlib.Omega.{arith}
use lib.ListN.{length, take, drop, length-append}
use lib.Seq.{take_at}
use lib.Dec.{leb}
use Rattle.text.specs.Bytes.{within, is_printable, is_visible}
use Rattle.text.specs.Lists.{all}
use Rattle.text.specs.Texts.{bytes}
use Rattle.text.proofs.Laws.Tests.{and_left, and_right, and_both, cond-elim}
use Rattle.text.proofs.Laws.Classes.{within_range, range_within}
use Rattle.text.proofs.Laws.Parts.{all_inside}
use Rattle.address.specs.Octets.{InRange, as_client}
use Rattle.address.specs.declared.Address.{Address}
use Rattle.address.specs.declared.Address.TheVariants.{IPv4}
use Rattle.address_text.specs.Forms.{readable}
use Rattle.address_text.proofs.Laws.Lengths.{length_readable}
use Rattle.macros.specs.Expansion.{is_sender, is_host}
use Rattle.received.specs.Quoting.{quote, escaped}
use Rattle.received.specs.Line.{Values, Line}
use Rattle.received.specs.Numbers.{Outcome, answer_of, buffer_of, Says}
use Rattle.received.specs.Answers.{Given, given, identity_text, values_of, most_line, Writes, fits, WritesLine, LineFor, ReadsLine, reads, PartOf}
use Rattle.received.specs.RoundTrip.{Gives, bytes_at, UnquotedTo, ReadBack, WrittenFrom, PartIn, receiver, client, sender, helo, identity, GivenPart, RoundTrip}
use Rattle.received.specs.States.{is_dot_atom_text}
use Rattle.received.specs.Texts.{word_of, formed, text_of, parts_in}
use Rattle.received.specs.declared.Identity.{Identity}
use Rattle.received.specs.declared.Identity.TheVariants.{MailFrom, Helo}
use Rattle.received.specs.declared.Parts.{Parts}
use Rattle.received.specs.declared.LineError.{LineError}
use Rattle.received.proofs.Laws.Quoting.{escaped_one, escaped_length}
use Rattle.received.proofs.Laws.Lines.{line_is, line_one, line_flat}
use Rattle.received.proofs.Laws.Clients.{readable_printable}
use Rattle.received.proofs.Laws.Inverse.{PartBytes, parts_stand, line_stands, sender_short, host_short}
use Rattle.received.proofs.Laws.Deciding.{writes_is, reads_one, value_is}

-- what a call gives, from its outcome
gives : (xs : List ℕ) (o : Outcome) → o ≡ Ok xs → (r : Result ℕ LineError) (before after : List ℕ) → Says o r before after → Gives xs r before after
gives xs o e r before after x = record {
  answer = x.answer ∙ ap answer_of e;
  buffer = x.buffer ∙ ap (λ (z : Outcome). buffer_of z before) e;
}

-- a part's value, by the second call
unquoted_to : (s v : List ℕ) → PartOf v s → UnquotedTo s v
unquoted_to s v p r before after h u = gives v u.outcome (value_is s (length before) v p h u.outcome u.unquotes) r before after u.says

-- each value of arguments that fit has at most 320 bytes of 32 to 126
abbrev Plain : List ℕ → Type 0
Plain v = (all is_printable v ≡ true) × (length v ≤ 320)

visible_printable : (v : List ℕ) → all is_visible v ≡ true → all is_printable v ≡ true
unfolding is_visible is_printable
visible_printable v h = all_inside is_visible is_printable (λ b p. let r = within_range 33 126 b p in range_within 32 126 b (omega arith) (omega arith)) v h

host_plain : (v : List ℕ) → is_host v ≡ true → Plain v
unfolding is_host
host_plain v h = (visible_printable v (and_right (leb (length v) 255) (all is_visible v) h), let l = host_short v h in omega arith)

sender_plain : (v : List ℕ) → is_sender v ≡ true → Plain v
unfolding is_sender
sender_plain v h = (and_right (within 1 320 (length v)) (all is_printable v) h, sender_short v h)

client_plain : (a : Address) → Plain (readable a)
client_plain a = (readable_printable a, let l = length_readable a in omega arith)

identity_plain : (i : Identity) → Plain (identity_text i)
unfolding all is_printable within
identity_plain MailFrom = (refl, omega arith)
identity_plain Helo = (refl, omega arith)

part_of : (v s : List ℕ) → Plain v → s ≡ escaped v → PartOf v s
part_of v s p e = record { text = e; printable = p.0; size = p.1 }

record AllParts (g : Given) (s : List ℕ) (f : Parts) : Type 0 where
  pub receiver : PartOf (values_of g).receiver (bytes_at s f.receiver)
  pub client : PartOf (values_of g).client (bytes_at s f.client)
  pub sender : PartOf (values_of g).sender (bytes_at s f.sender)
  pub helo : PartOf (values_of g).helo (bytes_at s f.helo)
  pub identity : PartOf (values_of g).identity (bytes_at s f.identity)

all_parts : {g : Given} {s : List ℕ} {f : Parts} → LineFor g s f → AllParts g s f
all_parts {g} {s} {f} w =
    let b = (line_stands w).holds in
    let hosts = w.fit.hosts in
    record {
      receiver = part_of g.receiver _ (host_plain g.receiver (and_right (is_host g.helo) (is_host g.receiver) hosts)) b.receiver;
      client = part_of (readable (as_client g.client)) _ (client_plain (as_client g.client)) b.client;
      sender = part_of g.sender _ (sender_plain g.sender w.fit.sender) b.sender;
      helo = part_of g.helo _ (host_plain g.helo (and_left (is_host g.helo) (is_host g.receiver) hosts)) b.helo;
      identity = part_of (identity_text g.identity) _ (identity_plain g.identity) b.identity;
    }

-- what is written is read back
read_back : (g : Given) (s : List ℕ) (f : Parts) → LineFor g s f → (r : Result Parts LineError) → ReadsLine s r → ReadBack g s r
read_back g s f w r x =
    let p = all_parts w in
    record {
      parts = f;
      answer = reads_one s r (Ok f) x (reads w);
      result = (line_stands w).result;
      values = record {
        receiver = unquoted_to _ _ p.receiver;
        client = unquoted_to _ _ p.client;
        sender = unquoted_to _ _ p.sender;
        helo = unquoted_to _ _ p.helo;
        identity = unquoted_to _ _ p.identity;
      };
    }

front_line : (xs before : List ℕ) → take (length xs) (xs ++ drop (length xs) before) ≡ xs
front_line xs before = take_at xs (drop (length xs) before) (length xs) refl

written_read : (g : Given) → InRange g.client → (n : ℕ) (before after : List ℕ) → WritesLine g (Ok n) before after
    → (r : Result Parts LineError) → ReadsLine (take n after) r → ReadBack g (take n after) r
written_read g range n before after w r x = by w.outcome w.writes w.says.answer w.says.buffer
  where
    by : (o : Outcome) → Writes g (length before) o → Ok n ≡ answer_of o → after ≡ buffer_of o before → ReadBack g (take n after) r
    by (Err m) u e b = absurd (let q : ◌≡◌ {A = ℕ} 0 1 = cc in omega arith)
    by (Ok xs) (fits {f = f} fit l short room) e b =
        let k : n ≡ length xs = cc in
        let t : take n after ≡ xs = ap (take n) b ∙ ap (λ (m : ℕ). take m (xs ++ drop (length xs) before)) k ∙ front_line xs before in
        let lf : LineFor g xs f = record { client = range; fit = fit; line = l; short = short } in
        subst (λ (s : List ℕ). ReadBack g s r) (sym t) (read_back g xs f lf r (subst (λ (s : List ℕ). ReadsLine s r) t x))

-- what is read was written
line_writes : (g : Given) (s : List ℕ) (f : Parts) → LineFor g s f → WrittenFrom s g
line_writes g s f w = record {
  client = w.client;
  writes = λ r before after h x. gives s x.outcome (writes_is x.writes ∙ sym (writes_is (fits w.fit w.line w.short h))) r before after x.says;
}

read_written : (s : List ℕ) (f : Parts) → ReadsLine s (Ok f) → (g : Given) × WrittenFrom s g
read_written s f (reads {g} w) = (g, line_writes g s f w)

-- one line, one reading
one_line : (n : ℕ) (v : Values) (s t : List ℕ) (f h : Parts) → Line n v s f → Line n v t h → (s ≡ t) × (f ≡ h)
one_line n v s t f h x y =
    let a = line_one x in
    let b = line_one y in
    (a.text ∙ sym b.text, a.parts ∙ sym b.parts)

abbrev values : (receiver client sender helo identity : List ℕ) → Values
values r c s h i = record { receiver = r; client = c; sender = s; helo = h; identity = i }

same_values : (v w : Values) → v.receiver ≡ w.receiver → v.client ≡ w.client → v.sender ≡ w.sender → v.helo ≡ w.helo → v.identity ≡ w.identity → v ≡ w
same_values v w a b c d e =
    ap (λ (x : List ℕ). values x v.client v.sender v.helo v.identity) a
    ∙ ap (λ (x : List ℕ). values w.receiver x v.sender v.helo v.identity) b
    ∙ ap (λ (x : List ℕ). values w.receiver w.client x v.helo v.identity) c
    ∙ ap (λ (x : List ℕ). values w.receiver w.client w.sender x v.identity) d
    ∙ ap (values w.receiver w.client w.sender w.helo) e

one_reading : (s : List ℕ) → length s ≤ most_line → (n m : ℕ) (v w : Values) (f h : Parts) → Line n v s f → Line m w s h → (n ≡ m) × ((v ≡ w) × (f ≡ h))
one_reading s short n m v w f h x y =
    let a = parts_stand short x in
    let b = parts_stand short y in
    let e : f ≡ h = a.place ∙ sym b.place in
    let p = subst (PartBytes s v) e a.holds in
    let q = b.holds in (
      sym a.result ∙ ap (λ (p : Parts). p.result) e ∙ b.result,
      (
        same_values v w (escaped_one _ _ (sym p.receiver ∙ q.receiver)) (escaped_one _ _ (sym p.client ∙ q.client)) (escaped_one _ _ (sym p.sender ∙ q.sender))
            (escaped_one _ _ (sym p.helo ∙ q.helo)) (escaped_one _ _ (sym p.identity ∙ q.identity)),
        e,
      ),
    )

-- the parts that writing gives
value_of_part : (s : List ℕ) → GivenPart s → (v : List ℕ) × PartOf v s
value_of_part s p = by (all_parts p.written) p.part
  where
    by : AllParts p.arguments p.line p.parts → {t : List ℕ} → PartIn p.line p.parts t → (v : List ℕ) × PartOf v t
    by a receiver = (_, a.receiver)
    by a client = (_, a.client)
    by a sender = (_, a.sender)
    by a helo = (_, a.helo)
    by a identity = (_, a.identity)

formed_length : (v : List ℕ) → length (formed v) ≤ 2 * length v + 2
unfolding formed
formed_length v = cond-elim (λ (t : List ℕ). length t ≤ 2 * length v + 2) (is_dot_atom_text v) (λ _. omega arith)
    (λ _. let h = escaped_length v in omega (arith, length-append (escaped v) (quote ∷ [])))

-- a line from 0.0.0.0, by this sender, with these other values empty
abbrev mail_from : List ℕ → Given
mail_from v = given 0 (IPv4 0) v [] [] Helo

word_length : length (word_of 0) ≡ 4
unfolding word_of
word_length = refl

line_length : (v : List ℕ) → length v ≤ 320 → length (text_of (mail_from v)) ≤ most_line
line_length v h =
    rw (line_flat 0 [] (readable (as_client (IPv4 0))) v [] (bytes "helo"))
    (simp length-append
    (omega (arith, formed_length [], formed_length (readable (as_client (IPv4 0))), length_readable (as_client (IPv4 0)), formed_length v, formed_length (bytes "helo"), word_length)))

empty_host : is_host [] ≡ true
unfolding is_host all
empty_host = refl

sender_of : (v : List ℕ) → all is_printable v ≡ true → length v ≤ 320 → 1 ≤ length v → is_sender v ≡ true
unfolding is_sender
sender_of v p h k = and_both (within 1 320 (length v)) (all is_printable v) (range_within 1 320 (length v) k h) p

line_by : (v : List ℕ) → all is_printable v ≡ true → length v ≤ 320 → 1 ≤ length v → LineFor (mail_from v) (text_of (mail_from v)) (parts_in (mail_from v))
line_by v p h k = record {
  client = omega arith;
  fit = record { sender = sender_of v p h k; hosts = and_both (is_host []) (is_host []) empty_host empty_host; result = omega arith };
  line = line_is 0 (values_of (mail_from v)) (omega arith);
  short = line_length v h;
}

at_printable : all is_printable (64 ∷ []) ≡ true
unfolding all is_printable within
at_printable = refl

-- of a value that isn't empty, its part is the sender's in the line that it sends; the empty one is the receiver's in any line
part_of_value : (s : List ℕ) → (v : List ℕ) × PartOf v s → GivenPart s
part_of_value s (v, p) = by v p
  where
    at_sender : (v : List ℕ) → PartOf v s → 1 ≤ length v → GivenPart s
    at_sender v p k =
        let w = line_by v p.printable p.size k in
        record {
          arguments = mail_from v;
          line = text_of (mail_from v);
          parts = parts_in (mail_from v);
          written = w;
          part = subst (PartIn (text_of (mail_from v)) (parts_in (mail_from v))) ((line_stands w).holds.sender ∙ sym p.text) sender;
        }

    by : (v : List ℕ) → PartOf v s → GivenPart s
    by [] p =
        let w = line_by (64 ∷ []) at_printable (omega arith) (omega arith) in
        record {
          arguments = mail_from (64 ∷ []);
          line = text_of (mail_from (64 ∷ []));
          parts = parts_in (mail_from (64 ∷ []));
          written = w;
          part = subst (PartIn (text_of (mail_from (64 ∷ []))) (parts_in (mail_from (64 ∷ [])))) ((line_stands w).holds.receiver ∙ sym p.text) receiver;
        }
    by (b ∷ v) p = at_sender (b ∷ v) p (omega arith)

pub round_trip : RoundTrip
round_trip = record {
  written_read = written_read;
  read_written = read_written;
  one_line = one_line;
  one_reading = one_reading;
  parts_given = λ s. (part_of_value s, value_of_part s);
}
