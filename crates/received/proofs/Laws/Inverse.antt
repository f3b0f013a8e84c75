-- What the reader accepts is what writing gives. From the laws of lines, parsing and clients.
use Rattle.std.proofs.Common.{Result, Ok, Err}
use Prim.Native.Nat.{ℕ, ◌/◌, ◌%◌, ◌≤◌, ◌<◌}
use mathlib.Core.Path.{◌≡◌, refl, sym, ap, subst, ◌∙◌}
use mathlib.Core.List.{List}
use mathlib.Core.Bool.{Bool, true, false, cond, ◌&&◌}
use native.Mathlib.Omega.{arith}
use lib.ListN.{length, take}
use lib.Seq.{take_all}
use lib.Dec.{eqb, leb}
use borrow.Author.Tests.{le-leb, lt-ltb, leb-true, leb-false}
use Rattle.text.specs.Bytes.{is_visible}
use Rattle.text.specs.Lists.{all, same}
use Rattle.text.proofs.Laws.Tests.{and_left, and_right, true_false, cond-elim}
use Rattle.text.proofs.Laws.Words.{same_true, true_same}
use Rattle.address.specs.Octets.{InRange, as_client}
use Rattle.address.specs.declared.Address.{Address}
use Rattle.address.specs.declared.Address.TheVariants.{IPv4, IPv6}
use Rattle.address_text.specs.Forms.{readable}
use Rattle.address_text.proofs.Laws.Lengths.{length_readable}
use Rattle.macros.specs.Expansion.{is_sender, is_host}
use Rattle.macros.proofs.Laws.Senders.{sender_bound}
use Rattle.received.specs.Quoting.{is_marked, escaped_byte, escaped, unescaped}
use Rattle.received.specs.Line.{Values, Line}
use Rattle.received.specs.Numbers.{Outcome}
use Rattle.received.specs.Answers.{Given, given, identity_text, values_of, most_line, most_value, Fit, Writes, fits, LineFor, ReadsLine, reads, no_line}
use Rattle.received.specs.Texts.{line_text, line_parts, fitted, text_of, parts_in, outcome}
use Rattle.received.specs.Reader.{most_host, most_client, address_of, identity_of, parts_of, bytes_of, value_of, is_written, is_line_of, is_line, line_answer}
use Rattle.received.specs.declared.Identity.{Identity}
use Rattle.received.specs.declared.Identity.TheVariants.{MailFrom, Helo}
use Rattle.text.specs.declared.spans.Span.{Span as Part}
use Rattle.received.specs.declared.Parts.{Parts}
use Rattle.received.specs.declared.LineError.{LineError}
use Rattle.received.proofs.Laws.Quoting.{unescaped_escaped}
use Rattle.received.proofs.Laws.Clients.{address_back, address_range}
use Rattle.received.proofs.Laws.Lines.{line_one, line_result, writes}
use Rattle.received.proofs.Laws.Parsing.{receiver_found, client_found, sender_found, helo_found, identity_found, parts_found}

-- the bytes of each part of a line
pub record PartBytes (s : List ℕ) (v : Values) (f : Parts) : Type 0 where
  pub receiver : bytes_of s f.receiver ≡ escaped v.receiver
  pub client : bytes_of s f.client ≡ escaped v.client
  pub sender : bytes_of s f.sender ≡ escaped v.sender
  pub helo : bytes_of s f.helo ≡ escaped v.helo
  pub identity : bytes_of s f.identity ≡ escaped v.identity

-- where the parts of a line stand, and what they hold
pub record Stand (s : List ℕ) (n : ℕ) (v : Values) (f : Parts) : Type 0 where
  pub place : f ≡ parts_of s
  pub result : f.result ≡ n
  pub holds : PartBytes s v f

pub parts_stand : {n : ℕ} {v : Values} {s : List ℕ} {f : Parts} → length s ≤ most_line → Line n v s f → Stand s n v f
unfolding parts_of line_parts
parts_stand {n} {v} {s} {f} short l =
    let o = line_one l in
    let k = line_result l in
    let small : length s < 18446744073709551615 = omega arith in
    let r = v.receiver in
    let c = v.client in
    let e = v.sender in
    let h = v.helo in
    let i = v.identity in
    let p : f ≡ parts_of s = o.parts ∙ sym (parts_found s small n k r c e h i o.text) in
    record {
      place = p;
      result = ap (λ (x : Parts). x.result) o.parts;
      holds = subst (PartBytes s v) (sym p) (record {
        receiver = (receiver_found s small n k r c e h i o.text).bytes_are;
        client = (client_found s small n k r c e h i o.text).bytes_are;
        sender = (sender_found s small n k r c e h i o.text).bytes_are;
        helo = (helo_found s small n k r c e h i o.text).bytes_are;
        identity = (identity_found s small n k r c e h i o.text).bytes_are;
      });
    }

pub line_stands : {g : Given} {s : List ℕ} {f : Parts} → LineFor g s f → Stand s g.result (values_of g) f
line_stands w = parts_stand w.short w.line

-- the arguments that the parts give; their address is one
abbrev read_from : List ℕ → Parts → Given
read_from s f = given f.result (address_of (value_of most_client s f.client)) (value_of most_value s f.sender) (value_of most_host s f.helo) (value_of most_host s f.receiver) (identity_of (bytes_of s f.identity))

-- what was written again is a line for these arguments
written_for : (s : List ℕ) (g : Given) → InRange g.client → (o : Outcome) → Writes g most_line o → is_written o s ≡ true → LineFor g s (parts_in g)
unfolding is_written
written_for s g range (Err n) w h = absurd (true_false false h refl)
written_for s g range (Ok xs) (fits {f = f} fit made l m) h =
    let e : xs ≡ s = same_true xs s h in
    record {
      client = range;
      fit = fit;
      line = subst (λ (t : List ℕ). Line g.result (values_of g) t (parts_in g)) e (subst (Line g.result (values_of g) xs) (line_one made).parts made);
      short = omega (arith, ap length e);
    }

pub line_sound : (s : List ℕ) (f : Parts) → is_line s f ≡ true → LineFor (read_from s f) s (parts_in (read_from s f))
unfolding is_line is_line_of
line_sound s f h =
    let g = read_from s f in
    written_for s g (address_range (value_of most_client s f.client)) (outcome g most_line) (writes g most_line) h

-- a value is what its part holds
value_back : (n : ℕ) (s : List ℕ) (p : Part) (v : List ℕ) → bytes_of s p ≡ escaped v → length v ≤ n → value_of n s p ≡ v
value_back n s p v e l = ap (λ (t : List ℕ). take n (unescaped t)) e ∙ ap (take n) (unescaped_escaped v) ∙ take_all n v l

identity_back : (i : Identity) → identity_of (escaped (identity_text i)) ≡ i
unfolding identity_of escaped escaped_byte is_marked same
identity_back MailFrom = refl
identity_back Helo = refl

client_again : (a : Address) → as_client (as_client a) ≡ as_client a
unfolding as_client
client_again (IPv4 v) = refl
client_again (IPv6 high low) = by (eqb high 0 && eqb (low / 4294967296) 65535) refl
  where
    by : (t : Bool) → (eqb high 0 && eqb (low / 4294967296) 65535) ≡ t → as_client (cond t (IPv4 (low % 4294967296)) (IPv6 high low)) ≡ cond t (IPv4 (low % 4294967296)) (IPv6 high low)
    by true e = refl
    by false e = rw e

outcome_fits : (g : Given) → Fit g → length (text_of g) ≤ most_line → outcome g most_line ≡ Ok (text_of g)
unfolding outcome fitted
outcome_fits g f l = rw (f.sender, f.hosts, lt-ltb g.result 7 f.result, le-leb (length (text_of g)) most_line l)

pub sender_short : (v : List ℕ) → is_sender v ≡ true → length v ≤ most_value
sender_short v h = sender_bound v (is_sender v) refl h

pub host_short : (v : List ℕ) → is_host v ≡ true → length v ≤ most_host
unfolding is_host
host_short v h = leb-true (length v) most_host (and_left (leb (length v) most_host) (all is_visible v) h)

written_true : (xs s : List ℕ) → xs ≡ s → is_written (Ok xs) s ≡ true
unfolding is_written
written_true xs s e = true_same xs s e

same_arguments : (s : List ℕ) (f : Parts) (g : Given) → f.result ≡ g.result → address_of (value_of most_client s f.client) ≡ g.client → value_of most_value s f.sender ≡ g.sender
    → value_of most_host s f.helo ≡ g.helo → value_of most_host s f.receiver ≡ g.receiver → identity_of (bytes_of s f.identity) ≡ g.identity
    → is_written (outcome g most_line) s ≡ true → is_written (outcome (read_from s f) most_line) s ≡ true
same_arguments s f g a b c d e i h = rw (a, b, c, d, e, i) h

pub line_complete : (s : List ℕ) (g : Given) (h : Parts) → LineFor g s h → is_line s (parts_of s) ≡ true
unfolding is_line is_line_of
line_complete s g h w =
    let f = parts_of s in
    let st = line_stands w in
    let p = subst (PartBytes s (values_of g)) st.place st.holds in
    let n : f.result ≡ g.result = ap (λ (x : Parts). x.result) (sym st.place) ∙ st.result in
    let is : s ≡ text_of g = (line_one w.line).text in
    let hosts = w.fit.hosts in
    let a = value_back most_client s f.client (readable (as_client g.client)) p.client (length_readable (as_client g.client)) in
    let b = value_back most_value s f.sender g.sender p.sender (sender_short g.sender w.fit.sender) in
    let c = value_back most_host s f.helo g.helo p.helo (host_short g.helo (and_left (is_host g.helo) (is_host g.receiver) hosts)) in
    let d = value_back most_host s f.receiver g.receiver p.receiver (host_short g.receiver (and_right (is_host g.helo) (is_host g.receiver) hosts)) in
    let i : identity_of (bytes_of s f.identity) ≡ g.identity = ap identity_of p.identity ∙ identity_back g.identity in
    let again = given g.result (as_client g.client) g.sender g.helo g.receiver g.identity in
    let t : text_of again ≡ text_of g = ap (λ (x : Address). line_text g.result g.receiver (readable x) g.sender g.helo (identity_text g.identity)) (client_again g.client) in
    let fit : Fit again = record { sender = w.fit.sender; hosts = w.fit.hosts; result = w.fit.result } in
    let l : length (text_of again) ≤ most_line = omega (arith, ap length t, ap length is, w.short) in
    same_arguments s f again n (ap address_of a ∙ address_back g.client w.client) b c d i
    (ap (λ (o : Outcome). is_written o s) (outcome_fits again fit l) ∙ written_true (text_of again) s (t ∙ sym is))

-- `read_line`
pub reads_right : (s : List ℕ) → ReadsLine s (line_answer s)
unfolding line_answer
reads_right s = cond-elim (ReadsLine s) (leb (length s) most_line)
    (λ l. cond-elim (ReadsLine s) (is_line s (parts_of s)) (λ e. accepted e)
    (λ e. no_line (λ g f w. true_false (is_line s (parts_of s)) (line_complete s g f w) e)))
    (λ l. no_line (λ g f w. omega (arith, leb-false (length s) most_line l, w.short)))
  where
    accepted : is_line s (parts_of s) ≡ true → ReadsLine s (Ok (parts_of s))
    accepted e =
        let w = line_sound s (parts_of s) e in
        subst (λ (f : Parts). ReadsLine s (Ok f)) (line_stands w).place (reads w)

pub read_right : (s : List ℕ) (r : Result Parts LineError) → r ≡ line_answer s → ReadsLine s r
read_right s r e = subst (ReadsLine s) (sym e) (reads_right s)
