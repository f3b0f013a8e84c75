-- The tests of 20 to 23, which both calls begin with, and an evaluation as one call, as the house rules have it: "Evaluation tests 20 to 24 in that
-- order, then whichever of 25 and 26 has the earlier place".
use Rattle.std.specs.Prelude.{ℕ, ◌≡◌, List, Bool, true, false, cond, ◌&&◌, length, leb, None, Some, Option, Ok, Err, Result as Either}
use Rattle.address.specs.declared.Address.{Address}
use Rattle.address.specs.Octets.{as_client}
use Rattle.answer_table.specs.declared.TableError.{TableError}
use Rattle.answer_table.specs.declared.TableError.TheVariants.{TooLong, Malformed, Repeated}
use Rattle.answer_table.specs.Reader.{check_table}
use Rattle.macros.specs.Expansion.{is_sender, is_host, is_short}
use Rattle.rules.specs.Tree.{Table, Settled, run}
use Rattle.rules.specs.Lifetimes.{life_of, seconds}
use Rattle.rules.specs.Tables.{table_in}
use Rattle.rules.specs.Mechanisms.{Mail}
use Rattle.rules.specs.Evaluation.{evaluation, Verdict, verdict}
use Rattle.rules.specs.Outcomes.{mail_of}
use Rattle.evaluation.specs.declared.Refusal.{Refusal}
use Rattle.evaluation.specs.Numbers.{Outcome, refused, refused_at, settles}

-- "IPv4-mapped clients count as IPv4"
abbrev pub mail_for : Address → (sender helo receiver : List ℕ) → ℕ → Mail
mail_for client sender helo receiver seconds = mail_of (as_client client) sender helo receiver seconds

-- 23 "name buffer under 253 bytes or text buffer under 500". W-203 amends the house rules: the first call is lent a name buffer only
unfoldable pub has_name_room : List ℕ → Bool
has_name_room name = leb 253 (length name)

unfoldable pub has_room : List ℕ → List ℕ → Bool
has_room name text = leb 253 (length name) && leb 500 (length text)

-- the numbers of the refusals, and the place in the table of 25 and 26
unfoldable pub number_of : Refusal → ℕ
number_of Refusal.Sender = 20
number_of Refusal.Host = 21
number_of Refusal.Domain = 22
number_of Refusal.Room = 23
number_of (Refusal.Table TooLong) = 24
number_of (Refusal.Table (Malformed p)) = 25
number_of (Refusal.Table (Repeated p)) = 26
number_of Refusal.Exp = 28

unfoldable pub place_of : Refusal → Option ℕ
place_of (Refusal.Table (Malformed p)) = Some p
place_of (Refusal.Table (Repeated p)) = Some p
place_of Refusal.Sender = None
place_of Refusal.Host = None
place_of Refusal.Domain = None
place_of Refusal.Room = None
place_of (Refusal.Table TooLong) = None
place_of Refusal.Exp = None

-- the first of 20 to 23 that holds: 20 "sender not 1 to 320 bytes of 32 to 126"; 21 "HELO or receiver over 255 bytes, or a byte outside 33 to 126"; 22
-- "domain .. over 255 bytes"; 23, by whether there is room
pub data Refuses (domain sender helo receiver : List ℕ) (room : Bool) : Refusal → Type 0 where
  no_sender : is_sender sender ≡ false → Refuses domain sender helo receiver room Refusal.Sender
  no_host : is_sender sender ≡ true → (is_host helo && is_host receiver) ≡ false → Refuses domain sender helo receiver room Refusal.Host
  long_domain : is_sender sender ≡ true → (is_host helo && is_host receiver) ≡ true → is_short domain ≡ false → Refuses domain sender helo receiver room Refusal.Domain
  no_room : is_sender sender ≡ true → (is_host helo && is_host receiver) ≡ true → is_short domain ≡ true → room ≡ false
      → Refuses domain sender helo receiver room Refusal.Room

-- none of them does
pub record Fits (domain sender helo receiver : List ℕ) (room : Bool) : Type 0 where
  pub sender_fits : is_sender sender ≡ true
  pub hosts_fit : (is_host helo && is_host receiver) ≡ true
  pub domain_fits : is_short domain ≡ true
  pub has_room_lem : room ≡ true

-- the first that holds, for private functions; by the name buffer's length
unfoldable pub refusal_of : (domain sender helo receiver : List ℕ) → ℕ → Either Unit Refusal
refusal_of domain sender helo receiver name =
    cond (is_sender sender)
    (cond (is_host helo && is_host receiver) (cond (is_short domain) (cond (leb 253 name) (Ok tt) (Err Refusal.Room)) (Err Refusal.Domain)) (Err Refusal.Host))
    (Err Refusal.Sender)

-- 24, 25 and 26
unfoldable pub after_table : Either ℕ TableError → Settled Verdict → ℕ → Outcome
after_table (Ok n) x life = settles x life
after_table (Err TooLong) x life = refused 24
after_table (Err (Malformed p)) x life = refused_at 25 p
after_table (Err (Repeated p)) x life = refused_at 26 p

-- the lifetime of an evaluation; W-209: "the first call's result", so an explanation's entries never count
unfoldable pub lifetime_of : Table → Mail → List ℕ → ℕ
lifetime_of t mail domain = seconds (life_of (run t None (evaluation mail domain)))

-- what one call gave: 20 to 23, then the table's, then the evaluation with its text
unfoldable pub evaluated : Address → (domain sender helo receiver : List ℕ) → ℕ → (table name text : List ℕ) → Outcome
evaluated client domain sender helo receiver t table name text =
    cond (is_sender sender)
    (cond (is_host helo && is_host receiver)
    (cond (is_short domain)
    (cond (has_room name text)
    (after_table (check_table table) (run (table_in table) None (verdict (mail_for client sender helo receiver t) domain))
    (lifetime_of (table_in table) (mail_for client sender helo receiver t) domain))
    (refused 23))
    (refused 22))
    (refused 21))
    (refused 20)
