-- Zones for computed examples: what a list of entries answers, a mail, and what an evaluation over a zone comes to.
use Rattle.std.specs.Prelude.{ℕ, List, [], ◌∷◌, cond, ◌&&◌, eqb, None, Option}
use Prim.Native.String.{String}
use Rattle.text.specs.Lists.{same}
use Rattle.text.specs.Texts.{bytes}
use Rattle.address.specs.declared.Address.TheVariants.{IPv4, IPv6}
use Rattle.records.specs.Readings.{Optional, absent, present}
use Rattle.rules.specs.Tree.{Reply, failed, items, Table, Settled, settled, wanting, run}
use Rattle.rules.specs.Lifetimes.{seconds, life_of}
use Rattle.rules.specs.Mechanisms.{Mail}
use Rattle.rules.specs.Evaluation.{Result, evaluation, Verdict, verdict}

-- a zone: the kind, the name, the answer and the lifetime of each entry
pub record Row : Type 0 where
  pub kind : ℕ
  pub owner : List ℕ
  pub reply : Reply
  pub lifetime : ℕ

unfoldable pub zone : List Row → Table
zone [] kind owner = absent
zone (r ∷ rs) kind owner = cond (eqb r.kind kind && same r.owner owner) (present (record { reply = r.reply; lifetime = r.lifetime })) (zone rs kind owner)

-- a record of a domain
abbrev pub txt : List ℕ → List ℕ → Row
txt owner s = record { kind = 16; owner = owner; reply = items (s ∷ []); lifetime = 300 }

-- a question for addresses that finds nothing
abbrev pub nothing : List ℕ → Row
nothing owner = record { kind = 1; owner = owner; reply = items []; lifetime = 300 }

-- the items of a kind and a name; and a question that failed
abbrev pub row : ℕ → String → List (List ℕ) → Row
row kind owner ds = record { kind = kind; owner = bytes owner; reply = items ds; lifetime = 300 }

abbrev pub broken : ℕ → String → Row
broken kind owner = record { kind = kind; owner = bytes owner; reply = failed; lifetime = 300 }

-- the same row for so many seconds
abbrev pub lasting : ℕ → Row → Row
lasting n r = record { kind = r.kind; owner = r.owner; reply = r.reply; lifetime = n }

-- the record of example.com, and that of b.example
abbrev pub spf : String → Row
spf s = txt (bytes "example.com") (bytes s)

abbrev pub included : String → Row
included s = txt (bytes "b.example") (bytes s)

-- client 192.0.2.129, sender user@example.com, HELO helo.example
abbrev pub mail : Mail
mail = record { client = IPv4 3221226113; sender = bytes "user@example.com"; helo = bytes "helo.example"; receiver = []; seconds = 7 }

-- the client's address, and another that shares its first 24 bits
abbrev pub here : List ℕ
here = 192 ∷ 0 ∷ 2 ∷ 129 ∷ []

abbrev pub elsewhere : List ℕ
elsewhere = 192 ∷ 0 ∷ 2 ∷ 1 ∷ []

-- the same with the client 2001:db8::1; its address, and 2001:db8::2, which shares its first 64 bits
abbrev pub mail6 : Mail
mail6 =
    record { client = IPv6 2306139568115548160 1; sender = bytes "user@example.com"; helo = bytes "helo.example"; receiver = []; seconds = 7 }

abbrev pub here6 : List ℕ
here6 = 32 ∷ 1 ∷ 13 ∷ 184 ∷ 0 ∷ 0 ∷ 0 ∷ 0 ∷ 0 ∷ 0 ∷ 0 ∷ 0 ∷ 0 ∷ 0 ∷ 0 ∷ 1 ∷ []

abbrev pub elsewhere6 : List ℕ
elsewhere6 = 32 ∷ 1 ∷ 13 ∷ 184 ∷ 0 ∷ 0 ∷ 0 ∷ 0 ∷ 0 ∷ 0 ∷ 0 ∷ 0 ∷ 0 ∷ 0 ∷ 0 ∷ 2 ∷ []

-- what is settled, the lifetime set aside; `lifetime` is of it
unfoldable pub aside : {A : Type 0} → Settled A → Settled A
aside (settled a l) = settled a None
aside (wanting kind n c l) = wanting kind n c None

-- what example.com's evaluation answers over a zone, for the first client and for the second
unfoldable pub answer : List Row → Settled Verdict
answer rs = aside (run (zone rs) None (verdict mail (bytes "example.com")))

unfoldable pub answer6 : List Row → Settled Verdict
answer6 rs = aside (run (zone rs) None (verdict mail6 (bytes "example.com")))

-- what its first call settles
unfoldable pub result : List Row → Settled Result
result rs = aside (run (zone rs) None (evaluation mail (bytes "example.com")))

-- the lifetime that its first call answers
unfoldable pub lifetime : List Row → ℕ
lifetime rs = seconds (life_of (run (zone rs) None (evaluation mail (bytes "example.com"))))

-- a fail after so many lookups of the record of a domain with an exp, or without one
abbrev pub failed_in : ℕ → String → Optional (List ℕ) → Settled Result
failed_in l d exp =
    settled (record { value = 3; counts = record { lookups = l; voids = 0 }; failing = present (record { domain = bytes d; exp = exp }) }) None

-- a number and both counts, without a text
abbrev pub decided : ℕ → ℕ → ℕ → Settled Verdict
decided v l w = settled (record { value = v; counts = record { lookups = l; voids = w }; text = [] }) None

-- a fail with a text
abbrev pub fails : ℕ → List ℕ → Settled Verdict
fails l s = settled (record { value = 3; counts = record { lookups = l; voids = 0 }; text = s }) None

-- a question that is missing, after that many lookups
abbrev pub wants : ℕ → String → ℕ → Settled Verdict
wants kind owner l = wanting kind (bytes owner) (record { lookups = l; voids = 0 }) None
