-- "A reading is a list of terms": what each says, and its first byte's place.
use Rattle.std.specs.Prelude.{ℕ, List, []}
use Rattle.address.specs.declared.Address.{Address}

-- a part that a term may have
pub data Optional (A : Type 0) : Type 0 where
  absent : Optional A
  present : A → Optional A

-- what a term says: "its name in lower case, for an unknown modifier all before `=` as it stands; a mechanism's sign, `+` if unwritten; as argument
-- any domain-spec, network without its length but with the address it writes, or unknown modifier's value; and prefix lengths, a network its
-- family's, a and mx both; and no part besides"
pub record Said : Type 0 where
  pub name : List ℕ
  pub sign : Optional ℕ
  pub argument : Optional (List ℕ)
  pub address : Optional Address
  pub four : Optional ℕ
  pub six : Optional ℕ

-- the bytes of a part, none where it is absent
abbrev pub bytes_or : Optional (List ℕ) → List ℕ
bytes_or absent = []
bytes_or (present x) = x

-- the argument's bytes, none where a term has no argument
abbrev pub argument_bytes : Said → List ℕ
argument_bytes x = bytes_or x.argument

-- a term of a reading: "Each has its first byte's place"
pub record Placed : Type 0 where
  pub place : ℕ
  pub said : Said

-- a mechanism that has an argument or none and no other part
abbrev pub mechanism : List ℕ → ℕ → Optional (List ℕ) → Said
mechanism name sign argument =
    record { name = name; sign = present sign; argument = argument; address = absent; four = absent; six = absent }

-- a and mx have both prefix lengths
abbrev pub hosts : List ℕ → ℕ → Optional (List ℕ) → ℕ → ℕ → Said
hosts name sign argument n m =
    record { name = name; sign = present sign; argument = argument; address = absent; four = present n; six = present m }

-- a network has its address and its family's prefix length
abbrev pub network4 : List ℕ → ℕ → List ℕ → Address → ℕ → Said
network4 name sign text a n =
    record { name = name; sign = present sign; argument = present text; address = present a; four = present n; six = absent }

abbrev pub network6 : List ℕ → ℕ → List ℕ → Address → ℕ → Said
network6 name sign text a n =
    record { name = name; sign = present sign; argument = present text; address = present a; four = absent; six = present n }

-- a modifier has its argument and no other part
abbrev pub modifier : List ℕ → List ℕ → Said
modifier name argument = record { name = name; sign = absent; argument = present argument; address = absent; four = absent; six = absent }
