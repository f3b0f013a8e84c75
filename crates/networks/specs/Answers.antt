-- What each call answers, by the productions: what a text writes, or that nothing writes it.
use Rattle.std.specs.Prelude.{ℕ, List, None, Option, Some}
use Rattle.address.specs.declared.Address.{Address}
use Rattle.networks.specs.declared.Lengths.{Lengths}
use Rattle.networks.specs.Grammar.{Network4, Network6}

-- of a production of addresses
pub data NetworkAnswer (Produced : Address → Type 0) : Option Address → Type 0 where
  is : {a : Address} → Produced a → NetworkAnswer Produced (Some a)
  none : ((a : Address) → Produced a → ⊥) → NetworkAnswer Produced None

-- of a production of one length
pub data LengthAnswer (Produced : ℕ → Type 0) : Option ℕ → Type 0 where
  is : {n : ℕ} → Produced n → LengthAnswer Produced (Some n)
  none : ((n : ℕ) → Produced n → ⊥) → LengthAnswer Produced None

-- of a production of both
pub data DualAnswer (Produced : ℕ → ℕ → Type 0) : Option Lengths → Type 0 where
  are : {n m : ℕ} → Produced n m → DualAnswer Produced (Some (record { four = n; six = m }))
  none : ((n m : ℕ) → Produced n m → ⊥) → DualAnswer Produced None

-- an address written as for ip4 or ip6
pub data AddressText : List ℕ → Address → Type 0 where
  four : {w : List ℕ} {a : Address} → Network4 w a → AddressText w a
  six : {w : List ℕ} {a : Address} → Network6 w a → AddressText w a
