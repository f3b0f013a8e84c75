-- Sets of bytes: those of two ranges, and those below 128 whose bit is set.
use Rattle.std.specs.Prelude.{ℕ, ◌-◌, ◌/◌, ◌%◌, ◌^◌, ◌<◌, ◌≡◌, Bool, false, cond, ◌||◌, ltb, eqb}
use Rattle.text.specs.Bytes.{within}
use Rattle.text.specs.Runs.{is_in}
use Rattle.text.specs.declared.bytes.Class.{Class}
use Rattle.text.specs.declared.bytes.ByteSet.{ByteSet}

-- the set of these two ranges and bitmaps
abbrev pub byte_set : ℕ → ℕ → ℕ → ℕ → ℕ → ℕ → ByteSet
byte_set first last from to low high = record { first = first; last = last; from = from; to = to; low = low; high = high }

-- whether a byte's bit is set: bit n of the first for byte n, bit n of the second for byte 64 + n
unfoldable pub has_bit : ℕ → ℕ → ℕ → Bool
has_bit low high b = cond (ltb b 64) (eqb (low / 2 ^ b % 2) 1) (cond (ltb b 128) (eqb (high / 2 ^ (b - 64) % 2) 1) false)

-- whether a byte is of a set
unfoldable pub in_set : ByteSet → ℕ → Bool
in_set s b = within s.first s.last b || (within s.from s.to b || has_bit s.low s.high b)

-- the set holds the bytes of the class, and no others
abbrev pub Holds : Class → ByteSet → Type 0
Holds class s = (b : ℕ) → b < 256 → in_set s b ≡ is_in class b
