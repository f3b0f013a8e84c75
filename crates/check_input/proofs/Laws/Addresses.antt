-- An address that a text writes has at most 45 bytes: eight groups of at most four digits, of which the last two may be an IPv4 address of at most
-- 15. From the productions of `networks`.
use Rattle.std.proofs.Common.{None, Option, Some}
use Prim.Native.Nat.{ℕ, ◌+◌, ◌*◌, ◌≤◌, ◌<◌}
use mathlib.Core.Path.{◌≡◌, refl}
use mathlib.Core.List.{List}
use mathlib.Core.Bool.{true, false}
use native.Mathlib.Omega.{arith}
use lib.ListN.{length, length-append}
use Rattle.text.proofs.Laws.Classes.{within_range}
use Rattle.address.specs.declared.Address.{Address}
use Rattle.networks.specs.Grammar.{Qnum, units, tens, hundred, two_hundred, two_fifty, Ip4Network, octets, Group, digits, Row, Side, nothing, row, Ip6Network, full, short, Network4, Network6}
use Rattle.networks.specs.Answers.{AddressText, four, six}
use Rattle.networks.specs.Reader6.{read_address}
use Rattle.networks.proofs.Laws.Addresses.{address_sound}

qnum_length : {w : List ℕ} {v : ℕ} → Qnum w v → length w ≤ 3
qnum_length (units a) = omega arith
qnum_length (tens a b) = omega arith
qnum_length (hundred b c) = omega arith
qnum_length (two_hundred b c) = omega arith
qnum_length (two_fifty c) = omega arith

ip4_length : {w os : List ℕ} → Ip4Network w os → length w ≤ 15
ip4_length (octets p q r s) = simp length-append (omega (arith, qnum_length p, qnum_length q, qnum_length r, qnum_length s))

group_length : {w : List ℕ} {g : ℕ} → Group w g → length w ≤ 4
group_length (digits {w = w} h a) = (within_range 1 4 (length w) h).1

-- each group has a colon before or after it; an IPv4 tail has 5 bytes more than two groups
row_length : {w gs : List ℕ} → Row true w gs → length w ≤ 5 * length gs + 5
row_length (Row.one g) = omega (arith, group_length g)
row_length (Row.tail n) = omega (arith, ip4_length n)
row_length (Row.more g r) = simp length-append (omega (arith, group_length g, row_length r))

groups_length : {w gs : List ℕ} → Row false w gs → length w ≤ 5 * length gs
groups_length (Row.one g) = omega (arith, group_length g)
groups_length (Row.more g r) = simp length-append (omega (arith, group_length g, groups_length r))

left_length : {w gs : List ℕ} → Side false w gs → length w ≤ 5 * length gs
left_length nothing = omega arith
left_length (row r) = groups_length r

right_length : {w gs : List ℕ} → Side true w gs → length w ≤ 5 * length gs + 5
right_length nothing = omega arith
right_length (row r) = row_length r

ip6_length : {w gs : List ℕ} → Ip6Network w gs → length w ≤ 45
ip6_length (full r e) = omega (arith, row_length r, e)
ip6_length (short a b h) = simp length-append (omega (arith, left_length a, right_length b, h))

address_length : {w : List ℕ} {a : Address} → AddressText w a → length w ≤ 45
address_length (four (Network4.of_octets n)) = omega (arith, ip4_length n)
address_length (six (Network6.of_groups n)) = ip6_length n

pub long_none : (s : List ℕ) → 45 < length s → read_address s ≡ None
long_none s h = by (read_address s) refl
  where
    by : (x : Option Address) → read_address s ≡ x → x ≡ None
    by (Some a) e = let l = address_length (address_sound s a e) in absurd (omega arith)
    by None e = refl
