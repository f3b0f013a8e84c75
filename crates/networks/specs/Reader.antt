-- Texts as the code reads them. The laws say that this is what the productions write.
use Rattle.std.specs.Prelude.{ℕ, ◌+◌, List, [], ◌∷◌, cond, length, eqb, None, Option, Some}
use Rattle.text.specs.Bytes.{at, part}
use Rattle.text.specs.Decimal.{read_number}
use Rattle.text.specs.Runs.{is_in, run_end}
use Rattle.text.specs.declared.bytes.Class.TheVariants.{Digit}
use Rattle.networks.specs.declared.Front.{Front}
use Rattle.networks.specs.declared.Lengths.{Lengths}
use Rattle.address.specs.Octets.{value_of}
use Rattle.address.specs.declared.Address.TheVariants.{IPv4}
use Rattle.address.specs.declared.Address.{Address}

-- the number that four octets at a place write, with the place after them
abbrev pub front : ℕ → ℕ → Front
front v e = record { value = v; end = e }

-- both prefix lengths of an `a` or `mx` term
abbrev pub lengths : ℕ → ℕ → Lengths
lengths n m = record { four = n; six = m }

-- by cases of what was read
abbrev pub on_number : {A : Type 0} → Option ℕ → (ℕ → A) → A → A
on_number (Some n) f none = f n
on_number None f none = none

abbrev pub on_octet : {A : Type 0} → Option (ℕ × ℕ) → (ℕ → ℕ → A) → A → A
on_octet (Some x) f none = f x.0 x.1
on_octet None f none = none

abbrev pub on_length : {A : Type 0} → Option ℕ → (ℕ → A) → A → A
on_length (Some n) f none = f n
on_length None f none = none

-- the longest run of digits from a place on as a qnum, with the place after it
unfoldable pub octet_at : List ℕ → ℕ → Option (ℕ × ℕ)
octet_at s i = on_number (read_number 255 (part s i (run_end (is_in Digit) s i))) (λ o. Some (o, run_end (is_in Digit) s i)) None

-- "." qnum
unfoldable pub dot_octet_at : List ℕ → ℕ → Option (ℕ × ℕ)
dot_octet_at s i = cond (eqb (at s i) 46) (octet_at s (i + 1)) None

-- four octets joined by dots from a place on: the number that they write, with the place after them
unfoldable pub front_at : List ℕ → ℕ → Option Front
front_at s from =
    on_octet (octet_at s from) (λ a i. on_octet (dot_octet_at s i) (λ b j. on_octet (dot_octet_at s j) (λ c k. on_octet (dot_octet_at s k) (λ d l.
    Some (front (value_of (a ∷ b ∷ c ∷ d ∷ [])) l))
    None) None) None) None

-- the whole text as an ip4-network
unfoldable pub read_ip4 : List ℕ → Option Address
read_ip4 s =
    on_octet (octet_at s 0) (λ a i. on_octet (dot_octet_at s i) (λ b j. on_octet (dot_octet_at s j) (λ c k. on_octet (dot_octet_at s k) (λ d l.
    cond (eqb l (length s)) (Some (IPv4 (value_of (a ∷ b ∷ c ∷ d ∷ [])))) None)
    None) None) None) None

-- "/" and a number up to a limit, the whole text
unfoldable pub slash_number : ℕ → List ℕ → Option ℕ
slash_number limit s = cond (eqb (at s 0) 47) (on_number (read_number limit (part s 1 (length s))) (λ n. Some n) None) None

-- the whole text as a length that may be absent, up to a limit
unfoldable pub read_length : ℕ → List ℕ → Option ℕ
read_length limit s = cond (eqb (length s) 0) (Some limit) (slash_number limit s)

-- the whole text as [ ip4-cidr-length ], and as [ ip6-cidr-length ]
unfoldable pub read_length4 : List ℕ → Option ℕ
read_length4 s = read_length 32 s

unfoldable pub read_length6 : List ℕ → Option ℕ
read_length6 s = read_length 128 s

-- where an ip4-cidr-length at the front ends; 0 where none stands there
unfoldable pub front_end : List ℕ → ℕ
front_end s = cond (is_in Digit (at s 1)) (run_end (is_in Digit) s 1) 0

-- [ "/" ip6-cidr-length ] from a place up to the end
unfoldable pub second_length : List ℕ → ℕ → Option ℕ
second_length s i = cond (eqb i (length s)) (Some 128) (cond (eqb (at s i) 47) (slash_number 128 (part s (i + 1) (length s))) None)

-- the whole text as dual-cidr-length
unfoldable pub read_dual : List ℕ → Option Lengths
read_dual s = on_length (read_length4 (part s 0 (front_end s))) (λ n. on_length (second_length s (front_end s)) (λ m. Some (lengths n m)) None) None
