-- Records as productions: RFC 7208's collected ABNF (its section 12) in the RFC's names, each rule after those that it uses,
-- with the house amendments, which are quoted. Each relates bytes to what they say. Domain-specs and macro-strings are those of `macros`, networks and
-- prefix lengths those of `networks`. Nothing of a reader is imported.
use Rattle.std.specs.Prelude.{ℕ, ◌+◌, ◌≤◌, ◌≡◌, List, [], ◌∷◌, ◌++◌, map, Bool, true, false, cond, ◌||◌, length, eqb}
use Rattle.address.specs.declared.Address.{Address}
use Rattle.text.specs.Bytes.{lower, is_space, is_alpha, is_name_byte}
use Rattle.text.specs.Lists.{all, same, same_word}
use Rattle.text.specs.Texts.{bytes}
use Rattle.macros.specs.declared.Form.TheVariants.{ModifierValue}
use Rattle.macros.specs.Grammar.{Piece, MacroString, DomainSpec}
use Rattle.networks.specs.Grammar.{Network4, Network6, Length4, Length6, DualCidrLength}
use Rattle.records.specs.Readings.{Optional, absent, present, Said, Placed, mechanism, hosts, network4, network6, modifier}

-- a quoted word of the ABNF, in either case of its letters; the given one is in lower case
pub record Literal (word w : List ℕ) : Type 0 where
  pub lowered : map lower w ≡ word

-- [ ":" domain-spec ]
pub data OptionalSpec : List ℕ → Optional (List ℕ) → Type 0 where
  without : OptionalSpec [] absent
  has_spec : {d : List ℕ} {ps : List Piece} → DomainSpec d ps → OptionalSpec (bytes ":" ++ d) (present d)

-- mechanism = ( all / include / a / mx / ptr / ip4 / ip6 / exists ); sign is what stands before it, "`+` if unwritten"
pub data Mechanism (sign : ℕ) : List ℕ → Said → Type 0 where
  -- all = "all"
  all_term : {w : List ℕ} → Literal (bytes "all") w → Mechanism sign w (mechanism (bytes "all") sign absent)
  -- include = "include" ":" domain-spec
  include : {w d : List ℕ} {ps : List Piece} → Literal (bytes "include") w → DomainSpec d ps
      → Mechanism sign (w ++ (bytes ":" ++ d)) (mechanism (bytes "include") sign (present d))
  -- a = "a" [ ":" domain-spec ] [ dual-cidr-length ]
  a : {w u l : List ℕ} {arg : Optional (List ℕ)} {n m : ℕ} → Literal (bytes "a") w → OptionalSpec u arg → DualCidrLength l n m
      → Mechanism sign (w ++ (u ++ l)) (hosts (bytes "a") sign arg n m)
  -- mx = "mx" [ ":" domain-spec ] [ dual-cidr-length ]
  mx : {w u l : List ℕ} {arg : Optional (List ℕ)} {n m : ℕ} → Literal (bytes "mx") w → OptionalSpec u arg → DualCidrLength l n m
      → Mechanism sign (w ++ (u ++ l)) (hosts (bytes "mx") sign arg n m)
  -- ptr = "ptr" [ ":" domain-spec ]
  ptr : {w u : List ℕ} {arg : Optional (List ℕ)} → Literal (bytes "ptr") w → OptionalSpec u arg → Mechanism sign (w ++ u) (mechanism (bytes "ptr") sign arg)
  -- ip4 = "ip4" ":" ip4-network [ ip4-cidr-length ]
  ip4 : {w t l : List ℕ} {x : Address} {n : ℕ} → Literal (bytes "ip4") w → Network4 t x → Length4 l n
      → Mechanism sign (w ++ (bytes ":" ++ (t ++ l))) (network4 (bytes "ip4") sign t x n)
  -- ip6 = "ip6" ":" ip6-network [ ip6-cidr-length ]
  ip6 : {w t l : List ℕ} {x : Address} {n : ℕ} → Literal (bytes "ip6") w → Network6 t x → Length6 l n
      → Mechanism sign (w ++ (bytes ":" ++ (t ++ l))) (network6 (bytes "ip6") sign t x n)
  -- exists = "exists" ":" domain-spec
  exists : {w d : List ℕ} {ps : List Piece} → Literal (bytes "exists") w → DomainSpec d ps
      → Mechanism sign (w ++ (bytes ":" ++ d)) (mechanism (bytes "exists") sign (present d))

-- "+"
abbrev pub sign_plus : ℕ
sign_plus = 43

-- "-"
abbrev pub sign_minus : ℕ
sign_minus = 45

-- "?"
abbrev pub sign_question : ℕ
sign_question = 63

-- "~"
abbrev pub sign_tilde : ℕ
sign_tilde = 126

-- qualifier = "+" / "-" / "?" / "~"
unfoldable pub is_qualifier : ℕ → Bool
is_qualifier b = eqb b sign_plus || (eqb b sign_minus || (eqb b sign_question || eqb b sign_tilde))

-- directive = [ qualifier ] mechanism
pub data Directive : List ℕ → Said → Type 0 where
  unsigned : {w : List ℕ} {x : Said} → Mechanism sign_plus w x → Directive w x
  signed : {q : ℕ} {w : List ℕ} {x : Said} → is_qualifier q ≡ true → Mechanism q w x → Directive (q ∷ w) x

-- name = ALPHA *( ALPHA / DIGIT / "-" / "_" / "." )
pub data Name : List ℕ → Type 0 where
  letters : {b : ℕ} {w : List ℕ} → is_alpha b ≡ true → all is_name_byte w ≡ true → Name (b ∷ w)

-- the known modifiers: "`redirect` and `exp` are never unknown modifiers"
unfoldable pub is_reserved : List ℕ → Bool
is_reserved w = same_word w (bytes "redirect") || same_word w (bytes "exp")

-- modifier = redirect / explanation / unknown-modifier
pub data Modifier : List ℕ → Said → Type 0 where
  -- redirect = "redirect" "=" domain-spec
  redirect : {w d : List ℕ} {ps : List Piece} → Literal (bytes "redirect") w → DomainSpec d ps
      → Modifier (w ++ (bytes "=" ++ d)) (modifier (bytes "redirect") d)
  -- explanation = "exp" "=" domain-spec
  explanation : {w d : List ℕ} {ps : List Piece} → Literal (bytes "exp") w → DomainSpec d ps
      → Modifier (w ++ (bytes "=" ++ d)) (modifier (bytes "exp") d)
  -- unknown-modifier = name "=" macro-string, where name is not any known modifier
  unknown : {w v : List ℕ} {ps : List Piece} → Name w → is_reserved w ≡ false → MacroString ModifierValue v ps
      → Modifier (w ++ (bytes "=" ++ v)) (modifier w v)

-- directive / modifier
pub data TermText : List ℕ → Said → Type 0 where
  directive : {w : List ℕ} {x : Said} → Directive w x → TermText w x
  modifier_term : {w : List ℕ} {x : Said} → Modifier w x → TermText w x

-- terms = *( 1*SP ( directive / modifier ) ), with the *SP that ends a record; the first byte's place is given, and each term has its own
pub data Terms : ℕ → List ℕ → List Placed → Type 0 where
  done : {p : ℕ} {w : List ℕ} → all is_space w ≡ true → Terms p w []
  term : {p : ℕ} (u w : List ℕ) {rest : List ℕ} {x : Said} {ts : List Placed} → all is_space u ≡ true → TermText w x
      → Terms (p + length ((bytes " " ++ u) ++ w)) rest ts
      → Terms p ((bytes " " ++ u) ++ (w ++ rest)) (record { place = p + length (bytes " " ++ u); said = x } ∷ ts)

-- how many terms have a name; no mechanism and no unknown modifier is named redirect or exp
unfoldable pub count_of : List ℕ → List Placed → ℕ
count_of wanted [] = 0
count_of wanted (t ∷ ts) = cond (same t.said.name wanted) 1 0 + count_of wanted ts

-- "`redirect` and `exp` .., and each stands at most once"
pub record Once (ts : List Placed) : Type 0 where
  pub redirects : count_of (bytes "redirect") ts ≤ 1
  pub explanations : count_of (bytes "exp") ts ≤ 1

-- record = version terms *SP
-- version = "v=spf1"
pub data Record : List ℕ → List Placed → Type 0 where
  spf1 : {v rest : List ℕ} {ts : List Placed} → Literal (bytes "v=spf1") v → Terms (length v) rest ts → Once ts → Record (v ++ rest) ts
