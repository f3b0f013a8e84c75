-- Records as the code reads them. The laws say that this is what the productions make. 32 has here the place of the term's first byte; Beginnings has
-- the place that W-201 wants of it.
use Rattle.records.specs.declared.Reason.{Reason}
use Rattle.std.specs.Prelude.{◌≡◌, ℕ, zero, suc, ◌+◌, List, [], ◌∷◌, Bool, true, false, cond, ◌&&◌, ◌||◌, length, ltb, eqb, None, Option, Some, Ok, Err}
use Rattle.address.specs.declared.Address.{Address}
use Rattle.text.specs.Bytes.{at, part, is_alpha}
use Rattle.text.specs.Lists.{same_word}
use Rattle.text.specs.Texts.{bytes}
use Rattle.text.specs.Runs.{is_in, run_end, trailing_start}
use Rattle.text.specs.declared.bytes.Class.TheVariants.{Space, NotSpace, NotSlash, Digit, LengthByte, NameByte}
use Rattle.macros.specs.declared.Form.TheVariants.{DomainSpec, ModifierValue}
use Rattle.macros.specs.Reader.{is_macro_string}
use Rattle.networks.specs.Reader.{on_length, read_ip4, read_length4, read_length6, read_dual}
use Rattle.networks.specs.Reader6.{read_ip6}
use Rattle.networks.specs.declared.Lengths.{Lengths}
use Rattle.records.specs.Grammar.{sign_plus, is_qualifier}
use Rattle.records.specs.declared.terms.Kind.{Kind}
use Rattle.records.specs.declared.terms.Hosts.{Hosts}
use Rattle.records.specs.Readings.{Placed}
use Rattle.records.specs.Numbers.{end, term, term_report, TermAnswer, RecordAnswer, term_at, refusal}
use Rattle.records.specs.Answers.{most_bytes}
use Rattle.records.specs.declared.Term.{Term}

-- which mechanism a name is, in either case of its letters; first where it is none of the first five
unfoldable pub later_kind : List ℕ → Option Kind
later_kind name =
    cond (same_word name (bytes "ip4")) (Some Kind.Ip4)
    (cond (same_word name (bytes "ip6")) (Some Kind.Ip6)
    (cond (same_word name (bytes "exists")) (Some Kind.Exists) None))

unfoldable pub kind_of : List ℕ → Option Kind
kind_of name =
    cond (same_word name (bytes "all")) (Some Kind.All)
    (cond (same_word name (bytes "include")) (Some Kind.Include)
    (cond (same_word name (bytes "a")) (Some Kind.A)
    (cond (same_word name (bytes "mx")) (Some Kind.Mx)
    (cond (same_word name (bytes "ptr")) (Some Kind.Ptr) (later_kind name)))))

-- [ ":" domain-spec ] from a place k up to another: where the domain-spec begins, absent, or neither
unfoldable pub spec_at : List ℕ → ℕ → ℕ → Option (Option ℕ)
spec_at w k to =
    cond (eqb k to) (Some None)
    (cond (eqb (at w k) 58)
    (cond (is_macro_string DomainSpec (part w (k + 1) to)) (Some (Some (k + 1))) None)
    None)

-- what is made of a part that was read, or of its absence
abbrev pub after_spec : {A : Type 0} → Option (Option ℕ) → (ℕ → A) → A → A → A
after_spec (Some (Some from)) f x y = f from
after_spec (Some None) f x y = x
after_spec None f x y = y

abbrev pub after_dual : {A : Type 0} → Option Lengths → (ℕ → ℕ → A) → A → A
after_dual (Some d) f x = f d.four d.six
after_dual None f x = x

abbrev pub after_network : {A : Type 0} → Option Address → (Address → A) → A → A
after_network (Some a) f x = f a
after_network None f x = x

-- the domain-spec and the prefix lengths of an `a` or `mx` term
abbrev pub hosts_of : ℕ → ℕ → ℕ → ℕ → Hosts
hosts_of from to n m = record { domain = record { from = from; to = to }; lengths = record { four = n; six = m } }

abbrev pub after_hosts : {A : Type 0} → Option Hosts → (ℕ → ℕ → ℕ → ℕ → A) → A → A
after_hosts (Some h) f x = f h.domain.from h.domain.to h.lengths.four h.lengths.six
after_hosts None f x = x

-- each mechanism, with its name up to k
unfoldable pub all_of : ℕ → ℕ → List ℕ → Option Term
all_of sign k w = cond (eqb k (length w)) (Some (Term.All sign)) None

-- include and exists: ":" domain-spec
unfoldable pub with_spec : (ℕ → ℕ → Term) → ℕ → List ℕ → Option Term
with_spec of k w = after_spec (spec_at w k (length w)) (λ from. Some (of from (length w))) None None

abbrev pub include_of : ℕ → ℕ → List ℕ → Option Term
include_of sign = with_spec (Term.Include sign)

abbrev pub exists_of : ℕ → ℕ → List ℕ → Option Term
exists_of sign = with_spec (Term.Exists sign)

unfoldable pub ptr_of : ℕ → ℕ → List ℕ → Option Term
ptr_of sign k w =
    after_spec (spec_at w k (length w)) (λ from. Some (Term.Ptr sign from (length w))) (Some (Term.Ptr sign (length w) (length w))) None

-- where the prefix lengths of an a or mx begin, after its name: at the first slash of the trailing run of digits and slashes
unfoldable pub cut_of : List ℕ → ℕ
cut_of t = run_end (is_in Digit) t (trailing_start (is_in LengthByte) t)

-- [ ":" domain-spec ] up to the cut, and the lengths from there on
unfoldable pub hosts_cut : List ℕ → ℕ → ℕ → Option Hosts
hosts_cut w k cut =
    after_dual (read_dual (part w cut (length w)))
    (λ n m. after_spec (spec_at w k cut) (λ from. Some (hosts_of from cut n m)) (Some (hosts_of cut cut n m)) None)
    None

-- [ ":" domain-spec ] [ dual-cidr-length ], with the name up to k
unfoldable pub hosts_at : List ℕ → ℕ → Option Hosts
hosts_at w k = hosts_cut w k (k + cut_of (part w k (length w)))

unfoldable pub with_hosts : (ℕ → ℕ → ℕ → ℕ → Term) → ℕ → List ℕ → Option Term
with_hosts of k w = after_hosts (hosts_at w k) (λ from to n m. Some (of from to n m)) None

abbrev pub a_of : ℕ → ℕ → List ℕ → Option Term
a_of sign = with_hosts (Term.A sign)

abbrev pub mx_of : ℕ → ℕ → List ℕ → Option Term
mx_of sign = with_hosts (Term.Mx sign)

-- the term of a network and its length, as they were read; the network's text stands from one place up to another
unfoldable pub network_term : ℕ → ℕ → ℕ → Option Address → Option ℕ → Option Term
network_term sign from to network size =
    after_network network (λ x. on_length size (λ n. Some (Term.Network sign from to x n)) None) None

-- ":" network [ length ], the network up to the first slash, by a family's readers
unfoldable pub network_cut : (List ℕ → Option Address) → (List ℕ → Option ℕ) → ℕ → ℕ → List ℕ → ℕ → Option Term
network_cut read size sign from w slash = network_term sign from slash (read (part w from slash)) (size (part w slash (length w)))

unfoldable pub network_by : (List ℕ → Option Address) → (List ℕ → Option ℕ) → ℕ → ℕ → List ℕ → Option Term
network_by read size sign k w = cond (eqb (at w k) 58) (network_cut read size sign (k + 1) w (run_end (is_in NotSlash) w (k + 1))) None

abbrev pub ip4_of : ℕ → ℕ → List ℕ → Option Term
ip4_of = network_by read_ip4 read_length4

abbrev pub ip6_of : ℕ → ℕ → List ℕ → Option Term
ip6_of = network_by read_ip6 read_length6

-- a mechanism of a kind
unfoldable pub mechanism_by : Option Kind → ℕ → ℕ → List ℕ → Option Term
mechanism_by (Some Kind.All) sign k w = all_of sign k w
mechanism_by (Some Kind.Include) sign k w = include_of sign k w
mechanism_by (Some Kind.A) sign k w = a_of sign k w
mechanism_by (Some Kind.Mx) sign k w = mx_of sign k w
mechanism_by (Some Kind.Ptr) sign k w = ptr_of sign k w
mechanism_by (Some Kind.Ip4) sign k w = ip4_of sign k w
mechanism_by (Some Kind.Ip6) sign k w = ip6_of sign k w
mechanism_by (Some Kind.Exists) sign k w = exists_of sign k w
mechanism_by None sign k w = None

-- a mechanism whose name begins at i: the name is the longest run of name bytes
unfoldable pub mechanism_of : ℕ → ℕ → List ℕ → Option Term
mechanism_of sign i w = mechanism_by (kind_of (part w i (run_end (is_in NameByte) w i))) sign (run_end (is_in NameByte) w i) w

-- a modifier, with its name up to k, where `=` stands
unfoldable pub modifier_of : ℕ → List ℕ → Option Term
modifier_of k w =
    cond (is_alpha (at w 0))
    (cond (same_word (part w 0 k) (bytes "redirect"))
    (cond (is_macro_string DomainSpec (part w (k + 1) (length w))) (Some (Term.Redirect (k + 1) (length w))) None)
    (cond (same_word (part w 0 k) (bytes "exp"))
    (cond (is_macro_string DomainSpec (part w (k + 1) (length w))) (Some (Term.Explanation (k + 1) (length w))) None)
    (cond (is_macro_string ModifierValue (part w (k + 1) (length w))) (Some (Term.Unknown k (length w))) None)))
    None

-- the sign of a term, and where its name begins, by its first byte
unfoldable pub sign_by : ℕ → ℕ
sign_by b = cond (is_qualifier b) b sign_plus

unfoldable pub name_by : ℕ → ℕ
name_by b = cond (is_qualifier b) 1 0

-- a run of non-spaces as a term
unfoldable pub token_of : List ℕ → Option Term
token_of w =
    cond (is_qualifier (at w 0)) (mechanism_of (at w 0) 1 w)
    (cond (eqb (at w (run_end (is_in NameByte) w 0)) 61) (modifier_of (run_end (is_in NameByte) w 0) w) (mechanism_of sign_plus 0 w))

-- the term at a place where no space stands
unfoldable pub token_answer : ℕ → ℕ → Option Term → TermAnswer
token_answer p e (Some t) = term_at p e t
token_answer p e None = Err (refusal Reason.Outside p)

unfoldable pub term_from : List ℕ → ℕ → TermAnswer
term_from s p =
    cond (eqb p (length s)) (Ok None)
    (token_answer p (run_end (is_in NotSpace) s p) (token_of (part s p (run_end (is_in NotSpace) s p))))

-- reading one term
unfoldable pub read_term : List ℕ → ℕ → TermAnswer
read_term s i =
    cond (ltb most_bytes (length s)) (Err (refusal Reason.TooLong 0))
    (cond (ltb (length s) i) (Err (refusal Reason.Beyond i)) (term_from s (run_end (is_in Space) s i)))

-- whether a term is a redirect, and whether it is an exp
unfoldable pub is_redirect : Term → Bool
is_redirect (Term.Redirect from to) = true
is_redirect (Term.All sign) = false
is_redirect (Term.Include sign from to) = false
is_redirect (Term.A sign from to n m) = false
is_redirect (Term.Mx sign from to n m) = false
is_redirect (Term.Ptr sign from to) = false
is_redirect (Term.Network sign from to x n) = false
is_redirect (Term.Exists sign from to) = false
is_redirect (Term.Explanation from to) = false
is_redirect (Term.Unknown name to) = false

unfoldable pub is_explanation : Term → Bool
is_explanation (Term.Explanation from to) = true
is_explanation (Term.All sign) = false
is_explanation (Term.Include sign from to) = false
is_explanation (Term.A sign from to n m) = false
is_explanation (Term.Mx sign from to n m) = false
is_explanation (Term.Ptr sign from to) = false
is_explanation (Term.Network sign from to x n) = false
is_explanation (Term.Exists sign from to) = false
is_explanation (Term.Redirect from to) = false
is_explanation (Term.Unknown name to) = false

-- the place just after the version
abbrev pub after_version : ℕ
after_version = length (bytes "v=spf1")

-- the record from a place on, with what has stood before it
unfoldable pub check_after : Bool → Bool → TermAnswer → (ℕ → Bool → Bool → RecordAnswer) → RecordAnswer
check_after r e (Ok None) rest = Ok after_version
check_after r e (Err x) rest = Err x
check_after r e (Ok (Some t)) rest =
    cond ((r && is_redirect t.term) || (e && is_explanation t.term)) (Err (refusal Reason.Repeated t.at))
    (rest t.next (r || is_redirect t.term) (e || is_explanation t.term))

unfoldable pub check_from : ℕ → List ℕ → ℕ → Bool → Bool → RecordAnswer
check_from zero s i r e = Err (refusal Reason.Outside i)
check_from (suc f) s i r e = check_after r e (read_term s i) (check_from f s)

-- whether the version section stands at the front
unfoldable pub has_version : List ℕ → Bool
has_version s = same_word (part s 0 after_version) (bytes "v=spf1") && (eqb (length s) after_version || eqb (at s after_version) 32)

-- reading a record
unfoldable pub read_record : List ℕ → RecordAnswer
read_record s =
    cond (ltb most_bytes (length s)) (Err (refusal Reason.TooLong 0))
    (cond (has_version s) (check_from (suc (length s)) s after_version false false) (Err (refusal Reason.NoVersion 0)))

-- term after term, each from the last one's next place, and then the end
pub data Reads (s : List ℕ) : ℕ → List Placed → Type 0 where
  stop : {i : ℕ} → term_report s (read_term s i) ≡ end → Reads s i []
  step : {i next : ℕ} {t : Placed} {ts : List Placed} → term_report s (read_term s i) ≡ term next t → Reads s next ts → Reads s i (t ∷ ts)
