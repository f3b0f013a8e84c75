-- What the house rules mean for those who publish, as plain sentences, and what any answer that meets the call's promise says of them. No reader is
-- named.
use Rattle.std.specs.Prelude.{ℕ, ◌+◌, ◌*◌, ◌≤◌, ◌<◌, ◌≡◌, Ok, List, ◌∷◌, ◌++◌, length}
use Rattle.text.specs.Bytes.{at}
use Rattle.records.specs.Readings.{Placed}
use Rattle.records.specs.Grammar.{Record}
use Rattle.publishing.specs.House.{Some, Among, Mechanism, Ptr, All, Redirect, RedirectOrExp, WithP, PlusAll, Short, SameNetwork, too_many_bytes, Breach}
use Rattle.publishing.specs.Listing.{most_name, HouseAnswers}

-- A record has one end: one `all`, which no mechanism follows, and no redirect; or no `all` and a redirect, of which the grammar allows one.
pub data OneEnd (ts : List Placed) : Type 0 where
  by_all : {before after : List Placed} {t : Placed} → ts ≡ before ++ (t ∷ after) → All t → (Some All before → ⊥) → (Some Mechanism after → ⊥)
      → (Some Redirect ts → ⊥) → OneEnd ts
  by_redirect : (Some All ts → ⊥) → Some Redirect ts → OneEnd ts

-- What may be published, by a record's terms, its length and its name's.
pub record Publishable (ts : List Placed) (size name : ℕ) : Type 0 where
  -- it has no ptr
  pub no_ptr : Some Ptr ts → ⊥
  -- no term has a p macro
  pub no_p : Some WithP ts → ⊥
  -- it has one end
  pub one_end : OneEnd ts
  -- after a redirect or an exp stands nothing but these
  pub modifiers_last : {before : List Placed} {t : Placed} → Among ts before t → Some RedirectOrExp before → RedirectOrExp t
  -- it has no `+all`
  pub no_plus_all : Some PlusAll ts → ⊥
  -- no prefix length is below /8 or /19
  pub no_short : Some Short ts → ⊥
  -- no two networks are the same
  pub networks_differ : {before : List Placed} {t : Placed} → Among ts before t → Some (SameNetwork t) before → ⊥
  -- name and text together have under 450 bytes
  pub fits : name + size < too_many_bytes

-- the k-th listed breach: its rule and its place
abbrev pub rule_at : List ℕ → ℕ → ℕ
rule_at list k = at list (3 * k)

abbrev pub place_at : List ℕ → ℕ → ℕ
place_at list k = at list (3 * k + 1) + 256 * at list (3 * k + 2)

-- of a name and a record, whatever list is lent
pub record Desk (domain s before after : List ℕ) : Type 0 where
  -- where no breach is listed the record may be published
  pub clean : HouseAnswers domain s before after (Ok 0) → (ts : List Placed) → Record s ts → Publishable ts (length s) (length domain)
  -- and one that may be published has none listed, in any list
  pub none_listed : length domain ≤ most_name → (ts : List Placed) → Record s ts → Publishable ts (length s) (length domain)
      → HouseAnswers domain s before before (Ok 0)
  -- each breach that is listed the record really has
  pub really : (n : ℕ) → HouseAnswers domain s before after (Ok n) → (ts : List Placed) → Record s ts → (k : ℕ) → k < n
      → Breach ts (length s) (length domain) (rule_at after k) (place_at after k)
  -- and none that it has is left out
  pub every : (n : ℕ) → HouseAnswers domain s before after (Ok n) → (ts : List Placed) → Record s ts
      → (rule place : ℕ) → Breach ts (length s) (length domain) rule place → (k : ℕ) × ((k < n) × ((rule_at after k ≡ rule) × (place_at after k ≡ place)))
