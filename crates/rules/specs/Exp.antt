-- Where the exp argument of a domain's record stands in a table, by the productions of the table and of the record. W-203 amends the house rules: "the
-- place and length of its exp argument in the table, or 0 for both where it has none". No reader is named; a domain has at most one (`exp_one`,
-- proofs/Laws/Exp.antt).
use Rattle.std.specs.Prelude.{ℕ, ◌+◌, ◌≤◌, ◌≡◌, List, ◌∷◌, ◌++◌, length}
use Rattle.text.specs.Texts.{bytes}
use Rattle.answer_table.specs.Layout.{Entry, kind_txt}
use Rattle.answer_table.specs.Answers.{Encoded}
use Rattle.answer_table.specs.Standing.{ItemAt}
use Rattle.records.specs.Readings.{Optional, absent, present, Placed}
use Rattle.records.specs.Grammar.{Record}
use Rattle.records.specs.Answers.{most_bytes}
use Rattle.rules.specs.Tables.{table_of}
use Rattle.rules.specs.Reached.{Selects}

-- the argument x of the exp of a record s stands at the byte p of s: a term of the reading is named exp, and x follows "exp="
pub record ExpIn (s : List ℕ) (p : ℕ) (x : List ℕ) : Type 0 where
  pub before : List Placed
  pub term : Placed
  pub after : List Placed
  pub reading : Record s (before ++ (term ∷ after))
  pub named : term.said.name ≡ bytes "exp"
  pub argument : term.said.argument ≡ present x
  pub place : p ≡ term.place + length (bytes "exp=")

-- "the exp argument of an accepted record selected for that domain": x stands at the byte p of the table t. The text is the one that is selected for the
-- domain d; it is accepted, which is to say that it has at most 4,096 bytes and the productions produce it; it stands in the table, and x stands in it.
pub record ExpAt (t d : List ℕ) (p : ℕ) (x : List ℕ) : Type 0 where
  pub entries : List Entry
  pub text : List ℕ
  pub text_place : ℕ
  pub exp_place : ℕ
  pub encoded : Encoded t entries
  pub selected : Selects (table_of entries) d text
  pub short : length text ≤ most_bytes
  pub stands : ItemAt t kind_txt d text text_place
  pub exp : ExpIn text exp_place x
  pub place : p ≡ text_place + exp_place

-- the place and length of an exp argument of the domain d's record, "or 0 for both where it has none"
pub data ExpOf (t d : List ℕ) : Optional (List ℕ) → ℕ → ℕ → Type 0 where
  without : ExpOf t d absent 0 0
  with_exp : {x : List ℕ} {p : ℕ} → ExpAt t d p x → ExpOf t d (present x) p (length x)
