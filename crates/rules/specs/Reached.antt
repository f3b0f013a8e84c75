-- Which checks an evaluation comes to, which text a check selects, and when a text is outside the grammar: what demand 3's last part is said in. These go
-- by the table's answers alone and don't mention the result.
use Rattle.std.specs.Prelude.{ℕ, ◌≤◌, ◌<◌, ◌≡◌, List, [], ◌∷◌, length}
use Rattle.text.specs.Texts.{bytes}
use Rattle.domain.specs.Names.{label_count}
use Rattle.domain.specs.Normal.{Naming, name}
use Rattle.answer_table.specs.Layout.{kind_txt}
use Rattle.records.specs.Readings.{present, Placed}
use Rattle.records.specs.Grammar.{Record}
use Rattle.records.specs.Answers.{most_bytes, Version}
use Rattle.rules.specs.declared.Counts.{Counts}
use Rattle.rules.specs.Tree.{items, Table, Has, SettlesTo}
use Rattle.rules.specs.Mechanisms.{Mail, no, target, most_lookups, begun}
use Rattle.rules.specs.Evaluation.{Sub, term_step, modifier_of, whole}

-- the texts of a domain: those of its TXT question. W-207 amends the house rules: "Record lookup now uses TXT alone"
abbrev pub Texts : Table → List ℕ → List (List ℕ) → Type 0
Texts t d ss = Has t kind_txt d (items ss)

-- a text "with a version section", by the production
abbrev pub WithVersion : List ℕ → Type 0
WithVersion s = (v rest : List ℕ) × Version s v rest

-- none of some texts has one
pub data NoneWithVersion : List (List ℕ) → Type 0 where
  none : NoneWithVersion []
  besides : {u : List ℕ} {ss : List (List ℕ)} → (WithVersion u → ⊥) → NoneWithVersion ss → NoneWithVersion (u ∷ ss)

-- exactly one of some texts has one: the first and no later one, or the single one of those after the first
pub data Single : List (List ℕ) → List ℕ → Type 0 where
  first : {s : List ℕ} {ss : List (List ℕ)} → WithVersion s → NoneWithVersion ss → Single (s ∷ ss) s
  later : {s u : List ℕ} {ss : List (List ℕ)} → (WithVersion u → ⊥) → Single ss s → Single (u ∷ ss) s

-- the check of a domain of more than one label selects a text: "Of the texts with a version section .. a single one is selected". It is
-- what record lookup does (`selects_is`, proofs/Laws/Produced.antt)
pub data Selects (t : Table) (d s : List ℕ) : Type 0 where
  only : {ss : List (List ℕ)} → 1 < label_count d → Texts t d ss → Single ss s → Selects t d s

-- Trying the terms of a record of the domain d, from the counts c on, comes to the check of a domain: each term before gives no match and hands on
-- its counts; the term is an include that is begun, or none is left and the record has a redirect that is begun; and its target is a name.
pub data Begins (t : Table) (mail : Mail) (sub : Sub) (d : List ℕ) (all_terms : List Placed) : List Placed → Counts → List ℕ → Counts → Type 0 where
  past_term : {x : Placed} {ts : List Placed} {c l k : Counts} {e : List ℕ}
      → SettlesTo t (term_step mail sub d x.said x.said.sign c) (record { match = no; counts = l })
      → Begins t mail sub d all_terms ts l e k → Begins t mail sub d all_terms (x ∷ ts) c e k
  by_include : {x : Placed} {ts : List Placed} {c : Counts} {e spec : List ℕ} {sign : ℕ}
      → x.said.name ≡ bytes "include" → x.said.sign ≡ present sign → x.said.argument ≡ present spec
      → c.lookups < most_lookups → SettlesTo t (target mail d spec (begun c)) (name e)
      → Begins t mail sub d all_terms (x ∷ ts) c e (begun c)
  by_redirect : {c : Counts} {e spec : List ℕ}
      → modifier_of (bytes "redirect") all_terms ≡ present spec
      → c.lookups < most_lookups → SettlesTo t (target mail d spec (begun c)) (name e)
      → Begins t mail sub d all_terms [] c e (begun c)

-- The check of a domain from the counts c on comes to the check of the domain e with the counts k: it is that check; or it selects a record of the
-- grammar, and trying the terms of its reading begins a check that comes to it. No check is left out (`all_listed`, proofs/Laws/Listed.antt).
pub data Reaches (t : Table) (mail : Mail) : Naming → Counts → List ℕ → Counts → Type 0 where
  here : {d : List ℕ} {c : Counts} → Reaches t mail (name d) c d c
  below : {d s x e : List ℕ} {ts : List Placed} {c l k : Counts}
      → Selects t d s → length s ≤ most_bytes → Record s ts → Begins t mail (whole mail) d ts ts c x l
      → Reaches t mail (name x) l e k → Reaches t mail (name d) c e k

-- A text is outside the grammar: it is over 4,096 bytes, or the productions make no reading of it.
pub data Outside (s : List ℕ) : Type 0 where
  too_long : most_bytes < length s → Outside s
  unproduced : ((ts : List Placed) → Record s ts → ⊥) → Outside s
