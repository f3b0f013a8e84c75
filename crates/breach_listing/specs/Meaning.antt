-- What `ok` means: it is printed of just those names and records that may be published. No reader is named.
use Rattle.std.specs.Prelude.{ℕ, ◌≤◌, List, ◌↔◌, length}
use Rattle.text.specs.Texts.{bytes}
use Rattle.records.specs.Readings.{Placed}
use Rattle.records.specs.Grammar.{Record}
use Rattle.publishing.specs.Listing.{most_name}
use Rattle.publishing.specs.Desk.{Publishable}
use Rattle.breach_listing.specs.Lines.{Prints}

-- a record that is read, and that may be published at a name
pub record MayGoOut (domain s : List ℕ) : Type 0 where
  pub name_fits : length domain ≤ most_name
  pub terms : List Placed
  pub reading : Record s terms
  pub may : Publishable terms (length s) (length domain)

abbrev pub OkMeans : List ℕ → List ℕ → Type 0
OkMeans domain s = Prints domain s (bytes "ok\n") ↔ MayGoOut domain s
