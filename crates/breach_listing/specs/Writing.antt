-- For private functions: what is written of a list's bytes.
use Rattle.std.specs.Prelude.{ℕ, ◌<◌, ◌≡◌, List}
use Rattle.text.specs.Writing.{Wrote, Writes}
use Rattle.text.specs.declared.writing.Writer.{Writer}
use Rattle.publishing.specs.Listing.{Entry, Member, encoded}
use Rattle.breach_listing.specs.Lines.{breach_texts, list_text, Prints}

-- a list is the entries' bytes, and two bytes hold the place of each
pub record Holds (list : List ℕ) (es : List Entry) : Type 0 where
  pub whole : list ≡ encoded es
  pub small : (e : Entry) → Member e es → e.place < 65536

-- what writing the breaches of a list promises, and what writing the same or `ok` does
pub record PutsBreaches (s list : List ℕ) (before after : Writer) : Type 0 where
  pub same : after.out.ghost_name ≡ before.out.ghost_name
  pub by : (es : List Entry) → Holds list es → Wrote (breach_texts s es) before.out.now before.at after.out.now after.at

pub record PutsList (s list : List ℕ) (before after : Writer) : Type 0 where
  pub same : after.out.ghost_name ≡ before.out.ghost_name
  pub by : (es : List Entry) → Holds list es → Wrote (list_text s es) before.out.now before.at after.out.now after.at

-- what is printed of a name and a record was written
pub record Lints (domain s : List ℕ) (before after : Writer) : Type 0 where
  pub text : List ℕ
  pub prints : Prints domain s text
  pub writes : Writes text before after
