-- The pieces of an explanation, as Evaluation has them.
use Rattle.std.specs.Prelude.{ℕ, ◌≡◌, List, [], cond, length}
use Rattle.text.specs.Bytes.{is_printable}
use Rattle.text.specs.Lists.{all}
use Rattle.text.specs.Writing.{overwritten}

-- a text at the front of a buffer, and its length
pub record WritesShown (s : List ℕ) (n : ℕ) (before after : List ℕ) : Type 0 where
  pub size : n ≡ length s
  pub buffer : after ≡ overwritten s before

-- a text whose bytes are all 32 to 126, otherwise none
unfoldable pub printed : List ℕ → List ℕ
printed s = cond (all is_printable s) s []
