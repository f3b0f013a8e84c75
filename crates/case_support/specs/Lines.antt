-- What is promised of a line that was read into a lent buffer; which bytes they are is up to the input.
use Rattle.std.specs.Prelude.{ℕ, ◌≤◌, ◌≡◌, List, length, drop, None, Option, Some}

-- a line fits the buffer, whose bytes behind it are kept; at the end of the input all are
unfoldable pub LineRead : Option ℕ → (before after : List ℕ) → Type 0
LineRead (Some n) before after = (n ≤ length before) × (drop n after ≡ drop n before)
LineRead None before after = after ≡ before
