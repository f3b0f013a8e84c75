-- What is held of standard input. Which bytes the system hands over is beyond contracts.
use Rattle.std.specs.Prelude.{ℕ, ◌≡◌, List, [], take}
use Rattle.check_input.specs.Keeping.{holding}

-- some chunks were read, and the n bytes at the front of a buffer are what is held of them, one after the other
pub record HoldsChunks (held : List ℕ) (n : ℕ) : Type 0 where
  pub chunks : List (List ℕ)
  pub front : take n held ≡ holding [] chunks
