-- What it is to put text into a buffer. Assumes nothing.
use Rattle.std.specs.Prelude.{◌≡◌, List, ◌++◌, ℕ, ◌+◌, length, take}

-- text at the place at, what stands before it as it was; next is the place after it
pub record Put (before : List ℕ) (at : ℕ) (text : List ℕ) (after : List ℕ) (next : ℕ) : Type 0 where
  pub room : length after ≡ length before
  pub end : next ≡ at + length text
  pub bytes : take next after ≡ take at before ++ text
