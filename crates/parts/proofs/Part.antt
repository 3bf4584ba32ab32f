-- A part of a list by its range. Assumes nothing.
--     Within      a part lies in a list of that length
--     counts      how many elements it has
--     paste_in    the list with others in the place of the part
use mathlib.Core.Path.{◌≡◌, sym}
use mathlib.Core.List.{List}
use Prim.Native.Nat.{ℕ, ◌-◌, ◌≤◌}
use native.Mathlib.Omega.{arith}
use lib.ListN.{length}
use borrow.Rule.Slice.PartMut.{mid_len}
use Rattle.parts.specs.Inside.{Range, part_in, paste}

pub record Within (p : Range) (n : ℕ) : Type 0 where
  pub order : p.first ≤ p.end
  pub fits : p.end ≤ n

pub begins : {p : Range} {n : ℕ} → Within p n → p.first ≤ n
begins in-it = omega (arith, in-it.order, in-it.fits)

pub counts : {X : Type 0} (p : Range) (xs : List X) → Within p (length xs) → p.end - p.first ≡ length (part_in p xs)
counts p xs in-it = sym (mid_len p.first p.end xs in-it.fits)

-- the list with ms in the place of the part
abbrev pub paste_in : {X : Type 0} → Range → List X → List X → List X
paste_in p xs ms = paste p.first p.end xs ms
