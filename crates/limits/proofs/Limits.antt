-- What the limits say of the sizes, and of a table that fits them. Assumes nothing.
use mathlib.Core.Path.{◌≡◌}
use mathlib.Core.Bool.{true, ◌&&◌}
use mathlib.Core.List.{List}
use Prim.Native.Nat.{ℕ, ◌+◌, ◌-◌, ◌*◌, ◌≤◌}
use native.Mathlib.Omega.{arith}
use lib.Dec.{eqb, leb}
use lib.ListN.{length}
use borrow.Author.Tests.{le-leb, leb-true, eqb-true}
use Rattle.basics.proofs.Tests.{and_left, and_right}
use Rattle.blocks.proofs.Parts.{block-fits}
use Rattle.code.specs.Code.{code_sizes}
use Rattle.code.proofs.Sizes as Code
use Rattle.code.proofs.Sizes.{sizes-of}
use Rattle.records.specs.declared.Sizes.{Sizes}
use Rattle.records.specs.Sizes.{sizes_within, is_node, is_position}

pub code-sizes : (z : Sizes) → sizes_within z ≡ true → Code.Sizes z.k z.n z.b
unfolding sizes_within
code-sizes z e = sizes-of z.k z.n z.b (and_left (code_sizes z.k z.n z.b) _ e)

pub clients-few : (z : Sizes) → sizes_within z ≡ true → z.m ≤ 8
unfolding sizes_within
clients-few z e = search (and_right, leb-true)

-- of a number from 1 to m, and of the block with that number in a table of m blocks
pub range-low : (m j : ℕ) → (leb 1 j && leb j m) ≡ true → 1 ≤ j
range-low m j e = leb-true 1 j (and_left (leb 1 j) (leb j m) e)

pub block_in_lem : (m b j : ℕ) (t : List ℕ) → (leb 1 j && leb j m) ≡ true → eqb (length t) (m * b) ≡ true → (j - 1) * b + b ≤ length t
block_in_lem m b j t e fits =
    let size = eqb-true (length t) (m * b) fits in
    omega (arith, block-fits j m b (range-low m j e) (leb-true j m (and_right (leb 1 j) (leb j m) e)))

-- a data node is a node
pub position-node : (z : Sizes) (i : ℕ) → sizes_within z ≡ true → is_position z i ≡ true → is_node z i ≡ true
position-node z i within e =
    let sizes = code-sizes z within in
    let high = leb-true i z.k (and_right (leb 1 i) _ e) in
    rw (and_left (leb 1 i) _ e, le-leb i z.n (omega arith))
