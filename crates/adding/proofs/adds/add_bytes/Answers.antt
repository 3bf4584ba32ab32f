-- The part of the differences that is lent is the client's block of them. Assumes nothing.
use mathlib.Core.Path.{ap, ap₂}
use mathlib.Core.List.{List}
use Prim.Native.Nat.{ℕ, ◌-◌, ◌*◌}
use native.Mathlib.Nat.{add-sub_cancel_left}
use lib.ListN.{take, drop}
use Rattle.blocks.specs.Blocks.{part, block, set_block, add_times}
use Rattle.adding.proofs.adds.add_bytes.Goals as goal

pub returns : goal.returns
unfolding part
returns c = let a = c.args in
    let start = (a.c - 1) * a.b in
    rw c.add_times_block.ensures
    (ap₂ (λ (x : ℕ) (d : List ℕ). set_block a.b a.j (add_times x (block a.b a.j a.blocks.now) d) a.blocks.now)
    c.coefficient-x.ensures
    (ap (λ (n : ℕ). take n (drop start a.differences.now)) (add-sub_cancel_left start a.b)))
