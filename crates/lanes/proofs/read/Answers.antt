-- `lanes::read` meets its contract: the bytes that are there, or sixteen of them. Assumes nothing.
use native.Mathlib.Nat.{add-sub_cancel_left}
use native.Mathlib.Omega.{arith}
use Rattle.blocks.specs.Blocks.{part}
use Rattle.lanes.proofs.Sixteen.{read_some, read_all}
use Rattle.lanes.proofs.read.Goals as goal

pub returns-then-n-lt16 : goal.returns-then-n-lt16
unfolding part
returns-then-n-lt16 c = let args = c.args in
    rw (c.copy_from_slice.ensures.after, add-sub_cancel_left args.a args.n) (read_some args.t.now args.a args.n (omega arith) (omega arith))

pub returns-else-n-lt16 : goal.returns-else-n-lt16
unfolding part
returns-else-n-lt16 c = let args = c.args in
    rw (c.copy_from_slice-else-n-lt16.ensures.after, add-sub_cancel_left args.a 16) (read_all args.t.now args.a args.n (omega arith) (omega arith))
