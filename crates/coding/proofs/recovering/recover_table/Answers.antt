-- `coding::recovering::recover_table` meets its contract. Assumes nothing.
use mathlib.Core.Path.{sym}
use native.Mathlib.Omega.{arith}
use Rattle.code.specs.View.{node_set_of}
use Rattle.coding.proofs.Lowest.{lowest-count, lowest-nodes, lowest-rising, lowest-held, lowest-restored}
use Rattle.coding.proofs.recovering.recover_table.Goals as goal

pub slice_bounds-recover_all-end : goal.slice_bounds-recover_all-end
slice_bounds-recover_all-end c = let s = node_set_of c.args.set in
    let r = c.members-members.result in
    let k = c.args.k in
    let pre = c.requires in
    sym (lowest-count s r c.members-members.ensures k pre.1 pre.0 (omega arith))

pub recover_all-requires : goal.recover_all-requires
recover_all-requires c = let s = node_set_of c.args.set in
    let r = c.members-members.result in
    let k = c.args.k in
    let pre = c.requires in
    let at_set = lowest-held s r c.members-members.ensures k pre.1 pre.0 (omega arith) c.args.b c.args.blocks.now pre.5 in
    (pre.2, pre.3, lowest-nodes s r c.members-members.ensures k pre.1 pre.0 (omega arith), lowest-rising s r c.members-members.ensures k pre.1 pre.0 (omega arith), at_set, pre.4)

pub returns : goal.returns
returns c = let s = node_set_of c.args.set in
    let r = c.members-members.result in
    let k = c.args.k in
    let pre = c.requires in
    rw c.recover_all.ensures (lowest-restored s r c.members-members.ensures k pre.1 pre.0 (omega arith) c.args.m c.args.b c.args.blocks.now)
