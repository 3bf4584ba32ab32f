-- `coding::weights::scale` meets its contract: the data nodes are 1 to k. Assumes nothing.
use mathlib.Core.Path.{sym, ◌∙◌}
use native.Mathlib.Omega.{arith}
use Rattle.coding.proofs.Weighing.{data-length, data-nodes, data-apart, data-past, scale-data, scale-past}
use Rattle.coding.proofs.weights.scale.Goals as goal

pub slice_bounds-span-end : goal.slice_bounds-span-end
slice_bounds-span-end c = sym (data-length c.data_nodes-data.result c.data_nodes-data.ensures c.args.k (omega arith))

pub span-requires : goal.span-requires
span-requires c = let made = c.data_nodes-data in
    let k = c.args.k in
    let many = data-length made.result made.ensures k (omega arith) in
    (c.requires.0, data-nodes made.result made.ensures k (omega arith), omega arith, omega (arith, many), data-past made.result made.ensures k (omega arith) c.args.j (omega arith), omega arith, omega arith)

pub returns-then-k-j : goal.returns-then-k-j
returns-then-k-j c = let made = c.data_nodes-data in
    let args = c.args in
    (c.span.ensures.0 ∙ scale-past made.result made.ensures args.k (omega arith) args.j (omega arith), omega (arith, c.span.ensures.1, c.requires.1))

pub slice_bounds-others-end : goal.slice_bounds-others-end
slice_bounds-others-end c = sym (data-length c.data_nodes-data.result c.data_nodes-data.ensures c.args.k (omega arith))

pub others-requires : goal.others-requires
others-requires c = let made = c.data_nodes-data in
    let k = c.args.k in
    let many = data-length made.result made.ensures k (omega arith) in
    (c.requires.0, data-nodes made.result made.ensures k (omega arith), omega arith, omega (arith, many), data-apart made.result made.ensures k (omega arith) c.args.j, omega arith, omega arith)

pub returns : goal.returns
returns c = let made = c.data_nodes-data in
    let args = c.args in
    (c.others.ensures.0 ∙ scale-data made.result made.ensures args.k (omega arith) args.j, c.others.ensures.1)
