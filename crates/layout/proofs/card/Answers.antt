-- By the test of the node. Assumes nothing.
use borrow.Author.Rules.{rules}
use Rattle.layout.proofs.Ranges.{byte, next-byte, some, below, is_one_lem, no-card, card-in}
use Rattle.layout.proofs.card.Goals as goal

pub returns-then-not-is_one_of : goal.returns-then-not-is_one_of
returns-then-not-is_one_of c = let a = c.args in no-card a.n a.j _ c.is_one_of.ensures a.s c.if-not-is_one_of.true-raw

pub overflow_sub-turned : goal.overflow_sub-turned
overflow_sub-turned c = let a = c.args in
    let o = is_one_lem a.n a.j _ c.is_one_of.ensures c.if-not-is_one_of.false-raw in
    search rules

pub nonzero_rem-turned : goal.nonzero_rem-turned
nonzero_rem-turned c = let a = c.args in
    let o = is_one_lem a.n a.j _ c.is_one_of.ensures c.if-not-is_one_of.false-raw in
    search rules

pub overflow_add-turned : goal.overflow_add-turned
overflow_add-turned c = let a = c.args in
    let o = is_one_lem a.n a.j _ c.is_one_of.ensures c.if-not-is_one_of.false-raw in
    let turns = below o a.s in
    search rules

pub nonzero_rem-result : goal.nonzero_rem-result
nonzero_rem-result c = let a = c.args in
    let o = is_one_lem a.n a.j _ c.is_one_of.ensures c.if-not-is_one_of.false-raw in
    search rules

pub overflow_cast-result : goal.overflow_cast-result
overflow_cast-result c = let a = c.args in
    let o = is_one_lem a.n a.j _ c.is_one_of.ensures c.if-not-is_one_of.false-raw in
    byte a.n (some o) o.nodes _

pub overflow_add-result : goal.overflow_add-result
overflow_add-result c = let a = c.args in
    let o = is_one_lem a.n a.j _ c.is_one_of.ensures c.if-not-is_one_of.false-raw in
    next-byte a.n (some o) o.nodes _

pub returns : goal.returns
returns c = let a = c.args in card-in a.n a.j _ c.is_one_of.ensures a.s c.if-not-is_one_of.false-raw
