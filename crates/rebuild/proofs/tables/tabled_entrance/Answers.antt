-- The tests, in order. Assumes nothing.
use mathlib.Core.Path.{sym, ◌∙◌}
use mathlib.Core.Bool.{◌&&◌, not, or-true, or-false}
use native.Mathlib.Omega.{arith}
use borrow.Author.Tests.{eq-eqb, ne_eqb, not-true, not-false}
use Rattle.code.proofs.LimitLaws.{small-table}
use Rattle.machine.proofs.CodeLaws.{sizes}
use Rattle.records.specs.Sizes.{sizes_within}
use Rattle.records.specs.Client.{client_within}
use Rattle.records.specs.View.{client_of}
use Rattle.rebuild.proofs.tables.tabled_entrance.Goals as goal

pub returns-then-not-within : goal.returns-then-not-within
returns-then-not-within c = rw (sym c.within.ensures ∙ not-true _ c.if-not-within.true-raw)

pub overflow_mul-z : goal.overflow_mul-z
overflow_mul-z c = let z = c.args.z in
    let code = sizes z (sym c.within.ensures ∙ not-false _ c.if-not-within.false-raw) in
    record { fits = omega (arith, small-table z.n z.b (omega (arith, code.data_most, code.redundant_most)) code.block_most) }

pub returns-then-blocks-z : goal.returns-then-blocks-z
returns-then-blocks-z c = let a = c.args in
    rw (ne_eqb _ _ c.if-blocks-z.true, or-true (not (sizes_within a.z && (a.seen.within && client_within a.z (client_of a.client)))))

pub returns-then-spare-z : goal.returns-then-spare-z
returns-then-spare-z c = let a = c.args in
    rw (
      eq-eqb _ _ c.if-blocks-z.false,
      ne_eqb _ _ c.if-spare-z.true,
      or-true (not (sizes_within a.z && (a.seen.within && client_within a.z (client_of a.client)))),
    )

pub returns : goal.returns
returns c = let a = c.args in
    rw (
      eq-eqb _ _ c.if-blocks-z.false,
      eq-eqb _ _ c.if-spare-z.false,
      or-false (not (sizes_within a.z && (a.seen.within && client_within a.z (client_of a.client)))),
    ) c.entrance.ensures
