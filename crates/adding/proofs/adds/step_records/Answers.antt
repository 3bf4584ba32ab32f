-- The test of range; then as the write in hand is stepped. Assumes nothing.
use mathlib.Core.Path.{◌≡◌, sym, ◌∙◌}
use mathlib.Core.Bool.{true, ◌&&◌}
use native.Mathlib.Omega.{arith}
use borrow.Author.Tests.{not-true, not-false}
use Rattle.basics.proofs.Tests.{and_left, and_right}
use Rattle.records.specs.Sizes.{sizes_within, is_redundant, is_client}
use Rattle.records.specs.Node.{node_within}
use Rattle.records.specs.View.{node_of, client_of}
use Rattle.machine.proofs.Tests.{add-out}
use Rattle.limits.proofs.Limits.{code-sizes}
use Rattle.limits.proofs.Within.{lent-within}
use Rattle.adding.proofs.Adding.{add-in, add-without}
use Rattle.adding.proofs.Ready.{hand-room}
use Rattle.calls.proofs.Stepping.{steps-refused}
use Rattle.adding.proofs.adds.step_records.Goals as goal
use Rattle.adding.proofs.adds.step_records.Goals.{Else-not-is_in_range}

in-range : (c : Else-not-is_in_range) → let a = c.args in (is_client a.z a.c && is_redundant a.z a.j) ≡ true
in-range c = sym c.is_in_range.ensures ∙ not-false _ c.if-not-is_in_range.false-raw

pub returns-then-not-is_in_range : goal.returns-then-not-is_in_range
returns-then-not-is_in_range c blocks differences = let a = c.args in
    steps-refused (add-out a.z a.c a.j (node_of a.node) (client_of a.client) (sym c.is_in_range.ensures ∙ not-true _ c.if-not-is_in_range.true-raw))
    c.refused.ensures

pub step_write-requires : goal.step_write-requires
step_write-requires c = let a = c.args in
    let held = c.in-Some.is in
    let sizes = code-sizes a.z (and_left (sizes_within a.z) _ c.requires) in
    let owned = and_right (node_within a.z (node_of a.node)) _ (and_right (sizes_within a.z) _ c.requires) in
    (held, omega (arith, sizes), (lent-within a.z a.node a.client c.requires).entries, hand-room a.z a.client _ held owned)

pub returns-in-None : goal.returns-in-None
returns-in-None c blocks differences = let a = c.args in
    steps-refused
    (add-without a.z a.c a.j (node_of a.node) (client_of a.client) (in-range (goal.at.returns-in-None c).Else-not-is_in_range) (rw c.in-None.is)) c.refused-in-None.ensures

pub returns-in-Some : goal.returns-in-Some
returns-in-Some c blocks differences = let a = c.args in
    rw (add-in a.z a.c a.j (node_of a.node) (client_of a.client) (in-range (goal.at.returns-in-Some c).Else-not-is_in_range)) (c.step_write.ensures a.c blocks differences)
