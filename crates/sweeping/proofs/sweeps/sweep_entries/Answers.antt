-- By the half of the round. Assumes nothing.
use mathlib.Core.Path.{◌≡◌, sym, ◌∙◌}
use mathlib.Core.Bool.{true, false}
use lib.Dec.{ltb}
use Rattle.sweeping.proofs.sweeps.sweep_entries.Goals as goal

pub returns-then-is_discarding : goal.returns-then-is_discarding
returns-then-is_discarding c = let a = c.args in
    let first : ltb a.client.round a.z.n ≡ true = sym c.is_discarding.ensures ∙ c.if-is_discarding.true in
    rw first c.discard.ensures

pub returns-else-is_discarding : goal.returns-else-is_discarding
returns-else-is_discarding c = let a = c.args in
    let second : ltb a.client.round a.z.n ≡ false = sym c.is_discarding.ensures ∙ c.if-is_discarding.false in
    rw second c.mark.ensures
