-- By the tests, in order; groups as they are kept fit exactly if their sizes do. Assumes nothing.
use mathlib.Core.Bool.{true, false}
use mathlib.Core.Path.{◌≡◌, sym, ap, ◌∙◌}
use native.Mathlib.Omega.{arith}
use mir.Facts.{to_z-of_z}
use borrow.Author.Rules.{sfits_of}
use borrow.Author.Tests.{le-leb, lt-leb}
use Rattle.groups.specs.Groups.{groups_fit}
use Rattle.groups.proofs.Kept.{kept-fits}
use Rattle.planning.specs.Planning.{redundant_limit, stop_limit, serial_limit, plan_of}
use Rattle.planning.proofs.plan.Goals as goal
use Rattle.planning.proofs.plan.Goals.{then-redundant-eq0-via-then-redundant-eq0, then-redundant-eq0-via-else-redundant-eq0+then-redundant-gt-REDUNDANT_MOST, then-not-fit-via-then-not-fit, then-not-fit-via-else-not-fit+then-stops-gt-STOPS_MOST}

pub returns-then-redundant-eq0 : goal.returns-then-redundant-eq0
unfolding plan_of
returns-then-redundant-eq0 c = let a = c.args in
    elim c.then-redundant-eq0.branch [
      | then-redundant-eq0-via-then-redundant-eq0 w ↦ rw (lt-leb 1 a.redundant (omega arith))
      | then-redundant-eq0-via-else-redundant-eq0+then-redundant-gt-REDUNDANT_MOST w ↦
          rw (le-leb 1 a.redundant (omega arith), lt-leb a.redundant redundant_limit (omega arith))
    ]

pub returns-then-not-fit : goal.returns-then-not-fit
unfolding plan_of
returns-then-not-fit c = let a = c.args in
    let fitting : c.fit.result ≡ groups_fit a.redundant a.sizes.now =
    c.fit.ensures ∙ (ap (groups_fit a.redundant) c.of.ensures ∙ kept-fits a.redundant a.sizes.now (omega arith)) in
    elim c.then-not-fit.branch [
      | then-not-fit-via-then-not-fit w ↦
          let unfit : groups_fit a.redundant a.sizes.now ≡ false = sym fitting ∙ w.if-not-fit.true in
          rw (le-leb 1 a.redundant (omega arith), le-leb a.redundant redundant_limit (omega arith), unfit)
      | then-not-fit-via-else-not-fit+then-stops-gt-STOPS_MOST w ↦
          let fit : groups_fit a.redundant a.sizes.now ≡ true = sym fitting ∙ w.if-not-fit.false in
          rw (le-leb 1 a.redundant (omega arith), le-leb a.redundant redundant_limit (omega arith), fit, lt-leb a.stops stop_limit (omega arith))
    ]

pub returns : goal.returns
unfolding plan_of
returns c = let a = c.args in
    let limit = c.lowered-limit.result in
    let e : limit ≡ serial_limit a.redundant a.stops = c.lowered-limit.ensures ∙ c.raised_limit.ensures.0 in
    let fitting : c.fit.result ≡ groups_fit a.redundant a.sizes.now =
    c.fit.ensures ∙ (ap (groups_fit a.redundant) c.of.ensures ∙ kept-fits a.redundant a.sizes.now (omega arith)) in
    let fit : groups_fit a.redundant a.sizes.now ≡ true = sym fitting ∙ c.if-not-fit.false in
    rw (
      c.every_at_most.ensures,
      to_z-of_z (sfits_of c.lowered-limit.type_inv),
      e,
      le-leb 1 a.redundant (omega arith),
      le-leb a.redundant redundant_limit (omega arith),
      fit,
      le-leb a.stops stop_limit (omega arith),
    )
