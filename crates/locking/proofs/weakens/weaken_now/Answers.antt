-- The tests, in order. Assumes nothing.
use mathlib.Core.Path.{◌≡◌, refl, sym, ◌∙◌}
use mathlib.Core.Bool.{true, false}
use native.Mathlib.Omega.{arith}
use Rattle.basics.specs.Lists.{every_of}
use Rattle.machine.specs.Rebuild.{some_recons, weaken}
use Rattle.records.specs.Node.{held_by}
use Rattle.records.specs.View.{client_of}
use Rattle.calls.specs.Answers.{whole}
use Rattle.rebuild.proofs.Limits.{sizes-known}
use Rattle.locking.proofs.Weakening.{weakens, weaken-recons, weaken-lost, weaken-held}
use Rattle.rebuild.proofs.Stepping.{steps-refused, steps-left, steps-as, steps-past}
use Rattle.locking.proofs.weakens.weaken_now.Goals as goal

pub returns-then-seen : goal.returns-then-seen
unfolding weaken
returns-then-seen c nodes blocks spare t = let a = c.args in
    steps-past t c.requires.0
    (steps-refused t c.refused.ensures
    (weaken-recons (whole nodes (client_of a.client) blocks spare) c.requires.1 a.z a.c
    (sym (t.sees c.requires.0.sizes).recons ∙ c.if-seen.true)))

pub weaken-requires : goal.weaken-requires
weaken-requires c = omega (arith, (sizes-known c.args.z c.requires.0.sizes).data_most)

pub overflow_cast-z : goal.overflow_cast-z
overflow_cast-z c = record { fits = omega (arith, (sizes-known c.args.z c.requires.0.sizes).data_most) }

pub returns-then-seen-2 : goal.returns-then-seen-2
unfolding weaken
returns-then-seen-2 c nodes blocks spare t = let a = c.args in
    let sees = t.sees c.requires.0.sizes in
    let none : some_recons nodes ≡ false = sym sees.recons ∙ c.if-seen.false in
    let held : every_of (held_by a.c) nodes ≡ true = sym sees.held ∙ c.if-seen-2.true in
    steps-past t c.requires.0
    (steps-left t refl
    (rw (c.weaken-then-seen-2.ensures, c.weaken.ensures, weakens a.c a.z.k nodes held none)
    (weaken-held (whole nodes (client_of a.client) blocks spare) c.requires.1 a.z a.c none held))
    _)

pub returns-else-seen-2 : goal.returns-else-seen-2
unfolding weaken
returns-else-seen-2 c nodes blocks spare t = let a = c.args in
    let sees = t.sees c.requires.0.sizes in
    steps-past t c.requires.0
    (steps-as t (c.lost.ensures nodes blocks spare t)
    (weaken-lost (whole nodes (client_of a.client) blocks spare) c.requires.1 a.z a.c
    (sym sees.recons ∙ c.if-seen.false) (sym sees.held ∙ c.if-seen-2.false)))
