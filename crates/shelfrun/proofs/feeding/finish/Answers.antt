-- A line that has begun is answered, and else nothing is printed. Assumes nothing.
use mathlib.Core.Path.{refl, sym, ◌∙◌}
use native.Mathlib.Omega.{arith}
use lib.Seq.{length-take-le}
use borrow.Author.Tests.{not-true, not-false}
use Rattle.shelfrun.proofs.feeding.finish.Goals as goal

pub returns-then-not-shelf : goal.returns-then-not-shelf
returns-then-not-shelf c = record { prefix_len = (omega arith, refl); out_after = λ x k. rw (sym k.begins ∙ not-true _ c.if-not-shelf.true) }

pub returns : goal.returns
returns c = let begun = c.if-not-shelf in
    let fits = c.end_line-answered.ensures.end_in_bounds in
    record { prefix_len = (fits, sym (length-take-le _ _ fits)); out_after = λ x k. rw (sym k.begins ∙ not-false _ begun.false) (c.end_line-answered.ensures.answers x k.is).text.bytes }
