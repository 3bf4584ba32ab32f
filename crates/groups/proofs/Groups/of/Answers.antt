-- One size at a time. Assumes nothing.
use mathlib.Core.Path.{sym, ap, ◌∙◌}
use mathlib.Core.Bool.{cond, ◌&&◌}
use mathlib.Core.List.{[], ◌∷◌, ◌++◌}
use Prim.Native.Nat.{◌+◌}
use native.Mathlib.Numerals.{add-one}
use native.Mathlib.Omega.{arith}
use lib.Dec.{leb}
use lib.ListN.{get_or, take}
use lib.Seq.{take_all, take-suc}
use Rattle.basics.specs.Lists.{every_of}
use Rattle.groups.specs.Groups.{total}
use Rattle.groups.specs.View.{group_sizes, kept, impossible}
use Rattle.groups.proofs.Ends.{none_of}
use Rattle.groups.proofs.Kept.{kept-snoc}
use Rattle.groups.proofs.Groups.of.Goals as goal

pub loop-size-init : goal.loop-size-init
unfolding kept every_of total
loop-size-init c = ap group_sizes c.none-groups.ensures ∙ none_of

pub loop-size-preserved : goal.loop-size-preserved
loop-size-preserved c = let sizes = c.args.sizes.now in
    let i = c.loop-size.size-index in
    c.with-groups.ensures
    ∙ (ap (λ g. cond (leb 1 (get_or sizes i 0) && leb (total g + get_or sizes i 0) 8) (g ++ (get_or sizes i 0 ∷ [])) impossible) c.loop-size.invariant
    ∙ sym (rw (add-one i, take-suc sizes i 0 (omega arith)) (kept-snoc (take i sizes) (get_or sizes i 0))))

pub returns : goal.returns
returns c = let sizes = c.args.sizes.now in
    c.loop-size.invariant ∙ ap kept (take_all c.loop-size.size-index sizes (omega arith))
