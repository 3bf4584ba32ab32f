-- `octets::put` meets its contract: the part comes back as `set_part` puts it. Assumes nothing.
use mathlib.Core.Path.{refl}
use native.Mathlib.Nat.{add-sub_cancel_left}
use lib.ListN.{length}
use borrow.Author.Rules.{rules}
use Rattle.blocks.specs.Blocks.{set_part}
use Rattle.blocks.proofs.Parts.{take-set}
use Rattle.octets.proofs.put.Goals as goal

pub returns : goal.returns
unfolding set_part
returns c = let a = c.args in
    let v = a.v.now in
    record {
      filled = rw (add-sub_cancel_left a.at (length v), c.copy.ensures) (take-set a.at (length v) v a.out.now c.requires refl);
      long = search rules;
    }
