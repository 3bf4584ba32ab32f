-- `coding::recovering::node_row` meets its contract. Assumes nothing.
use mathlib.Core.Logic.{inl, inr}
use mathlib.Core.Path.{◌≡◌, ap, sym, ◌∙◌}
use Prim.Native.Nat.{suc, ◌-◌}
use native.Mathlib.Omega.{arith}
use lib.ListN.{get_or}
use Rattle.coding.proofs.Restored.{unit-tail}
use Rattle.coding.proofs.recovering.node_row.Goals as goal

pub recover_row-requires : goal.recover_row-requires
recover_row-requires c = let pre = c.requires in
    (pre.0, pre.1, pre.2, c.in-None.ensures, pre.3, pre.4, pre.5)

pub returns-in-None : goal.returns-in-None
returns-in-None c = let row = c.recover_row.ensures in
    record {
      tail = λ q h l. row.1 q h;
      either = inl (record {
        apart = c.in-None.ensures;
        weights = λ q l.
            let here : suc q - 1 ≡ q = omega arith in
            ap (λ i. get_or c.recover_row.result i 0) (sym here) ∙ row.0 (suc q) (omega arith) (omega arith);
      });
    }

pub returns-in-Some : goal.returns-in-Some
returns-in-Some c = let found = c.in-Some.ensures in
    let q = c.in-Some.q in
    record {
      tail = λ i h l. c.unit.ensures i ∙ unit-tail q i (omega (arith, found.0));
      either = inr (record {
        place = q;
        among = found.0;
        node = found.1;
        weights = λ i l. c.unit.ensures i;
      });
    }
