-- By whether shelfrun has a line for the call. Assumes nothing.
use mathlib.Core.Path.{◌≡◌, sym, ap, ◌∙◌}
use mathlib.Core.Bool.{Bool, true, false, cond}
use mathlib.Core.Option.{none, some}
use Rattle.machine.specs.Calls.{Call}
use Rattle.calls.specs.Calls.{call_of}
use Rattle.script.specs.Lines.{is_shelf_line, shelf_line}
use Rattle.script.specs.Reading.{kept}
use Rattle.script.proofs.reader.in_shelfrun.Goals as goal

module _ (x : Call) {test : Bool} (e : test ≡ is_shelf_line x) where
  readable : test ≡ true → some x ≡ shelf_line (some x)
  readable t = ap (λ (b : Bool). cond b (some x) none) (sym t ∙ e)

  unreadable : test ≡ false → none ≡ shelf_line (some x)
  unreadable f = ap (λ (b : Bool). cond b (some x) none) (sym f ∙ e)

pub returns-then-is_shelf_line : goal.returns-then-is_shelf_line
returns-then-is_shelf_line c value =
    let line = c.in_ok-line.line in
    let bytes = kept line.count value in
    rw c.in_ok-line.was (readable (call_of line.call bytes) (c.is_shelf_line.ensures bytes) c.if-is_shelf_line.true)

pub returns-else-is_shelf_line : goal.returns-else-is_shelf_line
returns-else-is_shelf_line c value =
    let line = c.in_ok-line.line in
    let bytes = kept line.count value in
    rw c.in_ok-line.was (unreadable (call_of line.call bytes) (c.is_shelf_line.ensures bytes) c.if-is_shelf_line.false)
