-- A record of the table, and one past it.
use Rattle.std.proofs.Common.{arith, ◌∙◌}
use Rattle.step.proofs.Items.{element-in, element-past}
use Rattle.step.proofs.table.record_at.Goals as goal

pub returns-then-j-table : goal.returns-then-j-table
returns-then-j-table g c = c.index-table-j.is ∙ element-in c.args.table.now c.args.j c.args.absent _ (omega arith) (omega arith)

pub returns-else-j-ge1 : goal.returns-else-j-ge1
returns-else-j-ge1 g c = element-past c.args.table.now c.args.j c.args.absent (λ h. omega arith)
