-- A record of the table, and one past it.
use Rattle.std.proofs.Common.{arith}
use Rattle.step.proofs.Items.{set-in, set-past}
use Rattle.step.proofs.table.put_at.Goals as goal

pub returns-then-j-table : goal.returns-then-j-table
returns-then-j-table g c = set-in c.args.table.now c.args.j c.args.item (omega arith)

pub returns-else-j-ge1 : goal.returns-else-j-ge1
returns-else-j-ge1 g c = set-past c.args.table.now c.args.j c.args.item (λ h. omega arith)
