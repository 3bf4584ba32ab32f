-- Refused by the volume's own tests, or shelf's read of the stripe's parts.
use Rattle.std.proofs.Common.{sym, ap, ◌∙◌}
use mathlib.Core.Path.{transport}
use Rattle.taking.specs.Reads.{AnswersLent}
use Rattle.volumeshelf.proofs.Reading.{read-refused, read-said}
use Rattle.volumeshelf.proofs.Tested.{passes}
use Rattle.volumeshelf.proofs.entry.read_answer.Goals as goal

pub returns-in-Err : goal.returns-in-Err
returns-in-Err c = read-refused c.args.nodes.now c.args.clients.now c.args.request c.in-Err.why (sym c.test.ensures ∙ c.in-Err.is)

pub returns : goal.returns
returns c =
    read-said c.args.nodes.now c.args.clients.now c.args.request (ap passes (sym c.test.ensures ∙ c.in_default.is)) c.read_answer.result
    (transport (λ i. AnswersLent (c.nodes_part.ensures i) (c.clients_part.ensures i) (c.inner.ensures i) c.read_answer.result) c.read_answer.ensures)
