-- What volumeshelf answers a read of what is lent, said of the tables.
use Rattle.std.proofs.Common.{min, length, ap, ◌∙◌}
use mathlib.Core.Path.{transport}
use Rattle.routing.specs.declared.ReadRequest.{ReadRequest}
use Rattle.routing.specs.Walks.{sized_of}
use Rattle.tables.specs.declared.Lengths.{Lengths}
use Rattle.tables.specs.Parts.{lengths_of}
use Rattle.volumescript.specs.Asking.{read_in}
use Rattle.volumeshelf.specs.Volumes.{AnswersVolume}
use Rattle.volumeplay.proofs.Parts.{first}
use Rattle.volumeplay.proofs.entry.read_part.Goals as goal

pub returns : goal.returns
returns c =
    let a = c.args in
    let lengths = c.lengths-lengths.ensures in
    let now = c.lengths-lengths.result in
    let n-is = c.least-nodes_to.ensures ∙ ap (λ (l : Lengths). min l.nodes (length a.nodes.now)) lengths in
    let c-is = c.least-clients_to.ensures ∙ ap (λ (l : Lengths). min l.clients (length a.clients.now)) lengths in
    let asked =
    c.sized-read.ensures ∙ ap (λ (r : ReadRequest). sized_of r now.blocks now.blocks) c.read.ensures
    ∙ ap (λ (l : Lengths). sized_of (read_in a.line a.volume) l.blocks l.blocks) lengths in
    transport (λ i. AnswersVolume
    (first (lengths_of a.volume).nodes c.least-nodes_to.result a.nodes.now n-is i)
    (first (lengths_of a.volume).clients c.least-clients_to.result a.clients.now c-is i) (asked i) c.read_answer.result) c.read_answer.ensures
