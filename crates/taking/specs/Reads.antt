-- What a read on lent tables is answered, by the lengths of the blocks and the spare. Assumes nothing.
use Rattle.std.specs.Prelude.{List, ◌≡◌, ℕ, length}
use Rattle.calls.specs.declared.Answer.{Answer}
use Rattle.calls.specs.Answers.{read_as}
use Rattle.machine.specs.Calls.{Read}
use Rattle.records.specs.declared.ClientRecord.{ClientRecord}
use Rattle.records.specs.declared.NodeRecord.{NodeRecord}
use Rattle.taking.specs.declared.ReadRequest.{ReadRequest}
use Rattle.taking.specs.declared.SizedRead.{SizedRead}
use Rattle.taking.specs.Lent.{on_tables, stripe_in}

abbrev pub sized_of : ReadRequest → ℕ → ℕ → SizedRead
sized_of q blocks spare = record { z = q.z; i = q.i; blocks = blocks; spare = spare }

-- with blocks and a spare of these lengths, whatever is in them, the answer is the machine's, and the block that it names is the one that the machine shows
abbrev pub AnswersLent : List NodeRecord → List ClientRecord → SizedRead → Answer → Type 0
AnswersLent nodes clients q answer =
    (blocks spare differences : List ℕ) → q.blocks ≡ length blocks → q.spare ≡ length spare →
    let s = stripe_in nodes clients blocks spare differences in
    read_as answer q.z.b q.i s ≡ on_tables q.z (Read q.i) s
