-- The parts' bytes, and the set as a number. Assumes nothing.
use mathlib.Core.Path.{ap, ◌∙◌}
use mathlib.Core.List.{List, ◌∷◌, ◌++◌}
use Prim.Native.Nat.{ℕ}
use Rattle.octets.specs.Octets.{word_bytes}
use Rattle.code.proofs.SetBits.{bits-whole}
use Rattle.image.specs.Records.{id_bytes}
use Rattle.serial.proofs.Rows.{four, six}
use Rattle.serial.proofs.clients.write_bytes.Goals as goal

-- what is written, by the bytes of its parts
abbrev row : List ℕ → ℕ → List ℕ → List ℕ → List ℕ → List ℕ
row id tag previous epoch done = 1 ∷ six id ++ tag ∷ six previous ++ four epoch ++ four done

pub returns : goal.returns
returns c = let previous = c.id_bytes-p.ensures ∙ ap id_bytes c.previous_id.ensures in
    let done = c.word_bytes-d.ensures ∙ ap word_bytes (c.first_bits.ensures ∙ bits-whole c.args.w.done) in
    λ k. row (c.id_bytes-i.ensures k) (c.previous_tag.ensures k) (previous k) (c.word_bytes-e.ensures k) (done k)
