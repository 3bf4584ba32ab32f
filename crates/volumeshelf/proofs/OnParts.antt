-- What a call on the parts of the tables says, from what is said of the parts that are lent, for any R. Assumes nothing.
use mathlib.Core.List.{List}
use mathlib.Core.Path.{◌≡◌}
use Prim.Native.Nat.{ℕ}
use lib.ListN.{length}
use Rattle.calls.specs.declared.Answer.{Answer}
use Rattle.parts.specs.Inside.{cut, paste}
use Rattle.parts.proofs.Insides.{Cut, inside-at}
use Rattle.records.specs.declared.ClientRecord.{ClientRecord}
use Rattle.records.specs.declared.NodeRecord.{NodeRecord}
use Rattle.routing.specs.declared.Request.{Request}
use Rattle.volumeshelf.specs.Entry.{OnParts, blocks_part, clients_part, differences_part, nodes_part, value_part}
use Rattle.volumeshelf.proofs.Parts.{blocks-within, clients_within, differences-within, nodes_within}

module _ {Q : Type 0}
    (R : List NodeRecord → List ClientRecord → List ℕ → List ℕ → List ℕ → List ℕ → Q → Answer
    → List NodeRecord → List ClientRecord → List ℕ → List ℕ → List ℕ → Type 0)
    (asked : Q) (q : Request) (nodes : List NodeRecord) (clients : List ClientRecord) (blocks spare differences value : List ℕ) where
  pub on-parts : (x : Q) → x ≡ asked → (answer : Answer) (ns : List NodeRecord) (cs : List ClientRecord) (bs ss ds : List ℕ)
      (a0 e0 a1 e1 a2 e2 a3 e3 a4 e4 a5 e5 : ℕ)
      → Cut (nodes_part q (length nodes)) a0 e0 → Cut (clients_part q (length clients)) a1 e1 → Cut (blocks_part q (length blocks)) a2 e2
      → Cut (blocks_part q (length spare)) a3 e3 → Cut (differences_part q (length differences)) a4 e4 → Cut (value_part q (length value)) a5 e5
      → length ns ≡ length (cut a0 e0 nodes) → length cs ≡ length (cut a1 e1 clients) → length bs ≡ length (cut a2 e2 blocks)
      → length ss ≡ length (cut a3 e3 spare) → length ds ≡ length (cut a4 e4 differences)
      → R (cut a0 e0 nodes) (cut a1 e1 clients) (cut a2 e2 blocks) (cut a3 e3 spare) (cut a4 e4 differences) (cut a5 e5 value) x answer ns cs bs ss ds
      → OnParts R asked nodes clients blocks spare differences value q answer
      (paste a0 e0 nodes ns) (paste a1 e1 clients cs) (paste a2 e2 blocks bs) (paste a3 e3 spare ss) (paste a4 e4 differences ds)
  on-parts x x-is answer ns cs bs ss ds a0 e0 a1 e1 a2 e2 a3 e3 a4 e4 a5 e5 =
      inside-at R nodes clients blocks spare differences value
      (nodes_part q (length nodes)) (clients_part q (length clients)) (blocks_part q (length blocks)) (blocks_part q (length spare))
      (differences_part q (length differences)) (value_part q (length value)) asked x x-is answer ns cs bs ss ds
      a0 e0 a1 e1 a2 e2 a3 e3 a4 e4 a5 e5
      (nodes_within q (length nodes)) (clients_within q (length clients)) (blocks-within q (length blocks)) (blocks-within q (length spare))
      (differences-within q (length differences))
