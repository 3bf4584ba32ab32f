-- The k lowest members of a set, at the front of the array r of its members. Assumes nothing.
use mathlib.Core.Bool.{Bool, true}
use mathlib.Core.List.{List}
use mathlib.Core.Path.{◌≡◌, ap, ◌∙◌}
use Prim.Native.Nat.{ℕ, suc, ◌-◌, ◌*◌, ◌≤◌, ◌<◌}
use native.Mathlib.Omega.{arith}
use lib.ListN.{length, get_or, take}
use lib.Seq.{length-take-le, get_or-take}
use Rattle.blocks.specs.Blocks.{byte_at, table}
use Rattle.blocks.proofs.Tables.{table-cong}
use Rattle.code.specs.Decode.{has, size, members, lowest, recovered, recovered_table}
use Rattle.kernel.specs.Combine.{nth, HasBlocks, Nodes}
use Rattle.coding.specs.Weights.{Rising, restored_byte}
use Rattle.gf256.proofs.Sum.{All}
use Rattle.code.proofs.NodeSets.{lowest-from, lowest-has, lowest-rises}
use Rattle.code.proofs.Members.{Lists}
use Rattle.kernel.proofs.Mixed.{nth-take}
use Rattle.coding.proofs.Weighing.{recovered-nodes}

module _ (s : List Bool) (r : List ℕ) (at : Lists (members s) r) (k : ℕ) (enough : k ≤ size s) (k12 : k ≤ 12) (long : 12 ≤ length r) where
  abbrev nodes : List ℕ
  nodes = take k r

  pub lowest-count : length nodes ≡ k
  lowest-count = length-take-le k r (omega arith)

  lowest-at : (q : ℕ) → q < k → get_or nodes q 0 ≡ lowest s (suc q)
  lowest-at q l = let e : suc q - 1 ≡ q = omega arith in rw e (get_or-take k r q 0 l ∙ at q)

  lowest-nth : All k (λ q. nth nodes q ≡ lowest s q)
  lowest-nth q q1 qk = nth-take k r q q1 qk ∙ at (q - 1)

  pub lowest-nodes : Nodes nodes
  lowest-nodes =
      let n = lowest-count in
      record { few = omega arith; from = λ q l. rw (lowest-at q (omega arith)) (lowest-from s (suc q) (omega arith) (omega arith)) }

  pub lowest-rising : Rising nodes
  lowest-rising =
      let n = lowest-count in
      record { rises = λ p q pq l. rw (lowest-at p (omega arith), lowest-at q (omega arith)) (lowest-rises s (suc p) (suc q) (omega arith) (omega arith) (omega arith)) }

  pub lowest-held : (b : ℕ) (t : List ℕ) → ((j : ℕ) → has s j ≡ true → j * b ≤ length t) → HasBlocks b t nodes
  lowest-held b t held =
      let n = lowest-count in
      record { fits = λ q l. rw (lowest-at q (omega arith)) (held (lowest s (suc q)) (lowest-has s (suc q) (omega arith) (omega arith))) }

  pub lowest-restored : (m b : ℕ) (t : List ℕ) → table m b (restored_byte b t nodes) ≡ recovered_table k m b s t
  unfolding recovered_table
  lowest-restored m b t =
      table-cong m b _ _
      (λ j p j1 jm l.
      ap (λ k. recovered k (nth nodes) (λ q. byte_at b t (nth nodes q) p) j) lowest-count
      ∙ recovered-nodes (nth nodes) (lowest s) k (λ i. byte_at b t i p) j lowest-nth)
