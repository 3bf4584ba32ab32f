-- The code of encoding.rt: a redundant block is the sum of the data blocks times its row. Assumes nothing.
use mathlib.Core.List.{List}
use mathlib.Core.Path.{◌≡◌, sym, ap, ◌∙◌}
use Prim.Native.Nat.{ℕ, suc, ◌+◌, ◌-◌, ◌*◌, ◌/◌, ◌%◌, ◌≤◌, ◌<◌}
use native.Mathlib.Nat.{mul-le-mul_right}
use native.Mathlib.Omega.{arith}
use lib.ListN.{length, get_or, take}
use lib.Seq.{get_or-take}
use borrow.Author.Tests.{lt-ltb, le-ltb}
use Rattle.blocks.specs.Blocks.{block, table, byte_at}
use Rattle.blocks.proofs.Parts.{part_at}
use Rattle.blocks.proofs.Tables.{table-cong}
use Rattle.code.specs.Code.{coefficient, symbol}
use Rattle.kernel.specs.Combine.{nth, mixed, HasBlocks, Rows}
use Rattle.coding.specs.Weights.{First, data_weight}
use Rattle.gf256.specs.Field.{inverse, power}
use Rattle.gf256.proofs.Laws.{inverse-by-logarithm}
use Rattle.gf256.proofs.Ring.{◌⊕◌, Nonzero}
use Rattle.gf256.proofs.Sum.{All}
use Rattle.code.proofs.Points.{apart}
use Rattle.code.proofs.Symbols.{symbol-redundant}
use Rattle.coding.proofs.Weighing.{data-length, data-at, data-nth}
use Rattle.kernel.proofs.Mixed.{mixed-is}

module _ (k j i : ℕ) where
  pub weight-in : i < k → data_weight k j i ≡ coefficient j (suc i)
  unfolding data_weight
  weight-in l = rw (lt-ltb i k l)

  pub weight-out : k ≤ i → data_weight k j i ≡ 0
  unfolding data_weight
  weight-out l = rw (le-ltb i k l)

  -- a redundant node's point is none of the data nodes', and the weight is the inverse of what they differ by
  pub weight-nonzero : i < k → k < j → j ≤ 256 → Nonzero ((j - 1) ⊕ i)
  weight-nonzero l past small =
      let here : suc i - 1 ≡ i = omega arith in
      rw here at (apart j (suc i) (omega arith) small (omega arith) (omega arith) (omega arith))

  pub weight-by-logarithm : i < k → (m : ℕ) → m < 255 → power m ≡ (j - 1) ⊕ i → power (255 - m) ≡ data_weight k j i
  unfolding coefficient
  weight-by-logarithm l m lm e =
      let here : suc i - 1 ≡ i = omega arith in
      inverse-by-logarithm m ((j - 1) ⊕ i) lm e ∙ ap (λ i. inverse ((j - 1) ⊕ i)) (sym here) ∙ sym (weight-in l)

module _ (b : ℕ) (t nodes : List ℕ) (f : First nodes) (k : ℕ) (k12 : k ≤ 12) where
  pub data-held : k * b ≤ length t → HasBlocks b t (take k nodes)
  data-held h = record { fits = fits }
    where
      fits : (q : ℕ) → q < length (take k nodes) → get_or (take k nodes) q 0 * b ≤ length t
      fits q l =
          let l' : q < k = omega (arith, data-length nodes f k k12) in
          rw (data-at nodes f k k12 q l') (omega (arith, mul-le-mul_right b l'))

  -- the weights of m redundant nodes, at the front of the array r
  module _ (m : ℕ) (r : List ℕ) (e : (i : ℕ) → i < m * 12 → get_or r i 0 ≡ data_weight k (k + i / 12 + 1) (i % 12)) where
    abbrev rows : List ℕ
    rows = take (m * 12) r

    entry : (j q : ℕ) → j < m → q < 12 → get_or rows (j * 12 + q) 0 ≡ data_weight k (k + suc j) q
    entry j q lj lq =
        let node : k + (j * 12 + q) / 12 + 1 ≡ k + suc j = omega arith in
        let place : (j * 12 + q) % 12 ≡ q = omega arith in
        get_or-take (m * 12) r (j * 12 + q) 0 (omega arith) ∙ e (j * 12 + q) (omega arith) ∙ rw (node, place)

    pub encoded-rows : Rows m (length (take k nodes)) rows
    encoded-rows =
        record { zero = λ j q lj lk lq. entry j q lj lq ∙ weight-out k (k + suc j) q (omega (arith, data-length nodes f k k12)) }

    pub mixed-symbol : table m b (λ j. mixed b t (take k nodes) (block 12 j rows)) ≡ table m b (λ j p. symbol k (k + j) (λ i. byte_at b t i p))
    mixed-symbol =
        table-cong m b _ _
        (λ j p j1 jm pb.
        mixed-is b t (take k nodes) (block 12 j rows) k (coefficient (k + j)) (λ i. i) (data-length nodes f k k12) (weight j j1 jm) (data-nth nodes f k k12) p
        ∙ sym (symbol-redundant k (k + j) (λ i. byte_at b t i p) (omega arith)))
      where
        weight : (j : ℕ) → 1 ≤ j → j ≤ m → All k (λ i. nth (block 12 j rows) i ≡ coefficient (k + j) i)
        weight j j1 jm i i1 ik =
            let node : suc (j - 1) ≡ j = omega arith in
            let place : suc (i - 1) ≡ i = omega arith in
            part_at ((j - 1) * 12) 12 rows (i - 1) (omega arith) ∙ entry (j - 1) (i - 1) (omega arith) (omega arith)
            ∙ weight-in k (k + suc (j - 1)) (i - 1) (omega arith) ∙ rw (node, place)
