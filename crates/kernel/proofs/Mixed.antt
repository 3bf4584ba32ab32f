-- From the twelve blocks at given starts to the blocks of given nodes (src/lib.rt). Assumes nothing.
use mathlib.Core.List.{List}
use mathlib.Core.Path.{◌≡◌, sym, ap, ◌∙◌}
use Prim.Native.Nat.{ℕ, zero, suc, ◌+◌, ◌-◌, ◌*◌, ◌≤◌, ◌<◌}
use native.Mathlib.Decide.{dec_lt}
use native.Mathlib.Omega.{arith}
use lib.Bits.{xor_zero_r}
use lib.ListN.{length, get_or, take, get_or-eq_default}
use lib.Seq.{get_or-take}
use borrow.Author.Tests.{lt-ltb, le-ltb}
use Rattle.gf256.specs.Field.{product, sum}
use Rattle.gf256.proofs.Laws.{zero-product}
use Rattle.blocks.specs.Blocks.{block, table, byte_at}
use Rattle.blocks.proofs.Parts.{block-end, block-fits, part_at, part_length}
use Rattle.blocks.proofs.Tables.{table-cong}
use Rattle.kernel.specs.Combine.{nth, mixed, HasBlocks, Rows, Nodes}
use Rattle.kernel.specs.Working.{combined, Sources, start_of}
use Rattle.gf256.proofs.Sum.{All, sum-ext}

pub start-in : (nodes : List ℕ) (b q : ℕ) → q < length nodes → start_of nodes b q ≡ (get_or nodes q 0 - 1) * b
unfolding start_of
start-in nodes b q l = rw (lt-ltb q (length nodes) l)

pub start-out : (nodes : List ℕ) (b q : ℕ) → length nodes ≤ q → start_of nodes b q ≡ 0
unfolding start_of
start-out nodes b q l = rw (le-ltb q (length nodes) l)

-- a sum whose terms past the kth are 0: n terms more
sum-tail : (n k : ℕ) (f : ℕ → ℕ) → ((q : ℕ) → k < q → f q ≡ 0) → sum (n + k) f ≡ sum k f
unfolding sum
sum-tail zero k f z = let e : 0 + k ≡ k = omega arith in rw e
sum-tail (suc n) k f z =
    let e : suc n + k ≡ suc (n + k) = omega arith in
    rw (e, sum, z (suc (n + k)) (omega arith), sum-tail n k f z) (xor_zero_r (sum k f))

module _ (b : ℕ) (t nodes starts : List ℕ) (is : Nodes nodes) (some : 1 ≤ length nodes) (at : (q : ℕ) → q < 12 → get_or starts q 0 ≡ start_of nodes b q) where
  pub mixed-sources : length starts ≡ 12 → HasBlocks b t nodes → Sources b t starts
  mixed-sources twelve h = record { twelve = twelve; fits = λ q l. by q l (dec_lt q (length nodes)) }
    where
      by : (q : ℕ) → q < 12 → Dec (q < length nodes) → get_or starts q 0 + b ≤ length t
      by q l (yes i) = rw (at q l, start-in nodes b q i) (omega (arith, h.fits q i, block-end (get_or nodes q 0) b (is.from q i)))
      by q l (no o) = rw (at q l, start-out nodes b q (omega arith)) (omega (arith, h.fits 0 some, block-end (get_or nodes 0 0) b (is.from 0 some)))

  one-sum : (row : List ℕ) (p : ℕ) → length starts ≡ 12 → ((q : ℕ) → length nodes < q → get_or row (q - 1) 0 ≡ 0) → combined t starts row p ≡ mixed b t nodes row p
  unfolding byte_at
  one-sum row p twelve tail =
      let all : 12 - length nodes + length nodes ≡ 12 = omega (arith, is.few) in
      let f : ℕ → ℕ = λ q. product (nth row q) (get_or t (nth starts q + p) 0) in
      ap (λ n. sum n f) (twelve ∙ sym all)
      ∙ sum-tail (12 - length nodes) (length nodes) f (λ q h. ap (λ w. product w (get_or t (nth starts q + p) 0)) (tail q h) ∙ zero-product (get_or t (nth starts q + p) 0))
      ∙ sum-ext (length nodes) f (λ q. product (nth row q) (byte_at b t (nth nodes q) p))
      (λ q q1 qk. ap (λ a. product (nth row q) (get_or t (a + p) 0)) (at (q - 1) (omega (arith, is.few)) ∙ start-in nodes b (q - 1) (omega arith)))

  pub mixed-table : (m : ℕ) (rows : List ℕ) → length starts ≡ 12 → length rows ≡ m * 12 → Rows m (length nodes) rows
      → table m b (λ j. combined t starts (block 12 j rows)) ≡ table m b (λ j. mixed b t nodes (block 12 j rows))
  mixed-table m rows twelve many z =
      table-cong m b _ _ (λ j p j1 jm pb. one-sum (block 12 j rows) p twelve (λ q h. tail j q j1 jm h (dec_lt (q - 1) 12)))
    where
      tail : (j q : ℕ) → 1 ≤ j → j ≤ m → length nodes < q → Dec (q - 1 < 12) → get_or (block 12 j rows) (q - 1) 0 ≡ 0
      tail j q j1 jm h (yes l) = part_at ((j - 1) * 12) 12 rows (q - 1) l ∙ z.zero (j - 1) (q - 1) (omega arith) (omega arith) l
      tail j q j1 jm h (no o) =
          let long : length (block 12 j rows) ≡ 12 = part_length ((j - 1) * 12) 12 rows (omega (arith, many, block-fits j m 12 j1 jm)) in
          get_or-eq_default (block 12 j rows) 0 {n = q - 1} (omega arith)

-- the first k weights and nodes, as functions
pub mixed-is : (b : ℕ) (t nodes weights : List ℕ) (k : ℕ) (w s : ℕ → ℕ) → length nodes ≡ k → All k (λ q. nth weights q ≡ w q) → All k (λ q. nth nodes q ≡ s q)
    → (p : ℕ) → mixed b t nodes weights p ≡ sum k (λ q. product (w q) (byte_at b t (s q) p))
mixed-is b t nodes weights k w s e ew es p =
    ap (λ k. sum k (λ q. product (nth weights q) (byte_at b t (nth nodes q) p))) e
    ∙ sum-ext k _ _ (λ q q1 qk. rw (ew q q1 qk, es q q1 qk))

-- the first k entries of an array
pub nth-take : (k : ℕ) (xs : List ℕ) (q : ℕ) → 1 ≤ q → q ≤ k → nth (take k xs) q ≡ nth xs q
nth-take k xs q q1 qk = get_or-take k xs (q - 1) 0 (omega arith)
