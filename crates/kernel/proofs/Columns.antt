-- The kernel's loop over tiles (src/lib.rt): after each tile the bytes of all blocks up to its end are there. Assumes nothing.
use mathlib.Core.List.{List}
use mathlib.Core.Path.{◌≡◌, refl, sym, ap, ◌∙◌}
use Prim.Native.Nat.{ℕ, suc, ◌+◌, ◌-◌, ◌*◌, ◌≤◌, ◌<◌}
use native.Mathlib.Decide.{dec_lt}
use native.Mathlib.Omega.{arith}
use lib.ListN.{length, get_or, get_or-eq_default}
use Rattle.blocks.specs.Blocks.{block, byte_at, table, Bytes}
use Rattle.blocks.proofs.Parts.{part_at, part_length, block-fits}
use Rattle.blocks.proofs.Tables.{length-table, byte_at-table, table-ext}
use Rattle.kernel.specs.Working.{combined, Prepared, Filled, packed}
use Rattle.kernel.proofs.Highest.{down-combined}

-- ---- a row of the weights

module _ (m : ℕ) (rows : List ℕ) (many : length rows ≡ m * 12) (u : ℕ) (l : u < m) where
  abbrev row : List ℕ
  row = block 12 (suc u) rows

  row_at : (q k : ℕ) → q < 12 → k ≡ 12 * u + q → get_or row q 0 ≡ get_or rows k 0
  row_at q k h e =
      let here : (suc u - 1) * 12 + q ≡ k = omega arith in
      part_at ((suc u - 1) * 12) 12 rows q h ∙ ap (λ i. get_or rows i 0) here

  row-bytes : Bytes rows → Bytes row
  row-bytes b = record { small = λ q. by q (dec_lt q 12) }
    where
      by : (q : ℕ) → Dec (q < 12) → get_or row q 0 < 256
      by q (yes h) = rw (row_at q (12 * u + q) h refl) (b.small (12 * u + q))
      by q (no h) =
          let long : length row ≡ 12 = part_length ((suc u - 1) * 12) 12 rows (omega (arith, many, block-fits (suc u) m 12 (omega arith) (omega arith))) in
          rw (get_or-eq_default row 0 {n = q} (omega arith)) (omega arith)

  -- the packed weights of group g
  row-packed : (x g : ℕ) → g < 3
      → x ≡ packed (get_or rows (4 * (3 * u + g)) 0) (get_or rows (4 * (3 * u + g) + 1) 0) (get_or rows (4 * (3 * u + g) + 2) 0) (get_or rows (4 * (3 * u + g) + 3) 0)
      → x ≡ packed (get_or row (4 * g) 0) (get_or row (4 * g + 1) 0) (get_or row (4 * g + 2) 0) (get_or row (4 * g + 3) 0)
  row-packed x g h e =
      e
      ∙ sym
      (rw (
        row_at (4 * g) (4 * (3 * u + g)) (omega arith) (omega arith),
        row_at (4 * g + 1) (4 * (3 * u + g) + 1) (omega arith) (omega arith),
        row_at (4 * g + 2) (4 * (3 * u + g) + 2) (omega arith) (omega arith),
        row_at (4 * g + 3) (4 * (3 * u + g) + 3) (omega arith) (omega arith),
      ))

-- ---- the loop

pub record Columns (m b : ℕ) (t starts rows : List ℕ) (p : ℕ) (out : List ℕ) : Type 0 where
  pub size : length out ≡ m * b
  pub done : (u i : ℕ) → u < m → i < p → get_or out (u * b + i) 0 ≡ combined t starts (block 12 (suc u) rows) i

module _ (m b : ℕ) (t starts rows : List ℕ) where
  pub columns-none : (out : List ℕ) → length out ≡ m * b → Columns m b t starts rows 0 out
  columns-none out e = record { size = e; done = λ u i hu hi. absurd (omega arith) }

  pub columns-turn : (p n : ℕ) (s plan old out : List ℕ) → length starts ≡ 12 → length rows ≡ m * 12 → Bytes t → Bytes rows
      → ((i : ℕ) → i < 3 * m → get_or plan i 0 ≡ packed (get_or rows (4 * i) 0) (get_or rows (4 * i + 1) 0) (get_or rows (4 * i + 2) 0) (get_or rows (4 * i + 3) 0))
      → Prepared t starts p n s → Filled m b p n s plan old m out → Columns m b t starts rows p old → Columns m b t starts rows (p + n) out
  columns-turn p n s plan old out twelve many bt br plans made filled columns =
      record { size = filled.size; done = λ u i hu hi. by u i hu hi (dec_lt i p) }
    where
      group : (u g : ℕ) → u < m → g < 3 → (k : ℕ) → k ≡ 3 * u + g
          → get_or plan k 0 ≡ packed (get_or (block 12 (suc u) rows) (4 * g) 0) (get_or (block 12 (suc u) rows) (4 * g + 1) 0)
          (get_or (block 12 (suc u) rows) (4 * g + 2) 0) (get_or (block 12 (suc u) rows) (4 * g + 3) 0)
      group u g hu hg k e = rw e (row-packed m rows many u hu (get_or plan (3 * u + g) 0) g hg (plans (3 * u + g) (omega arith)))

      by : (u i : ℕ) → u < m → i < p + n → Dec (i < p) → get_or out (u * b + i) 0 ≡ combined t starts (block 12 (suc u) rows) i
      by u i hu hi (yes h) = filled.before u i hu h ∙ columns.done u i hu h
      by u i hu hi (no h) =
          let e : p + (i - p) ≡ i = omega arith in
          let in-tile : i - p < n = omega arith in
          ap (λ k. get_or out (u * b + k) 0) (sym e) ∙ filled.done u (i - p) hu in-tile
          ∙ down-combined t starts (block 12 (suc u) rows) p n s made twelve bt (row-bytes m rows many u hu br) (i - p) in-tile _ _ _
          (group u 0 hu (omega arith) (3 * u) (omega arith)) (group u 1 hu (omega arith) (3 * u + 1) refl) (group u 2 hu (omega arith) (3 * u + 2) refl)
          ∙ ap (combined t starts (block 12 (suc u) rows)) e

  pub columns-all : (p : ℕ) (out : List ℕ) → b ≤ p → Columns m b t starts rows p out → out ≡ table m b (λ j. combined t starts (block 12 j rows))
  unfolding byte_at
  columns-all p out l c =
      table-ext m b out (table m b (λ j. combined t starts (block 12 j rows))) c.size (length-table m b _)
      (λ j i j1 jm ib.
      let e : suc (j - 1) ≡ j = omega arith in
      c.done (j - 1) i (omega arith) (omega arith) ∙ ap (λ j. combined t starts (block 12 j rows) i) e
      ∙ sym (byte_at-table m b (λ j. combined t starts (block 12 j rows)) j i j1 jm ib))
