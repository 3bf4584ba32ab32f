-- The code of recovering.rt: the sums of the nodes' blocks are the blocks that they recover. Assumes nothing.
use mathlib.Core.List.{List}
use mathlib.Core.Logic.{◌≢◌, ◌⊎◌, inl, inr}
use mathlib.Core.Path.{◌≡◌, refl, sym, ap, ◌∙◌}
use Prim.Native.Nat.{ℕ, suc, ◌+◌, ◌-◌, ◌*◌, ◌≤◌, ◌<◌}
use native.Mathlib.Decide.{ℕ_discrete, dec_lt}
use native.Mathlib.Nat.{add-sub_cancel_left}
use native.Mathlib.Omega.{arith}
use lib.ListN.{length, get_or, take, set, replicate, length-replicate}
use lib.Seq.{get_or-take, get_or-set_same, get_or-set_other}
use borrow.Author.Tests.{eq-eqb, ne_eqb}
use Rattle.gf256.specs.Field.{product}
use Rattle.gf256.proofs.Laws.{one_product, zero-product}
use Rattle.blocks.specs.Blocks.{block, set_part, byte_at, table, Bytes}
use Rattle.blocks.proofs.Parts.{part_at, set-length, put_in, put-before}
use Rattle.blocks.proofs.Tables.{length-table, byte_at-table, table-ext, table-cong}
use Rattle.code.specs.Code.{sum}
use Rattle.code.specs.Decode.{recover, recovered}
use Rattle.kernel.specs.Combine.{nth, mixed, Rows, Nodes}
use Rattle.coding.specs.Weights.{Rising, Lost, Held, Recovers, unit_weight, restored_byte}
use Rattle.blocks.proofs.Entries.{zeros-at}
use Rattle.gf256.proofs.Sum.{sum_one}
use Rattle.code.proofs.Recover.{Chosen, recovered-present}
use Rattle.kernel.proofs.Mixed.{mixed-is}

pub nodes-chosen : (nodes : List ℕ) → Nodes nodes → Rising nodes → Bytes nodes → Chosen (length nodes) (nth nodes)
nodes-chosen nodes is up bytes =
    record {
      from = λ q q1 qk. is.from (q - 1) (omega arith);
      to = λ q q1 qk. omega (arith, bytes.small (q - 1));
      distinct = λ p p1 pk q q1 qk h. differ p q p1 pk q1 qk h (dec_lt p q);
    }
  where
    differ : (p q : ℕ) → 1 ≤ p → p ≤ length nodes → 1 ≤ q → q ≤ length nodes → p ≢ q → Dec (p < q) → nth nodes p ≢ nth nodes q
    differ p q p1 pk q1 qk h (yes l) = omega (arith, up.rises (p - 1) (q - 1) (omega arith) (omega arith))
    differ p q p1 pk q1 qk h (no n) = omega (arith, up.rises (q - 1) (p - 1) (omega arith) (omega arith))

-- ---- the weights of one node

pub unit-is : (q i : ℕ) → q < 12 → get_or (set (replicate 12 0) q 1) i 0 ≡ unit_weight q i
unfolding unit_weight
unit-is q i l = by (ℕ_discrete i q)
  where
    by : Dec (i ≡ q) → get_or (set (replicate 12 0) q 1) i 0 ≡ unit_weight q i
    by (yes e) = rw (e, eq-eqb q q refl) (get_or-set_same (replicate 12 0) q 1 0 l)
    by (no n) = rw (ne_eqb i q n) (get_or-set_other (replicate 12 0) q i 1 0 n ∙ zeros-at 12 i)

pub unit-tail : (q i : ℕ) → q < i → unit_weight q i ≡ 0
unfolding unit_weight
unit-tail q i l = rw (ne_eqb i q (omega arith))

-- only the first twelve weights count
pub recovers-ext : (nodes : List ℕ) (j : ℕ) (w v : ℕ → ℕ) → length nodes ≤ 12 → ((q : ℕ) → q < 12 → v q ≡ w q) → Recovers nodes j w → Recovers nodes j v
recovers-ext nodes j w v few e r = record { tail = λ q h l. e q l ∙ r.tail q h l; either = by r.either }
  where
    by : Lost nodes j w ⊎ Held nodes j w → Lost nodes j v ⊎ Held nodes j v
    by (inl lost) = inl (record { apart = lost.apart; weights = λ q l. e q (omega arith) ∙ lost.weights q l })
    by (inr held) =
        inr (record { place = held.place; among = held.among; node = held.node; weights = λ q l. e q (omega arith) ∙ held.weights q l })

-- ---- the loop over the nodes

abbrev pub RowsOf : List ℕ → ℕ → List ℕ → Type 0
RowsOf nodes j rows = (u : ℕ) → u < j → Recovers nodes (suc u) (λ q. get_or rows (u * 12 + q) 0)

pub rows-turn : (nodes rows row : List ℕ) (j : ℕ) → length nodes ≤ 12 → j * 12 + 12 ≤ length rows → length row ≡ 12 → RowsOf nodes j rows
    → Recovers nodes (suc j) (λ q. get_or row q 0) → RowsOf nodes (j + 1) (set_part (j * 12) (j * 12 + 12 - j * 12) row rows)
rows-turn nodes rows row j few fits many before here =
    rw (add-sub_cancel_left (j * 12) 12) (λ u l. by u l (ℕ_discrete u j))
  where
    by : (u : ℕ) → u < j + 1 → Dec (u ≡ j) → Recovers nodes (suc u) (λ q. get_or (set_part (j * 12) 12 row rows) (u * 12 + q) 0)
    by u l (yes e) =
        rw e (recovers-ext nodes (suc j) (λ q. get_or row q 0) (λ q. get_or (set_part (j * 12) 12 row rows) (j * 12 + q) 0) few
        (λ q h. put_in (j * 12) 12 row rows fits many q h) here)
    by u l (no n) =
        recovers-ext nodes (suc u) (λ q. get_or rows (u * 12 + q) 0) (λ q. get_or (set_part (j * 12) 12 row rows) (u * 12 + q) 0) few
        (λ q h. put-before (j * 12) 12 row rows fits many (u * 12 + q) (omega arith)) (before u (omega arith))

pub rows-length : (rows row : List ℕ) (j : ℕ) → j * 12 + 12 ≤ length rows → length row ≡ 12 → length rows ≡ 3072
    → length (set_part (j * 12) (j * 12 + 12 - j * 12) row rows) ≡ 3072
rows-length rows row j fits many size = rw (add-sub_cancel_left (j * 12) 12) (set-length (j * 12) 12 row rows fits many ∙ size)

-- ---- all blocks

module _ (m : ℕ) (nodes r : List ℕ) (few : length nodes ≤ 12) (is : RowsOf nodes m r) where
  abbrev rows : List ℕ
  rows = take (m * 12) r

  pub recovered-rows : Rows m (length nodes) rows
  recovered-rows = record { zero = λ j q lj lk lq. get_or-take (m * 12) r (j * 12 + q) 0 (omega arith) ∙ (is j lj).tail q lk lq }

  module _ (b : ℕ) (t : List ℕ) (bytes : Bytes t) (chosen : Chosen (length nodes) (nth nodes)) where
    one_block : (j p : ℕ) → 1 ≤ j → j ≤ m → p < b → mixed b t nodes (block 12 j rows) p ≡ restored_byte b t nodes j p
    unfolding recovered byte_at unit_weight
    one_block j p j1 jm pb = by (is (j - 1) (omega arith)).either
      where
        node : suc (j - 1) ≡ j
        node = omega arith

        weight : (q : ℕ) → 1 ≤ q → q ≤ length nodes → nth (block 12 j rows) q ≡ get_or r ((j - 1) * 12 + (q - 1)) 0
        weight q q1 qk =
            part_at ((j - 1) * 12) 12 rows (q - 1) (omega arith) ∙ get_or-take (m * 12) r ((j - 1) * 12 + (q - 1)) 0 (omega arith)

        byte : ℕ → ℕ
        byte q = byte_at b t (nth nodes q) p

        by : Lost nodes (suc (j - 1)) (λ q. get_or r ((j - 1) * 12 + q) 0) ⊎ Held nodes (suc (j - 1)) (λ q. get_or r ((j - 1) * 12 + q) 0)
            → mixed b t nodes (block 12 j rows) p ≡ restored_byte b t nodes j p
        by (inl lost) =
            mixed-is b t nodes (block 12 j rows) (length nodes) (recover (length nodes) (nth nodes) j) (nth nodes) refl
            (λ q q1 qk.
            let place : suc (q - 1) ≡ q = omega arith in
            weight q q1 qk ∙ lost.weights (q - 1) (omega arith) ∙ rw (node, place)) (λ q q1 qk. refl) p
        by (inr held) =
            let q0 : ℕ = suc held.place in
            let here : q0 - 1 ≡ held.place = omega arith in
            let own : nth nodes q0 ≡ j = ap (λ i. get_or nodes i 0) here ∙ held.node ∙ node in
            let small : byte q0 < 256 = bytes.small ((nth nodes q0 - 1) * b + p) in
            mixed-is b t nodes (block 12 j rows) (length nodes) (λ q. unit_weight held.place (q - 1)) (nth nodes) refl
            (λ q q1 qk. weight q q1 qk ∙ held.weights (q - 1) (omega arith)) (λ q q1 qk. refl) p
            ∙ sum_one (length nodes) (λ q. product (unit_weight held.place (q - 1)) (byte q)) q0 (omega arith) (omega (arith, held.among))
            (λ q q1 qk n. rw (ne_eqb (q - 1) held.place (omega arith)) (zero-product (byte q)))
            ∙ ap (λ w. product w (byte q0)) (ap (unit_weight held.place) here ∙ rw (eq-eqb held.place held.place refl))
            ∙ one_product (byte q0) small
            ∙ sym (recovered-present (length nodes) (nth nodes) (omega arith) chosen byte q0 (omega arith) (omega (arith, held.among)) small)
            ∙ ap (λ j. restored_byte b t nodes j p) own

    pub restored-table : table m b (λ j. mixed b t nodes (block 12 j rows)) ≡ table m b (restored_byte b t nodes)
    restored-table = table-cong m b _ _ one_block

-- no node recovers nothing
pub restored-none : (m b : ℕ) (t nodes : List ℕ) → length nodes ≡ 0 → replicate (m * b) 0 ≡ table m b (restored_byte b t nodes)
unfolding recovered sum byte_at
restored-none m b t nodes e =
    table-ext m b (replicate (m * b) 0) (table m b (restored_byte b t nodes)) (length-replicate (m * b) 0) (length-table m b (restored_byte b t nodes))
    (λ j p j1 jm pb. zeros-at (m * b) ((j - 1) * b + p) ∙ sym (byte_at-table m b (restored_byte b t nodes) j p j1 jm pb ∙ rw e))
