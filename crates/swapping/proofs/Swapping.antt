-- A swap's tests by the code's, and what a swap within the limits has. Assumes nothing.
use Rattle.std.specs.Prelude.{Option, None, Some, Ok, Err}
use mathlib.Core.Path.{◌≡◌, refl}
use mathlib.Core.Bool.{Bool, true, false, ◌&&◌, ◌||◌, not}
use mathlib.Core.List.{List}
use Prim.Native.Nat.{ℕ, ◌+◌, ◌-◌, ◌*◌, ◌≤◌, ◌<◌}
use native.Mathlib.Omega.{arith}
use lib.Dec.{eqb, leb}
use lib.ListN.{length}
use borrow.Author.Tests.{le-leb, lt-leb, eqb-true}
use Rattle.basics.proofs.Tests.{and_left, and_right}
use Rattle.entries.specs.Entries.{finished_limit, write_limit, entry_limit}
use Rattle.records.specs.declared.Refusal.{Refusal}
use Rattle.records.specs.declared.Refusal.TheVariants.{OutOfPhase, Full, Exhausted}
use Rattle.records.specs.declared.Sizes.{Sizes}
use Rattle.records.specs.Client.{Client, has_write}
use Rattle.records.specs.Node.{Node, is_free, node_within}
use Rattle.records.specs.NodeSteps.{NodeAnswer, refusing, swap_answer}
use Rattle.records.specs.Sizes.{sizes_within, is_position, is_client}
use Rattle.machine.specs.Stripe.{Local, blocks_fit}
use Rattle.machine.specs.Writing.{records_fit, tables_fit, wrong_mode, test, swap_tests}
use Rattle.limits.proofs.Limits.{range-low, block_in_lem, position-node}

-- ---- the chain of tests, by the node's answer: whether it is free, and whether it is full

module _ (mode : Refusal) where
  abbrev answer : Bool → Bool → NodeAnswer
  answer free full = refusing (not free) mode (refusing full Full (Ok tt))

  refuses : (more : Bool) (rest : Option Refusal) (why : Refusal) (free full : Bool) → Err why ≡ answer free full
      → test (not free) mode (test (full || more) Full rest) ≡ Some why
  refuses more rest why false full e = let same : why ≡ mode = cc in rw same
  refuses more rest why true true e = let same : why ≡ Full = cc in rw same
  refuses more rest why true false e = let z : ◌≡◌ {A = ℕ} 0 1 = cc in absurd (omega arith)

  is_free_lem : (free full : Bool) → Ok tt ≡ answer free full → free ≡ true
  is_free_lem false full e = let z : ◌≡◌ {A = ℕ} 0 1 = cc in absurd (omega arith)
  is_free_lem true full e = refl

  has_room : (free full : Bool) → Ok tt ≡ answer free full → full ≡ false
  has_room free false e = refl
  has_room false true e = let z : ◌≡◌ {A = ℕ} 0 1 = cc in absurd (omega arith)
  has_room true true e = let z : ◌≡◌ {A = ℕ} 0 1 = cc in absurd (omega arith)

module _ (z : Sizes) (c i : ℕ) (x : Node) (y : Client) where
  module _ (range : (is_client z c && is_position z i) ≡ true) where
    pub swap-busy : (has_write y.hand || leb 1 y.round) ≡ true → swap_tests z c i x y ≡ Some OutOfPhase
    unfolding swap_tests
    swap-busy e = rw (range, e)

    module _ (idle : (has_write y.hand || leb 1 y.round) ≡ false) where
      abbrev full : Bool
      full = leb entry_limit (length x.entries)

      pub swap-refused : {why : Refusal} → Err why ≡ swap_answer x → swap_tests z c i x y ≡ Some why
      unfolding swap_tests
      swap-refused {why} e = rw (range, idle) (refuses (wrong_mode x) _ _ why (is_free x) full e)

      -- the node accepts
      module _ (e : Ok tt ≡ swap_answer x) where
        pub swap-full : finished_limit ≤ length y.finished → swap_tests z c i x y ≡ Some Full
        unfolding swap_tests
        swap-full h =
            rw (range, idle, is_free_lem (wrong_mode x) (is_free x) full e)
            (rw (has_room (wrong_mode x) (is_free x) full e, le-leb finished_limit (length y.finished) h))

        module _ (h : length y.finished < finished_limit) where
          pub swap-exhausted : write_limit ≤ y.next.0 → swap_tests z c i x y ≡ Some Exhausted
          unfolding swap_tests
          swap-exhausted g =
              rw (range, idle, is_free_lem (wrong_mode x) (is_free x) full e)
              (rw (has_room (wrong_mode x) (is_free x) full e, lt-leb finished_limit (length y.finished) h, le-leb write_limit y.next.0 g))

          pub swap-free : y.next.0 < write_limit → swap_tests z c i x y ≡ None
          unfolding swap_tests
          swap-free g =
              rw (range, idle, is_free_lem (wrong_mode x) (is_free x) full e)
              (rw (has_room (wrong_mode x) (is_free x) full e, lt-leb finished_limit (length y.finished) h, lt-leb write_limit y.next.0 g))

-- ---- what an accepted swap needs

abbrev pub is_within : Sizes → List ℕ → Local → Bool
is_within z value l = sizes_within z && (records_fit z l && (tables_fit z l && eqb (length value) z.b))

module _ (z : Sizes) (value : List ℕ) (l : Local) (limits : is_within z value l ≡ true) where
  sizes : sizes_within z ≡ true
  sizes = and_left (sizes_within z) _ limits

  fits : (tables_fit z l && eqb (length value) z.b) ≡ true
  fits = and_right (records_fit z l) _ (and_right (sizes_within z) _ limits)

  tables : tables_fit z l ≡ true
  tables = and_left (tables_fit z l) _ fits

  pub value-long : length value ≡ z.b
  value-long = eqb-true (length value) z.b (and_right (tables_fit z l) _ fits)

  module _ (c i : ℕ) (range : (is_client z c && is_position z i) ≡ true) where
    position : is_position z i ≡ true
    position = and_right (is_client z c) _ range

    client : is_client z c ≡ true
    client = and_left (is_client z c) _ range

    pub position-low : 1 ≤ i
    position-low = range-low z.k i position

    pub block_there : (i - 1) * z.b + z.b ≤ length l.blocks
    block_there = block_in_lem z.n z.b i l.blocks (position-node z i sizes position) (and_left (blocks_fit z l.blocks) _ tables)

    pub client-low : 1 ≤ c
    client-low = range-low z.m c client

    pub difference_there : (c - 1) * z.b + z.b ≤ length l.differences
    difference_there = block_in_lem z.m z.b c l.differences client (and_right (blocks_fit z l.blocks) _ tables)

  pub node-fits : node_within z l.node ≡ true
  node-fits = and_left (node_within z l.node) _ (and_left (records_fit z l) _ (and_right (sizes_within z) _ limits))
