-- Change request C-11, and source document 003, section 3.11: where a volume's blocks are. Blocks and stripes are counted from 0; positions, nodes
-- and cards from 1. Assumes nothing.
use Rattle.std.specs.Prelude.{Bool, cond, ◌&&◌, ◌≡◌, ℕ, ◌+◌, ◌-◌, ◌*◌, ◌/◌, ◌%◌, ◌≤◌, ◌<◌, leb}
use Rattle.code.specs.Code.{data_limit, node_limit}
use Rattle.layout.specs.declared.Home.{Home}

-- "Block b is in stripe b divided by k, at position (b mod k) + 1"
abbrev pub stripe_of : ℕ → ℕ → ℕ
stripe_of k b = b / k

abbrev pub position_of : ℕ → ℕ → ℕ
position_of k b = b % k + 1

-- the block at position i of stripe s
abbrev pub block_at : ℕ → ℕ → ℕ → ℕ
block_at k s i = s * k + (i - 1)

-- "Stripe s puts its node j on card ((j − 1 + s) mod n) + 1"
abbrev pub card_of : ℕ → ℕ → ℕ → ℕ
card_of n s j = (j - 1 + s) % n + 1

-- the node of stripe s that is on the card
abbrev pub node_on : ℕ → ℕ → ℕ → ℕ
node_on n s card = (card - 1 + (n - s % n)) % n + 1

-- "Each block has a single home": no two blocks have one home, and each position of each stripe is the home of a block
pub record SingleHome : Type 0 where
  pub within : (k b : ℕ) → 1 ≤ k → (1 ≤ position_of k b) × (position_of k b ≤ k)
  pub block : (k b : ℕ) → 1 ≤ k → block_at k (stripe_of k b) (position_of k b) ≡ b
  pub stripe : (k s i : ℕ) → 1 ≤ i → i ≤ k → stripe_of k (block_at k s i) ≡ s
  pub position : (k s i : ℕ) → 1 ≤ i → i ≤ k → position_of k (block_at k s i) ≡ i
  -- the blocks of a volume of that many stripes are those before k times as many
  pub inside : (k b stripes : ℕ) → 1 ≤ k → stripe_of k b < stripes → b < stripes * k
  pub outside : (k b stripes : ℕ) → 1 ≤ k → stripes ≤ stripe_of k b → stripes * k ≤ b

-- "within a stripe no card is used twice": each node is on a card, and each card is one node of each stripe
pub record OneCard : Type 0 where
  pub card : (n s j : ℕ) → 1 ≤ n → (1 ≤ card_of n s j) × (card_of n s j ≤ n)
  pub node : (n s card : ℕ) → 1 ≤ n → (1 ≤ node_on n s card) × (node_on n s card ≤ n)
  pub node_of_card : (n s j : ℕ) → 1 ≤ j → j ≤ n → node_on n s (card_of n s j) ≡ j
  pub card_of_node : (n s card : ℕ) → 1 ≤ card → card ≤ n → card_of n s (node_on n s card) ≡ card
  pub not_twice : (n s j i : ℕ) → 1 ≤ j → j ≤ n → 1 ≤ i → i ≤ n → card_of n s j ≡ card_of n s i → j ≡ i

-- ---- as numbers, for every argument: 0 stands for no position, no card and no node

abbrev pub home_of : ℕ → ℕ → Home
home_of k b =
    cond (leb 1 k && leb k data_limit)
    (record { stripe = stripe_of k b; position = position_of k b })
    (record { stripe = 0; position = 0 })

abbrev pub is_one_of : ℕ → ℕ → Bool
is_one_of n j = leb n node_limit && (leb 1 j && leb j n)

abbrev pub card_for : ℕ → ℕ → ℕ → ℕ
card_for n s j = cond (is_one_of n j) (card_of n s j) 0

abbrev pub node_for : ℕ → ℕ → ℕ → ℕ
node_for n s card = cond (is_one_of n card) (node_on n s card) 0
