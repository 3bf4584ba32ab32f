-- How a stripe by value and its tables are seen as the machine's stripe. Assumes nothing.
use Rattle.std.specs.Prelude.{true, List, [], ◌≡◌, ℕ, ◌*◌, get_or, replicate, None}
use Rattle.basics.specs.Lists.{list_of}
use Rattle.machine.specs.Stripe as Machine
use Rattle.records.specs.declared.Sizes.{Sizes}
use Rattle.records.specs.declared.ClientRecord.{ClientRecord}
use Rattle.records.specs.declared.Phase.TheVariants.{NoRebuild}
use Rattle.records.specs.Sizes.{sizes_within}
use Rattle.records.specs.Client.{Client}
use Rattle.records.specs.View.{client_of}
use Rattle.stripe.specs.View.{nodes_of}
use Rattle.step.specs.declared.clients.Clients.{Clients}
use Rattle.step.specs.declared.Stripe.{Stripe}

-- what stands past the last item of the array
abbrev pub blank_client : ClientRecord
blank_client =
    record {
      hand = None;
      phase = NoRebuild;
      finished = record { items = []; count = 0 };
      moved = record { items = []; count = 0 };
      round = 0;
      next = record { 0 = 0 };
    }

-- the m clients of a stripe
abbrev pub clients_of : ℕ → Clients → List Client
clients_of m x = list_of m (λ i. client_of (get_or x.items i blank_client))

abbrev pub stripe_of : Sizes → Stripe → List ℕ → List ℕ → List ℕ → Machine.Stripe
stripe_of z x blocks spare differences =
    record { nodes = nodes_of z.n x.nodes; clients = clients_of z.m x.clients; blocks = blocks; spare = spare; differences = differences }

-- a stripe by value and its three tables
pub record Stored : Type 0 where
  pub stripe : Stripe
  pub blocks : List ℕ
  pub spare : List ℕ
  pub differences : List ℕ

abbrev pub stored : Stripe → List ℕ → List ℕ → List ℕ → Stored
stored x blocks spare differences = record { stripe = x; blocks = blocks; spare = spare; differences = differences }

abbrev pub stored_of : Sizes → Stored → Machine.Stripe
stored_of z x = stripe_of z x.stripe x.blocks x.spare x.differences

-- with blocks of zeros the machine's fresh stripe, for all sizes within the limits
pub record Fresh (x : Stripe) : Type 0 where
  pub is : (z : Sizes) (spare differences : List ℕ) → sizes_within z ≡ true
      → stripe_of z x (replicate (z.n * z.b) 0) spare differences ≡ Machine.fresh z spare differences
