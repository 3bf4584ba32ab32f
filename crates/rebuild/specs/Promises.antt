-- What the contract of a call on the whole stripe says. The call steps one record, that of the node that the client's rebuild is at; it is told
-- what was seen of all nodes, and says what becomes of the others. Assumes nothing.
use Rattle.std.specs.Prelude.{Bool, cond, ◌&&◌, not, true, List, [], ◌≡◌, ℕ, eqb, Ok, Err}
use Rattle.machine.specs.Stripe as Stripe
use Rattle.machine.specs.Stripe.{Outcome, Whole, answered, node_at}
use Rattle.basics.specs.Lists.{set_at}
use Rattle.machine.specs.Rebuild.{picks, phase_of, own_node, gone_on, lost, holding, lock_node}
use Rattle.records.specs.NodeSteps.{NodeAnswer}
use Rattle.records.specs.declared.Sizes.{Sizes}
use Rattle.records.specs.declared.NodeRecord.{NodeRecord}
use Rattle.records.specs.declared.ClientRecord.{ClientRecord}
use Rattle.records.specs.declared.Refusal.TheVariants.{OutOfLimits, OutOfRange, NotHeld}
use Rattle.records.specs.Sizes.{sizes_within, is_client}
use Rattle.records.specs.Node.{Node, held_by}
use Rattle.records.specs.Client.{Rebuild, next_node, remembered, client_within}
use Rattle.records.specs.View.{node_of, client_of}
use Rattle.stripe.specs.declared.seen.Seen.{Seen}
use Rattle.stripe.specs.Seen.{Sees, keep, applied}
use Rattle.calls.specs.Answers.{Meets, whole}
use Rattle.rebuild.specs.declared.Stepped.{Stepped}

-- the node that a client's rebuild is at
abbrev pub own : ClientRecord → ℕ
own client = next_node (client_of client).rebuild

-- what a call is told: of all nodes, for sizes within the limits; of its own node the record
pub record Told (z : Sizes) (c : ℕ) (nodes : List Node) (seen : Seen) (node : NodeRecord) (client : ClientRecord) : Type 0 where
  pub sees : sizes_within z ≡ true → Sees z c nodes seen
  pub record_is : node_of node ≡ node_at nodes (own client)

-- the nodes after it: its own put back, then the others changed
abbrev pub nodes_after : List Node → ClientRecord → Stepped → List Node
nodes_after nodes client r = applied r.change (set_at nodes (own client) (node_of r.node))

-- it is answered and leaves what the machine's call does; refused "unchanged", it hands back the very records and changes no other
abbrev pub Stepping : Outcome Whole → List Node → NodeRecord → ClientRecord → List ℕ → List ℕ → Stepped → Type 0
Stepping o nodes node client blocks spare r =
    Meets o r.answer [] (whole (nodes_after nodes client r) (client_of r.client) blocks spare)
    ((r.node ≡ node) × ((r.client ≡ client) × (r.change ≡ keep)))

-- a call that is lent no table: whatever the nodes and the tables are
abbrev pub Steps : (Sizes → ℕ → Whole → Outcome Whole) → Sizes → ℕ → Seen → NodeRecord → ClientRecord → Stepped → Type 0
Steps call z c seen node client r =
    (nodes : List Node) (blocks spare : List ℕ) → Told z c nodes seen node client →
    Stepping (call z c (whole nodes (client_of client) blocks spare)) nodes node client blocks spare r

-- the tests that every call begins with: 1, then 2
abbrev pub entrance : Sizes → ℕ → Seen → ClientRecord → NodeAnswer
entrance z c seen client =
    cond (not (sizes_within z && (seen.within && client_within z (client_of client)))) (Err OutOfLimits)
    (cond (not (is_client z c)) (Err OutOfRange) (Ok tt))

-- what is known past them
pub record Admitted (z : Sizes) (c : ℕ) (x : Seen) (y : ClientRecord) : Type 0 where
  pub sizes : sizes_within z ≡ true
  pub nodes : x.within ≡ true
  pub client : client_within z (client_of y) ≡ true
  pub number : is_client z c ≡ true

-- a lock of the next node, after those that are remembered
abbrev pub lock_next : Sizes → ℕ → Whole → Outcome Whole
lock_next z c w = lock_node z c (remembered w.client.rebuild) w

-- answer 10
abbrev pub not_held : Sizes → ℕ → Whole → Outcome Whole
not_held z c w = answered (Stripe.Refused NotHeld) (lost c w)

-- a call that needs its own node alone, and then goes on with the next: `after` is what it makes of the node
abbrev pub at_own : (Node → Node) → Sizes → ℕ → Whole → Outcome Whole
at_own after z c w = holding (held_by c (own_node w)) c w (answered Stripe.Accepted (gone_on z (after (own_node w)) w))

-- the phase of pick and weaken: all nodes locked, and each one weakened before tightened again
abbrev pub is_picking : Rebuild → Bool
is_picking r = eqb (phase_of r) picks && eqb (next_node r) 0
