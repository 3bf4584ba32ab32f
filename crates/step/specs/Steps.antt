-- Every call but read and pick as a step of one node's record and of its client's: what it is handed of a stripe, and what it leaves there.
-- Assumes nothing.
use Rattle.std.specs.Prelude.{true, List, [], ◌≡◌, ℕ}
use Rattle.machine.specs.Stripe.{Stripe, replacing, node_at, client_at}
use Rattle.basics.specs.Lists.{set_at}
use Rattle.machine.specs.Calls as Machine
use Rattle.records.specs.declared.Sizes.{Sizes}
use Rattle.records.specs.declared.NodeRecord.{NodeRecord}
use Rattle.records.specs.declared.ClientRecord.{ClientRecord}
use Rattle.records.specs.Sizes.{sizes_within}
use Rattle.records.specs.Node.{Node}
use Rattle.records.specs.Client.{Client}
use Rattle.records.specs.View.{node_of, client_of}
use Rattle.calls.specs.declared.StepCall.{StepCall}
use Rattle.calls.specs.Answers.{Meets}
use Rattle.calls.specs.Calls.{step_of, caller, target, looks_at_all}
use Rattle.stripe.specs.declared.seen.Seen.{Seen}
use Rattle.stripe.specs.Seen.{Sees, applied, keep}
use Rattle.rebuild.specs.declared.Stepped.{Stepped}

-- what a call is handed of a stripe: the record of its client, that of the node that it is at and, if it looks at all nodes, what is seen of them
pub record Handed (z : Sizes) (call : StepCall) (s : Stripe) (seen : Seen) (node : NodeRecord) (client : ClientRecord) : Type 0 where
  pub client_is : client_of client ≡ client_at s.clients (caller call)
  pub node_is : node_of node ≡ node_at s.nodes (target z call (client_of client))
  pub seen_is : looks_at_all call ≡ true → sizes_within z ≡ true → Sees z (caller call) s.nodes seen

-- the stripe with the records that a call by a client with the record x hands back, and the tables as it leaves them
abbrev pub put_back : Sizes → StepCall → Client → Stepped → List ℕ → List ℕ → Stripe → Stripe
put_back z call x r blocks differences s =
    replacing (applied r.change (set_at s.nodes (target z call x) (node_of r.node))) (set_at s.clients (caller call) (client_of r.client))
    blocks s.spare differences s

abbrev pub stripe_with : List Node → List Client → List ℕ → List ℕ → List ℕ → Stripe
stripe_with nodes clients blocks spare differences =
    record { nodes = nodes; clients = clients; blocks = blocks; spare = spare; differences = differences }

-- on every stripe that it is handed its records of, the call is answered and leaves what the machine's does; where a refusal leaves all unchanged,
-- the very records and tables
abbrev pub StepsAs : Sizes → StepCall → Seen → NodeRecord → ClientRecord → List ℕ → List ℕ → List ℕ → List ℕ → Stepped → List ℕ → List ℕ → Type 0
StepsAs z call seen node client value blocks spare differences r blocks' differences' =
    (nodes : List Node) (clients : List Client) →
    let s = stripe_with nodes clients blocks spare differences in
    Handed z call s seen node client →
    Meets (Machine.step z (step_of call value) s) r.answer [] (put_back z call (client_of client) r blocks' differences' s)
    ((r.node ≡ node) × ((r.client ≡ client) × ((r.change ≡ keep) × ((blocks' ≡ blocks) × (differences' ≡ differences)))))
