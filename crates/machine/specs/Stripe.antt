-- Document 01, "Records" and "Numbers of the answers": a stripe, what a call is lent of it, and answers. Assumes nothing.
use Rattle.std.specs.Prelude.{Bool, cond, ◌&&◌, List, ℕ, ◌*◌, eqb, length, replicate}
use Rattle.basics.specs.Lists.{element_at, set_at, every_of}
use Rattle.records.specs.declared.Sizes.{Sizes}
use Rattle.records.specs.declared.Finding.{Finding}
use Rattle.records.specs.declared.Finding.TheVariants as Findings
use Rattle.records.specs.declared.CheckAnswer.TheVariants as CheckAnswers
use Rattle.records.specs.declared.Refusal.{Refusal}
use Rattle.records.specs.declared.Source.{Source}
use Rattle.records.specs.Refusals.{number_of}
use Rattle.records.specs.Node.{Node, fresh_node, failed_node, node_within}
use Rattle.records.specs.Client.{Client, fresh_client}

-- the n node records, the m client records, and the three tables: n blocks, the spare of the same size, B bytes per client
pub record Stripe : Type 0 where
  pub nodes : List Node
  pub clients : List Client
  pub blocks : List ℕ
  pub spare : List ℕ
  pub differences : List ℕ

-- "Fresh: zero blocks and counts, NORM, UNL, empty lists"; "with any bytes in the spare and the differences"
abbrev pub fresh : Sizes → List ℕ → List ℕ → Stripe
fresh z spare differences =
    record {
      nodes = replicate z.n fresh_node;
      clients = replicate z.m fresh_client;
      blocks = replicate (z.n * z.b) 0;
      spare = spare;
      differences = differences;
    }

-- the stripe with these records and tables. What else a stripe has stays
abbrev pub replacing : List Node → List Client → List ℕ → List ℕ → List ℕ → Stripe → Stripe
replacing nodes clients blocks spare differences s =
    record { nodes = nodes; clients = clients; blocks = blocks; spare = spare; differences = differences }

-- a node that is not there counts as failed, a client as fresh
abbrev pub node_at : List Node → ℕ → Node
node_at nodes j = element_at failed_node nodes j

abbrev pub client_at : List Client → ℕ → Client
client_at clients c = element_at fresh_client clients c

-- what a call is answered; the first lines are the accepted ones
pub data Answer : Type 0 where
  Accepted : Answer
  -- a read, with where the block lies that is shown, and the block. Source is the code's own (crates/records/src/lib.rt)
  Shown : Source → List ℕ → Answer
  -- an add, and the add that completes its write
  Added Done : Answer
  -- the nth settle
  Rebuilt : Answer
  -- a call that asks, with what it is told. Finding is the code's own (crates/records/src/lib.rt)
  Told : Finding → Answer
  Refused : Refusal → Answer

-- a check is told
abbrev pub CheckInit : Answer
CheckInit = Told (Findings.Check CheckAnswers.Init)

abbrev pub CheckGc : Answer
CheckGc = Told (Findings.Check CheckAnswers.Gc)

abbrev pub NoChange : Answer
NoChange = Told (Findings.Check CheckAnswers.NoChange)

-- "the answer number (0 if accepted)"
abbrev pub number : Answer → ℕ
number Accepted = 0
number (Shown source block) = 0
number Added = 0
number Done = 0
number Rebuilt = 0
number (Told finding) = 0
number (Refused why) = number_of why

-- the answer, and what was lent as the call leaves it
pub record Outcome (S : Type 0) : Type 0 where
  pub answer : Answer
  pub after : S

module _ {S : Type 0} where
  abbrev pub answered : Answer → S → Outcome S
  answered a s = record { answer = a; after = s }

  abbrev pub refused : Refusal → S → Outcome S
  refused why s = answered (Refused why) s

  -- where the test holds the call is refused and leaves all unchanged. "The lowest applicable number wins": tests stand in the order of their numbers
  unfoldable pub guard : Bool → Refusal → S → Outcome S → Outcome S
  guard test why s rest = cond test (refused why s) rest

-- what a call at one node is lent: the records of the node and of the client, the blocks, the differences
pub record Local : Type 0 where
  pub node : Node
  pub client : Client
  pub blocks : List ℕ
  pub differences : List ℕ

-- what a call on the whole stripe is lent: all node records, the record of the client, the blocks, the spare
pub record Whole : Type 0 where
  pub nodes : List Node
  pub client : Client
  pub blocks : List ℕ
  pub spare : List ℕ

-- the call at node j by client c; and the call by client c on the whole stripe
abbrev pub at_node : ℕ → ℕ → Stripe → Local
at_node j c s = record { node = node_at s.nodes j; client = client_at s.clients c; blocks = s.blocks; differences = s.differences }

abbrev pub put_node : ℕ → ℕ → Local → Stripe → Stripe
put_node j c l s = replacing (set_at s.nodes j l.node) (set_at s.clients c l.client) l.blocks s.spare l.differences s

abbrev pub on_node : ℕ → ℕ → (Local → Outcome Local) → Stripe → Outcome Stripe
on_node j c call s = let o = call (at_node j c s) in answered o.answer (put_node j c o.after s)

abbrev pub whole : ℕ → Stripe → Whole
whole c s = record { nodes = s.nodes; client = client_at s.clients c; blocks = s.blocks; spare = s.spare }

abbrev pub put_whole : ℕ → Whole → Stripe → Stripe
put_whole c w s = replacing w.nodes (set_at s.clients c w.client) w.blocks w.spare s.differences s

abbrev pub on_whole : ℕ → (Whole → Outcome Whole) → Stripe → Outcome Stripe
on_whole c call s = let o = call (whole c s) in answered o.answer (put_whole c o.after s)

-- "buffer length": n blocks; B bytes per client
abbrev pub blocks_fit : Sizes → List ℕ → Bool
blocks_fit z table = eqb (length table) (z.n * z.b)

abbrev pub differences_fit : Sizes → List ℕ → Bool
differences_fit z table = eqb (length table) (z.m * z.b)

abbrev pub nodes_fit : Sizes → List Node → Bool
nodes_fit z nodes = eqb (length nodes) z.n && every_of (node_within z) nodes
