-- What the contract of a pick says, which looks at all records. Assumes nothing.
use Rattle.std.specs.Prelude.{true, not, List, [], ◌≡◌, ℕ, ltb}
use Rattle.code.specs.Decode.{size, lowest, invertible}
use Rattle.machine.specs.Stripe.{Accepted, Outcome, answered, guard, Whole}
use Rattle.basics.specs.Lists.{every_of}
use Rattle.machine.specs.Rebuild.{picked_set, needed_size, picked}
use Rattle.records.specs.declared.Sizes.{Sizes}
use Rattle.records.specs.declared.ClientRecord.{ClientRecord}
use Rattle.records.specs.declared.Refusal.TheVariants.{TooFew, NoInverse}
use Rattle.records.specs.Sizes.{sizes_within}
use Rattle.records.specs.Node.{node_within}
use Rattle.records.specs.View.{client_of}
use Rattle.stripe.specs.declared.nodes.Nodes.{Nodes}
use Rattle.stripe.specs.Seen.{keep, applied}
use Rattle.stripe.specs.View.{nodes_of}
use Rattle.calls.specs.Answers.{Meets, whole}
use Rattle.picking.specs.declared.Picked.{Picked}

-- a pick with all nodes held, once E is known
unfoldable pub pick_held : Sizes → ℕ → Whole → Outcome Whole
pick_held z e w =
    let set = picked_set z w.nodes in
    guard (ltb (size set) (needed_size z w.nodes)) (TooFew (size set)) w
    (guard (not (invertible z.k (lowest set))) NoInverse w
    (answered Accepted (picked z set e w)))

-- the records and the tables as the machine sees them
abbrev pub seen_whole : Sizes → Nodes → ClientRecord → List ℕ → List ℕ → Whole
seen_whole z nodes client blocks spare = whole (nodes_of z.n nodes) (client_of client) blocks spare

-- a pick is answered and leaves what the machine's does; refused "unchanged", it hands back the very record and changes no node
abbrev pub Picks : Outcome Whole → Sizes → Nodes → ClientRecord → List ℕ → List ℕ → Picked → Type 0
Picks o z nodes client blocks spare r =
    Meets o r.answer [] (whole (applied r.change (nodes_of z.n nodes)) (client_of r.client) blocks spare)
    ((r.client ≡ client) × (r.change ≡ keep))

-- what is known past its tests
pub record PickAdmitted (z : Sizes) (x : Nodes) : Type 0 where
  pub sizes : sizes_within z ≡ true
  pub nodes : every_of (node_within z) (nodes_of z.n x) ≡ true
