-- Change request C-12: what a tick changes, and when an entry makes its node due. Quotes are C-12's. proofs/Ages proves the two statements.
-- Assumes nothing.
use Rattle.std.specs.Prelude.{◌||◌, List, [], ◌∷◌, map, ◌≡◌, ℕ, zero, suc, leb}
use Rattle.entries.specs.declared.WriteId.{WriteId}
use Rattle.entries.specs.Entries.{Entry, due_age}
use Rattle.records.specs.declared.Sizes.{Sizes}
use Rattle.records.specs.Node.{Node, with_entries, entered, ticked, is_due}
use Rattle.machine.specs.Stripe.{Stripe}
use Rattle.machine.specs.Calls.{step, tick}

-- a node without the ages of its entries
unfoldable pub without_ages : List Entry → List Entry
without_ages [] = []
without_ages (e ∷ es) = record { id = e.id; mark = e.mark; age = record { 0 = 0 } } ∷ without_ages es

abbrev pub ageless : Node → Node
ageless x = with_entries x (without_ages x.entries)

-- the nodes but for their ages, the clients and the three tables are the same
pub record SameButAges (before after : Stripe) : Type 0 where
  pub nodes : map ageless after.nodes ≡ map ageless before.nodes
  pub clients : after.clients ≡ before.clients
  pub blocks : after.blocks ≡ before.blocks
  pub spare : after.spare ≡ before.spare
  pub differences : after.differences ≡ before.differences

-- "The tick .. changes ages only"
abbrev pub ChangesAgesOnly : Type 0
ChangesAgesOnly = (z : Sizes) (s : Stripe) → SameButAges s (step z tick s).after

unfoldable pub after_ticks : ℕ → Node → Node
after_ticks zero x = x
after_ticks (suc ticks) x = ticked (after_ticks ticks x)

-- "age is counted in ticks", "The limit of 64 stays": an id that was entered and stays recent makes its node due after 64 ticks, and not before
abbrev pub DueAfter64 : Type 0
DueAfter64 = (id : WriteId) (x : Node) (ticks : ℕ) → is_due (after_ticks ticks (entered id x)) ≡ (is_due (after_ticks ticks x) || leb due_age ticks)
