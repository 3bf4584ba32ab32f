-- How the answers of the code are seen as those of document 01, and what the contract of a call says. Assumes nothing.
use Rattle.std.specs.Prelude.{Bool, false, cond, not, List, [], ◌≡◌, ℕ}
use Rattle.machine.specs.Stripe as Stripe
use Rattle.machine.specs.Stripe.{Outcome, answered, Local, Whole}
use Rattle.blocks.specs.Blocks.{block_in}
use Rattle.records.specs.declared.Source.{Source}
use Rattle.records.specs.declared.Source.TheVariants.{Live, Spare}
use Rattle.records.specs.Refusals.{changes}
use Rattle.records.specs.Node.{Node}
use Rattle.records.specs.Client.{Client}
use Rattle.calls.specs.declared.Answer.{Answer}
use Rattle.calls.specs.declared.Answer.TheVariants.{Accepted, Shown, Added, Done, Rebuilt, Told, Refused}

-- `shown` is the block that a read shows
abbrev pub answer_of : Answer → List ℕ → Stripe.Answer
answer_of Accepted shown = Stripe.Accepted
answer_of (Shown source) shown = Stripe.Shown source shown
answer_of Added shown = Stripe.Added
answer_of Done shown = Stripe.Done
answer_of Rebuilt shown = Stripe.Rebuilt
answer_of (Told finding) shown = Stripe.Told finding
answer_of (Refused why) shown = Stripe.Refused why

-- "unchanged": a refusal but 9 and 10
abbrev pub is_unchanged : Answer → Bool
is_unchanged Accepted = false
is_unchanged (Shown source) = false
is_unchanged Added = false
is_unchanged Done = false
is_unchanged Rebuilt = false
is_unchanged (Told finding) = false
is_unchanged (Refused why) = not (changes why)

-- `same` says that the very records are handed back: only such a refusal must
abbrev pub Left : Answer → Type 0 → Type 0
Left answer same = cond (is_unchanged answer) same (Unit {0})

-- the outcome of the machine is the code's answer and what the code leaves, seen as the machine's records and tables
pub record Meets {S : Type 0} (outcome : Outcome S) (answer : Answer) (shown : List ℕ) (after : S) (same : Type 0) : Type 0 where
  pub said : answered (answer_of answer shown) after ≡ outcome
  pub left : Left answer same

-- a read: the block shown is the part of the table that the answer names, in a table of blocks of b bytes block i; nothing where the answer names none,
-- and nothing where the table has no such block
abbrev pub table_of : Source → List ℕ → List ℕ → List ℕ
table_of Live blocks spare = blocks
table_of Spare blocks spare = spare

abbrev pub shown_part : Answer → ℕ → ℕ → List ℕ → List ℕ → List ℕ
shown_part Accepted b i blocks spare = []
shown_part (Shown source) b i blocks spare = block_in b i (table_of source blocks spare)
shown_part Added b i blocks spare = []
shown_part Done b i blocks spare = []
shown_part Rebuilt b i blocks spare = []
shown_part (Told finding) b i blocks spare = []
shown_part (Refused why) b i blocks spare = []

-- what the machine's read of i is, if the code answers so: it shows what the answer names, and leaves the stripe
abbrev pub read_as : Answer → ℕ → ℕ → Stripe.Stripe → Outcome Stripe.Stripe
read_as answer b i s = answered (answer_of answer (shown_part answer b i s.blocks s.spare)) s

-- what a call at one node is lent, and what a call on the whole stripe is lent
abbrev pub local : Node → Client → List ℕ → List ℕ → Local
local node client blocks differences = record { node = node; client = client; blocks = blocks; differences = differences }

abbrev pub whole : List Node → Client → List ℕ → List ℕ → Whole
whole nodes client blocks spare = record { nodes = nodes; client = client; blocks = blocks; spare = spare }
