-- Pick and write, which are lent both tables: the tests that they begin with. Assumes nothing.
use Rattle.std.specs.Prelude.{Bool, cond, ◌&&◌, ◌||◌, not, List, ◌≡◌, ℕ, ◌*◌, length, Ok, Err}
use Rattle.machine.specs.Stripe.{blocks_fit}
use Rattle.records.specs.NodeSteps.{NodeAnswer}
use Rattle.records.specs.declared.Sizes.{Sizes}
use Rattle.records.specs.declared.ClientRecord.{ClientRecord}
use Rattle.records.specs.declared.Refusal.TheVariants.{OutOfLimits, OutOfRange}
use Rattle.records.specs.Sizes.{sizes_within, is_client}
use Rattle.records.specs.Client.{client_within}
use Rattle.records.specs.View.{client_of}
use Rattle.stripe.specs.declared.seen.Seen.{Seen}

-- "buffer length": both tables have n blocks
abbrev pub both_fit : Sizes → List ℕ → List ℕ → Bool
both_fit z blocks spare = blocks_fit z blocks && blocks_fit z spare

-- the tests: 1, then 2
abbrev pub tabled_entrance : Sizes → ℕ → Seen → ClientRecord → List ℕ → List ℕ → NodeAnswer
tabled_entrance z c seen client blocks spare =
    cond (not (sizes_within z && (seen.within && client_within z (client_of client))) || not (both_fit z blocks spare)) (Err OutOfLimits)
    (cond (not (is_client z c)) (Err OutOfRange) (Ok tt))

-- what is known of the tables past them
pub record Tables (z : Sizes) (blocks spare : List ℕ) : Type 0 where
  pub full : length blocks ≡ z.n * z.b
  pub room : length spare ≡ z.n * z.b
