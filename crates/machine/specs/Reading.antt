-- Document 01, "Writing": the call read; change request C-15: reading while a rebuild runs. Quotes are C-15's but where marked. A read changes nothing.
-- Answer 1 is decided by the sizes, the record of node i and the length of the blocks, and, where the spare is to be shown, by all node records, the
-- record of the client that rebuilds and the length of the spare. Assumes nothing.
use Rattle.std.specs.Prelude.{cond, ◌&&◌, not, Bool, true, ◌⊎◌, ◌≡◌, ℕ}
use Rattle.basics.specs.Lists.{every_of}
use Rattle.blocks.specs.Blocks.{block}
use Rattle.records.specs.declared.Sizes.{Sizes}
use Rattle.records.specs.declared.Source.TheVariants.{Live, Spare}
use Rattle.records.specs.declared.Refusal.TheVariants.{OutOfLimits, OutOfRange}
use Rattle.records.specs.Sizes.{sizes_within, is_client, is_position}
use Rattle.records.specs.Node.{is_free, held_at_l1, holder_of, node_within}
use Rattle.records.specs.Client.{has_picked, client_within}
use Rattle.machine.specs.Stripe.{Stripe, Outcome, Shown, answered, refused, guard, number, node_at, client_at, blocks_fit, nodes_fit}
use Rattle.machine.specs.Writing.{wrong_mode}

-- document 01: "Read i: needs node i NORM and UNL; shows its block." Where the needs on modes are not met, the outcome is `locked`
unfoldable pub read_or : Outcome Stripe → Sizes → ℕ → Stripe → Outcome Stripe
read_or locked z i s =
    let node = node_at s.nodes i in
    guard (not (sizes_within z && (node_within z node && blocks_fit z s.blocks))) OutOfLimits s
    (guard (not (is_position z i)) OutOfRange s
    (cond (is_free node) (answered (Shown Live (block z.b i s.blocks)) s) locked))

-- document 01's read: "4: read .. the needs on modes are not met", with the node's opmode and lmode
abbrev pub refused_mode : ℕ → Stripe → Outcome Stripe
refused_mode i s = refused (wrong_mode (node_at s.nodes i)) s

abbrev pub read01 : Sizes → ℕ → Stripe → Outcome Stripe
read01 z i s = read_or (refused_mode i s) z i s

-- "a client whose pick was accepted in the rebuild it now has still holds all n nodes at L1": c is such a client
abbrev pub rebuilds : ℕ → Stripe → Bool
rebuilds c s = has_picked (client_at s.clients c).rebuild && every_of (held_at_l1 c) s.nodes

-- document 01: "1: .. record or buffer length outside the limits": the records that the read then goes by, and the spare
abbrev pub spare_fits : Sizes → ℕ → Stripe → Bool
spare_fits z c s = nodes_fit z s.nodes && (client_within z (client_at s.clients c) && blocks_fit z s.spare)

-- "a read of i now answers with block i of the spare"
abbrev pub read_spare : Sizes → ℕ → ℕ → Stripe → Outcome Stripe
read_spare z c i s = guard (not (spare_fits z c s)) OutOfLimits s (answered (Shown Spare (block z.b i s.spare)) s)

-- who holds all n nodes holds node i: no other client need be looked at
unfoldable pub read : Sizes → ℕ → Stripe → Outcome Stripe
read z i s =
    let c = holder_of (node_at s.nodes i) in
    read_or (cond (rebuilds c s) (read_spare z c i s) (refused_mode i s)) z i s

-- ---- what C-15 says of document 01's reads, proved in proofs/Reading

-- such a client: one that rebuilds, past its pick, and holds all n nodes at L1
pub record Rebuilding (z : Sizes) (s : Stripe) (c : ℕ) : Type 0 where
  pub client : is_client z c ≡ true
  pub holds : rebuilds c s ≡ true

-- "Reads that 01 accepts keep their answers; all others are refused as before": the read is document 01's, but where that is answered 4 and such a
-- client is there
abbrev pub ReadsAsBefore : Type 0
ReadsAsBefore = (z : Sizes) (i : ℕ) (s : Stripe) → (read z i s ≡ read01 z i s) ⊎ ((number (read01 z i s).answer ≡ 4) × ((c : ℕ) × Rebuilding z s c))

-- with such a client, whichever it is, document 01's read is answered 4, and the read shows block i of the spare
pub record SpareShown (z : Sizes) (i : ℕ) (s : Stripe) : Type 0 where
  pub before : number (read01 z i s).answer ≡ 4
  pub now : read z i s ≡ answered (Shown Spare (block z.b i s.spare)) s

abbrev pub ReadsSpare : Type 0
ReadsSpare =
    (z : Sizes) (i c : ℕ) (s : Stripe) → sizes_within z ≡ true → is_position z i ≡ true → blocks_fit z s.blocks ≡ true → spare_fits z c s ≡ true →
    Rebuilding z s c → SpareShown z i s
