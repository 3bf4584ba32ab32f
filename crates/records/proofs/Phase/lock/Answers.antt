-- Only locking remembers lmodes. Assumes nothing.
use native.Mathlib.Omega.{arith}
use lib.ListN.{length}
use Prim.Native.Nat.{◌<◌}
use Rattle.basics.specs.Lists.{list_of}
use Rattle.records.specs.Sizes.{node_limit}
use Rattle.records.specs.View.{old_lmodes}
use Rattle.records.proofs.Clients.{lmodes-count, none-remembered}
use Rattle.records.proofs.Phase.lock.Goals as goal

pub locked-requires : goal.locked-requires
locked-requires c = let q : length (old_lmodes c.in-Locking.x c.in-Locking.expired) < node_limit = rw c.in-Locking.is at c.requires.1 in
    (c.requires.0, omega (arith, lmodes-count c.in-Locking.x c.in-Locking.expired))

pub returns-in_default : goal.returns-in_default
unfolding list_of
returns-in_default c = rw (none-remembered c.args.self c.in_default.not-Locking) c.locked-in_default.ensures
