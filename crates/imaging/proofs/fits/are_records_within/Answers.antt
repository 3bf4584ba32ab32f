-- The tests, in order. Assumes nothing.
use Rattle.records.proofs.Limits.{nodes-few}
use Rattle.imaging.proofs.fits.are_records_within.Goals as goal

pub are_within-requires : goal.are_within-requires
are_within-requires c = nodes-few c.args.z c.requires

pub returns-then-are_within : goal.returns-then-are_within
returns-then-are_within c = rw (← c.are_within.ensures, c.if-are_within.true) c.are_clients_within.ensures

pub returns-else-are_within : goal.returns-else-are_within
returns-else-are_within c = rw (← c.are_within.ensures, c.if-are_within.false)
