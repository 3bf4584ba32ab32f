-- The tests, in order. Assumes nothing.
use mathlib.Core.Path.{refl}
use borrow.Author.Rules.{rules}
use Rattle.machine.specs.Writing as Writing
use Rattle.calls.proofs.Returns.{guards, refused-of-client, accepted}
use Rattle.sweeping.proofs.checks.drop.Goals as goal

pub is_client_within-requires : goal.is_client_within-requires
unfolding Writing.drop
is_client_within-requires c = search rules

pub refused-requires : goal.refused-requires
unfolding Writing.drop
refused-requires c = search rules

pub returns-then-not-is_client_within : goal.returns-then-not-is_client_within
unfolding Writing.drop
returns-then-not-is_client_within c node blocks differences = refused-of-client c.refused.ensures (search guards)

pub is_client-requires : goal.is_client-requires
unfolding Writing.drop
is_client-requires c = search rules

pub refused-requires-then-not-is_client : goal.refused-requires-then-not-is_client
unfolding Writing.drop
refused-requires-then-not-is_client c = search rules

pub returns-then-not-is_client : goal.returns-then-not-is_client
unfolding Writing.drop
returns-then-not-is_client c node blocks differences = refused-of-client c.refused-then-not-is_client.ensures (search guards)

pub has_write-requires : goal.has_write-requires
unfolding Writing.drop
has_write-requires c = search rules

pub refused-requires-then-not-has_write : goal.refused-requires-then-not-has_write
unfolding Writing.drop
refused-requires-then-not-has_write c = search rules

pub returns-then-not-has_write : goal.returns-then-not-has_write
unfolding Writing.drop
returns-then-not-has_write c node blocks differences = refused-of-client c.refused-then-not-has_write.ensures (search guards)

pub drop_write-dropped-requires : goal.drop_write-dropped-requires
unfolding Writing.drop
drop_write-dropped-requires c = search rules

pub returns : goal.returns
unfolding Writing.drop
returns c node blocks differences = accepted refl c.drop_write-dropped.ensures refl refl (search guards)
