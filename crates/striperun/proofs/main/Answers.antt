-- The lines are played only on sizes within the limits.
use Rattle.std.proofs.Common.{sym, ◌∙◌}
use Rattle.format.proofs.Tables.{within-tables}
use Rattle.striperun.proofs.main.Goals as goal

pub play_lines-requires : goal.play_lines-requires
play_lines-requires c = within-tables c.in-Some.z (sym c.within.ensures ∙ c.if-within.true)
