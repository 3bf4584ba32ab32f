-- Sizes within the limits have few clients.
use Rattle.std.proofs.Common.{sym, ◌∙◌}
use Rattle.limits.proofs.Limits.{clients-few}
use Rattle.volumeplay.proofs.show.put_given.Goals as goal

pub put_answer-requires : goal.put_answer-requires
put_answer-requires g c = clients-few c.args.volume.z (sym c.within.ensures ∙ c.if-not-within.false)
