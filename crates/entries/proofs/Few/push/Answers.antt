-- A store after the last. Assumes nothing.
use Rattle.std.proofs.Common.{rules}
use Rattle.entries.proofs.Lists.{list_of-push}
use Rattle.entries.proofs.Few.push.Goals as goal

pub returns : goal.returns
returns g c d = list_of-push (λ x. x) c.args.self.items c.args.self.count _ _ (search rules)
