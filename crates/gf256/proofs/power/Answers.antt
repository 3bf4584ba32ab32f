-- `gf256::power` meets its contract: the powers have period 255. Assumes nothing.
use mathlib.Core.Path.{◌∙◌}
use Prim.Native.Nat.{◌%◌}
use Rattle.gf256.proofs.Laws.{power-mod}
use borrow.Author.Rules.{rules}
use Rattle.gf256.proofs.power.Goals as goal

pub returns : goal.returns
returns c = c.requires.at (c.args.i % 255) (search rules) ∙ power-mod c.args.i
