-- `gf256::index` meets its contract. Assumes nothing.
use mathlib.Core.Logic.{⊎_elim}
use native.Mathlib.Nat.{eq-zero-or-pos}
use native.Mathlib.Omega.{arith}
use Rattle.gf256.proofs.index.Goals as goal

pub returns : goal.returns
returns c = let flag = c.nonzero.ensures in
    let a = c.args.a in (
      ⊎_elim (λ z. omega (arith, flag.1 z)) (λ p. omega (arith, flag.2 p)) (eq-zero-or-pos a),
      ⊎_elim (λ z. omega (arith, flag.1 z)) (λ p. omega (arith, flag.2 p)) (eq-zero-or-pos a),
      λ z. omega (arith, flag.1 z),
      λ p. omega (arith, flag.2 p),
    )
