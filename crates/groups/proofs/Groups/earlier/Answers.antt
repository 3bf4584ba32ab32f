-- The bits below a node's are the ends of the earlier groups, and the highest of them is their last node's. Assumes nothing.
use mathlib.Core.Path.{◌≡◌, sym, ap, ◌∙◌}
use Prim.Native.Nat.{◌+◌, ◌-◌, ◌*◌, ◌%◌, ◌^◌, ◌<◌}
use native.Mathlib.Nat.{mod-le}
use native.Mathlib.Omega.{arith}
use lib.Pow.{pow_pos}
use Rattle.groups.specs.Groups.{total, earlier_nodes}
use Rattle.groups.specs.View.{sizes_from}
use Rattle.groups.proofs.Ends.{earlier-of, bit-of, seen, few-byte}
use Rattle.groups.proofs.Groups.earlier.Goals as goal

pub nonzero_rem-before : goal.nonzero_rem-before
nonzero_rem-before c = let j = c.args.j in omega (arith, bit-of (j - 1) (omega arith), pow_pos (j - 1))

pub returns : goal.returns
returns c = let a = c.args in
    let e = a.self.ends in
    let g = a.self in
    let small = few-byte g (omega (arith, c.requires.2)) in
    let back : a.j - 1 + 1 ≡ a.j = omega arith in
    let bit = bit-of (a.j - 1) (omega arith) in
    let low : e % (1 * 2 ^ (a.j - 1) % 2 ^ 64) < 256 = rw bit (omega (arith, mod-le e (2 ^ (a.j - 1)))) in
    c.nodes.ensures.0
    ∙ ap total (seen _ low)
    ∙ ap (λ p. total (sizes_from 8 (e % p) 0)) bit
    ∙ (earlier-of e (a.j - 1) small (omega arith) ∙ (ap (earlier_nodes (sizes_from 8 e 0)) back ∙ ap (λ sizes. earlier_nodes sizes a.j) (sym (seen g small))))
