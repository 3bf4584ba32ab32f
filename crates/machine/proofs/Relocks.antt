-- The calls that lock, weaken, expire and give back, record by record: all but the lock stays, and the lock is that of the columns. Assumes nothing.
use Rattle.std.specs.Prelude.{Option, None, Some}
use mathlib.Core.Path.{◌≡◌, refl}
use mathlib.Core.Bool.{Bool, true, false, cond, ◌&&◌, ◌||◌}
use mathlib.Core.List.{List, map}
use Prim.Native.Nat.{ℕ, zero, suc, ◌≤◌}
use native.Mathlib.Omega.{arith}
use lib.Dec.{leb, ltb}
use lib.ListN.{length, get_or}
use borrow.Author.Tests.{leb-true, leb-false}
use Rattle.records.specs.declared.Sizes.{Sizes}
use Rattle.records.specs.declared.Lmode.{Lmode}
use Rattle.records.specs.Node.{Node, failed_node, with_lmode, expired_for, weakened_by}
use Rattle.records.specs.Node as Node
use Rattle.records.specs.Client.{unl_or_exp}
use Rattle.basics.specs.Lists.{element_at}
use Rattle.machine.specs.Stripe.{node_at}
use Rattle.machine.specs.Rebuild.{restored, weakened}
use Rattle.basics.proofs.Tests.{clash}
use Rattle.machine.proofs.Columns.{Lock, Unl, Exp, L0, held_by}
use Rattle.machine.proofs.Invariant.{was_exp}
use Rattle.machine.proofs.View.{lock_of, lock_in, held-is}
use Rattle.basics.proofs.Lists.{map_at, from_at}
use Rattle.machine.proofs.Elements.{restored-first, restored-rest, unl-or-exp}
use Rattle.machine.proofs.Rebuild.Locks.{expired, given_back}

-- y is x with the lock l
pub record LockedAs (x : Node) (l : Lock) (y : Node) : Type 0 where
  pub opmode : y.opmode ≡ x.opmode
  pub lock : lock_in y ≡ l
  pub epoch : y.epoch ≡ x.epoch
  pub rset : y.rset ≡ x.rset
  pub entries : y.entries ≡ x.entries

with-lmode : (x : Node) (l : Lmode) (h : Option ℕ) → LockedAs x (lock_of l h) (with_lmode x l h)
with-lmode x l h = record { opmode = refl; lock = refl; epoch = refl; rset = refl; entries = refl }

as-it-is : (x : Node) → LockedAs x (lock_in x) x
as-it-is x = record { opmode = refl; lock = refl; epoch = refl; rset = refl; entries = refl }

-- one test for the lock and the record
one-test : {x y y' : Node} {l l' : Lock} (t : Bool) → LockedAs x l y → LockedAs x l' y' → LockedAs x (cond t l l') (cond t y y')
one-test true v v' = v
one-test false v v' = v'

module _ (nodes : List Node) (c : ℕ) where
  pub weakened-each : (z : Sizes) → length nodes ≡ z.n → (j : ℕ) →
      LockedAs (node_at nodes j) (cond (ltb z.k j && leb j z.n) (L0 c) (lock_in (node_at nodes j))) (node_at (weakened z c nodes) j)
  weakened-each z fit j =
      rw (from_at failed_node (weakened_by c) z.k z.n nodes fit j)
      (one-test (ltb z.k j && leb j z.n) (with-lmode (node_at nodes j) Lmode.L0 (Some c)) (as-it-is (node_at nodes j)))

  module _ (c1 : 1 ≤ c) where
    pub expired-each : (j : ℕ) → LockedAs (node_at nodes j) (expired c (lock_in (node_at nodes j))) (node_at (map (expired_for c) nodes) j)
    expired-each j = rw (map_at failed_node (expired_for c) refl nodes j) (one (node_at nodes j))
      where
        one : (x : Node) → LockedAs x (expired c (lock_in x)) (expired_for c x)
        one x = rw (← held-is c x c1) (one-test (Node.held_by c x) (with-lmode x Lmode.Exp None) (as-it-is x))

    -- what is remembered of a node is UNL or EXP
    module _ (old : List Lmode) (fit : unl_or_exp old ≡ true) where
      given : (x : Node) (l : Lmode) → (Node.is_unl l || Node.is_exp l) ≡ true → LockedAs x (cond (Node.is_exp l) Exp Unl) (with_lmode x l None)
      given x Lmode.Unl e = with-lmode x Lmode.Unl None
      given x Lmode.L0 e = clash e refl
      given x Lmode.L1 e = clash e refl
      given x Lmode.Exp e = with-lmode x Lmode.Exp None

      pub restored-each : (j : ℕ) → LockedAs (node_at nodes j) (given_back c old j (lock_in (node_at nodes j))) (node_at (restored c old nodes) j)
      unfolding element_at was_exp
      restored-each zero = go (leb 0 (length old))
        where
          go : (t : Bool) → LockedAs failed_node (cond (t && false) Unl Unl) failed_node
          go true = as-it-is failed_node
          go false = as-it-is failed_node
      restored-each (suc j) = go (leb (suc j) (length old)) refl
        where
          l : Lmode
          l = get_or old j Lmode.Unl

          x : Node
          x = get_or nodes j failed_node

          go : (t : Bool) → leb (suc j) (length old) ≡ t →
              LockedAs x (cond (t && held_by c (lock_in x)) (cond (Node.is_exp l) Exp Unl) (lock_in x)) (get_or (restored c old nodes) j failed_node)
          go true q =
              rw (restored-first c old nodes j (leb-true (suc j) (length old) q), ← held-is c x c1)
              (one-test (Node.held_by c x) (given x l (unl-or-exp old fit j)) (as-it-is x))
          go false q = rw (restored-rest c old nodes j (let a = leb-false (suc j) (length old) q in omega arith)) (as-it-is x)
