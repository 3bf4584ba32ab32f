-- The fresh stripe has the invariant, and its tables their shapes. Assumes nothing.
use mathlib.Core.Path.{◌≡◌, refl, ap}
use mathlib.Core.Bool.{true, false}
use mathlib.Core.List.{List, []}
use Prim.Native.Nat.{ℕ, zero, suc, ◌*◌, ◌≤◌, ◌<◌}
use native.Mathlib.Decide.{dec_lt}
use native.Mathlib.Omega.{arith}
use lib.ListN.{length, get_or, replicate, length-replicate, get_or-replicate, get_or-eq_default}
use Rattle.blocks.specs.Blocks.{Bytes}
use Rattle.code.specs.Decode.{no_nodes}
use Rattle.records.specs.declared.Sizes.{Sizes}
use Rattle.records.specs.Node.{Node, fresh_node, failed_node, is_init, is_recons}
use Rattle.records.specs.Client.{Client, fresh_client}
use Rattle.basics.specs.Lists.{element_at}
use Rattle.machine.specs.Stripe.{node_at, client_at, fresh}
use Rattle.basics.proofs.Tests.{clash}
use Rattle.machine.proofs.Columns.{Unl}
use Rattle.machine.proofs.Ledger.{no_ledger}
use Rattle.machine.proofs.Invariant.{Laws, IsNode, Good}
use Rattle.machine.proofs.Bytes.{Block, ops}
use Rattle.machine.proofs.View.{lock_in, columns}
use Rattle.machine.proofs.Tables.{bytes-zeroes, zero-blocks}
use Rattle.machine.proofs.Kept.{Fits}
use Rattle.machine.proofs.Start.{start-good}

-- element j of n times x is x, if there is one
element-ind : {A : Type 0} (P : A → Type 0) (x d : A) (n j : ℕ) → (1 ≤ j → j ≤ n → P x) → ((1 ≤ j → j ≤ n → ⊥) → P d) → P (element_at d (replicate n x) j)
unfolding element_at
element-ind P x d n zero p q = q (λ a b. omega arith)
element-ind P x d n (suc j) p q = by (dec_lt j n)
  where
    by : Dec (j < n) → P (get_or (replicate n x) j d)
    by (yes l) = rw (get_or-replicate n j x d l) (p (omega arith) l)
    by (no m) = rw (get_or-eq_default (replicate n x) d {n = j} (rw (length-replicate n x) (omega arith))) (q (λ a b. m b))

module _ (z : Sizes) (spare differences : List ℕ) where
  -- node j is fresh, or there is none and it counts as failed
  node-ind : (P : Node → Type 0) (j : ℕ) → (IsNode (ops z) j → P fresh_node) → ((IsNode (ops z) j → ⊥) → P failed_node) →
      P (node_at (fresh z spare differences).nodes j)
  node-ind P j p q = element-ind P fresh_node failed_node z.n j (λ a b. p (record { low = a; high = b })) (λ out. q (λ r. out r.low r.high))

  client-fresh : (c : ℕ) → client_at (fresh z spare differences).clients c ≡ fresh_client
  client-fresh c = element-ind (λ y. y ≡ fresh_client) fresh_client fresh_client z.m c (λ a b. refl) (λ out. refl)

  pub fresh-good : Laws (ops z) → Good (ops z) (no_ledger (ops z)) (columns z (fresh z spare differences))
  fresh-good L =
      start-good (ops z) L (columns z (fresh z spare differences))
      (record {
        block = λ j. ap (λ (b : ℕ → Block). b j) (zero-blocks z.b (z.n * z.b));
        live = λ j. node-ind (λ x. is_init x.opmode ≡ false → IsNode (ops z) j) j (λ r t. r) (λ out t. clash refl t);
        init = λ j. node-ind (λ x. is_init x.opmode ≡ true → IsNode (ops z) j → ⊥) j (λ r t. clash t refl) (λ out t. out);
        recons = λ j. node-ind (λ x. is_recons x.opmode ≡ false) j (λ r. refl) (λ out. refl);
        lock = λ j. node-ind (λ x. lock_in x ≡ Unl) j (λ r. refl) (λ out. refl);
        epoch = λ j. node-ind (λ x. x.epoch.0 ≡ 0) j (λ r. refl) (λ out. refl);
        rset = λ j. node-ind (λ x. x.rset ≡ no_nodes) j (λ r. refl) (λ out. refl);
        entries = λ j. node-ind (λ x. x.entries ≡ []) j (λ r. refl) (λ out. refl);
        hand = λ c. ap (λ (y : Client). y.hand) (client-fresh c);
        phase = λ c. ap (λ (y : Client). y.rebuild) (client-fresh c);
        finished = λ c. ap (λ (y : Client). y.finished) (client-fresh c);
      })

  pub fresh-fits : length spare ≡ z.n * z.b → length differences ≡ z.m * z.b → Bytes spare → Bytes differences → Fits z (fresh z spare differences)
  fresh-fits ls ld bytes-spare bytes-differences =
      record {
        nodes = length-replicate z.n fresh_node;
        clients = length-replicate z.m fresh_client;
        blocks = length-replicate (z.n * z.b) 0;
        spare = ls;
        differences = ld;
        blocks_bytes = bytes-zeroes (z.n * z.b);
        spare_bytes = bytes-spare;
        differences_bytes = bytes-differences;
      }
