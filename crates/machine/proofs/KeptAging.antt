-- The calls of specs/Aging keep the invariant and the shapes of the tables. Assumes nothing.
use mathlib.Core.Path.{◌≡◌, refl, ap, fun_ext, ◌∙◌}
use mathlib.Core.List.{map}
use Prim.Native.Nat.{ℕ}
use lib.ListN.{length-map}
use Rattle.basics.proofs.Lists.{map_at}
use Rattle.entries.specs.Entries.{aged}
use Rattle.records.specs.declared.Sizes.{Sizes}
use Rattle.records.specs.Node.{Node, failed_node, ticked}
use Rattle.records.specs.Client.{Client, fresh_client}
use Rattle.machine.specs.Stripe.{Stripe, Accepted, answered, Whole, node_at, client_at, put_whole}
use Rattle.machine.specs.Aging as Aging
use Rattle.machine.specs.Calls.{Call, step}
use Rattle.machine.specs.Calls as Calls
use Rattle.machine.proofs.Columns.{Columns}
use Rattle.machine.proofs.Ledger.{Ledger}
use Rattle.machine.proofs.Invariant.{Good}
use Rattle.machine.proofs.Bytes.{Block, ops}
use Rattle.machine.proofs.View.{columns, lock_in, with_nodes, with_clients, set_same, set_at-length}
use Rattle.machine.proofs.Kept.{Fits, Kept, KeptWhole, at-guard, at_same, whole-guard}
use Rattle.machine.proofs.Aging.Tick.{older, tick-good}

module _ (z : Sizes) (h : Ledger Block) (s : Stripe) (g : Good (ops z) h (columns z s)) (f : Fits z s) where
  ---- the due test changes nothing
  pub due-kept : (j : ℕ) → Kept z h (Calls.due j) (step z (Calls.due j) s)
  unfolding step Aging.due
  due-kept j = at-guard z h s g f x j 0 _ _ _ (λ r1. at-guard z h s g f x j 0 _ _ _ (λ r2. at_same z h s g f x j 0 _ (λ b. refl)))
    where
      x : Call
      x = Calls.due j

  ---- a tick changes the entries' column
  abbrev C : Columns Block
  C = columns z s

  abbrev aging : Whole
  aging = record { nodes = map ticked s.nodes; client = client_at s.clients 0; blocks = s.blocks; spare = s.spare }

  ticked-at : (j : ℕ) → node_at (map ticked s.nodes) j ≡ ticked (node_at s.nodes j)
  unfolding aged
  ticked-at = map_at failed_node ticked refl s.nodes

  seen : columns z (put_whole 0 aging s) ≡ older (ops z) C
  seen =
      ap (λ l. columns z (with_clients (with_nodes s (map ticked s.nodes)) l)) (set_same (λ (y : Client). y) fresh_client s.clients 0)
      ∙ (λ i. record {
        block = C.block;
        op = fun_ext (λ j. ap (λ (x : Node). x.opmode) (ticked-at j)) i;
        lock = fun_ext (λ j. ap lock_in (ticked-at j)) i;
        epoch = fun_ext (λ j. ap (λ (x : Node). x.epoch.0) (ticked-at j)) i;
        rset = fun_ext (λ j. ap (λ (x : Node). x.rset) (ticked-at j)) i;
        entries = fun_ext (λ j. ap (λ (x : Node). x.entries) (ticked-at j)) i;
        hand = C.hand;
        phase = C.phase;
        finished = C.finished;
        next = C.next;
        difference = C.difference;
        spare = C.spare;
      })

  tick-accepted : KeptWhole z h s g f Calls.tick 0 (answered Accepted aging)
  tick-accepted =
      record {
        good = rw seen (tick-good (ops z) h C g);
        fits = record {
          nodes = length-map s.nodes ticked ∙ f.nodes;
          clients = set_at-length s.clients 0 (client_at s.clients 0) ∙ f.clients;
          blocks = f.blocks;
          spare = f.spare;
          differences = f.differences;
          blocks_bytes = f.blocks_bytes;
          spare_bytes = f.spare_bytes;
          differences_bytes = f.differences_bytes;
        };
      }

  pub tick-kept : Kept z h Calls.tick (step z Calls.tick s)
  unfolding step Aging.tick
  tick-kept = whole-guard z h s g f Calls.tick 0 _ _ _ (λ r. tick-accepted)
