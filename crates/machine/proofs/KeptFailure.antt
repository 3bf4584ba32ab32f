-- The calls of specs/Failure keep the invariant and the shapes of the tables. Assumes nothing.
use mathlib.Core.Path.{◌≡◌, ap, ◌∙◌}
use mathlib.Core.Bool.{Bool, false}
use mathlib.Core.List.{List, map}
use Prim.Native.Nat.{ℕ, ◌*◌}
use lib.ListN.{length, length-map}
use borrow.Author.Tests.{eqb-true, not-false}
use Rattle.blocks.specs.Blocks.{set_block, Bytes}
use Rattle.records.specs.declared.Sizes.{Sizes}
use Rattle.records.specs.declared.Refusal.{Refusal}
use Rattle.records.specs.Sizes.{sizes_within}
use Rattle.records.specs.Node.{Node, failed_node, expired_for}
use Rattle.records.specs.Client.{Client, fresh_client, stopped}
use Rattle.machine.specs.Stripe.{Stripe, replacing, Accepted, Outcome, Local, answered, guard, client_at, at_node, put_node, whole, blocks_fit}
use Rattle.basics.specs.Lists.{set_at}
use Rattle.machine.specs.Calls.{Call, step}
use Rattle.machine.specs.Calls as Calls
use Rattle.machine.specs.Failure as Failure
use Rattle.machine.specs.Rebuild.{out_of_limits}
use Rattle.basics.proofs.Tests.{and_both}
use Rattle.machine.proofs.Columns.{Columns}
use Rattle.machine.proofs.Ledger.{Ledger}
use Rattle.machine.proofs.Invariant.{Laws, Good}
use Rattle.machine.proofs.Bytes.{Block, view, ops}
use Rattle.machine.proofs.View.{columns, with_client, with_nodes, with_clients, set_same, put-node, upd-keep}
use Rattle.machine.proofs.Kept.{Fits, Kept, KeptAt, KeptWhole, at-guard, whole-refused}
use Rattle.machine.proofs.KeptWriting.{Within, within, Sized, put-sized, put-seen, put-fits}
use Rattle.machine.proofs.KeptRebuild.{begins, other-nodes, relock-columns, put-kept}
use Rattle.machine.proofs.Relocks.{expired-each}
use Rattle.machine.proofs.Rebuild.Locks.{expired}
use Rattle.machine.proofs.Failure.Fail.{failed, fail-good}
use Rattle.machine.proofs.Failure.Stop as Columns
use Rattle.machine.proofs.Failure.Stop.{stop-good}

module _ (z : Sizes) (L : Laws (ops z)) (h : Ledger Block) (s : Stripe) (g : Good (ops z) h (columns z s)) (f : Fits z s) where
  abbrev C : Columns Block
  C = columns z s

  ---- a node fails
  module _ (j : ℕ) (value : List ℕ) (bytes : Bytes value) where
    abbrev fail : Call
    fail = Calls.fail j value

    abbrev fallen : Local
    fallen =
        record { node = failed_node; client = client_at s.clients 0; blocks = set_block z.b j value s.blocks; differences = s.differences }

    fail-accepted : Within z.n j → length value ≡ z.b → KeptAt z h s g f fail j 0 (answered Accepted fallen)
    fail-accepted node len =
        record {
          good = rw seen (fail-good (ops z) L h C j (view z.b value) g);
          fits = put-fits z L h s g f j 0 fallen (put-sized z.b z.n j s.blocks blocks node value value-sized)
              (record { many = f.differences; bytes = f.differences_bytes });
        }
      where
        blocks : Sized (z.n * z.b) s.blocks
        blocks = record { many = f.blocks; bytes = f.blocks_bytes }

        value-sized : Sized z.b value
        value-sized = record { many = len; bytes = bytes }

        tables : Stripe
        tables = replacing s.nodes s.clients fallen.blocks s.spare s.differences s

        seen : columns z (put_node j 0 fallen s) ≡ failed (ops z) C j (view z.b value)
        seen =
            ap (λ l. columns z (with_clients (with_nodes tables (set_at s.nodes j failed_node)) l)) (set_same (λ (y : Client). y) fresh_client s.clients 0)
            ∙ put-node z tables j failed_node node.0 (rw f.nodes node.1)
            ∙ rw (put-seen z.b z.n j s.blocks blocks node value value-sized)

    pub fail-kept : Kept z h fail (step z fail s)
    unfolding step Failure.fail
    fail-kept =
        tested _ _ _ (λ r1. tested _ _ _ (λ r2.
        let many = (and_both (blocks_fit z s.blocks) _ (and_both (sizes_within z) _ (not-false _ r1)).1).1 in
        fail-accepted (within (not-false _ r2)) (eqb-true _ _ many)))
      where
        tested : (test : Bool) (why : Refusal) (rest : Outcome Local) → (test ≡ false → KeptAt z h s g f fail j 0 rest) →
            KeptAt z h s g f fail j 0 (guard test why (at_node j 0 s) rest)
        tested = at-guard z h s g f fail j 0

  ---- a client stops
  module _ (c : ℕ) where
    abbrev stop : Call
    stop = Calls.stop c

    abbrev client : Client
    client = client_at s.clients c

    abbrev expired_nodes : List Node
    expired_nodes = map (expired_for c) s.nodes

    pub stop-kept : Kept z h stop (step z stop s)
    unfolding step Failure.stop
    stop-kept =
        begins z L h s g f c (KeptWhole z h s g f stop c) (whole-refused z h s g f stop c) (out_of_limits z (whole c s)) _ (λ e. e)
        (λ i. put-kept z L h s g f c i stop Accepted expired_nodes s.blocks s.spare (stopped client)
        (other-nodes z L h s g f c (length-map s.nodes (expired_for c) ∙ f.nodes)) (Columns.stopped (ops z) c C)
        (ap (λ D. with_client D c (stopped client))
        (relock-columns z L h s g f c expired_nodes (λ j. expired c (C.lock j)) (expired-each s.nodes c i.low))
        ∙ rw (upd-keep C.next c)) (stop-good (ops z) h C g c))
