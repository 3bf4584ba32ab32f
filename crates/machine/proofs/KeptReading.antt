-- A read keeps the invariant and the shapes of the tables; and what an accepted read shows, live or the spare's, is what a first part of the swaps there
-- gave, with all that is done in it. Assumes nothing.
use mathlib.Core.Path.{◌≡◌, refl}
use mathlib.Core.Bool.{true, false}
use mathlib.Core.List.{List}
use Prim.Native.Nat.{ℕ, ◌*◌}
use native.Mathlib.Omega.{arith}
use lib.Dec.{eqb, leb}
use lib.ListN.{length}
use borrow.Author.Tests.{leb-true}
use Rattle.basics.specs.Lists.{every_of}
use Rattle.basics.proofs.Lists.{every-at}
use Rattle.basics.proofs.Tests.{clash, and_both, cond_ind}
use Rattle.blocks.specs.Blocks.{block, Bytes}
use Rattle.records.specs.declared.Sizes.{Sizes}
use Rattle.records.specs.declared.Source.{Source}
use Rattle.records.specs.declared.Source.TheVariants.{Live, Spare}
use Rattle.records.specs.Sizes.{is_position}
use Rattle.records.specs.Node.{failed_node, is_norm, is_unl, held_at_l1, holder_of}
use Rattle.records.specs.Client.{has_picked}
use Rattle.machine.specs.Stripe.{Stripe, Shown, number, node_at}
use Rattle.machine.specs.Reading.{read}
use Rattle.machine.specs.Calls.{step}
use Rattle.machine.specs.Calls as Calls
use Rattle.machine.specs.History.{Other, is_done}
use Rattle.machine.specs.Guarantee.{Shows}
use Rattle.machine.proofs.Columns.{L1, Columns}
use Rattle.machine.proofs.Ledger.{Ledger, IsPos, IsPart, note}
use Rattle.machine.proofs.Invariant.{Laws, Good}
use Rattle.machine.proofs.Frame.{norm-live}
use Rattle.machine.proofs.Bytes.{Block, block_of, ops}
use Rattle.machine.proofs.View.{columns, l1-is}
use Rattle.machine.proofs.Start.{live-part, spare-part}
use Rattle.machine.proofs.Reading.{shown-ind, read-leaves}
use Rattle.machine.proofs.Kept.{Fits, Kept, entered_as, refusal-number}

-- what is shown is block i of a table of n blocks, and of a first part of the swaps that the ledger tells of
pub record PartShown (z : Sizes) (h : Ledger Block) (i : ℕ) (shown : List ℕ) : Type 0 where
  pub table : List ℕ
  pub is : shown ≡ block z.b i table
  pub long : length table ≡ z.n * z.b
  pub bytes : Bytes table
  pub pos : IsPos (ops z) i
  pub part : IsPart (ops z) h i (block_of z.b table i)
  pub reported : h.stale ≡ false

module _ (z : Sizes) (L : Laws (ops z)) (h : Ledger Block) (s : Stripe) (g : Good (ops z) h (columns z s)) (f : Fits z s) (i : ℕ) where
  abbrev C : Columns Block
  C = columns z s

  -- the ledger is told nothing
  pub read_kept : Kept z h (Calls.read i) (step z (Calls.read i) s)
  unfolding step
  read_kept =
      let a = (read z i s).answer in
      record {
        good = rw (read-leaves z i s)
            (cond_ind (λ K. Good (ops z) (note (ops z) h (entered_as z.b K (is_done a)) C.block) C) (eqb (number a) 0) Other Other (λ t. g) (λ t. g));
        fits = rw (read-leaves z i s) f;
      }

  shows : (source : Source) (table : List ℕ) → length table ≡ z.n * z.b → Bytes table → IsPos (ops z) i → IsPart (ops z) h i (block_of z.b table i) →
      Shows (PartShown z h i) (Shown source (block z.b i table))
  shows source table long bytes pos part =
      record {
        source = source;
        shown = block z.b i table;
        is = refl;
        holds = record { table = table; is = refl; long = long; bytes = bytes; pos = pos; part = part; reported = g.inv.ids.no_stale };
      }

  position : is_position z i ≡ true → IsPos (ops z) i
  position e = let (low, high) = and_both (leb 1 i) (leb i z.k) e in record { low = leb-true 1 i low; high = leb-true i z.k high }

  -- who rebuilds holds node i at L1
  held_at : (c : ℕ) → every_of (held_at_l1 c) s.nodes ≡ true → IsPos (ops z) i → C.lock i ≡ L1 c
  held_at c held p =
      l1-is c (node_at s.nodes i) (every-at failed_node (held_at_l1 c) s.nodes held i p.low (rw f.nodes (omega (arith, p.high, L.k_n))))

  pub read-shown : eqb (number (step z (Calls.read i) s).answer) 0 ≡ true → Shows (PartShown z h i) (step z (Calls.read i) s).answer
  unfolding step
  read-shown =
      let node = node_at s.nodes i in
      let c = holder_of node in
      shown-ind z i s (λ o. eqb (number o.answer) 0 ≡ true → Shows (PartShown z h i) o.answer) (λ why t. clash t (refusal-number why))
      (λ e free t.
      let norm = (and_both (is_norm node.opmode) (is_unl node.lmode) free).0 in
      shows Live s.blocks f.blocks f.blocks_bytes (position e) (live-part (ops z) h C g i (position e) (norm-live node.opmode norm)))
      (λ e rebuilds t.
      let (picked, held) = and_both (has_picked (C.phase c)) (every_of (held_at_l1 c) s.nodes) rebuilds in
      shows Spare s.spare f.spare f.spare_bytes (position e) (spare-part (ops z) L h C g c i (position e) picked (held_at c held (position e))))
