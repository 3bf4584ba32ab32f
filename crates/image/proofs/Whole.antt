-- The sets of the code's records have a place for each of 18 nodes. Assumes nothing.
use Rattle.std.specs.Prelude.{Option, None, Some}
use mathlib.Core.Bool.{true}
use mathlib.Core.Path.{◌≡◌, refl}
use lib.ListN.{length}
use borrow.Author.Tests.{eq-eqb}
use Rattle.code.specs.declared.nodes.NodeSet.{NodeSet}
use Rattle.code.specs.View.{node_set_of}
use Rattle.code.proofs.Members.{eighteen}
use Rattle.records.specs.declared.ClientRecord.{ClientRecord}
use Rattle.records.specs.declared.NodeRecord.{NodeRecord}
use Rattle.records.specs.declared.Phase.{Phase}
use Rattle.records.specs.declared.Phase.TheVariants.{NoRebuild, Locking, Picking, Writing, Settling, Unlocking}
use Rattle.records.specs.declared.Write.{Write}
use Rattle.records.specs.View.{node_of, hand_of, rebuild_of, client_of}
use Rattle.image.specs.Image.{is_whole, node_whole, hand_whole, rebuild_whole, client_whole}

pub set-whole : (s : NodeSet) → is_whole (node_set_of s) ≡ true
set-whole s = eq-eqb (length (node_set_of s)) 18 (eighteen s)

pub node-whole : (x : NodeRecord) → node_whole (node_of x) ≡ true
node-whole x = set-whole x.rset

hand-whole : (h : Option Write) → hand_whole (hand_of h) ≡ true
hand-whole None = refl
hand-whole (Some w) = set-whole w.done

rebuild-whole : (p : Phase) → rebuild_whole (rebuild_of p) ≡ true
rebuild-whole NoRebuild = refl
rebuild-whole (Locking x expired) = refl
rebuild-whole (Picking j) = refl
rebuild-whole (Writing j set e) = set-whole set
rebuild-whole (Settling j e) = refl
rebuild-whole (Unlocking j) = refl

pub client-whole : (x : ClientRecord) → client_whole (client_of x) ≡ true
client-whole x = rw (hand-whole x.hand, rebuild-whole x.phase)
