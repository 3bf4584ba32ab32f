-- How the records of the code are seen as those of document 01. Assumes nothing.
use Rattle.std.specs.Prelude.{Bool, cond, List, ℕ, suc, Option, None, Some}
use Rattle.basics.specs.Lists.{list_of}
use Rattle.code.specs.declared.nodes.NodeSet.{NodeSet}
use Rattle.code.specs.Decode.{has}
use Rattle.code.specs.View.{node_set_of}
use Rattle.entries.specs.View.{ids_of, entries_of}
use Rattle.records.specs.declared.NodeRecord.{NodeRecord}
use Rattle.records.specs.declared.Lmode.{Lmode}
use Rattle.records.specs.declared.Lmode.TheVariants.{Unl, Exp}
use Rattle.records.specs.declared.Write.{Write}
use Rattle.records.specs.declared.Phase.{Phase}
use Rattle.records.specs.declared.ClientRecord.{ClientRecord}
use Rattle.records.specs.Client as Client
use Rattle.records.specs.Node.{Node}

abbrev pub node_of : NodeRecord → Node
node_of x =
    record {
      opmode = x.opmode;
      lmode = x.lmode;
      holder = x.holder;
      epoch = x.epoch;
      rset = node_set_of x.rset;
      entries = entries_of x.entries;
    }

abbrev pub write_of : Write → Client.Write
write_of w = record { id = w.id; previous = w.previous; epoch = w.epoch; done = node_set_of w.done }

abbrev pub hand_of : Option Write → Option Client.Write
hand_of None = None
hand_of (Some w) = Some (write_of w)

-- of the x nodes locked so far those in `expired` were EXP, the others UNL
abbrev pub old_lmode : Bool → Lmode
old_lmode was_exp = cond was_exp Exp Unl

abbrev pub old_lmodes : ℕ → NodeSet → List Lmode
old_lmodes x expired = list_of x (λ i. old_lmode (has (node_set_of expired) (suc i)))

abbrev pub rebuild_of : Phase → Client.Rebuild
rebuild_of Phase.NoRebuild = Client.NoRebuild
rebuild_of (Phase.Locking x expired) = Client.Locking (old_lmodes x expired)
rebuild_of (Phase.Picking j) = Client.Picking j
rebuild_of (Phase.Writing j set e) = Client.Writing j (node_set_of set) e
rebuild_of (Phase.Settling j e) = Client.Settling j e
rebuild_of (Phase.Unlocking j) = Client.Unlocking j

abbrev pub client_of : ClientRecord → Client.Client
client_of x =
    record {
      hand = hand_of x.hand;
      rebuild = rebuild_of x.phase;
      finished = ids_of x.finished;
      moved = ids_of x.moved;
      round = x.round;
      next = x.next;
    }
