-- What bytes are read as, by docs/IMAGE.md: a left inverse of the image (Claims). Assumes nothing.
use Rattle.std.specs.Prelude.{cond, List, map, ℕ, ◌+◌, ◌*◌, eqb, get_or, drop, Option, None, Some}
use Rattle.octets.specs.Octets.{word_at, piece, item}
use Rattle.basics.specs.Lists.{list_of}
use Rattle.code.specs.Bits.{bits_from}
use Rattle.code.specs.Decode.{NodeSet}
use Rattle.entries.specs.declared.WriteId.{WriteId}
use Rattle.entries.specs.declared.Mark.{Mark}
use Rattle.entries.specs.declared.Mark.TheVariants.{Recent, Old}
use Rattle.entries.specs.Entries.{Entry}
use Rattle.machine.specs.Stripe.{Stripe}
use Rattle.records.specs.declared.Sizes.{Sizes}
use Rattle.records.specs.declared.Opmode.{Opmode}
use Rattle.records.specs.declared.Opmode.TheVariants.{Norm, Recons, Init}
use Rattle.records.specs.declared.Lmode.{Lmode}
use Rattle.records.specs.declared.Lmode.TheVariants.{Unl, L0, L1, Exp}
use Rattle.records.specs.Client.{Client, Write, Rebuild, NoRebuild, Locking, Picking, Writing, Settling, Unlocking}
use Rattle.records.specs.Node.{Node}
use Rattle.records.specs.Sizes.{node_limit}
use Rattle.records.specs.View.{old_lmode}
use Rattle.image.specs.Records.{node_width, client_width}

-- a stripe and its sizes
pub record State : Type 0 where
  pub sizes : Sizes
  pub stripe : Stripe

-- what the header says of section i, from 0, and the bytes that stand there
abbrev pub offset_at : List ℕ → ℕ → ℕ
offset_at b i = word_at b (4 + 8 * i)

abbrev pub length_at : List ℕ → ℕ → ℕ
length_at b i = word_at b (8 + 8 * i)

abbrev pub section_at : List ℕ → ℕ → List ℕ
section_at b i = piece (length_at b i) (offset_at b i) b

abbrev pub set_from : ℕ → NodeSet
set_from v = bits_from node_limit v

abbrev pub id_from : List ℕ → WriteId
id_from b = record { client = get_or b 0 0; position = get_or b 1 0; number = record { 0 = word_at b 2 } }

abbrev pub mark_from : ℕ → Mark
mark_from x = cond (eqb x 0) Recent Old

abbrev pub entry_from : List ℕ → Entry
entry_from b = record { id = id_from b; mark = mark_from (get_or b 6 0); age = record { 0 = get_or b 7 0 } }

abbrev pub opmode_from : ℕ → Opmode
opmode_from x = cond (eqb x 0) Norm (cond (eqb x 1) Recons Init)

abbrev pub lmode_from : ℕ → Lmode
lmode_from x = cond (eqb x 0) Unl (cond (eqb x 1) L0 (cond (eqb x 2) L1 Exp))

abbrev pub holder_from : ℕ → Option ℕ
holder_from x = cond (eqb x 0) None (Some x)

-- a list by its count: the slots past it are not looked at
unfoldable pub entries_from : List ℕ → List Entry
entries_from b = list_of (get_or b 0 0) (λ i. entry_from (item 8 i (drop 1 b)))

unfoldable pub ids_from : List ℕ → List WriteId
ids_from b = list_of (get_or b 0 0) (λ i. id_from (item 6 i (drop 1 b)))

unfoldable pub node_from : List ℕ → Node
node_from b =
    record {
      opmode = opmode_from (get_or b 0 0);
      lmode = lmode_from (get_or b 1 0);
      holder = holder_from (get_or b 2 0);
      epoch = record { 0 = word_at b 3 };
      rset = set_from (word_at b 7);
      entries = entries_from (drop 11 b);
    }

abbrev pub previous_from : List ℕ → Option WriteId
previous_from b = cond (eqb (get_or b 0 0) 0) None (Some (id_from (drop 1 b)))

abbrev pub write_from : List ℕ → Write
write_from b = record { id = id_from b; previous = previous_from (drop 6 b); epoch = record { 0 = word_at b 13 }; done = set_from (word_at b 17) }

abbrev pub hand_from : List ℕ → Option Write
hand_from b = cond (eqb (get_or b 0 0) 0) None (Some (write_from (drop 1 b)))

abbrev pub phase_from : ℕ → ℕ → ℕ → ℕ → Rebuild
phase_from phase node set epoch =
    cond (eqb phase 0) NoRebuild
    (cond (eqb phase 1) (Locking (map old_lmode (bits_from node set)))
    (cond (eqb phase 2) (Picking node)
    (cond (eqb phase 3) (Writing node (set_from set) (record { 0 = epoch }))
    (cond (eqb phase 4) (Settling node (record { 0 = epoch })) (Unlocking node)))))

abbrev pub rebuild_from : List ℕ → Rebuild
rebuild_from b = phase_from (get_or b 0 0) (get_or b 1 0) (word_at b 2) (word_at b 6)

unfoldable pub client_from : List ℕ → Client
client_from b =
    record {
      hand = hand_from (piece 22 0 b);
      rebuild = rebuild_from (piece 10 22 b);
      finished = ids_from (piece 49 37 b);
      moved = ids_from (piece 49 86 b);
      round = get_or (piece 5 32 b) 0 0;
      next = record { 0 = word_at (piece 5 32 b) 1 };
    }

abbrev pub sizes_from : List ℕ → Sizes
sizes_from b = record { k = get_or b 0 0; n = get_or b 1 0; b = word_at b 4; failures = get_or b 2 0; m = get_or b 3 0 }

unfoldable pub nodes_from : ℕ → List ℕ → List Node
nodes_from n b = list_of n (λ i. node_from (item node_width i b))

unfoldable pub clients_from : ℕ → List ℕ → List Client
clients_from m b = list_of m (λ i. client_from (item client_width i b))

unfoldable pub stripe_from : Sizes → List ℕ → Stripe
stripe_from z b =
    record {
      nodes = nodes_from z.n (section_at b 1);
      clients = clients_from z.m (section_at b 2);
      blocks = section_at b 3;
      spare = section_at b 5;
      differences = section_at b 4;
    }

unfoldable pub state_from : List ℕ → State
state_from b = record { sizes = sizes_from (section_at b 0); stripe = stripe_from (sizes_from (section_at b 0)) b }
