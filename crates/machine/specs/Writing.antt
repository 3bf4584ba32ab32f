-- Document 01, "Writing": the calls at one node, but read, which is in specs/Reading. Each tests what it is lent, then in the order of the numbers.
-- Answer 1 is decided by the sizes and
--     swap           the node's record, the client's, the lengths of the blocks, the differences and the value
--     add            the node's record, the client's, the lengths of the blocks and the differences
--     check, sweep   the node's record, the client's
--     drop           the client's record
-- Assumes nothing.
use Rattle.std.specs.Prelude.{Bool, cond, ◌&&◌, ◌||◌, not, List, ℕ, ◌+◌, ◌-◌, eqb, leb, ltb, length, Option, None, Some}
use Rattle.blocks.specs.Blocks.{block, set_block, difference, add_times}
use Rattle.code.specs.Code.{coefficient}
use Rattle.code.specs.Decode.{NodeSet, has, no_nodes, including, excluding, each}
use Rattle.entries.specs.declared.WriteId.{WriteId}
use Rattle.entries.specs.Entries.{Entry, is_listed, is_recent_in, previous_recent, last_recent, discard, mark_old, entry_limit, finished_limit, write_limit}
use Rattle.records.specs.declared.Sizes.{Sizes}
use Rattle.records.specs.declared.Refusal.{Refusal}
use Rattle.records.specs.declared.Refusal.TheVariants.{OutOfLimits, OutOfRange, OutOfPhase, WrongMode, OldEpoch, BeforePrevious, Full, Exhausted}
use Rattle.records.specs.Sizes.{sizes_within, is_node, is_position, is_redundant, is_client}
use Rattle.records.specs.Node.{Node, is_free, takes_add, entered, with_entries, node_within}
use Rattle.records.specs.Client.{Client, Write, has_write, with_hand, began, finished_write, swept_on, client_within}
use Rattle.machine.specs.Stripe.{Accepted, Added, Done, CheckInit, CheckGc, NoChange, Outcome, answered, refused, guard, Local}
use Rattle.machine.specs.Stripe.{blocks_fit, differences_fit}

-- "1: size, record or buffer length outside the limits": the records and the tables that a call is lent
abbrev pub records_fit : Sizes → Local → Bool
records_fit z l = node_within z l.node && client_within z l.client

abbrev pub tables_fit : Sizes → Local → Bool
tables_fit z l = blocks_fit z l.blocks && differences_fit z l.differences

-- "4: the needs on modes are not met", with the node's opmode and lmode
abbrev pub wrong_mode : Node → Refusal
wrong_mode node = WrongMode node.opmode node.lmode

abbrev pub needing : Bool → Local → Outcome Local → Outcome Local
needing met l rest = guard (not met) (wrong_mode l.node) l rest

-- A swap's and an add's tests past 1 are decided by the two records alone, and stand apart from what the call does. "The lowest applicable number
-- wins": a chain of tests, in the order of their numbers, yields the refusal of the first that holds, or none
abbrev pub test : Bool → Refusal → Option Refusal → Option Refusal
test holds why rest = cond holds (Some why) rest

-- refused, a call leaves all unchanged; else it has its effect
abbrev pub unless : Option Refusal → Local → Outcome Local → Outcome Local
unless None l effect = effect
unless (Some why) l effect = refused why l

-- "The next write number, from 0, is used, the id entered as recent"
abbrev pub new_id : ℕ → ℕ → Client → WriteId
new_id c i client = record { client = c; position = i; number = client.next }

-- "Previous id = last recent id there, or none. .. the node's epoch taken; done = {i}"
abbrev pub new_write : ℕ → ℕ → Node → Client → Write
new_write c i node client =
    record { id = new_id c i client; previous = last_recent node.entries; epoch = node.epoch; done = including i no_nodes }

-- "Difference = value XOR old block."
abbrev pub swapped : Sizes → ℕ → ℕ → List ℕ → Local → Local
swapped z c i value l =
    record {
      node = entered (new_id c i l.client) l.node;
      client = began (new_write c i l.node l.client) l.client;
      blocks = set_block z.b i value l.blocks;
      differences = set_block z.b c (difference value (block z.b i l.blocks)) l.differences;
    }

-- "Swap c, i, value: needs node i NORM and UNL."
unfoldable pub swap_tests : Sizes → ℕ → ℕ → Node → Client → Option Refusal
swap_tests z c i node client =
    test (not (is_client z c && is_position z i)) OutOfRange
    (test (has_write client.hand || leb 1 client.round) OutOfPhase
    (test (not (is_free node)) (wrong_mode node)
    (test (leb entry_limit (length node.entries) || leb finished_limit (length client.finished)) Full
    (test (leb write_limit client.next.0) Exhausted
    None))))

unfoldable pub swap : Sizes → ℕ → ℕ → List ℕ → Local → Outcome Local
swap z c i value l =
    guard (not (sizes_within z && (records_fit z l && (tables_fit z l && eqb (length value) z.b)))) OutOfLimits l
    (unless (swap_tests z c i l.node l.client) l
    (answered Accepted (swapped z c i value l)))

-- "When done has i and every redundant node"
abbrev pub is_complete : Sizes → ℕ → NodeSet → Bool
is_complete z i done = has done i && each z.n (λ j. leb j z.k || has done j)

abbrev pub with_done : Write → NodeSet → Write
with_done write done = record { id = write.id; previous = write.previous; epoch = write.epoch; done = done }

-- "j joins done. When done has i and every redundant node .. the id joins the finished list and the write leaves the hand"
abbrev pub completes : Sizes → ℕ → Write → Bool
completes z j write = is_complete z write.id.position (including j write.done)

abbrev pub joined : Sizes → ℕ → Write → Client → Client
joined z j write client =
    cond (completes z j write) (finished_write write.id client) (with_hand (Some (with_done write (including j write.done))) client)

-- "Then c(j,i) times the difference is added and the id entered"
abbrev pub added_to : Sizes → ℕ → ℕ → Write → Local → Local
added_to z c j write l =
    record {
      node = entered write.id l.node;
      client = joined z j write l.client;
      blocks =
          set_block z.b j
          (add_times (coefficient j write.id.position) (block z.b j l.blocks) (block z.b c l.differences)) l.blocks;
      differences = l.differences;
    }

-- "the answer is Done". Without a write in hand the tests refuse the call
abbrev pub added : Sizes → ℕ → ℕ → Option Write → Local → Outcome Local
added z c j None l = refused OutOfPhase l
added z c j (Some write) l = answered (cond (completes z j write) Done Added) (added_to z c j write l)

-- "The previous id, if any, must be listed there, recent or old."
abbrev pub previous_test : Option WriteId → Node → Option Refusal → Option Refusal
previous_test None node rest = rest
previous_test (Some id) node rest = test (not (is_listed id node.entries)) (BeforePrevious id) rest

-- "3: .. add .. without one; add at a done node"; "needs NORM, lmode UNL or L0, and node epoch at most the write's"
unfoldable pub write_tests : ℕ → Option Write → Node → Option Refusal
write_tests j None node = Some OutOfPhase
write_tests j (Some write) node =
    test (has write.done j) OutOfPhase
    (test (not (takes_add node)) (wrong_mode node)
    (test (ltb write.epoch.0 node.epoch.0) (OldEpoch node.epoch)
    (previous_test write.previous node
    (test (leb entry_limit (length node.entries)) Full
    None))))

-- "Add c, j (j redundant)"
unfoldable pub add_tests : Sizes → ℕ → ℕ → Node → Client → Option Refusal
add_tests z c j node client = test (not (is_client z c && is_redundant z j)) OutOfRange (write_tests j client.hand node)

unfoldable pub add : Sizes → ℕ → ℕ → Local → Outcome Local
add z c j l =
    guard (not (sizes_within z && (records_fit z l && tables_fit z l))) OutOfLimits l
    (unless (add_tests z c j l.node l.client) l
    (added z c j l.client.hand l))

abbrev pub forgetting : Write → Write
forgetting write = record { id = write.id; previous = None; epoch = write.epoch; done = write.done }

abbrev pub with_client : Client → Local → Local
with_client client l = record { node = l.node; client = client; blocks = l.blocks; differences = l.differences }

unfoldable pub check_write : ℕ → Option Write → Local → Outcome Local
check_write j None l = refused OutOfPhase l
check_write j (Some write) l =
    guard (not (has write.done j)) OutOfPhase l
    (cond (not (is_recent_in write.id l.node.entries))
    (answered CheckInit (with_client (with_hand (Some (with_done write (excluding j write.done))) l.client) l))
    (cond (previous_recent write.previous l.node.entries)
    (answered NoChange l)
    (answered CheckGc (with_client (with_hand (Some (forgetting write)) l.client) l))))

-- "Check c, j (j in done): if the own id isn't recent at j, j leaves done (INIT). Else if there is no previous id, or it isn't recent there, it
-- becomes none (GC). Else NoChange."
unfoldable pub check : Sizes → ℕ → ℕ → Local → Outcome Local
check z c j l =
    guard (not (sizes_within z && records_fit z l)) OutOfLimits l
    (guard (not (is_client z c && is_node z j)) OutOfRange l
    (check_write j l.client.hand l))

-- "Drop c: the write leaves the hand."
unfoldable pub drop : Sizes → ℕ → Local → Outcome Local
drop z c l =
    guard (not (sizes_within z && client_within z l.client)) OutOfLimits l
    (guard (not (is_client z c)) OutOfRange l
    (guard (not (has_write l.client.hand)) OutOfPhase l
    (answered Accepted (with_client (with_hand None l.client) l))))

-- "A round goes over nodes 1 to n .. then over 1 to n": the node of the round's next sweep
abbrev pub sweep_node : Sizes → Client → ℕ
sweep_node z client = cond (ltb client.round z.n) (client.round + 1) (client.round - z.n + 1)

-- "discarding old entries whose ids are in the moved list, then .. marking the finished ids old"
abbrev pub swept_entries : Sizes → Client → List Entry → List Entry
swept_entries z client entries = cond (ltb client.round z.n) (discard client.moved entries) (mark_old client.finished entries)

abbrev pub swept : Sizes → Local → Local
swept z l =
    record {
      node = with_entries l.node (swept_entries z l.client l.node.entries);
      client = swept_on z.n l.client;
      blocks = l.blocks;
      differences = l.differences;
    }

-- "Sweep c: one node per call, needing NORM and UNL."
unfoldable pub sweep : Sizes → ℕ → Local → Outcome Local
sweep z c l =
    guard (not (sizes_within z && records_fit z l)) OutOfLimits l
    (guard (not (is_client z c)) OutOfRange l
    (guard (has_write l.client.hand) OutOfPhase l
    (needing (is_free l.node) l
    (answered Accepted (swept z l)))))
