-- Document 01, "Rebuild": the calls on the whole stripe. Each tests what it is lent, then in the order of the numbers. Answer 1 is decided by the
-- sizes, all n node records and the client's record; of pick and write also by the lengths of the blocks and the spare. Assumes nothing.
use Rattle.std.specs.Prelude.{Bool, cond, ◌&&◌, ◌||◌, not, List, [], ◌∷◌, ◌++◌, map, ℕ, zero, suc, ◌+◌, ◌-◌, max, eqb, leb, ltb, length, take}
use Rattle.std.proofs.Math.ListN as ListN
use Rattle.blocks.specs.Blocks.{block, set_block}
use Rattle.code.specs.Decode.{NodeSet, has, no_nodes, set_of, size, lowest, recovered_table, invertible}
use Rattle.entries.specs.declared.Epoch.{Epoch}
use Rattle.entries.specs.declared.WriteId.{WriteId}
use Rattle.entries.specs.Entries.{Entry, is_recent, is_in, is_old_in}
use Rattle.records.specs.declared.Sizes.{Sizes}
use Rattle.records.specs.declared.Lmode.{Lmode}
use Rattle.records.specs.declared.Refusal.TheVariants.{OutOfLimits, OutOfRange, OutOfPhase, Exhausted, Locked, NotHeld, TooFew, NoInverse}
use Rattle.records.specs.Sizes.{sizes_within, is_client}
use Rattle.records.specs.Node.{Node, epoch_limit, is_norm, is_recons, is_init, is_l0, is_l1, held_by, held_at_l1, locked_by, weakened_by, unlocked, expired_for}
use Rattle.records.specs.Node.{given_back, written, settled}
use Rattle.records.specs.Client.{Rebuild, NoRebuild, Locking, Picking, Writing, Settling, Unlocking, has_rebuild, with_rebuild}
use Rattle.records.specs.Client.{remembered, next_node, locked_rebuild, next_rebuild, client_within}
use Rattle.machine.specs.Stripe.{Accepted, Rebuilt, Refused, Outcome, answered, guard, Whole, node_at, blocks_fit, nodes_fit}
use Rattle.basics.specs.Lists.{set_at}
use Rattle.basics.specs.Lists.{every_of, some_of}

-- other node records, and the client's rebuild in another phase
abbrev pub advanced : List Node → Rebuild → Whole → Whole
advanced nodes r w = record { nodes = nodes; client = with_rebuild r w.client; blocks = w.blocks; spare = w.spare }

-- "10: a rebuild call after Lock meets a needed node not held by c: all held by c become EXP; rebuild ends"
abbrev pub lost : ℕ → Whole → Whole
lost c w = advanced (map (expired_for c) w.nodes) NoRebuild w

unfoldable pub holding : Bool → ℕ → Whole → Outcome Whole → Outcome Whole
holding held c w rest = cond held rest (answered (Refused NotHeld) (lost c w))

abbrev pub out_of_limits : Sizes → Whole → Bool
out_of_limits z w = not (sizes_within z && (nodes_fit z w.nodes && client_within z w.client))

-- "The phases are n locks; then picks, weakens and tightens up to the first accepted pick; then n writes, n settles, n unlocks."
abbrev pub locks : ℕ
locks = 1

abbrev pub picks : ℕ
picks = 2

abbrev pub writes : ℕ
writes = 3

abbrev pub settles : ℕ
settles = 4

abbrev pub unlocks : ℕ
unlocks = 5

-- the phase of a rebuild; a client that has none begins with a lock
abbrev pub phase_of : Rebuild → ℕ
phase_of NoRebuild = locks
phase_of (Locking old) = locks
phase_of (Picking t) = picks
phase_of (Writing j set epoch) = writes
phase_of (Settling j epoch) = settles
phase_of (Unlocking j) = unlocks

-- "3: .. rebuild call out of its phase"
abbrev pub out_of : ℕ → Whole → Bool
out_of phase w = not (eqb (phase_of w.client.rebuild) phase)

-- the node that the client's rebuild is at, and its record
abbrev pub own : Whole → ℕ
own w = next_node w.client.rebuild

abbrev pub own_node : Whole → Node
own_node w = node_at w.nodes (own w)

-- that record becomes `node`, and the rebuild goes on with the next node, or the next phase
abbrev pub gone_on : Sizes → Node → Whole → Whole
gone_on z node w = advanced (set_at w.nodes (own w) node) (next_rebuild z.n w.client.rebuild) w

-- the set and E, which a rebuild has from its accepted pick on
abbrev pub set_in : Rebuild → NodeSet
set_in NoRebuild = no_nodes
set_in (Locking old) = no_nodes
set_in (Picking t) = no_nodes
set_in (Writing j set epoch) = set
set_in (Settling j epoch) = no_nodes
set_in (Unlocking j) = no_nodes

abbrev pub epoch_in : Rebuild → Epoch
epoch_in NoRebuild = record { 0 = 0 }
epoch_in (Locking old) = record { 0 = 0 }
epoch_in (Picking t) = record { 0 = 0 }
epoch_in (Writing j set epoch) = epoch
epoch_in (Settling j epoch) = epoch
epoch_in (Unlocking j) = record { 0 = 0 }

-- "9: lock of a node at L0 or L1: nodes still held by c get their old lmode; rebuild ends"
unfoldable pub restored : ℕ → List Lmode → List Node → List Node
restored c [] nodes = nodes
restored c (lmode ∷ old) [] = []
restored c (lmode ∷ old) (node ∷ nodes) = given_back c lmode node ∷ restored c old nodes

-- "the next node, 1 to n, goes from UNL or EXP to L1, held by c; its old lmode is remembered"
unfoldable pub lock_node : Sizes → ℕ → List Lmode → Whole → Outcome Whole
lock_node z c old w =
    let j = length old + 1 in
    let node = node_at w.nodes j in
    cond (is_l0 node.lmode || is_l1 node.lmode)
    (answered (Refused Locked) (advanced (restored c old w.nodes) NoRebuild w))
    (answered Accepted
    (advanced (set_at w.nodes j (locked_by c node)) (locked_rebuild z.n node.lmode old) w))

-- "Lock c"
unfoldable pub lock : Sizes → ℕ → Whole → Outcome Whole
lock z c w =
    guard (out_of_limits z w) OutOfLimits w
    (guard (not (is_client z c)) OutOfRange w
    (guard (out_of locks w) OutOfPhase w
    (lock_node z c (remembered w.client.rebuild) w)))

-- "ids marked old at any NORM node"
abbrev pub old_somewhere : List Node → WriteId → Bool
old_somewhere nodes id = some_of (λ node. is_norm node.opmode && is_old_in id node.entries) nodes

-- "f of a node is the set of its recent ids, without ids marked old at any NORM node"
unfoldable pub recent_ids : List Node → List Entry → List WriteId
recent_ids nodes [] = []
recent_ids nodes (entry ∷ entries) =
    cond (is_recent entry && not (old_somewhere nodes entry.id)) (entry.id ∷ recent_ids nodes entries) (recent_ids nodes entries)

abbrev pub f : List Node → ℕ → List WriteId
f nodes j = recent_ids nodes (node_at nodes j).entries

unfoldable pub at_position : ℕ → List WriteId → List WriteId
at_position i [] = []
at_position i (id ∷ ids) = cond (eqb id.position i) (id ∷ at_position i ids) (at_position i ids)

-- the same set of ids
abbrev pub same_ids : List WriteId → List WriteId → Bool
same_ids a b = every_of (λ id. is_in id b) a && every_of (λ id. is_in id a) b

-- "all redundant members have equal f; each data member's f equals the ids of its position in each redundant member's f":
-- node j beside the redundant member r
abbrev pub fits : Sizes → List Node → ℕ → ℕ → Bool
fits z nodes r j = same_ids (f nodes j) (cond (leb j z.k) (at_position j (f nodes r)) (f nodes r))

-- "only NORM nodes": the largest consistent set without a redundant member, and the largest with the redundant member r
abbrev pub all_data : Sizes → List Node → NodeSet
all_data z nodes = set_of (λ j. leb j z.k && is_norm (node_at nodes j).opmode)

abbrev pub besides : Sizes → List Node → ℕ → NodeSet
besides z nodes r = set_of (λ j. is_norm (node_at nodes j).opmode && fits z nodes r j)

-- "The largest is taken, on a tie the all-data set, then the one with the lowest redundant member": of the redundant nodes k + 1 to k + d
unfoldable pub largest : Sizes → List Node → ℕ → NodeSet
largest z nodes zero = all_data z nodes
largest z nodes (suc d) =
    let set = largest z nodes d in
    let r = z.k + suc d in
    cond (is_norm (node_at nodes r).opmode && ltb (size set) (size (besides z nodes r))) (besides z nodes r) set

abbrev pub some_recons : List Node → Bool
some_recons nodes = some_of (λ node. is_recons node.opmode) nodes

-- "the union of all rsets without INIT nodes, plus every RECONS node"
abbrev pub resumed : List Node → NodeSet
resumed nodes =
    set_of (λ j. is_recons (node_at nodes j).opmode || (not (is_init (node_at nodes j).opmode) && some_of (λ node. has node.rset j) nodes))

abbrev pub picked_set : Sizes → List Node → NodeSet
picked_set z nodes = cond (some_recons nodes) (resumed nodes) (largest z nodes (z.n - z.k))

unfoldable pub count_init : List Node → ℕ
count_init [] = 0
count_init (node ∷ nodes) = cond (is_init node.opmode) (suc (count_init nodes)) (count_init nodes)

-- "it needs k members. Otherwise the set needs k + slack members, slack = t_d less the number of INIT nodes, at least 0"
abbrev pub needed_size : Sizes → List Node → ℕ
needed_size z nodes = cond (some_recons nodes) z.k (z.k + (z.failures - count_init nodes))

unfoldable pub largest_epoch : List Node → ℕ
largest_epoch [] = 0
largest_epoch (node ∷ nodes) = max node.epoch.0 (largest_epoch nodes)

-- "The spare becomes the codeword decoded from the set; E = largest epoch."
abbrev pub picked : Sizes → NodeSet → ℕ → Whole → Whole
picked z set epoch w =
    record {
      nodes = w.nodes;
      client = with_rebuild (Writing 1 set (record { 0 = epoch })) w.client;
      blocks = w.blocks;
      spare = recovered_table z.k z.n z.b set w.blocks;
    }

unfoldable pub pick_now : Sizes → ℕ → Whole → Outcome Whole
pick_now z c w =
    let set = picked_set z w.nodes in
    let epoch = largest_epoch w.nodes in
    guard (leb epoch_limit epoch) Exhausted w
    (holding (every_of (held_at_l1 c) w.nodes) c w
    (guard (ltb (size set) (needed_size z w.nodes)) (TooFew (size set)) w
    (guard (not (invertible z.k (lowest set))) NoInverse w
    (answered Accepted (picked z set epoch w)))))

-- "a weakened node isn't tightened": in the phase of the picks the rebuild is at the lowest one
abbrev pub is_weakened : Whole → Bool
is_weakened w = not (eqb (own w) 0)

-- "Pick c: needs all n held by c at L1." "3: .. weaken or pick while a weakened node isn't tightened"
unfoldable pub pick : Sizes → ℕ → Whole → Outcome Whole
pick z c w =
    guard (out_of_limits z w || not (blocks_fit z w.blocks && blocks_fit z w.spare)) OutOfLimits w
    (guard (not (is_client z c)) OutOfRange w
    (guard (out_of picks w) OutOfPhase w
    (guard (is_weakened w) OutOfPhase w
    (pick_now z c w))))

-- "redundant nodes go to L0"
abbrev pub weakened : Sizes → ℕ → List Node → List Node
weakened z c nodes = take z.k nodes ++ map (weakened_by c) (ListN.drop z.k nodes)

-- "Weaken c: needs all n held, none RECONS, and every node weakened before tightened again"
unfoldable pub weaken : Sizes → ℕ → Whole → Outcome Whole
weaken z c w =
    guard (out_of_limits z w) OutOfLimits w
    (guard (not (is_client z c)) OutOfRange w
    (guard (out_of picks w) OutOfPhase w
    (guard (is_weakened w) OutOfPhase w
    (guard (some_recons w.nodes) OutOfPhase w
    (holding (every_of (held_by c) w.nodes) c w
    (answered Accepted (advanced (weakened z c w.nodes) (Picking (z.k + 1)) w)))))))

-- "Tighten c: the lowest redundant node not tightened since the weaken goes to L1; with none left it is out of phase."
unfoldable pub tighten : Sizes → ℕ → Whole → Outcome Whole
tighten z c w =
    guard (out_of_limits z w) OutOfLimits w
    (guard (not (is_client z c)) OutOfRange w
    (guard (out_of picks w) OutOfPhase w
    (guard (not (is_weakened w)) OutOfPhase w
    (holding (held_by c (own_node w)) c w
    (answered Accepted (gone_on z (locked_by c (own_node w)) w))))))

-- "block from the spare, RECONS, epoch E, rset = the set"
abbrev pub spare_written : Sizes → Whole → Whole
spare_written z w =
    let r = w.client.rebuild in
    record {
      nodes = set_at w.nodes (own w) (written (epoch_in r) (set_in r) (own_node w));
      client = with_rebuild (next_rebuild z.n r) w.client;
      blocks = set_block z.b (own w) (block z.b (own w) w.spare) w.blocks;
      spare = w.spare;
    }

-- "Write c, 1 to n"
unfoldable pub write : Sizes → ℕ → Whole → Outcome Whole
write z c w =
    guard (out_of_limits z w || not (blocks_fit z w.blocks && blocks_fit z w.spare)) OutOfLimits w
    (guard (not (is_client z c)) OutOfRange w
    (guard (out_of writes w) OutOfPhase w
    (holding (held_by c (own_node w)) c w
    (answered Accepted (spare_written z w)))))

-- "Settle c, 1 to n, after all writes: epoch E+1, entries cleared, rset cleared, NORM, still held. The nth settle finishes the rebuild."
-- "A needed node is the call's own; for pick, weaken and settle, all n."
unfoldable pub settle : Sizes → ℕ → Whole → Outcome Whole
settle z c w =
    guard (out_of_limits z w) OutOfLimits w
    (guard (not (is_client z c)) OutOfRange w
    (guard (out_of settles w) OutOfPhase w
    (holding (every_of (held_by c) w.nodes) c w (answered (cond (leb z.n (own w)) Rebuilt Accepted)
    (gone_on z (settled (epoch_in w.client.rebuild) (own_node w)) w)))))

-- "Unlock c, 1 to n: UNL; the nth ends the rebuild."
unfoldable pub unlock : Sizes → ℕ → Whole → Outcome Whole
unlock z c w =
    guard (out_of_limits z w) OutOfLimits w
    (guard (not (is_client z c)) OutOfRange w
    (guard (out_of unlocks w) OutOfPhase w
    (holding (held_by c (own_node w)) c w
    (answered Accepted (gone_on z (unlocked (own_node w)) w)))))

-- "Quit c: accepted, and leaves what answer 10 leaves." "3: quit with no rebuild"
unfoldable pub quit : Sizes → ℕ → Whole → Outcome Whole
quit z c w =
    guard (out_of_limits z w) OutOfLimits w
    (guard (not (is_client z c)) OutOfRange w
    (guard (not (has_rebuild w.client.rebuild)) OutOfPhase w
    (answered Accepted (lost c w))))
