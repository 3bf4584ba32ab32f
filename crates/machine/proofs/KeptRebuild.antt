-- The calls of specs/Rebuild keep the invariant and the shapes of the tables. Assumes nothing.
use Rattle.std.specs.Prelude.{Option, None, Some}
use mathlib.Core.Path.{◌≡◌, refl, sym, ap, fun_ext, subst, ◌∙◌}
use mathlib.Core.Logic.{◌⊎◌, inl, inr}
use mathlib.Core.Bool.{Bool, true, false, cond, ◌&&◌, ◌||◌, not}
use mathlib.Core.List.{List, [], ◌∷◌, ◌++◌, map}
use Prim.Native.Nat.{ℕ, zero, suc, ◌+◌, ◌-◌, ◌*◌, ◌≤◌, ◌<◌}
use native.Mathlib.Numerals.{add-one}
use native.Mathlib.Omega.{arith}
use lib.Dec.{eqb, leb, ltb}
use lib.ListN.{length, length-map}
use borrow.Author.Tests.{leb-true, ltb-true, ltb-false, eqb-true, not-true, not-false}
use Rattle.basics.proofs.Tests.{and_left, and_right}
use Rattle.blocks.specs.Blocks.{block, set_block, Bytes}
use Rattle.code.specs.Decode.{NodeSet, size, recovered_table}
use Rattle.entries.specs.declared.Epoch.{Epoch}
use Rattle.records.specs.declared.Sizes.{Sizes}
use Rattle.records.specs.declared.Lmode.{Lmode}
use Rattle.records.specs.declared.Refusal.{Refusal}
use Rattle.records.specs.declared.Refusal.TheVariants.{OutOfLimits, OutOfRange, OutOfPhase, NotHeld, Locked}
use Rattle.records.specs.Sizes.{sizes_within, is_node, is_client}
use Rattle.records.specs.Node.{Node, failed_node, with_lmode, expired_for, locked_by, weakened_by}
use Rattle.records.specs.Node as Node
use Rattle.records.specs.Client as Records
use Rattle.records.specs.Client.{Rebuild, NoRebuild, Locking, Picking, Writing, Settling, Unlocking, with_rebuild, remembered, next_node, next_rebuild, unl_or_exp}
use Rattle.records.specs.Client.{rebuild_within, client_within}
use Rattle.machine.specs.Stripe.{Stripe, replacing, Answer, Accepted, Rebuilt, Refused, number, Outcome, Whole, answered, refused, guard, node_at, client_at, whole, nodes_fit}
use Rattle.basics.specs.Lists.{set_at, every_of}
use Rattle.machine.specs.Calls.{Call, step}
use Rattle.machine.specs.Calls as Calls
use Rattle.machine.specs.Rebuild as Rebuild
use Rattle.machine.specs.Rebuild.{locks, phase_of, set_in, epoch_in, out_of, is_weakened, advanced, holding, out_of_limits, restored, some_recons, picked_set, count_init, needed_size, largest_epoch}
use Rattle.basics.proofs.Updates.{upd}
use Rattle.basics.proofs.Tests.{clash, or-one, or-none, cond_ind}
use Rattle.machine.proofs.Columns.{Ops, Columns, Lock, L0, held_by, set_blocks, set_locks, set_phases}
use Rattle.machine.proofs.Ledger as Ledger
use Rattle.machine.proofs.Ledger.{Ledger, note}
use Rattle.machine.proofs.Invariant.{Laws, IsNode, Good}
use Rattle.machine.proofs.Bytes.{Block, block_of, ops}
use Rattle.machine.proofs.View.{columns, lock_of, with_node, with_client, with_nodes, put-node, put-client, upd-keep, set_at-length, held-is, l1-is, locked-is, exp-is}
use Rattle.machine.proofs.InPhase.{picking-is, writing-is, settling-is, unlocking-is}
use Rattle.machine.proofs.Kept.{Fits, Kept, KeptWhole, entry, refusal-number, whole-refused}
use Rattle.machine.proofs.Tables.{put-block, length-put, length-block, bytes-put, bytes-block, block_view, length-rebuilt, bytes-rebuilt, rebuilt-blocks}
use Rattle.basics.proofs.Lists.{every-at, none-at, length_from}
use Rattle.machine.proofs.Elements.{length-restored, epoch-at-most}
use Rattle.machine.proofs.Relocks.{LockedAs, weakened-each, expired-each, restored-each}
use Rattle.machine.proofs.Candidates.{picked-candidate}
use Rattle.machine.proofs.Rebuild.Locks.{expired, given_back, LocksNext, relocked, lost, quit-good, give-back-good, lock-good, weaken-good, tighten-good, unlock-good}
use Rattle.machine.proofs.Rebuild.Pick.{picked, pick_good}
use Rattle.machine.proofs.Rebuild.Write.{write_phase, written, write-good}
use Rattle.machine.proofs.Rebuild.Settle.{settle_phase, settled, settle-good, settled-rebuilt}

module _ (z : Sizes) (L : Laws (ops z)) (h : Ledger Block) (s : Stripe) (g : Good (ops z) h (columns z s)) (f : Fits z s) (c : ℕ) where
  abbrev O : Ops
  O = ops z

  abbrev C : Columns Block
  C = columns z s

  abbrev N : List Node
  N = s.nodes

  abbrev at : ℕ → Node
  at j = node_at N j

  abbrev w : Whole
  w = whole c s

  abbrev client : Records.Client
  client = client_at s.clients c

  abbrev After : Call → Outcome Whole → Type 0
  After x = KeptWhole z h s g f x c

  refuses : (x : Call) (why : Refusal) → After x (refused why w)
  refuses x = whole-refused z h s g f x c

  ---- the tests that a call begins with
  -- what they have shown, where c's rebuild is p
  pub record In (p : Rebuild) : Type 0 where
    pub phase : C.phase c ≡ p
    pub low : 1 ≤ c
    pub high : c ≤ z.m
    pub within : rebuild_within z p ≡ true

  module _ (P : Outcome Whole → Type 0) (refusal : (why : Refusal) → P (refused why w)) where
    tested : (test : Bool) (why : Refusal) (rest : Outcome Whole) → (test ≡ false → P rest) → P (guard test why w rest)
    unfolding guard
    tested true why rest k = refusal why
    tested false why rest k = k refl

    pub begins : (test : Bool) (rest : Outcome Whole) → (test ≡ false → out_of_limits z w ≡ false) → (In (C.phase c) → P rest) →
        P (guard test OutOfLimits w (guard (not (is_client z c)) OutOfRange w rest))
    unfolding client_within
    begins test rest limits k =
        tested test OutOfLimits (guard (not (is_client z c)) OutOfRange w rest)
        (λ r1. tested (not (is_client z c)) OutOfRange rest
        (λ r2.
        let fit : (sizes_within z && (nodes_fit z N && client_within z client)) ≡ true = not-false _ (limits r1) in
        let number : is_client z c ≡ true = not-false _ r2 in
        k (record { phase = refl; low = search (and_left, leb-true); high = search (and_right, leb-true); within = search (and_left, and_right) })))

    -- and that of the phase: the rebuild then has the form of that phase
    pub begins-in : (test : Bool) (phase : ℕ) (form : Rebuild → Rebuild) (rest : Outcome Whole) → (test ≡ false → out_of_limits z w ≡ false) →
        ((p : Rebuild) → eqb (phase_of p) phase ≡ true → p ≡ form p) → (In (form (C.phase c)) → P rest) →
        P (guard test OutOfLimits w (guard (not (is_client z c)) OutOfRange w (guard (out_of phase w) OutOfPhase w rest)))
    begins-in test phase form rest limits is k =
        begins test (guard (out_of phase w) OutOfPhase w rest) limits
        (λ i. tested (out_of phase w) OutOfPhase rest (λ r3. k (subst In (is (C.phase c) (not-false _ r3)) i)))

  node : (j : ℕ) → is_node z j ≡ true → IsNode O j
  node j e = record { low = search (and_left, leb-true); high = search (and_right, leb-true) }

  ---- what a call leaves
  -- s with other nodes, blocks and spare
  abbrev with : List Node → List ℕ → List ℕ → Stripe
  with nodes' blocks' spare' = replacing nodes' s.clients blocks' spare' s.differences s

  pub record Shapes (nodes' : List Node) (blocks' spare' : List ℕ) : Type 0 where
    nodes : length nodes' ≡ z.n
    blocks : length blocks' ≡ z.n * z.b
    spare : length spare' ≡ z.n * z.b
    blocks_bytes : Bytes blocks'
    spare_bytes : Bytes spare'

  pub other-nodes : {nodes' : List Node} → length nodes' ≡ z.n → Shapes nodes' s.blocks s.spare
  other-nodes e = record { nodes = e; blocks = f.blocks; spare = f.spare; blocks_bytes = f.blocks_bytes; spare_bytes = f.spare_bytes }

  -- other locks
  pub relock-columns : (nodes' : List Node) (lock' : ℕ → Lock) → ((j : ℕ) → LockedAs (at j) (lock' j) (node_at nodes' j)) →
      columns z (with_nodes s nodes') ≡ set_locks lock' C
  relock-columns nodes' lock' each =
      λ i. record {
        block = C.block;
        op = fun_ext (λ j. (each j).opmode) i;
        lock = fun_ext (λ j. (each j).lock) i;
        epoch = fun_ext (λ j. ap (λ (e : Epoch). e.0) (each j).epoch) i;
        rset = fun_ext (λ j. (each j).rset) i;
        entries = fun_ext (λ j. (each j).entries) i;
        hand = C.hand;
        phase = C.phase;
        finished = C.finished;
        next = C.next;
        difference = C.difference;
        spare = C.spare;
      }

  module _ {p : Rebuild} (i : In p) (x : Call) (a : Answer) where
    abbrev GoodAfter : Columns Block → Type 0
    GoodAfter C' = Good O (note O h (entry z x a) C'.block) C'

    -- c's record becomes y
    pub put-kept : (nodes' : List Node) (blocks' spare' : List ℕ) (y : Records.Client) → Shapes nodes' blocks' spare' → (C' : Columns Block) →
        with_client (columns z (with nodes' blocks' spare')) c y ≡ C' → GoodAfter C' →
        After x (answered a (record { nodes = nodes'; client = y; blocks = blocks'; spare = spare' }))
    put-kept nodes' blocks' spare' y t C' same good =
        record {
          good = subst GoodAfter (sym (put-client z (with nodes' blocks' spare') c y i.low (rw f.clients i.high) ∙ same)) good;
          fits = record {
            nodes = t.nodes;
            clients = set_at-length s.clients c y ∙ f.clients;
            blocks = t.blocks;
            spare = t.spare;
            differences = f.differences;
            blocks_bytes = t.blocks_bytes;
            spare_bytes = t.spare_bytes;
            differences_bytes = f.differences_bytes;
          };
        }

    -- its rebuild goes on to phase q
    phase-kept : (nodes' : List Node) (blocks' spare' : List ℕ) (q : Rebuild) → Shapes nodes' blocks' spare' → (C' : Columns Block) →
        set_phases (upd C.phase c q) (columns z (with nodes' blocks' spare')) ≡ C' → GoodAfter C' →
        After x (answered a (record { nodes = nodes'; client = with_rebuild q client; blocks = blocks'; spare = spare' }))
    phase-kept nodes' blocks' spare' q t C' same =
        put-kept nodes' blocks' spare' (with_rebuild q client) t C' (rw (upd-keep C.hand c, upd-keep C.finished c, upd-keep C.next c) same)

    -- and node j's record becomes y
    set-kept : (j : ℕ) (y : Node) (blocks' : List ℕ) (q : Rebuild) → IsNode O j → length blocks' ≡ z.n * z.b → Bytes blocks' → (C' : Columns Block) →
        set_phases (upd C.phase c q) (with_node (set_blocks (block_of z.b blocks') C) j y) ≡ C' → GoodAfter C' →
        After x (answered a (record { nodes = set_at N j y; client = with_rebuild q client; blocks = blocks'; spare = s.spare }))
    set-kept j y blocks' q b size bytes C' same =
        phase-kept (set_at N j y) blocks' s.spare q
        (record { nodes = set_at-length N j y ∙ f.nodes; blocks = size; spare = f.spare; blocks_bytes = bytes; spare_bytes = f.spare_bytes }) C'
        (ap (set_phases (upd C.phase c q)) (put-node z (with N blocks' s.spare) j y b.low (rw f.nodes b.high)) ∙ same)

    -- of node j the lock alone
    lock-set-kept : (j : ℕ) (l : Lmode) (o : Option ℕ) (q : Rebuild) → IsNode O j → GoodAfter (relocked c (upd C.lock j (lock_of l o)) q C) →
        After x (answered a (advanced (set_at N j (with_lmode (at j) l o)) q w))
    lock-set-kept j l o q b =
        set-kept j (with_lmode (at j) l o) s.blocks q b f.blocks f.blocks_bytes (relocked c (upd C.lock j (lock_of l o)) q C)
        (rw (upd-keep C.op j, upd-keep C.epoch j, upd-keep C.rset j, upd-keep C.entries j))

    -- of all nodes the locks alone
    relock-kept : (nodes' : List Node) (lock' : ℕ → Lock) (q : Rebuild) → length nodes' ≡ z.n → ((j : ℕ) → LockedAs (at j) (lock' j) (node_at nodes' j)) →
        GoodAfter (relocked c lock' q C) → After x (answered a (advanced nodes' q w))
    relock-kept nodes' lock' q size each =
        phase-kept nodes' s.blocks s.spare q (other-nodes size) (relocked c lock' q C)
        (ap (set_phases (upd C.phase c q)) (relock-columns nodes' lock' each))

    lost-kept : GoodAfter (lost c C) → After x (answered a (Rebuild.lost c w))
    lost-kept = relock-kept (map (expired_for c) N) (λ j. expired c (C.lock j)) NoRebuild (length-map N (expired_for c) ∙ f.nodes) (expired-each N c i.low)

  ---- the nodes that a call needs
  module _ {p : Rebuild} (i : In p) where
    -- "10: a rebuild call after Lock meets a needed node not held by c: all held by c become EXP; rebuild ends"
    needing : (x : Call) (held : Bool) (rest : Outcome Whole) → (held ≡ true → After x rest) → After x (holding held c w rest)
    unfolding holding
    needing x held rest k = cond_ind (After x) held rest _ k (λ e. lost-kept i x (Refused NotHeld) (quit-good O h C g c))

    held_at : (j : ℕ) → Node.held_by c (at j) ≡ true → held_by c (C.lock j) ≡ true
    held_at j e = sym (held-is c (at j) i.low) ∙ e

    all_held : every_of (Node.held_by c) N ≡ true → (j : ℕ) → IsNode O j → held_by c (C.lock j) ≡ true
    all_held e j b = held_at j (every-at failed_node (Node.held_by c) N e j b.low (rw f.nodes b.high))

  ---- Lock
  next-lock : {p : Rebuild} → In p → (old : List Lmode) → LocksNext (C.phase c) old → unl_or_exp old ≡ true → length old < z.n →
      After (Calls.lock c) (Rebuild.lock_node z c old w)
  unfolding Rebuild.lock_node
  next-lock i old next fit more =
      rw (add-one (length old))
      (cond_ind (After (Calls.lock c)) (Node.is_l0 x.lmode || Node.is_l1 x.lmode) _ _
      (λ e. relock-kept i (Calls.lock c) (Refused Locked) (restored c old N) (λ j. given_back c old j (C.lock j)) NoRebuild (length-restored c old N ∙ f.nodes)
      (restored-each N c i.low old fit) (give-back-good O h C g c old next))
      (λ e. lock-set-kept i (Calls.lock c) Accepted j Lmode.L1 (Some c) (cond (leb z.n j) (Picking 0) (Locking (old ++ (x.lmode ∷ []))))
      (record { low = omega arith; high = more }) (lock-good O h C g c old next x.lmode (exp-is x) (sym (locked-is x) ∙ e))))
    where
      j : ℕ
      j = suc (length old)

      x : Node
      x = at j

  pub lock-kept : Kept z h (Calls.lock c) (step z (Calls.lock c) s)
  unfolding step Rebuild.lock unl_or_exp
  lock-kept =
      begins (After (Calls.lock c)) (refuses (Calls.lock c)) (out_of_limits z w) _ (λ e. e)
      (λ i. tested (After (Calls.lock c)) (refuses (Calls.lock c)) (out_of locks w) _ _ (λ r3. go (C.phase c) (not-false _ r3) i))
    where
      go : (p : Rebuild) → eqb (phase_of p) locks ≡ true → In p → After (Calls.lock c) (Rebuild.lock_node z c (remembered p) w)
      go NoRebuild e i = next-lock i [] (inr (i.phase, refl)) refl (omega (arith, L.k_n))
      go (Locking old) e i = let fit = i.within in next-lock i old (inl i.phase) (search (and_left, and_right)) (search (and_left, and_right, ltb-true))
      go (Picking t) e i = clash e refl
      go (Writing j u epoch) e i = clash e refl
      go (Settling j epoch) e i = clash e refl
      go (Unlocking j) e i = clash e refl

  ---- Pick
  abbrev chosen : NodeSet
  chosen = picked_set z N

  abbrev top : Epoch
  top = record { 0 = largest_epoch N }

  enough : ltb (size chosen) (needed_size z N) ≡ false → z.k ≤ size chosen
  enough e =
      let needed = ltb-false (size chosen) (needed_size z N) e in
      let least = cond_ind (λ m. z.k ≤ m) (some_recons N) z.k (z.k + (z.failures - count_init N)) (λ t. omega arith) (λ t. omega arith) in omega arith

  picks : In (Picking 0) → every_of (Node.held_at_l1 c) N ≡ true → z.k ≤ size chosen → After (Calls.pick c) (answered Accepted (Rebuild.picked z chosen top.0 w))
  picks i held many =
      phase-kept i (Calls.pick c) Accepted N s.blocks (recovered_table z.k z.n z.b chosen s.blocks) (Writing 1 chosen top)
      (record {
        nodes = f.nodes;
        blocks = f.blocks;
        spare = length-rebuilt z chosen s.blocks;
        blocks_bytes = f.blocks_bytes;
        spare_bytes = bytes-rebuilt z chosen s.blocks;
      })
      (picked O c chosen top C) (rw (rebuilt-blocks z chosen s.blocks many))
      (pick_good O L h C g c chosen top (picked-candidate z s f.nodes L.n_18) many
      (λ j b. l1-is c (at j) (every-at failed_node (Node.held_at_l1 c) N held j b.low (rw f.nodes b.high))) (λ j b. epoch-at-most N j))

  -- no weakened node is left
  none_left : In (Picking (next_node (C.phase c))) → is_weakened w ≡ false → In (Picking 0)
  none_left i e = subst (λ t. In (Picking t)) (eqb-true (next_node (C.phase c)) 0 (not-false _ e)) i

  pub pick-kept : Kept z h (Calls.pick c) (step z (Calls.pick c) s)
  unfolding step Rebuild.pick Rebuild.pick_now
  pick-kept =
      begins-in (After (Calls.pick c)) (refuses (Calls.pick c)) _ Rebuild.picks (λ p. Picking (next_node p)) _ (λ e. (or-none (out_of_limits z w) _ e).0) picking-is
      (λ i. more _ _ _ (λ r3. more _ _ _ (λ r8. needing i (Calls.pick c) _ _
      (λ held. more _ _ _ (λ r11. more _ _ _ (λ r12. picks (none_left i r3) held (enough r11)))))))
    where
      more : (test : Bool) (why : Refusal) (rest : Outcome Whole) → (test ≡ false → After (Calls.pick c) rest) → After (Calls.pick c) (guard test why w rest)
      more = tested (After (Calls.pick c)) (refuses (Calls.pick c))

  ---- Weaken, Tighten
  weakens : In (Picking 0) → some_recons N ≡ false → every_of (Node.held_by c) N ≡ true →
      After (Calls.weaken c) (answered Accepted (advanced (Rebuild.weakened z c N) (Picking (z.k + 1)) w))
  weakens i none held =
      rw (add-one z.k)
      (relock-kept i (Calls.weaken c) Accepted (Rebuild.weakened z c N) (λ j. cond (ltb z.k j && leb j z.n) (L0 c) (C.lock j)) (Picking (suc z.k))
      (length_from failed_node (weakened_by c) z.k N ∙ f.nodes) (weakened-each N c z f.nodes)
      (weaken-good O h C g c i.phase (all_held i held) (none-at failed_node (λ x. Node.is_recons x.opmode) refl N none)))

  pub weaken-kept : Kept z h (Calls.weaken c) (step z (Calls.weaken c) s)
  unfolding step Rebuild.weaken
  weaken-kept =
      begins-in (After (Calls.weaken c)) (refuses (Calls.weaken c)) (out_of_limits z w) Rebuild.picks (λ p. Picking (next_node p)) _ (λ e. e) picking-is
      (λ i. more _ _ _ (λ r3. more _ _ _ (λ none. needing i (Calls.weaken c) _ _ (weakens (none_left i r3) none))))
    where
      more : (test : Bool) (why : Refusal) (rest : Outcome Whole) → (test ≡ false → After (Calls.weaken c) rest) → After (Calls.weaken c) (guard test why w rest)
      more = tested (After (Calls.weaken c)) (refuses (Calls.weaken c))

  tightens : (t : ℕ) → In (Picking t) → eqb t 0 ≡ false → Node.held_by c (at t) ≡ true →
      After (Calls.tighten c) (answered Accepted (advanced (set_at N t (locked_by c (at t))) (next_rebuild z.n (Picking t)) w))
  tightens zero i some held = clash refl some
  tightens (suc t) i some held =
      rw (add-one (suc t))
      (lock-set-kept i (Calls.tighten c) Accepted (suc t) Lmode.L1 (Some c) (cond (leb z.n (suc t)) (Picking 0) (Picking (suc (suc t))))
      (record { low = omega arith; high = high (or-one (eqb (suc t) 0) (ltb z.k (suc t) && leb (suc t) z.n) i.within) })
      (tighten-good O h C g c t i.phase (held_at i (suc t) held)))
    where
      high : (eqb (suc t) 0 ≡ true) ⊎ ((ltb z.k (suc t) && leb (suc t) z.n) ≡ true) → suc t ≤ z.n
      high (inl e) = let zero_is = eqb-true (suc t) 0 e in absurd (omega arith)
      high (inr e) = search (and_right, leb-true)

  pub tighten-kept : Kept z h (Calls.tighten c) (step z (Calls.tighten c) s)
  unfolding step Rebuild.tighten
  tighten-kept =
      begins-in (After (Calls.tighten c)) (refuses (Calls.tighten c)) (out_of_limits z w) Rebuild.picks (λ p. Picking (next_node p)) _ (λ e. e) picking-is
      (λ i. tested (After (Calls.tighten c)) (refuses (Calls.tighten c)) _ _ _ (λ r3. needing i (Calls.tighten c) _ _
      (λ held. rw i.phase (tightens (next_node (C.phase c)) i (not-true _ (not-false _ r3)) held))))

  ---- Write
  module _ (j : ℕ) (set : NodeSet) (e : Epoch) (i : In (Writing j set e)) where
    writing-node : IsNode O j
    writing-node = let fit = i.within in node j (search (and_left))

    -- the spare's block
    abbrev v : List ℕ
    v = block z.b j s.spare

    size-v : length v ≡ z.b
    size-v = length-block z.b z.n j s.spare writing-node.low writing-node.high f.spare

    writes : Node.held_by c (at j) ≡ true → After (Calls.write c) (answered Accepted (Rebuild.spare_written z w))
    writes held =
        let low = writing-node.low in
        let high = writing-node.high in
        rw (i.phase, add-one j)
        (set-kept i (Calls.write c) Accepted j (Node.written e set (at j)) (set_block z.b j v s.blocks) (write_phase O j set e) writing-node
        (length-put z.b z.n j v s.blocks low high f.blocks size-v)
        (bytes-put z.b j v s.blocks (bytes-block z.b j s.spare f.spare_bytes) f.blocks_bytes)
        (written O c j set e C)
        (rw (
          upd-keep C.lock j,
          upd-keep C.entries j,
          put-block z.b z.n j v s.blocks low high f.blocks size-v,
          ← block_view z.b s.spare j low,
        ))
        (write-good O L h C g c j set e i.phase (held_at i j held)))

  pub write_kept : Kept z h (Calls.write c) (step z (Calls.write c) s)
  unfolding step Rebuild.write
  write_kept =
      begins-in (After (Calls.write c)) (refuses (Calls.write c)) _ Rebuild.writes (λ p. Writing (next_node p) (set_in p) (epoch_in p)) _
      (λ e. (or-none (out_of_limits z w) _ e).0) writing-is (λ i. needing i (Calls.write c) _ _ (writes _ _ _ i))

  ---- Settle
  -- either answer says that it is accepted
  settle-entry : (last : Bool) → entry z (Calls.settle c) (cond last Rebuilt Accepted) ≡ Ledger.Settle c
  settle-entry true = refl
  settle-entry false = refl

  settles : (j : ℕ) (e : Epoch) → In (Settling j e) → every_of (Node.held_by c) N ≡ true →
      After (Calls.settle c) (answered (cond (leb z.n j) Rebuilt Accepted)
      (advanced (set_at N j (Node.settled e (at j))) (next_rebuild z.n (Settling j e)) w))
  settles j e i held =
      let fit = i.within in
      rw (add-one j)
      (set-kept i (Calls.settle c) (cond (leb z.n j) Rebuilt Accepted) j (Node.settled e (at j)) s.blocks (settle_phase O j e) (node j (search (and_left)))
      f.blocks f.blocks_bytes (settled O c j e C) (rw (upd-keep C.lock j, add-one e.0))
      (rw (settle-entry (leb z.n j)) (settle-good O L h C g c j e i.phase (all_held i held))))

  abbrev settling_form : Rebuild → Rebuild
  settling_form p = Settling (next_node p) (epoch_in p)

  pub settle-kept : Kept z h (Calls.settle c) (step z (Calls.settle c) s)
  unfolding step Rebuild.settle
  settle-kept =
      begins-in (After (Calls.settle c)) (refuses (Calls.settle c)) (out_of_limits z w) Rebuild.settles settling_form _ (λ e. e) settling-is
      (λ i. needing i (Calls.settle c) _ _ (λ held. rw i.phase (settles (next_node (C.phase c)) (epoch_in (C.phase c)) i held)))

  -- after an accepted settle the n blocks are one codeword, of first parts
  pub settle-rebuilt : eqb (number (step z (Calls.settle c) s).answer) 0 ≡ true → Ledger.Rebuilt O h (block_of z.b (step z (Calls.settle c) s).after.blocks)
  unfolding step Rebuild.settle holding
  settle-rebuilt =
      begins-in P (λ why e. clash e (refusal-number why)) (out_of_limits z w) Rebuild.settles settling_form _ (λ e. e) settling-is
      (λ i. cond_ind P (every_of (Node.held_by c) N) _ _ (λ held t. settled-rebuilt O L h C g c _ _ i.phase (all_held i held)) (λ f t. clash t refl))
    where
      P : Outcome Whole → Type 0
      P o = eqb (number o.answer) 0 ≡ true → Ledger.Rebuilt O h (block_of z.b o.after.blocks)

  ---- Unlock
  unlocks : (j : ℕ) → In (Unlocking j) → Node.held_by c (at j) ≡ true →
      After (Calls.unlock c) (answered Accepted (advanced (set_at N j (Node.unlocked (at j))) (next_rebuild z.n (Unlocking j)) w))
  unlocks j i held =
      let b = node j i.within in
      rw (add-one j)
      (lock-set-kept i (Calls.unlock c) Accepted j Lmode.Unl None (cond (leb z.n j) NoRebuild (Unlocking (suc j))) b
      (unlock-good O h C g c j i.phase b (held_at i j held)))

  pub unlock-kept : Kept z h (Calls.unlock c) (step z (Calls.unlock c) s)
  unfolding step Rebuild.unlock
  unlock-kept =
      begins-in (After (Calls.unlock c)) (refuses (Calls.unlock c)) (out_of_limits z w) Rebuild.unlocks (λ p. Unlocking (next_node p)) _ (λ e. e) unlocking-is
      (λ i. needing i (Calls.unlock c) _ _ (λ held. rw i.phase (unlocks (next_node (C.phase c)) i held)))

  ---- Quit
  pub quit-kept : Kept z h (Calls.quit c) (step z (Calls.quit c) s)
  unfolding step Rebuild.quit
  quit-kept =
      begins (After (Calls.quit c)) (refuses (Calls.quit c)) (out_of_limits z w) _ (λ e. e)
      (λ i. tested (After (Calls.quit c)) (refuses (Calls.quit c)) _ _ _ (λ r3. lost-kept i (Calls.quit c) Accepted (quit-good O h C g c)))
