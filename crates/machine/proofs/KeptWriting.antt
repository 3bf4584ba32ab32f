-- The calls of specs/Writing keep the invariant and the shapes of the tables. Assumes nothing.
use Rattle.std.specs.Prelude.{Option, None, Some}
use mathlib.Core.Path.{◌≡◌, refl, ap, ◌∙◌}
use mathlib.Core.Bool.{Bool, true, false, cond, ◌&&◌, ◌||◌, not}
use mathlib.Core.List.{List}
use Prim.Native.Nat.{ℕ, ◌+◌, ◌*◌, ◌≤◌, ◌<◌}
use native.Mathlib.Numerals.{add-one}
use native.Mathlib.Omega.{arith}
use lib.Dec.{leb, ltb}
use lib.ListN.{length}
use borrow.Author.Tests.{leb-true, ltb-true, eqb-true, not-true, not-false, lt-leb}
use Rattle.blocks.specs.Blocks.{block, set_block, difference, add_times, Bytes}
use Rattle.code.specs.Code.{coefficient}
use Rattle.code.specs.Decode.{has, including}
use Rattle.entries.specs.Entries.{Entry, enter, is_recent_in, previous_recent}
use Rattle.records.specs.declared.Sizes.{Sizes}
use Rattle.records.specs.declared.Refusal.{Refusal}
use Rattle.records.specs.Sizes.{sizes_within, is_client, is_position, is_node, is_redundant}
use Rattle.records.specs.Node.{Node, entered, with_entries, failed_node, node_within}
use Rattle.records.specs.Node as Node
use Rattle.records.specs.Client.{Client, Write, began, finished_write, with_hand, swept_on, client_within}
use Rattle.machine.specs.Stripe.{Stripe, replacing, Answer, Accepted, Added, Done, CheckInit, CheckGc, NoChange, Outcome, answered, guard, Local, node_at, client_at, at_node, put_node, blocks_fit, differences_fit}
use Rattle.basics.specs.Lists.{set_at}
use Rattle.machine.specs.Calls.{Call, step}
use Rattle.machine.specs.Calls as Calls
use Rattle.machine.specs.Writing as Writing
use Rattle.basics.proofs.Updates.{upd}
use Rattle.basics.proofs.Tests.{and_both, cond_ind}
use Rattle.machine.proofs.Columns.{Columns, set_blocks, set_entries, set_hands, set_finished, set_nexts, set_differences}
use Rattle.machine.proofs.Ledger.{Ledger, note}
use Rattle.machine.proofs.Invariant.{Laws, Good}
use Rattle.machine.proofs.Frame.{norm-live}
use Rattle.machine.proofs.Bytes.{Block, view, block_of, ops}
use Rattle.machine.proofs.View.{columns, with_client, with_nodes, with_clients, set_same, put-node, put-client, upd-keep, set_at-length, unl-is, l0-is}
use Rattle.machine.proofs.Tables.{put-block, length-put, bytes-put, bytes-block, length-block, bytes-difference, length-difference, view-difference, bytes-add, length-add, view-add, block_view}
use Rattle.machine.proofs.Tests.{swap-passes, AddPasses, add-passes, add-empty}
use Rattle.machine.proofs.Kept.{Fits, Kept, entry, KeptAt, at-refused, at-guard, at-unless, at_same}
use Rattle.machine.proofs.Sets.{each_at}
use Rattle.machine.proofs.Writing.Add.{MayAdd, added_to, add-more-good, add-done-good}
use Rattle.machine.proofs.Writing.Check.{drop-good, check-init-good, check-gc-good}
use Rattle.machine.proofs.Writing.Sweep.{relisted, discard-good, mark-good, empty-finished-good}
use Rattle.machine.proofs.Writing.Swap.{new_id, new_write, swapped, swap-good}

-- i is one of 1 to n
abbrev pub Within : ℕ → ℕ → Type 0
Within n i = (1 ≤ i) × (i ≤ n)

pub within : {n i : ℕ} → (leb 1 i && leb i n) ≡ true → Within n i
within {n} {i} e = let (l, r) = and_both (leb 1 i) (leb i n) e in (leb-true 1 i l, leb-true i n r)

---- tables
-- t is m bytes
pub record Sized (m : ℕ) (t : List ℕ) : Type 0 where
  pub many : length t ≡ m
  pub bytes : Bytes t

module _ (b n i : ℕ) (t : List ℕ) (T : Sized (n * b) t) (r : Within n i) where
  block-sized : Sized b (block b i t)
  block-sized = record { many = length-block b n i t r.0 r.1 T.many; bytes = bytes-block b i t T.bytes }

  pub put-sized : (v : List ℕ) → Sized b v → Sized (n * b) (set_block b i v t)
  put-sized v Y = record { many = length-put b n i v t r.0 r.1 T.many Y.many; bytes = bytes-put b i v t Y.bytes T.bytes }

  pub put-seen : (v : List ℕ) → Sized b v → block_of b (set_block b i v t) ≡ upd (block_of b t) i (view b v)
  put-seen v Y = put-block b n i v t r.0 r.1 T.many Y.many

module _ (z : Sizes) (L : Laws (ops z)) (h : Ledger Block) (s : Stripe) (g : Good (ops z) h (columns z s)) (f : Fits z s) where
  abbrev C : Columns Block
  C = columns z s

  abbrev node_of : ℕ → Node
  node_of = node_at s.nodes

  abbrev client_of : ℕ → Client
  client_of = client_at s.clients

  blocks-sized : Sized (z.n * z.b) s.blocks
  blocks-sized = record { many = f.blocks; bytes = f.blocks_bytes }

  differences-sized : Sized (z.m * z.b) s.differences
  differences-sized = record { many = f.differences; bytes = f.differences_bytes }

  ---- the call x at node j by client c, and its tests
  abbrev After : Call → ℕ → ℕ → Outcome Local → Type 0
  After = KeptAt z h s g f

  tested : (x : Call) (j c : ℕ) (b : Bool) (why : Refusal) (rest : Outcome Local) → (b ≡ false → After x j c rest) →
      After x j c (guard b why (at_node j c s) rest)
  tested = at-guard z h s g f

  -- the ledger is told nothing
  abbrev Quiet : Call → Answer → Type 0
  Quiet x a = (b : ℕ → Block) → note (ops z) h (entry z x a) b ≡ h

  -- an accepted call that leaves all as it was
  kept_same : (x : Call) (j c : ℕ) (a : Answer) → Quiet x a → After x j c (answered a (at_node j c s))
  kept_same = at_same z h s g f

  ---- what an accepted call leaves
  pub put-fits : (j c : ℕ) (l : Local) → Sized (z.n * z.b) l.blocks → Sized (z.m * z.b) l.differences → Fits z (put_node j c l s)
  put-fits j c l B D =
      record {
        nodes = set_at-length s.nodes j l.node ∙ f.nodes;
        clients = set_at-length s.clients c l.client ∙ f.clients;
        blocks = B.many;
        spare = f.spare;
        differences = D.many;
        blocks_bytes = B.bytes;
        spare_bytes = f.spare_bytes;
        differences_bytes = D.bytes;
      }

  -- other tables
  abbrev with_tables : List ℕ → List ℕ → Stripe
  with_tables blocks differences = replacing s.nodes s.clients blocks s.spare differences s

  -- other entries at node j, another record of the client, other tables
  abbrev left : ℕ → List Entry → Client → List ℕ → List ℕ → Local
  left j es y blocks differences = record { node = with_entries (node_of j) es; client = y; blocks = blocks; differences = differences }

  put-left : (j c : ℕ) (es : List Entry) (y : Client) (blocks differences : List ℕ) → Within z.n j → Within z.m c → y.rebuild ≡ C.phase c →
      columns z (put_node j c (left j es y blocks differences) s) ≡
      set_blocks (block_of z.b blocks) (set_differences (block_of z.b differences) (set_entries (upd C.entries j es)
      (set_hands (upd C.hand c y.hand) (set_finished (upd C.finished c y.finished) (set_nexts (upd C.next c y.next.0) C)))))
  put-left j c es y blocks differences (j1, jn) (c1, cm) same =
      put-client z (with_nodes tables (set_at s.nodes j (with_entries (node_of j) es))) c y c1 (rw f.clients cm)
      ∙ ap (λ D. with_client D c y) (put-node z tables j (with_entries (node_of j) es) j1 (rw f.nodes jn))
      ∙ rw (upd-keep C.op j, upd-keep C.lock j, upd-keep C.epoch j, upd-keep C.rset j, same, upd-keep C.phase c)
    where
      tables : Stripe
      tables = with_tables blocks differences

  ---- swap
  module _ (c i : ℕ) (value : List ℕ) (bytes : Bytes value) where
    abbrev swap : Call
    swap = Calls.swap c i value

    swap-accepted : Within z.m c → Within z.k i → length value ≡ z.b → Node.is_free (node_of i) ≡ true →
        After swap i c (answered Accepted (Writing.swapped z c i value (at_node i c s)))
    swap-accepted client (i1, ik) len free =
        let (norm, unl) = and_both (Node.is_norm (C.op i)) (Node.is_unl (node_of i).lmode) free in
        record {
          good = rw seen (swap-good (ops z) L h C c i (view z.b value) g (record { low = i1; high = ik }) norm (rw (unl-is (node_of i)) at unl));
          fits = put-fits i c (Writing.swapped z c i value (at_node i c s)) (put-sized z.b z.n i s.blocks blocks-sized node value value-sized)
              (put-sized z.b z.m c s.differences differences-sized client (difference value old) difference-sized);
        }
      where
        node : Within z.n i
        node = (i1, let a = L.k_n in omega arith)

        old : List ℕ
        old = block z.b i s.blocks

        value-sized : Sized z.b value
        value-sized = record { many = len; bytes = bytes }

        old-sized : Sized z.b old
        old-sized = block-sized z.b z.n i s.blocks blocks-sized node

        difference-sized : Sized z.b (difference value old)
        difference-sized = record { many = length-difference value old ∙ len; bytes = bytes-difference value old bytes old-sized.bytes }

        seen : columns z (put_node i c (Writing.swapped z c i value (at_node i c s)) s) ≡ swapped (ops z) C c i (view z.b value)
        seen =
            put-left i c (enter (new_id (ops z) C c i) (C.entries i)) (began (new_write (ops z) C c i) (client_of c)) (set_block z.b i value s.blocks)
            (set_block z.b c (difference value old) s.differences) node client refl
            ∙ rw (
              upd-keep C.finished c,
              add-one (C.next c),
              put-seen z.b z.n i s.blocks blocks-sized node value value-sized,
              put-seen z.b z.m c s.differences differences-sized client (difference value old) difference-sized,
              view-difference z value old len old-sized.many,
              block_view z.b s.blocks i i1,
            )

    pub swap-kept : Kept z h swap (step z swap s)
    unfolding step Writing.swap
    swap-kept =
        tested swap i c _ _ _ (λ r1. at-unless z h s g f swap i c _ _ (λ e.
        let passes = swap-passes z c i (node_of i) (client_of c) e in
        let fit = (and_both (node_within z (node_of i) && client_within z (client_of c)) _ (and_both (sizes_within z) _ (not-false _ r1)).1).1 in
        let many = (and_both (blocks_fit z s.blocks && differences_fit z s.differences) _ fit).1 in
        let (client, position) = and_both (is_client z c) (is_position z i) passes.range in
        swap-accepted (within client) (within position) (eqb-true _ _ many) passes.free))

  ---- add
  module _ (c j : ℕ) where
    abbrev add : Call
    add = Calls.add c j

    module _ (client : Within z.m c) (w : Write) (may : MayAdd (ops z) C c j w) where
      node : Within z.n j
      node = (let a = may.redundant in omega arith, may.high)

      abbrev factor : ℕ
      factor = coefficient j w.id.position

      -- the block, the difference, and what is put
      abbrev old : List ℕ
      old = block z.b j s.blocks

      abbrev change : List ℕ
      change = block z.b c s.differences

      old-sized : Sized z.b old
      old-sized = block-sized z.b z.n j s.blocks blocks-sized node

      change-sized : Sized z.b change
      change-sized = block-sized z.b z.m c s.differences differences-sized client

      sum-sized : Sized z.b (add_times factor old change)
      sum-sized = record { many = length-add factor old change ∙ old-sized.many; bytes = bytes-add factor old change old-sized.bytes change-sized.bytes }

      -- what it leaves, where y is the client's record then
      abbrev leaves : Client → Local
      leaves y =
          record {
            node = entered w.id (node_of j);
            client = y;
            blocks = set_block z.b j (add_times factor old change) s.blocks;
            differences = s.differences;
          }

      add-seen : (y : Client) → y.rebuild ≡ C.phase c → y.next.0 ≡ C.next c →
          columns z (put_node j c (leaves y) s) ≡
          set_hands (upd C.hand c y.hand) (set_finished (upd C.finished c y.finished) (added_to (ops z) C c j w))
      add-seen y rebuild next =
          put-left j c (enter w.id (C.entries j)) y (set_block z.b j (add_times factor old change) s.blocks) s.differences node client rebuild
          ∙ rw (
            next,
            upd-keep C.next c,
            put-seen z.b z.n j s.blocks blocks-sized node (add_times factor old change) sum-sized,
            view-add z j w.id.position old change old-sized.many change-sized.many,
            block_view z.b s.blocks j node.0,
            block_view z.b s.differences c client.0,
          )

      add-fits : (y : Client) → Fits z (put_node j c (leaves y) s)
      add-fits y = put-fits j c (leaves y) (put-sized z.b z.n j s.blocks blocks-sized node (add_times factor old change) sum-sized) differences-sized

      complete : Writing.is_complete z w.id.position (including j w.done) ≡ true → (m : ℕ) → z.k < m → m ≤ z.n → has (including j w.done) m ≡ true
      complete e m a b =
          let (own, all) = and_both (has (including j w.done) w.id.position) _ e in
          rw (lt-leb m z.k a) at (each_at z.n (λ m. leb m z.k || has (including j w.done) m) all m (omega arith) b)

      abbrev w' : Write
      w' = Writing.with_done w (including j w.done)

      add-accepted : (b : Bool) → Writing.completes z j w ≡ b →
          After add j c (answered (cond b Done Added) (leaves (cond b (finished_write w.id (client_of c)) (with_hand (Some w') (client_of c)))))
      add-accepted true e =
          record {
            good = rw (add-seen (finished_write w.id (client_of c)) refl refl) (add-done-good (ops z) L h C c j w g may (complete e));
            fits = add-fits (finished_write w.id (client_of c));
          }
      add-accepted false e =
          record {
            good = rw (add-seen (with_hand (Some w') (client_of c)) refl refl, upd-keep C.finished c) (add-more-good (ops z) L h C c j w g may);
            fits = add-fits (with_hand (Some w') (client_of c));
          }

    may_add : (w : Write) → AddPasses z c j (node_of j) (client_of c) w → MayAdd (ops z) C c j w
    may_add w p =
        let (client, redundant) = and_both (is_client z c) (is_redundant z j) p.range in
        let (low, high) = and_both (ltb z.k j) (leb j z.n) redundant in
        let (norm, lock) = and_both (Node.is_norm (C.op j)) (Node.is_unl (node_of j).lmode || Node.is_l0 (node_of j).lmode) p.takes in
        record {
          hand = p.held;
          redundant = ltb-true z.k j low;
          high = leb-true j z.n high;
          todo = p.todo;
          norm = norm;
          lock = rw (unl-is (node_of j), l0-is (node_of j)) at lock;
          epoch = p.epoch;
          previous = p.previous;
        }

    add-held : (t : Option Write) → (client_of c).hand ≡ t → Writing.add_tests z c j (node_of j) (client_of c) ≡ None →
        After add j c (Writing.added z c j t (at_node j c s))
    add-held None held e = add-empty z c j (node_of j) (client_of c) held e
    add-held (Some w) held e =
        let p = add-passes z c j (node_of j) (client_of c) w held e in
        let (client, redundant) = and_both (is_client z c) (is_redundant z j) p.range in
        add-accepted (within client) w (may_add w p) (Writing.completes z j w) refl

    pub add_kept : Kept z h add (step z add s)
    unfolding step Writing.add
    add_kept = tested add j c _ _ _ (λ r1. at-unless z h s g f add j c _ _ (add-held (C.hand c) refl))

  ---- check and drop: another hand
  put-hand : (j c : ℕ) (t : Option Write) → Within z.m c →
      columns z (put_node j c (Writing.with_client (with_hand t (client_of c)) (at_node j c s)) s) ≡ set_hands (upd C.hand c t) C
  put-hand j c t (c1, cm) =
      ap (λ l. columns z (with_clients (with_nodes s l) (set_at s.clients c (with_hand t (client_of c))))) (set_same (λ (x : Node). x) failed_node s.nodes j)
      ∙ put-client z s c (with_hand t (client_of c)) c1 (rw f.clients cm)
      ∙ rw (upd-keep C.phase c, upd-keep C.finished c, upd-keep C.next c)

  kept-hand : (x : Call) (j c : ℕ) (a : Answer) (t : Option Write) → Within z.m c → Quiet x a → Good (ops z) h (set_hands (upd C.hand c t) C) →
      After x j c (answered a (Writing.with_client (with_hand t (client_of c)) (at_node j c s)))
  kept-hand x j c a t client quiet good =
      record { good = rw (quiet C.block, put-hand j c t client) good; fits = put-fits j c _ blocks-sized differences-sized }

  pub drop-kept : (c : ℕ) → Kept z h (Calls.drop c) (step z (Calls.drop c) s)
  unfolding step Writing.drop
  drop-kept c =
      tested x 0 c _ _ _ (λ r1. tested x 0 c _ _ _ (λ r2. tested x 0 c _ _ _ (λ r3.
      kept-hand x 0 c Accepted None (within (not-false _ r2)) (λ b. refl) (drop-good (ops z) h C c g))))
    where
      x : Call
      x = Calls.drop c

  module _ (c j : ℕ) where
    abbrev check : Call
    check = Calls.check c j

    check-written : Within z.m c → (t : Option Write) → C.hand c ≡ t → After check j c (Writing.check_write j t (at_node j c s))
    unfolding Writing.check_write
    check-written client None e = at-refused z h s g f check j c _
    check-written client (Some w) e =
        tested check j c _ _ _ (λ r3. cond_ind (After check j c) (not (is_recent_in w.id (C.entries j))) _ _
        (λ gone.
        let old = not-true (is_recent_in w.id (C.entries j)) gone in
        kept-hand check j c CheckInit _ client (λ b. refl) (check-init-good (ops z) L h C c j w g e old))
        (λ there. cond_ind (After check j c) (previous_recent w.previous (C.entries j)) _ _
        (λ known. kept_same check j c NoChange (λ b. refl))
        (λ unknown.
        let recent = not-false (is_recent_in w.id (C.entries j)) there in
        kept-hand check j c CheckGc _ client (λ b. refl) (check-gc-good (ops z) h C c j w g e recent unknown))))

    pub check-kept : Kept z h check (step z check s)
    unfolding step Writing.check
    check-kept =
        tested check j c _ _ _ (λ r1. tested check j c _ _ _ (λ r2.
        check-written (within (and_both (is_client z c) (is_node z j) (not-false _ r2)).0) (C.hand c) refl))

  ---- sweep
  module _ (c : ℕ) where
    abbrev sweep : Call
    sweep = Calls.sweep c

    abbrev j : ℕ
    j = Writing.sweep_node z (client_of c)

    -- what it leaves
    abbrev Swept : List Entry → Client → Type 0
    Swept es y = After sweep j c (answered Accepted (left j es y s.blocks s.differences))

    module _ (client : Within z.m c) (free : Node.is_free (node_of j) ≡ true) where
      -- a node that is NORM is one of the n
      swept-node : Within z.n j
      swept-node =
          let v = (g.inv.node j).live (norm-live (C.op j) (and_both (Node.is_norm (C.op j)) _ free).0) in
          (v.low, v.high)

      swept_kept : (es : List Entry) (y : Client) → y.hand ≡ C.hand c → y.rebuild ≡ C.phase c → y.next.0 ≡ C.next c →
          Good (ops z) h (set_finished (upd C.finished c y.finished) (relisted (ops z) C j es)) → Swept es y
      swept_kept es y hand rebuild next good =
          record {
            good = rw (put-left j c es y s.blocks s.differences swept-node client rebuild, hand, upd-keep C.hand c, next, upd-keep C.next c) good;
            fits = put-fits j c (left j es y s.blocks s.differences) blocks-sized differences-sized;
          }

      -- the round ends, or it goes on
      sweep-end : (es : List Entry) → Good (ops z) h (relisted (ops z) C j es) → Swept es (swept_on z.n (client_of c))
      sweep-end es good =
          cond_ind (Swept es) (leb (2 * z.n) ((client_of c).round + 1)) _ _
          (λ e. swept_kept es _ refl refl refl (empty-finished-good (ops z) h (relisted (ops z) C j es) c good))
          (λ e. swept_kept es _ refl refl refl (rw (upd-keep C.finished c) good))

    pub sweep-kept : Kept z h sweep (step z sweep s)
    unfolding step Writing.sweep
    sweep-kept =
        tested sweep j c _ _ _ (λ r1. tested sweep j c _ _ _ (λ r2. tested sweep j c _ _ _ (λ r3. tested sweep j c _ _ _ (λ r4.
        cond_ind (λ es. Swept es (swept_on z.n (client_of c))) (ltb (client_of c).round z.n) _ _
        (λ e. sweep-end (within (not-false _ r2)) (not-false _ r4) _ (discard-good (ops z) h C j (client_of c).moved g))
        (λ e. sweep-end (within (not-false _ r2)) (not-false _ r4) _ (mark-good (ops z) h C c j g))))))
