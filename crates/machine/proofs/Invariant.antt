-- The laws of the code that demand 3 rests on, and the invariant. Assumes nothing.
use Rattle.std.specs.Prelude.{Option, Some}
use mathlib.Core.Path.{◌≡◌}
use mathlib.Core.Logic.{◌⊎◌}
use mathlib.Core.Bool.{Bool, true, false, cond}
use mathlib.Core.List.{List}
use Prim.Native.Nat.{ℕ, zero, suc, ◌≤◌, ◌<◌}
use lib.Dec.{leb}
use lib.ListN.{length, get_or}
use Rattle.code.specs.Decode.{NodeSet, has, size}
use Rattle.entries.specs.declared.WriteId.{WriteId}
use Rattle.entries.specs.Entries.{Entry, is_listed, is_recent_in, is_old_in, is_in, last_recent}
use Rattle.records.specs.declared.Opmode.{Opmode}
use Rattle.records.specs.declared.Lmode.{Lmode}
use Rattle.records.specs.Node.{is_init, is_norm, is_recons}
use Rattle.records.specs.Node as Node
use Rattle.records.specs.Client.{Write, Rebuild, NoRebuild, Locking, Picking, Writing, Settling, Unlocking}
use Rattle.basics.proofs.Updates.{upd}
use Rattle.machine.proofs.Columns.{Ops, Lock, L1, is_unl, is_l0, held_by, Columns}
use Rattle.machine.proofs.Ledger.{Ledger, IsPos}

pub record Ghost : Type 0 where
  -- the id of the lth swap at i, from 1
  pub id_of : ℕ → ℕ → WriteId
  -- the epoch that the last finished rebuild gave
  pub base : ℕ
  -- how many swaps at i are in node j's block, and in its list
  pub in_block : ℕ → ℕ → ℕ
  pub in_list : ℕ → ℕ → ℕ
  -- the same of the codeword of the rebuild under way
  pub cut : ℕ → ℕ
  -- the nodes settled since
  pub is_settled : ℕ → Bool
  -- some node was written since
  pub begun : Bool

-- whether the remembered lmode of node j was EXP
unfoldable pub was_exp : List Lmode → ℕ → Bool
was_exp old zero = false
was_exp old (suc j) = Node.is_exp (get_or old j Lmode.Unl)

-- past an accepted pick and not finished
abbrev pub writes : Rebuild → Bool
writes NoRebuild = false
writes (Locking old) = false
writes (Picking t) = false
writes (Writing x w e) = true
writes (Settling x e) = true
writes (Unlocking x) = false

-- finished, and its nodes not all given back
abbrev pub unlocks : Rebuild → Bool
unlocks NoRebuild = false
unlocks (Locking old) = false
unlocks (Picking t) = false
unlocks (Writing x w e) = false
unlocks (Settling x e) = false
unlocks (Unlocking x) = true

module _ (O : Ops) where
  open O use {B, k, n, zeroes, diff, mul_add, parity, decode}

  unfoldable pub code : ℕ → (ℕ → B) → B
  code j x = cond (leb j k) (x j) (parity j x)

  pub record Laws : Type 0 where
    pub k_two : 2 ≤ k
    pub k_n : k < n
    pub n_18 : n ≤ 18
    pub parity_zero : (j : ℕ) → parity j (λ i. zeroes) ≡ zeroes
    pub parity_ext : (j : ℕ) (x y : ℕ → B) → ((i : ℕ) → IsPos O i → x i ≡ y i) → parity j x ≡ parity j y
    pub parity_upd : (j i : ℕ) (x : ℕ → B) (v : B) → k < j → j ≤ n → IsPos O i → parity j (upd x i v) ≡ mul_add j i (parity j x) (diff v (x i))
    pub decodes : (w : NodeSet) (b x : ℕ → B) → k ≤ size w → ((j : ℕ) → has w j ≡ true → (1 ≤ j) × (j ≤ n) × (b j ≡ code j x)) → (j : ℕ) → 1 ≤ j → j ≤ n
        → decode w b j ≡ code j x

  pub record IsNode (j : ℕ) : Type 0 where
    pub low : 1 ≤ j
    pub high : j ≤ n

  -- position i bears on node j
  pub record Spot (j i : ℕ) : Type 0 where
    pub pos : IsPos O i
    pub sees : (i ≡ j) ⊎ (k < j)

  -- the values of the first a i swaps at each i
  abbrev pub at : Ledger B → (ℕ → ℕ) → ℕ → B
  at h a i = h.val i (a i)

  -- a is between what is done and what was swapped
  pub record Between (h : Ledger B) (a i : ℕ) : Type 0 where
    pub most : a ≤ h.len i
    pub least : (l : ℕ) → h.done i l ≡ true → l ≤ a

  ---- ids
  pub record IdsOk (G : Ghost) (h : Ledger B) (next : ℕ → ℕ) : Type 0 where
    pub id_of-pos : (i l : ℕ) → 1 ≤ l → l ≤ h.len i → (G.id_of i l).position ≡ i
    pub id_of-inj : (i l l' : ℕ) → 1 ≤ l → l ≤ h.len i → 1 ≤ l' → l' ≤ h.len i → G.id_of i l ≡ G.id_of i l' → l ≡ l'
    pub id_of-old : (i l : ℕ) → 1 ≤ l → l ≤ h.len i → (G.id_of i l).number.0 < next (G.id_of i l).client
    pub zero_done : (i : ℕ) → h.done i 0 ≡ true
    pub done_len : (i l : ℕ) → h.done i l ≡ true → l ≤ h.len i
    pub no_stale : h.stale ≡ false

  ---- blocks, lists, epochs of one node. No lock
  pub record Live (G : Ghost) (h : Ledger B) (j : ℕ) (b : B) (e : ℕ) : Type 0 where
    pub low : 1 ≤ j
    pub high : j ≤ n
    pub block : b ≡ code j (at h (G.in_block j))
    pub between : (i : ℕ) → Spot j i → Between h (G.in_block j i) i
    pub epoch : G.base ≤ e

  pub record Unwritten (G : Ghost) (h : Ledger B) (j : ℕ) (e : ℕ) (es : List Entry) : Type 0 where
    pub epoch : e ≡ G.base
    pub same : (i : ℕ) → Spot j i → G.in_block j i ≡ G.in_list j i
    pub own : j ≤ k → G.in_block j j ≡ h.len j
    pub newest : j ≤ k → (last_recent es ≡ Some (G.id_of j (h.len j))) ⊎ (h.done j (h.len j) ≡ true)

  pub record OnCut (G : Ghost) (h : Ledger B) (j : ℕ) : Type 0 where
    pub under_way : G.begun ≡ true
    pub between : (i : ℕ) → IsPos O i → Between h (G.cut i) i
    pub cut : (i : ℕ) → Spot j i → G.in_block j i ≡ G.cut i

  pub record Settled (G : Ghost) (h : Ledger B) (j : ℕ) (o : Opmode) (e : ℕ) : Type 0 where
    pub norm : is_norm o ≡ true
    pub on : OnCut G h j
    pub later : G.base < e

  -- the swap at i that x names, one of the first a
  pub record Among (G : Ghost) (a : ℕ) (x : WriteId) : Type 0 where
    pub l : ℕ
    pub low : 1 ≤ l
    pub high : l ≤ a
    pub is : G.id_of x.position l ≡ x

  pub record ListOk (G : Ghost) (h : Ledger B) (j : ℕ) (es : List Entry) : Type 0 where
    pub short : (i : ℕ) → G.in_list j i ≤ h.len i
    pub listed : (x : WriteId) → is_listed x es ≡ true → Among G (G.in_list j x.position) x
    pub mine : (x : WriteId) → is_listed x es ≡ true → Spot j x.position
    pub undone : (i l : ℕ) → Spot j i → 1 ≤ l → l ≤ G.in_list j i → h.done i l ≡ false → is_recent_in (G.id_of i l) es ≡ true
    pub old : (i l : ℕ) → 1 ≤ l → l ≤ h.len i → is_old_in (G.id_of i l) es ≡ true → h.done i l ≡ true

  pub record NodeOk (G : Ghost) (h : Ledger B) (j : ℕ) (b : B) (o : Opmode) (e : ℕ) (es : List Entry) : Type 0 where
    pub live : is_init o ≡ false → Live G h j b e
    pub unwritten : is_norm o ≡ true → G.is_settled j ≡ false → Unwritten G h j e es
    pub written : is_recons o ≡ true → OnCut G h j
    pub settled : G.is_settled j ≡ true → Settled G h j o e
    pub list : ListOk G h j es
    pub init : is_init o ≡ true → 1 ≤ j → j ≤ n → h.failed ≡ true
    pub bare : (is_init o ≡ true) ⊎ (G.is_settled j ≡ true) → (i : ℕ) → G.in_list j i ≡ 0

  -- two nodes: j and l
  pub record PairOk (G : Ghost) (op : ℕ → Opmode) (rset : ℕ → NodeSet) (j l : ℕ) : Type 0 where
    pub together : G.is_settled j ≡ true → is_norm (op l) ≡ true → G.is_settled l ≡ true
    pub only : has (rset j) l ≡ true → is_recons (op j) ≡ true
    pub member : has (rset j) l ≡ true → is_init (op l) ≡ false → (i : ℕ) → Spot l i → G.in_block l i ≡ G.cut i

  ---- hands and finished lists
  pub record Own (G : Ghost) (h : Ledger B) (op : ℕ → Opmode) (c : ℕ) (d : B) (w : Write) : Type 0 where
    -- the write is swap suc q at its position
    pub q : ℕ
    pub high : suc q ≤ h.len w.id.position
    pub pos : IsPos O w.id.position
    pub is : w.id ≡ G.id_of w.id.position (suc q)
    pub client : w.id.client ≡ c
    pub undone : h.done w.id.position (suc q) ≡ false
    pub difference : d ≡ diff (h.val w.id.position (suc q)) (h.val w.id.position q)
    pub prev : (w.previous ≡ Some (G.id_of w.id.position q)) ⊎ (h.done w.id.position q ≡ true)
    pub last : h.last c ≡ Some (record { pos = w.id.position; place = suc q })
    pub in_done : (j : ℕ) → k < j → is_norm (op j) ≡ true → G.is_settled j ≡ false → has w.done j ≡ true → suc q ≤ G.in_block j w.id.position
    pub not_done : (j : ℕ) → k < j → is_norm (op j) ≡ true → G.is_settled j ≡ false → has w.done j ≡ false → G.in_block j w.id.position ≤ q

  pub record HandOk (G : Ghost) (h : Ledger B) (op : ℕ → Opmode) (c : ℕ) (d : B) (w : Write) : Type 0 where
    pub epoch : w.epoch.0 ≤ G.base
    pub own : w.epoch.0 ≡ G.base → Own G h op c d w

  pub record FinishedOk (G : Ghost) (h : Ledger B) (c : ℕ) (next : ℕ) (fin : List WriteId) : Type 0 where
    pub done : (x : WriteId) → is_in x fin ≡ true → (i l : ℕ) → 1 ≤ l → l ≤ h.len i → G.id_of i l ≡ x → h.done i l ≡ true
    pub client : (x : WriteId) → is_in x fin ≡ true → x.client ≡ c
    pub number : (x : WriteId) → is_in x fin ≡ true → x.number.0 < next

  ---- locks and phases
  pub record LockingOk (G : Ghost) (c x : ℕ) (old : ℕ → Bool) (j : ℕ) (o : Opmode) (l : Lock) : Type 0 where
    pub before : held_by c l ≡ true → j < x
    pub tight : held_by c l ≡ true → l ≡ L1 c
    pub was : held_by c l ≡ true → G.begun ≡ true → is_init o ≡ false → old j ≡ true

  pub record WritingOk (G : Ghost) (c x : ℕ) (w : ℕ → Bool) (j : ℕ) (o : Opmode) (l : Lock) : Type 0 where
    pub all_held : is_init o ≡ false → l ≡ L1 c
    pub tight : held_by c l ≡ true → l ≡ L1 c
    pub behind : held_by c l ≡ true → 1 ≤ j → j < x → is_recons o ≡ true
    pub member : w j ≡ true → is_init o ≡ false → (i : ℕ) → Spot j i → G.in_block j i ≡ G.cut i

  pub record SettlingOk (G : Ghost) (c x e : ℕ) (j : ℕ) (o : Opmode) (l : Lock) (ep : ℕ) : Type 0 where
    pub all_held : is_init o ≡ false → l ≡ L1 c
    pub behind : held_by c l ≡ true → 1 ≤ j → j < x → G.is_settled j ≡ true
    pub behind_epoch : held_by c l ≡ true → 1 ≤ j → j < x → ep ≡ suc e
    pub ahead : held_by c l ≡ true → x ≤ j → j ≤ n → is_recons o ≡ true

  pub record UnlockingOk (G : Ghost) (c x : ℕ) (j : ℕ) (o : Opmode) (l : Lock) : Type 0 where
    pub within : IsNode x
    pub ahead : held_by c l ≡ true → x ≤ j
    pub norm : held_by c l ≡ true → is_norm o ≡ true
    pub over : held_by c l ≡ true → G.begun ≡ false

  abbrev pub PhaseOk : Ghost → ℕ → Rebuild → ℕ → Opmode → Lock → ℕ → Type 0
  PhaseOk G c NoRebuild j o l ep = held_by c l ≡ false
  PhaseOk G c (Locking old) j o l ep = LockingOk G c (suc (length old)) (was_exp old) j o l
  PhaseOk G c (Picking t) j o l ep = held_by c l ≡ true → (t ≡ 0) ⊎ (j < t) → l ≡ L1 c
  PhaseOk G c (Writing x w e) j o l ep = WritingOk G c x (has w) j o l
  PhaseOk G c (Settling x e) j o l ep = SettlingOk G c x e.0 j o l ep
  PhaseOk G c (Unlocking x) j o l ep = UnlockingOk G c x j o l

  pub record WriterOk (G : Ghost) (h : Ledger B) (sp : ℕ → B) (settles : Option ℕ) (x e : ℕ) : Type 0 where
    pub epoch : G.base ≤ e
    pub between : (i : ℕ) → IsPos O i → Between h (G.cut i) i
    pub low : 1 ≤ x
    pub high : x ≤ n
    pub spare : (j : ℕ) → 1 ≤ j → j ≤ n → sp j ≡ code j (at h G.cut)
    pub count : settles ≡ Some 0

  pub record SettlerOk (G : Ghost) (h : Ledger B) (sp : ℕ → B) (settles : Option ℕ) (x e : ℕ) : Type 0 where
    pub epoch : G.base ≤ e
    pub between : (i : ℕ) → IsPos O i → Between h (G.cut i) i
    pub low : 1 ≤ x
    pub high : x ≤ n
    pub spare : (j : ℕ) → 1 ≤ j → j ≤ n → sp j ≡ code j (at h G.cut)
    pub count : (y : ℕ) → x ≡ suc y → settles ≡ Some y

  abbrev pub RebuildOk : Ghost → Ledger B → (ℕ → B) → ℕ → Rebuild → Type 0
  RebuildOk G h spare c NoRebuild = Unit {0}
  RebuildOk G h spare c (Locking old) = Unit {0}
  RebuildOk G h spare c (Picking t) = Unit {0}
  RebuildOk G h spare c (Writing x w e) = WriterOk G h spare (h.settles c) x e.0
  RebuildOk G h spare c (Settling x e) = SettlerOk G h spare (h.settles c) x e.0
  RebuildOk G h spare c (Unlocking x) = Unit {0}

  pub record Inv (G : Ghost) (h : Ledger B) (s : Columns B) : Type 0 where
    pub ids : IdsOk G h s.next
    pub node : (j : ℕ) → NodeOk G h j (s.block j) (s.op j) (s.epoch j) (s.entries j)
    pub pair : (j l : ℕ) → PairOk G s.op s.rset j l
    pub hand : (c : ℕ) (w : Write) → s.hand c ≡ Some w → HandOk G h s.op c (s.difference c) w
    pub finished : (c : ℕ) → FinishedOk G h c (s.next c) (s.finished c)
    -- locks
    pub unl : G.begun ≡ true → (j : ℕ) → is_init (s.op j) ≡ false → is_unl (s.lock j) ≡ false
    pub weak : (j l : ℕ) → is_recons (s.op j) ≡ true → is_init (s.op l) ≡ false → is_l0 (s.lock l) ≡ false
    pub phase : (c j : ℕ) → IsNode j → PhaseOk G c (s.phase c) j (s.op j) (s.lock j) (s.epoch j)
    pub rebuild : (c : ℕ) → RebuildOk G h s.spare c (s.phase c)
    pub one : (c d : ℕ) → writes (s.phase c) ≡ true → writes (s.phase d) ≡ true → c ≡ d
    -- a node that a finished rebuild still holds has the spare's block
    pub shown : (c j : ℕ) → IsNode j → unlocks (s.phase c) ≡ true → s.lock j ≡ L1 c → s.spare j ≡ s.block j

  -- the invariant with its ghost
  pub record Good (h : Ledger B) (s : Columns B) : Type 0 where
    pub ghost : Ghost
    pub inv : Inv ghost h s
