-- Document 01, "Records": a client's record. Assumes nothing.
use Rattle.std.specs.Prelude.{Bool, true, false, cond, ◌&&◌, ◌||◌, List, [], ◌∷◌, ◌++◌, ℕ, ◌+◌, ◌*◌, eqb, leb, ltb, length, Option, None, Some}
use Rattle.code.specs.Decode.{NodeSet}
use Rattle.entries.specs.declared.WriteId.{WriteId}
use Rattle.entries.specs.declared.WriteNumber.{WriteNumber}
use Rattle.entries.specs.declared.Epoch.{Epoch}
use Rattle.entries.specs.Entries.{finished_limit, write_limit, id_within, ids_within, previous_within}
use Rattle.records.specs.declared.Sizes.{Sizes}
use Rattle.records.specs.declared.Lmode.{Lmode}
use Rattle.records.specs.Sizes.{is_node}
use Rattle.records.specs.Node.{set_within, epoch_limit, is_unl, is_exp}

-- "at most one write in hand (position, id, previous id or none, epoch, difference, set of nodes done)". The position is the id's own;
-- the difference is in the table of differences
pub record Write : Type 0 where
  pub id : WriteId
  pub previous : Option WriteId
  pub epoch : Epoch
  pub done : NodeSet

-- "at most one rebuild", by "The phases are n locks; then picks, weakens and tightens up to the first accepted pick; then n writes, n settles,
-- n unlocks". Each phase has what it needs: the old lmodes of the nodes locked so far, from node 1 on; the lowest node not tightened since the
-- weaken, 0 if there is none; and from then on the next node of the phase, the set and E
pub data Rebuild : Type 0 where
  NoRebuild : Rebuild
  Locking : List Lmode → Rebuild
  Picking : ℕ → Rebuild
  Writing : ℕ → NodeSet → Epoch → Rebuild
  Settling : ℕ → Epoch → Rebuild
  Unlocking : ℕ → Rebuild

-- "a finished list of up to 8 ids, a moved list and a sweep round": round counts the accepted sweeps of the round begun. next: the next write number
pub record Client : Type 0 where
  pub hand : Option Write
  pub rebuild : Rebuild
  pub finished : List WriteId
  pub moved : List WriteId
  pub round : ℕ
  pub next : WriteNumber

abbrev pub fresh_client : Client
fresh_client = record { hand = None; rebuild = NoRebuild; finished = []; moved = []; round = 0; next = record { 0 = 0 } }

-- "Client c stops: .. hand, rebuild, lists and round are empty; its write number stays"
abbrev pub stopped : Client → Client
stopped x = record { hand = None; rebuild = NoRebuild; finished = []; moved = []; round = 0; next = x.next }

abbrev pub with_hand : Option Write → Client → Client
with_hand w x = record { hand = w; rebuild = x.rebuild; finished = x.finished; moved = x.moved; round = x.round; next = x.next }

abbrev pub with_rebuild : Rebuild → Client → Client
with_rebuild r x = record { hand = x.hand; rebuild = r; finished = x.finished; moved = x.moved; round = x.round; next = x.next }

-- a new write in hand, with the next write number used
abbrev pub began : Write → Client → Client
began w x =
    record { hand = Some w; rebuild = x.rebuild; finished = x.finished; moved = x.moved; round = x.round; next = record { 0 = x.next.0 + 1 } }

-- "the id joins the finished list and the write leaves the hand"
abbrev pub finished_write : WriteId → Client → Client
finished_write id x =
    record { hand = None; rebuild = x.rebuild; finished = x.finished ++ (id ∷ []); moved = x.moved; round = x.round; next = x.next }

-- one more sweep of the round; "At its end moved = finished, finished is empty"
abbrev pub swept_on : ℕ → Client → Client
swept_on n x =
    cond (leb (2 * n) (x.round + 1))
    (record { hand = x.hand; rebuild = x.rebuild; finished = []; moved = x.finished; round = 0; next = x.next })
    (record { hand = x.hand; rebuild = x.rebuild; finished = x.finished; moved = x.moved; round = x.round + 1; next = x.next })

abbrev pub has_write : Option Write → Bool
has_write None = false
has_write (Some w) = true

abbrev pub has_rebuild : Rebuild → Bool
has_rebuild NoRebuild = false
has_rebuild (Locking old) = true
has_rebuild (Picking t) = true
has_rebuild (Writing x set e) = true
has_rebuild (Settling x e) = true
has_rebuild (Unlocking x) = true

-- C-15: "whose pick was accepted in the rebuild it now has": it writes, settles or unlocks
abbrev pub has_picked : Rebuild → Bool
has_picked NoRebuild = false
has_picked (Locking old) = false
has_picked (Picking t) = false
has_picked (Writing x set e) = true
has_picked (Settling x e) = true
has_picked (Unlocking x) = true

-- the old lmodes of the nodes locked so far
abbrev pub remembered : Rebuild → List Lmode
remembered NoRebuild = []
remembered (Locking old) = old
remembered (Picking t) = []
remembered (Writing x set e) = []
remembered (Settling x e) = []
remembered (Unlocking x) = []

-- "The phases are n locks; .. then n writes, n settles, n unlocks": the node that a rebuild is at; 0 if it is at none
abbrev pub next_node : Rebuild → ℕ
next_node NoRebuild = 1
next_node (Locking old) = length old + 1
next_node (Picking t) = t
next_node (Writing x set e) = x
next_node (Settling x e) = x
next_node (Unlocking x) = x

-- the phase after the lock of the next node, whose lmode was l; after a tighten, a write, a settle or an unlock of its node
abbrev pub locked_rebuild : ℕ → Lmode → List Lmode → Rebuild
locked_rebuild n l old = cond (leb n (length old + 1)) (Picking 0) (Locking (old ++ (l ∷ [])))

abbrev pub next_rebuild : ℕ → Rebuild → Rebuild
next_rebuild n NoRebuild = NoRebuild
next_rebuild n (Locking old) = Locking old
next_rebuild n (Picking t) = cond (leb n t) (Picking 0) (Picking (t + 1))
next_rebuild n (Writing x set e) = cond (leb n x) (Settling 1 e) (Writing (x + 1) set e)
next_rebuild n (Settling x e) = cond (leb n x) (Unlocking 1) (Settling (x + 1) e)
next_rebuild n (Unlocking x) = cond (leb n x) NoRebuild (Unlocking (x + 1))

-- "record .. outside the limits" (docs/DECISIONS.md); a write in hand leaves room for its own id in the finished list
abbrev pub hand_within : Sizes → Option Write → List WriteId → Bool
hand_within z None finished = leb (length finished) finished_limit
hand_within z (Some w) finished =
    id_within z.k z.m w.id &&
    (previous_within z.k z.m w.previous && (leb w.epoch.0 epoch_limit && (set_within z.n w.done && ltb (length finished) finished_limit)))

unfoldable pub unl_or_exp : List Lmode → Bool
unl_or_exp [] = true
unl_or_exp (l ∷ old) = (is_unl l || is_exp l) && unl_or_exp old

abbrev pub rebuild_within : Sizes → Rebuild → Bool
rebuild_within z NoRebuild = true
rebuild_within z (Locking old) = leb 1 (length old) && (ltb (length old) z.n && unl_or_exp old)
rebuild_within z (Picking t) = eqb t 0 || (ltb z.k t && leb t z.n)
rebuild_within z (Writing x set e) = is_node z x && (set_within z.n set && ltb e.0 epoch_limit)
rebuild_within z (Settling x e) = is_node z x && ltb e.0 epoch_limit
rebuild_within z (Unlocking x) = is_node z x

unfoldable pub client_within : Sizes → Client → Bool
client_within z x =
    hand_within z x.hand x.finished &&
    (rebuild_within z x.rebuild &&
    (ids_within z.k z.m x.finished &&
    (leb (length x.moved) finished_limit && (ids_within z.k z.m x.moved && (ltb x.round (2 * z.n) && leb x.next.0 write_limit)))))
