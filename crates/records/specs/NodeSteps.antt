-- Document 01, "Writing" and "Rebuild": what one node answers to a call, and what a call's contract says of a node's record. Assumes nothing.
use Rattle.std.specs.Prelude.{◌≡◌, Bool, cond, ◌||◌, not, [], ℕ, leb, ltb, length, Option, None, Some, Result, Ok, Err}
use Rattle.code.specs.Decode.{no_nodes}
use Rattle.entries.specs.declared.WriteId.{WriteId}
use Rattle.entries.specs.Entries.{is_listed, is_recent_in, previous_recent, entry_limit}
use Rattle.records.specs.declared.Opmode.{Opmode}
use Rattle.records.specs.declared.Lmode.TheVariants.{Unl}
use Rattle.records.specs.declared.Write.{Write}
use Rattle.records.specs.declared.NodeRecord.{NodeRecord}
use Rattle.records.specs.declared.NodeStep.{NodeStep}
use Rattle.records.specs.declared.CheckAnswer.{CheckAnswer}
use Rattle.records.specs.declared.CheckAnswer.TheVariants.{Init, Gc, NoChange}
use Rattle.records.specs.declared.Refusal.{Refusal}
use Rattle.records.specs.declared.Refusal.TheVariants.{OutOfLimits, OutOfPhase, WrongMode, OldEpoch, BeforePrevious, Full, Locked, NotHeld}
use Rattle.records.specs.Node.{Node, is_recons, is_free, takes_add, is_l0, is_l1, held_by}
use Rattle.records.specs.View.{node_of}

-- a node with nothing: fresh it is NORM, failed it is INIT
abbrev pub empty_node : Opmode → Node
empty_node o = record { opmode = o; lmode = Unl; holder = None; epoch = record { 0 = 0 }; rset = no_nodes; entries = [] }

-- what a node answers: nothing more where it accepts a call, else why it refuses it
abbrev pub NodeAnswer : Type 0
NodeAnswer = Result (Unit {0}) Refusal

-- refused where the test holds. "The lowest applicable number wins": tests stand in the order of their numbers
abbrev pub refusing : Bool → Refusal → NodeAnswer → NodeAnswer
refusing test why rest = cond test (Err why) rest

-- "4: the needs on modes are not met", with the node's opmode and lmode
abbrev pub needing : Bool → Node → NodeAnswer → NodeAnswer
needing met x rest = refusing (not met) (WrongMode x.opmode x.lmode) rest

-- "7: swap or add at a node with 16 entries"
abbrev pub enter_answer : Node → NodeAnswer
enter_answer x = refusing (leb entry_limit (length x.entries)) Full (Ok tt)

-- "Swap c, i, value: needs node i NORM and UNL"
abbrev pub swap_answer : Node → NodeAnswer
swap_answer x = needing (is_free x) x (enter_answer x)

-- "The previous id, if any, must be listed there, recent or old"
abbrev pub after_previous : Option WriteId → Node → NodeAnswer → NodeAnswer
after_previous None x rest = rest
after_previous (Some y) x rest = refusing (not (is_listed y x.entries)) (BeforePrevious y) rest

-- "Add c, j: needs NORM, lmode UNL or L0, and node epoch at most the write's"
abbrev pub add_answer : Write → Node → NodeAnswer
add_answer w x =
    needing (takes_add x) x
    (refusing (ltb w.epoch.0 x.epoch.0) (OldEpoch x.epoch) (after_previous w.previous x (enter_answer x)))

-- "Sweep c: one node per call, needing NORM and UNL"
abbrev pub sweep_answer : Node → NodeAnswer
sweep_answer x = needing (is_free x) x (Ok tt)

-- "9: lock of a node at L0 or L1"
abbrev pub lock_answer : Node → NodeAnswer
lock_answer x = refusing (is_l0 x.lmode || is_l1 x.lmode) Locked (Ok tt)

-- "10: a rebuild call after Lock meets a needed node not held by c": tighten, write, settle and unlock
abbrev pub held_answer : ℕ → Node → NodeAnswer
held_answer c x = refusing (not (held_by c x)) NotHeld (Ok tt)

-- "Weaken c: needs all n held, none RECONS": "3: weaken with a RECONS node"
abbrev pub weaken_answer : ℕ → Node → NodeAnswer
weaken_answer c x = refusing (is_recons x.opmode) OutOfPhase (held_answer c x)

-- C-12: a tick needs no mode, but a record within the limits: "up to 16 entries"
abbrev pub tick_answer : Node → NodeAnswer
tick_answer x = refusing (ltb entry_limit (length x.entries)) OutOfLimits (Ok tt)

-- "if the own id isn't recent at j .. (INIT). Else if there is no previous id, or it isn't recent there .. (GC). Else NoChange"
abbrev pub check_answer : Write → Node → CheckAnswer
check_answer w x =
    cond (not (is_recent_in w.id x.entries)) Init (cond (previous_recent w.previous x.entries) NoChange Gc)

-- what a call leaves of the record `before`: accepted, one that is seen as `after`; a refusal hands back the very record
abbrev pub LeftAtNode : NodeAnswer → Node → NodeRecord → NodeRecord → Type 0
LeftAtNode (Ok tt) after before r = node_of r ≡ after
LeftAtNode (Err why) after before r = r ≡ before

pub record MeetsAtNode (answer : NodeAnswer) (after : Node) (before : NodeRecord) (r : NodeStep) : Type 0 where
  pub answered : r.answer ≡ answer
  pub left : LeftAtNode r.answer after before r.node
