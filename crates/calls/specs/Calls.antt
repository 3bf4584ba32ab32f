-- How the calls of the code are seen as those of document 01, and what each of them is lent. Assumes nothing.
use Rattle.std.specs.Prelude.{Bool, true, false, List, ℕ}
use Rattle.machine.specs.Calls as Machine
use Rattle.machine.specs.Writing.{sweep_node}
use Rattle.records.specs.declared.Sizes.{Sizes}
use Rattle.records.specs.declared.ClientCall.{ClientCall}
use Rattle.records.specs.declared.ClientCall.TheVariants.{Drop, Sweep, Stop, Lock, Weaken, Tighten, Write, Settle, Unlock, Quit}
use Rattle.records.specs.Client.{Client, next_node}
use Rattle.calls.specs.declared.Call.{Call}
use Rattle.calls.specs.declared.Call.TheVariants.{Read, Pick, Step}
use Rattle.calls.specs.declared.StepCall.{StepCall}
use Rattle.calls.specs.declared.StepCall.TheVariants.{Swap, Fail, Due, Tick, At, By}

-- the bytes of a swap or a failure are beside the call
abbrev pub step_of : StepCall → List ℕ → Machine.Call
step_of (Swap c i) value = Machine.Swap c i value
step_of (Fail j) value = Machine.Fail j value
step_of (Due j) value = Machine.Due j
step_of Tick value = Machine.Tick
step_of (At op c j) value = Machine.At op c j
step_of (By op c) value = Machine.By op c

abbrev pub call_of : Call → List ℕ → Machine.Call
call_of (Read i) value = Machine.Read i
call_of (Pick c) value = Machine.Pick c
call_of (Step call) value = step_of call value

-- the client of a call, 0 if it has none
abbrev pub caller : StepCall → ℕ
caller (Swap c i) = c
caller (Fail j) = 0
caller (Due j) = 0
caller Tick = 0
caller (At op c j) = c
caller (By op c) = c

-- the node that a call of a client alone is at: a sweep's by the round, none a drop's, the others' that of the rebuild
abbrev pub target_by : ClientCall → Sizes → Client → ℕ
target_by Drop z x = 0
target_by Sweep z x = sweep_node z x
target_by Stop z x = next_node x.rebuild
target_by Lock z x = next_node x.rebuild
target_by Weaken z x = next_node x.rebuild
target_by Tighten z x = next_node x.rebuild
target_by Write z x = next_node x.rebuild
target_by Settle z x = next_node x.rebuild
target_by Unlock z x = next_node x.rebuild
target_by Quit z x = next_node x.rebuild

-- the node that a call is at, by the record of its client; a tick is at none
abbrev pub target : Sizes → StepCall → Client → ℕ
target z (Swap c i) x = i
target z (Fail j) x = j
target z (Due j) x = j
target z Tick x = 0
target z (At op c j) x = j
target z (By op c) x = target_by op z x

-- the calls on the whole stripe, which look at the records of all nodes
abbrev pub looks_by : ClientCall → Bool
looks_by Drop = false
looks_by Sweep = false
looks_by Stop = true
looks_by Lock = true
looks_by Weaken = true
looks_by Tighten = true
looks_by Write = true
looks_by Settle = true
looks_by Unlock = true
looks_by Quit = true

abbrev pub looks_at_all : StepCall → Bool
looks_at_all (Swap c i) = false
looks_at_all (Fail j) = false
looks_at_all (Due j) = false
looks_at_all Tick = true
looks_at_all (At op c j) = false
looks_at_all (By op c) = looks_by op
