-- Document 01: the calls, and the machine's step. Change request C-12: the tick. Assumes nothing.
use Rattle.std.specs.Prelude.{false, List, ◌≡◌, ℕ}
use Rattle.records.specs.declared.Sizes.{Sizes}
use Rattle.records.specs.declared.NodeCall.{NodeCall}
use Rattle.records.specs.declared.NodeCall.TheVariants.{Add, Check}
use Rattle.records.specs.declared.ClientCall.{ClientCall}
use Rattle.records.specs.declared.ClientCall.TheVariants.{Drop, Sweep, Stop, Lock, Weaken, Tighten, Write, Settle, Unlock, Quit}
use Rattle.records.specs.declared.Refusal.{Refusal}
use Rattle.records.specs.Refusals.{changes}
use Rattle.machine.specs.Stripe.{Stripe, Refused, Outcome, Local, client_at, on_node, on_whole}
use Rattle.machine.specs.Writing as Writing
use Rattle.machine.specs.Reading as Reading
use Rattle.machine.specs.Rebuild as Rebuild
use Rattle.machine.specs.Failure as Failure
use Rattle.machine.specs.Aging as Aging

-- c is a client, i a position, j a node, value the B bytes of a swap or a failure: any numbers and any bytes. NodeCall and ClientCall are the code's
-- own (crates/records/src/lib.rt)
pub data Call : Type 0 where
  Read : ℕ → Call
  Pick : ℕ → Call
  Swap : ℕ → ℕ → List ℕ → Call
  Fail : ℕ → List ℕ → Call
  Due : ℕ → Call
  Tick : Call
  -- a client's add or check at a node
  At : NodeCall → ℕ → ℕ → Call
  -- a client's other calls
  By : ClientCall → ℕ → Call

-- the calls by their names
abbrev pub read : ℕ → Call
read i = Read i

abbrev pub swap : ℕ → ℕ → List ℕ → Call
swap c i value = Swap c i value

abbrev pub add : ℕ → ℕ → Call
add c j = At Add c j

abbrev pub check : ℕ → ℕ → Call
check c j = At Check c j

abbrev pub drop : ℕ → Call
drop c = By Drop c

abbrev pub sweep : ℕ → Call
sweep c = By Sweep c

abbrev pub lock : ℕ → Call
lock c = By Lock c

abbrev pub pick : ℕ → Call
pick c = Pick c

abbrev pub weaken : ℕ → Call
weaken c = By Weaken c

abbrev pub tighten : ℕ → Call
tighten c = By Tighten c

abbrev pub write : ℕ → Call
write c = By Write c

abbrev pub settle : ℕ → Call
settle c = By Settle c

abbrev pub unlock : ℕ → Call
unlock c = By Unlock c

abbrev pub quit : ℕ → Call
quit c = By Quit c

abbrev pub stop : ℕ → Call
stop c = By Stop c

abbrev pub fail : ℕ → List ℕ → Call
fail j value = Fail j value

abbrev pub due : ℕ → Call
due j = Due j

abbrev pub tick : Call
tick = Tick

-- a call is handed the sizes, and of the stripe what it touches: node j's record and client c's, or all node records and client c's; a read is at no
-- client, and touches nothing
abbrev pub step_at : NodeCall → Sizes → ℕ → ℕ → Local → Outcome Local
step_at Add z c j l = Writing.add z c j l
step_at Check z c j l = Writing.check z c j l

abbrev pub step_by : ClientCall → Sizes → ℕ → Stripe → Outcome Stripe
step_by Drop z c s = on_node 0 c (Writing.drop z c) s
step_by Sweep z c s = on_node (Writing.sweep_node z (client_at s.clients c)) c (Writing.sweep z c) s
step_by Stop z c s = on_whole c (Failure.stop z c) s
step_by Lock z c s = on_whole c (Rebuild.lock z c) s
step_by Weaken z c s = on_whole c (Rebuild.weaken z c) s
step_by Tighten z c s = on_whole c (Rebuild.tighten z c) s
step_by Write z c s = on_whole c (Rebuild.write z c) s
step_by Settle z c s = on_whole c (Rebuild.settle z c) s
step_by Unlock z c s = on_whole c (Rebuild.unlock z c) s
step_by Quit z c s = on_whole c (Rebuild.quit z c) s

unfoldable pub step : Sizes → Call → Stripe → Outcome Stripe
step z (Read i) s = Reading.read z i s
step z (Pick c) s = on_whole c (Rebuild.pick z c) s
step z (Swap c i value) s = on_node i c (Writing.swap z c i value) s
step z (Fail j value) s = on_node j 0 (Failure.fail z j value) s
step z (Due j) s = on_node j 0 (Aging.due z j) s
step z Tick s = on_whole 0 (Aging.tick z) s
step z (At op c j) s = on_node j c (step_at op z c j) s
step z (By op c) s = step_by op z c s

-- "Left: unchanged": a refusal but 9 and 10 leaves the stripe as it was, whatever sizes the call is handed. Proved in proofs/Refusals
abbrev pub RefusedUnchanged : Type 0
RefusedUnchanged =
    (z : Sizes) (call : Call) (s : Stripe) (why : Refusal) → (step z call s).answer ≡ Refused why → changes why ≡ false → (step z call s).after ≡ s
