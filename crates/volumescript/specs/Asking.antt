-- What a line asks of the volume. Assumes nothing.
use Rattle.std.specs.Prelude.{Bool, true, false, ℕ}
use Rattle.calls.specs.declared.Call as call
use Rattle.calls.specs.declared.Call.TheVariants as Calls
use Rattle.calls.specs.declared.StepCall.TheVariants.{Swap}
use Rattle.layout.specs.Layout.{home_of}
use Rattle.routing.specs.declared.ReadRequest.{ReadRequest}
use Rattle.routing.specs.declared.Request.{Request}
use Rattle.routing.specs.declared.VolumeCall.TheVariants.{Pick, Step}
use Rattle.tables.specs.declared.Volume.{Volume}
use Rattle.volumescript.specs.declared.reader.VolumeLine.{VolumeLine}
use Rattle.volumescript.specs.declared.reader.VolumeLine.TheVariants.{Unreadable, One, Each, ReadBlock, SwapBlock, Show}

-- whether a line is a read, and whether it is another call
abbrev pub is_read : VolumeLine → Bool
is_read Unreadable = false
is_read (One s (Calls.Read i) count) = true
is_read (One s (Calls.Pick c) count) = false
is_read (One s (Calls.Step step) count) = false
is_read (Each call count) = false
is_read (ReadBlock b) = true
is_read (SwapBlock c b count) = false
is_read (Show s) = false

abbrev pub is_call : VolumeLine → Bool
is_call Unreadable = false
is_call (One s (Calls.Read i) count) = false
is_call (One s (Calls.Pick c) count) = true
is_call (One s (Calls.Step step) count) = true
is_call (Each (Calls.Read i) count) = false
is_call (Each (Calls.Pick c) count) = true
is_call (Each (Calls.Step step) count) = true
is_call (ReadBlock b) = false
is_call (SwapBlock c b count) = true
is_call (Show s) = false

-- the call, and the read. A line that is none asks for one that every volume refuses

abbrev pub no_volume : Volume
no_volume = record { stripes = 0; z = record { k = 0; n = 0; b = 0; failures = 0; m = 0 } }

abbrev pub no_call : Request
no_call = record { volume = no_volume; stripe = 0; call = Pick 0 }

abbrev pub no_read : ReadRequest
no_read = record { volume = no_volume; stripe = 0; i = 0 }

abbrev pub call_on : Volume → ℕ → call.Call → Request
call_on v s (Calls.Read i) = no_call
call_on v s (Calls.Pick c) = record { volume = v; stripe = s; call = Pick c }
call_on v s (Calls.Step step) = record { volume = v; stripe = s; call = Step step }

abbrev pub swap_on : Volume → ℕ → ℕ → Request
swap_on v c b = record { volume = v; stripe = (home_of v.z.k b).stripe; call = Step (Swap c (home_of v.z.k b).position) }

abbrev pub read_on : Volume → ℕ → call.Call → ReadRequest
read_on v s (Calls.Read i) = record { volume = v; stripe = s; i = i }
read_on v s (Calls.Pick c) = no_read
read_on v s (Calls.Step step) = no_read

abbrev pub read_block_on : Volume → ℕ → ReadRequest
read_block_on v b = record { volume = v; stripe = (home_of v.z.k b).stripe; i = (home_of v.z.k b).position }

abbrev pub call_in : VolumeLine → Volume → Request
call_in Unreadable v = no_call
call_in (One s call count) v = call_on v s call
call_in (Each call count) v = call_on v 0 call
call_in (ReadBlock b) v = no_call
call_in (SwapBlock c b count) v = swap_on v c b
call_in (Show s) v = no_call

abbrev pub read_in : VolumeLine → Volume → ReadRequest
read_in Unreadable v = no_read
read_in (One s call count) v = read_on v s call
read_in (Each call count) v = no_read
read_in (ReadBlock b) v = read_block_on v b
read_in (SwapBlock c b count) v = no_read
read_in (Show s) v = no_read

-- how many bytes are given with the call
abbrev pub count_in : VolumeLine → ℕ
count_in Unreadable = 0
count_in (One s call count) = count
count_in (Each call count) = count
count_in (ReadBlock b) = 0
count_in (SwapBlock c b count) = count
count_in (Show s) = 0
