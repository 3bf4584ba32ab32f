-- Document 01, "Writing": "Client c stops", as one of a client's calls that name nothing else. Assumes nothing.
use Rattle.std.specs.Prelude.{Bool, true, false}
use Rattle.records.specs.declared.ClientCall.{ClientCall}
use Rattle.records.specs.declared.ClientCall.TheVariants.{Drop, Sweep, Stop, Lock, Weaken, Tighten, Write, Settle, Unlock, Quit}

abbrev pub is_stop : ClientCall → Bool
is_stop Drop = false
is_stop Sweep = false
is_stop Stop = true
is_stop Lock = false
is_stop Weaken = false
is_stop Tighten = false
is_stop Write = false
is_stop Settle = false
is_stop Unlock = false
is_stop Quit = false
