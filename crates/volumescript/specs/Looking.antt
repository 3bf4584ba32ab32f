-- The stripe whose records are printed, by the line; and its pick: the stripe, and the client that picks. Assumes nothing.
use Rattle.std.specs.Prelude.{cond, None, Option, Some, ℕ, eqb}
use Rattle.calls.specs.declared.Call.{Call}
use Rattle.calls.specs.declared.Call.TheVariants.{Read, Pick, Step}
use Rattle.volumescript.specs.declared.reader.VolumeLine.{VolumeLine}
use Rattle.volumescript.specs.declared.reader.VolumeLine.TheVariants.{Unreadable, One, Each, ReadBlock, SwapBlock, Show}

-- the client that picks, 0 if the call is no pick
abbrev pub picker_of : Call → ℕ
picker_of (Read i) = 0
picker_of (Pick c) = c
picker_of (Step step) = 0

-- the stripe whose nodes are printed, and that whose clients are, or one of them: that which picks
abbrev pub nodes_looked : VolumeLine → Option ℕ
nodes_looked Unreadable = None
nodes_looked (One s call count) = None
nodes_looked (Each call count) = None
nodes_looked (ReadBlock b) = None
nodes_looked (SwapBlock c b count) = None
nodes_looked (Show s) = Some s

abbrev pub clients_looked : VolumeLine → Option ℕ
clients_looked Unreadable = None
clients_looked (One s call count) = cond (eqb (picker_of call) 0) None (Some s)
clients_looked (Each call count) = None
clients_looked (ReadBlock b) = None
clients_looked (SwapBlock c b count) = None
clients_looked (Show s) = Some s

abbrev pub pick_in : VolumeLine → Option (ℕ × ℕ)
pick_in Unreadable = None
pick_in (One s (Read i) count) = None
pick_in (One s (Pick c) count) = Some (s, c)
pick_in (One s (Step step) count) = None
pick_in (Each call count) = None
pick_in (ReadBlock b) = None
pick_in (SwapBlock c b count) = None
pick_in (Show s) = None
