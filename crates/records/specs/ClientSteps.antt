-- What the methods of a client's record name beside document 01's definitions. Assumes nothing.
use Rattle.std.specs.Prelude.{Bool, ◌&&◌, [], ◌*◌, leb, ltb, length, None}
use Rattle.entries.specs.declared.WriteNumber.{WriteNumber}
use Rattle.entries.specs.Entries.{finished_limit, write_limit, ids_within}
use Rattle.records.specs.declared.Sizes.{Sizes}
use Rattle.records.specs.Client.{Client, NoRebuild}

-- a client with nothing in hand, no rebuild and empty lists: fresh its next write is 0, stopped "its write number stays"
abbrev pub idle_client : WriteNumber → Client
idle_client next = record { hand = None; rebuild = NoRebuild; finished = []; moved = []; round = 0; next = next }

-- the limits of all but the hand and the rebuild
abbrev pub lists_within : Sizes → Client → Bool
lists_within z x =
    (leb (length x.finished) finished_limit && ids_within z.k z.m x.finished) &&
    ((leb (length x.moved) finished_limit && ids_within z.k z.m x.moved) && (ltb x.round (2 * z.n) && leb x.next.0 write_limit))
