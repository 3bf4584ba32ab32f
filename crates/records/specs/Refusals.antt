-- Document 01, "Numbers of the answers": for each refusal its row of the table. Assumes nothing.
use Rattle.std.specs.Prelude.{Bool, ◌||◌, ℕ, eqb}
use Rattle.records.specs.declared.Refusal.{Refusal}
use Rattle.records.specs.declared.Refusal.TheVariants.{OutOfLimits, OutOfRange, OutOfPhase, WrongMode, OldEpoch, BeforePrevious, Full}
use Rattle.records.specs.declared.Refusal.TheVariants.{Exhausted, Locked, NotHeld, TooFew, NoInverse}
use Rattle.records.specs.declared.Returned.{Returned}
use Rattle.records.specs.declared.Returned.TheVariants.{Nothing, Modes, NodeEpoch, PreviousId, SetSize}

-- the columns "No." and "Returned with it"
pub record Row : Type 0 where
  pub number : ℕ
  pub returned : Returned

abbrev pub row_of : Refusal → Row
-- "none | 1 | size, record or buffer length outside the limits; unreadable program line"
row_of OutOfLimits = record { number = 1; returned = Nothing }
-- "none | 2 | client, node or position out of range; add at a data node"
row_of OutOfRange = record { number = 2; returned = Nothing }
-- "none | 3 | swap with a write in hand or a round begun; .. rebuild call out of its phase; .. quit with no rebuild"
row_of OutOfPhase = record { number = 3; returned = Nothing }
-- "opmode, lmode | 4 | read, swap, add or sweep: the needs on modes are not met"
row_of (WrongMode opmode lmode) = record { number = 4; returned = Modes opmode lmode }
-- "node epoch | 5 | add with an older epoch"
row_of (OldEpoch epoch) = record { number = 5; returned = NodeEpoch epoch }
-- "previous id | 6 | add before the previous write"
row_of (BeforePrevious id) = record { number = 6; returned = PreviousId id }
-- "none | 7 | swap or add at a node with 16 entries; swap with 8 finished ids"
row_of Full = record { number = 7; returned = Nothing }
-- "none | 8 | swap after 1,000,000 writes of c; pick when the largest epoch is 1,000,000"
row_of Exhausted = record { number = 8; returned = Nothing }
-- "none | 9 | lock of a node at L0 or L1"
row_of Locked = record { number = 9; returned = Nothing }
-- "none | 10 | a rebuild call after Lock meets a needed node not held by c"
row_of NotHeld = record { number = 10; returned = Nothing }
-- "size of the largest set, or of the one set if a node is RECONS .. | 11 | that set is too small"
row_of (TooFew size) = record { number = 11; returned = SetSize size }
-- "none | 12 | the k chosen rows have no inverse"
row_of NoInverse = record { number = 12; returned = Nothing }

abbrev pub number_of : Refusal → ℕ
number_of why = (row_of why).number

abbrev pub returned_with : Refusal → Returned
returned_with why = (row_of why).returned

-- the column "Left": 9 and 10 end a rebuild, every other refusal leaves all unchanged
abbrev pub changes : Refusal → Bool
changes why = eqb (number_of why) 9 || eqb (number_of why) 10
