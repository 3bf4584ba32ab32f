-- lists of entries, sets of nodes
pub mod EntryLaws
pub mod Sets
-- the invariant, on a stripe as columns, with the history as a ledger
pub mod Columns
pub mod Ledger
pub mod Invariant
pub mod Frame
pub mod Progress
pub mod Entering
pub mod Phases
pub mod Writing
pub mod Rebuild
pub mod Failure
pub mod Aging
pub mod Start
-- records and tables seen as columns
pub mod Bytes
pub mod View
pub mod Tables
pub mod CodeLaws
pub mod Elements
pub mod Relocks
-- the set that a pick takes
pub mod Largest
pub mod Candidates
-- the cases of a read
pub mod Reading
-- the machine's calls keep the invariant
pub mod Tests
pub mod Kept
pub mod InPhase
pub mod KeptStart
pub mod KeptWriting
pub mod KeptReading
pub mod KeptRebuild
pub mod KeptFailure
pub mod KeptAging
pub mod Refusals
pub mod Outside
-- C-12
pub mod Ages
-- lists of calls
pub mod Told
pub mod Rooted
pub mod Theorem
pub mod Starred
pub mod Witness
