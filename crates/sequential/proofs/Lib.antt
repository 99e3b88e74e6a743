-- demand 3, from the ground up
pub mod Log
pub mod Window
-- one cell: the invariant, and that every move keeps it
pub mod EachLaws
pub mod Cells
pub mod CellInvariant
pub mod CellMemory
pub mod CellMoves
pub mod AtOnce
-- every cell of the log
pub mod Lanes
pub mod Views
pub mod CellLog
pub mod Rows
pub mod Invariant
pub mod Anew
pub mod PlainRun
pub mod ArgumentLaws
pub mod Accepted
pub mod Steps
pub mod Run
pub mod Serials
pub mod ReachedSound
pub mod Progress
pub mod Demand3
pub mod RecordsDemand3
-- there is a run of records
pub mod Stored
pub mod Fits
pub mod RunsExist
-- lists of calls on parts
pub mod RunsOnParts
-- empty groups
pub mod EmptyGroups

-- where the plain run's words come from
