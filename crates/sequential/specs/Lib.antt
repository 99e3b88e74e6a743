-- Demand 3: lists of calls, the plain run, and what is said of both, in the order of document 01.
pub mod Calls
pub mod Answers
pub mod Plain
pub mod Demand3
pub mod Records
pub mod RunsExist
pub mod RunsOnParts
pub mod EmptyGroups
