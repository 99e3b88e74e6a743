-- How an order of accesses becomes a group of a table.
pub mod Grouping
pub mod Internal
