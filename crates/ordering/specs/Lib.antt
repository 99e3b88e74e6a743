-- A group's order from pairs "must come before": S-6 of document 02.
pub mod Orders
pub mod Answer
pub mod Theorems
pub mod Records
pub mod Internal
