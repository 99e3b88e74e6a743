-- What the counts and their share mean: document 01, and S-3 of document 02.
pub mod Counts
pub mod Shares
