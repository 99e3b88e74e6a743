-- What the crate's contracts mean, in the order of document 01.
pub mod Packed
pub mod Group
pub mod Table
pub mod TableBytes
pub mod RightTables
pub mod RoundTrip
pub mod NumbersFirst
pub mod EmptyGroups
pub mod Internal
