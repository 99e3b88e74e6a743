-- What the crate's contracts mean, in the order of document 01.
pub mod Event
pub mod Trace
pub mod RoundTrip
pub mod NumbersFirst
