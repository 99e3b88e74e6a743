-- The shift page of a trace.
pub mod Recorded
pub mod Text
pub mod Internal
