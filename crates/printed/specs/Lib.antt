-- The printed run, in the order of document 01.
pub mod Words
pub mod Files
pub mod Written
pub mod Text
pub mod Cases
pub mod Played
pub mod Outcome
pub mod Internal
