-- The shift page, in the order of S-1 of document 02.
pub mod Record
pub mod Page
pub mod Outcome
pub mod Lists
