-- Tables made by hand.
pub mod Parts
