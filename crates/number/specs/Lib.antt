-- What the crate's contracts mean, in the order of document 01.
pub mod Basics
pub mod Refusal
pub mod Reply
pub mod Number
pub mod Texts
pub mod Internal
