-- What callers from C and Rust are promised of live calls on a queue's parts, of the shift record and its page, and of
-- tables, events and numbers as bytes.
pub mod Calls
pub mod Bytes
pub mod Internal
