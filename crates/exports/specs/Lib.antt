-- What callers from C and Rust are promised: tables, traces and replays as bytes and numbers.
pub mod Prepared
pub mod Replay
pub mod Text
