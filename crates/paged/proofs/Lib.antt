-- Laws that the functions' proofs cite, and the proof that a replay's record is that of a list of calls.
pub mod BufferLaws
pub mod TextLaws
pub mod Recorded
pub mod RunsShow
