-- Laws that the functions' proofs cite.
pub mod PreparedLaws
pub mod ReplayLaws
pub mod RecordLaws
