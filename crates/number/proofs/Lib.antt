-- Laws that the functions' proofs cite, one file a topic.
pub mod Both
pub mod AllLaws
pub mod HeldLaws
pub mod ReplyLaws
pub mod Lengths
pub mod NumberLaws
pub mod SpliceLaws
pub mod PutLaws
pub mod RoundTrip
pub mod AnswerLaws
