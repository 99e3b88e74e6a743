-- Laws that the functions' proofs cite, one file a topic, and the proofs of the statements about pages and about whole lists.
pub mod RecordLaws
pub mod DigitLaws
pub mod PageLaws
pub mod Lists
pub mod Pages
