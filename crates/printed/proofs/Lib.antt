pub mod CasesHold
-- laws that the functions' proofs cite
pub mod LineLaws
pub mod PlayedLaws
pub mod FilesLaws
pub mod TextLaws
pub mod TextFits
pub mod FilesWritten
