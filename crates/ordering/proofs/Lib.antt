-- Orders and circles.
pub mod Tests
pub mod Circles
pub mod Arranged
pub mod Theorem
-- The records, and the code.
pub mod RecordLaws
pub mod ReadBack
pub mod Loops
-- Closed cases.
pub mod Cases
