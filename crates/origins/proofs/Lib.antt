-- the plain run up to an access
pub mod Past
-- what an origin is
pub mod Words
pub mod Last
-- one load and two fillings
pub mod Fillings
pub mod Lists
pub mod Loaded
-- what is said of serves
pub mod Answers
pub mod Numbers
pub mod Exactly
pub mod Given
pub mod Records
