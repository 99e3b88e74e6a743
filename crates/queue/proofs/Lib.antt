-- the definitions that rules are written with
pub mod Lists
pub mod Serials
pub mod Refusals
-- calls that were accepted
pub mod Accepted
-- what a record holds
pub mod ContentsLaws
-- entries and the numbers that hold them
pub mod EntryLaws
-- walks over groups and over a side's entries
pub mod WalkLaws
pub mod SoundLaws
pub mod PartsLaws
pub mod GroupLaws
pub mod AppendLaws
pub mod ActivateLaws
pub mod EmptyGroups
pub mod ArgumentLaws
pub mod SourceLaws
pub mod RetireLaws
pub mod ServeLaws
pub mod WriteLaws
pub mod TakeLaws
pub mod ReadyLaws
pub mod Exactly
