-- What the calls of the queue mean, in the order of document 01.
pub mod Entry
pub mod Contents
pub mod Touch
pub mod Sound
pub mod Open
pub mod Activate
pub mod Arguments
pub mod Serve
pub mod Write
pub mod Take
pub mod Retire
pub mod Ready
pub mod Outcome
pub mod EmptyGroups
pub mod Parts
pub mod Internal
