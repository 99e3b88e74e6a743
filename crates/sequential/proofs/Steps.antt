-- Each accepted call keeps the invariant.
pub mod Activate
pub mod Give
pub mod Serve
pub mod Write
pub mod Take
