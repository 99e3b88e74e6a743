-- what a share is
pub mod Shares
