-- Where loaded words come from, in the plain run and from the queue, and when a load waits.
pub mod Origins
pub mod Exactly
pub mod Records
