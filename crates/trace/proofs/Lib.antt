-- Laws that the functions' proofs cite, one file a topic.
pub mod TraceLaws
pub mod RoundTrip
pub mod NumbersFirst
pub mod Traces
pub mod TraceSteps
pub mod Among
