-- Laws that the functions' proofs cite, and the theorems.
pub mod CountLaws
pub mod Orders
pub mod Cases
