-- What the proofs of several functions use.
pub mod Members
pub mod Payloads
pub mod LinkRows
pub mod Whole
pub mod Rules
