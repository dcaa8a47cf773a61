-- What the proofs of several functions use.
pub mod Texts
pub mod Nodes
pub mod Members
pub mod Payloads
pub mod Rules
