-- What the proofs of several functions use.
pub mod Any
pub mod Passes
mod Rule5
mod Hashes
pub mod Examples
