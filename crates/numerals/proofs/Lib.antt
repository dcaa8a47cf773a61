-- What the proofs of several functions use.
mod Bytes
mod Short
mod Wholes
mod Powers
mod Sums
mod Pairs
pub mod Examples
pub mod Laws
pub mod Values
pub mod Parts
