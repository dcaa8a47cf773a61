-- What the proofs of several functions use, and those of the crates `scalars` and `parser`.
pub mod Bytes
mod EightBytes
pub mod Moves
pub mod Parts
pub mod Rules
