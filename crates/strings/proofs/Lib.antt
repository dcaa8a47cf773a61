-- What the proofs of several functions use.
mod Bytes
mod Pieces
mod Escapes
mod Steps
mod Loops
mod Scans
mod Rules
pub mod Characters
pub mod Examples
