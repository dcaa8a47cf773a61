-- What the proofs of several functions use, and those of `boundaries`.
mod Rules
pub mod Parts
mod Triples
