-- What the proofs of several functions use, and those of `schema`.
pub mod Lines
pub mod Strings
mod Elements
mod GeometryLaws
mod Orders
