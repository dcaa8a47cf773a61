-- What the proofs of several functions use.
mod Types
mod Filling
mod Orders
