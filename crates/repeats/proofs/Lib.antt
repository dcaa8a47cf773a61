-- What the proofs of several functions use.
mod Passes
mod Links
mod Entries
mod Rule6
