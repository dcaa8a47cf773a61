-- What the proofs of several functions use.
mod Looks
mod Steps
mod Rows
mod Rules
