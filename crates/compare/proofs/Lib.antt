-- What the proofs of several functions use.
mod Loops
mod Scans
mod Rules
